use Rattle.std.proofs.Common.{refl}
use Rattle.song_query.proofs.Digits.{all_digits, too_large_at}
use Rattle.song_query.proofs.matching.number.Goals as goal

pub returns-in-None : goal.returns-in-None
returns-in-None c = too_large_at _ _ _ _ c.loop-digit-test.true refl c.in-None.ensures c.loop-digit.invariant.number

pub returns : goal.returns
returns c =
    all_digits _ _ _ c.loop-digit-test.false c.if-is_empty.ensures c.loop-digit.invariant.fits c.loop-digit.invariant.digits c.loop-digit.invariant.number
