-- By computing.
use Rattle.std.proofs.Common.{refl}
use Rattle.std.specs.Fmt.{digits}
use Rattle.share_replay.proofs.laws.lines_by_the_byte.Goals as goal

pub returns : goal.returns
unfolding digits
returns c = (refl, refl, refl, refl, refl)
