-- One more byte is read, until none is left.
use Rattle.dmap_show.proofs.Remaining.{read_on, read_end}
use Rattle.std.proofs.Common.{refl}
use Rattle.dmap_show.proofs.spelled.unshown.Goals as goal

pub loop-byte-preserved : goal.loop-byte-preserved
loop-byte-preserved c = λ all are e.
    let more = read_on c.args.form all _ c.loop-byte.left.now c.in-Some.rest.now c.in-Some.byte c.in-Some.ensures.shown c.in-Some.ensures.shorter (c.loop-byte.invariant all are e) in
    rw c.in_ok-push.ensures.items more

pub returns : goal.returns
returns c = λ all are e. read_end c.args.form all _ c.loop-byte.left.now (λ b more f. c.in_default.ensures.there b more f refl) (c.loop-byte.invariant all are e)
