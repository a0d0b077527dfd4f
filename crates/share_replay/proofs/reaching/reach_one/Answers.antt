use Rattle.std.proofs.Common.{sym, subst}
use Rattle.std.proofs.KnownBytes.{Appends-nil}
use Rattle.std.specs.Io.KnownBytes.{Appends}
use Rattle.share_replay.specs.Ends.{end_line}
use Rattle.share_replay.specs.Machine.{number_of, told_at_once}
use Rattle.share_replay.specs.declared.delivery.Delivery.{Delivery}
use Rattle.share_replay.proofs.reaching.reach_one.Goals as goal

pub returns-in-Ok-clause-told : goal.returns-in-Ok-clause-told
returns-in-Ok-clause-told g c =
    let t = g.W.Sink.taken c.args.sink.now in
    subst (λ (l : Delivery). Appends t t (end_line (number_of l) (told_at_once l c.args.slot.now))) (sym c.in-Open.is) (Appends-nil t)
