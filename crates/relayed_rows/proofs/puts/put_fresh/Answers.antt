-- What was put is taken back.
use Rattle.std.proofs.Common.{fold, ap, ◌∙◌}
use Rattle.std.specs.Map.{keys_of}
use Rattle.share_history.specs.Keyed.{taken_out}
use Rattle.relayed_rows.proofs.PutFacts.{taken_back}
use Rattle.relayed_rows.proofs.puts.put_fresh.Goals as goal

pub returns-in-Err-clause-unchanged : goal.returns-in-Err-clause-unchanged
returns-in-Err-clause-unchanged c =
    c.take_back.ensures
    ∙ ap (λ held. fold taken_out held (keys_of c.args.rows.now)) (c.in-Err.ensures.unchanged ∙ c.loop-id.invariant)
    ∙ taken_back c.args.held.now.entries c.args.rows.now c.loop-id.id-index c.requires
