-- One id more was taken out.
use Rattle.std.proofs.Common.{◌+◌, ◌<◌, fold, drop, length, rules, ap, ◌∙◌}
use Rattle.share_history.specs.Keyed.{taken_out}
use Rattle.relayed_rows.proofs.PutFacts.{folded_next}
use Rattle.relayed_rows.proofs.puts.take_out.Goals as goal

pub loop-id-preserved : goal.loop-id-preserved
loop-id-preserved c =
    let ids = c.args.ids.now in
    let i = c.loop-id.id-index in
    let within : i < length ids = search rules in
    ap (λ held. fold taken_out held (drop (i + 1) ids)) c.remove.ensures.entries
    ∙ folded_next taken_out c.loop-id.held.entries ids i 0 within
    ∙ c.loop-id.invariant
