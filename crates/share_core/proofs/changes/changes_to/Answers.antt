use Rattle.std.proofs.Common.{◌+◌, ◌++◌, map, drop, ap, ◌∙◌, rules}
use Rattle.share_history.specs.Histories.{edits}
use Rattle.share_history.proofs.FoldFacts.{shown_next}
use Rattle.share_core.specs.Turned.{change_to}
use Rattle.share_core.proofs.changes.changes_to.Goals as goal

pub loop-row-preserved : goal.loop-row-preserved
loop-row-preserved c = record {
  changes = λ bs stands.
      let before = c.args.before.now in
      let i = c.loop-row.row-index in
      ap (λ l. l ++ map (change_to (edits bs)) (drop (i + 1) before)) (c.in_ok-push_change.ensures.changes bs stands)
      ∙ shown_next (change_to (edits bs)) c.loop-row.changes.items before i c.row-item.result (search rules) c.row-item.is ∙ c.loop-row.invariant.changes bs stands;
  short = c.in_ok-push_change.ensures.short c.loop-row.invariant.short;
}
