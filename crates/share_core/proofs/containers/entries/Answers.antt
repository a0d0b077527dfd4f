use Rattle.std.proofs.Common.{◌≡◌, List, ℕ, get_or, ◌∙◌, rules}
use Rattle.share_history.specs.Histories.{all_edits, batches}
use Rattle.share_core.proofs.ListNames.{entries_begin, entries_left, entries_end}
use Rattle.share_core.proofs.containers.entries.Goals as goal

pub loop-id-init : goal.loop-id-init
loop-id-init c = λ h held.
    let same : c.deref-id-items.result.now ≡ c.in_ok-ids.ids.items = search rules in
    entries_begin (all_edits h) c.args.name.now c.push.new.self _ c.in_ok-first.first c.deref-id-items.result.now c.in_ok-push.ensures.ok c.new-tags.ensures (c.in_ok-first.ensures h held)
    (same ∙ c.in_ok-ids.ensures (batches h) held.stand.lists)

pub loop-id-preserved : goal.loop-id-preserved
loop-id-preserved c = λ h held.
    let ids = c.deref-id-items.result.now in
    let id = get_or ids c.loop-id.id-index 0 in
    entries_left (all_edits h) c.loop-id.tags c.push_list.new.tags ids c.loop-id.id-index id (search rules) (search rules) (c.in_ok-push_list.ensures h held) ∙ c.loop-id.invariant h held

pub returns : goal.returns
returns c = λ h held. entries_end (all_edits h) c.loop-id.tags _ c.deref-id-items.result.now c.loop-id.id-index (search rules) (c.loop-id.invariant h held)
