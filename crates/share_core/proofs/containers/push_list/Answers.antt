use Rattle.std.proofs.Common.{◌++◌, ◌∷◌, [], refl, sym, ap, ◌∙◌, append-nil}
use Rattle.std.specs.Option.{option_to_list}
use Rattle.share_history.specs.Histories.{all_edits}
use Rattle.share_core.proofs.ListNames.{base_is_no_list, entry_told, no_entry}
use Rattle.share_history.specs.Histories.{batches}
use Rattle.share_history.specs.LastSaid.{list_at}
use Rattle.share_core.proofs.Results.{on_ok}
use Rattle.share_core.proofs.containers.push_list.Goals as goal

pub returns-then-id-eq-BASE_LIST : goal.returns-then-id-eq-BASE_LIST
returns-then-id-eq-BASE_LIST c = λ h held.
    sym (ap (λ o. c.args.tags.now ++ option_to_list o) (base_is_no_list (all_edits h) c.args.id held.stand.lists.valid c.if-id-eq-BASE_LIST.true) ∙ append-nil c.args.tags.now)

pub returns-in_ok-list_entry-in-Some : goal.returns-in_ok-list_entry-in-Some
returns-in_ok-list_entry-in-Some c =
    let old = c.args.tags.now in
    on_ok c.push.result
    (λ pushed h held.
    pushed ∙ (λ i. old ++ c.in_ok-list_entry-in-Some.ensures i ∷ [])
    ∙ ap (λ o. old ++ option_to_list o)
    (entry_told (all_edits h) c.args.id _ c.in_ok-count-in-Some.count (list_at (all_edits h) c.args.id) refl (c.in-Some.ensures (batches h) held.stand.lists) (c.in_ok-count-in-Some.ensures h held)))
    c.push.ensures.ok

pub returns-in-None : goal.returns-in-None
returns-in-None c = λ h held.
    sym (ap (λ o. c.args.tags.now ++ option_to_list o) (no_entry (all_edits h) c.args.id (list_at (all_edits h) c.args.id) refl (c.in-None.ensures (batches h) held.stand.lists)) ∙ append-nil c.args.tags.now)
