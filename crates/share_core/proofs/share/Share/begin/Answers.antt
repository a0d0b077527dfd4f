use Rattle.std.proofs.Common.{◌∷◌, [], ◌++◌, length, List, ap, subst, ◌∙◌, arith, rules}
use Rattle.std.specs.List.{AllByRecursion}
use Rattle.item_model.specs.declared.changes.Edit.{Edit}
use Rattle.item_model.specs.declared.changes.Entry.TheVariants.{Edits}
use Rattle.share_history.specs.Histories.{batches}
use Rattle.share_history.specs.Limits.{is_below_entry_limit, has_room_for}
use Rattle.share_history.specs.Whole.{PutsWhole}
use Rattle.share_history.proofs.WholeFacts.{edits_whole}
use Rattle.share_replies.specs.Answers.{Shared}
use Rattle.share_core.specs.Held.{StandFor}
use Rattle.share_core.proofs.Sound.{sound_edit, sound_left, sound_on, taken, few_next_at, few_lists_by}
use Rattle.share_core.proofs.share.Share.begin.Goals as goal

pub overflow_add-next : goal.overflow_add-next
overflow_add-next g c =
    let few = few_next_at c.self.inside.register.history (ap (λ (s : Shared). is_below_entry_limit s.history) c.self.view_is ∙ c.requires.below) in
    omega (arith, few, c.revision-next.ensures)

pub invariant_of-self : goal.invariant_of-self
invariant_of-self g c = sound_on c.self.inside.settings _ _ _ c.reserve.ensures.history c.self.invariant

pub invariant_of-self-in_err-apply : goal.invariant_of-self-in_err-apply
invariant_of-self-in_err-apply g c =
    sound_on c.self.inside.settings _ _ _ c.reserve.ensures.history
    (sound_left c.self.inside.settings c.self.inside.register.history c.self.inside.stores c.apply.new.self c.in_err-apply.ensures.unchanged c.apply.ensures.items_keep c.apply.ensures.lists_keep c.self.invariant)

pub invariant_of-self-2 : goal.invariant_of-self-2
invariant_of-self-2 g c =
    let a = c.self.inside in
    let h = a.register.history in
    let bs : List (List Edit) = batches h in
    let edits = c.as_slice-edits.ensures ∙ c.batch.view_is in
    sound_edit a.settings h c.edit.new.self.history 0 c.args.batch a.stores c.apply.new.self
    (c.edit.ensures.history ∙ ap (λ l. l ++ Edits 0 c.args.batch ∷ []) c.reserve.ensures.history)
    (taken h c.args.batch
    (ap (λ (s : Shared). is_below_entry_limit s.history) c.self.view_is ∙ c.requires.below)
    (ap (λ (s : Shared). has_room_for s.history (length c.args.batch)) c.self.view_is ∙ c.requires.room)
    (few_lists_by h c.args.batch c.as_slice-edits.result.now c.in_ok-count_after.field-0 edits (c.in_ok-count_after.ensures bs c.self.invariant.held.stand.lists) c.if-branch-gt-MAX_LISTS.false))
    (edits_whole c.args.batch c.requires.valid (subst (AllByRecursion PutsWhole) edits c.rows_are_whole.ensures))
    (subst (λ (es : List Edit). StandFor (bs ++ es ∷ []) c.apply.new.self) edits (c.in_ok-apply.ensures.stand bs c.self.invariant.held.stand))
    c.apply.ensures.items_keep c.apply.ensures.lists_keep c.self.invariant

pub returns-in_err-count_after : goal.returns-in_err-count_after
returns-in_err-count_after g c = search rules

pub returns-in_err-reserve : goal.returns-in_err-reserve
returns-in_err-reserve g c = search rules

pub returns-in_err-apply : goal.returns-in_err-apply
returns-in_err-apply g c = search rules
