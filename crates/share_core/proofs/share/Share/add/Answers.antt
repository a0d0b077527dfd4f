use Rattle.std.proofs.Common.{◌≡◌, ◌≤◌, ◌+◌, ◌∷◌, [], ◌++◌, List, ap, subst, sym, ◌∙◌, refl, arith, rules}
use Rattle.std.specs.List.{AllByRecursion}
use Rattle.item_model.specs.declared.changes.Edit.{Edit}
use Rattle.item_model.specs.declared.changes.Entry.TheVariants.{Edits}
use Rattle.share_history.specs.Histories.{batches, edits, all_edits, revision}
use Rattle.share_history.specs.Limits.{is_below_entry_limit, takes_batch}
use Rattle.share_history.specs.Whole.{PutsWhole}
use Rattle.share_history.proofs.EditFacts.{edits_more}
use Rattle.share_history.proofs.WholeFacts.{edits_whole}
use Rattle.share_replies.specs.Answers.{Shared}
use Rattle.playlist_store.specs.Tests.{tests_of}
use Rattle.share_core.specs.Held.{StandFor}
use Rattle.share_core.specs.Steps.{HasGrown}
use Rattle.share_core.proofs.Answered.{grown_is, shared}
use Rattle.share_core.proofs.Sound.{sound_edit, sound_left, sound_on, few_next}
use Rattle.share_core.proofs.share.Share.add.Goals as goal

pub overflow_add-next : goal.overflow_add-next
overflow_add-next g c =
    omega (arith, few_next c.self.inside.register.history c.args.batch.now (ap (λ (s : Shared). takes_batch s.history c.args.batch.now) c.self.view_is ∙ c.requires.takes), c.revision-next.ensures)

pub returns-clause-grown : goal.returns-clause-grown
returns-clause-grown g c = λ told fits.
    let a = c.self.inside in
    let now = c.enter.new.register in
    subst (λ old. HasGrown told 0 (Edits c.args.by c.args.batch.now) old (shared a.settings now.history now.marks) c.enter.result) c.self.view_is
    (grown_is a.settings a.register.history now.history a.register.marks now.marks (Edits c.args.by c.args.batch.now) c.args.content 0 _ c.enter.result told
    (c.enter.ensures.history ∙ (λ i. c.in_ok-reserve.ensures.history i ++ Edits c.args.by (c.in_ok-own.ensures i) ∷ []))
    (c.enter.ensures.marks ∙ ap (λ marks. Rattle.share_history.specs.Marks.marks_after now.history 0 marks) c.in_ok-reserve.ensures.marks) refl
    (c.enter.ensures.reply ∙ ap (λ marks. record { content = c.args.content; point = Rattle.std.proofs.Common.length now.history; session = 0; seen = Rattle.share_replies.specs.Answers.mark_of marks 0; added = Rattle.std.proofs.Common.true }) c.in_ok-reserve.ensures.marks) fits)

pub invariant_of-self-2 : goal.invariant_of-self-2
invariant_of-self-2 g c =
    let a = c.self.inside in
    let bs : List (List Edit) = batches a.register.history in
    let edits = c.as_slice-edits.ensures ∙ c.batch.view_is in
    sound_edit a.settings a.register.history c.enter.new.register.history c.args.by c.args.batch.now a.stores c.apply.new.self
    (c.enter.ensures.history ∙ (λ i. c.in_ok-reserve.ensures.history i ++ Edits c.args.by (c.in_ok-own.ensures i) ∷ []))
    (ap (λ (s : Shared). takes_batch s.history c.args.batch.now) c.self.view_is ∙ c.requires.takes)
    (edits_whole c.args.batch.now c.requires.valid (subst (AllByRecursion PutsWhole) edits c.rows_are_whole.ensures))
    (subst (λ (es : List Edit). StandFor (bs ++ es ∷ []) c.apply.new.self) edits (c.in_ok-apply.ensures.stand bs c.self.invariant.held.stand))
    c.in_ok-apply.ensures.items_keep c.in_ok-apply.ensures.lists_keep c.self.invariant

pub returns-in_err-own : goal.returns-in_err-own
returns-in_err-own g c = search rules

pub returns-in_err-reserve : goal.returns-in_err-reserve
returns-in_err-reserve g c = search rules
