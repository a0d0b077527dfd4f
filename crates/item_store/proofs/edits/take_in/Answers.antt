use Rattle.std.proofs.Common.{◌≡◌, ◌<◌, ◌+◌, ◌++◌, ◌∷◌, [], ℕ, false, List, length, take, get_or, sym, ap, subst, ⊎_elim, ◌∙◌, true≢false}
use Rattle.std.specs.List.{list_any}
use Rattle.std.proofs.lemmas.Bool.{cases_Bool}
use Rattle.std.proofs.lemmas.List.{take_more, take_all, append_assoc}
use Rattle.std.proofs.lemmas.List.Folds.{list_any_at}
use Rattle.item_model.specs.declared.changes.Edit.{Edit}
use Rattle.share_history.specs.Named.{names_item}
use Rattle.item_store.specs.Changes.{AreItems}
use Rattle.item_store.proofs.edits.take_in.Goals as goal

not_named : (q : ℕ) (edits : List Edit) (i : ℕ) (edit : Edit) → i < length edits → edit ≡ get_or edits i edit → list_any (names_item q) edits ≡ false → names_item q edit ≡ false
not_named q edits i edit lt is none =
    ⊎_elim (λ yes. absurd (true≢false (sym (list_any_at (names_item q) edits i edit lt (ap (names_item q) (sym is) ∙ yes)) ∙ none))) (λ no. no) (cases_Bool (names_item q edit))

pub returns-in-Err : goal.returns-in-Err
returns-in-Err c = record {
  items = tt;
  before = λ q base lt. c.take_in_one.ensures.before q base lt ∙ c.loop-edit.invariant.before q base lt;
  others = λ q base none.
      c.take_in_one.ensures.others q base (not_named q c.args.edits.now c.loop-edit.edit-index c.edit-item.result c.loop-edit-test.true c.edit-item.is none) ∙ c.loop-edit.invariant.others q base none;
}

pub loop-edit-preserved : goal.loop-edit-preserved
loop-edit-preserved c =
    let es = c.args.edits.now in
    let i = c.loop-edit.edit-index in
    let edit : Edit = c.edit-item.result in
    let next : take (i + 1) es ≡ take i es ++ edit ∷ [] = take_more es i edit c.loop-edit-test.true ∙ ap (λ e. take i es ++ e ∷ []) (sym c.edit-item.is) in
    record {
      items = λ before start.
          subst (λ ds. AreItems c.args.revision ds c.take_in_one.new.held c.in-Ok.now) (append_assoc before (take i es) (edit ∷ []) ∙ ap (λ ds. before ++ ds) (sym next))
          (c.in-Ok.ensures.items (before ++ take i es) (c.loop-edit.invariant.items before start));
      before = λ q base lt. c.take_in_one.ensures.before q base lt ∙ c.loop-edit.invariant.before q base lt;
      others = λ q base none. c.take_in_one.ensures.others q base (not_named q es i edit c.loop-edit-test.true c.edit-item.is none) ∙ c.loop-edit.invariant.others q base none;
    }

pub returns : goal.returns
returns c = record {
  items = λ es start. subst (λ edits. AreItems c.args.revision (es ++ edits) c.loop-edit.held c.loop-edit.count) (take_all c.loop-edit.edit-index c.args.edits.now c.loop-edit-test.false) (c.loop-edit.invariant.items es start);
  before = c.loop-edit.invariant.before;
  others = c.loop-edit.invariant.others;
}
