use Rattle.std.proofs.Common.{◌≡◌, ◌≤◌, ◌+◌, ◌++◌, ◌∷◌, ℕ, List, length, drop, flat_map, sym, ap, ◌∙◌, rules}
use Rattle.std.proofs.lemmas.List.{at_drop_more, at_drop_all, append_assoc, append-nil}
use Rattle.std.proofs.lemmas.Result.{IfOk-from_err}
use Rattle.item_model.specs.declared.changes.Edit.{Edit}
use Rattle.item_store.specs.Stands.{items_in, named_items}
use Rattle.item_store.proofs.edits.ids_of.Goals as goal
use Rattle.item_store.proofs.edits.ids_of.Goals.{in-Some+in_ok-push, in_default}

named_more : (edit : Edit) (rest : List Edit) (old new all : List ℕ) → new ≡ old ++ items_in edit → old ++ named_items (edit ∷ rest) ≡ all → new ++ named_items rest ≡ all
named_more edit rest old new all put left = ap (λ ids. ids ++ named_items rest) put ∙ append_assoc old (items_in edit) (named_items rest) ∙ left

named_all : (edits : List Edit) (ids all : List ℕ) (i : ℕ) → length edits ≤ i → ids ++ named_items (drop i edits) ≡ all → ids ≡ all
named_all edits ids all i over left = sym (append-nil ids) ∙ ap (λ more. ids ++ more) (sym (at_drop_all (flat_map items_in) edits i over)) ∙ left

pub returns-in_err-push : goal.returns-in_err-push
returns-in_err-push c = IfOk-from_err _ _ c.from_residual.ensures.0

pub loop-edit-preserved : goal.loop-edit-preserved
loop-edit-preserved c =
    let at = at_drop_more (flat_map items_in) c.args.edits.now c.loop-edit.edit-index c.edit-item.result c.loop-edit-test.true in
    let left = rw (at, ← c.edit-item.is) at c.loop-edit.invariant in
    let put : c.match-id_of.ids.items ≡ c.loop-edit.ids.items ++ items_in c.edit-item.result = elim c.match-id_of.branch [ in-Some+in_ok-push w ↦ search rules | in_default w ↦ search rules ] in
    named_more c.edit-item.result (drop (c.loop-edit.edit-index + 1) c.args.edits.now) _ _ _ put left

pub returns : goal.returns
returns c = named_all c.args.edits.now _ _ c.loop-edit.edit-index c.loop-edit-test.false c.loop-edit.invariant
