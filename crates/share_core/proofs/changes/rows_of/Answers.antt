use Rattle.std.proofs.Common.{◌≡◌, ℕ, Option, List, [], ◌∷◌, ◌++◌, map, ap, sym, ◌∙◌, append_assoc}
use Rattle.item_model.specs.declared.changes.Edit.{Edit}
use Rattle.item_model.specs.declared.shared.SharedRow.{SharedRow}
use Rattle.share_history.specs.Histories.{edits}
use Rattle.share_history.specs.LastSaid.{item_at}
use Rattle.share_core.proofs.changes.rows_of.Goals as goal

-- the next row, before those of the ids that are left
next_row : (es : List Edit) (done now : List (ℕ × Option SharedRow)) (id : ℕ) (left ids : List ℕ) → now ≡ done ++ (id, item_at es id) ∷ [] → ids ≡ id ∷ left
    → now ++ map (λ n. (n, item_at es n)) left ≡ done ++ map (λ n. (n, item_at es n)) ids
next_row es done now id left ids told next =
    ap (λ rows. rows ++ map (λ n. (n, item_at es n)) left) told ∙ append_assoc done ((id, item_at es id) ∷ []) (map (λ n. (n, item_at es n)) left)
    ∙ ap (λ l. done ++ map (λ n. (n, item_at es n)) l) (sym next)

pub loop-id-preserved : goal.loop-id-preserved
loop-id-preserved c = λ bs stands.
    next_row (edits bs) c.loop-id.rows.items c.push_row.new.rows.items c.in-Some.id.now c.next.new.self c.loop-id.id-iterator (c.in_ok-push_row.ensures bs stands) c.in-Some.ensures.steps
    ∙ c.loop-id.invariant bs stands
