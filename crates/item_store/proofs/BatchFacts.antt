-- What a batch that is applied or reverted leaves.
use Rattle.std.proofs.Common.{◌≡◌, ◌≤◌, ◌<◌, ◌-◌, ◌⊎◌, inl, inr, ℕ, false, cond, ◌||◌, List, [], ◌∷◌, min, refl, sym, ap, ◌∙◌, ⊎_elim, arith}
use Rattle.std.specs.List.{list_any}
use Rattle.std.proofs.lemmas.Bool.{cases_Bool}
use Rattle.std.proofs.lemmas.List.Folds.{list_any-append}
use Rattle.std.proofs.Math.Nat.{min-le_right}
use Rattle.std.proofs.Math.Bool.{or-false}
use Rattle.item_model.specs.declared.changes.Edit.{Edit}
use Rattle.item_model.specs.declared.changes.Edit.TheVariants.{PutItem, DropItem, PutList, PutRule, DropList, PutMember, DropMember}
use Rattle.share_history.specs.Named.{names_item}
use Rattle.item_store.specs.Stands.{items_in, named_items}
use Rattle.key_versions.specs.Held.{Held, value_at, is_among}
use Rattle.item_model.specs.declared.item.Row.{Row}

among_one : (q : ℕ) (e : Edit) → is_among q (items_in e) ≡ names_item q e
among_one q (PutItem row) = or-false _
among_one q (DropItem id) = or-false _
among_one q (PutList list name) = refl
among_one q (PutRule list name rule) = refl
among_one q (DropList list) = refl
among_one q (PutMember list member item) = refl
among_one q (DropMember list member) = refl

-- an id is among those that edits name if one of them names it
pub among_named : (q : ℕ) (es : List Edit) → is_among q (named_items es) ≡ list_any (names_item q) es
among_named q [] = refl
among_named q (e ∷ es) =
    list_any-append _ (items_in e) (named_items es) ∙ ap (λ b. b || is_among q (named_items es)) (among_one q e) ∙ ap (λ b. names_item q e || b) (among_named q es)

-- a batch of which some edits were applied, and which is reverted
pub rows_left : (es : List Edit) (old mid new : Held Row) (revision : ℕ) → 1 ≤ revision
    → ((q base : ℕ) → base < revision → value_at mid q base ≡ value_at old q base)
    → ((q base : ℕ) → list_any (names_item q) es ≡ false → value_at mid q base ≡ value_at old q base)
    → ((q base : ℕ) → value_at new q base ≡ value_at mid q (cond (is_among q (named_items es)) (min base (revision - 1)) base))
    → (q base : ℕ) → (value_at new q base ≡ value_at old q base) ⊎ (value_at new q base ≡ value_at old q (min base (revision - 1)))
rows_left es old mid new revision pos before others back q base =
    let low : ℕ = min base (revision - 1) in
    ⊎_elim
    (λ named. inr (back q base ∙ ap (λ b. value_at mid q (cond b low base)) named ∙ before q low (omega (arith, pos, min-le_right base (revision - 1)))))
    (λ unnamed. inl (back q base ∙ ap (λ b. value_at mid q (cond b low base)) unnamed ∙ others q base (sym (among_named q es) ∙ unnamed)))
    (cases_Bool (is_among q (named_items es)))
