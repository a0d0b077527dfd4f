-- The library after some changes. The rows stand under their ids, ascending.
use Rattle.std.specs.Prelude.{◌≡◌, ℕ, List, [], ◌∷◌, ⊤, Option, Some, None}
use Rattle.item_model.specs.declared.item.Row.{Row}
use Rattle.share_history.specs.Keyed.{at, put_in, taken_out}
use Rattle.prop_index.specs.declared.changes.Change.{Change}

-- the rows after one: a new row takes the place of the old one, and an old one without a new one is taken out
abbrev pub after : List (ℕ × Row) → Option Row → Option Row → List (ℕ × Row)
after rows None None = rows
after rows (Some old) None = taken_out rows old.id
after rows None (Some new) = put_in rows (new.id, new)
after rows (Some old) (Some new) = put_in rows (new.id, new)

-- the old row is the one that stands under the id, and there is none exactly where none does; both rows have one id
abbrev pub Fits : List (ℕ × Row) → Option Row → Option Row → Type 0
Fits rows None None = ⊤
Fits rows (Some old) None = at old.id rows ≡ Some old
Fits rows None (Some new) = at new.id rows ≡ None
Fits rows (Some old) (Some new) = (at new.id rows ≡ Some old) × (old.id ≡ new.id)

abbrev pub after_all : List (ℕ × Row) → List Change → List (ℕ × Row)
after_all rows [] = rows
after_all rows (change ∷ changes) = after_all (after rows change.old change.new) changes

-- each change fits the rows after those before it
abbrev pub FitInTurn : List (ℕ × Row) → List Change → Type 0
FitInTurn rows [] = ⊤
FitInTurn rows (change ∷ changes) =
    Fits rows change.old change.new × FitInTurn (after rows change.old change.new) changes
