-- Edits that any three numbers may make: the item has one of 4096 ids, and its name has a number of at most five
-- digits.
use Rattle.std.specs.Prelude.{◌≡◌, ◌≤◌, ◌<◌, ℕ, List}
use Rattle.std.specs.List.{AllByRecursion}
use Rattle.item_model.specs.declared.changes.Edit.{Edit}
use Rattle.rehearsal.specs.Edits.{edit_of}

pub record IsMade (e : Edit) : Type 0 where
  pub id : ℕ
  pub b : ℕ
  pub c : ℕ
  pub is : e ≡ edit_of id b c
  pub from : 1 ≤ id
  pub to : id ≤ 4096
  pub named : b < 65536

abbrev pub AreMade : List Edit → Type 0
AreMade es = AllByRecursion IsMade es
