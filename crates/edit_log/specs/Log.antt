-- A log as contracts see it: its entries, oldest first, and the spare capacity, which counts the entries that can be
-- appended without allocating.
use Rattle.std.specs.Prelude.{ℕ, List}
use Rattle.item_model.specs.declared.changes.Entry.{Entry}

pub record Log : Type 0 where
  pub entries : List Entry
  pub spare : ℕ
