-- The row behind a reference that a look-up returns, with its key.
use Rattle.std.specs.Prelude.{ℕ}
use denote.Ref.{Bor}
use Rattle.item_model.specs.declared.item.Row.{Row}

abbrev pub row_of : ℕ × Bor Row → ℕ × Row
row_of found = (found.0, found.1.now)
