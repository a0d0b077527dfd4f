use Rattle.std.proofs.Common.{◌≡◌, ◌<◌, ◌++◌, ℕ, List, take, false}
use Rattle.std.specs.List.{list_any}
use Rattle.item_model.specs.declared.changes.Edit.{Edit}
use Rattle.share_history.specs.Named.{names_item}
use Rattle.key_versions.specs.Held.{value_at}
use Rattle.item_store.specs.Changes.{AreItems}
use Rattle.item_store.proofs.edits.take_in.Given as goal

abbrev pub invariant-loop-edit : goal.invariant-loop-edit
invariant-loop-edit l = record {
  items : (es : List Edit) → AreItems l.revision es l.fn.held l.fn.count → AreItems l.revision (es ++ take l.edit-index l.edits) l.held l.count;
  before : (q base : ℕ) → base < l.revision → value_at l.held q base ≡ value_at l.fn.held q base;
  others : (q base : ℕ) → list_any (names_item q) l.edits ≡ false → value_at l.held q base ≡ value_at l.fn.held q base;
}
