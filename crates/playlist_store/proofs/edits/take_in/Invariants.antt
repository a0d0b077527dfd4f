use Rattle.std.proofs.Common.{[], ◌++◌, List, take}
use Rattle.item_model.specs.declared.changes.Edit.{Edit}
use Rattle.playlist_store.specs.Changes.{Frames, Tells}
use Rattle.playlist_store.proofs.edits.take_in.Given as goal

abbrev pub invariant-loop-edit : goal.invariant-loop-edit
invariant-loop-edit l = record {
  tells : (es : List Edit) → Tells l.revision es [] l.fn.lists.entries l.fn.lists.entries → Tells l.revision (es ++ take l.edit-index l.batch) (take l.edit-index l.batch) l.fn.lists.entries l.lists.entries;
  frames : Frames l.revision l.batch l.fn.lists.entries l.lists.entries;
}
