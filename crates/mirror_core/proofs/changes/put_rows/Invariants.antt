use Rattle.std.proofs.Common.{◌≡◌, fold, map, drop}
use Rattle.mirror_core.specs.Reading.{row_of}
use Rattle.mirror_core.specs.Changes.{with_row}
use Rattle.mirror_core.proofs.changes.put_rows.Given as goal

abbrev pub invariant-loop-tag : goal.invariant-loop-tag
invariant-loop-tag l =
    fold with_row l.changes.entries (map (row_of l.target) (drop l.tag-index l.tags)) ≡ fold with_row l.fn.changes.entries (map (row_of l.target) l.tags)
