-- What the closed files have under each name.
use Rattle.std.specs.Prelude.{ℕ, List, [], ◌∷◌}
use Rattle.std.specs.FinMap as finite
use Rattle.outside_disks.specs.declared.memory.closed.ClosedFiles.{ClosedFiles, Empty, File'}
use Rattle.outside_disks.specs.Contents.{Contents}

-- The names and the bytes; those of the file that was closed last come first.
abbrev pub entries_of : ClosedFiles → List (List ℕ × List ℕ)
entries_of Empty = []
entries_of (File' name bytes place earlier) = (name.items, bytes.items) ∷ entries_of earlier

-- Under each name the bytes of the file that was closed last.
abbrev pub contents_of : ClosedFiles → Contents
contents_of closed = finite.from_entries (entries_of closed)
