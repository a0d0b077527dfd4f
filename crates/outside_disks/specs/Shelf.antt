-- What files in memory know: the requested names, and the bytes of each name.
use Rattle.std.specs.Prelude.{ℕ, List, if◌then◌else◌, Some, None, Option, option_and_then, option_map}
use Rattle.outside_disks.specs.declared.memory.disk.MemDisk.{MemDisk}
use Rattle.outside_disks.specs.declared.memory.shelf.Shelf.{Shelf}
use Rattle.outside_disks.specs.declared.memory.files.MemFiles.{MemFiles}
use Rattle.outside_disks.specs.Closed.{contents_of}
use Rattle.outside_disks.specs.Contents.{Contents}

abbrev pub contents_in : Shelf → Contents
contents_in shelf = contents_of shelf.closed

abbrev pub asked_in : Shelf → Option (List (List ℕ))
asked_in shelf = if shelf.is_asked_told then Some shelf.asked.items else None

-- The disks that are still to be opened, in order.
abbrev pub spare_in : Shelf → List MemDisk
spare_in shelf = shelf.spare.items

abbrev pub files_asked : MemFiles → Option (List (List ℕ))
files_asked files = option_and_then asked_in files.shelf

abbrev pub files_contents : MemFiles → Option Contents
files_contents files = option_map contents_in files.shelf
