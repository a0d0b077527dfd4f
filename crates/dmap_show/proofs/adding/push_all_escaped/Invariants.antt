use Rattle.std.proofs.Common.{◌≡◌, ◌++◌, drop, flat_map}
use Rattle.dmap_tags.specs.Begins.{Begins}
use Rattle.dmap_show.specs.Shown.{escaped}
use Rattle.dmap_show.proofs.adding.push_all_escaped.Given as goal

-- what was added and what the bytes that are left are shown as is what all are shown as
abbrev pub invariant-loop-byte : goal.invariant-loop-byte
invariant-loop-byte l = record {
  shown : l.out.items ++ flat_map escaped (drop l.byte-index l.bytes) ≡ l.fn.out.items ++ flat_map escaped l.bytes;
  kept : Begins l.fn.out.items l.out.items;
}
