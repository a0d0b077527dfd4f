use Rattle.std.proofs.Common.{◌≡◌, drop, flat_map}
use Rattle.dmap_show.specs.Shown.{escaped}
use Rattle.dmap_show.proofs.adding.are_plain.Given as goal

-- if the bytes that are left are shown unchanged, all are
abbrev pub invariant-loop-byte : goal.invariant-loop-byte
invariant-loop-byte l = flat_map escaped (drop l.byte-index l.bytes) ≡ drop l.byte-index l.bytes → flat_map escaped l.bytes ≡ l.bytes
