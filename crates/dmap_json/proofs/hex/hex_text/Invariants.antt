use Rattle.std.proofs.Common.{◌≡◌, ◌++◌, drop, flat_map}
use Rattle.dmap_show.specs.Shown.{hex}
use Rattle.dmap_json.proofs.hex.hex_text.Given as goal

-- the digits so far and those of the bytes left are those of all bytes
abbrev pub invariant-loop-byte : goal.invariant-loop-byte
invariant-loop-byte l = l.digits.items ++ flat_map hex (drop l.byte-index l.bytes) ≡ flat_map hex l.bytes
