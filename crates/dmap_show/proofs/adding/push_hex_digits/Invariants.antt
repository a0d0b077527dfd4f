use Rattle.std.proofs.Common.{true, ◌≡◌, ◌++◌, drop}
use Rattle.std.specs.Prelude.{flat_map}
use Rattle.std.specs.Str.{is_utf8}
use Rattle.dmap_tags.specs.Begins.{Begins}
use Rattle.dmap_show.specs.Shown.{hex}
use Rattle.dmap_show.proofs.adding.push_hex_digits.Given as goal

-- what was added and the digits of the bytes that are left are the digits of all
abbrev pub invariant-loop-byte : goal.invariant-loop-byte
invariant-loop-byte l = record {
  shown : l.out.items ++ flat_map hex (drop l.byte-index l.bytes) ≡ l.fn.out.items ++ flat_map hex l.bytes;
  text : is_utf8 l.fn.out.items ≡ true → is_utf8 l.out.items ≡ true;
  kept : Begins l.fn.out.items l.out.items;
}
