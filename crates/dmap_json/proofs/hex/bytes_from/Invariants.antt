use Rattle.std.proofs.Common.{◌≡◌, ◌++◌, length, flat_map}
use Rattle.dmap_show.specs.Readable.{AreBytes}
use Rattle.dmap_show.specs.Shown.{hex}
use Rattle.dmap_json.proofs.hex.bytes_from.Given as goal

-- the digits are those of the bytes so far and the digits left
abbrev pub invariant-loop-left : goal.invariant-loop-left
invariant-loop-left l = record {
  small : AreBytes l.bytes.items;
  digits : l.fn.digits ≡ flat_map hex l.bytes.items ++ l.left;
}

abbrev pub decreases-loop-left : goal.decreases-loop-left
decreases-loop-left l = length l.left
