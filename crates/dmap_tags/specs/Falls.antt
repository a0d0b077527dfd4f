-- The contents of a tag are smaller than the tag.
use Rattle.std.specs.Prelude.{◌+◌, ◌≤◌, max, List, [], ◌∷◌}
use Rattle.std.proofs.Common.{arith}
use denote.Param.Weighed.{most}
use Rattle.dmap_tags.specs.Codes.{Four}
use Rattle.dmap_tags.specs.Tree.{Tree, trees_of, size_of, sizes_of}
use Rattle.dmap_tags.specs.Seen.{tree_with}
use Rattle.dmap_tags.specs.declared.tree.Value.{Value}
use Rattle.dmap_tags.specs.declared.tree.Value.TheVariants.{U8, I8, U16, I16, U32, I32, U64, I64, Text, Date, Version, List as Members, Opaque}
use Rattle.dmap_tags.specs.declared.tree.Tag.TheDeep.{deep-Value}

-- no member is larger than all of them together
pub most_within : (ts : List Tree) → most (λ t. size_of t + 1) ts ≤ sizes_of (trees_of ts)
most_within [] = omega arith
most_within (t ∷ ts) = omega (arith, most_within ts)

-- a list of tags is smaller than the tag that holds it
pub value_falls : (c : Four) (v : Value) → max (deep-Value v) 0 ≤ size_of (tree_with c v)
value_falls c (U8 n) = omega arith
value_falls c (I8 z) = omega arith
value_falls c (U16 n) = omega arith
value_falls c (I16 z) = omega arith
value_falls c (U32 n) = omega arith
value_falls c (I32 z) = omega arith
value_falls c (U64 n) = omega arith
value_falls c (I64 z) = omega arith
value_falls c (Text bytes) = omega arith
value_falls c (Date n) = omega arith
value_falls c (Version n) = omega arith
value_falls c (Members ts) = omega arith
value_falls c (Opaque bytes) = omega arith
