-- Sizes of tags, by which recursions over them terminate.
use Rattle.std.proofs.Common.{◌<◌, ℕ, zero, suc, List, [], ◌∷◌, length, get_or, arith}
use Rattle.dmap_tags.specs.Tree.{Tree, trees_of, size_of, sizes_of}

-- a member of a list is smaller than all its members together
pub member_falls : (ts : List Tree) (i : ℕ) (d : Tree) → i < length ts → size_of (get_or ts i d) < sizes_of (trees_of ts)
member_falls [] i d h = absurd (omega arith)
member_falls (t ∷ ts) zero d h = omega arith
member_falls (t ∷ ts) (suc i) d h = omega (arith, member_falls ts i d (omega arith))
