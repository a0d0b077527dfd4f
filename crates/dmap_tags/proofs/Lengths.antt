-- Lengths of lists of tags, summed from the first.
use Rattle.std.proofs.Common.{◌≡◌, ◌≤◌, ◌<◌, ◌+◌, ◌&&◌, ℕ, zero, suc, true, nat_le, length, get_or, drop, List, [], ◌∷◌, Option, Some, None, if◌then◌else◌, arith}
use Rattle.std.proofs.lemmas.Bool.{and_parts}
use Rattle.dmap_tags.specs.Tree.{Tree, Trees, trees_of}
use Rattle.dmap_tags.specs.Spelling.{spellings, longest, is_spellable, are_spellable}

-- the length of n bytes and these members, if it fits four bytes
abbrev pub length_from : ℕ → Trees → Option ℕ
length_from n ts = if are_spellable ts && nat_le (n + length (spellings ts)) longest then Some (n + length (spellings ts)) else None

-- if no member is left, the sum is n
pub none_left : (n i : ℕ) (ts : List Tree) → length ts ≤ i → n ≤ longest → length_from n (trees_of (drop i ts)) ≡ Some n
none_left n zero [] h k = grind arith
none_left n zero (t ∷ ts) h k = absurd (omega arith)
none_left n (suc i) [] h k = grind arith
none_left n (suc i) (t ∷ ts) h k = none_left n i ts (omega arith) k

-- if a list of tags can be encoded, each of its tags can be
pub spellable_at : (ts : List Tree) (i : ℕ) (d : Tree) → are_spellable (trees_of ts) ≡ true → i < length ts → is_spellable (get_or ts i d) ≡ true
spellable_at [] i d h k = absurd (omega arith)
spellable_at (t ∷ ts) zero d h k = (and_parts _ _ h).0
spellable_at (t ∷ ts) (suc i) d h k = spellable_at ts i d (and_parts _ _ h).1 (omega arith)
