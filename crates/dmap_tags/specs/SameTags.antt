-- Whether two tags are equal, as a test.
use Rattle.std.specs.Prelude.{Bool, true, false, ◌==◌, ◌&&◌}
use Rattle.std.specs.Ordering.{int_eq}
use Rattle.std.specs.Str.{bytes_eq}
use Rattle.dmap_tags.specs.Codes.{is_code}
use Rattle.dmap_tags.specs.Tree.{Leaf, Tree, leaf, list, Trees, none, more}
use Rattle.dmap_tags.specs.Cells.{Parts, leaf_parts}

-- equal kinds, and equal numbers and bytes in them
abbrev pub are_same_parts : Parts → Parts → Bool
are_same_parts (kind, (n, (z, bytes))) (other, (m, (y, others))) = (kind == other) && ((n == m) && (int_eq z y && bytes_eq bytes others))

abbrev pub is_same_value : Leaf → Leaf → Bool
is_same_value a b = are_same_parts (leaf_parts a) (leaf_parts b)

-- equal codes, with equal values or with equal members in the same order
abbrev mutual
  pub is_same_tag : Tree → Tree → Bool
  is_same_tag (leaf c a) (leaf d b) = is_code c d && is_same_value a b
  is_same_tag (leaf c a) (list d us) = false
  is_same_tag (list c ts) (leaf d b) = false
  is_same_tag (list c ts) (list d us) = is_code c d && are_same_tags ts us

  pub are_same_tags : Trees → Trees → Bool
  are_same_tags none none = true
  are_same_tags none (more u us) = false
  are_same_tags (more t ts) none = false
  are_same_tags (more t ts) (more u us) = is_same_tag t u && are_same_tags ts us
