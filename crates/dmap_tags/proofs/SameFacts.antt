-- The test of equal tags is true exactly for equal tags.
use Rattle.std.proofs.Common.{◌≡◌, ◌==◌, true, refl, sym, ap, ◌∙◌, true≢false}
use Rattle.std.specs.Ordering.{int_eq}
use Rattle.std.specs.Cmp.{unsigned_Decides, signed_Decides}
use Rattle.std.proofs.lemmas.Slice.Eq.{bytes_eq-Decides}
use Rattle.std.proofs.lemmas.Bool.{and_parts, and_from}
use Rattle.dmap_tags.specs.Codes.{Four, is_code}
use Rattle.dmap_tags.specs.Tree.{Leaf, Tree, leaf, list, Trees, none, more}
use Rattle.dmap_tags.specs.Cells.{Parts, leaf_parts, parts_leaf, leaf_again}
use Rattle.dmap_tags.specs.SameTags.{are_same_parts, is_same_value, is_same_tag, are_same_tags}

-- ---- codes and values

-- codes that pass the test are equal, and each code passes with itself
pub one_code : (c d : Four) → is_code c d ≡ true → c ≡ d
one_code c d h =
    let rest = and_parts (c.0 == d.0) _ h in
    let behind = and_parts (c.1 == d.1) _ rest.1 in
    let last = and_parts (c.2 == d.2) _ behind.1 in
    λ i. ((unsigned_Decides c.0 d.0).0 rest.0 i, (unsigned_Decides c.1 d.1).0 behind.0 i, (unsigned_Decides c.2 d.2).0 last.0 i, (unsigned_Decides c.3 d.3).0 last.1 i)

pub code_itself : (c : Four) → is_code c c ≡ true
code_itself c =
    and_from _ _ ((unsigned_Decides c.0 c.0).1 refl)
    (and_from _ _ ((unsigned_Decides c.1 c.1).1 refl) (and_from _ _ ((unsigned_Decides c.2 c.2).1 refl) ((unsigned_Decides c.3 c.3).1 refl)))

one_parts : (p q : Parts) → are_same_parts p q ≡ true → p ≡ q
one_parts (kind, (n, (z, bytes))) (other, (m, (y, others))) h =
    let rest = and_parts (kind == other) _ h in
    let behind = and_parts (n == m) _ rest.1 in
    let last = and_parts (int_eq z y) _ behind.1 in
    λ i. ((unsigned_Decides kind other).0 rest.0 i, ((unsigned_Decides n m).0 behind.0 i, ((signed_Decides z y).0 last.0 i, (bytes_eq-Decides bytes others).0 last.1 i)))

parts_themselves : (p : Parts) → are_same_parts p p ≡ true
parts_themselves (kind, (n, (z, bytes))) =
    and_from _ _ ((unsigned_Decides kind kind).1 refl)
    (and_from _ _ ((unsigned_Decides n n).1 refl) (and_from _ _ ((signed_Decides z z).1 refl) ((bytes_eq-Decides bytes bytes).1 refl)))

one_value : (a b : Leaf) → is_same_value a b ≡ true → a ≡ b
one_value a b h = sym (leaf_again a) ∙ ap parts_leaf (one_parts (leaf_parts a) (leaf_parts b) h) ∙ leaf_again b

-- ---- tags

mutual
  -- tags that pass the test are equal
  pub one_tag : (t u : Tree) → is_same_tag t u ≡ true → t ≡ u
  one_tag (leaf c a) (leaf d b) h = λ i. leaf (one_code c d (and_parts _ _ h).0 i) (one_value a b (and_parts _ _ h).1 i)
  one_tag (leaf c a) (list d us) h = absurd (true≢false (sym h))
  one_tag (list c ts) (leaf d b) h = absurd (true≢false (sym h))
  one_tag (list c ts) (list d us) h = λ i. list (one_code c d (and_parts _ _ h).0 i) (one_tags ts us (and_parts _ _ h).1 i)

  pub one_tags : (ts us : Trees) → are_same_tags ts us ≡ true → ts ≡ us
  one_tags none none h = refl
  one_tags none (more u us) h = absurd (true≢false (sym h))
  one_tags (more t ts) none h = absurd (true≢false (sym h))
  one_tags (more t ts) (more u us) h = λ i. more (one_tag t u (and_parts _ _ h).0 i) (one_tags ts us (and_parts _ _ h).1 i)

mutual
  -- each tag passes with itself
  pub tag_itself : (t : Tree) → is_same_tag t t ≡ true
  tag_itself (leaf c a) = and_from _ _ (code_itself c) (parts_themselves (leaf_parts a))
  tag_itself (list c ts) = and_from _ _ (code_itself c) (tags_themselves ts)

  pub tags_themselves : (ts : Trees) → are_same_tags ts ts ≡ true
  tags_themselves none = refl
  tags_themselves (more t ts) = and_from _ _ (tag_itself t) (tags_themselves ts)
