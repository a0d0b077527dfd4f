-- How many bytes tags have, and that few bytes can be spelled.
use Rattle.std.proofs.Common.{◌≡◌, ◌≤◌, ◌+◌, ◌++◌, ℕ, nat_le, true, List, [], ◌∷◌, length, refl, sym, ap, ◌∙◌, append_assoc, length-append, arith}
use Rattle.std.proofs.lemmas.Bool.{and_from, and_parts, le-leb, leb-true}
use Rattle.dmap_tags.specs.Codes.{Four}
use Rattle.dmap_tags.specs.Tree.{Tree, tree_code, leaf, list, Trees, none, more, trees_of}
use Rattle.dmap_tags.specs.Spelling.{framed, payload, leaf_payload, spelling, spellings, longest, is_spellable, are_spellable}

-- the spellings of several tags are those of the first and of the others
pub spellings_append : (xs ys : List Tree) → spellings (trees_of (xs ++ ys)) ≡ spellings (trees_of xs) ++ spellings (trees_of ys)
spellings_append [] ys = refl
spellings_append (x ∷ xs) ys =
    ap (λ bytes. spelling x ++ bytes) (spellings_append xs ys)
    ∙ sym (append_assoc (spelling x) (spellings (trees_of xs)) (spellings (trees_of ys)))

-- a head has eight bytes
pub framed_length : (c : Four) (bytes : List ℕ) → length (framed c bytes) ≡ length bytes + 8
framed_length c bytes = omega arith

-- the first of several tags, and the others, are not longer than all
pub more_length : (t : Tree) (ts : Trees) → length (spellings (more t ts)) ≡ length (spelling t) + length (spellings ts)
more_length t ts = length-append (spelling t) (spellings ts)

mutual
  -- what is short can be spelled
  pub short_spellable : (t : Tree) → length (spelling t) ≤ longest → is_spellable t ≡ true
  short_spellable (leaf c l) h = le-leb _ _ (omega (arith, framed_length c (leaf_payload l)))
  short_spellable (list c ts) h =
      let inner : length (spellings ts) ≤ longest = omega (arith, framed_length c (spellings ts)) in
      and_from _ _ (short_spellables ts inner) (le-leb _ _ inner)

  pub short_spellables : (ts : Trees) → length (spellings ts) ≤ longest → are_spellable ts ≡ true
  short_spellables none h = refl
  short_spellables (more t ts) h =
      and_from _ _ (short_spellable t (omega (arith, more_length t ts))) (short_spellables ts (omega (arith, more_length t ts)))

-- a tag has a head of eight bytes before its payload
pub payload_length : (t : Tree) → length (spelling t) ≡ length (payload t) + 8
payload_length t = framed_length (tree_code t) (payload t)

-- what can be spelled has no payload that is too long
pub spellable_short : (t : Tree) → is_spellable t ≡ true → length (payload t) ≤ longest
spellable_short (leaf c l) h = leb-true _ _ h
spellable_short (list c ts) h = leb-true _ _ (and_parts (are_spellable ts) (nat_le (length (spellings ts)) longest) h).1
