-- A tag's encoding is at most twice as long as its lines.
use Rattle.std.proofs.Common.{◌≡◌, ◌≤◌, ◌+◌, ◌*◌, ℕ, suc, true, List, [], ◌∷◌, flat_map, length, inl, inr, refl, arith, length-append, le-leb}
use Rattle.std.proofs.lemmas.Bool.{and_from, cases_Bool}
use Rattle.std.proofs.lemmas.Bool.Decides.{nat_tests}
use Rattle.std.specs.Char.{is_ascii_graphic}
use Rattle.std.specs.List.{list_all}
use Rattle.dmap_tags.specs.Codes.{Four, code_bytes}
use Rattle.dmap_tags.specs.Tree.{Leaf, U8, I8, U16, I16, U32, I32, U64, I64, Text, Date, Version, Opaque, Tree, leaf, list, Trees, none, more, tree_code}
use Rattle.dmap_tags.specs.Spelling.{leaf_payload, spelling, spellings, longest, is_spellable, are_spellable}
use Rattle.dmap_show.specs.Shown.{hex, escaped, shown_code, leaf_word, leaf_text, word_of, space_of, text_of, shown_line, shown_tag, shown_tags}

-- a code has at least four characters
code_long : (c : Four) → 4 ≤ length (shown_code c)
code_long c = elim (cases_Bool (list_all is_ascii_graphic (code_bytes c))) [
  | inl e ↦ rw e (omega arith)
  | inr e ↦ rw e (omega arith)
]

-- a byte of a text has at least one
pub escaped_long : (b : ℕ) → 1 ≤ length (escaped b)
escaped_long b = grind (arith, nat_tests)

-- and so bytes have at least as many as they are
pub pieces_long : (f : ℕ → List ℕ) → ((b : ℕ) → 1 ≤ length (f b)) → (bytes : List ℕ) → length bytes ≤ length (flat_map f bytes)
pieces_long f h [] = omega arith
pieces_long f h (b ∷ bytes) = rw (length-append (f b) (flat_map f bytes)) (omega (arith, h b, pieces_long f h bytes))

-- a value has at most twice as many bytes as the name of its kind and its text, and six more
leaf_long : (l : Leaf) → length (leaf_payload l) ≤ 2 * (length (leaf_word l) + length (leaf_text l)) + 6
leaf_long (U8 n) = omega arith
leaf_long (I8 z) = omega arith
leaf_long (U16 n) = omega arith
leaf_long (I16 z) = omega arith
leaf_long (U32 n) = omega arith
leaf_long (I32 z) = omega arith
leaf_long (U64 n) = omega arith
leaf_long (I64 z) = omega arith
leaf_long (Text bytes) = rw (length-append (flat_map escaped bytes) (34 ∷ [])) (omega (arith, pieces_long escaped escaped_long bytes))
leaf_long (Date n) = omega arith
leaf_long (Version n) = omega arith
leaf_long (Opaque bytes) = omega (arith, pieces_long hex (λ b. omega arith) bytes)

-- besides these a line has at least a code, a space and a line feed
pub line_long : (level : ℕ) (t : Tree) → length (word_of t) + length (space_of t) + length (text_of t) + 6 ≤ length (shown_line level t)
line_long level t = simp length-append (omega (arith, code_long (tree_code t)))

-- with a code and a length, which are eight bytes, the encoding is no longer than that
mutual
  pub spelling_by_text : (level : ℕ) (t : Tree) → length (spelling t) ≤ 2 * length (shown_tag level t)
  spelling_by_text level (leaf c l) = omega (arith, leaf_long l, line_long level (leaf c l))
  spelling_by_text level (list c ts) =
      rw (length-append (shown_line level (list c ts)) (shown_tags (suc level) ts))
      (omega (arith, line_long level (list c ts), spellings_by_text (suc level) ts))

  pub spellings_by_text : (level : ℕ) (ts : Trees) → length (spellings ts) ≤ 2 * length (shown_tags level ts)
  spellings_by_text level none = omega arith
  spellings_by_text level (more t ts) =
      rw (length-append (spelling t) (spellings ts), length-append (shown_tag level t) (shown_tags level ts))
      (omega (arith, spelling_by_text level t, spellings_by_text level ts))

-- so tags with short lines can be encoded
mutual
  pub tag_spellable_by_text : (level : ℕ) (t : Tree) → 2 * length (shown_tag level t) ≤ longest → is_spellable t ≡ true
  tag_spellable_by_text level (leaf c l) h = le-leb _ _ (omega (arith, h, spelling_by_text level (leaf c l)))
  tag_spellable_by_text level (list c ts) h =
      let long = length-append (shown_line level (list c ts)) (shown_tags (suc level) ts) in
      and_from _ _
      (spellable_by_text (suc level) ts (omega (arith, h, long)))
      (le-leb _ _ (omega (arith, h, long, spellings_by_text (suc level) ts)))

  pub spellable_by_text : (level : ℕ) (ts : Trees) → 2 * length (shown_tags level ts) ≤ longest → are_spellable ts ≡ true
  spellable_by_text level none h = refl
  spellable_by_text level (more t ts) h =
      let long = length-append (shown_tag level t) (shown_tags level ts) in
      and_from _ _
      (tag_spellable_by_text level t (omega (arith, h, long)))
      (spellable_by_text level ts (omega (arith, h, long)))
