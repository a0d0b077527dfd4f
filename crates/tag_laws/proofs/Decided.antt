-- Whether a text shows tags is decided: they are no larger than the text.
use Rattle.std.proofs.Common.{◌≡◌, inl, inr, ℕ, suc, ◌+◌, ◌≤◌, true, List, [], ◌∷◌, flat_map, length, None, sym, subst, ◌∙◌, arith, length-append}
use Rattle.std.proofs.lemmas.Bool.{cases_Bool, cases_lt, true≢false}
use Rattle.std.proofs.lemmas.Slice.Eq.{bytes_eq-Decides}
use Rattle.std.specs.Str.{bytes_eq}
use Rattle.dmap_tags.specs.Tree.{Leaf, U8, I8, U16, I16, U32, I32, U64, I64, Text, Date, Version, Opaque, Tree, leaf, list, Trees, none, more, trees_of, levels}
use Rattle.code_table.specs.declared.row.CodeRow.{CodeRow}
use Rattle.code_table.specs.Fits.{fits}
use Rattle.dmap_show.specs.Shown.{hex, escaped, leaf_text, shown_line, shown_tag, shown_tags}
use Rattle.dmap_show.proofs.TextLengths.{escaped_long, pieces_long, line_long}
use Rattle.tag_laws.proofs.Search.{Decided, dec_bool, dec_both, dec_as, Has, leaf_size, extent, extents, AreSmall, some_tags}
use Rattle.tag_laws.proofs.Cut.{TopFits, HasText, are_tags, tops_of, of_trees}

leaf_small : (l : Leaf) → leaf_size l ≤ length (leaf_text l)
leaf_small (U8 n) = omega arith
leaf_small (I8 z) = omega arith
leaf_small (U16 n) = omega arith
leaf_small (I16 z) = omega arith
leaf_small (U32 n) = omega arith
leaf_small (I32 z) = omega arith
leaf_small (U64 n) = omega arith
leaf_small (I64 z) = omega arith
leaf_small (Text bytes) = rw (length-append (flat_map escaped bytes) (34 ∷ [])) (omega (arith, pieces_long escaped escaped_long bytes))
leaf_small (Date n) = omega arith
leaf_small (Version n) = omega arith
leaf_small (Opaque bytes) = omega (arith, pieces_long hex (λ b. omega arith) bytes)

mutual
  extent_short : (level : ℕ) (t : Tree) → extent t + 2 ≤ length (shown_tag level t)
  extent_short level (leaf c l) = omega (arith, leaf_small l, line_long level (leaf c l))
  extent_short level (list c ts) =
      rw (length-append (shown_line level (list c ts)) (shown_tags (suc level) ts))
      (omega (arith, line_long level (list c ts), extents_short (suc level) ts))

  extents_short : (level : ℕ) (ts : Trees) → extents ts ≤ length (shown_tags level ts)
  extents_short level none = omega arith
  extents_short level (more t ts) =
      rw (length-append (shown_tag level t) (shown_tags level ts))
      (omega (arith, extent_short level t, extents_short level ts))

dec_le : (a b : ℕ) → Decided (a ≤ b)
dec_le a b = elim (cases_lt b a) [ inl l ↦ inr (λ h. absurd (omega arith)) | inr le ↦ inl le ]

dec_text : (xs ys : List ℕ) → Decided (xs ≡ ys)
dec_text xs ys = elim (cases_Bool (bytes_eq xs ys)) [
  | inl e ↦ inl ((bytes_eq-Decides xs ys).0 e)
  | inr e ↦ inr (λ h. true≢false (sym ((bytes_eq-Decides xs ys).1 h) ∙ e))
]

dec_tops : (rows : List CodeRow) (ts : Trees) → Decided (TopFits rows ts)
dec_tops rows none = inl tt
dec_tops rows (more t ts) =
    dec_both ((fits rows None t ≡ true) × (levels t ≤ 32)) (TopFits rows ts)
    (dec_both (fits rows None t ≡ true) (levels t ≤ 32) (dec_bool (fits rows None t)) (dec_le (levels t) 32)) (dec_tops rows ts)

abbrev ShowsTops : List CodeRow → List ℕ → Trees → Type 0
ShowsTops rows text ts = (text ≡ shown_tags 0 ts) × TopFits rows ts

pub shown_or_not : (rows : List CodeRow) (text : List ℕ) → Decided (HasText rows text)
shown_or_not rows text =
    dec_as (Has Trees (AreSmall (length text)) (ShowsTops rows text)) (HasText rows text)
    (λ x. of_trees rows text x.0 x.1.1.0 x.1.0.0 x.1.1.1)
    (λ y. (
      trees_of y.0,
      (
        (are_tags rows y.0 y.1.each, subst (λ l. extents (trees_of y.0) ≤ length l) (sym y.1.lines) (extents_short 0 (trees_of y.0))),
        (y.1.lines, tops_of rows y.0 y.1.each),
      ),
    ))
    (some_tags (length text) (ShowsTops rows text) (λ ts. dec_both (text ≡ shown_tags 0 ts) (TopFits rows ts) (dec_text text (shown_tags 0 ts)) (dec_tops rows ts)))
