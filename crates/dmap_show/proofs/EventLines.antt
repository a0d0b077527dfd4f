-- Lines of tags and of their events.
use Rattle.std.proofs.Common.{◌≡◌, ℕ, zero, suc, ◌+◌, ◌*◌, ◌≤◌, take, IsAscii, arith, List, [], ◌∷◌, ◌++◌, length, refl, sym, ap, ap₂, ◌∙◌, append_assoc}
use Rattle.std.proofs.lemmas.Str.Ascii.{IsAscii-nil, IsAscii-cons}
use Rattle.dmap_tags.specs.Codes.{Four}
use Rattle.dmap_tags.specs.declared.tree.Value.{Value}
use Rattle.dmap_tags.specs.declared.tree.Value.TheVariants as value
use Rattle.dmap_tags.specs.Tree.{tree_code, Leaf, U8, I8, U16, I16, U32, I32, U64, I64, Text, Date, Version, Opaque, Tree, leaf, list, Trees, none, more}
use Rattle.dmap_tags.specs.Seen.{tree_with}
use Rattle.dmap_tags.specs.Spelling.{payload}
use Rattle.dmap_tags.specs.Typed.{value_of}
use Rattle.dmap_stream.specs.declared.event.Event.{Event}
use Rattle.dmap_stream.specs.declared.event.Event.TheVariants.{Close}
use Rattle.dmap_stream.specs.Events.{events_of, events_of_all}
use Rattle.dmap_show.specs.Shown.{indent, shown_code, word_of, space_of, text_of, shown_line, shown_tag, shown_tags}
use Rattle.dmap_show.specs.Events.{shown_events}

-- the spaces of more levels, and of fewer
pub indent_sum : (n m : ℕ) → indent (n + m) ≡ indent n ++ indent m
indent_sum zero m = let none : 0 + m ≡ m = omega arith in ap indent none
indent_sum (suc n) m = let next : suc n + m ≡ suc (n + m) = omega arith in ap indent next ∙ ap (λ s. 32 ∷ 32 ∷ s) (indent_sum n m)

pub indent_front : (n m : ℕ) → n ≤ m → take (2 * n) (indent m) ≡ indent n
indent_front zero m within = refl
indent_front (suc n) zero within = absurd (omega arith)
indent_front (suc n) (suc m) within =
    let twice : 2 * suc n ≡ suc (suc (2 * n)) = omega arith in
    rw twice (ap (λ s. 32 ∷ 32 ∷ s) (indent_front n m (omega arith)))

pub indent_ascii : (n : ℕ) → IsAscii (indent n)
indent_ascii zero = IsAscii-nil
indent_ascii (suc n) = IsAscii-cons 32 (32 ∷ indent n) (omega arith) (IsAscii-cons 32 (indent n) (omega arith) (indent_ascii n))

-- a value of the program encodes its leaf
pub leaf_with : (c : Four) (l : Leaf) → tree_with c (value_of l) ≡ leaf c l
leaf_with c (U8 n) = refl
leaf_with c (I8 z) = refl
leaf_with c (U16 n) = refl
leaf_with c (I16 z) = refl
leaf_with c (U32 n) = refl
leaf_with c (I32 z) = refl
leaf_with c (U64 n) = refl
leaf_with c (I64 z) = refl
leaf_with c (Text bytes) = refl
leaf_with c (Date n) = refl
leaf_with c (Version n) = refl
leaf_with c (Opaque bytes) = refl

pub code_with : (c : Four) (v : Value) → tree_code (tree_with c v) ≡ c
code_with c (value.U8 n) = refl
code_with c (value.I8 z) = refl
code_with c (value.U16 n) = refl
code_with c (value.I16 z) = refl
code_with c (value.U32 n) = refl
code_with c (value.I32 z) = refl
code_with c (value.U64 n) = refl
code_with c (value.I64 z) = refl
code_with c (value.Text bytes) = refl
code_with c (value.Date n) = refl
code_with c (value.Version n) = refl
code_with c (value.List ts) = refl
code_with c (value.Opaque bytes) = refl

regrouped : (old i k w s t e : List ℕ) → (old ++ (i ++ k ++ (32 ∷ w ++ s))) ++ (t ++ e) ≡ old ++ (i ++ k ++ 32 ∷ w ++ s ++ t ++ e)
regrouped old i k w s t e = simp append_assoc refl

-- a line is its first part and its rest
pub line_by_parts : (level : ℕ) (c : Four) (v : Value) (old front new : List ℕ)
    → front ≡ old ++ (indent level ++ shown_code c ++ (32 ∷ word_of (tree_with c v) ++ space_of (tree_with c v)))
    → new ≡ front ++ (text_of (tree_with c v) ++ 10 ∷ [])
    → new ≡ old ++ shown_line level (tree_with c v)
line_by_parts level c v old front new e f =
    let t = tree_with c v in
    f ∙ ap (λ s. s ++ (text_of t ++ 10 ∷ [])) e
    ∙ regrouped old (indent level) (shown_code c) (word_of t) (space_of t) (text_of t) (10 ∷ [])
    ∙ ap (λ d. old ++ (indent level ++ shown_code d ++ 32 ∷ word_of t ++ space_of t ++ text_of t ++ 10 ∷ [])) (sym (code_with c v))

-- the events of a tag are shown as the tag, whatever events follow them
mutual
  pub events_show : (level at : ℕ) (t : Tree) (rest : List Event) → shown_events level (events_of at t rest) ≡ shown_tag level t ++ shown_events level rest
  events_show level at (leaf c l) rest = ap (λ t. shown_tag level t ++ shown_events level rest) (leaf_with c l)
  events_show level at (list c ts) rest =
      let line : shown_line level (list c none) ≡ shown_line level (list c ts) = refl in
      ap₂ (λ (x y : List ℕ). x ++ y) line (all_events_show (suc level) (at + 8) ts (Close c at ∷ rest))
      ∙ sym (append_assoc (shown_line level (list c ts)) (shown_tags (suc level) ts) (shown_events level rest))

  pub all_events_show : (level at : ℕ) (ts : Trees) (rest : List Event) → shown_events level (events_of_all at ts rest) ≡ shown_tags level ts ++ shown_events level rest
  all_events_show level at none rest = refl
  all_events_show level at (more t ts) rest =
      events_show level at t (events_of_all (at + 8 + length (payload t)) ts rest)
      ∙ ap (λ lines. shown_tag level t ++ lines) (all_events_show level (at + 8 + length (payload t)) ts rest)
      ∙ sym (append_assoc (shown_tag level t) (shown_tags level ts) (shown_events level rest))
