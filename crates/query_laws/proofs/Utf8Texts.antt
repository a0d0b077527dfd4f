-- A query that reads from UTF-8 prints as UTF-8. UTF-8 can be cut around each ASCII byte, so the names and values in
-- the text are UTF-8, and so are the parts of the patterns. A byte of a character is no text by itself, so the elements
-- of a value are followed together with the bytes before them.
use Rattle.std.proofs.Common.{◌≡◌, ◌++◌, ◌+◌, ◌<◌, ◌==◌, ◌&&◌, ◌||◌, ℕ, List, [], ◌∷◌, map, length, get_or, take, drop, true, IsUtf8, Ok, refl, ap, sym, ◌∙◌, subst, inl, inr, append_assoc, arith, length-append}
use Rattle.std.specs.Bool.{⊤}
use Rattle.std.proofs.Math.Seq.{take-append_seam, drop-append_seam}
use Rattle.std.proofs.lemmas.Bool.{cases_Bool, or_cases, and_parts, cond-true, cond-false, eqb-true}
use Rattle.std.proofs.lemmas.List.{get_or_at}
use Rattle.std.proofs.lemmas.Str.{IsUtf8-append, IsUtf8-nil, IsUtf8-take, IsUtf8-drop, IsUtf8-from_ascii, IsCharBoundary-before_ascii, IsCharBoundary-after_ascii}
use Rattle.std.proofs.lemmas.Str.Ascii.{IsAscii-nil, IsAscii-cons}
use Rattle.item_model.specs.QueryTree.{QueryTree, condition, and_of, or_of, QueryTrees, no_queries, more_queries, queries_of}
use Rattle.item_model.specs.QuerySeen.{tree_of}
use Rattle.item_model.specs.declared.condition.Cond.{Cond}
use Rattle.item_model.specs.declared.condition.Op.{Op}
use Rattle.item_model.specs.declared.condition.Op.TheVariants.{Is, IsNot, Less, More}
use Rattle.item_model.specs.declared.query.Query.{Query}
use Rattle.song_query.specs.Answers.{Answers}
use Rattle.song_query.specs.Grammar.{blank, blanks, mark, Atom, plain, escaped, lone, print_atoms, piece_of, print_starred, print_op, print_value, UnitForm, cond, group, AndForm, one, more, OrForm, only, either, print_unit, print_and, print_or, joined, unit_meaning, units, members}
use Rattle.song_query.specs.Printing.{is_before_mark, is_escaped, printed_piece, printed_pieces, printed_more, printed_cond, printed, printed_unit, printed_member, printed_and, printed_and_more, printed_or, printed_or_more}
use Rattle.song_query.specs.Reading.{QueryReads}

-- what is before an ASCII byte is UTF-8, and what is after it
around : (xs ys : List ℕ) (b : ℕ) → b < 128 → IsUtf8 (xs ++ b ∷ ys) → IsUtf8 xs × IsUtf8 ys
around xs ys b small u =
    let text = xs ++ b ∷ ys in
    let at : get_or text (length xs) 0 ≡ b = get_or_at xs b ys 0 (length xs) refl in
    let low : get_or text (length xs) 0 < 128 = omega arith in
    let within : length xs < length text = omega (arith, length-append xs (b ∷ ys)) in
    let before : IsUtf8 (take (length xs) text) = IsUtf8-take text (length xs) u (IsCharBoundary-before_ascii text (length xs) within low) in
    let after : IsUtf8 (drop (length xs + 1) text) = IsUtf8-drop text (length xs + 1) u (IsCharBoundary-after_ascii text (length xs) u within low) in
    let count : length xs + 1 ≡ length (xs ++ b ∷ []) = sym (length-append xs (b ∷ [])) in
    let rest : drop (length xs + 1) text ≡ ys =
    ap (λ n. drop n text) count ∙ ap (drop (length (xs ++ b ∷ []))) (sym (append_assoc xs (b ∷ []) ys)) ∙ drop-append_seam (xs ++ b ∷ []) ys in
    (subst IsUtf8 (take-append_seam xs (b ∷ ys)) before, subst IsUtf8 rest after)

led : (b : ℕ) (xs : List ℕ) → b < 128 → IsUtf8 xs → IsUtf8 (b ∷ xs)
led b xs small u = IsUtf8-append (b ∷ []) xs (IsUtf8-from_ascii (b ∷ []) (IsAscii-cons b [] small IsAscii-nil)) u

-- the elements of a value, with the bytes before them
atoms_in : (front : List ℕ) (atoms : List Atom) → IsUtf8 (front ++ print_atoms atoms) → IsUtf8 (front ++ piece_of atoms)
atoms_in front [] u = u
atoms_in front (plain c ∷ atoms) u =
    subst IsUtf8 (append_assoc front (c ∷ []) (piece_of atoms))
    (atoms_in (front ++ c ∷ []) atoms (subst IsUtf8 (sym (append_assoc front (c ∷ []) (print_atoms atoms))) u))
atoms_in front (escaped m ∷ atoms) u =
    let cut = around front (mark m ∷ print_atoms atoms) 92 (omega arith) u in
    subst IsUtf8 (append_assoc front (mark m ∷ []) (piece_of atoms))
    (atoms_in (front ++ mark m ∷ []) atoms
    (subst IsUtf8 (sym (append_assoc front (mark m ∷ []) (print_atoms atoms))) (IsUtf8-append front (mark m ∷ print_atoms atoms) cut.0 cut.1)))
atoms_in front (lone c ∷ atoms) u =
    subst IsUtf8 (append_assoc front (92 ∷ c ∷ []) (piece_of atoms))
    (atoms_in (front ++ 92 ∷ c ∷ []) atoms (subst IsUtf8 (sym (append_assoc front (92 ∷ c ∷ []) (print_atoms atoms))) u))

abbrev AreTexts : List (List ℕ) → Type 0
AreTexts [] = ⊤
AreTexts (p ∷ ps) = IsUtf8 p × AreTexts ps

pieces_in : (starred : List (List Atom)) (last : List Atom) → IsUtf8 (print_starred starred ++ print_atoms last) → AreTexts (map piece_of starred ++ piece_of last ∷ [])
pieces_in [] last u = (atoms_in [] last u, tt)
pieces_in (p ∷ ps) last u =
    let cut = around (print_atoms p) (print_starred ps ++ print_atoms last) 42 (omega arith) (subst IsUtf8 (append_assoc (print_atoms p) (42 ∷ print_starred ps) (print_atoms last)) u) in
    (atoms_in [] p cut.0, pieces_in ps last cut.1)

-- the parts as they are printed
escaped_low : (c : ℕ) (rest : List ℕ) → is_escaped c rest ≡ true → c < 128
escaped_low c rest e =
    elim (or_cases (c == 39 || c == 42) (c == 92 && is_before_mark rest) e) [
      | inl a ↦ elim (or_cases (c == 39) (c == 42) a) [
        | inl b ↦ omega (arith, eqb-true c 39 b)
        | inr b ↦ omega (arith, eqb-true c 42 b)
      ]
      | inr a ↦ omega (arith, eqb-true c 92 (and_parts (c == 92) (is_before_mark rest) a).0)
    ]

piece_printed : (front piece : List ℕ) → IsUtf8 (front ++ piece) → IsUtf8 (front ++ printed_piece piece)
piece_printed front [] u = u
piece_printed front (c ∷ cs) u =
    elim (cases_Bool (is_escaped c cs)) [
      | inl e ↦
          let low = escaped_low c cs e in
          let cut = around front cs c low u in
          let whole : IsUtf8 (front ++ 92 ∷ c ∷ cs) = IsUtf8-append front (92 ∷ c ∷ cs) cut.0 (led 92 (c ∷ cs) (omega arith) (led c cs low cut.1)) in
          subst (λ b. IsUtf8 (front ++ (b ++ printed_piece cs))) (sym (cond-true (is_escaped c cs) (92 ∷ c ∷ []) (c ∷ []) e))
          (subst IsUtf8 (append_assoc front (92 ∷ c ∷ []) (printed_piece cs))
          (piece_printed (front ++ 92 ∷ c ∷ []) cs (subst IsUtf8 (sym (append_assoc front (92 ∷ c ∷ []) cs)) whole)))
      | inr e ↦
          subst (λ b. IsUtf8 (front ++ (b ++ printed_piece cs))) (sym (cond-false (is_escaped c cs) (92 ∷ c ∷ []) (c ∷ []) e))
          (subst IsUtf8 (append_assoc front (c ∷ []) (printed_piece cs))
          (piece_printed (front ++ c ∷ []) cs (subst IsUtf8 (sym (append_assoc front (c ∷ []) cs)) u)))
    ]

more_printed : (ps : List (List ℕ)) → AreTexts ps → IsUtf8 (printed_more ps)
more_printed [] h = IsUtf8-nil
more_printed (p ∷ ps) h =
    led 42 (printed_piece p ++ printed_more ps) (omega arith) (IsUtf8-append (printed_piece p) (printed_more ps) (piece_printed [] p h.0) (more_printed ps h.1))

pieces_printed : (ps : List (List ℕ)) → AreTexts ps → IsUtf8 (printed_pieces ps)
pieces_printed [] h = IsUtf8-nil
pieces_printed (p ∷ ps) h = IsUtf8-append (printed_piece p) (printed_more ps) (piece_printed [] p h.0) (more_printed ps h.1)

op_printed : (op : Op) (xs : List ℕ) → IsUtf8 xs → IsUtf8 (print_op op ++ xs)
op_printed Is xs u = led 58 xs (omega arith) u
op_printed IsNot xs u = led 33 (58 ∷ xs) (omega arith) (led 58 xs (omega arith) u)
op_printed Less xs u = led 60 (58 ∷ xs) (omega arith) (led 58 xs (omega arith) u)
op_printed More xs u = led 62 (58 ∷ xs) (omega arith) (led 58 xs (omega arith) u)

-- the names and patterns of a query are UTF-8
abbrev mutual
  HasTexts : QueryTree → Type 0
  HasTexts (condition c) = IsUtf8 c.name × AreTexts c.pattern
  HasTexts (and_of qs) = HaveTexts qs
  HasTexts (or_of qs) = HaveTexts qs

  HaveTexts : QueryTrees → Type 0
  HaveTexts no_queries = ⊤
  HaveTexts (more_queries q qs) = HasTexts q × HaveTexts qs

cond_printed : (c : Cond) → HasTexts (condition c) → IsUtf8 (printed_cond c)
cond_printed c h =
    let value = IsUtf8-append (printed_pieces c.pattern) (39 ∷ []) (pieces_printed c.pattern h.1) (led 39 [] (omega arith) IsUtf8-nil) in
    led 39 _ (omega arith) (IsUtf8-append c.name _ h.0 (op_printed c.op (printed_pieces c.pattern ++ 39 ∷ []) value))

closed : (xs : List ℕ) → IsUtf8 xs → IsUtf8 (40 ∷ (xs ++ 41 ∷ []))
closed xs u = led 40 (xs ++ 41 ∷ []) (omega arith) (IsUtf8-append xs (41 ∷ []) u (led 41 [] (omega arith) IsUtf8-nil))

mutual
  unit_printed : (q : QueryTree) → HasTexts q → IsUtf8 (printed_unit q)
  unit_printed (condition c) h = cond_printed c h
  unit_printed (and_of qs) h = closed (printed_and qs) (and_printed qs h)
  unit_printed (or_of qs) h = closed (printed_or qs) (or_printed qs h)

  member_printed : (q : QueryTree) → HasTexts q → IsUtf8 (printed_member q)
  member_printed (condition c) h = cond_printed c h
  member_printed (and_of qs) h = and_printed qs h
  member_printed (or_of qs) h = closed (printed_or qs) (or_printed qs h)

  and_printed : (qs : QueryTrees) → HaveTexts qs → IsUtf8 (printed_and qs)
  and_printed no_queries h = IsUtf8-nil
  and_printed (more_queries q qs) h = IsUtf8-append (printed_unit q) (printed_and_more qs) (unit_printed q h.0) (and_more_printed qs h.1)

  and_more_printed : (qs : QueryTrees) → HaveTexts qs → IsUtf8 (printed_and_more qs)
  and_more_printed no_queries h = IsUtf8-nil
  and_more_printed (more_queries q qs) h =
      led 32 _ (omega arith) (IsUtf8-append (printed_unit q) (printed_and_more qs) (unit_printed q h.0) (and_more_printed qs h.1))

  or_printed : (qs : QueryTrees) → HaveTexts qs → IsUtf8 (printed_or qs)
  or_printed no_queries h = IsUtf8-nil
  or_printed (more_queries q qs) h = IsUtf8-append (printed_member q) (printed_or_more qs) (member_printed q h.0) (or_more_printed qs h.1)

  or_more_printed : (qs : QueryTrees) → HaveTexts qs → IsUtf8 (printed_or_more qs)
  or_more_printed no_queries h = IsUtf8-nil
  or_more_printed (more_queries q qs) h =
      led 44 _ (omega arith) (IsUtf8-append (printed_member q) (printed_or_more qs) (member_printed q h.0) (or_more_printed qs h.1))

query_printed : (q : QueryTree) → HasTexts q → IsUtf8 (printed q)
query_printed (condition c) h = cond_printed c h
query_printed (and_of qs) h = and_printed qs h
query_printed (or_of qs) h = or_printed qs h

-- bytes that stand in a text
record IsPart (bytes text : List ℕ) : Type 0 where
  front : List ℕ
  back : List ℕ
  is : text ≡ front ++ (bytes ++ back)

left : {text : List ℕ} (xs ys : List ℕ) → IsPart (xs ++ ys) text → IsPart xs text
left xs ys p = record { front = p.front; back = ys ++ p.back; is = p.is ∙ ap (λ z. p.front ++ z) (append_assoc xs ys p.back) }

right : {text : List ℕ} (xs ys : List ℕ) → IsPart (xs ++ ys) text → IsPart ys text
right xs ys p = record {
  front = p.front ++ xs;
  back = p.back;
  is = p.is ∙ ap (λ z. p.front ++ z) (append_assoc xs ys p.back) ∙ sym (append_assoc p.front xs (ys ++ p.back));
}

between : {text : List ℕ} (a b : ℕ) (xs ys : List ℕ) → a < 128 → b < 128 → IsUtf8 text → IsPart (a ∷ (xs ++ b ∷ ys)) text → IsUtf8 xs
between a b xs ys first last u p =
    let after = (around p.front ((xs ++ b ∷ ys) ++ p.back) a first (subst IsUtf8 p.is u)).1 in
    (around xs (ys ++ p.back) b last (subst IsUtf8 (append_assoc xs (b ∷ ys) p.back) after)).0

-- the name and the value of a condition, around an operator of two characters
cond_around : {text : List ℕ} (name : List ℕ) (b : ℕ) (value : List ℕ) → b < 128 → IsUtf8 text → IsPart (39 ∷ (name ++ (b ∷ 58 ∷ (value ++ 39 ∷ [])))) text
    → IsUtf8 name × IsUtf8 value
cond_around name b value small u p =
    let rest = 58 ∷ (value ++ 39 ∷ []) in
    (between 39 b name rest (omega arith) small u p, between 58 39 value [] (omega arith) (omega arith) u (right (b ∷ []) rest (right (39 ∷ name) (b ∷ rest) p)))

-- around any operator
cond_in : {text : List ℕ} (name : List ℕ) (op : Op) (value : List ℕ) → IsUtf8 text → IsPart (39 ∷ (name ++ (print_op op ++ (value ++ 39 ∷ [])))) text
    → IsUtf8 name × IsUtf8 value
cond_in name Is value u p =
    let rest = value ++ 39 ∷ [] in
    (between 39 58 name rest (omega arith) (omega arith) u p, between 58 39 value [] (omega arith) (omega arith) u (right (39 ∷ name) (58 ∷ rest) p))
cond_in name IsNot value u p = cond_around name 33 value (omega arith) u p
cond_in name Less value u p = cond_around name 60 value (omega arith) u p
cond_in name More value u p = cond_around name 62 value (omega arith) u p

abbrev EachHasTexts : List QueryTree → Type 0
EachHasTexts [] = ⊤
EachHasTexts (q ∷ qs) = HasTexts q × EachHasTexts qs

with_last : (qs : List QueryTree) (q : QueryTree) → EachHasTexts qs → HasTexts q → EachHasTexts (qs ++ q ∷ [])
with_last [] q h k = (k, tt)
with_last (p ∷ qs) q h k = (h.0, with_last qs q h.1 k)

all_of : (qs : List QueryTree) → EachHasTexts qs → HaveTexts (queries_of qs)
all_of [] h = tt
all_of (q ∷ qs) h = (h.0, all_of qs h.1)

and_joined : (qs : List QueryTree) → EachHasTexts qs → HasTexts (joined and_of qs)
and_joined [] h = tt
and_joined (q ∷ []) h = h.0
and_joined (q ∷ r ∷ qs) h = all_of (q ∷ r ∷ qs) h

or_joined : (qs : List QueryTree) → EachHasTexts qs → HasTexts (joined or_of qs)
or_joined [] h = tt
or_joined (q ∷ []) h = h.0
or_joined (q ∷ r ∷ qs) h = all_of (q ∷ r ∷ qs) h

-- the query that a form in UTF-8 means
mutual
  unit_in : {text : List ℕ} (u : UnitForm) → IsUtf8 text → IsPart (print_unit u) text → HasTexts (unit_meaning u)
  unit_in (cond c) t p =
      let h = cond_in (c.first ∷ c.rest) c.op (print_value c.value) t p in
      (h.0, pieces_in c.value.starred c.value.last h.1)
  unit_in (group g o h) t p =
      or_joined (members o) (members_in o t (left (print_or o) (blanks h ++ 41 ∷ []) (right (40 ∷ blanks g) (print_or o ++ (blanks h ++ 41 ∷ [])) p)))

  units_in : {text : List ℕ} (a : AndForm) → IsUtf8 text → IsPart (print_and a) text → EachHasTexts (units a)
  units_in (one u) t p = (unit_in u t p, tt)
  units_in (more a b g u) t p =
      let last = right (blank b ∷ blanks g) (print_unit u) (right (print_and a) (blank b ∷ (blanks g ++ print_unit u)) p) in
      with_last (units a) (unit_meaning u) (units_in a t (left (print_and a) (blank b ∷ (blanks g ++ print_unit u)) p)) (unit_in u t last)

  members_in : {text : List ℕ} (o : OrForm) → IsUtf8 text → IsPart (print_or o) text → EachHasTexts (members o)
  members_in (only a) t p = (and_joined (units a) (units_in a t p), tt)
  members_in (either o g h a) t p =
      let behind = right (blanks g) (44 ∷ (blanks h ++ print_and a)) (right (print_or o) (blanks g ++ 44 ∷ (blanks h ++ print_and a)) p) in
      with_last (members o) (joined and_of (units a))
      (members_in o t (left (print_or o) (blanks g ++ 44 ∷ (blanks h ++ print_and a)) p))
      (and_joined (units a) (units_in a t (right (44 ∷ blanks h) (print_and a) behind)))

texts_in : (text : List ℕ) (query : QueryTree) → IsUtf8 text → QueryReads text query → HasTexts query
texts_in text query u r =
    let form = r.form in
    let whole : IsPart (print_or form.body) text = record { front = blanks form.front; back = blanks form.back; is = r.spelled } in
    subst HasTexts (sym r.means) (or_joined (members form.body) (members_in form.body u whole))

-- a query that a text in UTF-8 reads as is printed in UTF-8
pub printed_in_utf8 : (text : List ℕ) (query : Query) → IsUtf8 text → Answers text (Ok query) → IsUtf8 (printed (tree_of query))
printed_in_utf8 text query u answered = query_printed (tree_of query) (texts_in text (tree_of query) u answered.1)
