-- No text that reads as a query is shorter than the printed one.
use Rattle.std.proofs.Common.{◌≢◌, if◌then◌else◌, ◌≡◌, ◌≤◌, ◌+◌, ◌++◌, ℕ, suc, Bool, true, false, not, List, [], ◌∷◌, map, length, refl, ap, arith, length-append}
use Rattle.std.proofs.lemmas.Bool.{and_parts, cond-false}
use Rattle.item_model.specs.Proper.{is_name_byte, are_name_bytes}
use Rattle.item_model.specs.QueryTree.{QueryTree, condition, and_of, or_of, queries_of}
use Rattle.song_query.specs.Grammar.{blank, blanks, mark, is_mark, Atom, plain, escaped, lone, print_atoms, piece_of, are_atoms, print_starred, are_pieces, print_value, value_pieces, is_value, print_op, CondForm, print_cond, cond_meaning, is_cond, UnitForm, cond, group, AndForm, one, more, OrForm, only, either, print_unit, print_and, print_or, joined, unit_meaning, units, members, is_unit, is_and, is_or, print_query}
use Rattle.song_query.specs.Printing.{is_escaped, printed_byte, printed_piece, printed_pieces, printed_more, printed_cond, printed, printed_unit, printed_member, printed_and, printed_and_more, printed_or, printed_or_more}
use Rattle.song_query.specs.Reading.{QueryReads}
use Rattle.song_query.proofs.Complete.{not_true}
use Rattle.song_query.proofs.Forms.{plain_printed}

short : (b : Bool) (x y : List ℕ) → length x ≤ 2 → length y ≤ 2 → length (if b then x else y) ≤ 2
short true x y h k = h
short false x y h k = k

two_at_most : (c : ℕ) (rest : List ℕ) → length (printed_byte c rest) ≤ 2
two_at_most c rest = short (is_escaped c rest) (92 ∷ c ∷ []) (c ∷ []) (omega arith) (omega arith)

one_byte : (c : ℕ) (rest : List ℕ) → is_mark c ≡ false → length (printed_byte c rest) ≡ 1
one_byte c rest h = ap length (plain_printed c rest h)

lone_byte : (c : ℕ) (rest : List ℕ) → is_mark c ≡ false → length (printed_byte 92 (c ∷ rest)) ≡ 1
lone_byte c rest h = ap length (let e : printed_byte 92 (c ∷ rest) ≡ 92 ∷ [] = cond-false _ _ _ h in e)

-- no atoms write a part with fewer bytes
piece_least : (atoms : List Atom) → are_atoms atoms ≡ true → length (printed_piece (piece_of atoms)) ≤ length (print_atoms atoms)
piece_least [] h = omega arith
piece_least (plain c ∷ atoms) h =
    let parts = and_parts (not (is_mark c)) (are_atoms atoms) h in
    omega (arith, one_byte c (piece_of atoms) (not_true _ parts.0), length-append (printed_byte c (piece_of atoms)) (printed_piece (piece_of atoms)), piece_least atoms parts.1)
piece_least (escaped m ∷ atoms) h =
    omega (arith, two_at_most (mark m) (piece_of atoms), length-append (printed_byte (mark m) (piece_of atoms)) (printed_piece (piece_of atoms)), piece_least atoms h)
piece_least (lone c ∷ atoms) h =
    let parts = and_parts (not (is_mark c)) (are_atoms atoms) h in
    let rest = piece_of atoms in
    omega (
      arith,
      lone_byte c rest (not_true _ parts.0),
      one_byte c rest (not_true _ parts.0),
      length-append (printed_byte 92 (c ∷ rest)) (printed_piece (c ∷ rest)),
      length-append (printed_byte c rest) (printed_piece rest),
      piece_least atoms parts.1,
    )

-- after a star, and as the first parts
more_least : (starred : List (List Atom)) (last : List Atom) → are_pieces starred ≡ true → are_atoms last ≡ true
    → length (printed_more (map piece_of starred ++ piece_of last ∷ [])) ≤ length (print_starred starred) + length (print_atoms last) + 1
more_least [] last h k = omega (arith, piece_least last k, length-append (printed_piece (piece_of last)) [])
more_least (p ∷ starred) last h k =
    let parts = and_parts (are_atoms p) (are_pieces starred) h in
    let rest = map piece_of starred ++ piece_of last ∷ [] in
    omega (arith, piece_least p parts.0, more_least starred last parts.1 k, length-append (printed_piece (piece_of p)) (printed_more rest), length-append (print_atoms p) (42 ∷ print_starred starred))

value_least : (starred : List (List Atom)) (last : List Atom) → are_pieces starred ≡ true → are_atoms last ≡ true
    → length (printed_pieces (map piece_of starred ++ piece_of last ∷ [])) ≤ length (print_starred starred ++ print_atoms last)
value_least [] last h k = omega (arith, piece_least last k, length-append (printed_piece (piece_of last)) [])
value_least (p ∷ starred) last h k =
    let parts = and_parts (are_atoms p) (are_pieces starred) h in
    let rest = map piece_of starred ++ piece_of last ∷ [] in
    omega (
      arith,
      piece_least p parts.0,
      more_least starred last parts.1 k,
      length-append (printed_piece (piece_of p)) (printed_more rest),
      length-append (print_atoms p) (42 ∷ print_starred starred),
      length-append (print_starred (p ∷ starred)) (print_atoms last),
    )

cond_least : (c : CondForm) → is_cond c ≡ true → length (printed_cond (cond_meaning c)) ≤ length (print_cond c)
cond_least c h =
    let parts = and_parts (are_name_bytes c.rest) (is_value c.value) (and_parts (is_name_byte c.first) _ h).1 in
    let value = and_parts (are_pieces c.value.starred) (are_atoms c.value.last) parts.1 in
    let name = c.first ∷ c.rest in
    let pieces = value_pieces c.value in
    omega (
      arith,
      value_least c.value.starred c.value.last value.0 value.1,
      length-append name (print_op c.op ++ (printed_pieces pieces ++ 39 ∷ [])),
      length-append (print_op c.op) (printed_pieces pieces ++ 39 ∷ []),
      length-append (printed_pieces pieces) (39 ∷ []),
      length-append c.rest (print_op c.op ++ (print_value c.value ++ 39 ∷ [])),
      length-append (print_op c.op) (print_value c.value ++ 39 ∷ []),
      length-append (print_value c.value) (39 ∷ []),
    )

-- the bytes of queries as units or members, each followed by a blank or a comma
units_total : List QueryTree → ℕ
units_total [] = 0
units_total (q ∷ qs) = suc (length (printed_unit q) + units_total qs)

members_total : List QueryTree → ℕ
members_total [] = 0
members_total (q ∷ qs) = suc (length (printed_member q) + members_total qs)

units_total_one : (q : QueryTree) → units_total (q ∷ []) ≡ suc (length (printed_unit q))
unfolding units_total
units_total_one q = omega arith

members_total_one : (q : QueryTree) → members_total (q ∷ []) ≡ suc (length (printed_member q))
unfolding members_total
members_total_one q = omega arith

units_total_append : (qs : List QueryTree) (q : QueryTree) → units_total (qs ++ q ∷ []) ≡ units_total qs + suc (length (printed_unit q))
unfolding units_total
units_total_append [] q = omega arith
units_total_append (r ∷ qs) q = omega (arith, units_total_append qs q)

members_total_append : (qs : List QueryTree) (q : QueryTree) → members_total (qs ++ q ∷ []) ≡ members_total qs + suc (length (printed_member q))
unfolding members_total
members_total_append [] q = omega arith
members_total_append (r ∷ qs) q = omega (arith, members_total_append qs q)

and_more_total : (qs : List QueryTree) → length (printed_and_more (queries_of qs)) ≡ units_total qs
unfolding units_total
and_more_total [] = refl
and_more_total (q ∷ qs) = omega (arith, and_more_total qs, length-append (printed_unit q) (printed_and_more (queries_of qs)))

or_more_total : (qs : List QueryTree) → length (printed_or_more (queries_of qs)) ≡ members_total qs
unfolding members_total
or_more_total [] = refl
or_more_total (q ∷ qs) = omega (arith, or_more_total qs, length-append (printed_member q) (printed_or_more (queries_of qs)))

and_total : (q : QueryTree) (qs : List QueryTree) → suc (length (printed_and (queries_of (q ∷ qs)))) ≡ units_total (q ∷ qs)
unfolding units_total
and_total q qs = omega (arith, and_more_total qs, length-append (printed_unit q) (printed_and_more (queries_of qs)))

or_total : (q : QueryTree) (qs : List QueryTree) → suc (length (printed_or (queries_of (q ∷ qs)))) ≡ members_total (q ∷ qs)
unfolding members_total
or_total q qs = omega (arith, or_more_total qs, length-append (printed_member q) (printed_or_more (queries_of qs)))

-- parentheses add two bytes
unit_parens : (q : QueryTree) → length (printed_unit q) ≤ length (printed q) + 2
unit_parens (condition c) = omega arith
unit_parens (and_of qs) = omega (arith, length-append (printed_and qs) (41 ∷ []))
unit_parens (or_of qs) = omega (arith, length-append (printed_or qs) (41 ∷ []))

member_le_unit : (q : QueryTree) → length (printed_member q) ≤ length (printed_unit q)
member_le_unit (condition c) = omega arith
member_le_unit (and_of qs) = omega (arith, length-append (printed_and qs) (41 ∷ []))
member_le_unit (or_of qs) = omega arith

whole_le_member : (q : QueryTree) → length (printed q) ≤ length (printed_member q)
whole_le_member (condition c) = omega arith
whole_le_member (and_of qs) = omega arith
whole_le_member (or_of qs) = omega (arith, length-append (printed_or qs) (41 ∷ []))

-- several units, joined, as a member; several members, joined, as a whole
joined_units : (us : List QueryTree) (n : ℕ) → units_total us ≤ suc n → length us ≢ 0 → length (printed_member (joined and_of us)) ≤ n
unfolding units_total
joined_units [] n h k = absurd (k refl)
joined_units (q ∷ []) n h k = omega (arith, member_le_unit q)
joined_units (q ∷ r ∷ us) n h k = omega (arith, and_total q (r ∷ us))

joined_members : (ms : List QueryTree) (n : ℕ) → members_total ms ≤ suc n → length ms ≢ 0 → length (printed (joined or_of ms)) ≤ n
unfolding members_total
joined_members [] n h k = absurd (k refl)
joined_members (q ∷ []) n h k = omega (arith, whole_le_member q)
joined_members (q ∷ r ∷ ms) n h k = omega (arith, or_total q (r ∷ ms))

pub some_units : (a : AndForm) → length (units a) ≢ 0
some_units (one u) h = absurd (omega arith)
some_units (more a b g u) h = absurd (omega (arith, length-append (units a) (unit_meaning u ∷ [])))

pub some_members : (o : OrForm) → length (members o) ≢ 0
some_members (only a) h = absurd (omega arith)
some_members (either o g k a) h = absurd (omega (arith, length-append (members o) (joined and_of (units a) ∷ [])))

mutual
  unit_least : (u : UnitForm) → is_unit u ≡ true → length (printed_unit (unit_meaning u)) ≤ length (print_unit u)
  unit_least (cond c) h = cond_least c h
  unit_least (group g o k) h =
      omega (arith, unit_parens (joined or_of (members o)), joined_members (members o) (length (print_or o)) (members_least o h) (some_members o), length-append (blanks g) (print_or o ++ (blanks k ++ 41 ∷ [])), length-append (print_or o) (blanks k ++ 41 ∷ []), length-append (blanks k) (41 ∷ []))

  units_least : (a : AndForm) → is_and a ≡ true → units_total (units a) ≤ suc (length (print_and a))
  units_least (one u) h = omega (arith, units_total_one (unit_meaning u), unit_least u h)
  units_least (more a b g u) h =
      let parts = and_parts (is_and a) (is_unit u) h in
      omega (
        arith,
        units_least a parts.0,
        unit_least u parts.1,
        units_total_append (units a) (unit_meaning u),
        length-append (print_and a) (blank b ∷ (blanks g ++ print_unit u)),
        length-append (blanks g) (print_unit u),
      )

  members_least : (o : OrForm) → is_or o ≡ true → members_total (members o) ≤ suc (length (print_or o))
  members_least (only a) h =
      omega (arith, members_total_one (joined and_of (units a)), joined_units (units a) (length (print_and a)) (units_least a h) (some_units a))
  members_least (either o g k a) h =
      let parts = and_parts (is_or o) (is_and a) h in
      omega (
        arith,
        members_least o parts.0,
        joined_units (units a) (length (print_and a)) (units_least a parts.1) (some_units a),
        members_total_append (members o) (joined and_of (units a)),
        length-append (print_or o) (blanks g ++ 44 ∷ (blanks k ++ print_and a)),
        length-append (blanks g) (44 ∷ (blanks k ++ print_and a)),
        length-append (blanks k) (print_and a),
      )

or_least : (o : OrForm) → is_or o ≡ true → length (printed (joined or_of (members o))) ≤ length (print_or o)
or_least o h = joined_members (members o) (length (print_or o)) (members_least o h) (some_members o)

-- the printed text is the shortest
pub text_least : (text : List ℕ) (q : QueryTree) → QueryReads text q → length (printed q) ≤ length text
text_least text q r =
    let f = r.form in
    let e : length text ≡ length (print_query f) = ap length r.spelled in
    let m : length (printed q) ≡ length (printed (joined or_of (members f.body))) = ap (λ x. length (printed x)) r.means in
    omega (arith, or_least f.body r.valid, length-append (blanks f.front) (print_or f.body ++ blanks f.back), length-append (print_or f.body) (blanks f.back))
