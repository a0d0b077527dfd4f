-- The parentheses that are open at once in a text are those of its form.
use Rattle.std.proofs.Common.{◌≡◌, ◌≤◌, ◌+◌, ◌-◌, ◌++◌, ◌&&◌, ◌||◌, ◌==◌, ℕ, suc, max, true, false, List, [], ◌∷◌, refl, ap, sym, ◌∙◌, append_assoc, append-nil, arith}
use Rattle.std.proofs.lemmas.Bool.{and_parts, cond-false, or_parts}
use Rattle.item_model.specs.Proper.{is_name_byte, are_name_bytes}
use Rattle.item_model.specs.QueryTree.{QueryTree, or_of}
use Rattle.item_model.specs.Proper.{is_proper}
use Rattle.item_model.specs.declared.condition.Op.{Op}
use Rattle.item_model.specs.declared.condition.Op.TheVariants.{Is, IsNot, Less, More}
use Rattle.song_query.specs.Grammar.{Blank, space, plus, blank, blanks, mark, is_mark, Atom, plain, escaped, lone, print_atoms, are_atoms, print_starred, are_pieces, Value, print_value, is_value, print_op, CondForm, print_cond, is_cond, UnitForm, cond as condition_form, group, AndForm, one, more, OrForm, only, either, print_unit, print_and, print_or, is_unit, is_and, is_or, QueryForm, print_query, joined, members}
use Rattle.song_query.specs.Reading.{QueryReads}
use Rattle.song_query.specs.Nesting.{Where, outside, inside, behind, where_next, open_next, most_open, deepest}
use Rattle.song_query.specs.Printing.{printed}
use Rattle.song_query.proofs.Depths.{unit_depth, and_depth, or_depth, depth}
use Rattle.song_query.proofs.Complete.{not_true}
use Rattle.song_query.proofs.Forms.{text_for}
use Rattle.song_query.proofs.Shallowest.{form_shallow}
use Rattle.song_query.proofs.Nested.{name_inside}

-- the maximum in bytes is at least the number open before them
pub at_least : (w : Where) (n : ℕ) (bytes : List ℕ) → n ≤ most_open w n bytes
at_least w n [] = omega arith
at_least w n (c ∷ cs) = omega arith

-- a byte that opens and closes nothing
stays : (w v : Where) (n c : ℕ) (rest : List ℕ) → where_next w c ≡ v → open_next w n c ≡ n → most_open w n (c ∷ rest) ≡ most_open v n rest
stays w v n c rest h k =
    let a : most_open (where_next w c) (open_next w n c) rest ≡ most_open v n rest =
    ap (λ x. most_open x (open_next w n c) rest) h ∙ ap (λ m. most_open v m rest) k in
    omega (arith, at_least v n rest)

gap_peak : (g : List Blank) (n : ℕ) (rest : List ℕ) → most_open outside n (blanks g ++ rest) ≡ most_open outside n rest
gap_peak [] n rest = refl
gap_peak (space ∷ g) n rest = stays outside outside n 32 (blanks g ++ rest) refl refl ∙ gap_peak g n rest
gap_peak (plus ∷ g) n rest = stays outside outside n 43 (blanks g ++ rest) refl refl ∙ gap_peak g n rest

blank_peak : (b : Blank) (n : ℕ) (rest : List ℕ) → most_open outside n (blank b ∷ rest) ≡ most_open outside n rest
blank_peak space n rest = stays outside outside n 32 rest refl refl
blank_peak plus n rest = stays outside outside n 43 rest refl refl

name_peak : (cs : List ℕ) (n : ℕ) (rest : List ℕ) → are_name_bytes cs ≡ true → most_open inside n (cs ++ rest) ≡ most_open inside n rest
name_peak [] n rest h = refl
name_peak (c ∷ cs) n rest h =
    let parts = and_parts _ _ h in
    stays inside inside n c (cs ++ rest) (name_inside c parts.0) refl ∙ name_peak cs n rest parts.1

op_peak : (o : Op) (n : ℕ) (rest : List ℕ) → most_open inside n (print_op o ++ rest) ≡ most_open inside n rest
op_peak Is n rest = stays inside inside n 58 rest refl refl
op_peak IsNot n rest = stays inside inside n 33 (58 ∷ rest) refl refl ∙ stays inside inside n 58 rest refl refl
op_peak Less n rest = stays inside inside n 60 (58 ∷ rest) refl refl ∙ stays inside inside n 58 rest refl refl
op_peak More n rest = stays inside inside n 62 (58 ∷ rest) refl refl ∙ stays inside inside n 58 rest refl refl

plain_inside : (c : ℕ) → is_mark c ≡ false → where_next inside c ≡ inside
plain_inside c h =
    let a = or_parts (c == 39) (c == 92 || c == 42) h in
    let b = or_parts (c == 92) (c == 42) a.1 in
    cond-false _ _ _ a.0 ∙ cond-false _ _ _ b.0

atoms_peak : (atoms : List Atom) (n : ℕ) (rest : List ℕ) → are_atoms atoms ≡ true → most_open inside n (print_atoms atoms ++ rest) ≡ most_open inside n rest
atoms_peak [] n rest h = refl
atoms_peak (plain c ∷ atoms) n rest h =
    let parts = and_parts _ _ h in
    stays inside inside n c (print_atoms atoms ++ rest) (plain_inside c (not_true _ parts.0)) refl ∙ atoms_peak atoms n rest parts.1
atoms_peak (escaped m ∷ atoms) n rest h =
    stays inside behind n 92 (mark m ∷ (print_atoms atoms ++ rest)) refl refl
    ∙ stays behind inside n (mark m) (print_atoms atoms ++ rest) refl refl
    ∙ atoms_peak atoms n rest h
atoms_peak (lone c ∷ atoms) n rest h =
    let parts = and_parts _ _ h in
    stays inside behind n 92 (c ∷ (print_atoms atoms ++ rest)) refl refl
    ∙ stays behind inside n c (print_atoms atoms ++ rest) refl refl
    ∙ atoms_peak atoms n rest parts.1

-- two parts, one after the other
split : (w : Where) (n : ℕ) (a b rest : List ℕ) → most_open w n ((a ++ b) ++ rest) ≡ most_open w n (a ++ (b ++ rest))
split w n a b rest = ap (most_open w n) (append_assoc a b rest)

starred_peak : (starred : List (List Atom)) (n : ℕ) (rest : List ℕ) → are_pieces starred ≡ true → most_open inside n (print_starred starred ++ rest) ≡ most_open inside n rest
starred_peak [] n rest h = refl
starred_peak (p ∷ starred) n rest h =
    let parts = and_parts _ _ h in
    split inside n (print_atoms p) (42 ∷ print_starred starred) rest
    ∙ atoms_peak p n (42 ∷ (print_starred starred ++ rest)) parts.0
    ∙ stays inside inside n 42 (print_starred starred ++ rest) refl refl
    ∙ starred_peak starred n rest parts.1

value_peak : (v : Value) (n : ℕ) (rest : List ℕ) → is_value v ≡ true → most_open inside n (print_value v ++ rest) ≡ most_open inside n rest
value_peak v n rest h =
    let parts = and_parts (are_pieces v.starred) (are_atoms v.last) h in
    split inside n (print_starred v.starred) (print_atoms v.last) rest
    ∙ starred_peak v.starred n (print_atoms v.last ++ rest) parts.0
    ∙ atoms_peak v.last n rest parts.1

-- a condition opens nothing
cond_peak : (c : CondForm) (n : ℕ) (rest : List ℕ) → is_cond c ≡ true → most_open outside n (print_cond c ++ rest) ≡ most_open outside n rest
cond_peak c n rest h =
    let parts = and_parts (is_name_byte c.first) (are_name_bytes c.rest && is_value c.value) h in
    let more_ = and_parts (are_name_bytes c.rest) (is_value c.value) parts.1 in
    stays outside inside n 39 ((c.first ∷ (c.rest ++ (print_op c.op ++ (print_value c.value ++ 39 ∷ [])))) ++ rest) refl refl
    ∙ stays inside inside n c.first ((c.rest ++ (print_op c.op ++ (print_value c.value ++ 39 ∷ []))) ++ rest) (name_inside c.first parts.0) refl
    ∙ split inside n c.rest (print_op c.op ++ (print_value c.value ++ 39 ∷ [])) rest
    ∙ name_peak c.rest n ((print_op c.op ++ (print_value c.value ++ 39 ∷ [])) ++ rest) more_.0
    ∙ split inside n (print_op c.op) (print_value c.value ++ 39 ∷ []) rest
    ∙ op_peak c.op n ((print_value c.value ++ 39 ∷ []) ++ rest)
    ∙ split inside n (print_value c.value) (39 ∷ []) rest
    ∙ value_peak c.value n (39 ∷ rest) more_.1
    ∙ stays inside outside n 39 rest refl refl

flat : (n m : ℕ) → n ≤ m → m ≡ max (n + 0) m
flat n m h = omega arith

-- parentheses around something of depth d
around : (n d m x : ℕ) → n ≤ m → x ≡ max (n + 1 + d) (max (n + 1) m) → max n x ≡ max (n + suc d) m
around n d m x h e = omega arith

-- one part after another
behind_it : (n d e m x : ℕ) → x ≡ max (n + e) m → max (n + d) x ≡ max (n + max d e) m
behind_it n d e m x h = omega arith

-- a closing parenthesis
shut_peak : (n : ℕ) (rest : List ℕ) → most_open outside (n + 1) (41 ∷ rest) ≡ max (n + 1) (most_open outside n rest)
shut_peak n rest =
    let e : n + 1 - 1 ≡ n = omega arith in
    ap (λ m. max (n + 1) (most_open outside m rest)) e

mutual
  unit_peak : (u : UnitForm) (n : ℕ) (rest : List ℕ) → is_unit u ≡ true → most_open outside n (print_unit u ++ rest) ≡ max (n + unit_depth u) (most_open outside n rest)
  unit_peak (condition_form c) n rest h = cond_peak c n rest h ∙ flat n (most_open outside n rest) (at_least outside n rest)
  unit_peak (group g o k) n rest h =
      around n (or_depth o) (most_open outside n rest) (most_open outside (n + 1) ((blanks g ++ (print_or o ++ (blanks k ++ 41 ∷ []))) ++ rest)) (at_least outside n rest)
      (split outside (n + 1) (blanks g) (print_or o ++ (blanks k ++ 41 ∷ [])) rest
      ∙ gap_peak g (n + 1) ((print_or o ++ (blanks k ++ 41 ∷ [])) ++ rest)
      ∙ split outside (n + 1) (print_or o) (blanks k ++ 41 ∷ []) rest
      ∙ or_peak o (n + 1) ((blanks k ++ 41 ∷ []) ++ rest) h
      ∙ ap (max (n + 1 + or_depth o)) (split outside (n + 1) (blanks k) (41 ∷ []) rest ∙ gap_peak k (n + 1) (41 ∷ rest) ∙ shut_peak n rest))

  and_peak : (a : AndForm) (n : ℕ) (rest : List ℕ) → is_and a ≡ true → most_open outside n (print_and a ++ rest) ≡ max (n + and_depth a) (most_open outside n rest)
  and_peak (one u) n rest h = unit_peak u n rest h
  and_peak (more a b g u) n rest h =
      let parts = and_parts (is_and a) (is_unit u) h in
      split outside n (print_and a) (blank b ∷ (blanks g ++ print_unit u)) rest
      ∙ and_peak a n (blank b ∷ ((blanks g ++ print_unit u) ++ rest)) parts.0
      ∙ behind_it n (and_depth a) (unit_depth u) (most_open outside n rest) (most_open outside n (blank b ∷ ((blanks g ++ print_unit u) ++ rest)))
      (blank_peak b n ((blanks g ++ print_unit u) ++ rest)
      ∙ split outside n (blanks g) (print_unit u) rest
      ∙ gap_peak g n (print_unit u ++ rest)
      ∙ unit_peak u n rest parts.1)

  or_peak : (o : OrForm) (n : ℕ) (rest : List ℕ) → is_or o ≡ true → most_open outside n (print_or o ++ rest) ≡ max (n + or_depth o) (most_open outside n rest)
  or_peak (only a) n rest h = and_peak a n rest h
  or_peak (either o g k a) n rest h =
      let parts = and_parts (is_or o) (is_and a) h in
      split outside n (print_or o) (blanks g ++ 44 ∷ (blanks k ++ print_and a)) rest
      ∙ or_peak o n ((blanks g ++ 44 ∷ (blanks k ++ print_and a)) ++ rest) parts.0
      ∙ behind_it n (or_depth o) (and_depth a) (most_open outside n rest) (most_open outside n ((blanks g ++ 44 ∷ (blanks k ++ print_and a)) ++ rest))
      (split outside n (blanks g) (44 ∷ (blanks k ++ print_and a)) rest
      ∙ gap_peak g n (44 ∷ ((blanks k ++ print_and a) ++ rest))
      ∙ stays outside outside n 44 ((blanks k ++ print_and a) ++ rest) refl refl
      ∙ split outside n (blanks k) (print_and a) rest
      ∙ gap_peak k n (print_and a ++ rest)
      ∙ and_peak a n rest parts.1)

no_max : (d m : ℕ) → m ≡ 0 → max (0 + d) m ≡ d
no_max d m h = omega arith

-- the parentheses that are open at once in a text printed from a form
deepest_of : (f : QueryForm) → is_or f.body ≡ true → deepest (print_query f) ≡ or_depth f.body
deepest_of f h =
    gap_peak f.front 0 (print_or f.body ++ blanks f.back)
    ∙ or_peak f.body 0 (blanks f.back) h
    ∙ no_max (or_depth f.body) (most_open outside 0 (blanks f.back)) (ap (most_open outside 0) (sym (append-nil (blanks f.back))) ∙ gap_peak f.back 0 [])

-- the printed text has the fewest
pub text_shallowest : (text : List ℕ) (q : QueryTree) → is_proper q ≡ true → QueryReads text q → deepest (printed q) ≤ deepest text
text_shallowest text q h r =
    let f = text_for q h in
    let form : QueryForm = record { front = []; body = f.form; back = [] } in
    let spelled : print_query form ≡ printed q = append-nil (print_or f.form) ∙ f.spelled in
    let mine : deepest (printed q) ≡ or_depth f.form = ap deepest (sym spelled) ∙ deepest_of form f.valid in
    let here : or_depth f.form ≡ depth q = f.deep in
    let other : deepest text ≡ or_depth r.form.body = ap deepest r.spelled ∙ deepest_of r.form r.valid in
    let same : depth q ≡ depth (joined or_of (members r.form.body)) = ap depth r.means in
    omega (arith, form_shallow r.form.body)
