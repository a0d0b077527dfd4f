-- The map of kinds by code agrees with the rows.
use Rattle.std.proofs.Common.{◌≡◌, ℕ, List, [], ◌∷◌, ◌++◌, Bool, true, false, cond, ◌&&◌, ◌||◌, ◌==◌, if◌then◌else◌, Option, Some, None, unwrap_or, inl, inr, refl, sym, ap, ◌∙◌, true≢false, is_some, is_eq, eqb-true}
use Rattle.std.proofs.lemmas.Bool.{and_parts, and_from, or_parts, cases_Bool, eq-eqb, eqb-false}
use Rattle.std.proofs.lemmas.Map.Text.{is_eq-slice_cmp}
use Rattle.dmap_tags.specs.Codes.{Four, code_bytes, is_code}
use Rattle.dmap_tags.specs.declared.kinds.Kind.TheVariants.{Opaque}
use Rattle.code_table.specs.declared.row.CodeRow.{CodeRow}
use Rattle.code_table.specs.Rows.{is_coded, row_kind, code_cmp, kind_at}
use Rattle.code_table.specs.Reply.{number_of, numbered}

-- a choice between a value and an option is a value if the test holds or the option is a value
some_or : {X : Type 0} (b : Bool) (x : X) (found : Option X) → is_some (if b then Some x else found) ≡ (b || is_some found)
some_or true x found = refl
some_or false x found = refl

or_else : {X : Type 0} (b : Bool) (x other : X) (found : Option X) → unwrap_or (if b then Some x else found) other ≡ (if b then x else unwrap_or found other)
or_else true x other found = refl
or_else false x other found = refl

-- a row has the code exactly if the code has a kind
pub coded_found : (rows : List CodeRow) (c : Four) → is_some (kind_at rows c) ≡ is_coded c rows
coded_found [] c = refl
coded_found (row ∷ rows) c = some_or (is_code row.code c) row.kind (kind_at rows c) ∙ ap (λ b. is_code row.code c || b) (coded_found rows c)

-- the kind of a code is the one that it has, or opaque
pub kind_found : (rows : List CodeRow) (c : Four) → unwrap_or (kind_at rows c) Opaque ≡ row_kind rows c
kind_found [] c = refl
kind_found (row ∷ rows) c = or_else (is_code row.code c) row.kind Opaque (kind_at rows c) ∙ ap (λ k. if is_code row.code c then row.kind else k) (kind_found rows c)

-- a test and true is the test
and_true : (b : Bool) → b ≡ (b && true)
and_true true = refl
and_true false = refl

-- codes are equal exactly if they compare as equal
same_compared : (a b : Four) → is_code a b ≡ is_eq (code_cmp a b)
same_compared a b =
    ap (λ last. (a.0 == b.0) && ((a.1 == b.1) && ((a.2 == b.2) && last))) (and_true (a.3 == b.3))
    ∙ sym (is_eq-slice_cmp (code_bytes a) (code_bytes b))

-- codes that pass the test are equal
pub same_path : (a b : Four) → is_code a b ≡ true → a ≡ b
same_path a b h =
    let first = and_parts (a.0 == b.0) ((a.1 == b.1) && ((a.2 == b.2) && (a.3 == b.3))) h in
    let second = and_parts (a.1 == b.1) ((a.2 == b.2) && (a.3 == b.3)) first.1 in
    let third = and_parts (a.2 == b.2) (a.3 == b.3) second.1 in
    λ i. (eqb-true a.0 b.0 first.0 i, eqb-true a.1 b.1 second.0 i, eqb-true a.2 b.2 third.0 i, eqb-true a.3 b.3 third.1 i)

-- two tests that exclude each other may be made in either order
tests_swapped : {X : Type 0} (a b : Bool) (x y z : X) → (b ≡ true → a ≡ false) → cond a x (cond b y z) ≡ cond b y (cond a x z)
tests_swapped true true x y z h = absurd (true≢false (h refl))
tests_swapped true false x y z h = refl
tests_swapped false b x y z h = refl

-- a row with a new code gives that code its kind, and leaves the others
pub kind_more : (rows : List CodeRow) (row : CodeRow) (c : Four) → is_coded row.code rows ≡ false → cond (is_eq (code_cmp row.code c)) (Some row.kind) (kind_at rows c) ≡ kind_at (rows ++ row ∷ []) c
kind_more [] row c new = ap (λ b. cond b (Some row.kind) None) (sym (same_compared row.code c))
kind_more (r ∷ rows) row c new =
    let parts = or_parts (is_code r.code row.code) (is_coded row.code rows) new in
    sym (tests_swapped (is_code r.code c) (is_eq (code_cmp row.code c)) (Some r.kind) (Some row.kind) (kind_at rows c)
    (λ is. ap (is_code r.code) (sym (same_path row.code c (same_compared row.code c ∙ is))) ∙ parts.0))
    ∙ ap (λ k. cond (is_code r.code c) (Some r.kind) k) (kind_more rows row c parts.1)

-- a code is equal to itself
same_self : (a : Four) → is_code a a ≡ true
same_self a =
    and_from (a.0 == a.0) ((a.1 == a.1) && ((a.2 == a.2) && (a.3 == a.3))) (eq-eqb a.0 a.0 refl)
    (and_from (a.1 == a.1) ((a.2 == a.2) && (a.3 == a.3)) (eq-eqb a.1 a.1 refl)
    (and_from (a.2 == a.2) (a.3 == a.3) (eq-eqb a.2 a.2 refl) (eq-eqb a.3 a.3 refl)))

-- codes are equal exactly if their numbers are
pub same_numbers : (a b : Four) (n m : ℕ) → n ≡ number_of a → m ≡ number_of b → numbered n ≡ a → numbered m ≡ b → (n == m) ≡ is_code a b
same_numbers a b n m told other back again = elim (cases_Bool (n == m)) [
  | inl e ↦ e ∙ sym (ap (is_code a) (sym again ∙ ap numbered (sym (eqb-true n m e)) ∙ back) ∙ same_self a)
  | inr e ↦ elim (cases_Bool (is_code a b)) [
    | inl f ↦ absurd (eqb-false n m e (told ∙ ap number_of (same_path a b f) ∙ sym other))
    | inr f ↦ e ∙ sym f
  ]
]
