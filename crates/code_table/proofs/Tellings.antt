-- What an entry adds to the rows before it.
use Rattle.std.proofs.Common.{◌≡◌, ◌≢◌, MatchResult, ◌<◌, ℕ, zero, suc, List, length, slice_index_or, take, map, arith, [], ◌∷◌, ◌++◌, Bool, true, false, not, ◌&&◌, ◌==◌, if◌then◌else◌, Option, Some, None, IfSome, is_some, nat_lt, Bor, Result, Ok, Err, refl, sym, ap, ◌∙◌}
use Rattle.std.proofs.lemmas.Bool.{and_parts, and_from, or_parts, or_from, not_from_false, not-true, eqb-true, eqb-false, eq-eqb, ne_eqb, ltb-true, cond-true, cond-false}
use Rattle.std.proofs.lemmas.List.{take-map, get_or-map, length-map}
use Rattle.dmap_tags.specs.Codes.{Four, code, is_code}
use Rattle.dmap_tags.specs.Tree.{Tree, Trees, more, tree_code}
use Rattle.code_table.specs.declared.reply.CodeError.{CodeError}
use Rattle.code_table.specs.declared.reply.CodeError.TheVariants.{Repeated, Memory}
use Rattle.code_table.specs.declared.row.CodeRow.{CodeRow}
use Rattle.code_table.specs.Rows.{is_coded, codes_differ, row_kind}
use Rattle.code_table.specs.Reply.{row_more, entry_row, rows_from}
use Rattle.code_table.proofs.Index.{same_path}

eq_sym : (a b : ℕ) → (a == b) ≡ false → (b == a) ≡ false
eq_sym a b h = ne_eqb b a (λ e. eqb-false a b h (sym e))

eq_swap : (a b : ℕ) (t : Bool) → (a == b) ≡ t → (b == a) ≡ t
eq_swap a b true h = eq-eqb b a (sym (eqb-true a b h))
eq_swap a b false h = eq_sym a b h

and_swap : (a a' b b' : Bool) → a ≡ a' → b ≡ b' → (a && b) ≡ (a' && b')
and_swap a a' b b' h k = ap (λ x. x && b) h ∙ ap (λ x. a' && x) k

pub same_swap : (a b : Four) → is_code a b ≡ is_code b a
same_swap a b =
    and_swap _ _ _ _ (sym (eq_swap a.0 b.0 (a.0 == b.0) refl))
    (and_swap _ _ _ _ (sym (eq_swap a.1 b.1 (a.1 == b.1) refl))
    (and_swap _ _ _ _ (sym (eq_swap a.2 b.2 (a.2 == b.2) refl)) (sym (eq_swap a.3 b.3 (a.3 == b.3) refl))))

not_more : (c : Four) (rows : List CodeRow) (row : CodeRow) → is_coded c rows ≡ false → is_code row.code c ≡ false → is_coded c (rows ++ row ∷ []) ≡ false
not_more c [] row h k = or_from _ _ k refl
not_more c (r ∷ rows) row h k =
    let parts = or_parts (is_code r.code c) (is_coded c rows) h in
    or_from (is_code r.code c) (is_coded c (rows ++ row ∷ [])) parts.0 (not_more c rows row parts.1 k)

-- if an appended row has a new code, the codes still differ
pub differ_more : (rows : List CodeRow) (row : CodeRow) → codes_differ rows ≡ true → is_coded row.code rows ≡ false → codes_differ (rows ++ row ∷ []) ≡ true
differ_more [] row h k = refl
differ_more (r ∷ rows) row h k =
    let parts = or_parts (is_code r.code row.code) (is_coded row.code rows) k in
    let differs = and_parts (not (is_coded r.code rows)) (codes_differ rows) h in
    and_from (not (is_coded r.code (rows ++ row ∷ []))) (codes_differ (rows ++ row ∷ []))
    (not_from_false (is_coded r.code (rows ++ row ∷ [])) (not_more r.code rows row (not-true (is_coded r.code rows) differs.0) (same_swap row.code r.code ∙ parts.0)))
    (differ_more rows row differs.1 parts.1)

-- if no row has the code, the row at an index has another
other_at : (c : Four) (rows : List CodeRow) (i : ℕ) (d : CodeRow) → is_coded c rows ≡ false → i < length rows → is_code (slice_index_or rows i d).code c ≡ false
other_at c [] i d h here = absurd (omega arith)
other_at c (row ∷ rows) zero d h here = (or_parts (is_code row.code c) (is_coded c rows) h).0
other_at c (row ∷ rows) (suc i) d h here = other_at c rows i d (or_parts (is_code row.code c) (is_coded c rows) h).1 (omega arith)

-- each row has the kind of its code
pub row_tells : (rows : List CodeRow) (i : ℕ) (d : CodeRow) (c : Four) → codes_differ rows ≡ true → i < length rows → is_code (slice_index_or rows i d).code c ≡ true → row_kind rows c ≡ (slice_index_or rows i d).kind
row_tells [] i d c differ here is = absurd (omega arith)
row_tells (row ∷ rows) zero d c differ here is = cond-true (is_code row.code c) row.kind (row_kind rows c) is
row_tells (row ∷ rows) (suc i) d c differ here is =
    let parts = and_parts (not (is_coded row.code rows)) (codes_differ rows) differ in
    let other : is_code (slice_index_or rows i d).code row.code ≡ false = other_at row.code rows i d (not-true (is_coded row.code rows) parts.0) (omega arith) in
    let apart : is_code row.code c ≡ false = same_swap row.code c ∙ ap (λ x. is_code x row.code) (sym (same_path (slice_index_or rows i d).code c is)) ∙ other in
    cond-false (is_code row.code c) row.kind (row_kind rows c) apart ∙ row_tells rows i d c parts.1 (omega arith) is

-- and so does the row at an index, if there is one
pub hint_tells : (rows : List CodeRow) (i : ℕ) (found : Option (Bor CodeRow)) → codes_differ rows ≡ true →
    is_some found ≡ nat_lt i (length rows) → IfSome found (λ row. row.now ≡ slice_index_or rows i row.now) →
    IfSome found (λ row. (c : Four) → is_code row.now.code c ≡ true → row_kind rows c ≡ row.now.kind)
hint_tells rows i None differ there is = tt
hint_tells rows i (Some row) differ there is =
    λ c same.
    row_tells rows i row.now c differ (ltb-true i (length rows) (sym there)) (ap (λ r. is_code r.code c) (sym is) ∙ same) ∙ ap (λ r. r.kind) (sym is)

-- if all codes differ, no earlier row has the code of a later one
pub new_at : (rows : List CodeRow) (i : ℕ) (d : CodeRow) → codes_differ rows ≡ true → i < length rows → is_coded (slice_index_or rows i d).code (take i rows) ≡ false
new_at [] i d differ here = absurd (omega arith)
new_at (row ∷ rows) zero d differ here = refl
new_at (row ∷ rows) (suc i) d differ here =
    let parts = and_parts (not (is_coded row.code rows)) (codes_differ rows) differ in
    let other = other_at row.code rows i d (not-true (is_coded row.code rows) parts.0) (omega arith) in
    let next = slice_index_or rows i d in
    or_from (is_code row.code next.code) (is_coded next.code (take i rows)) (same_swap row.code next.code ∙ other) (new_at rows i d parts.1 (omega arith))

-- the same for rows made of data
pub new_made_at : {X : Type 0} (made : X → CodeRow) (xs : List X) (i : ℕ) (d : X) → codes_differ (map made xs) ≡ true → i < length xs → is_coded (made (slice_index_or xs i d)).code (map made (take i xs)) ≡ false
new_made_at made xs i d differ here =
    ap (λ row. is_coded row.code (map made (take i xs))) (sym (get_or-map made xs i d (made d) here))
    ∙ ap (is_coded (slice_index_or (map made xs) i (made d)).code) (sym (take-map made i xs))
    ∙ new_at (map made xs) i (made d) differ (rw (length-map xs made) here)

choice_ok : (b : Bool) (e : CodeError) (rows all : List CodeRow) (next : List CodeRow → Result (List CodeRow) CodeError) → (if b then Err e else Ok rows) ≡ Ok all → (if b then Err e else next rows) ≡ next all
choice_ok true e rows all next h = absurd (cc)
choice_ok false e rows all next h = let same : rows ≡ all = cc in ap next same

choice_err : (b : Bool) (e f : CodeError) (rows : List CodeRow) (next : List CodeRow → Result (List CodeRow) CodeError) → (if b then Err e else Ok rows) ≡ Err f → (if b then Err e else next rows) ≡ Err f
choice_err true e f rows next h = h
choice_err false e f rows next h = absurd (cc)

more_ok : (index : ℕ) (rows all : List CodeRow) (o : Option CodeRow) (next : List CodeRow → Result (List CodeRow) CodeError) → row_more index rows o Ok ≡ Ok all → row_more index rows o next ≡ next all
more_ok index rows all None next h = absurd (cc)
more_ok index rows all (Some row) next h = choice_ok (is_coded row.code rows) (Repeated index) (rows ++ row ∷ []) all next h

more_err : (index : ℕ) (rows : List CodeRow) (e : CodeError) (o : Option CodeRow) (next : List CodeRow → Result (List CodeRow) CodeError) → row_more index rows o Ok ≡ Err e → row_more index rows o next ≡ Err e
more_err index rows e None next h = h
more_err index rows e (Some row) next h = choice_err (is_coded row.code rows) (Repeated index) e (rows ++ row ∷ []) next h

-- a member that is an entry changes the rows as its row does
pub entry_told : (index : ℕ) (before after : List CodeRow) (t : Tree) (r : Result Unit CodeError)
    → is_code (tree_code t) (code "mdcl") ≡ true
    → MatchResult r (λ _. row_more index before (entry_row t) Ok ≡ Ok after) (λ e. e ≢ Memory → row_more index before (entry_row t) Ok ≡ Err e)
    → (members : Trees) → MatchResult r (λ _. rows_from index before (more t members) ≡ rows_from (suc index) after members) (λ e. e ≢ Memory → rows_from index before (more t members) ≡ Err e)
entry_told index before after t (Ok u) is added members =
    cond-true (is_code (tree_code t) (code "mdcl")) _ (rows_from (suc index) before members) is
    ∙ more_ok index before after (entry_row t) (λ all. rows_from (suc index) all members) added
entry_told index before after t (Err e) is added members = λ told.
    cond-true (is_code (tree_code t) (code "mdcl")) _ (rows_from (suc index) before members) is
    ∙ more_err index before e (entry_row t) (λ all. rows_from (suc index) all members) (added told)
