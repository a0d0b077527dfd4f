-- Reading a body returns the listing that it is, or the index at which it is stuck.
use Rattle.std.proofs.Common.{◌≡◌, ℕ, suc, ◌+◌, ◌<◌, ◌==◌, Bool, true, false, cond, not, ◌&&◌, ◌||◌, nat_lt, List, [], ◌∷◌, ◌++◌, map, filter, take, drop, length, refl, sym, ap, ◌∙◌, subst, true≢false, inl, inr, Option, Some, None, is_some, unwrap_or, option_map, option_and_then, Result, Ok, Err, append-nil, append_assoc, add-one, length-append, eqb-true, lt-ltb, ltb-true, arith}
use Rattle.std.specs.Option.{option_map_or}
use Rattle.std.specs.List.{All}
use Rattle.std.proofs.lemmas.Bool.{and_parts, and_from}
use Rattle.std.proofs.lemmas.List.Elements.{All-nil, All-cons, All-head, All-tail, filter-append}
use Rattle.dmap_tags.specs.Codes.{Four, code, is_code}
use Rattle.dmap_tags.specs.Tree.{Tree, Trees, leaf, list, none, more, trees_of, tree_list, U8, I8, U16, I16, U32, I32, U64, I64, Text, Date, Version, Opaque}
use Rattle.item_model.specs.declared.request.Target.{Target}
use Rattle.item_model.specs.declared.request.Target.TheVariants.{Items, Container}
use Rattle.share_history.specs.LastSaid.{only_if}
use Rattle.share_history.specs.Listings.{Listing}
use Rattle.share_history.specs.Bodies.{start_tags, body_code, key_code, gone_tags}
use Rattle.mirror_core.specs.declared.told.Due.{Due}
use Rattle.mirror_core.specs.declared.told.Due.TheVariants.{Status, Kind, Revision, Total, Listed, Rows, Gone, Nothing}
use Rattle.mirror_core.specs.Bodies.{is_listings, IsRow, AreMembersOf, IsListing, Begins, IsStuck, IsNoListing}
use Rattle.mirror_core.specs.Reading.{Told, untold, number_in, marked, mark_in, members_in, row_key, are_rows, are_keys, row_of, key_of, listing_of, after_rows, step, ended, read_from, placed, read_members, read_tag}
use Rattle.mirror_core.proofs.TagFacts.{listed_again}

-- ---- tests on tags

same_code : (a b : Four) → is_code a b ≡ true → a ≡ b
same_code a b h =
    let first = and_parts (a.0 == b.0) ((a.1 == b.1) && ((a.2 == b.2) && (a.3 == b.3))) h in
    let second = and_parts (a.1 == b.1) ((a.2 == b.2) && (a.3 == b.3)) first.1 in
    let third = and_parts (a.2 == b.2) (a.3 == b.3) second.1 in
    λ i. (eqb-true a.0 b.0 first.0 i, eqb-true a.1 b.1 second.0 i, eqb-true a.2 b.2 third.0 i, eqb-true a.3 b.3 third.1 i)

only_if-true : {A : Type 0} (b : Bool) (x y : A) → only_if b x ≡ Some y → b ≡ true
only_if-true true x y h = refl
only_if-true false x y h = absurd (cc)

only_if-is : {A : Type 0} (b : Bool) (x y : A) → only_if b x ≡ Some y → x ≡ y
only_if-is true x y h = cc
only_if-is false x y h = absurd (cc)

number_is : (c : Four) (t : Tree) (n : ℕ) → number_in c t ≡ Some n → t ≡ leaf c (U32 n)
number_is c (leaf d (U32 m)) n h = λ i. leaf (same_code d c (only_if-true (is_code d c) m n h) i) (U32 (only_if-is (is_code d c) m n h i))
number_is c (leaf d (U8 m)) n h = absurd (cc)
number_is c (leaf d (I8 m)) n h = absurd (cc)
number_is c (leaf d (U16 m)) n h = absurd (cc)
number_is c (leaf d (I16 m)) n h = absurd (cc)
number_is c (leaf d (I32 m)) n h = absurd (cc)
number_is c (leaf d (U64 m)) n h = absurd (cc)
number_is c (leaf d (I64 m)) n h = absurd (cc)
number_is c (leaf d (Text m)) n h = absurd (cc)
number_is c (leaf d (Date m)) n h = absurd (cc)
number_is c (leaf d (Version m)) n h = absurd (cc)
number_is c (leaf d (Opaque m)) n h = absurd (cc)
number_is c (list d ts) n h = absurd (cc)

marked_is : (n : ℕ) (d : Bool) → marked n ≡ Some d → n ≡ cond d 1 0
marked_is n d h = by_zero (n == 0) refl h
  where
    by_one : (b : Bool) → (n == 1) ≡ b → only_if b true ≡ Some d → n ≡ cond d 1 0
    by_one true e g = eqb-true n 1 e ∙ ap (λ b. cond b 1 0) (only_if-is true true d g)
    by_one false e g = absurd (cc)

    by_zero : (b : Bool) → (n == 0) ≡ b → cond b (Some false) (only_if (n == 1) true) ≡ Some d → n ≡ cond d 1 0
    by_zero true e g = eqb-true n 0 e ∙ ap (λ b. cond b 1 0) (only_if-is true false d g)
    by_zero false e g = by_one (n == 1) refl g

then_some : {A : Type 0} (b : Bool) (x : Option A) (y : A) → cond b x None ≡ Some y → (b ≡ true) × (x ≡ Some y)
then_some true x y h = (refl, h)
then_some false x y h = absurd (cc)

mark_is : (t : Tree) (d : Bool) → mark_in t ≡ Some d → t ≡ leaf (code "muty") (U8 (cond d 1 0))
mark_is (leaf c (U8 n)) d h =
    let both = then_some (is_code c (code "muty")) (marked n) d h in
    λ i. leaf (same_code c (code "muty") both.0 i) (U8 (marked_is n d both.1 i))
mark_is (leaf c (I8 m)) n h = absurd (cc)
mark_is (leaf c (U16 m)) n h = absurd (cc)
mark_is (leaf c (I16 m)) n h = absurd (cc)
mark_is (leaf c (U32 m)) n h = absurd (cc)
mark_is (leaf c (I32 m)) n h = absurd (cc)
mark_is (leaf c (U64 m)) n h = absurd (cc)
mark_is (leaf c (I64 m)) n h = absurd (cc)
mark_is (leaf c (Text m)) n h = absurd (cc)
mark_is (leaf c (Date m)) n h = absurd (cc)
mark_is (leaf c (Version m)) n h = absurd (cc)
mark_is (leaf c (Opaque m)) n h = absurd (cc)
mark_is (list c ts) n h = absurd (cc)

trees_again : (ts : Trees) → trees_of (tree_list ts) ≡ ts
trees_again none = refl
trees_again (more t ts) = ap (more t) (trees_again ts)

pub members_is : (c : Four) (t : Tree) (ts : List Tree) → members_in c t ≡ Some ts → t ≡ list c (trees_of ts)
members_is c (leaf d l) ts h = absurd (cc)
members_is c (list d us) ts h =
    λ i. list (same_code d c (only_if-true (is_code d c) (tree_list us) ts h) i) ((sym (trees_again us) ∙ ap trees_of (only_if-is (is_code d c) (tree_list us) ts h)) i)

row_is : (target : Target) (t : Tree) (k : ℕ) → row_key target t ≡ Some k → IsRow target (k, t)
row_is target (leaf d l) k h = absurd (cc)
row_is target (list d none) k h = absurd (cc)
row_is target (list d (more t ts)) k h =
    let both = then_some (is_code d (code "mlit")) (number_in (key_code target) t) k h in
    record { rest = ts; tag = λ i. list (same_code d (code "mlit") both.0 i) (more (number_is (key_code target) t k both.1 i) ts) }

code_itself : (target : Target) → is_code (key_code target) (key_code target) ≡ true
code_itself Items = refl
code_itself (Container c) = refl

body_itself : (target : Target) → is_code (body_code target) (body_code target) ≡ true
body_itself Items = refl
body_itself (Container c) = refl

pub key_back : (target : Target) (k : ℕ) → number_in (key_code target) (leaf (key_code target) (U32 k)) ≡ Some k
key_back target k = ap (λ b. only_if b k) (code_itself target)

pub row_back : (target : Target) (row : ℕ × Tree) → IsRow target row → row_key target row.1 ≡ Some row.0
row_back target row r = ap (row_key target) r.tag ∙ key_back target row.0

-- ---- lists of rows and of deleted keys

some_is : {A : Type 0} (found : Option A) (d : A) → is_some found ≡ true → found ≡ Some (unwrap_or found d)
some_is None d h = absurd (true≢false (sym h))
some_is (Some x) d h = refl

rows_are : (target : Target) (ts : List Tree) → are_rows target ts ≡ true → All (IsRow target) (map (row_of target) ts)
rows_are target [] h = All-nil (IsRow target)
rows_are target (t ∷ ts) h =
    let both = and_parts (is_some (row_key target t)) (are_rows target ts) h in
    All-cons (IsRow target) (row_of target t) (map (row_of target) ts) (row_is target t (row_of target t).0 (some_is (row_key target t) 0 both.0)) (rows_are target ts both.1)

rows_again : (target : Target) (ts : List Tree) → map (λ row. row.1) (map (row_of target) ts) ≡ ts
rows_again target [] = refl
rows_again target (t ∷ ts) = ap (λ rest. t ∷ rest) (rows_again target ts)

rows_back : (target : Target) (rows : List (ℕ × Tree)) → All (IsRow target) rows → are_rows target (map (λ row. row.1) rows) ≡ true
rows_back target [] all = refl
rows_back target (row ∷ rows) all =
    and_from (is_some (row_key target row.1)) (are_rows target (map (λ row. row.1) rows)) (ap is_some (row_back target row (All-head (IsRow target) row rows all)))
    (rows_back target rows (All-tail (IsRow target) row rows all))

keys_are : (target : Target) (ts : List Tree) → are_keys target ts ≡ true → ts ≡ map (λ key. leaf (key_code target) (U32 key)) (map (key_of target) ts)
keys_are target [] h = refl
keys_are target (t ∷ ts) h =
    let both = and_parts (is_some (number_in (key_code target) t)) (are_keys target ts) h in
    λ i. number_is (key_code target) t (key_of target t) (some_is (number_in (key_code target) t) 0 both.0) i ∷ keys_are target ts both.1 i

abbrev pub key_tags : Target → List ℕ → List Tree
key_tags target keys = map (λ key. leaf (key_code target) (U32 key)) keys

keys_back : (target : Target) (keys : List ℕ) → are_keys target (key_tags target keys) ≡ true
keys_back target [] = refl
keys_back target (k ∷ keys) =
    and_from (is_some (number_in (key_code target) (leaf (key_code target) (U32 k)))) (are_keys target (key_tags target keys)) (ap is_some (key_back target k)) (keys_back target keys)

not_some : {A : Type 0} (x : A) → Some x ≡ None → ⊥
not_some x e = true≢false (ap is_some e)

taken_front : (xs ys : List Tree) → take (length xs) (xs ++ ys) ≡ xs
taken_front [] ys = refl
taken_front (x ∷ xs) ys = ap (λ zs. x ∷ zs) (taken_front xs ys)

taken_whole : (xs : List Tree) → take (length xs) xs ≡ xs
taken_whole [] = refl
taken_whole (x ∷ xs) = ap (λ zs. x ∷ zs) (taken_whole xs)

taken_more : (xs : List Tree) (y : Tree) (ys : List Tree) → take (length xs + 1) (xs ++ y ∷ ys) ≡ xs ++ y ∷ []
taken_more xs y ys = ap (λ n. take n (xs ++ y ∷ ys)) (add-one (length xs)) ∙ by_length xs
  where
    by_length : (zs : List Tree) → take (suc (length zs)) (zs ++ y ∷ ys) ≡ zs ++ y ∷ []
    by_length [] = refl
    by_length (z ∷ zs) = ap (λ us. z ∷ us) (by_length zs)

shown_own : (before : List Tree) (t : Tree) (b : Bool) → is_listings t ≡ b → filter is_listings (before ++ t ∷ []) ≡ filter is_listings before ++ cond b (t ∷ []) []
shown_own before t b e = filter-append is_listings before (t ∷ []) ∙ ap (λ c. filter is_listings before ++ cond c (t ∷ []) []) e

-- ---- what was read so far

and_then_some : {A B : Type 0} (f : A → Option B) (found : Option A) (y : B) → option_and_then f found ≡ Some y → (x : A) × (found ≡ Some x) × (f x ≡ Some y)
and_then_some f None y h = absurd (cc)
and_then_some f (Some x) y h = (x, refl, h)

map_some : {A B : Type 0} (f : A → B) (found : Option A) (y : B) → option_map f found ≡ Some y → (x : A) × (found ≡ Some x) × (f x ≡ y)
map_some f None y h = absurd (cc)
map_some f (Some x) y h = (x, refl, cc)

abbrev pub made : Bool → ℕ → ℕ → List Tree → List Tree → Told
made is_delta revision total rows gone = record { is_delta = is_delta; revision = revision; total = total; rows = rows; gone = gone }

abbrev gone_list : Bool → List Tree → List Tree
gone_list is_delta gone = cond is_delta (list (code "mudl") (trees_of gone) ∷ []) []

-- the listing's members, and how many of them precede the expected one
abbrev whole : Told → ℕ → List Tree
whole told listed = start_tags told.is_delta told.revision told.total listed ++ list (code "mlcl") (trees_of told.rows) ∷ gone_list told.is_delta told.gone

abbrev count : Due → ℕ
count Status = 0
count Kind = 1
count Revision = 2
count Total = 3
count Listed = 4
count Rows = 5
count Gone = 6
count Nothing = 7

abbrev is_last : Due → Bool
is_last Status = false
is_last Kind = false
is_last Revision = false
is_last Total = false
is_last Listed = false
is_last Rows = false
is_last Gone = false
is_last Nothing = true

record Reads (target : Target) (base : ℕ) (due : Due) (told : Told) (known : List Tree) : Type 0 where
  listed : ℕ
  front : known ≡ take (count due) (whole told listed)
  rows : are_rows target told.rows ≡ true
  gone : are_keys target told.gone ≡ true
  on_held : told.is_delta ≡ true → 0 < base
  full : told.is_delta ≡ false → told.gone ≡ []
  later : is_last due ≡ false → told.gone ≡ []
  delta : due ≡ Gone → told.is_delta ≡ true

reads_none : (target : Target) (base : ℕ) → Reads target base Status untold []
reads_none target base = record {
  listed = 0;
  front = refl;
  rows = refl;
  gone = refl;
  on_held = λ h. absurd (true≢false (sym h));
  full = λ _. refl;
  later = λ _. refl;
  delta = λ h. absurd (cc);
}

grown : (known front : List Tree) (t u : Tree) → known ≡ front → t ≡ u → known ++ t ∷ [] ≡ front ++ u ∷ []
grown known front t u h e = λ i. h i ++ e i ∷ []

held_by : (d b : Bool) → (not d || b) ≡ true → d ≡ true → b ≡ true
held_by true b h e = h
held_by false b h e = absurd (true≢false (sym e))

rows_front : (d : Bool) (r t l : ℕ) (rows ts gone : List Tree)
    → take 5 (whole (made d r t rows gone) l) ++ list (code "mlcl") (trees_of ts) ∷ [] ≡ take (count (after_rows d)) (whole (made d r t ts gone) l)
rows_front true r t l rows ts gone = refl
rows_front false r t l rows ts gone = refl

rows_delta : (d : Bool) → after_rows d ≡ Gone → d ≡ true
rows_delta true h = refl
rows_delta false h = absurd (cc)

gone_front : (d : Bool) (r t l : ℕ) (rows ts gone : List Tree) → d ≡ true
    → take 6 (whole (made d r t rows gone) l) ++ list (code "mudl") (trees_of ts) ∷ [] ≡ take 7 (whole (made d r t rows ts) l)
gone_front true r t l rows ts gone h = refl
gone_front false r t l rows ts gone h = absurd (true≢false (sym h))

-- one member more
module _ (target : Target) (base : ℕ) where
  abbrev ReadsTo : Due × Told → List Tree → Type 0
  ReadsTo s known = Reads target base s.0 s.1 known

  reads_step : (due : Due) (told : Told) (known : List Tree) (t : Tree) (s : Due × Told) → Reads target base due told known → step target base due told t ≡ Some s → ReadsTo s (known ++ t ∷ [])
  reads_step Status told known t s r h =
      let found = and_then_some (λ n. only_if (n == 200) (Kind, told)) (number_in (code "mstt") t) s h in
      let n : ℕ = found.0 in
      let is : t ≡ leaf (code "mstt") (U32 200) = number_is (code "mstt") t n found.1 ∙ ap (λ m. leaf (code "mstt") (U32 m)) (eqb-true n 200 (only_if-true (n == 200) (Kind, told) s found.2)) in
      subst (λ z. ReadsTo z (known ++ t ∷ [])) (only_if-is (n == 200) (Kind, told) s found.2)
      (record { listed = r.listed; front = grown known [] t (leaf (code "mstt") (U32 200)) r.front is; rows = r.rows; gone = r.gone; on_held = r.on_held; full = r.full; later = λ _. r.later refl; delta = λ e. absurd (cc) })
  reads_step Kind told known t s r h =
      let found = and_then_some (λ d. only_if (not d || nat_lt 0 base) (Revision, record told { is_delta = d })) (mark_in t) s h in
      let d : Bool = found.0 in
      let test = only_if-true (not d || nat_lt 0 base) (Revision, record told { is_delta = d }) s found.2 in
      subst (λ z. ReadsTo z (known ++ t ∷ [])) (only_if-is (not d || nat_lt 0 base) (Revision, record told { is_delta = d }) s found.2)
      (record { listed = r.listed; front = grown known (take 1 (whole told r.listed)) t (leaf (code "muty") (U8 (cond d 1 0))) r.front (mark_is t d found.1); rows = r.rows; gone = r.gone; on_held = λ e. ltb-true 0 base (held_by d (nat_lt 0 base) test e); full = λ _. r.later refl; later = λ _. r.later refl; delta = λ e. absurd (cc) })
  reads_step Revision told known t s r h =
      let found = map_some (λ n. (Total, record told { revision = n })) (number_in (code "musr") t) s h in
      subst (λ z. ReadsTo z (known ++ t ∷ [])) found.2
      (record { listed = r.listed; front = grown known (take 2 (whole told r.listed)) t (leaf (code "musr") (U32 found.0)) r.front (number_is (code "musr") t found.0 found.1); rows = r.rows; gone = r.gone; on_held = r.on_held; full = r.full; later = λ _. r.later refl; delta = λ e. absurd (cc) })
  reads_step Total told known t s r h =
      let found = map_some (λ n. (Listed, record told { total = n })) (number_in (code "mtco") t) s h in
      subst (λ z. ReadsTo z (known ++ t ∷ [])) found.2
      (record { listed = r.listed; front = grown known (take 3 (whole told r.listed)) t (leaf (code "mtco") (U32 found.0)) r.front (number_is (code "mtco") t found.0 found.1); rows = r.rows; gone = r.gone; on_held = r.on_held; full = r.full; later = λ _. r.later refl; delta = λ e. absurd (cc) })
  reads_step Listed told known t s r h =
      let found = map_some (λ n. (Rows, told)) (number_in (code "mrco") t) s h in
      subst (λ z. ReadsTo z (known ++ t ∷ [])) found.2
      (record { listed = found.0; front = grown known (take 4 (whole told r.listed)) t (leaf (code "mrco") (U32 found.0)) r.front (number_is (code "mrco") t found.0 found.1); rows = r.rows; gone = r.gone; on_held = r.on_held; full = r.full; later = λ _. r.later refl; delta = λ e. absurd (cc) })
  reads_step Rows told known t s r h =
      let found = and_then_some (λ ts. only_if (are_rows target ts) (after_rows told.is_delta, record told { rows = ts })) (members_in (code "mlcl") t) s h in
      let ts : List Tree = found.0 in
      subst (λ z. ReadsTo z (known ++ t ∷ [])) (only_if-is (are_rows target ts) (after_rows told.is_delta, record told { rows = ts }) s found.2)
      (record {
        listed = r.listed;
        front = grown known (take 5 (whole told r.listed)) t (list (code "mlcl") (trees_of ts)) r.front (members_is (code "mlcl") t ts found.1) ∙ rows_front told.is_delta told.revision told.total r.listed told.rows ts told.gone;
        rows = only_if-true (are_rows target ts) (after_rows told.is_delta, record told { rows = ts }) s found.2;
        gone = r.gone;
        on_held = r.on_held;
        full = r.full;
        later = λ _. r.later refl;
        delta = rows_delta told.is_delta;
      })
  reads_step Gone told known t s r h =
      let found = and_then_some (λ ts. only_if (are_keys target ts) (Nothing, record told { gone = ts })) (members_in (code "mudl") t) s h in
      let ts : List Tree = found.0 in
      subst (λ z. ReadsTo z (known ++ t ∷ [])) (only_if-is (are_keys target ts) (Nothing, record told { gone = ts }) s found.2)
      (record {
        listed = r.listed;
        front = grown known (take 6 (whole told r.listed)) t (list (code "mudl") (trees_of ts)) r.front (members_is (code "mudl") t ts found.1) ∙ gone_front told.is_delta told.revision told.total r.listed told.rows ts told.gone (r.delta refl);
        rows = r.rows;
        gone = only_if-true (are_keys target ts) (Nothing, record told { gone = ts }) s found.2;
        on_held = r.on_held;
        full = λ e. absurd (true≢false (sym (r.delta refl) ∙ e));
        later = λ e. absurd (true≢false e);
        delta = λ e. absurd (cc);
      })
  reads_step Nothing told known t s r h = absurd (cc)

  -- ---- all of a listing's own members, one after the other

  abbrev pub run : Due → Told → List Tree → Option (Due × Told)
  run due told [] = Some (due, told)
  run due told (t ∷ ts) = option_and_then (λ (s : Due × Told). run s.0 s.1 ts) (step target base due told t)

  reads_run : (due : Due) (told : Told) (known ts : List Tree) (s : Due × Told) → Reads target base due told known → run due told ts ≡ Some s → ReadsTo s (known ++ ts)
  reads_run due told known [] s r h = subst (λ z. ReadsTo z (known ++ [])) (ap (λ found. unwrap_or found s) h) (subst (Reads target base due told) (sym (append-nil known)) r)
  reads_run due told known (t ∷ ts) s r h =
      let found = and_then_some (λ z. run z.0 z.1 ts) (step target base due told t) s h in
      subst (ReadsTo s) (append_assoc known (t ∷ []) ts)
      (reads_run found.0.0 found.0.1 (known ++ t ∷ []) ts s (reads_step due told known t found.0 r found.1) found.2)

  run-append : (due : Due) (told : Told) (xs ys : List Tree) → run due told (xs ++ ys) ≡ option_and_then (λ (s : Due × Told). run s.0 s.1 ys) (run due told xs)
  run-append due told [] ys = refl
  run-append due told (x ∷ xs) ys =
      elim (step target base due told x) as (λ o. option_and_then (λ (s : Due × Told). run s.0 s.1 (xs ++ ys)) o ≡ option_and_then (λ (s : Due × Told). run s.0 s.1 ys) (option_and_then (λ (s : Due × Told). run s.0 s.1 xs) o)) [
        | None ↦ refl
        | Some s ↦ run-append s.0 s.1 xs ys
      ]

  -- a listing is read to its end
  abbrev rows_due : Bool → ℕ → ℕ → List Tree → Bool → Option (Due × Told)
  rows_due d r t rows b = option_and_then (λ (s : Due × Told). run s.0 s.1 []) (only_if b (Nothing, made d r t rows []))

  run_full : (r t l : ℕ) (rows : List Tree) → are_rows target rows ≡ true
      → run Status untold (start_tags false r t l ++ list (code "mlcl") (trees_of rows) ∷ []) ≡ Some (Nothing, made false r t rows [])
  run_full r t l rows h = ap (λ ts. rows_due false r t ts (are_rows target ts)) (listed_again rows) ∙ ap (rows_due false r t rows) h

  abbrev kind_due : ℕ → ℕ → ℕ → List Tree → List Tree → Bool → Option (Due × Told)
  kind_due r t l rows gone b =
      option_and_then (λ (s : Due × Told). run s.0 s.1 (leaf (code "musr") (U32 r) ∷ leaf (code "mtco") (U32 t) ∷ leaf (code "mrco") (U32 l) ∷ list (code "mlcl") (trees_of rows) ∷ list (code "mudl") (trees_of gone) ∷ []))
      (only_if b (Revision, made true 0 0 [] []))

  abbrev delta_rows_due : ℕ → ℕ → List Tree → List Tree → Bool → Option (Due × Told)
  delta_rows_due r t rows gone b = option_and_then (λ (s : Due × Told). run s.0 s.1 (list (code "mudl") (trees_of gone) ∷ [])) (only_if b (Gone, made true r t rows []))

  abbrev gone_due : ℕ → ℕ → List Tree → List Tree → Bool → Option (Due × Told)
  gone_due r t rows gone b = option_and_then (λ (s : Due × Told). run s.0 s.1 []) (only_if b (Nothing, made true r t rows gone))

  run_delta : (r t l : ℕ) (rows gone : List Tree) → are_rows target rows ≡ true → are_keys target gone ≡ true → 0 < base
      → run Status untold (start_tags true r t l ++ list (code "mlcl") (trees_of rows) ∷ list (code "mudl") (trees_of gone) ∷ []) ≡ Some (Nothing, made true r t rows gone)
  run_delta r t l rows gone h k lt =
      ap (kind_due r t l rows gone) (lt-ltb 0 base lt)
      ∙ ap (λ ts. delta_rows_due r t ts gone (are_rows target ts)) (listed_again rows)
      ∙ ap (delta_rows_due r t rows gone) h
      ∙ ap (λ ts. gone_due r t rows ts (are_keys target ts)) (listed_again gone)
      ∙ ap (gone_due r t rows gone) k

  abbrev pub told_as : Listing → Told
  told_as l = made l.is_delta l.revision l.total (map (λ row. row.1) l.rows) (cond l.is_delta (key_tags target l.gone) [])

  run_told : (d : Bool) (r t l : ℕ) (rows : List Tree) (gone : List ℕ) → are_rows target rows ≡ true → (d ≡ true → 0 < base)
      → run Status untold (start_tags d r t l ++ list (code "mlcl") (trees_of rows) ∷ gone_tags target d gone) ≡ Some (Nothing, made d r t rows (cond d (key_tags target gone) []))
  run_told true r t l rows gone h lt = run_delta r t l rows (key_tags target gone) h (keys_back target gone) (lt refl)
  run_told false r t l rows gone h lt = run_full r t l rows h

  pub run_members : (l : Listing) (ms : List Tree) → AreMembersOf target base l ms → run Status untold (filter is_listings ms) ≡ Some (Nothing, told_as l)
  run_members l ms a =
      ap (run Status untold) a.told ∙ run_told l.is_delta l.revision l.total a.listed (map (λ row. row.1) l.rows) l.gone (rows_back target l.rows a.rows) a.on_held

-- ---- a body

filter_own : (due : Due) (d : Bool) (r t l : ℕ) (rows gone : List Tree)
    → take (count due) (whole (made d r t rows gone) l) ++ filter is_listings (drop (count due) (whole (made d r t rows gone) l)) ≡ whole (made d r t rows gone) l
filter_own Status true r t l rows gone = refl
filter_own Status false r t l rows gone = refl
filter_own Kind true r t l rows gone = refl
filter_own Kind false r t l rows gone = refl
filter_own Revision true r t l rows gone = refl
filter_own Revision false r t l rows gone = refl
filter_own Total true r t l rows gone = refl
filter_own Total false r t l rows gone = refl
filter_own Listed true r t l rows gone = refl
filter_own Listed false r t l rows gone = refl
filter_own Rows true r t l rows gone = refl
filter_own Rows false r t l rows gone = refl
filter_own Gone true r t l rows gone = refl
filter_own Gone false r t l rows gone = refl
filter_own Nothing true r t l rows gone = refl
filter_own Nothing false r t l rows gone = refl

all_taken : (d : Bool) (r t l : ℕ) (rows gone : List Tree) → take 7 (whole (made d r t rows gone) l) ≡ whole (made d r t rows gone) l
all_taken true r t l rows gone = refl
all_taken false r t l rows gone = refl

module _ (target : Target) (base : ℕ) where
  are_members : (told : Told) (l : ℕ) (ms : List Tree) → filter is_listings ms ≡ whole told l → are_rows target told.rows ≡ true → are_keys target told.gone ≡ true
      → (told.is_delta ≡ true → 0 < base) → (told.is_delta ≡ false → told.gone ≡ []) → AreMembersOf target base (listing_of target told) ms
  are_members told l ms known rows gone held full = record {
    listed = l;
    told = known
        ∙ (let again = sym (rows_again target told.rows) in λ i. start_tags told.is_delta told.revision told.total l
        ++ list (code "mlcl") (trees_of (again i)) ∷ gone_list told.is_delta (keys_are target told.gone gone i));
    rows = rows_are target told.rows rows;
    on_held = held;
    full = λ e. ap (map (key_of target)) (full e);
  }

  -- what was read can continue to a listing
  begun : (due : Due) (told : Told) (ms : List Tree) → Reads target base due told (filter is_listings ms) → Begins target base ms
  begun due told ms r =
      let later : List Tree = drop (count due) (whole told r.listed) in (
        later,
        listing_of target told,
        are_members told r.listed (ms ++ later)
            (filter-append is_listings ms later ∙ ap (λ front. front ++ filter is_listings later) r.front ∙ filter_own due told.is_delta told.revision told.total r.listed told.rows told.gone)
            r.rows r.gone r.on_held r.full,
      )

  ended_at : (due : Due) (told last : Told) (n : ℕ) → ended due told n ≡ Ok last → (due ≡ Nothing) × (told ≡ last)
  ended_at Status told last n h = absurd (cc)
  ended_at Kind told last n h = absurd (cc)
  ended_at Revision told last n h = absurd (cc)
  ended_at Total told last n h = absurd (cc)
  ended_at Listed told last n h = absurd (cc)
  ended_at Rows told last n h = absurd (cc)
  ended_at Gone told last n h = absurd (cc)
  ended_at Nothing told last n h = (refl, cc)

  not_ended : (due : Due) (told : Told) (n p : ℕ) → ended due told n ≡ Err p → (due ≡ Nothing → ⊥) × (n ≡ p)
  not_ended Status told n p h = (λ e. absurd (cc), cc)
  not_ended Kind told n p h = (λ e. absurd (cc), cc)
  not_ended Revision told n p h = (λ e. absurd (cc), cc)
  not_ended Total told n p h = (λ e. absurd (cc), cc)
  not_ended Listed told n p h = (λ e. absurd (cc), cc)
  not_ended Rows told n p h = (λ e. absurd (cc), cc)
  not_ended Gone told n p h = (λ e. absurd (cc), cc)
  not_ended Nothing told n p h = absurd (cc)

  abbrev go_on : ℕ → List Tree → Option (Due × Told) → Result Told ℕ
  go_on n ts found = option_map_or (λ s. read_from target base s.0 s.1 (suc n) ts) found (Err n)

  -- reading to the end is a run over the listing's own members
  read_ok : (due : Due) (told last : Told) (n : ℕ) (ts : List Tree) → read_from target base due told n ts ≡ Ok last → run target base due told (filter is_listings ts) ≡ Some (Nothing, last)
  read_ok due told last n [] h = let both = ended_at due told last n h in λ i. Some (both.0 i, both.1 i)
  read_ok due told last n (t ∷ ts) h =
      elim (is_listings t) as (λ b. go_on n ts (cond b (step target base due told t) (Some (due, told))) ≡ Ok last
      → run target base due told (cond b (t ∷ filter is_listings ts) (filter is_listings ts)) ≡ Some (Nothing, last)) [
        | true ↦ elim (step target base due told t) as (λ o. go_on n ts o ≡ Ok last → option_and_then (λ (s : Due × Told). run target base s.0 s.1 (filter is_listings ts)) o ≡ Some (Nothing, last)) [
          | None ↦ λ g. absurd (cc)
          | Some s ↦ λ g. read_ok s.0 s.1 last (suc n) ts g
        ]
        | false ↦ λ g. read_ok due told last (suc n) ts g
      ] h

  read_members_of : (last : Told) (ms : List Tree) → read_from target base Status untold 0 ms ≡ Ok last → AreMembersOf target base (listing_of target last) ms
  read_members_of last ms h =
      let r = reads_run target base Status untold [] (filter is_listings ms) (Nothing, last) (reads_none target base) (read_ok Status untold last 0 ms h) in
      are_members last r.listed ms (r.front ∙ all_taken last.is_delta last.revision last.total r.listed last.rows last.gone) r.rows r.gone r.on_held r.full

  -- a member that cannot continue a listing
  module _ (before : List Tree) (due : Due) (told : Told) (so_far : run target base Status untold (filter is_listings before) ≡ Some (due, told)) where
    begun_so_far : Begins target base before
    begun_so_far =
        begun due told before (reads_run target base Status untold [] (filter is_listings before) (due, told) (reads_none target base) so_far)

    own_next : (b : Bool) (t : Tree) (ts : List Tree) → is_listings t ≡ b → filter is_listings ((before ++ t ∷ []) ++ ts) ≡ filter is_listings before ++ cond b (t ∷ filter is_listings ts) (filter is_listings ts)
    own_next b t ts e =
        ap (filter is_listings) (append_assoc before (t ∷ []) ts) ∙ filter-append is_listings before (t ∷ ts)
        ∙ ap (λ c. filter is_listings before ++ cond c (t ∷ filter is_listings ts) (filter is_listings ts)) e

    run_next : (ts : List Tree) → run target base Status untold (filter is_listings before ++ ts) ≡ run target base due told ts
    run_next ts = run-append target base Status untold (filter is_listings before) ts ∙ ap (option_and_then (λ (s : Due × Told). run target base s.0 s.1 ts)) so_far

    stuck_next : (t : Tree) → is_listings t ≡ true → step target base due told t ≡ None → ¬ (Begins target base (before ++ t ∷ []))
    stuck_next t own fails (later, listing, a) =
        not_some (Nothing, told_as target base listing)
        (sym
        (ap (option_and_then (λ (s : Due × Told). run target base s.0 s.1 (filter is_listings later))) (sym fails)
        ∙ sym (run_next (t ∷ filter is_listings later))
        ∙ ap (run target base Status untold) (sym (own_next true t later own))
        ∙ run_members target base listing ((before ++ t ∷ []) ++ later) a))

    no_end : (due ≡ Nothing → ⊥) → ¬ ((listing : Listing) × AreMembersOf target base listing before)
    no_end open_end (listing, a) = open_end (ap (λ (found : Option (Due × Told)). let s : Due × Told = unwrap_or found (due, told) in s.0) (sym so_far ∙ run_members target base listing before a))

    -- if reading ends too early, or at such a member
    stuck_at_end : (n : ℕ) (p : ℕ) → ended due told n ≡ Err p → n ≡ length before → IsStuck target base before p
    stuck_at_end n p h at =
        let why = not_ended due told n p h in
        let place : p ≡ length before = sym why.1 ∙ at in
        record {
          before = subst (Begins target base) (sym (ap (λ k. take k before) place ∙ taken_whole before)) begun_so_far;
          here = inr (place, no_end why.0);
        }

    stuck_at_member : (n p : ℕ) (t : Tree) (ts : List Tree) → is_listings t ≡ true → step target base due told t ≡ None → n ≡ p → n ≡ length before → IsStuck target base (before ++ t ∷ ts) p
    stuck_at_member n p t ts own fails same at =
        let place : p ≡ length before = sym same ∙ at in
        record {
          before = subst (Begins target base) (sym (ap (λ k. take k (before ++ t ∷ ts)) place ∙ taken_front before (t ∷ ts))) begun_so_far;
          here = inl (
            omega (arith, place, length-append before (t ∷ ts)),
            λ b. stuck_next t own fails (subst (Begins target base) (ap (λ k. take (k + 1) (before ++ t ∷ ts)) place ∙ taken_more before t ts) b),
          );
        }

  err_path : (n p : ℕ) → let a : Result Told ℕ = Err n in let b : Result Told ℕ = Err p in a ≡ b → n ≡ p
  err_path n p h = cc

  read_err : (before : List Tree) (due : Due) (told : Told) (n p : ℕ) (ts : List Tree) → run target base Status untold (filter is_listings before) ≡ Some (due, told) → n ≡ length before
      → read_from target base due told n ts ≡ Err p → IsStuck target base (before ++ ts) p
  read_err before due told n p [] so_far at h = subst (λ ms. IsStuck target base ms p) (sym (append-nil before)) (stuck_at_end before due told so_far n p h at)
  read_err before due told n p (t ∷ ts) so_far at h =
      elim (is_listings t) as (λ b. is_listings t ≡ b → go_on n ts (cond b (step target base due told t) (Some (due, told))) ≡ Err p → IsStuck target base (before ++ t ∷ ts) p) [
        | true ↦ λ own. elim (step target base due told t) as (λ o. step target base due told t ≡ o → go_on n ts o ≡ Err p → IsStuck target base (before ++ t ∷ ts) p) [
          | None ↦ λ fails g. stuck_at_member before due told so_far n p t ts own fails (err_path n p g) at
          | Some s ↦ λ some g.
              subst (λ ms. IsStuck target base ms p) (append_assoc before (t ∷ []) ts)
              (read_err (before ++ t ∷ []) s.0 s.1 (suc n) p ts
              (ap (run target base Status untold) (shown_own before t true own) ∙ run_next before due told so_far (t ∷ []) ∙ ap (option_and_then (λ z. run target base z.0 z.1 [])) some)
              (omega (arith, at, length-append before (t ∷ []))) g)
        ] refl
        | false ↦ λ other g.
            subst (λ ms. IsStuck target base ms p) (append_assoc before (t ∷ []) ts)
            (read_err (before ++ t ∷ []) due told (suc n) p ts
            (ap (run target base Status untold) (shown_own before t false other) ∙ run_next before due told so_far [])
            (omega (arith, at, length-append before (t ∷ []))) g)
      ] refl h

-- ---- a tag

placed_ok : (r : Result Told ℕ) (told : Told) → placed r ≡ Ok told → r ≡ Ok told
placed_ok (Ok a) told h = cc
placed_ok (Err p) told h = absurd (cc)

placed_err : (r : Result Told ℕ) (index : Option ℕ) → placed r ≡ Err index → (p : ℕ) × (index ≡ Some p) × (r ≡ Err p)
placed_err (Ok a) index h = absurd (cc)
placed_err (Err p) index h = (p, cc, refl)

pub read_listing : (target : Target) (base : ℕ) (tag : Tree) (told : Told) → read_tag target base tag ≡ Ok told → IsListing target base (listing_of target told) tag
read_listing target base tag told h =
    elim (members_in (body_code target) tag) as (λ o. members_in (body_code target) tag ≡ o → read_members target base o ≡ Ok told → IsListing target base (listing_of target told) tag) [
      | None ↦ λ e g. absurd (cc)
      | Some ms ↦ λ e g. record {
        members = ms;
        is = members_is (body_code target) tag ms e;
        read = read_members_of target base told ms (placed_ok (read_from target base Status untold 0 ms) told g);
      }
    ] refl h

no_members : (target : Target) (tag : Tree) → members_in (body_code target) tag ≡ None → (members : List Tree) → ¬ (tag ≡ list (body_code target) (trees_of members))
no_members target tag fails members is =
    not_some (tree_list (trees_of members))
    (sym (ap (λ b. only_if b (tree_list (trees_of members))) (body_itself target)) ∙ sym (ap (members_in (body_code target)) is) ∙ fails)

pub read_stuck : (target : Target) (base : ℕ) (tag : Tree) (index : Option ℕ) → read_tag target base tag ≡ Err index → IsNoListing target base tag index
read_stuck target base tag index h =
    elim (members_in (body_code target) tag) as (λ o. members_in (body_code target) tag ≡ o → read_members target base o ≡ Err index → IsNoListing target base tag index) [
      | None ↦ λ e g. subst (IsNoListing target base tag) (index_path None index g) (no_members target tag e)
      | Some ms ↦ λ e g.
          let found = placed_err (read_from target base Status untold 0 ms) index g in
          subst (IsNoListing target base tag) (sym found.1)
          (ms, members_is (body_code target) tag ms e, read_err target base [] Status untold 0 found.0 ms refl refl found.2)
    ] refl h
  where
    index_path : (a b : Option ℕ) → let r : Result Told (Option ℕ) = Err a in let s : Result Told (Option ℕ) = Err b in r ≡ s → a ≡ b
    index_path a b e = cc
