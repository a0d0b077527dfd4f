-- What stands under each text after a change under one of them.
use Rattle.std.specs.BTreeSet as sets
use Rattle.std.proofs.Common.{◌≡◌, Ok, Err, OnOk, OnErr, Result, ℕ, Bool, true, false, cond, not, true≢false, ◌&&◌, ◌||◌, ◌==◌, List, [], ◌∷◌, Option, refl, sym, ap, ◌∙◌, ⊎_elim, nat_cmp}
use Rattle.std.specs.Option.{option_map_or}
use Rattle.std.specs.Prelude.{String}
use Rattle.std.specs.String.{string_cmp, string_bytes}
use Rattle.std.specs.Cmp.Lexicographic.{slice_cmp}
use Rattle.std.specs.Str.{bytes_eq}
use Rattle.std.specs.BTreeMap.{BTreeMap, UpdatesBy, IsUnchanged, is_at, get_by_text}
use Rattle.std.specs.BTreeSet.{BTreeSet}
use Rattle.std.specs.Map.{lookup}
use Rattle.std.proofs.lemmas.Bool.{cases_Bool}
use Rattle.std.proofs.lemmas.Map.Text.{btree_map_updates_text}
use Rattle.std.proofs.lemmas.Slice.Eq.{bytes_eq-Decides}
use Rattle.share_history.proofs.KeyedFacts.{is_eq-cmp}
use Rattle.share_history.specs.BrowseListings.{is_filled}
use Rattle.prop_index.specs.IdSets.{has, is_nil, is_unused}
use Rattle.prop_index.specs.Ids.{hits}

-- the ids of a set that may be there
abbrev pub ids_in : Option (BTreeSet ℕ) → List ℕ
ids_in found = option_map_or (λ ids. ids.keys) found []

-- ---- one set

put_or : (b held : Bool) → cond b true held ≡ (held || b)
put_or true true = refl
put_or true false = refl
put_or false true = refl
put_or false false = refl

take_and : (b held : Bool) → cond b false held ≡ (held && not b)
take_and true true = refl
take_and true false = refl
take_and false true = refl
take_and false false = refl

pub has_put : (id : ℕ) (s n : BTreeSet ℕ) → sets.UpdatesBy nat_cmp (nat_cmp id) s n true → (q : ℕ) → has q n.keys ≡ (has q s.keys || (q == id))
has_put id s n updates q = updates.0 q ∙ ap (λ b. cond b true (has q s.keys)) (is_eq-cmp id q) ∙ put_or (q == id) (has q s.keys)

pub has_taken : (id : ℕ) (s n : BTreeSet ℕ) → sets.UpdatesBy nat_cmp (nat_cmp id) s n false → (q : ℕ) → has q n.keys ≡ (has q s.keys && not (q == id))
has_taken id s n updates q = updates.0 q ∙ ap (λ b. cond b false (has q s.keys)) (is_eq-cmp id q) ∙ take_and (q == id) (has q s.keys)

-- a set with an id is not empty
pub not_nil : (id : ℕ) (ids : List ℕ) → has id ids ≡ true → is_nil ids ≡ false
not_nil id [] h = sym h
not_nil id (x ∷ ids) h = refl

-- an empty set has no id
pub nothing : (id : ℕ) (ids : List ℕ) → is_nil ids ≡ true → has id ids ≡ false
nothing id [] h = refl
nothing id (x ∷ ids) h = absurd (true≢false (sym h))

-- ---- all texts

or_none : (b : Bool) → b ≡ (b || false)
or_none true = refl
or_none false = refl

and_all : (b : Bool) → b ≡ (b && true)
and_all true = refl
and_all false = refl

-- one text changes, and the others stay
abbrev pub Changes : {Y : Type 0} → List ℕ → BTreeMap (String Y) (BTreeSet ℕ) → BTreeMap (String Y) (BTreeSet ℕ) → Option (BTreeSet ℕ) → Type 0
Changes text m n found = (other : List ℕ) → get_by_text n other ≡ cond (bytes_eq text other) found (get_by_text m other)

pub changes : {Y : Type 0} (text : List ℕ) (m n : BTreeMap (String Y) (BTreeSet ℕ)) (found : Option (BTreeSet ℕ))
    → UpdatesBy string_cmp (λ k. slice_cmp nat_cmp text (string_bytes k)) m n found → Changes text m n found
changes text m n found updates other = btree_map_updates_text text m n found updates other

-- of two changes under one text the last counts
pub changes_again : {Y : Type 0} (text : List ℕ) (m n o : BTreeMap (String Y) (BTreeSet ℕ)) (found last : Option (BTreeSet ℕ))
    → Changes text m n found → Changes text n o last → Changes text m o last
changes_again text m n o found last first then other =
    then other
    ∙ elim (bytes_eq text other) as (λ b. bytes_eq text other ≡ b → cond b last (get_by_text n other) ≡ cond b last (get_by_text m other)) [
      | true ↦ λ h. refl
      | false ↦ λ h. first other ∙ ap (λ b. cond b found (get_by_text m other)) h
    ] refl

module _ {Y : Type 0} (text : List ℕ) (m n : BTreeMap (String Y) (BTreeSet ℕ)) (found : Option (BTreeSet ℕ)) (changed : Changes text m n found) where
  -- no text stands without an id where none did, if what was put has one
  pub used : ((other : List ℕ) → is_unused (get_by_text m other) ≡ false) → is_unused found ≡ false → (other : List ℕ) → is_unused (get_by_text n other) ≡ false
  used before now other =
      ap is_unused (changed other) ∙ elim (bytes_eq text other) as (λ b. is_unused (cond b found (get_by_text m other)) ≡ false) [ true ↦ now | false ↦ before other ]

  -- the id stands under the text, and all else is as before
  pub puts : (id : ℕ) → is_filled text ≡ true → ((q : ℕ) → has q (ids_in found) ≡ (has q (ids_in (get_by_text m text)) || (q == id)))
      → (other : List ℕ) (q : ℕ) → has q (ids_in (get_by_text n other)) ≡ (has q (ids_in (get_by_text m other)) || hits text id other q)
  puts id filled put other q =
      ap (λ o. has q (ids_in o)) (changed other)
      ∙ ⊎_elim
      (λ (h : bytes_eq text other ≡ true).
      ap (λ b. has q (ids_in (cond b found (get_by_text m other)))) h ∙ put q
      ∙ ap (λ t. has q (ids_in (get_by_text m t)) || (q == id)) ((bytes_eq-Decides text other).0 h)
      ∙ ap (λ b. has q (ids_in (get_by_text m other)) || b) (sym (ap (λ b. is_filled text && (b && (q == id))) h ∙ ap (λ b. b && (q == id)) filled)))
      (λ (h : bytes_eq text other ≡ false).
      ap (λ b. has q (ids_in (cond b found (get_by_text m other)))) h ∙ or_none (has q (ids_in (get_by_text m other)))
      ∙ ap (λ b. has q (ids_in (get_by_text m other)) || b) (sym (ap (λ b. is_filled text && (b && (q == id))) h ∙ ap (λ b. b && false) filled)))
      (cases_Bool (bytes_eq text other))

  -- the id does not stand under the text, and all else is as before
  pub takes : (id : ℕ) → ((q : ℕ) → has q (ids_in found) ≡ (has q (ids_in (get_by_text m text)) && not (q == id)))
      → (other : List ℕ) (q : ℕ) → has q (ids_in (get_by_text n other)) ≡ (has q (ids_in (get_by_text m other)) && not (bytes_eq text other && (q == id)))
  takes id taken other q =
      ap (λ o. has q (ids_in o)) (changed other)
      ∙ ⊎_elim
      (λ (h : bytes_eq text other ≡ true).
      ap (λ b. has q (ids_in (cond b found (get_by_text m other)))) h ∙ taken q
      ∙ ap (λ t. has q (ids_in (get_by_text m t)) && not (q == id)) ((bytes_eq-Decides text other).0 h)
      ∙ ap (λ b. has q (ids_in (get_by_text m other)) && not (b && (q == id))) (sym h))
      (λ (h : bytes_eq text other ≡ false).
      ap (λ b. has q (ids_in (cond b found (get_by_text m other)))) h ∙ and_all (has q (ids_in (get_by_text m other)))
      ∙ ap (λ b. has q (ids_in (get_by_text m other)) && not (b && (q == id))) (sym h))
      (cases_Bool (bytes_eq text other))

  -- one text changes, and no text has lost or won an id
  pub same : ((q : List ℕ) → bytes_eq text q ≡ true → ids_in found ≡ ids_in (get_by_text m q)) → (other : List ℕ) → ids_in (get_by_text n other) ≡ ids_in (get_by_text m other)
  same alike other =
      ap ids_in (changed other)
      ∙ elim (bytes_eq text other) as (λ b. bytes_eq text other ≡ b → ids_in (cond b found (get_by_text m other)) ≡ ids_in (get_by_text m other)) [
        | true ↦ λ h. alike other h
        | false ↦ λ h. refl
      ] refl

-- the same where a map that refused the change stays as it was
pub used_or_same : {Y T E : Type 0} (text : List ℕ) (m n : BTreeMap (String Y) (BTreeSet ℕ)) (found : Option (BTreeSet ℕ)) (r : Result T E)
    → OnOk r (UpdatesBy string_cmp (λ k. slice_cmp nat_cmp text (string_bytes k)) m n found) → OnErr r (IsUnchanged m n)
    → ((other : List ℕ) → is_unused (get_by_text m other) ≡ false) → is_unused found ≡ false → (other : List ℕ) → is_unused (get_by_text n other) ≡ false
used_or_same text m n found (Ok x) ok err before now = used text m n found (changes text m n found ok) before now
used_or_same text m n found (Err e) ok err before now =
    λ other. ap (λ es. is_unused (lookup (is_at (λ k. slice_cmp nat_cmp other (string_bytes k))) es)) err ∙ before other

-- an id that is taken away from under one text stays under another
pub settles : (kept gone other : List ℕ) (held is_id : Bool) → bytes_eq kept gone ≡ false
    → (held && not (bytes_eq gone other && is_id)) ≡ (held && (not (bytes_eq gone other && is_id) || bytes_eq kept other))
settles kept gone other held is_id apart =
    ap (λ b. held && b)
    (by_cases (bytes_eq gone other) (bytes_eq kept other) (λ h. ap (bytes_eq kept) (sym ((bytes_eq-Decides gone other).0 h)) ∙ apart))
  where
    or_none_of : (b : Bool) → b ≡ (b || false)
    or_none_of true = refl
    or_none_of false = refl

    by_cases : (here there : Bool) → (here ≡ true → there ≡ false) → not (here && is_id) ≡ (not (here && is_id) || there)
    by_cases true there h = or_none_of (not is_id) ∙ ap (λ b. not is_id || b) (sym (h refl))
    by_cases false there h = refl
