-- The versions under each key, with the newest and the older ones in maps apart.
use Rattle.std.proofs.Common.{◌≡◌, ℕ, Bool, true, false, cond, ◌||◌, List, [], ◌∷◌, filter, Option, Some, None, is_some, unwrap_or, refl, sym, ap, subst, ◌∙◌, true≢false, nat_cmp, is_eq, Less, Equal, Greater}
use Rattle.std.specs.Prelude.{Result, Ok, Err, IfOk}
use Rattle.std.specs.List.{list_any, AllByRecursion}
use Rattle.std.specs.List.Sorted.{IsStrictlySortedBy}
use Rattle.std.specs.Map.{keys_of}
use Rattle.std.specs.BTreeMap.{is_at}
use Rattle.std.specs.Cmp.{nat_cmp_total}
use Rattle.std.specs.declared.collections.VecDeque.{VecDeque}
use Rattle.std.proofs.lemmas.Cmp.{eq_by_cmp_equiv}
use Rattle.std.proofs.lemmas.Map.Keys.{IsDistinct-from_sorted}
use Rattle.std.proofs.lemmas.Map.Entries.{option_filter, lookup-filter-values}
use Rattle.std.proofs.lemmas.Map.Lookups.{exact_unsigned}
use Rattle.key_versions.specs.declared.version.Version.{Version}
use Rattle.key_versions.specs.Found.{newest_value}
use Rattle.key_versions.specs.Held.{Held, at, versions_at, AreKeys}
use Rattle.key_versions.specs.Joined.{older_at, joined, versions_of, apart_at}

same_key : (q k : ℕ) → is_eq (nat_cmp q k) ≡ true → q ≡ k
same_key q k h = elim (nat_cmp q k) as (λ r. nat_cmp q k ≡ r → is_eq r ≡ true → q ≡ k) [
  | Less ↦ λ e b. absurd (true≢false (sym b))
  | Equal ↦ λ e b. exact_unsigned q k e
  | Greater ↦ λ e b. absurd (true≢false (sym b))
] refl h

some_or : {X : Type 0} (b : Bool) (x : X) (found : Option X) → is_some (cond b (Some x) found) ≡ (b || is_some found)
some_or true x found = refl
some_or false x found = refl

any-keys_of : {X : Type 0} (q : ℕ) (es : List (ℕ × X)) → list_any (is_at (nat_cmp q)) (keys_of es) ≡ is_some (at q es)
any-keys_of q [] = refl
any-keys_of q (e ∷ es) = ap (λ b. is_eq (nat_cmp q e.0) || b) (any-keys_of q es) ∙ sym (some_or (is_eq (nat_cmp q e.0)) e.1 (at q es))

-- ---- the keys

module _ {T : Type 0} where
  all-filter : (P : ℕ → Type 0) (p : ℕ × Version T → Bool) (es : List (ℕ × Version T)) → AllByRecursion P (keys_of es) → AllByRecursion P (keys_of (filter p es))
  all-filter P p [] all = tt
  all-filter P p (e ∷ es) all = elim (p e) as (λ b. AllByRecursion P (keys_of (cond b (e ∷ filter p es) (filter p es)))) [
    | true ↦ (all.0, all-filter P p es all.1)
    | false ↦ all-filter P p es all.1
  ]

  sorted-filter : (p : ℕ × Version T → Bool) (es : List (ℕ × Version T)) → IsStrictlySortedBy nat_cmp (keys_of es) → IsStrictlySortedBy nat_cmp (keys_of (filter p es))
  unfolding IsStrictlySortedBy
  sorted-filter p [] s = tt
  sorted-filter p (e ∷ es) s = elim (p e) as (λ b. IsStrictlySortedBy nat_cmp (keys_of (cond b (e ∷ filter p es) (filter p es)))) [
    | true ↦ (all-filter (λ y. nat_cmp e.0 y ≡ Less) p es s.0, sorted-filter p es s.1)
    | false ↦ sorted-filter p es s.1
  ]

  has_value : (o : Option (Version T)) (older : List (Version T)) → is_some (option_filter (λ v. is_some v.value) o) ≡ is_some (newest_value (versions_of o older))
  has_value None older = refl
  has_value (Some v) older = filled (is_some v.value) refl
    where
      filled : (b : Bool) → is_some v.value ≡ b → is_some (cond b (Some v) None) ≡ is_some v.value
      filled true is = sym is
      filled false is = sym is

-- ---- the parts and the whole

module _ {T A : Type 0} where
  versions_joined : (q : ℕ) (newest : List (ℕ × Version T)) (older : List (ℕ × VecDeque (Version T) A)) → versions_at q (joined newest older) ≡ apart_at newest older q
  versions_joined q [] older = refl
  versions_joined q (e ∷ es) older = here (is_eq (nat_cmp q e.0)) refl (versions_joined q es older)
    where
      here : (b : Bool) → is_eq (nat_cmp q e.0) ≡ b → versions_at q (joined es older) ≡ apart_at es older q
          → unwrap_or (cond b (Some (e.1 ∷ older_at e.0 older)) (at q (joined es older))) [] ≡ versions_of (cond b (Some e.1) (at q es)) (older_at q older)
      here true is rest = ap (λ k. e.1 ∷ older_at k older) (sym (same_key q e.0 is))
      here false is rest = rest

  -- what is said of the parts is said of the whole
  pub told : (newest : List (ℕ × Version T)) (older : List (ℕ × VecDeque (Version T) A)) (held : Held T) → joined newest older ≡ held
      → (P : (ℕ → List (Version T)) → Type 0) → P (apart_at newest older) → P (λ q. versions_at q held)
  told newest older held is P h = subst P (λ i q. (sym (versions_joined q newest older) ∙ ap (versions_at q) is) i) h

  -- the same of a change
  pub changed : (newest newest' : List (ℕ × Version T)) (older older' : List (ℕ × VecDeque (Version T) A)) (held : Held T) → joined newest older ≡ held
      → (P : (ℕ → List (Version T)) → (ℕ → List (Version T)) → Type 0) → P (apart_at newest older) (apart_at newest' older')
      → P (λ q. versions_at q held) (λ q. versions_at q (joined newest' older'))
  changed newest newest' older older' held is P h =
      told newest' older' (joined newest' older') refl (P (λ q. versions_at q held)) (told newest older held is (λ f. P f (apart_at newest' older')) h)

  pub keys_joined : (newest : List (ℕ × Version T)) (older : List (ℕ × VecDeque (Version T) A)) (held : Held T) (keys : List ℕ) → joined newest older ≡ held
      → IsStrictlySortedBy nat_cmp (keys_of newest) → keys ≡ keys_of (filter (λ e. is_some e.1.value) newest) → AreKeys held keys
  keys_joined newest older held keys is sorted listed = record {
    ascending = subst (IsStrictlySortedBy nat_cmp) (sym listed) (sorted-filter (λ e. is_some e.1.value) newest sorted);
    each = λ q.
        ap (list_any (is_at (nat_cmp q))) listed
        ∙ any-keys_of q (filter (λ e. is_some e.1.value) newest)
        ∙ ap is_some (lookup-filter-values (eq_by_cmp_equiv nat_cmp_total) (λ v. is_some v.value) q newest (IsDistinct-from_sorted nat_cmp (keys_of newest) sorted))
        ∙ has_value (at q newest) (older_at q older)
        ∙ told newest older held is (λ f. is_some (newest_value (apart_at newest older q)) ≡ is_some (newest_value (f q))) refl;
  }

  pub keys_told : {X E : Type 0} (items : X → List ℕ) (r : Result X E) (newest : List (ℕ × Version T)) (older : List (ℕ × VecDeque (Version T) A)) (held : Held T)
      → joined newest older ≡ held → IfOk r (λ _. IsStrictlySortedBy nat_cmp (keys_of newest))
      → IfOk r (λ v. items v ≡ keys_of (filter (λ e. is_some e.1.value) newest)) → IfOk r (λ v. AreKeys held (items v))
  keys_told items (Ok v) newest older held is sorted listed = keys_joined newest older held (items v) is sorted listed
  keys_told items (Err e) newest older held is sorted listed = tt
