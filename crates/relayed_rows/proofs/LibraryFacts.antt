-- Values that some pairs have or not, own rows, and a library that reads back.
use Rattle.std.proofs.Common.{◌≡◌, ℕ, Bool, true, false, cond, List, [], ◌∷◌, filter, Option, Some, None, nat_cmp, is_eq, Less, refl, sym, ap, subst, ◌∙◌}
use Rattle.std.specs.List.{AllByRecursion, cons_option, filter_map}
use Rattle.std.specs.List.Sorted.{IsStrictlySortedBy}
use Rattle.std.specs.Map.{keys_of}
use Rattle.std.specs.Option.{option_map, option_and_then}
use Rattle.std.proofs.lemmas.Map.Keys.{sorted_tail}
use Rattle.dmap_tags.specs.Tree.{Tree}
use Rattle.item_model.specs.declared.item.Row.{Row}
use Rattle.item_model.specs.declared.request.Meta.TheVariants.{All}
use Rattle.item_model.specs.declared.request.Target.TheVariants.{Items}
use Rattle.item_model.specs.Valid.{is_id}
use Rattle.share_history.specs.Keyed.{at, IsAscending}
use Rattle.share_history.specs.Listings.{shown_rows}
use Rattle.share_history.proofs.KeyedFacts.{past_head, same_key, key_itself, same_pairs}
use Rattle.share_history.proofs.MirrorFacts.{at-shown, ascending-shown, shown_at}
use Rattle.relayed_rows.specs.ReadRows.{row_of}
use Rattle.relayed_rows.specs.Libraries.{IsLibrary, IsOwn, Library, library_in}
use Rattle.relayed_rows.specs.Laws.{LibrariesReadBack}
use Rattle.relayed_rows.proofs.RowFacts.{rows_read_back}

-- ---- the values that are there

module _ {A B : Type 0} (f : A → Option B) where
  -- the pairs whose values come to something, with that
  abbrev pub values_in : List (ℕ × A) → List (ℕ × B)
  values_in xs = filter_map (λ x. option_map (λ y. (x.0, y)) (f x.1)) xs

  first_value : (q : ℕ) (x : ℕ × A) (o : Option B) (b : Bool) (rest : List (ℕ × B)) (behind : Option A) → f x.1 ≡ o → is_eq (nat_cmp q x.0) ≡ b → (b ≡ true → behind ≡ None)
      → at q rest ≡ option_and_then f behind
      → at q (cons_option (option_map (λ y. (x.0, y)) o) rest) ≡ option_and_then f (cond b (Some x.1) behind)
  first_value q x None true rest behind e same none h = h ∙ ap (option_and_then f) (none refl) ∙ sym e
  first_value q x None false rest behind e same none h = h
  first_value q x (Some y) true rest behind e same none h = ap (λ b. cond b (Some y) (at q rest)) same ∙ sym e
  first_value q x (Some y) false rest behind e same none h = ap (λ b. cond b (Some y) (at q rest)) same ∙ h

  pub at-values : (q : ℕ) (xs : List (ℕ × A)) → IsAscending xs → at q (values_in xs) ≡ option_and_then f (at q xs)
  at-values q [] s = refl
  at-values q (x ∷ xs) s =
      first_value q x (f x.1) (is_eq (nat_cmp q x.0)) (values_in xs) (at q xs) refl refl (past_head q x xs s) (at-values q xs (sorted_tail nat_cmp x.0 (keys_of xs) s))

  all-values : (P : ℕ → Type 0) (xs : List (ℕ × A)) → AllByRecursion P (keys_of xs) → AllByRecursion P (keys_of (values_in xs))
  all-values P [] all = tt
  all-values P (x ∷ xs) all = elim (f x.1) as (λ o. AllByRecursion P (keys_of (cons_option (option_map (λ y. (x.0, y)) o) (values_in xs)))) [
    | None ↦ all-values P xs all.1
    | Some y ↦ (all.0, all-values P xs all.1)
  ]

  pub ascending-values : (xs : List (ℕ × A)) → IsAscending xs → IsAscending (values_in xs)
  unfolding IsStrictlySortedBy
  ascending-values [] s = tt
  ascending-values (x ∷ xs) s = elim (f x.1) as (λ o. IsAscending (cons_option (option_map (λ y. (x.0, y)) o) (values_in xs))) [
    | None ↦ ascending-values xs s.1
    | Some y ↦ (all-values (λ k. nat_cmp x.0 k ≡ Less) xs s.0, ascending-values xs s.1)
  ]

-- ---- pairs and their keys

module _ {A : Type 0} (P : ℕ × A → Type 0) where
  -- what holds of all pairs holds of what is found
  pub holds_at : (q : ℕ) (x : A) (xs : List (ℕ × A)) → AllByRecursion P xs → at q xs ≡ Some x → P (q, x)
  holds_at q x [] all h = absurd (cc)
  holds_at q x (y ∷ ys) all h =
      elim (is_eq (nat_cmp q y.0)) as (λ b. is_eq (nat_cmp q y.0) ≡ b → cond b (Some y.1) (at q ys) ≡ Some x → P (q, x)) [
        | true ↦ λ same k. let one : y.1 ≡ x = cc in let key : y.0 ≡ q = sym (same_key q y.0 same) in subst (λ v. P (q, v)) one (subst (λ n. P (n, y.1)) key all.0)
        | false ↦ λ other k. holds_at q x ys all.1 k
      ] refl h

  behind_head : (q : ℕ) (x : A) (y : ℕ × A) (ys : List (ℕ × A)) → IsAscending (y ∷ ys) → at q ys ≡ Some x → at q (y ∷ ys) ≡ Some x
  behind_head q x y ys s h = elim (is_eq (nat_cmp q y.0)) as (λ b. is_eq (nat_cmp q y.0) ≡ b → cond b (Some y.1) (at q ys) ≡ Some x) [
    | true ↦ λ same. let none : at q ys ≡ None = past_head q y ys s same in absurd (cc)
    | false ↦ λ other. h
  ] refl

  -- and what holds of all that is found holds of the pairs
  pub holds_of_all : (xs : List (ℕ × A)) → IsAscending xs → ((q : ℕ) (x : A) → at q xs ≡ Some x → P (q, x)) → AllByRecursion P xs
  holds_of_all [] s h = tt
  holds_of_all (y ∷ ys) s h = (
    h y.0 y.1 (ap (λ b. cond b (Some y.1) (at y.0 ys)) (key_itself y.0)),
    holds_of_all ys (sorted_tail nat_cmp y.0 (keys_of ys) s) (λ q x k. h q x (behind_head q x y ys s k)),
  )

pub all_filtered : {A : Type 0} (P : A → Type 0) (p : A → Bool) (xs : List A) → AllByRecursion P xs → AllByRecursion P (filter p xs)
all_filtered P p [] all = tt
all_filtered P p (x ∷ xs) all = elim (p x) as (λ b. AllByRecursion P (cond b (x ∷ filter p xs) (filter p xs))) [
  | true ↦ (all.0, all_filtered P p xs all.1)
  | false ↦ all_filtered P p xs all.1
]

-- ---- libraries

pub at-library_in : (q : ℕ) (tags : List (ℕ × Tree)) → IsAscending tags → at q (library_in tags) ≡ option_and_then row_of (at q tags)
at-library_in q tags s = at-values row_of q tags s

pub ascending-library_in : (tags : List (ℕ × Tree)) → IsAscending tags → IsAscending (library_in tags)
ascending-library_in tags s = ascending-values row_of tags s

-- what is found in a library is its own
pub own_at : (l : Library) (q : ℕ) (row : Row) → IsLibrary l → at q l ≡ Some row → IsOwn (q, row)
own_at l q row is h = holds_at IsOwn q row l is.rows h

pub own_id : (q : ℕ) (row : Row) → IsOwn (q, row) → is_id row.id ≡ true
own_id q row own = subst (λ n. is_id n ≡ true) (sym own.own) own.id

read_again : (q : ℕ) (o : Option Row) → ((row : Row) → o ≡ Some row → IsOwn (q, row)) → option_and_then row_of (option_map (shown_at Items All q) o) ≡ o
read_again q None own = refl
read_again q (Some row) own = let is : IsOwn (q, row) = own row refl in rows_read_back row is.item (own_id q row is)

pub libraries_read_back : LibrariesReadBack
libraries_read_back l is =
    same_pairs (library_in (shown_rows Items All l)) l (ascending-library_in (shown_rows Items All l) (ascending-shown Items All l is.ascends)) is.ascends
    (λ q.
    at-library_in q (shown_rows Items All l) (ascending-shown Items All l is.ascends) ∙ ap (option_and_then row_of) (at-shown Items All q l)
    ∙ read_again q (at q l) (λ row h. own_at l q row is h))

pub nothing_is_library : IsLibrary []
unfolding IsStrictlySortedBy
nothing_is_library = record { ascends = tt; rows = tt }
