-- The first position of a byte, and what is before and after it.
use Rattle.std.proofs.Common.{◌≡◌, ℕ, suc, ◌+◌, ◌<◌, ◌≤◌, List, [], ◌∷◌, length, Bool, true, false, not, ◌||◌, nat_lt, cond, Some, None, refl, sym, ◌∙◌, inl, inr, arith}
use Rattle.std.proofs.lemmas.Bool.{cases_Bool, cond-true, ltb-false, ltb-true, lt-ltb, le-ltb}
use Rattle.std.proofs.lemmas.List.{take_all, drop_all}
use Rattle.std.proofs.lemmas.Option.{cond_some}
use Rattle.std.specs.List.{list_any, position, position_or_len, before_first, after_first}

module _ {X : Type 0} (p : X → Bool) where
  pub at_position : (xs : List X) (i : ℕ) → position p xs ≡ Some i → position_or_len p xs ≡ i
  at_position xs i e = (cond_some (nat_lt (position_or_len p xs) (length xs)) (position_or_len p xs) i e).1

  pub no_position : (xs : List X) → position p xs ≡ None → length xs ≤ position_or_len p xs
  no_position xs e = elim (cases_Bool (nat_lt (position_or_len p xs) (length xs))) [
    | inl inside ↦
        let found : position p xs ≡ Some (position_or_len p xs) = cond-true (nat_lt (position_or_len p xs) (length xs)) _ _ inside in absurd (cc)
    | inr past ↦ ltb-false (position_or_len p xs) (length xs) past
  ]

  pub nothing_before : (xs : List X) → position p xs ≡ None → before_first p xs ≡ xs
  nothing_before xs e = take_all (position_or_len p xs) xs (no_position xs e)

  pub nothing_behind : (xs : List X) → position p xs ≡ None → after_first p xs ≡ []
  nothing_behind xs e = let past : length xs ≤ position_or_len p xs = no_position xs e in drop_all (position_or_len p xs + 1) xs (omega arith)

  -- an element passes exactly if one is found
  pub any_within : (xs : List X) → list_any p xs ≡ nat_lt (position_or_len p xs) (length xs)
  any_within [] = refl
  any_within (x ∷ xs) = by_test (p x) (any_within xs)
    where
      one_more : (a b : ℕ) → nat_lt a b ≡ nat_lt (1 + a) (suc b)
      one_more a b = elim (cases_Bool (nat_lt a b)) [
        | inl less ↦ let h : a < b = ltb-true a b less in less ∙ sym (lt-ltb (1 + a) (suc b) (omega arith))
        | inr more ↦ let h : b ≤ a = ltb-false a b more in more ∙ sym (le-ltb (1 + a) (suc b) (omega arith))
      ]

      by_test : (t : Bool) → list_any p xs ≡ nat_lt (position_or_len p xs) (length xs)
          → (t || list_any p xs) ≡ nat_lt (cond (not t) (1 + position_or_len p xs) 0) (suc (length xs))
      by_test true h = sym (lt-ltb 0 (suc (length xs)) (omega arith))
      by_test false h = h ∙ one_more (position_or_len p xs) (length xs)

  pub any_position : (xs : List X) (i : ℕ) → position p xs ≡ Some i → list_any p xs ≡ true
  any_position xs i e = any_within xs ∙ (cond_some (nat_lt (position_or_len p xs) (length xs)) (position_or_len p xs) i e).0

  pub none_position : (xs : List X) → position p xs ≡ None → list_any p xs ≡ false
  none_position xs e = elim (cases_Bool (nat_lt (position_or_len p xs) (length xs))) [
    | inl inside ↦
        let found : position p xs ≡ Some (position_or_len p xs) = cond-true (nat_lt (position_or_len p xs) (length xs)) _ _ inside in absurd (cc)
    | inr past ↦ any_within xs ∙ past
  ]
