-- Handles that are joined to one, one after another.
use Rattle.std.proofs.Common.{◌≡◌, ℕ, suc, ◌+◌, ◌<◌, ◌≤◌, List, [], ◌∷◌, ◌++◌, length, get_or, sym, ap, ◌∙◌, subst, arith, length-append}
use Rattle.std.proofs.Math.ListN.{get_or-append}
use Rattle.std.proofs.Math.Seq.{get_or-append_seam}
use Rattle.std.proofs.lemmas.List.Elements.{All-append, Contains-append_left, Contains-append_right}
use Rattle.std.specs.Prelude.{All, Contains}
use mathlib.Core.Logic.{dite}
use native.Mathlib.Decide.{dec_le}
use Rattle.share_lock.specs.Histories.{Continues}
use Rattle.share_lock.specs.Known.{numbers_of, after_join}
use Rattle.share_lock.specs.Passes.{known}
use Rattle.share_lock.proofs.Fronts.{continues_less, continues_more}
use Rattle.lock_trials.specs.Gathered.{NumbersPass, IsCovered, AreCovered, AreApart}
use Rattle.lock_trials.specs.Made.{by_of}
use Rattle.lock_trials.specs.declared.numbers.Number.{Number}
use Rattle.lock_trials.specs.Work.{Apart, IsIn}

-- what all elements of a list satisfy, the one after a prefix does
pub all_seam : {A : Type 0} (P : A → Type 0) (xs : List A) (y : A) (ys zs : List A) → zs ≡ xs ++ y ∷ ys → All P zs → P y
all_seam P xs y ys zs is all =
    let len = length-append xs (y ∷ ys) in
    let here = subst (All P) is all (length xs) y (omega arith) in
    subst P (get_or-append_seam xs y ys y) here

covered_by : (pass pass' p : NumbersPass) → IsCovered pass' pass → IsCovered pass p → IsCovered pass' p
covered_by pass pass' p on at = record {
  numbers = λ n has. on.numbers n (at.numbers n has);
  history = continues_more by_of (numbers_of (known p)) (known p).seen (known pass).seen (known pass').seen at.history
      (continues_less by_of (numbers_of (known pass)) (numbers_of (known p)) (known pass).seen (known pass').seen at.numbers on.history);
}

-- a handle after a join covers the handle before it, and the one that was joined
joins_first : (pass pass' other : NumbersPass) → known pass' ≡ after_join (known pass) (known other) → Continues by_of (numbers_of (known pass)) (known pass).seen (known pass').seen → IsCovered pass' pass
joins_first pass pass' other is history = record {
  numbers = λ n has. subst (λ k. Contains (numbers_of k) n) (sym is) (Contains-append_left (numbers_of (known pass)) (numbers_of (known other)) n has);
  history = history;
}

joins_second : (pass pass' other : NumbersPass) → known pass' ≡ after_join (known pass) (known other) → Continues by_of (numbers_of (known other)) (known other).seen (known pass').seen → IsCovered pass' other
joins_second pass pass' other is history = record {
  numbers = λ n has. subst (λ k. Contains (numbers_of k) n) (sym is) (Contains-append_right (numbers_of (known pass)) (numbers_of (known other)) n has);
  history = history;
}

pub one : {A : Type 0} (P : A → Type 0) (a : A) → P a → All P (a ∷ [])
one P a holds k d less = let is : 0 ≡ k = omega arith in subst (λ i. P (get_or (a ∷ []) i d)) is holds

pub covers_more : (pass pass' other : NumbersPass) (ps : List NumbersPass) → known pass' ≡ after_join (known pass) (known other)
    → Continues by_of (numbers_of (known pass)) (known pass).seen (known pass').seen → Continues by_of (numbers_of (known other)) (known other).seen (known pass').seen
    → AreCovered pass ps → AreCovered pass' (ps ++ other ∷ [])
covers_more pass pass' other ps is first second covered =
    All-append (λ p. IsCovered pass' p) ps (other ∷ [])
    (λ k d less. covered_by pass pass' (get_or ps k d) (joins_first pass pass' other is first) (covered k d less))
    (one (λ p. IsCovered pass' p) other (joins_second pass pass' other is second))

pub apart_more : (pass other : NumbersPass) (ps : List NumbersPass) → AreCovered pass ps → Apart (known pass) (known other) → AreApart ps → AreApart (ps ++ other ∷ [])
apart_more pass other ps covered apart all i j d before less =
    let len = length-append ps (other ∷ []) in
    let front : i < length ps = omega arith in
    let at_i = get_or-append ps (other ∷ []) d i front in
    dite (dec_le (suc j) (length ps))
    (λ inside. subst (λ (t : NumbersPass × NumbersPass). Apart (known t.0) (known t.1)) (λ k. (sym at_i k, sym (get_or-append ps (other ∷ []) d j (omega arith)) k)) (all i j d before (omega arith)))
    (λ last. let is : length ps ≡ j = omega arith in
    subst (λ (t : NumbersPass × NumbersPass). Apart (known t.0) (known t.1)) (λ k. (sym at_i k, (sym (get_or-append_seam ps other [] d) ∙ ap (λ m. get_or (ps ++ other ∷ []) m d) is) k))
    (λ n mine his. apart n ((covered i d front).numbers n mine) his))

-- a history that continues a handle's continues those that it covers
pub seen_in : (history : List Number) (pass : NumbersPass) (ps : List NumbersPass) → AreCovered pass ps → Continues by_of (numbers_of (known pass)) (known pass).seen history → All (λ p. IsIn history (known p)) ps
seen_in history pass ps covered on k d less =
    let p = get_or ps k d in
    let at = covered k d less in
    continues_more by_of (numbers_of (known p)) (known p).seen (known pass).seen history at.history
    (continues_less by_of (numbers_of (known pass)) (numbers_of (known p)) (known pass).seen history at.numbers on)
