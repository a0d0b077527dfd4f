-- The rows of the first songs may be planned: their ids ascend.
use Rattle.std.proofs.Common.{◌≡◌, ◌<◌, ◌≤◌, ◌+◌, ℕ, List, [], ◌∷◌, ◌++◌, length, None, unwrap_or, All, sym, subst, ap, ◌∙◌, arith, nat_cmp, Less, length-append}
use Rattle.std.specs.Cmp.{nat_cmp_is}
use Rattle.std.specs.List.{AllByRecursion}
use Rattle.std.specs.List.Sorted.{IsStrictlySortedBy}
use Rattle.std.proofs.lemmas.List.Elements.{All-push}
use Rattle.item_model.specs.declared.request.Target.TheVariants.{Items}
use Rattle.share_history.specs.Keyed.{AreAscending}
use Rattle.listing_plan.specs.declared.row.PlanRow.{PlanRow}
use Rattle.listing_plan.specs.Limits.{rows_limit}
use Rattle.listing_plan.specs.Plans.{AreRowsOf, key_of, keys_of_rows}

-- rows of no container, whose keys ascend up to a number
pub record AreFirst (n : ℕ) (rows : List PlanRow) : Type 0 where
  pub members : All (λ row. row.member ≡ None) rows
  pub ascending : AreAscending (keys_of_rows rows)
  pub below : AllByRecursion (λ key. key < n) (keys_of_rows rows)
  pub few : length rows ≤ n

last_above : (ks : List ℕ) (k n : ℕ) → AllByRecursion (λ y. nat_cmp k y ≡ Less) ks → k < n → AllByRecursion (λ y. nat_cmp k y ≡ Less) (ks ++ n ∷ [])
last_above [] k n all lt = (sym (nat_cmp_is k n Less lt), tt)
last_above (j ∷ ks) k n all lt = (all.0, last_above ks k n all.1 lt)

ascending_more : (ks : List ℕ) (n : ℕ) → AreAscending ks → AllByRecursion (λ key. key < n) ks → AreAscending (ks ++ n ∷ [])
unfolding IsStrictlySortedBy
ascending_more [] n s all = (tt, tt)
ascending_more (k ∷ ks) n s all = (last_above ks k n s.0 all.0, ascending_more ks n s.1 all.1)

below_more : (ks : List ℕ) (n : ℕ) → AllByRecursion (λ key. key < n) ks → AllByRecursion (λ key. key < n + 1) (ks ++ n ∷ [])
below_more [] n all = (omega arith, tt)
below_more (k ∷ ks) n all = (omega (arith, all.0), below_more ks n all.1)

own_key : (row : PlanRow) (n : ℕ) → row.member ≡ None → row.row.id ≡ n → key_of row ≡ n
own_key row n alone is = ap (λ m. unwrap_or m row.row.id) alone ∙ is

keys_more : (rows : List PlanRow) (row : PlanRow) (n : ℕ) → row.member ≡ None → row.row.id ≡ n → keys_of_rows (rows ++ row ∷ []) ≡ keys_of_rows rows ++ n ∷ []
keys_more [] row n alone is = ap (λ k. k ∷ []) (own_key row n alone is)
keys_more (r ∷ rows) row n alone is = ap (λ ks. key_of r ∷ ks) (keys_more rows row n alone is)

pub no_rows : AreFirst 0 []
unfolding IsStrictlySortedBy
no_rows = record { members = λ k d lt. absurd (omega arith); ascending = tt; below = tt; few = omega arith }

pub row_more : (n : ℕ) (rows : List PlanRow) (row : PlanRow) → row.member ≡ None → row.row.id ≡ n → AreFirst n rows → AreFirst (n + 1) (rows ++ row ∷ [])
row_more n rows row alone is first = record {
  members = All-push (λ (row : PlanRow). row.member ≡ None) rows row first.members alone;
  ascending = subst AreAscending (sym (keys_more rows row n alone is)) (ascending_more (keys_of_rows rows) n first.ascending first.below);
  below = subst (AllByRecursion (λ key. key < n + 1)) (sym (keys_more rows row n alone is)) (below_more (keys_of_rows rows) n first.below);
  few = omega (arith, first.few, length-append rows (row ∷ []));
}

pub may_be_planned : (n : ℕ) (rows : List PlanRow) → n ≤ rows_limit → AreFirst n rows → AreRowsOf Items rows
may_be_planned n rows most first = record { members = first.members; ascending = first.ascending; few = omega (arith, most, first.few) }
