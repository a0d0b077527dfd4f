-- Rows that can be planned, and the listings that they make.
use Rattle.std.proofs.Common.{◌≡◌, ◌+◌, ◌-◌, ◌∷◌, [], ℕ, zero, suc, List, false, take, drop, All, length, refl, sym, subst, ap, ◌∙◌, arith}
use Rattle.std.specs.List.{AllByRecursion}
use Rattle.std.specs.List.Sorted.{IsStrictlySortedBy}
use Rattle.std.specs.Map.{keys_of}
use Rattle.std.proofs.lemmas.List.{length-map}
use Rattle.std.proofs.lemmas.List.Elements.{All-take, All-drop}
use Rattle.item_model.specs.declared.request.Look.{Look}
use Rattle.item_model.specs.declared.request.Range.{Range}
use Rattle.item_model.specs.declared.request.Range.TheVariants.{All as whole_range, One, From, Span, Last}
use Rattle.item_model.specs.declared.request.Target.{Target}
use Rattle.share_history.specs.Keyed.{AreAscending}
use Rattle.share_history.specs.Listings.{member_of, shown_rows, full_of}
use Rattle.share_history.specs.Ranges.{in_range}
use Rattle.share_history.proofs.RangeFacts.{in_range-map, length-in_range}
use Rattle.listing_plan.specs.declared.row.PlanRow.{PlanRow}
use Rattle.listing_plan.specs.Plans.{key_of, keys_of_rows, keyed, full_plan, AreRowsOf}

pub keys_keyed : (found : List PlanRow) → keys_of_rows found ≡ keys_of (keyed found)
keys_keyed [] = refl
keys_keyed (row ∷ found) = ap (λ ks. key_of row ∷ ks) (keys_keyed found)

pub counted : (found : List PlanRow) → length (keyed found) ≡ length found
counted found = length-map found (λ (row : PlanRow). (key_of row, row.row))

-- ---- ranges

below_front : (P : ℕ → Type 0) (n : ℕ) (ks : List ℕ) → AllByRecursion P ks → AllByRecursion P (take n ks)
below_front P zero ks h = tt
below_front P (suc n) [] h = tt
below_front P (suc n) (k ∷ ks) h = (h.0, below_front P n ks h.1)

sorted-take : (n : ℕ) (ks : List ℕ) → AreAscending ks → AreAscending (take n ks)
unfolding IsStrictlySortedBy
sorted-take zero ks h = tt
sorted-take (suc n) [] h = tt
sorted-take (suc n) (k ∷ ks) h = (below_front _ n ks h.0, sorted-take n ks h.1)

sorted-drop : (n : ℕ) (ks : List ℕ) → AreAscending ks → AreAscending (drop n ks)
unfolding IsStrictlySortedBy
sorted-drop zero ks h = h
sorted-drop (suc n) [] h = tt
sorted-drop (suc n) (k ∷ ks) h = sorted-drop n ks h.1

pub sorted-in_range : (r : Range) (ks : List ℕ) → AreAscending ks → AreAscending (in_range r ks)
sorted-in_range whole_range ks h = h
sorted-in_range (One place) ks h = sorted-take 1 (drop place ks) (sorted-drop place ks h)
sorted-in_range (From place) ks h = sorted-drop place ks h
sorted-in_range (Span from to) ks h = sorted-drop from (take (to + 1) ks) (sorted-take (to + 1) ks h)
sorted-in_range (Last count) ks h = sorted-drop (length ks - count) ks h

all-in_range : {A : Type 0} (P : A → Type 0) (r : Range) (xs : List A) → All P xs → All P (in_range r xs)
all-in_range P whole_range xs h = h
all-in_range P (One place) xs h = All-take P 1 (drop place xs) (All-drop P place xs h)
all-in_range P (From place) xs h = All-drop P place xs h
all-in_range P (Span from to) xs h = All-drop P from (take (to + 1) xs) (All-take P (to + 1) xs h)
all-in_range P (Last count) xs h = All-drop P (length xs - count) xs h

-- the rows of a range can be planned where all can
pub part_of_rows : (t : Target) (r : Range) (found listed : List PlanRow) → AreRowsOf t found → listed ≡ in_range r found → AreRowsOf t listed
part_of_rows t r found listed h cut =
    subst (AreRowsOf t) (sym cut)
    (record {
      members = all-in_range (λ (row : PlanRow). row.member ≡ member_of t (key_of row)) r found h.members;
      ascending = subst AreAscending (in_range-map key_of r found) (sorted-in_range r (keys_of_rows found) h.ascending);
      few = omega (arith, length-in_range r found, h.few);
    })

-- ---- the listings

pub full_made : (t : Target) (v total : ℕ) (look : Look) (found listed : List PlanRow) → total ≡ length found → listed ≡ in_range look.range found
    → full_plan t v total listed look.meta ≡ full_of v t look (keyed found)
full_made t v total look found listed count cut =
    let part : keyed listed ≡ in_range look.range (keyed found) = ap keyed cut ∙ sym (in_range-map (λ (row : PlanRow). (key_of row, row.row)) look.range found) in
    λ i. record {
      is_delta = false;
      revision = v;
      total = (count ∙ sym (counted found)) i;
      rows = shown_rows t look.meta (part i);
      gone = [];
    }
