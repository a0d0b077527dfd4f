-- Full listings of all items, from the rows of the library.
use Rattle.std.proofs.Common.{◌≡◌, ◌≤◌, ℕ, List, [], true, false, Option, None, filter, All, length, drop, refl, sym, subst, ap, ◌∙◌, arith}
use Rattle.std.specs.Prelude.{nat_eq}
use Rattle.std.specs.Map.{keys_of}
use Rattle.std.proofs.lemmas.Bool.{eqb-true}
use Rattle.item_model.specs.declared.changes.Edit.{Edit}
use Rattle.item_model.specs.declared.item.Row.{Row}
use Rattle.item_model.specs.declared.query.Query.{Query}
use Rattle.item_model.specs.declared.request.Look.{Look}
use Rattle.item_model.specs.declared.request.Range.{Range}
use Rattle.item_model.specs.declared.request.Target.{Target}
use Rattle.item_model.specs.declared.request.Target.TheVariants.{Items}
use Rattle.share_history.specs.Histories.{edits, revision}
use Rattle.share_history.specs.Keyed.{AreAscending}
use Rattle.share_history.specs.Listings.{member_of, shown_rows, full_of, full_listing}
use Rattle.share_history.specs.Ranges.{in_range}
use Rattle.share_history.specs.Rows.{rows, library, is_selected}
use Rattle.share_history.proofs.RangeFacts.{in_range-map, length-in_range}
use Rattle.share_history.proofs.RowFacts.{ascending-rows, rows_selected, length-rows}
use Rattle.listing_plan.specs.declared.row.PlanRow.{PlanRow}
use Rattle.listing_plan.specs.Plans.{key_of, keyed, full_keyed, AreRowsOf}
use Rattle.share_listings.specs.Answers.{is_library}
use Rattle.share_listings.proofs.MembershipFacts.{library_case}
use Rattle.share_listings.proofs.PlanFacts.{keys_keyed, counted, sorted-in_range}

-- the rows of a target that has all items
pub library_of : (es : List Edit) (t : Target) (q : Option Query) → is_library t ≡ true → rows es Items q ≡ rows es t q
library_of es t q all = library_case (λ t. rows es Items q ≡ rows es t q) t all refl refl

-- as many as there are items
pub library_len : (es : List Edit) (t : Target) (rs : List (ℕ × Row)) → is_library t ≡ true → rs ≡ library es → length rs ≡ length (rows es t None)
library_len es t rs all is = ap length (is ∙ library_of es t None all)

-- no more than edits
pub few_items : (es : List Edit) (rs : List (ℕ × Row)) → rs ≡ library es → length es ≤ 262144 → length rs ≤ 262144
few_items es rs is few = omega (arith, ap length is, length-rows es Items None, few)

-- the rows that a query selects are those of the target
pub selected : (es : List Edit) (t : Target) (asked query : Option Query) (rs found : List (ℕ × Row)) → is_library t ≡ true → rs ≡ library es → asked ≡ query
    → found ≡ filter (λ row. is_selected asked row.1) rs → found ≡ rows es t query
selected es t asked query rs found all is same kept =
    kept ∙ ap (filter (λ row. is_selected asked row.1)) is ∙ sym (rows_selected es asked) ∙ library_of es t asked all ∙ ap (rows es t) same

-- ---- rows that can be planned

pub selected_fit : (es : List Edit) (t : Target) (q : Option Query) (found : List PlanRow) → keyed found ≡ rows es t q
    → All (λ row. row.member ≡ member_of t (key_of row)) found → length es ≤ 262144 → AreRowsOf t found
selected_fit es t q found is members few = record {
  members = members;
  ascending = subst AreAscending (sym (keys_keyed found ∙ ap keys_of is)) (ascending-rows es t q);
  few = omega (arith, counted found, ap length is, length-rows es t q, few);
}

pub part_fit : (es : List Edit) (t : Target) (range : Range) (rs : List (ℕ × Row)) (listed : List PlanRow) → rs ≡ library es → keyed listed ≡ in_range range rs
    → All (λ row. row.member ≡ member_of t (key_of row)) listed → length es ≤ 262144 → AreRowsOf t listed
part_fit es t range rs listed is cut members few =
    let keys : in_range range (keys_of rs) ≡ keys_of (keyed listed) = in_range-map (λ (row : ℕ × Row). row.0) range rs ∙ ap keys_of (sym cut) in
    record {
      members = members;
      ascending =
          subst AreAscending (keys ∙ sym (keys_keyed listed))
          (sorted-in_range range (keys_of rs) (subst (λ rs. AreAscending (keys_of rs)) (sym is) (ascending-rows es Items None)));
      few = omega (arith, counted listed, ap length cut, length-in_range range rs, few_items es rs is few);
    }

-- ---- the listings

-- the rows of the range, with their total, make the full listing
pub listed_is : (bs : List (List Edit)) (t : Target) (look : Look) (v total : ℕ) (rs listed : List (ℕ × Row)) → is_library t ≡ true → look.query ≡ None
    → v ≡ revision bs → rs ≡ library (edits bs) → total ≡ length rs → listed ≡ in_range look.range rs → full_keyed t v total listed look.meta ≡ full_listing bs t look
listed_is bs t look v total rs listed all query now is count cut =
    let found : rs ≡ rows (edits bs) t look.query = is ∙ library_of (edits bs) t None all ∙ ap (rows (edits bs) t) (sym query) in
    λ i. record {
      is_delta = false;
      revision = now i;
      total = (count ∙ ap length found) i;
      rows = shown_rows t look.meta ((cut ∙ ap (in_range look.range) found) i);
      gone = [];
    }

-- no row comes before the first
pub from_first : (at : ℕ) → nat_eq at 0 ≡ true → (rows : List (ℕ × Row)) → drop at rows ≡ rows
from_first at h rows = let e : at ≡ 0 = eqb-true at 0 h in ap (λ n. drop n rows) e

pub selected_is : (bs : List (List Edit)) (t : Target) (look : Look) (v : ℕ) (found : List PlanRow) → v ≡ revision bs → keyed found ≡ rows (edits bs) t look.query
    → full_of v t look (keyed found) ≡ full_listing bs t look
selected_is bs t look v found now is = λ i. full_of (now i) t look (is i)
