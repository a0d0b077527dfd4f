-- An item that meets a query is found by the text that the query needs.
use Rattle.std.proofs.Common.{◌≡◌, ◌≤◌, ℕ, Bool, true, false, cond, ◌&&◌, true≢false, List, [], ◌∷◌, Option, Some, None, option_map, unwrap_or, refl, sym, ap, ◌∙◌, ⊎_elim, codes, filter, length, IsUtf8, arith}
use Rattle.std.specs.Prelude.{option_and_then}
use Rattle.std.specs.List.{AllByRecursion}
use Rattle.std.specs.Option.{option_or, option_map_or}
use Rattle.std.specs.Str.{bytes_eq}
use Rattle.std.proofs.lemmas.Bool.{cases_Bool}
use Rattle.std.proofs.lemmas.Slice.Eq.{bytes_eq-Decides}
use Rattle.item_model.specs.declared.changes.Edit.{Edit}
use Rattle.item_model.specs.declared.condition.Cond.{Cond}
use Rattle.item_model.specs.declared.condition.Op.{Op}
use Rattle.item_model.specs.declared.condition.Op.TheVariants.{Is, IsNot, Less, More}
use Rattle.item_model.specs.declared.item.PropValue.{PropValue}
use Rattle.item_model.specs.declared.item.PropValue.TheVariants.{Number, Text}
use Rattle.item_model.specs.declared.item.Row.{Row}
use Rattle.item_model.specs.declared.property.Property.{Property}
use Rattle.item_model.specs.declared.property.Property.TheVariants.{Asar, Asal, Asgn, Ascp}
use Rattle.item_model.specs.declared.query.Query.{Query}
use Rattle.item_model.specs.declared.request.Browse.{Browse}
use Rattle.item_model.specs.declared.request.Browse.TheVariants.{Artists, Albums, Genres, Composers}
use Rattle.item_model.specs.declared.request.Target.TheVariants.{Items}
use Rattle.item_model.specs.Items.{value_of}
use Rattle.item_model.specs.Properties.{property_named, property_kind}
use Rattle.item_model.specs.QuerySeen.{tree_of}
use Rattle.item_model.specs.QueryTree.{QueryTree, condition, and_of, or_of, QueryTrees, no_queries, more_queries}
use Rattle.item_model.specs.Folding.{folded}
use Rattle.item_model.proofs.FoldLaws.{folded_filled}
use Rattle.song_query.specs.Holds.{absent, is_met, matches_value, named_value, property_value, meets, holds, all_hold}
use Rattle.share_history.specs.BrowseListings.{browsed, text_in, is_filled}
use Rattle.share_history.specs.Keyed.{at, IsAscending}
use Rattle.share_history.specs.Rows.{is_selected, if_selected, row_at, library}
use Rattle.share_history.specs.LastSaid.{only_if}
use Rattle.share_history.proofs.RowFacts.{at-library}
use Rattle.prop_index.specs.declared.index.PropIndex.{PropIndex}
use Rattle.prop_index.specs.IdSets.{has}
use Rattle.prop_index.specs.Forms.{any_case, finds, is_textual, HasTexts}
use Rattle.prop_index.specs.Index.{found, StandsFor}
use Rattle.prop_index.specs.Candidates.{browse_of, is_positive, only_piece, text_asked, text_of_condition, first_text, needed_text, is_candidate}
use Rattle.prop_index.proofs.FoundFacts.{each_stands}

some_same : {A : Type 0} (x y : A) → Some x ≡ Some y → x ≡ y
some_same x y p = (cc)

-- ---- what a condition asks for

-- the property is the one that is browsed by
property_is : (p : Property) (browse : Browse) → browse_of p ≡ Some browse → p ≡ browsed browse
property_is Asar browse h = ap browsed (some_same Artists browse h)
property_is Asal browse h = ap browsed (some_same Albums browse h)
property_is Asgn browse h = ap browsed (some_same Genres browse h)
property_is Ascp browse h = ap browsed (some_same Composers browse h)
property_is p browse h = absurd (cc)

named_is : (named : Option Property) (browse : Browse) → option_and_then browse_of named ≡ Some browse → named ≡ Some (browsed browse)
named_is None browse h = absurd (cc)
named_is (Some p) browse h = ap (λ p. Some p) (property_is p browse h)

only_is : (pieces : List (List ℕ)) → is_filled (only_piece pieces) ≡ true → pieces ≡ only_piece pieces ∷ []
only_is [] h = absurd (true≢false (sym h))
only_is (piece ∷ []) h = refl
only_is (piece ∷ next ∷ pieces) h = absurd (true≢false (sym h))

both : (a b : Bool) → (a && b) ≡ true → (a ≡ true) × (b ≡ true)
both true b h = (refl, h)
both false b h = absurd (true≢false (sym h))

record Asks (c : Cond) (browse : Browse) (text : List ℕ) : Type 0 where
  positive : is_positive c.op ≡ true
  filled : is_filled text ≡ true
  pieces : c.pattern ≡ text ∷ []
  named : property_named c.name ≡ Some (browsed browse)

asks_where : (c : Cond) (browse : Browse) (text : List ℕ) (ok : Bool) → (is_positive c.op && is_filled (only_piece c.pattern)) ≡ ok → (where_ : Option Browse)
    → option_and_then browse_of (property_named c.name) ≡ where_
    → (if_ok : cond ok (option_map {U = Browse × List ℕ} (λ browse. (browse, only_piece c.pattern)) where_) None ≡ Some (browse, text)) → Asks c browse text
asks_where c browse text false ok where_ at_ h = absurd (cc)
asks_where c browse text true ok None at_ h = absurd (cc)
asks_where c browse text true ok (Some b) at_ h =
    let pair = some_same (b, only_piece c.pattern) (browse, text) h in
    let tests = both (is_positive c.op) (is_filled (only_piece c.pattern)) ok in
    let piece : only_piece c.pattern ≡ text = ap (λ p. p.1) pair in
    record {
      positive = tests.0;
      filled = ap is_filled (sym piece) ∙ tests.1;
      pieces = only_is c.pattern tests.1 ∙ ap (λ t. t ∷ []) piece;
      named = named_is (property_named c.name) browse (at_ ∙ ap (λ x. Some x) (ap (λ p. p.0) pair));
    }

asks : (c : Cond) (browse : Browse) (text : List ℕ) → text_asked c ≡ Some (browse, text) → Asks c browse text
asks c browse text h = asks_where c browse text _ refl _ refl h

-- ---- what the named property has

no_item_id : property_named (codes "dmap.itemid") ≡ None
unfolding property_named
no_item_id = refl

value_named : (name : List ℕ) (row : Row) (p : Property) → property_named name ≡ Some p → named_value name row ≡ property_value (Some p) row.item
unfolding named_value
value_named name row p h =
    ⊎_elim
    (λ (e : bytes_eq name (codes "dmap.itemid") ≡ true). absurd (let none : None ≡ Some p = sym no_item_id ∙ ap property_named (sym ((bytes_eq-Decides name (codes "dmap.itemid")).0 e)) ∙ h in (cc)))
    (λ (e : bytes_eq name (codes "dmap.itemid") ≡ false). ap (λ b. cond b (Number row.id) (property_value (property_named name) row.item)) e ∙ ap (λ o. property_value o row.item) h)
    (cases_Bool (bytes_eq name (codes "dmap.itemid")))

absent_text : (browse : Browse) → absent (property_kind (browsed browse)) ≡ Text []
absent_text Artists = refl
absent_text Albums = refl
absent_text Genres = refl
absent_text Composers = refl

has_length : (text : List ℕ) → is_filled text ≡ true → 1 ≤ length text
has_length [] h = absurd (true≢false (sym h))
has_length (b ∷ text) h = omega arith

has_bytes : (text : List ℕ) → 1 ≤ length text → is_filled text ≡ true
has_bytes [] h = absurd (omega arith)
has_bytes (b ∷ text) h = refl

filled_folded : (text : List ℕ) → IsUtf8 text → is_filled text ≡ true → is_filled (folded text) ≡ true
filled_folded text utf8 h = has_bytes (folded text) (folded_filled text utf8 (has_length text h))

-- a text matches without a wildcard where it is found by the folded text
matched : (text : List ℕ) (value : Option PropValue) → IsUtf8 text → is_filled text ≡ true → is_textual value ≡ true
    → (is_filled (folded text) && bytes_eq (folded (text_in value)) (folded text)) ≡ matches_value (text ∷ []) (unwrap_or value (Text []))
unfolding matches_value
matched text None utf8 filled textual = ap (λ b. b && bytes_eq (folded []) (folded text)) (filled_folded text utf8 filled)
matched text (Some (Number n)) utf8 filled textual = absurd (true≢false (sym textual))
matched text (Some (Text bytes)) utf8 filled textual = ap (λ b. b && bytes_eq (folded bytes) (folded text)) (filled_folded text utf8 filled)

-- the items that are found by the folded text are those whose value matches the text
candidate_found : (browse : Browse) (text : List ℕ) (row : Row) → IsUtf8 text → is_filled text ≡ true → HasTexts row
    → finds any_case browse (folded text) row ≡ is_candidate (browse, text) row
candidate_found browse text row utf8 filled texts =
    let value = value_of (browsed browse) row.item in
    matched text value utf8 filled (texts browse) ∙ ap (λ v. matches_value (text ∷ []) (unwrap_or value v)) (sym (absent_text browse))

same_filter : {X : Type 0} (p f : X → Bool) (xs : List X) → AllByRecursion (λ x. p x ≡ f x) xs → filter p xs ≡ filter f xs
same_filter p f [] all = refl
same_filter p f (x ∷ xs) all =
    ap (λ b. cond b (x ∷ filter p xs) (filter p xs)) all.0 ∙ ap (λ ys. cond (f x) (x ∷ ys) ys) (same_filter p f xs all.1)

each_found : (whole rows : List (ℕ × Row)) (browse : Browse) (text : List ℕ) → IsUtf8 text → is_filled text ≡ true
    → ((id : ℕ) (row : Row) → at id whole ≡ Some row → HasTexts row) → AllByRecursion (λ e. at e.0 whole ≡ Some e.1) rows
    → AllByRecursion (λ e. finds any_case browse (folded text) e.1 ≡ is_candidate (browse, text) e.1) rows
each_found whole [] browse text utf8 filled texts all = tt
each_found whole (r ∷ rows) browse text utf8 filled texts all =
    (candidate_found browse text r.1 utf8 filled (texts r.0 r.1 all.0), each_found whole rows browse text utf8 filled texts all.1)

-- so are those of a library for which an index stands
pub candidates_found : (rows : List (ℕ × Row)) (index : PropIndex) (browse : Browse) (text : List ℕ) → IsUtf8 text → is_filled text ≡ true → IsAscending rows → StandsFor rows index
    → filter (λ row. finds any_case browse (folded text) row.1) rows ≡ filter (λ row. is_candidate (browse, text) row.1) rows
candidates_found rows index browse text utf8 filled rising stands =
    same_filter (λ row. finds any_case browse (folded text) row.1) (λ row. is_candidate (browse, text) row.1) rows
    (each_found rows rows browse text utf8 filled stands.texts (each_stands rows rising))

positive_met : (op : Op) (pieces : List (List ℕ)) (v : PropValue) → is_positive op ≡ true → is_met op pieces v ≡ matches_value pieces v
positive_met Is pieces v h = refl
positive_met IsNot pieces v h = absurd (true≢false (sym h))
positive_met Less pieces v h = absurd (true≢false (sym h))
positive_met More pieces v h = absurd (true≢false (sym h))

condition_needs : (c : Cond) (browse : Browse) (text : List ℕ) (row : Row) → text_asked c ≡ Some (browse, text) → meets c row ≡ true
    → is_candidate (browse, text) row ≡ true
condition_needs c browse text row is meets_it =
    let a = asks c browse text is in
    ap (matches_value (text ∷ [])) (sym (value_named c.name row (browsed browse) a.named))
    ∙ ap (λ ps. matches_value ps (named_value c.name row)) (sym a.pieces)
    ∙ sym (positive_met c.op c.pattern (named_value c.name row) a.positive) ∙ meets_it

-- ---- what a query needs

first_needs : (qs : QueryTrees) (browse : Browse) (text : List ℕ) (row : Row) → first_text qs ≡ Some (browse, text) → all_hold qs row ≡ true
    → is_candidate (browse, text) row ≡ true
first_needs no_queries browse text row is held = absurd (cc)
first_needs (more_queries q qs) browse text row is held =
    first_or_next q (both (holds q row) (all_hold qs row) held) (λ is held. first_needs qs browse text row is held) is
  where
    in_condition : (c : Cond) (o : Option (Browse × List ℕ)) → text_asked c ≡ o → (meets c row ≡ true) × (all_hold qs row ≡ true)
        → (first_text qs ≡ Some (browse, text) → all_hold qs row ≡ true → is_candidate (browse, text) row ≡ true)
        → option_or o (first_text qs) ≡ Some (browse, text) → is_candidate (browse, text) row ≡ true
    in_condition c None e held next is = next is held.1
    in_condition c (Some asked) e held next is = condition_needs c browse text row (e ∙ is) held.0

    first_or_next : (q : QueryTree) → (holds q row ≡ true) × (all_hold qs row ≡ true)
        → (first_text qs ≡ Some (browse, text) → all_hold qs row ≡ true → is_candidate (browse, text) row ≡ true)
        → option_or (text_of_condition q) (first_text qs) ≡ Some (browse, text) → is_candidate (browse, text) row ≡ true
    first_or_next (condition c) held next is = in_condition c (text_asked c) refl held next is
    first_or_next (and_of rs) held next is = next is held.1
    first_or_next (or_of rs) held next is = next is held.1

pub query_needs : (q : QueryTree) (browse : Browse) (text : List ℕ) (row : Row) → needed_text q ≡ Some (browse, text) → holds q row ≡ true
    → is_candidate (browse, text) row ≡ true
query_needs (condition c) browse text row is held = condition_needs c browse text row is held
query_needs (and_of qs) browse text row is held = first_needs qs browse text row is held
query_needs (or_of qs) browse text row is held = absurd (cc)

first_filled : (qs : QueryTrees) (browse : Browse) (text : List ℕ) → first_text qs ≡ Some (browse, text) → is_filled text ≡ true
first_filled no_queries browse text is = absurd (cc)
first_filled (more_queries (and_of rs) qs) browse text is = first_filled qs browse text is
first_filled (more_queries (or_of rs) qs) browse text is = first_filled qs browse text is
first_filled (more_queries (condition c) qs) browse text is = by_text (text_asked c) refl (first_filled qs browse text) is
  where
    by_text : (o : Option (Browse × List ℕ)) → text_asked c ≡ o → (first_text qs ≡ Some (browse, text) → is_filled text ≡ true)
        → option_or o (first_text qs) ≡ Some (browse, text) → is_filled text ≡ true
    by_text None e next is = next is
    by_text (Some asked) e next is = (asks c browse text (e ∙ is)).filled

-- and the text is not empty
pub needed_filled : (q : QueryTree) (browse : Browse) (text : List ℕ) → needed_text q ≡ Some (browse, text) → is_filled text ≡ true
needed_filled (condition c) browse text is = (asks c browse text is).filled
needed_filled (and_of qs) browse text is = first_filled qs browse text is
needed_filled (or_of qs) browse text is = absurd (cc)

-- ---- no other item is asked for

not_found : (query : Query) (browse : Browse) (text : List ℕ) (row : Row) → needed_text (tree_of query) ≡ Some (browse, text)
    → is_candidate (browse, text) row ≡ false → only_if (is_selected (Some query) row) row ≡ None
not_found query browse text row is missed =
    ⊎_elim
    (λ (h : holds (tree_of query) row ≡ true). absurd (true≢false (sym (query_needs (tree_of query) browse text row is h) ∙ missed)))
    (λ (h : holds (tree_of query) row ≡ false). ap (λ b. only_if b row) h)
    (cases_Bool (holds (tree_of query) row))

pub others_unasked : (es : List Edit) (index : PropIndex) (query : Query) (browse : Browse) (text : List ℕ) → IsUtf8 text → needed_text (tree_of query) ≡ Some (browse, text)
    → StandsFor (library es) index → (id : ℕ) → has id (found index browse any_case (folded text)) ≡ false → row_at es Items (Some query) id ≡ None
others_unasked es index query browse text utf8 is stands id missed =
    ap (option_and_then (if_selected (Some query))) (sym (at-library es id))
    ∙ elim (at id (library es)) as (λ o. at id (library es) ≡ o → option_and_then (if_selected (Some query)) o ≡ None) [
      | None ↦ λ e. refl
      | Some row ↦ λ e. not_found query browse text row is
          (sym (candidate_found browse text row utf8 (needed_filled (tree_of query) browse text is) (stands.texts id row e))
          ∙ sym (stands.found_by browse any_case (folded text) id ∙ ap (λ o. option_map_or (finds any_case browse (folded text)) o false) e) ∙ missed)
    ] refl
