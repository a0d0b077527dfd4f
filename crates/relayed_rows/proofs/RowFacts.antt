-- A row that a listing shows with all properties reads back.
use Rattle.std.proofs.Common.{◌≡◌, ◌||◌, ◌+◌, ◌≤◌, ℕ, Bool, true, false, cond, List, [], ◌∷◌, Option, Some, None, IfSome, refl, sym, ap, subst, ◌∙◌, true≢false, eq-eqb, ltb-true, arith}
use Rattle.std.specs.List.{cons_option, filter_map, find, list_any}
use Rattle.std.specs.Option.{option_map, option_or, option_and_then}
use Rattle.std.specs.Str.{bytes_eq}
use Rattle.std.proofs.lemmas.Bool.{false_from_ne_true, and_from, le-leb}
use Rattle.dmap_tags.specs.Codes.{Four, code, code_bytes, is_code}
use Rattle.dmap_tags.specs.Tree.{Tree, leaf, list, more, tree_list}
use Rattle.dmap_tags.specs.Tree as tree
use Rattle.dmap_tags.specs.Seen.{tree_with}
use Rattle.dmap_tags.specs.declared.tree.Value.{Value}
use Rattle.dmap_tags.specs.declared.tree.Value.TheVariants.{List as Members}
use Rattle.dmap_tags.specs.declared.kinds.Kind.{Kind}
use Rattle.dmap_tags.specs.declared.kinds.Kind.TheVariants.{U8, I8, U16, I16, U32, I32, U64, I64, Text, Date, Version, List as Lists, Opaque}
use Rattle.dmap_tags.proofs.SameFacts.{code_itself, one_tag, tag_itself}
use Rattle.item_model.specs.declared.property.Property.{Property}
use Rattle.item_model.specs.declared.item.PropValue.{PropValue}
use Rattle.item_model.specs.declared.item.PropValue.TheVariants.{Number, Text as Words}
use Rattle.item_model.specs.declared.item.Row.{Row}
use Rattle.item_model.specs.declared.request.Meta.TheVariants.{All}
use Rattle.item_model.specs.Items.{is_of_kind, is_value_of, is_item, rises_from, value_of}
use Rattle.item_model.specs.Projection.{value_leaf, property_tag, shown, projection}
use Rattle.item_model.specs.Properties.{all_properties, property_code, property_coded, property_kind, rank_of, is_same}
use Rattle.item_model.specs.Valid.{is_id}
use Rattle.item_model.proofs.AlikeFacts.{code_back, one_coded}
use Rattle.item_model.proofs.Places.{value_fits}
use Rattle.item_model.proofs.Ranks.{same_property}
use Rattle.item_model.specs.declared.request.Target.TheVariants.{Items}
use Rattle.mirror_core.specs.Bodies.{IsRow}
use Rattle.mirror_core.specs.Reading.{key_of}
use Rattle.mirror_core.proofs.TagFacts.{listed_again}
use Rattle.share_history.specs.LastSaid.{only_if}
use Rattle.relayed_rows.specs.ReadRows.{value_of_kind, if_of_kind, value_told, first_told, item_told, row_among, row_of}
use Rattle.relayed_rows.specs.Libraries.{IsOwn}
use Rattle.relayed_rows.specs.Differences.{is_same_row}
use Rattle.relayed_rows.specs.Laws.{RowsReadBack, RowsAreToldApart}
use Rattle.relayed_rows.proofs.ItemFacts.{own_entry, picked, ranks_from, all_ranks, first_rank, later_ranks}

abbrev Entries : Type 0
Entries = List (Property × PropValue)

-- ---- properties

-- a property that is found in a list is in it
found_among : (t : Property → Bool) (p : Property) (qs : List Property) → find t qs ≡ Some p → list_any (λ q. is_same q p) qs ≡ true
found_among t p [] h = absurd (cc)
found_among t p (q ∷ qs) h =
    elim (t q) as (λ b. cond b (Some q) (find t qs) ≡ Some p → list_any (λ r. is_same r p) (q ∷ qs) ≡ true) [
      | true ↦ λ k. let same : q ≡ p = cc in ap (λ b. b || list_any (λ r. is_same r p) qs) (eq-eqb (rank_of q) (rank_of p) (ap rank_of same))
      | false ↦ λ k. or_true (is_same q p) (list_any (λ r. is_same r p) qs) (found_among t p qs k)
    ] h
  where
    or_true : (a b : Bool) → b ≡ true → (a || b) ≡ true
    or_true true b h = refl
    or_true false b h = h

is_property : (p : Property) → list_any (λ q. is_same q p) all_properties ≡ true
unfolding property_coded
is_property p = found_among (λ q. bytes_eq (code_bytes (property_code q)) (code_bytes (property_code p))) p all_properties (code_back p)

-- ---- values

-- the leaf of a value says that value again
kind_back : (kind : Kind) (c : Four) (v : PropValue) → is_of_kind kind v ≡ true → value_of_kind kind (leaf c (value_leaf kind v)) ≡ Some v
kind_back U8 c (Number n) h = refl
kind_back U16 c (Number n) h = refl
kind_back U32 c (Number n) h = refl
kind_back U64 c (Number n) h = refl
kind_back Date c (Number n) h = refl
kind_back I8 c (Number n) h = absurd (omega (arith, ltb-true n 0 h))
kind_back I16 c (Number n) h = absurd (omega (arith, ltb-true n 0 h))
kind_back I32 c (Number n) h = absurd (omega (arith, ltb-true n 0 h))
kind_back I64 c (Number n) h = absurd (omega (arith, ltb-true n 0 h))
kind_back Text c (Number n) h = absurd (omega (arith, ltb-true n 0 h))
kind_back Version c (Number n) h = absurd (omega (arith, ltb-true n 0 h))
kind_back Lists c (Number n) h = absurd (omega (arith, ltb-true n 0 h))
kind_back Opaque c (Number n) h = absurd (omega (arith, ltb-true n 0 h))
kind_back Text c (Words bytes) h = refl
kind_back U8 c (Words bytes) h = absurd (cc)
kind_back U16 c (Words bytes) h = absurd (cc)
kind_back U32 c (Words bytes) h = absurd (cc)
kind_back U64 c (Words bytes) h = absurd (cc)
kind_back Date c (Words bytes) h = absurd (cc)
kind_back I8 c (Words bytes) h = absurd (cc)
kind_back I16 c (Words bytes) h = absurd (cc)
kind_back I32 c (Words bytes) h = absurd (cc)
kind_back I64 c (Words bytes) h = absurd (cc)
kind_back Version c (Words bytes) h = absurd (cc)
kind_back Lists c (Words bytes) h = absurd (cc)
kind_back Opaque c (Words bytes) h = absurd (cc)

abbrev told_if : Bool → Property → Tree → Option PropValue
told_if b p tag = cond b (option_and_then (if_of_kind (property_kind p)) (value_of_kind (property_kind p) tag)) None

-- the tag of a value states that value
told_again : (p : Property) (v : PropValue) → is_value_of p v ≡ true → value_told p (property_tag p v) ≡ Some v
told_again p v h =
    ap (λ b. told_if b p (property_tag p v)) (code_itself (property_code p))
    ∙ ap (option_and_then (if_of_kind (property_kind p))) (kind_back (property_kind p) (property_code p) v h)
    ∙ ap (λ b. only_if b v) h

-- the tag of another property states nothing
untold : (p q : Property) (w : PropValue) → is_same q p ≡ false → value_told p (property_tag q w) ≡ None
untold p q w h =
    ap (λ b. told_if b p (property_tag q w))
    (false_from_ne_true (is_code (property_code q) (property_code p))
    (λ k. true≢false (sym (eq-eqb (rank_of q) (rank_of p) (ap rank_of (one_coded q p k))) ∙ h)))

-- ---- the tags of an item

abbrev filter_shown : Property → Option PropValue → Entries → List Property → List Tree
filter_shown q o item ps = cons_option (option_map (property_tag q) o) (shown item ps)

abbrev Shows : Property → Entries → List Property → Bool → Type 0
Shows p item ps b = first_told p (shown item ps) ≡ cond b (value_of p item) None

next_shown : (p q : Property) (item : Entries) (o : Option PropValue) (ps : List Property) (b among : Bool) → value_of q item ≡ o → IfSome o (λ v. is_value_of q v ≡ true)
    → is_same q p ≡ b → Shows p item ps among → first_told p (filter_shown q o item ps) ≡ cond (b || among) (value_of p item) None
next_shown p q item None ps true true is fits same rest = rest
next_shown p q item None ps true false is fits same rest =
    rest ∙ sym (ap (λ r. value_of r item) (sym (same_property q p same)) ∙ is)
next_shown p q item None ps false among is fits same rest = rest
next_shown p q item (Some v) ps true among is fits same rest =
    let one : q ≡ p = same_property q p same in
    ap (λ o. option_or o (first_told p (shown item ps)))
    (subst (λ r. value_told r (property_tag q v) ≡ Some v) one (told_again q v fits))
    ∙ sym (ap (λ r. value_of r item) (sym one) ∙ is)
next_shown p q item (Some v) ps false among is fits same rest =
    ap (λ o. option_or o (first_told p (shown item ps))) (untold p q v same) ∙ rest

-- of the tags that an item shows, the first of a property states its value
first_shown : (p : Property) (item : Entries) → is_item item ≡ true → (ps : List Property) → Shows p item ps (list_any (λ q. is_same q p) ps)
first_shown p item h [] = refl
first_shown p item h (q ∷ ps) =
    next_shown p q item (value_of q item) ps (is_same q p) (list_any (λ r. is_same r p) ps) refl (value_fits q 0 item h) refl (first_shown p item h ps)

told_shown : (item : Entries) → is_item item ≡ true → (ps : List Property) → filter_map (λ p. option_map (λ v. (p, v)) (first_told p (shown item all_properties))) ps ≡ filter_map (own_entry item) ps
told_shown item h [] = refl
told_shown item h (p ∷ ps) =
    ap (λ o. cons_option (option_map (λ v. (p, v)) o) (filter_map (λ q. option_map (λ v. (q, v)) (first_told q (shown item all_properties))) ps))
    (first_shown p item h all_properties ∙ ap (λ b. cond b (value_of p item) None) (is_property p))
    ∙ ap (cons_option (own_entry item p)) (told_shown item h ps)

item_again : (item : Entries) → is_item item ≡ true → item_told (shown item all_properties) ≡ item
item_again item h = told_shown item h all_properties ∙ picked 0 item all_properties h all_ranks

-- ---- rows

pub rows_read_back : RowsReadBack
unfolding row_of
rows_read_back row h k =
    ap row_among (listed_again (leaf (code "miid") (tree.U32 row.id) ∷ shown row.item all_properties))
    ∙ ap (λ b. option_map (λ id. record { id = id; item = item_told (shown row.item all_properties) }) (only_if b row.id)) k
    ∙ ap (λ item. Some (record { id = row.id; item = item })) (item_again row.item h)

both_again : (a b : Row) → is_item a.item ≡ true → is_id a.id ≡ true → is_item b.item ≡ true → is_id b.id ≡ true → projection a None All ≡ projection b None All → a ≡ b
both_again a b ha ka hb kb same =
    let found : Some a ≡ Some b = sym (rows_read_back a ha ka) ∙ ap row_of same ∙ rows_read_back b hb kb in
    cc

pub rows_are_told_apart : RowsAreToldApart
rows_are_told_apart a b ha ka hb kb = (
  λ h. both_again a b ha ka hb kb (one_tag (projection a None All) (projection b None All) h),
  λ h. subst (λ c. is_same_row a c ≡ true) h (tag_itself (projection a None All)),
)

-- ---- what is read is an item with an id

kept_value : (b : Bool) (v w : PropValue) → only_if b v ≡ Some w → v ≡ w
kept_value true v w h = cc
kept_value false v w h = absurd (cc)

kept_test : (b : Bool) (v w : PropValue) → only_if b v ≡ Some w → b ≡ true
kept_test true v w h = refl
kept_test false v w h = absurd (cc)

kind_fits : (kind : Kind) (o : Option PropValue) (w : PropValue) → option_and_then (if_of_kind kind) o ≡ Some w → is_of_kind kind w ≡ true
kind_fits kind None w h = absurd (cc)
kind_fits kind (Some v) w h =
    subst (λ u. is_of_kind kind u ≡ true) (kept_value (is_of_kind kind v) v w h) (kept_test (is_of_kind kind v) v w h)

coded_fits : (p : Property) (tag : Tree) (b : Bool) (w : PropValue) → told_if b p tag ≡ Some w → is_value_of p w ≡ true
coded_fits p tag true w h = kind_fits (property_kind p) (value_of_kind (property_kind p) tag) w h
coded_fits p tag false w h = absurd (cc)

either_fits : (p : Property) (one other : Option PropValue) (w : PropValue) → (one ≡ Some w → is_value_of p w ≡ true) → (other ≡ Some w → is_value_of p w ≡ true)
    → option_or one other ≡ Some w → is_value_of p w ≡ true
either_fits p None other w h k is = k is
either_fits p (Some v) other w h k is = h is

told_fits : (p : Property) (tags : List Tree) (w : PropValue) → first_told p tags ≡ Some w → is_value_of p w ≡ true
told_fits p [] w h = absurd (cc)
told_fits p (tag ∷ tags) w h =
    either_fits p (value_told p tag) (first_told p tags) w (coded_fits p tag (is_code (tree.tree_code tag) (property_code p)) w) (told_fits p tags w) h

told_rises : (tags : List Tree) (m n : ℕ) (ps : List Property) → m ≤ n → ranks_from n ps ≡ true
    → rises_from m (filter_map (λ p. option_map (λ v. (p, v)) (first_told p tags)) ps) ≡ true
told_rises tags m n [] le h = refl
told_rises tags m n (p ∷ ps) le h =
    let rank : rank_of p ≡ n = first_rank n p ps h in
    let later : ranks_from (n + 1) ps ≡ true = later_ranks n p ps h in
    let above : m ≤ rank_of p = omega arith in
    elim (first_told p tags) as (λ o. first_told p tags ≡ o
    → rises_from m (cons_option (option_map (λ v. (p, v)) o) (filter_map (λ q. option_map (λ v. (q, v)) (first_told q tags)) ps)) ≡ true) [
      | None ↦ λ _. told_rises tags m (n + 1) ps (omega arith) later
      | Some v ↦ λ is. and_from _ _ (le-leb _ _ above) (and_from _ _ (told_fits p tags v is) (told_rises tags (rank_of p + 1) (n + 1) ps (omega arith) later))
    ] refl

item_rises : (tags : List Tree) → is_item (item_told tags) ≡ true
item_rises tags = told_rises tags 0 0 all_properties (omega arith) all_ranks

abbrev row_with : Entries → ℕ → Row
row_with item id = record { id = id; item = item }

one_row : (a b : Row) → Some a ≡ Some b → a ≡ b
one_row a b h = cc

behind_own : (b : Bool) (id : ℕ) (item : Entries) (row : Row) → is_id id ≡ b → is_item item ≡ true → option_map (row_with item) (only_if b id) ≡ Some row → IsOwn (row.id, row)
behind_own true id item row is h k = subst (λ (r : Row). IsOwn (r.id, r)) (one_row (row_with item id) row k) (record { own = refl; id = is; item = h })
behind_own false id item row is h k = absurd (cc)

among_own : (tags : List Tree) (row : Row) → row_among tags ≡ Some row → IsOwn (row.id, row)
among_own [] row h = absurd (cc)
among_own (key ∷ members) row h = behind_own (is_id (key_of Items key)) (key_of Items key) (item_told members) row refl (item_rises members) h

-- a row that a tag states has its own id
pub row_own : (tag : Tree) (row : Row) → row_of tag ≡ Some row → IsOwn (row.id, row)
unfolding row_of
row_own (leaf c value) row h = absurd (cc)
row_own (list c members) row h = among_own (tree_list members) row h

-- the id of the row in a listed tag is the tag's key
key_unique : (b : Bool) (id : ℕ) (item : Entries) (row : Row) → option_map (row_with item) (only_if b id) ≡ Some row → row.id ≡ id
key_unique true id item row h = sym (ap (λ (r : Row). r.id) (one_row (row_with item id) row h))
key_unique false id item row h = absurd (cc)

pub listed_own : (e : ℕ × Tree) (row : Row) → IsRow Items e → row_of e.1 ≡ Some row → row.id ≡ e.0
unfolding row_of
listed_own e row is h =
    let told : row_of (list (code "mlit") (more (leaf (code "miid") (tree.U32 e.0)) is.rest)) ≡ Some row = sym (ap row_of is.tag) ∙ h in
    key_unique (is_id e.0) e.0 (item_told (tree_list is.rest)) row told

-- the tag of a list is read by its members
pub row_of_list : (c : Four) (value : Value) (members : List Tree) (tag : Tree) → tree_with c value ≡ tag → value ≡ Members members → row_among members ≡ row_of tag
unfolding row_of
row_of_list c value members tag seen is =
    ap row_among (sym (listed_again members)) ∙ ap (λ (v : Value). row_of (tree_with c v)) (sym is) ∙ ap row_of seen
