-- The bodies of a share are tags that a client reads by the standard table.
use Rattle.std.proofs.Common.{◌≡◌, ◌<◌, ◌≤◌, ◌^◌, ℕ, suc, List, [], ◌∷◌, ◌++◌, Bool, true, false, cond, ◌&&◌, nat_le, not, Option, Some, None, IfSome, map, filter, length, All, refl, sym, ap, ◌∙◌, subst, arith}
use Rattle.std.specs.List.{AllByRecursion, cons_option}
use Rattle.std.specs.Option.{option_map}
use Rattle.std.proofs.lemmas.Bool.{le-leb, ltb-true, and_from}
use Rattle.std.proofs.lemmas.List.{length-map}
use Rattle.std.proofs.lemmas.List.Elements.{All-nil, All-cons}
use Rattle.dmap_tags.specs.Codes.{Four, code}
use Rattle.dmap_tags.specs.Kinds.{is_list}
use Rattle.dmap_tags.specs.Tree.{Tree, leaf, list, trees_of, U32, levels, levels_in}
use Rattle.dmap_tags.specs.Proper.{IsProper, IsProperTag, AreProperTags}
use Rattle.dmap_tags.specs.Spelling.{payload, spelling}
use Rattle.dmap_tags.specs.declared.kinds.Kind.{Kind}
use Rattle.dmap_tags.specs.declared.kinds.Kind.TheVariants as kind
use Rattle.code_table.specs.Fits.{all_fit, fits, leaf_fits}
use Rattle.code_table.specs.Rows.{kind_in}
use Rattle.code_table.specs.Standard.{standard_rows}
use Rattle.item_model.specs.declared.changes.Entry.{Entry}
use Rattle.item_model.specs.declared.changes.Edit.{Edit}
use Rattle.item_model.specs.declared.item.PropValue.{PropValue}
use Rattle.item_model.specs.declared.item.PropValue.TheVariants.{Number, Text as Words}
use Rattle.item_model.specs.declared.item.Row.{Row}
use Rattle.item_model.specs.declared.property.Property.{Property}
use Rattle.item_model.specs.declared.property.Property.TheVariants as property
use Rattle.item_model.specs.declared.query.Query.{Query}
use Rattle.item_model.specs.declared.request.Look.{Look}
use Rattle.item_model.specs.declared.request.Meta.{Meta}
use Rattle.item_model.specs.declared.request.Target.{Target}
use Rattle.item_model.specs.declared.request.Target.TheVariants.{Items, Container}
use Rattle.item_model.specs.Items.{IsText, is_item, is_of_kind, is_value_of, value_of}
use Rattle.item_model.specs.Projection.{asked, keys, property_tag, shown, value_leaf}
use Rattle.item_model.specs.Properties.{is_same, property_code, property_kind}
use Rattle.item_model.proofs.Places.{value_fits}
use Rattle.share_history.specs.Bodies.{body_code, body_tree, gone_tags, key_code, listing_body, start_tags}
use Rattle.share_history.specs.Differences.{has_tag}
use Rattle.share_history.specs.Histories.{all_edits, batches, edits, later, revision, up_to}
use Rattle.share_history.specs.Kept.{is_kept}
use Rattle.share_history.specs.Listings.{Listing, delta_listing, full_listing, member_of, shown as shown_row, shown_rows, shown_after}
use Rattle.share_history.specs.Mirror.{mirror_look}
use Rattle.share_history.specs.Rows.{rows}
use Rattle.share_history.proofs.DeltaFacts.{map-filter, gone_all, few_gone}
use Rattle.share_history.proofs.EditFacts.{edits-split}
use Rattle.share_history.proofs.RangeFacts.{length-delta}
use Rattle.share_history.proofs.RowFacts.{length-rows}
use Rattle.share_history.proofs.SessionFacts.{few_batches}
use Rattle.listing_plan.proofs.Bodies.{listings_are_short}
use Rattle.mirror_client.specs.Tellings.{IsTag}
use Rattle.item_model.specs.Valid.{is_valid}
use Rattle.share_history.specs.Whole.{AreWhole, IsWhole, PutsWhole}
use Rattle.share_history.proofs.WholeFacts.{each_both, each_front}
use Rattle.share_meetings.proofs.WholeFacts.{AreSmall, IsRow, each_filtered, rows_are, small_keys}

-- ---- tags that fit below a list

-- of at most `n` levels
pub record IsGood (parent : Four) (n : ℕ) (t : Tree) : Type 0 where
  pub fit : fits standard_rows (Some parent) t ≡ true
  pub deep : levels t ≤ n
  pub proper : IsProperTag t

abbrev AreGood : Four → ℕ → List Tree → Type 0
AreGood parent n ts = AllByRecursion (IsGood parent n) ts

all_fit_of : (parent : Four) (n : ℕ) (ts : List Tree) → AreGood parent n ts → all_fit standard_rows parent (trees_of ts) ≡ true
all_fit_of parent n [] good = refl
all_fit_of parent n (t ∷ ts) good = and_from (fits standard_rows (Some parent) t) (all_fit standard_rows parent (trees_of ts)) good.0.fit (all_fit_of parent n ts good.1)

deep_of : (parent : Four) (n : ℕ) (ts : List Tree) → AreGood parent n ts → levels_in (trees_of ts) ≤ n
deep_of parent n [] good = omega arith
deep_of parent n (t ∷ ts) good = let d = good.0.deep in omega (arith, d, deep_of parent n ts good.1)

proper_of : (parent : Four) (n : ℕ) (ts : List Tree) → AreGood parent n ts → AreProperTags (trees_of ts)
proper_of parent n [] good = tt
proper_of parent n (t ∷ ts) good = (good.0.proper, proper_of parent n ts good.1)

-- a list of them
list_good : (parent c : Four) (n : ℕ) (ts : List Tree) → is_list (kind_in standard_rows (Some parent) c) ≡ true → AreGood c n ts → IsGood parent (suc n) (list c (trees_of ts))
list_good parent c n ts is good = record {
  fit = and_from (is_list (kind_in standard_rows (Some parent) c)) (all_fit standard_rows c (trees_of ts)) is (all_fit_of c n ts good);
  deep = let d = deep_of c n ts good in omega (arith, d);
  proper = proper_of c n ts good;
}

-- ---- values

leaf_fit : (k : Kind) (v : PropValue) → is_of_kind k v ≡ true → leaf_fits k (value_leaf k v) ≡ true
leaf_fit kind.U8 (Number n) h = refl
leaf_fit kind.U16 (Number n) h = refl
leaf_fit kind.U32 (Number n) h = refl
leaf_fit kind.U64 (Number n) h = refl
leaf_fit kind.Date (Number n) h = refl
leaf_fit kind.I8 (Number n) h = absurd (omega (arith, ltb-true n 0 h))
leaf_fit kind.I16 (Number n) h = absurd (omega (arith, ltb-true n 0 h))
leaf_fit kind.I32 (Number n) h = absurd (omega (arith, ltb-true n 0 h))
leaf_fit kind.I64 (Number n) h = absurd (omega (arith, ltb-true n 0 h))
leaf_fit kind.Text (Number n) h = absurd (omega (arith, ltb-true n 0 h))
leaf_fit kind.Version (Number n) h = absurd (omega (arith, ltb-true n 0 h))
leaf_fit kind.List (Number n) h = absurd (omega (arith, ltb-true n 0 h))
leaf_fit kind.Opaque (Number n) h = absurd (omega (arith, ltb-true n 0 h))
leaf_fit kind.Text (Words bytes) h = refl
leaf_fit kind.U8 (Words bytes) h = absurd (cc)
leaf_fit kind.U16 (Words bytes) h = absurd (cc)
leaf_fit kind.U32 (Words bytes) h = absurd (cc)
leaf_fit kind.U64 (Words bytes) h = absurd (cc)
leaf_fit kind.Date (Words bytes) h = absurd (cc)
leaf_fit kind.I8 (Words bytes) h = absurd (cc)
leaf_fit kind.I16 (Words bytes) h = absurd (cc)
leaf_fit kind.I32 (Words bytes) h = absurd (cc)
leaf_fit kind.I64 (Words bytes) h = absurd (cc)
leaf_fit kind.Version (Words bytes) h = absurd (cc)
leaf_fit kind.List (Words bytes) h = absurd (cc)
leaf_fit kind.Opaque (Words bytes) h = absurd (cc)

leaf_proper : (k : Kind) (v : PropValue) → is_of_kind k v ≡ true → IsText v → IsProper (value_leaf k v)
leaf_proper kind.U8 (Number n) h t = ltb-true n (2 ^ 8) h
leaf_proper kind.U16 (Number n) h t = ltb-true n (2 ^ 16) h
leaf_proper kind.U32 (Number n) h t = ltb-true n (2 ^ 32) h
leaf_proper kind.U64 (Number n) h t = ltb-true n (2 ^ 64) h
leaf_proper kind.Date (Number n) h t = ltb-true n (2 ^ 32) h
leaf_proper kind.I8 (Number n) h t = absurd (omega (arith, ltb-true n 0 h))
leaf_proper kind.I16 (Number n) h t = absurd (omega (arith, ltb-true n 0 h))
leaf_proper kind.I32 (Number n) h t = absurd (omega (arith, ltb-true n 0 h))
leaf_proper kind.I64 (Number n) h t = absurd (omega (arith, ltb-true n 0 h))
leaf_proper kind.Text (Number n) h t = absurd (omega (arith, ltb-true n 0 h))
leaf_proper kind.Version (Number n) h t = absurd (omega (arith, ltb-true n 0 h))
leaf_proper kind.List (Number n) h t = absurd (omega (arith, ltb-true n 0 h))
leaf_proper kind.Opaque (Number n) h t = absurd (omega (arith, ltb-true n 0 h))
leaf_proper k (Words bytes) h t = t

-- the table has each property with its kind
kind_is : (p : Property) → kind_in standard_rows (Some (code "mlit")) (property_code p) ≡ property_kind p
kind_is property.Minm = refl
kind_is property.Mikd = refl
kind_is property.Mper = refl
kind_is property.Asar = refl
kind_is property.Asal = refl
kind_is property.Asaa = refl
kind_is property.Asgn = refl
kind_is property.Ascp = refl
kind_is property.Ascm = refl
kind_is property.Agrp = refl
kind_is property.Asfm = refl
kind_is property.Asyr = refl
kind_is property.Astn = refl
kind_is property.Astc = refl
kind_is property.Asdn = refl
kind_is property.Asdc = refl
kind_is property.Asbr = refl
kind_is property.Asbt = refl
kind_is property.Astm = refl
kind_is property.Assr = refl
kind_is property.Assz = refl
kind_is property.Asur = refl
kind_is property.Asco = refl
kind_is property.Aemk = refl
kind_is property.Asda = refl
kind_is property.Asdm = refl

property_good : (p : Property) (v : PropValue) → is_value_of p v ≡ true → IsText v → IsGood (code "mlit") 1 (property_tag p v)
property_good p v h t = record {
  fit = ap (λ (k : Kind). leaf_fits k (value_leaf (property_kind p) v)) (kind_is p) ∙ leaf_fit (property_kind p) v h;
  deep = omega arith;
  proper = leaf_proper (property_kind p) v h t;
}

-- ---- rows

text_of : (p : Property) (item : List (Property × PropValue)) → AllByRecursion (λ e. IsText e.1) item → IfSome (value_of p item) IsText
text_of p [] texts = tt
text_of p (e ∷ es) texts = by_same (is_same e.0 p) (text_of p es texts.1)
  where
    by_same : (b : Bool) → IfSome (value_of p es) IsText → IfSome (cond b (Some e.1) (value_of p es)) IsText
    by_same true rest = texts.0
    by_same false rest = rest

shown_good : (item : List (Property × PropValue)) (ps : List Property) → is_item item ≡ true → AllByRecursion (λ e. IsText e.1) item → AreGood (code "mlit") 1 (shown item ps)
shown_good item [] is texts = tt
shown_good item (p ∷ ps) is texts = with_one (value_of p item) (value_fits p 0 item is) (text_of p item texts) (shown_good item ps is texts)
  where
    with_one : (v : Option PropValue) → IfSome v (λ x. is_value_of p x ≡ true) → IfSome v IsText → AreGood (code "mlit") 1 (shown item ps)
        → AreGood (code "mlit") 1 (cons_option (option_map (property_tag p) v) (shown item ps))
    with_one None h t others = others
    with_one (Some x) h t others = (property_good p x h t, others)

id_good : (id : ℕ) → id < 2 ^ 32 → IsGood (code "mlit") 1 (leaf (code "miid") (U32 id))
id_good id small = record { fit = refl; deep = omega arith; proper = small }

keys_good : (member : Option ℕ) (id : ℕ) → IfSome member (λ k. k < 2 ^ 32) → id < 2 ^ 32 → AreGood (code "mlit") 1 (keys member id)
keys_good None id m small = (id_good id small, tt)
keys_good (Some k) id m small = (record { fit = refl; deep = omega arith; proper = m }, (id_good id small, tt))

member_small : (target : Target) (k : ℕ) → k < 2 ^ 32 → IfSome (member_of target k) (λ m. m < 2 ^ 32)
member_small Items k small = tt
member_small (Container c) k small = small

row_good : (target : Target) (meta : Meta) (pair : ℕ × Row) → IsRow pair → IsGood (code "mlcl") 2 (shown_row target meta pair).1
row_good target meta pair is =
    list_good (code "mlcl") (code "mlit") 1 (keys (member_of target pair.0) pair.1.id ++ shown pair.1.item (asked meta)) refl
    (each_both (IsGood (code "mlit") 1) (keys (member_of target pair.0) pair.1.id) (shown pair.1.item (asked meta))
    (keys_good (member_of target pair.0) pair.1.id (member_small target pair.0 is.key) is.found.small)
    (shown_good pair.1.item (asked meta) is.found.whole.item is.found.whole.texts))

rows_good : (target : Target) (meta : Meta) (pairs : List (ℕ × Row)) → AllByRecursion IsRow pairs
    → AreGood (code "mlcl") 2 (map (λ row. row.1) (shown_rows target meta pairs))
rows_good target meta [] are = tt
rows_good target meta (pair ∷ pairs) are = (row_good target meta pair are.0, rows_good target meta pairs are.1)

rows_items : (pairs : List (ℕ × Row)) → AllByRecursion IsRow pairs → All (λ row. is_item row.1.item ≡ true) pairs
rows_items [] are = All-nil (λ row. is_item row.1.item ≡ true)
rows_items (pair ∷ pairs) are = All-cons (λ row. is_item row.1.item ≡ true) pair pairs are.0.found.whole.item (rows_items pairs are.1)

-- ---- keys

key_fits : (target : Target) (k : ℕ) → k < 2 ^ 32 → IsGood (code "mudl") 1 (leaf (key_code target) (U32 k))
key_fits Items k small = record { fit = refl; deep = omega arith; proper = small }
key_fits (Container c) k small = record { fit = refl; deep = omega arith; proper = small }

gone_keys_good : (target : Target) (ks : List ℕ) → AreSmall ks → AreGood (code "mudl") 1 (map (λ key. leaf (key_code target) (U32 key)) ks)
gone_keys_good target [] small = tt
gone_keys_good target (k ∷ ks) small = (key_fits target k small.0, gone_keys_good target ks small.1)

-- ---- bodies

-- under both codes of a body the same tags fit
at_body : (target : Target) (P : Four → Type 0) → P (code "adbs") → P (code "apso") → P (body_code target)
at_body Items P h k = h
at_body (Container c) P h k = k

gone_good : (target : Target) (is_delta : Bool) (ks : List ℕ) → AreSmall ks → AreGood (body_code target) 3 (gone_tags target is_delta ks)
gone_good target false ks small = tt
gone_good target true ks small = (deeper, tt)
  where
    keys_of : List Tree
    keys_of = map (λ key. leaf (key_code target) (U32 key)) ks

    shallow : IsGood (body_code target) 2 (list (code "mudl") (trees_of (map (λ key. leaf (key_code target) (U32 key)) ks)))
    shallow = at_body target (λ c. IsGood c 2 (list (code "mudl") (trees_of (map (λ key. leaf (key_code target) (U32 key)) ks))))
        (list_good (code "adbs") (code "mudl") 1 (map (λ key. leaf (key_code target) (U32 key)) ks) refl (gone_keys_good target ks small))
        (list_good (code "apso") (code "mudl") 1 (map (λ key. leaf (key_code target) (U32 key)) ks) refl (gone_keys_good target ks small))

    deeper : IsGood (body_code target) 3 (list (code "mudl") (trees_of (map (λ key. leaf (key_code target) (U32 key)) ks)))
    deeper = record { fit = shallow.fit; deep = let d = shallow.deep in omega (arith, d); proper = shallow.proper }

mark_small : (is_delta : Bool) → cond is_delta 1 0 < 2 ^ 8
mark_small true = omega arith
mark_small false = omega arith

start_good : (c : Four) → (c ≡ code "adbs") → (is_delta : Bool) (v total listed : ℕ) → v < 2 ^ 32 → total < 2 ^ 32 → listed < 2 ^ 32
    → AreGood (code "adbs") 3 (start_tags is_delta v total listed)
start_good c same is_delta v total listed a b d = (
  record { fit = refl; deep = omega arith; proper = omega arith },
  (
    record { fit = refl; deep = omega arith; proper = mark_small is_delta },
    (record { fit = refl; deep = omega arith; proper = a }, (record { fit = refl; deep = omega arith; proper = b }, (record { fit = refl; deep = omega arith; proper = d }, tt))),
  ),
)

list_start_good : (is_delta : Bool) (v total listed : ℕ) → v < 2 ^ 32 → total < 2 ^ 32 → listed < 2 ^ 32 → AreGood (code "apso") 3 (start_tags is_delta v total listed)
list_start_good is_delta v total listed a b d = (
  record { fit = refl; deep = omega arith; proper = omega arith },
  (
    record { fit = refl; deep = omega arith; proper = mark_small is_delta },
    (record { fit = refl; deep = omega arith; proper = a }, (record { fit = refl; deep = omega arith; proper = b }, (record { fit = refl; deep = omega arith; proper = d }, tt))),
  ),
)

-- what a listing has to be for its body to be read
pub record IsReadable (target : Target) (meta : Meta) (pairs : List (ℕ × Row)) (l : Listing) : Type 0 where
  pub rows : l.rows ≡ shown_rows target meta pairs
  pub are : AllByRecursion IsRow pairs
  pub gone : AreSmall l.gone
  pub few : length pairs ≤ 262144
  pub few_gone : length l.gone ≤ 262144
  pub revision : l.revision < 2 ^ 32
  pub total : l.total < 2 ^ 32

members : Target → Listing → List Tree
members target l =
    start_tags l.is_delta l.revision l.total (length l.rows) ++ list (code "mlcl") (trees_of (map (λ row. row.1) l.rows)) ∷ gone_tags target l.is_delta l.gone

members_good : (target : Target) (meta : Meta) (pairs : List (ℕ × Row)) (l : Listing) → IsReadable target meta pairs l → AreGood (body_code target) 3 (members target l)
unfolding members
members_good target meta pairs l r =
    each_both (IsGood (body_code target) 3) (start_tags l.is_delta l.revision l.total (length l.rows))
    (list (code "mlcl") (trees_of (map (λ row. row.1) l.rows)) ∷ gone_tags target l.is_delta l.gone)
    (at_body target (λ c. AreGood c 3 (start_tags l.is_delta l.revision l.total (length l.rows)))
    (start_good (code "adbs") refl l.is_delta l.revision l.total (length l.rows) r.revision r.total listed)
    (list_start_good l.is_delta l.revision l.total (length l.rows) r.revision r.total listed))
    (rows_list, gone_good target l.is_delta l.gone r.gone)
  where
    count : length l.rows ≡ length pairs
    count = ap length r.rows ∙ length-map pairs (shown_row target meta)

    listed : length l.rows < 2 ^ 32
    listed = let few = r.few in omega (arith, count, few)

    good : AreGood (code "mlcl") 2 (map (λ row. row.1) l.rows)
    good = subst (λ (shown : List (ℕ × Tree)). AreGood (code "mlcl") 2 (map (λ row. row.1) shown)) (sym r.rows) (rows_good target meta pairs r.are)

    rows_list : IsGood (body_code target) 3 (list (code "mlcl") (trees_of (map (λ row. row.1) l.rows)))
    rows_list = at_body target (λ c. IsGood c 3 (list (code "mlcl") (trees_of (map (λ row. row.1) l.rows))))
        (list_good (code "adbs") (code "mlcl") 2 (map (λ row. row.1) l.rows) refl good)
        (list_good (code "apso") (code "mlcl") 2 (map (λ row. row.1) l.rows) refl good)

top_list : (target : Target) → is_list (kind_in standard_rows None (body_code target)) ≡ true
top_list Items = refl
top_list (Container c) = refl

-- the payload is within the limit
short : (target : Target) (meta : Meta) (pairs : List (ℕ × Row)) (l : Listing) → IsReadable target meta pairs l → length (payload (body_tree target l)) ≤ 1073741824
short target meta pairs l r =
    subst (λ (shown : List (ℕ × Tree)). length (payload (body_tree target (record { is_delta = l.is_delta; revision = l.revision; total = l.total; rows = shown; gone = l.gone }))) ≤ 1073741824)
    (sym r.rows) (listings_are_short target l.is_delta l.revision l.total pairs meta l.gone (rows_items pairs r.are) r.few r.few_gone)

pub body_read : (target : Target) (meta : Meta) (pairs : List (ℕ × Row)) (l : Listing) → IsReadable target meta pairs l → IsTag standard_rows (spelling (body_tree target l)) (body_tree target l)
unfolding members
body_read target meta pairs l r = record {
  spelled = refl;
  accepted = and_from (fits standard_rows None (body_tree target l)) (nat_le (levels (body_tree target l)) 32 && nat_le (length (payload (body_tree target l))) 1073741824)
      (and_from (is_list (kind_in standard_rows None (body_code target))) (all_fit standard_rows (body_code target) (trees_of (members target l))) (top_list target) (all_fit_of (body_code target) 3 (members target l) good))
      (and_from (nat_le (levels (body_tree target l)) 32) (nat_le (length (payload (body_tree target l))) 1073741824) (le-leb (levels (body_tree target l)) 32 deep)
      (le-leb (length (payload (body_tree target l))) 1073741824 (short target meta pairs l r)));
  proper = proper_of (body_code target) 3 (members target l) good;
}
  where
    good : AreGood (body_code target) 3 (members target l)
    good = members_good target meta pairs l r

    deep : levels (body_tree target l) ≤ 32
    deep = let d : levels_in (trees_of (members target l)) ≤ 3 = deep_of (body_code target) 3 (members target l) good in omega (arith, d)

-- ---- the listings of a whole history

pub small_revision : (h : List Entry) → IsWhole h → revision (batches h) < 2 ^ 32
small_revision h whole = let few = whole.few_entries in omega (arith, few, few_batches h)

listing_read : (kept : Bool) (h : List Entry) (target : Target) (query : Option Query) (meta : Meta) (base : ℕ) → IsWhole h
    → (pairs : List (ℕ × Row))
    × IsReadable target meta pairs (cond kept (delta_listing (batches h) target (mirror_look query meta base) base) (full_listing (batches h) target (mirror_look query meta base)))
listing_read true h target query meta base whole =
    let bs : List (List Edit) = batches h in
    let es : List Edit = all_edits h in
    let look : Look = mirror_look query meta base in
    let new : ℕ × Tree → Bool = λ tag. not (has_tag (shown_after (up_to bs base) target look) tag) in
    let p : ℕ × Row → Bool = λ row. new (shown_row target meta row) in
    let few = whole.few_edits in
    let listed = map-filter (shown_row target meta) new (rows es target query) in
    let count : length (filter p (rows es target query)) ≤ length es =
    omega (arith, length-map (filter p (rows es target query)) (shown_row target meta), ap length listed, length-delta bs target look base) in
    let front : AreWhole (edits (up_to bs base)) =
    each_front (λ e. (is_valid e ≡ true) × PutsWhole e) (edits (up_to bs base)) (later bs base) (subst AreWhole (edits-split bs base) whole.edits) in (
      filter p (rows es target query),
      record {
        rows = sym listed;
        are = each_filtered IsRow p (rows es target query) (rows_are es target query whole.edits);
        gone = gone_all (λ key. key < 2 ^ 32) bs target look base (small_keys (edits (up_to bs base)) front);
        few = omega (arith, count, few);
        few_gone = omega (arith, few_gone bs target look base, few);
        revision = small_revision h whole;
        total = omega (arith, length-delta bs target look base, few);
      },
    )
listing_read false h target query meta base whole =
    let es : List Edit = all_edits h in
    let few = whole.few_edits in
    let count : length (rows es target query) ≤ length es = length-rows es target query in (
      rows es target query,
      record {
        rows = refl;
        are = rows_are es target query whole.edits;
        gone = tt;
        few = omega (arith, count, few);
        few_gone = omega arith;
        revision = small_revision h whole;
        total = omega (arith, count, few);
      },
    )

pub listing_body_read : (keep : ℕ) (h : List Entry) (target : Target) (query : Option Query) (meta : Meta) (base : ℕ) → IsWhole h
    → IsTag standard_rows (spelling (listing_body keep h target (mirror_look query meta base))) (listing_body keep h target (mirror_look query meta base))
listing_body_read keep h target query meta base whole = by_kept (is_kept keep (batches h) target base)
  where
    by_kept : (kept : Bool)
        → IsTag standard_rows (spelling (body_tree target (cond kept (delta_listing (batches h) target (mirror_look query meta base) base) (full_listing (batches h) target (mirror_look query meta base)))))
        (body_tree target (cond kept (delta_listing (batches h) target (mirror_look query meta base) base) (full_listing (batches h) target (mirror_look query meta base))))
    by_kept kept =
        let r = listing_read kept h target query meta base whole in
        body_read target meta r.0 (cond kept (delta_listing (batches h) target (mirror_look query meta base) base) (full_listing (batches h) target (mirror_look query meta base))) r.1
