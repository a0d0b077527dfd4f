-- The rows of edits that draws make: whatever they are, their tags are small and of the standard codes' kinds.
use Rattle.std.proofs.Common.{◌≡◌, ◌<◌, ◌≤◌, ◌^◌, ℕ, ◌+◌, ◌%◌, List, [], ◌∷◌, ◌++◌, Bool, true, false, cond, ◌==◌, Option, Some, None, filter, length, codes, decimal, unwrap_or, refl, sym, ap, subst, arith, rules, length-append, lit<}
use Rattle.std.specs.List.{AllByRecursion, cons_option}
use Rattle.std.specs.Option.{option_map, option_and_then, option_or}
use Rattle.std.specs.Str.{is_utf8, IsAscii}
use Rattle.std.proofs.lemmas.Bool.{eqb-true}
use Rattle.std.proofs.lemmas.Fmt.{length-decimal-le, IsAscii-decimal}
use Rattle.std.proofs.lemmas.Str.{IsAscii-append, IsUtf8-from_ascii, is_utf8-from_IsUtf8}
use Rattle.dmap_tags.specs.Codes.{code}
use Rattle.dmap_tags.specs.Tree.{Tree, Trees, leaf, list, none, more, U32, Text, levels}
use Rattle.dmap_tags.specs.Spelling.{spelling, spellings}
use Rattle.dmap_tags.specs.Proper.{IsProperTag}
use Rattle.code_table.specs.Fits.{fits}
use Rattle.code_table.specs.Standard.{standard_rows}
use Rattle.item_model.specs.declared.changes.Edit.{Edit}
use Rattle.item_model.specs.declared.changes.Edit.TheVariants.{PutItem, DropItem}
use Rattle.item_model.specs.declared.item.Row.{Row}
use Rattle.item_model.specs.declared.query.Query.{Query}
use Rattle.item_model.specs.declared.request.Meta.TheVariants.{Default}
use Rattle.item_model.specs.declared.request.Target.TheVariants.{Items}
use Rattle.item_model.specs.Projection.{projection}
use Rattle.share_history.specs.Keyed.{ascending, pairs_at}
use Rattle.share_history.specs.LastSaid.{last_said, only_if, says_item, item_at}
use Rattle.share_history.specs.Listings.{shown_rows}
use Rattle.share_history.specs.Named.{named_keys}
use Rattle.share_history.specs.Rows.{rows, row_at, is_selected, if_selected}
use Rattle.listing_plan.proofs.Spelled.{more_length, framed_length}
use Rattle.rehearsal.specs.Edits.{row_by}
use Rattle.rehearsal.specs.Made.{IsMade, AreMade}

-- ---- made rows

pub record IsMadeRow (id : ℕ) (row : Row) : Type 0 where
  pub b : ℕ
  pub c : ℕ
  pub is : row ≡ row_by id b c
  pub to : id ≤ 4096
  pub named : b < 65536

-- what is found under an id is such a row with that id
abbrev Finds : ℕ → Option Row → Type 0
Finds id None = Unit {0}
Finds id (Some row) = IsMadeRow id row

abbrev Says : ℕ → Option (Option Row) → Type 0
Says id None = Unit {0}
Says id (Some found) = Finds id found

put_says : (k id b c : ℕ) (t : Bool) → (id == k) ≡ t → id ≤ 4096 → b < 65536 → Says k (only_if t (Some (row_by id b c)))
put_says k id b c true is to named = record { b = b; c = c; is = ap (λ n. row_by n b c) (eqb-true id k is); to = subst (λ n. n ≤ 4096) (eqb-true id k is) to; named = named }
put_says k id b c false is to named = tt

drop_says : (k : ℕ) (t : Bool) → Says k (only_if {A = Option Row} t None)
drop_says k true = tt
drop_says k false = tt

made_says : (k id b c : ℕ) (t : Bool) → id ≤ 4096 → b < 65536 → Says k (says_item k (cond t (DropItem id) (PutItem (row_by id b c))))
made_says k id b c true to named = drop_says k (id == k)
made_says k id b c false to named = put_says k id b c (id == k) refl to named

edit_says : (k : ℕ) (e : Edit) → IsMade e → Says k (says_item k e)
edit_says k e made = subst (λ edit. Says k (says_item k edit)) (sym made.is) (made_says k made.id made.b made.c (made.b % 4 == 0) made.to made.named)

later_says : (k : ℕ) (later now : Option (Option Row)) → Says k later → Says k now → Says k (option_or later now)
later_says k None now h n = n
later_says k (Some found) now h n = h

all_say : (k : ℕ) (es : List Edit) → AreMade es → Says k (last_said (says_item k) es)
all_say k [] made = tt
all_say k (e ∷ es) made = later_says k (last_said (says_item k) es) (says_item k e) (all_say k es made.1) (edit_says k e made.0)

found_says : (k : ℕ) (said : Option (Option Row)) → Says k said → Finds k (unwrap_or said None)
found_says k None h = tt
found_says k (Some found) h = h

selected_finds : (k : ℕ) (q : Option Query) (found : Option Row) → Finds k found → Finds k (option_and_then (if_selected q) found)
selected_finds k q None h = tt
selected_finds k q (Some row) h = kept (is_selected q row)
  where
    kept : (b : Bool) → Finds k (only_if b row)
    kept true = h
    kept false = tt

row_finds : (es : List Edit) (q : Option Query) (k : ℕ) → AreMade es → Finds k (row_at es Items q k)
row_finds es q k made = selected_finds k q (item_at es k) (found_says k (last_said (says_item k) es) (all_say k es made))

abbrev pub AreMadeRows : List (ℕ × Row) → Type 0
AreMadeRows pairs = AllByRecursion (λ pair. IsMadeRow pair.0 pair.1) pairs

pairs_made : (f : ℕ → Option Row) (ks : List ℕ) → ((k : ℕ) → Finds k (f k)) → AreMadeRows (pairs_at f ks)
pairs_made f [] finds = tt
pairs_made f (k ∷ ks) finds = with_one (f k) (finds k) (pairs_made f ks finds)
  where
    with_one : (v : Option Row) → Finds k v → AreMadeRows (pairs_at f ks) → AreMadeRows (cons_option (option_map (λ x. (k, x)) v) (pairs_at f ks))
    with_one None h others = others
    with_one (Some row) h others = (h, others)

pub rows_made : (es : List Edit) (q : Option Query) → AreMade es → AreMadeRows (rows es Items q)
rows_made es q made = pairs_made (row_at es Items q) (ascending (named_keys es)) (λ k. row_finds es q k made)

pub made_filter : (p : ℕ × Row → Bool) (pairs : List (ℕ × Row)) → AreMadeRows pairs → AreMadeRows (filter p pairs)
made_filter p [] h = tt
made_filter p (pair ∷ pairs) h = kept (p pair) (made_filter p pairs h.1)
  where
    kept : (b : Bool) → AreMadeRows (filter p pairs) → AreMadeRows (cond b (pair ∷ filter p pairs) (filter p pairs))
    kept true others = (h.0, others)
    kept false others = others

-- ---- their tags

-- the tag of a row under a key: it begins with the key, fits and is small
pub record IsGood (row : ℕ × Tree) : Type 0 where
  pub rest : Trees
  pub tag : row.1 ≡ list (code "mlit") (more (leaf (code "miid") (U32 row.0)) rest)
  pub fit : fits standard_rows (Some (code "mlcl")) row.1 ≡ true
  pub deep : levels row.1 ≤ 2
  pub proper : IsProperTag row.1
  pub short : length (spelling row.1) ≤ 64

abbrev pub AreGood : List (ℕ × Tree) → Type 0
AreGood rows = AllByRecursion IsGood rows

tag_of : (id : ℕ) (name artist : List ℕ) → Tree
tag_of id name artist =
    list (code "mlit") (more (leaf (code "miid") (U32 id)) (more (leaf (code "minm") (Text name)) (more (leaf (code "asar") (Text artist)) none)))

shown_tag : (id b c : ℕ) → projection (row_by id b c) None Default ≡ tag_of id (codes "t" ++ decimal b) (codes "a" ++ decimal (c % 16))
unfolding tag_of
shown_tag id b c = refl

letter_text : (letter : List ℕ) (n : ℕ) → IsAscii letter → n < 65536 → is_utf8 (letter ++ decimal n) ≡ true
letter_text letter n ascii small = is_utf8-from_IsUtf8 (letter ++ decimal n) (IsUtf8-from_ascii (letter ++ decimal n) (IsAscii-append letter (decimal n) ascii (IsAscii-decimal n (omega arith))))

tag_length : (id : ℕ) (name artist : List ℕ) → length (spelling (tag_of id name artist)) ≡ 36 + length name + length artist
unfolding tag_of
tag_length id name artist =
    let one : Trees = more (leaf (code "asar") (Text artist)) none in
    let two : Trees = more (leaf (code "minm") (Text name)) one in
    omega (
      arith,
      framed_length (code "mlit") (spellings (more (leaf (code "miid") (U32 id)) two)),
      more_length (leaf (code "miid") (U32 id)) two,
      more_length (leaf (code "minm") (Text name)) one,
      more_length (leaf (code "asar") (Text artist)) none,
      framed_length (code "minm") name,
      framed_length (code "asar") artist,
    )

good_tag : (id : ℕ) (name artist : List ℕ) → id < 2 ^ 32 → is_utf8 name ≡ true → is_utf8 artist ≡ true → length name ≤ 14 → length artist ≤ 14 → IsGood (id, tag_of id name artist)
unfolding tag_of
good_tag id name artist small named by short_name short_artist =
    record {
      rest = more (leaf (code "minm") (Text name)) (more (leaf (code "asar") (Text artist)) none);
      tag = refl;
      fit = refl;
      deep = omega arith;
      proper = (small, (named, (by, tt)));
      short = omega (arith, tag_length id name artist);
    }

one_letter : (x : ℕ) (n : ℕ) → n < 65536 → length (x ∷ [] ++ decimal n) ≤ 14
one_letter x n small =
    let digits : length (decimal n) ≤ 10 = length-decimal-le 10 n (lit< tt) (omega arith) (omega arith) in
    omega (arith, length-append (x ∷ []) (decimal n))

good_row : (id b c : ℕ) → id ≤ 4096 → b < 65536 → IsGood (id, projection (row_by id b c) None Default)
good_row id b c to named =
    let part : c % 16 < 65536 = omega arith in
    subst (λ t. IsGood (id, t)) (sym (shown_tag id b c))
    (good_tag id (codes "t" ++ decimal b) (codes "a" ++ decimal (c % 16)) (omega arith) (letter_text (codes "t") b ascii_t named) (letter_text (codes "a") (c % 16) ascii_a part)
    (one_letter 116 b named) (one_letter 97 (c % 16) part))
  where
    ascii_t : IsAscii (codes "t")
    ascii_t = search rules

    ascii_a : IsAscii (codes "a")
    ascii_a = search rules

pub rows_good : (pairs : List (ℕ × Row)) → AreMadeRows pairs → AreGood (shown_rows Items Default pairs)
rows_good [] made = tt
rows_good (pair ∷ pairs) made = (subst (λ row. IsGood (pair.0, projection row None Default)) (sym made.0.is) (good_row pair.0 made.0.b made.0.c made.0.to made.0.named), rows_good pairs made.1)
