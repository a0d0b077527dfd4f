-- The text of a tag's JSON value is read as that value.
use Rattle.std.proofs.Common.{◌≡◌, ◌≤◌, ◌<◌, ◌*◌, ◌^◌, ℕ, ℤ, pos, negsuc, suc, true, false, List, [], flat_map, Some, None, option_map, option_and_then, Result, Ok, Err, IfOk, OnOk, refl, sym, ap, ◌∙◌, subst, arith, append-nil}
use Rattle.std.specs.Int.{w64}
use Rattle.std.specs.Int.RustNames.{FitsSigned}
use Rattle.json.specs.Lex.{tokens}
use Rattle.json.specs.Print.{IsNumber}
use Rattle.json.specs.Json as json
use Rattle.json.specs.Tree as tree
use Rattle.json.specs.Tree.{json_tokens, HasNumbers, ItemsHaveNumbers}
use Rattle.json.proofs.Printed.Tokens.{tokens-print}
use Rattle.json.proofs.Printed.Trees.{value-json_tokens, ArePrintable-json_tokens}
use Rattle.json.proofs.Printed.Decimals.{IsNumber-decimal, IsNumber-signed_decimal}
use Rattle.serde_json.specs.Data.{Num, unsigned, negative, Data, number, string, array, Items, item}
use Rattle.serde_json.specs.Find.{of_integer}
use Rattle.serde_json.specs.Read.{read, of_json, of_items, number_of}
use Rattle.serde_json.specs.Written.{number_text, outline, items_outline, has_float, items_have_float, compact_text}
use Rattle.serde_json.proofs.Numbers.{number_of-decimal, number_of-negative}
use Rattle.serde_json.proofs.Texts.{print-outline}
use Rattle.dmap_tags.specs.Tree.{Leaf, U8, I8, U16, I16, U32, I32, U64, I64, Text, Date, Version, Opaque, Tree, leaf, list, Trees, none, more, tree_code, levels, levels_in}
use Rattle.code_table.specs.declared.row.CodeRow.{CodeRow}
use Rattle.code_table.specs.Fits.{fits}
use Rattle.dmap_show.specs.Readable.{IsValue, IsTag, AreTags, IsReadable}
use Rattle.dmap_show.specs.Shown.{hex, shown_code, word_of}
use Rattle.dmap_json.specs.TagObject.{tag_object, json_leaf, json_held, json_items, json_of}
use Rattle.dmap_json.specs.Reads.{Reads}

-- a whole number of 64 bits is read back from its digits
record IsRead (n : Num) : Type 0 where
  is : number_of (number_text n) ≡ Some n
  number : IsNumber (number_text n)

natural_read : (n : ℕ) → n < 2 ^ 64 → IsRead (unsigned n)
natural_read n h = record { is = number_of-decimal n h; number = IsNumber-decimal n h }

integer_read : (z : ℤ) → FitsSigned w64 z → IsRead (of_integer z)
integer_read (pos n) h = natural_read n (let small = h.sfits in omega arith)
integer_read (negsuc n) h = record {
  is = number_of-negative n (let small = h.sfits in omega arith);
  number = IsNumber-signed_decimal (negsuc n) (let small = h.sfits in omega arith);
}

-- a JSON value is read back from the writer's text of it
record IsBack (d : Data) : Type 0 where
  whole : has_float d ≡ false
  numbers : HasNumbers (outline d)
  back : of_json (outline d) ≡ Some d

no_float : (n : Num) → IsRead n → has_float (number n) ≡ false → IsBack (number n)
no_float n h whole = record { whole = whole; numbers = h.number; back = ap (option_map number) h.is }

natural_back : (n : ℕ) → n < 2 ^ 64 → IsBack (number (unsigned n))
natural_back n h = no_float (unsigned n) (natural_read n h) refl

integer_back : (z : ℤ) → FitsSigned w64 z → IsBack (number (of_integer z))
integer_back (pos n) h = no_float (unsigned n) (integer_read (pos n) h) refl
integer_back (negsuc n) h = no_float (negative (negsuc n)) (integer_read (negsuc n) h) refl

string_back : (s : List ℕ) → IsBack (string s)
string_back s = record { whole = refl; numbers = tt; back = refl }

leaf_back : (l : Leaf) → IsValue l → IsBack (json_leaf l)
leaf_back (U8 n) h = natural_back n (let small : n < 2 ^ 8 = h in omega arith)
leaf_back (I8 z) h = integer_back z (record { sfits = let small = h.sfits in omega arith })
leaf_back (U16 n) h = natural_back n (let small : n < 2 ^ 16 = h in omega arith)
leaf_back (I16 z) h = integer_back z (record { sfits = let small = h.sfits in omega arith })
leaf_back (U32 n) h = natural_back n (let small : n < 2 ^ 32 = h in omega arith)
leaf_back (I32 z) h = integer_back z (record { sfits = let small = h.sfits in omega arith })
leaf_back (U64 n) h = natural_back n h
leaf_back (I64 z) h = integer_back z h
leaf_back (Text bytes) h = string_back bytes
leaf_back (Date n) h = natural_back n (let small : n < 2 ^ 32 = h in omega arith)
leaf_back (Version n) h = natural_back n (let small : n < 2 ^ 32 = h in omega arith)
leaf_back (Opaque bytes) h = string_back (flat_map hex bytes)

object_back : (code word : List ℕ) (d : Data) → IsBack d → IsBack (tag_object code word d)
object_back code word d h = record {
  whole = rw h.whole refl;
  numbers = (tt, (tt, (h.numbers, tt)));
  back = rw h.back refl;
}

record AreBack (ds : Items) : Type 0 where
  whole : items_have_float ds ≡ false
  numbers : ItemsHaveNumbers (items_outline ds)
  back : of_items (items_outline ds) ≡ Some ds

item_back : (d : Data) (ds : Items) → IsBack d → AreBack ds → AreBack (item d ds)
item_back d ds h k = record {
  whole = rw (h.whole, k.whole) refl;
  numbers = (h.numbers, k.numbers);
  back = rw (h.back, k.back) refl;
}

mutual
  held_back : (t : Tree) → IsTag t → IsBack (json_held t)
  held_back (leaf c l) h = leaf_back l h.1
  held_back (list c ts) h =
      let k = members_back ts h.1 in
      record { whole = k.whole; numbers = k.numbers; back = ap (option_map array) k.back }

  members_back : (ts : Trees) → AreTags ts → AreBack (json_items ts)
  members_back none h = record { whole = refl; numbers = tt; back = refl }
  members_back (more t ts) h = item_back _ _ (object_back (shown_code (tree_code t)) (word_of t) (json_held t) (held_back t h.0)) (members_back ts h.1)

tag_back : (t : Tree) → IsTag t → IsBack (json_of t)
tag_back t h = object_back (shown_code (tree_code t)) (word_of t) (json_held t) (held_back t h)

pub has_no_float : (t : Tree) → IsTag t → has_float (json_of t) ≡ false
has_no_float t h = (tag_back t h).whole

-- a tag's value has an object and an array for each level
leaf_depth : (l : Leaf) → tree.depth (outline (json_leaf l)) ≡ 0
leaf_depth (U8 n) = refl
leaf_depth (I8 z) = refl
leaf_depth (U16 n) = refl
leaf_depth (I16 z) = refl
leaf_depth (U32 n) = refl
leaf_depth (I32 z) = refl
leaf_depth (U64 n) = refl
leaf_depth (I64 z) = refl
leaf_depth (Text bytes) = refl
leaf_depth (Date n) = refl
leaf_depth (Version n) = refl
leaf_depth (Opaque bytes) = refl

mutual
  held_depth : (t : Tree) → suc (tree.depth (outline (json_held t))) ≤ 2 * levels t
  held_depth (leaf c l) = omega (arith, leaf_depth l)
  held_depth (list c ts) = omega (arith, members_depth ts)

  members_depth : (ts : Trees) → tree.items_depth (items_outline (json_items ts)) ≤ 2 * levels_in ts
  members_depth none = omega arith
  members_depth (more t ts) = omega (arith, held_depth t, members_depth ts)

tag_depth : (t : Tree) → tree.depth (outline (json_of t)) ≤ 2 * levels t
tag_depth t = omega (arith, held_depth t)

pub text_reads : (t : Tree) → IsTag t → levels t ≤ 32 → read (compact_text (json_of t)) ≡ Some (json_of t)
text_reads t h shallow =
    let d = json_of t in
    let back = tag_back t h in
    let deep : tree.depth (outline d) ≤ 127 = omega (arith, tag_depth t) in
    let printed : tokens (compact_text d) ≡ json_tokens (outline d) = ap tokens (sym (print-outline d)) ∙ tokens-print (json_tokens (outline d)) (ArePrintable-json_tokens (outline d) back.numbers) in
    let value : json.value 127 (tokens (compact_text d)) ≡ Some (outline d, []) = ap (json.value 127) (printed ∙ sym (append-nil _)) ∙ value-json_tokens (outline d) 127 [] deep in
    ap (λ o. option_and_then of_json (option_and_then (λ p. json.if_last p.0 p.1) o)) value ∙ back.back

pub tag_reads : (rows : List CodeRow) (t : Tree) → IsReadable rows t → Reads rows (compact_text (json_of t)) t
tag_reads rows t h = record { value = text_reads t h.tag h.shallow; readable = h }

-- the text written for a tag is read as the tag
pub reads_of : {E : Type 0} (rows : List CodeRow) (t : Tree) (r : Result (List ℕ) E) → IfOk r (λ text. text ≡ compact_text (json_of t)) → OnOk r (IsTag t) → fits rows None t ≡ true → levels t ≤ 32
    → IfOk r (λ text. Reads rows text t)
reads_of rows t (Ok text) is tag fit shallow = subst (λ x. Reads rows x t) (sym is) (tag_reads rows t (record { tag = tag; fits = fit; shallow = shallow }))
reads_of rows t (Err e) is tag fit shallow = tt
