-- The members of an object determine its tag.
use Rattle.std.proofs.Common.{◌≡◌, ℕ, ℤ, pos, negsuc, true, false, if◌then◌else◌, List, [], Option, Some, None, MatchOption, codes, inl, inr, refl, sym, ap, ◌∙◌, subst}
use Rattle.std.proofs.lemmas.Bool.{cases_Bool, true≢false}
use Rattle.std.proofs.lemmas.Slice.Eq.{bytes_eq-Decides}
use Rattle.std.specs.Int.{w64}
use Rattle.std.specs.Int.RustNames.{FitsSigned}
use Rattle.std.specs.Str.{bytes_eq}
use Rattle.serde_json.specs.Data.{unsigned, negative, Data, number, string, array, Items}
use Rattle.serde_json.specs.Find.{of_integer}
use Rattle.dmap_tags.specs.Codes.{Four}
use Rattle.dmap_tags.specs.Kinds.{is_list}
use Rattle.dmap_tags.specs.Seen.{tree_with}
use Rattle.dmap_tags.specs.Tree.{Leaf, U8, I8, U16, I16, U32, I32, U64, I64, Text, Date, Version, Opaque, leaf}
use Rattle.dmap_tags.specs.Typed.{value_of}
use Rattle.dmap_tags.specs.declared.kinds.Kind.{Kind}
use Rattle.dmap_tags.specs.declared.kinds.Kind.TheVariants as kind
use Rattle.dmap_tags.specs.declared.tree.Value.{Value}
use Rattle.dmap_tags.specs.declared.tree.Value.TheVariants as value
use Rattle.code_table.specs.declared.row.CodeRow.{CodeRow}
use Rattle.code_table.specs.Fits.{fits}
use Rattle.code_table.specs.Rows.{kind_in}
use Rattle.dmap_show.proofs.EventLines.{leaf_with}
use Rattle.dmap_show.specs.Readable.{IsCode, IsValue}
use Rattle.dmap_show.specs.Shown.{leaf_word, shown_code}
use Rattle.dmap_json.specs.TagObject.{tag_object, json_leaf}
use Rattle.dmap_json.specs.Places.{IsLeafObject, IsListObject}
use Rattle.dmap_json.specs.Parts.{kind_word, kind_named, IsValueOf}
use Rattle.dmap_json.specs.Walk.{IsHeld, IsHead, IsListHeld, IsListHead, IsLeafHeld, IsLeafHead, HasNoObject}
use Rattle.dmap_json.specs.declared.head.Head.{Head}
use Rattle.dmap_json.specs.declared.head.Held.{Held}
use Rattle.dmap_json.specs.declared.head.Held.TheVariants as held
use Rattle.dmap_json.proofs.Hexed.{one_hex, one_code}

-- an object has one code, one kind and one value
pub same_parts : (a b k l : List ℕ) (d e : Data) → tag_object a k d ≡ tag_object b l e → (a ≡ b) × ((k ≡ l) × (d ≡ e))
same_parts a b k l d e same = (cc, (cc, cc))

-- a name has one kind, and a kind one name
step : (word name : List ℕ) (k j : Kind) (rest : Option Kind) → name ≡ kind_word j → (rest ≡ Some k → word ≡ kind_word k) → (if bytes_eq word name then Some j else rest) ≡ Some k → word ≡ kind_word k
step word name k j rest is later e = elim (cases_Bool (bytes_eq word name)) [
  | inl t ↦ (let f : Some j ≡ Some k = (rw t at e) in let same : j ≡ k = cc in (bytes_eq-Decides word name).0 t ∙ is ∙ ap kind_word same)
  | inr t ↦ (let f : rest ≡ Some k = (rw t at e) in later f)
]

no_word : (word : List ℕ) (k : Kind) → None ≡ Some k → word ≡ kind_word k
no_word word k e = absurd (cc)

pub named_word : (word : List ℕ) (k : Kind) → kind_named word ≡ Some k → word ≡ kind_word k
named_word word k e =
    step word (codes "u8") k kind.U8 _ refl (step word (codes "i8") k kind.I8 _ refl (step word (codes "u16") k kind.U16 _ refl
    (step word (codes "i16") k kind.I16 _ refl (step word (codes "u32") k kind.U32 _ refl (step word (codes "i32") k kind.I32 _ refl
    (step word (codes "u64") k kind.U64 _ refl (step word (codes "i64") k kind.I64 _ refl (step word (codes "text") k kind.Text _ refl
    (step word (codes "date") k kind.Date _ refl (step word (codes "version") k kind.Version _ refl (step word (codes "list") k kind.List _ refl
    (step word (codes "opaque") k kind.Opaque None refl (no_word word k))))))))))))) e

abbrev pub leaf_kind : Leaf → Kind
leaf_kind (U8 n) = kind.U8
leaf_kind (I8 z) = kind.I8
leaf_kind (U16 n) = kind.U16
leaf_kind (I16 z) = kind.I16
leaf_kind (U32 n) = kind.U32
leaf_kind (I32 z) = kind.I32
leaf_kind (U64 n) = kind.U64
leaf_kind (I64 z) = kind.I64
leaf_kind (Text bytes) = kind.Text
leaf_kind (Date n) = kind.Date
leaf_kind (Version n) = kind.Version
leaf_kind (Opaque bytes) = kind.Opaque

pub leaf_named : (l : Leaf) → kind_named (leaf_word l) ≡ Some (leaf_kind l)
leaf_named (U8 n) = refl
leaf_named (I8 z) = refl
leaf_named (U16 n) = refl
leaf_named (I16 z) = refl
leaf_named (U32 n) = refl
leaf_named (I32 z) = refl
leaf_named (U64 n) = refl
leaf_named (I64 z) = refl
leaf_named (Text bytes) = refl
leaf_named (Date n) = refl
leaf_named (Version n) = refl
leaf_named (Opaque bytes) = refl

word_of_leaf : (l : Leaf) → kind_word (leaf_kind l) ≡ leaf_word l
word_of_leaf (U8 n) = refl
word_of_leaf (I8 z) = refl
word_of_leaf (U16 n) = refl
word_of_leaf (I16 z) = refl
word_of_leaf (U32 n) = refl
word_of_leaf (I32 z) = refl
word_of_leaf (U64 n) = refl
word_of_leaf (I64 z) = refl
word_of_leaf (Text bytes) = refl
word_of_leaf (Date n) = refl
word_of_leaf (Version n) = refl
word_of_leaf (Opaque bytes) = refl

-- a leaf's kind is not the kind of lists
no_list_kind : (l : Leaf) → is_list (leaf_kind l) ≡ false
no_list_kind (U8 n) = refl
no_list_kind (I8 z) = refl
no_list_kind (U16 n) = refl
no_list_kind (I16 z) = refl
no_list_kind (U32 n) = refl
no_list_kind (I32 z) = refl
no_list_kind (U64 n) = refl
no_list_kind (I64 z) = refl
no_list_kind (Text bytes) = refl
no_list_kind (Date n) = refl
no_list_kind (Version n) = refl
no_list_kind (Opaque bytes) = refl

one_some : {j k : Kind} → Some j ≡ Some k → j ≡ k
one_some e = cc

pub leaf_no_list : (l : Leaf) → leaf_word l ≡ codes "list" → ⊥
leaf_no_list l same =
    let kinds : leaf_kind l ≡ kind.List = one_some (sym (leaf_named l) ∙ ap kind_named same) in
    true≢false (sym (ap is_list kinds) ∙ no_list_kind l)

-- a leaf's JSON value is its value under its kind
pub value_of_leaf : (l : Leaf) → IsValue l → IsValueOf (leaf_kind l) (json_leaf l) (value_of l)
value_of_leaf (U8 n) h = (n, (h, (refl, refl)))
value_of_leaf (I8 z) h = (z, (h, (refl, refl)))
value_of_leaf (U16 n) h = (n, (h, (refl, refl)))
value_of_leaf (I16 z) h = (z, (h, (refl, refl)))
value_of_leaf (U32 n) h = (n, (h, (refl, refl)))
value_of_leaf (I32 z) h = (z, (h, (refl, refl)))
value_of_leaf (U64 n) h = (n, (h, (refl, refl)))
value_of_leaf (I64 z) h = (z, (h, (refl, refl)))
value_of_leaf (Text bytes) h = (bytes, (h, (refl, refl)))
value_of_leaf (Date n) h = (n, (h, (refl, refl)))
value_of_leaf (Version n) h = (n, (h, (refl, refl)))
value_of_leaf (Opaque bytes) h = (bytes, (h, (refl, refl)))

-- the converse
pub record IsLeafOf (k : Kind) (d : Data) (v : Value) : Type 0 where
  pub l : Leaf
  pub value_is : v ≡ value_of l
  pub proper : IsValue l
  pub kind_is : k ≡ leaf_kind l
  pub json_is : d ≡ json_leaf l

pub leaf_of_value : (k : Kind) (d : Data) (v : Value) → IsValueOf k d v → IsLeafOf k d v
leaf_of_value kind.U8 d v h = record { l = U8 h.0; value_is = h.1.1.1; proper = h.1.0; kind_is = refl; json_is = h.1.1.0 }
leaf_of_value kind.I8 d v h = record { l = I8 h.0; value_is = h.1.1.1; proper = h.1.0; kind_is = refl; json_is = h.1.1.0 }
leaf_of_value kind.U16 d v h = record { l = U16 h.0; value_is = h.1.1.1; proper = h.1.0; kind_is = refl; json_is = h.1.1.0 }
leaf_of_value kind.I16 d v h = record { l = I16 h.0; value_is = h.1.1.1; proper = h.1.0; kind_is = refl; json_is = h.1.1.0 }
leaf_of_value kind.U32 d v h = record { l = U32 h.0; value_is = h.1.1.1; proper = h.1.0; kind_is = refl; json_is = h.1.1.0 }
leaf_of_value kind.I32 d v h = record { l = I32 h.0; value_is = h.1.1.1; proper = h.1.0; kind_is = refl; json_is = h.1.1.0 }
leaf_of_value kind.U64 d v h = record { l = U64 h.0; value_is = h.1.1.1; proper = h.1.0; kind_is = refl; json_is = h.1.1.0 }
leaf_of_value kind.I64 d v h = record { l = I64 h.0; value_is = h.1.1.1; proper = h.1.0; kind_is = refl; json_is = h.1.1.0 }
leaf_of_value kind.Text d v h = record { l = Text h.0; value_is = h.1.1.1; proper = h.1.0; kind_is = refl; json_is = h.1.1.0 }
leaf_of_value kind.Date d v h = record { l = Date h.0; value_is = h.1.1.1; proper = h.1.0; kind_is = refl; json_is = h.1.1.0 }
leaf_of_value kind.Version d v h = record { l = Version h.0; value_is = h.1.1.1; proper = h.1.0; kind_is = refl; json_is = h.1.1.0 }
leaf_of_value kind.List d v h = absurd h
leaf_of_value kind.Opaque d v h = record { l = Opaque h.0; value_is = h.1.1.1; proper = h.1.0; kind_is = refl; json_is = h.1.1.0 }

-- under one kind a JSON value is one value
abbrev integer_of : Data → ℤ
integer_of (number (unsigned n)) = pos n
integer_of (number (negative z)) = z
integer_of _ = pos 0

integer_again : (z : ℤ) → integer_of (number (of_integer z)) ≡ z
integer_again (pos n) = refl
integer_again (negsuc n) = refl

abbrev natural_of : Data → ℕ
natural_of (number (unsigned n)) = n
natural_of _ = 0

abbrev bytes_of : Data → List ℕ
bytes_of (string bytes) = bytes
bytes_of _ = []

one_natural : (d : Data) (n m : ℕ) → d ≡ number (unsigned n) → d ≡ number (unsigned m) → n ≡ m
one_natural d n m e f = ap natural_of (sym e ∙ f)

one_integer : (d : Data) (y z : ℤ) → d ≡ number (of_integer y) → d ≡ number (of_integer z) → y ≡ z
one_integer d y z e f = sym (integer_again y) ∙ ap integer_of (sym e ∙ f) ∙ integer_again z

pub one_value : (k : Kind) (d : Data) (v w : Value) → IsValueOf k d v → IsValueOf k d w → v ≡ w
one_value kind.U8 d v w g h = g.1.1.1 ∙ ap value.U8 (one_natural d g.0 h.0 g.1.1.0 h.1.1.0) ∙ sym h.1.1.1
one_value kind.I8 d v w g h = g.1.1.1 ∙ ap value.I8 (one_integer d g.0 h.0 g.1.1.0 h.1.1.0) ∙ sym h.1.1.1
one_value kind.U16 d v w g h = g.1.1.1 ∙ ap value.U16 (one_natural d g.0 h.0 g.1.1.0 h.1.1.0) ∙ sym h.1.1.1
one_value kind.I16 d v w g h = g.1.1.1 ∙ ap value.I16 (one_integer d g.0 h.0 g.1.1.0 h.1.1.0) ∙ sym h.1.1.1
one_value kind.U32 d v w g h = g.1.1.1 ∙ ap value.U32 (one_natural d g.0 h.0 g.1.1.0 h.1.1.0) ∙ sym h.1.1.1
one_value kind.I32 d v w g h = g.1.1.1 ∙ ap value.I32 (one_integer d g.0 h.0 g.1.1.0 h.1.1.0) ∙ sym h.1.1.1
one_value kind.U64 d v w g h = g.1.1.1 ∙ ap value.U64 (one_natural d g.0 h.0 g.1.1.0 h.1.1.0) ∙ sym h.1.1.1
one_value kind.I64 d v w g h = g.1.1.1 ∙ ap value.I64 (one_integer d g.0 h.0 g.1.1.0 h.1.1.0) ∙ sym h.1.1.1
one_value kind.Text d v w g h = g.1.1.1 ∙ ap value.Text (ap bytes_of (sym g.1.1.0 ∙ h.1.1.0)) ∙ sym h.1.1.1
one_value kind.Date d v w g h = g.1.1.1 ∙ ap value.Date (one_natural d g.0 h.0 g.1.1.0 h.1.1.0) ∙ sym h.1.1.1
one_value kind.Version d v w g h = g.1.1.1 ∙ ap value.Version (one_natural d g.0 h.0 g.1.1.0 h.1.1.0) ∙ sym h.1.1.1
one_value kind.List d v w g h = absurd g
one_value kind.Opaque d v w g h = g.1.1.1 ∙ ap value.Opaque (one_hex g.0 h.0 g.1.0 h.1.0 (ap bytes_of (sym g.1.1.0 ∙ h.1.1.0))) ∙ sym h.1.1.1

-- two leaves with the same kind and JSON value are equal
pub one_leaf : (l m : Leaf) → IsValue l → IsValue m → leaf_word l ≡ leaf_word m → json_leaf l ≡ json_leaf m → l ≡ m
one_leaf l m g h words values =
    let kinds : leaf_kind l ≡ leaf_kind m = one_some (sym (leaf_named l) ∙ ap kind_named words ∙ leaf_named m) in
    let first : IsValueOf (leaf_kind m) (json_leaf m) (value_of l) =
    subst (λ k. IsValueOf k (json_leaf m) (value_of l)) kinds (subst (λ d. IsValueOf (leaf_kind l) d (value_of l)) values (value_of_leaf l g)) in
    let same : value_of l ≡ value_of m = one_value (leaf_kind m) (json_leaf m) (value_of l) (value_of m) first (value_of_leaf m h) in
    let trees : leaf (0, 0, 0, 0) l ≡ leaf (0, 0, 0, 0) m = sym (leaf_with (0, 0, 0, 0) l) ∙ ap (tree_with (0, 0, 0, 0)) same ∙ leaf_with (0, 0, 0, 0) m in
    cc

module _ (rows : List CodeRow) (parent : Option Four) (d : Data) where
  pub no_object : ((code word : List ℕ) (value : Data) → d ≡ tag_object code word value → ⊥) → HasNoObject rows parent d
  no_object none = record {
    no_leaf = λ c l h. none (shown_code c) (leaf_word l) (json_leaf l) h.object;
    no_list = λ c ds h. none (shown_code c) (codes "list") (array ds) h.object;
  }

  module _ (code word : List ℕ) (value : Data) (is : d ≡ tag_object code word value) where
    leaf_parts : (c : Four) (l : Leaf) → IsLeafObject rows parent d c l → (code ≡ shown_code c) × ((word ≡ leaf_word l) × (value ≡ json_leaf l))
    leaf_parts c l h = same_parts code (shown_code c) word (leaf_word l) value (json_leaf l) (sym is ∙ h.object)

    list_parts : (c : Four) (ds : Items) → IsListObject rows parent d c ds → (code ≡ shown_code c) × ((word ≡ codes "list") × (value ≡ array ds))
    list_parts c ds h = same_parts code (shown_code c) word (codes "list") value (array ds) (sym is ∙ h.object)

    pub no_code : ((c : Four) → IsCode c → code ≡ shown_code c → ⊥) → HasNoObject rows parent d
    no_code none = record {
      no_leaf = λ c l h. none c h.tag.0 (leaf_parts c l h).0;
      no_list = λ c ds h. none c h.bytes (list_parts c ds h).0;
    }

    some_none : {k : Kind} → Some k ≡ None → ⊥
    some_none e = cc

    pub no_kind : kind_named word ≡ None → HasNoObject rows parent d
    no_kind none = record {
      no_leaf = λ c l h. some_none (sym (leaf_named l) ∙ ap kind_named (sym (leaf_parts c l h).1.0) ∙ none);
      no_list = λ c ds h. some_none (ap kind_named (sym (list_parts c ds h).1.0) ∙ none);
    }

    module _ (c : Four) (bytes : IsCode c) (shown : code ≡ shown_code c) where
      leaf_code : (b : Four) (l : Leaf) → IsLeafObject rows parent d b l → b ≡ c
      leaf_code b l h = one_code b c h.tag.0 bytes (sym (leaf_parts b l h).0 ∙ shown)

      list_code : (b : Four) (ds : Items) → IsListObject rows parent d b ds → b ≡ c
      list_code b ds h = one_code b c h.bytes bytes (sym (list_parts b ds h).0 ∙ shown)

      list_held : kind_named word ≡ Some kind.List → is_list (kind_in rows parent c) ≡ true → (h : Held) → IsListHeld value h → IsHeld rows parent d c h
      list_held named fits (held.Leaf v) h = absurd h
      list_held named fits (held.List items) h = record {
        bytes = bytes;
        fits = fits;
        object = is ∙ ap (λ x. tag_object x word value) shown ∙ ap (λ x. tag_object (shown_code c) x value) (named_word word kind.List named) ∙ ap (tag_object (shown_code c) (codes "list")) h;
      }

      pub list_case : kind_named word ≡ Some kind.List → (r : Option Head)
          → MatchOption r (is_list (kind_in rows parent c) ≡ true → (ds : Items) → value ≡ array ds → ⊥) (λ head. (is_list (kind_in rows parent c) ≡ true) × IsListHead c value head)
          → MatchOption r (HasNoObject rows parent d) (λ head. IsHead rows parent d head)
      list_case named None none = record {
        no_leaf = λ b l h. leaf_no_list l (sym (leaf_parts b l h).1.0 ∙ named_word word kind.List named);
        no_list = λ b ds h. none (subst (λ x. is_list (kind_in rows parent x) ≡ true) (list_code b ds h) h.fits) ds (list_parts b ds h).1.1;
      }
      list_case named (Some head) h = subst (λ x. IsHeld rows parent d x head.held) (sym h.1.0) (list_held named h.0 head.held h.1.1)

      leaf_held : (k : Kind) → kind_named word ≡ Some k → (h : Held) → IsLeafHeld rows parent c k value h → IsHeld rows parent d c h
      leaf_held k named (held.List items) h = absurd h
      leaf_held k named (held.Leaf v) h =
          let leaf_is = leaf_of_value k value v h.0 in
          let tree : tree_with c v ≡ leaf c leaf_is.l = ap (tree_with c) leaf_is.value_is ∙ leaf_with c leaf_is.l in
          let word_is : word ≡ leaf_word leaf_is.l = named_word word k named ∙ ap kind_word leaf_is.kind_is ∙ word_of_leaf leaf_is.l in (
            leaf_is.l,
            (
              leaf_is.value_is,
              record {
                tag = (bytes, leaf_is.proper);
                fits = ap (fits rows parent) (sym tree) ∙ h.1;
                object = is ∙ ap (λ x. tag_object x word value) shown ∙ ap (λ x. tag_object (shown_code c) x value) word_is ∙ ap (tag_object (shown_code c) (leaf_word leaf_is.l)) leaf_is.json_is;
              },
            ),
          )

      pub leaf_case : (k : Kind) → kind_named word ≡ Some k → (k ≡ kind.List → ⊥) → (r : Option Head)
          → MatchOption r ((v : Value) → IsValueOf k value v → fits rows parent (tree_with c v) ≡ true → ⊥) (λ head. IsLeafHead rows parent c k value head)
          → MatchOption r (HasNoObject rows parent d) (λ head. IsHead rows parent d head)
      leaf_case k named other None none = record {
        no_leaf = λ b l h.
            let parts = leaf_parts b l h in
            let kinds : leaf_kind l ≡ k = one_some (sym (leaf_named l) ∙ ap kind_named (sym parts.1.0) ∙ named) in
            let value_is : IsValueOf k value (value_of l) =
            subst (λ x. IsValueOf x value (value_of l)) kinds (subst (λ x. IsValueOf (leaf_kind l) x (value_of l)) (sym parts.1.1) (value_of_leaf l h.tag.1)) in
            none (value_of l) value_is (ap (fits rows parent) (leaf_with c l) ∙ ap (λ x. fits rows parent (leaf x l)) (sym (leaf_code b l h)) ∙ h.fits);
        no_list = λ b ds h. other (one_some (sym named ∙ ap kind_named (list_parts b ds h).1.0));
      }
      leaf_case k named other (Some head) h = subst (λ x. IsHeld rows parent d x head.held) (sym h.0) (leaf_held k named head.held h.1)

-- whole numbers below 0
pub signed_case : (d : Data) (r : Option ℤ) → ((n : ℕ) → d ≡ number (unsigned n) → ⊥)
    → MatchOption r ((n : ℕ) → d ≡ number (negative (negsuc n)) → ⊥) (λ z. d ≡ number (of_integer z))
    → MatchOption r ((z : ℤ) → FitsSigned w64 z → d ≡ number (of_integer z) → ⊥) (λ z. d ≡ number (of_integer z))
signed_case d None natural below = no_integer
  where
    no_integer : (z : ℤ) → FitsSigned w64 z → d ≡ number (of_integer z) → ⊥
    no_integer (pos n) h e = natural n e
    no_integer (negsuc n) h e = below n e
signed_case d (Some z) natural h = h
