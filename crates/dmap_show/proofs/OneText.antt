-- A text shows at most one list of tags.
use Rattle.std.proofs.Common.{◌≡◌, ℕ, zero, suc, ◌+◌, ◌*◌, ◌/◌, ◌%◌, ◌<◌, ◌≤◌, ◌^◌, true, false, ◌||◌, ◌==◌, nat_lt, if◌then◌else◌, List, [], ◌∷◌, ◌++◌, length, flat_map, decimal, inl, inr, refl, sym, ap, ap₂, ◌∙◌, subst, arith, append_assoc, append-nil}
use Rattle.std.proofs.lemmas.Bool.{eqb-true, cases_Bool, true≢false}
use Rattle.std.proofs.lemmas.Fmt.{decimal_is_IsNumeral}
use Rattle.std.proofs.lemmas.List.{append_cancel_right}
use Rattle.std.proofs.lemmas.Str.{digit_value-digit_char}
use Rattle.std.specs.Char.{digit_char, digit_value, is_ascii_graphic}
use Rattle.std.specs.Fmt.{signed_decimal}
use Rattle.std.specs.Int.RustNames.{FitsSigned}
use Rattle.std.specs.Int.{w64}
use Rattle.std.specs.List.{list_all, AllByRecursion}
use Rattle.std.specs.Str.{is_utf8}
use Rattle.std.specs.Str.Parse.{digits_value}
use lib.IntN.{ℤ, pos, negsuc}
use Rattle.dmap_tags.specs.Codes.{Four, code_of, code_bytes}
use Rattle.dmap_tags.specs.Tree.{Tree, leaf, list, Trees, none, more, trees_of, tree_list, tree_code}
use Rattle.dmap_tags.specs.Seen.{tree_with}
use Rattle.dmap_tags.specs.declared.kinds.Kind.{Kind}
use Rattle.dmap_tags.specs.declared.kinds.Kind.TheVariants as kind
use Rattle.dmap_tags.specs.declared.tree.Value.{Value}
use Rattle.dmap_tags.specs.declared.tree.Value.TheVariants as value
use Rattle.code_table.specs.declared.row.CodeRow.{CodeRow}
use Rattle.dmap_show.specs.Shown.{indent, hex, escaped, quoted, dotted, shown_code, word_of, space_of, text_of, shown_tag, shown_tags}
use Rattle.dmap_show.specs.Readable.{AreBytes, IsCode, IsTag, AreTags, IsReadable, Shows}
use Rattle.dmap_show.specs.TextLines.{before, behind, has}
use Rattle.dmap_show.specs.Parts.{bare_line, head_of, IsHead, head_value, pairs_in_front, kind_named, Spells}
use Rattle.dmap_show.proofs.Remaining.{utf8_bytes}
use Rattle.dmap_show.proofs.Taken.{before_mark, behind_mark, has_mark, decimal_has, line_has, pairs_line, parts_of, head_spells, head_code, head_with, version_parts}

-- a number has one decimal, and so has one with a sign
one_decimal : (n m : ℕ) → n < 2 ^ 64 → m < 2 ^ 64 → decimal n ≡ decimal m → n ≡ m
one_decimal n m small other same = sym (decimal_is_IsNumeral n small).1 ∙ ap (digits_value 10) same ∙ (decimal_is_IsNumeral m other).1

no_sign : (n m : ℕ) → n < 2 ^ 64 → decimal n ≡ 45 ∷ decimal m → ⊥
no_sign n m small same = true≢false (sym (ap (has 45) same) ∙ decimal_has 45 n (omega arith) small)

second : {x y : ℕ} {xs ys : List ℕ} → x ∷ xs ≡ y ∷ ys → xs ≡ ys
second same = cc

one_signed : (y z : ℤ) → FitsSigned w64 y → FitsSigned w64 z → signed_decimal y ≡ signed_decimal z → y ≡ z
one_signed (pos n) (pos m) small other same = ap pos (one_decimal n m (let k = small.sfits in omega arith) (let k = other.sfits in omega arith) same)
one_signed (pos n) (negsuc m) small other same = absurd (no_sign n (suc m) (let k = small.sfits in omega arith) same)
one_signed (negsuc n) (pos m) small other same = absurd (no_sign m (suc n) (let k = other.sfits in omega arith) (sym same))
one_signed (negsuc n) (negsuc m) small other same =
    let tails : suc n ≡ suc m = one_decimal (suc n) (suc m) (let k = small.sfits in omega arith) (let k = other.sfits in omega arith) (second same) in
    ap negsuc (omega arith)

-- a version has one text
one_dotted : (n m : ℕ) → n < 2 ^ 32 → m < 2 ^ 32 → dotted n ≡ dotted m → n ≡ m
one_dotted n m small other same =
    let a = version_parts n (dotted n) small refl in
    let b = version_parts m (dotted n) other same in
    let major : n / 65536 ≡ m / 65536 = one_decimal _ _ (omega arith) (omega arith) (sym a.major ∙ b.major) in
    let minor : n / 256 % 256 ≡ m / 256 % 256 = one_decimal _ _ (omega arith) (omega arith) (sym a.minor ∙ b.minor) in
    let patch : n % 256 ≡ m % 256 = one_decimal _ _ (omega arith) (omega arith) (sym a.patch ∙ b.patch) in
    omega arith

-- the first byte of a text, and the text after it
abbrev Front : Type 0
Front = ℕ × List ℕ

-- a byte is read off what it is shown as
record ReadsBack (piece : ℕ → List ℕ) : Type 0 where
  read : List ℕ → Front
  back : (b : ℕ) (later : List ℕ) → b < 256 → read (piece b ++ later) ≡ (b, later)
  some : (b : ℕ) (later : List ℕ) → piece b ++ later ≡ [] → ⊥

-- bytes have one text then
one_row : (piece : ℕ → List ℕ) → ReadsBack piece → (xs ys : List ℕ) → AreBytes xs → AreBytes ys → flat_map piece xs ≡ flat_map piece ys → xs ≡ ys
one_row piece reads [] [] small other same = refl
one_row piece reads [] (y ∷ ys) small other same = absurd (reads.some y (flat_map piece ys) (sym same))
one_row piece reads (x ∷ xs) [] small other same = absurd (reads.some x (flat_map piece xs) same)
one_row piece reads (x ∷ xs) (y ∷ ys) small other same =
    let fronts : (x, flat_map piece xs) ≡ (y, flat_map piece ys) = sym (reads.back x (flat_map piece xs) small.0) ∙ ap reads.read same ∙ reads.back y (flat_map piece ys) other.0 in
    ap₂ (λ (b : ℕ) (bs : List ℕ). b ∷ bs) (ap (λ (f : Front). f.0) fronts) (one_row piece reads xs ys small.1 other.1 (ap (λ (f : Front). f.1) fronts))

abbrev read_hex : List ℕ → Front
read_hex [] = (0, [])
read_hex (h ∷ []) = (0, [])
read_hex (h ∷ l ∷ later) = (digit_value h * 16 + digit_value l, later)

hex_back : (b : ℕ) (later : List ℕ) → b < 256 → read_hex (hex b ++ later) ≡ (b, later)
hex_back b later small =
    let high : digit_value (digit_char (b / 16)) ≡ b / 16 = digit_value-digit_char (b / 16) (omega arith) in
    let low : digit_value (digit_char (b % 16)) ≡ b % 16 = digit_value-digit_char (b % 16) (omega arith) in
    let whole : digit_value (digit_char (b / 16)) * 16 + digit_value (digit_char (b % 16)) ≡ b = omega arith in
    ap (λ n. (n, later)) whole

hex_reads : ReadsBack hex
hex_reads = record { read = read_hex; back = hex_back; some = λ b later same. absurd (cc) }

abbrev read_marked : List ℕ → Front
read_marked [] = (0, [])
read_marked (b ∷ later) = if b == 120 then read_hex later else (b, later)

abbrev read_escaped : List ℕ → Front
read_escaped [] = (0, [])
read_escaped (b ∷ later) = if b == 92 then read_marked later else (b, later)

escaped_back : (b : ℕ) (later : List ℕ) → b < 256 → read_escaped (escaped b ++ later) ≡ (b, later)
escaped_back b later small = elim (cases_Bool (b == 34)) [
  | inl e ↦ rw e (ap (λ n. (n, later)) (sym (eqb-true b 34 e)))
  | inr e ↦ rw e (elim (cases_Bool (b == 92)) [
    | inl f ↦ rw f (ap (λ n. (n, later)) (sym (eqb-true b 92 f)))
    | inr f ↦ rw f (elim (cases_Bool (nat_lt b 32 || (b == 127))) [
      | inl g ↦ rw g (hex_back b later small)
      | inr g ↦ rw (g, f) refl
    ])
  ])
]

escaped_some : (b : ℕ) (later : List ℕ) → escaped b ++ later ≡ [] → ⊥
escaped_some b later same = elim (cases_Bool (b == 34)) [
  | inl e ↦ absurd (let k = (rw e at same) in cc)
  | inr e ↦ elim (cases_Bool (b == 92)) [
    | inl f ↦ absurd (let k = (rw (e, f) at same) in cc)
    | inr f ↦ elim (cases_Bool (nat_lt b 32 || (b == 127))) [
      | inl g ↦ absurd (let k = (rw (e, f, g) at same) in cc)
      | inr g ↦ absurd (let k = (rw (e, f, g) at same) in cc)
    ]
  ]
]

escaped_reads : ReadsBack escaped
escaped_reads = record { read = read_escaped; back = escaped_back; some = escaped_some }

one_quoted : (xs ys : List ℕ) → is_utf8 xs ≡ true → is_utf8 ys ≡ true → quoted xs ≡ quoted ys → xs ≡ ys
one_quoted xs ys text other same =
    one_row escaped escaped_reads xs ys (utf8_bytes xs text) (utf8_bytes ys other)
    (append_cancel_right (flat_map escaped xs) (flat_map escaped ys) (34 ∷ []) (second same))

-- a code has one text
code_are_bytes : (c : Four) → IsCode c → AreBytes (code_bytes c)
code_are_bytes c h = (h.0, (h.1.0, (h.1.1.0, (h.1.1.1, tt))))

one_code : (c d : Four) → IsCode c → IsCode d → shown_code c ≡ shown_code d → c ≡ d
one_code c d h k same = elim (cases_Bool (list_all is_ascii_graphic (code_bytes c))) [
  | inl e ↦ elim (cases_Bool (list_all is_ascii_graphic (code_bytes d))) [
    | inl f ↦ (let bytes : code_bytes c ≡ code_bytes d = (rw (e, f) at same) in ap code_of bytes)
    | inr f ↦ absurd (let bytes : code_bytes c ≡ 120 ∷ flat_map hex (code_bytes d) = (rw (e, f) at same) in let count : 4 ≡ 9 = ap length bytes in omega arith)
  ]
  | inr e ↦ elim (cases_Bool (list_all is_ascii_graphic (code_bytes d))) [
    | inl f ↦ absurd (let bytes : 120 ∷ flat_map hex (code_bytes c) ≡ code_bytes d = (rw (e, f) at same) in let count : 9 ≡ 4 = ap length bytes in omega arith)
    | inr f ↦ (let bytes : 120 ∷ flat_map hex (code_bytes c) ≡ 120 ∷ flat_map hex (code_bytes d) = (rw (e, f) at same) in
        ap code_of (one_row hex hex_reads (code_bytes c) (code_bytes d) (code_are_bytes c h) (code_are_bytes d k) (second bytes)))
  ]
]

-- under one kind a text shows one value
one_value : (k : Kind) (text : List ℕ) (v w : Value) → Spells k text v → Spells k text w → v ≡ w
one_value kind.U8 text v w h k = h.1.1.1 ∙ ap value.U8 (one_decimal h.0 k.0 (let a = h.1.0 in omega arith) (let b = k.1.0 in omega arith) (sym h.1.1.0 ∙ k.1.1.0)) ∙ sym k.1.1.1
one_value kind.I8 text v w h k = h.1.1.1 ∙ ap value.I8 (one_signed h.0 k.0 (record { sfits = let a = h.1.0.sfits in omega arith }) (record { sfits = let b = k.1.0.sfits in omega arith }) (sym h.1.1.0 ∙ k.1.1.0)) ∙ sym k.1.1.1
one_value kind.U16 text v w h k = h.1.1.1 ∙ ap value.U16 (one_decimal h.0 k.0 (let a = h.1.0 in omega arith) (let b = k.1.0 in omega arith) (sym h.1.1.0 ∙ k.1.1.0)) ∙ sym k.1.1.1
one_value kind.I16 text v w h k = h.1.1.1 ∙ ap value.I16 (one_signed h.0 k.0 (record { sfits = let a = h.1.0.sfits in omega arith }) (record { sfits = let b = k.1.0.sfits in omega arith }) (sym h.1.1.0 ∙ k.1.1.0)) ∙ sym k.1.1.1
one_value kind.U32 text v w h k = h.1.1.1 ∙ ap value.U32 (one_decimal h.0 k.0 (let a = h.1.0 in omega arith) (let b = k.1.0 in omega arith) (sym h.1.1.0 ∙ k.1.1.0)) ∙ sym k.1.1.1
one_value kind.I32 text v w h k = h.1.1.1 ∙ ap value.I32 (one_signed h.0 k.0 (record { sfits = let a = h.1.0.sfits in omega arith }) (record { sfits = let b = k.1.0.sfits in omega arith }) (sym h.1.1.0 ∙ k.1.1.0)) ∙ sym k.1.1.1
one_value kind.U64 text v w h k = h.1.1.1 ∙ ap value.U64 (one_decimal h.0 k.0 h.1.0 k.1.0 (sym h.1.1.0 ∙ k.1.1.0)) ∙ sym k.1.1.1
one_value kind.I64 text v w h k = h.1.1.1 ∙ ap value.I64 (one_signed h.0 k.0 h.1.0 k.1.0 (sym h.1.1.0 ∙ k.1.1.0)) ∙ sym k.1.1.1
one_value kind.Text text v w h k = h.1.1.1 ∙ ap value.Text (one_quoted h.0 k.0 h.1.0 k.1.0 (sym h.1.1.0 ∙ k.1.1.0)) ∙ sym k.1.1.1
one_value kind.Date text v w h k = h.1.1.1 ∙ ap value.Date (one_decimal h.0 k.0 (let a = h.1.0 in omega arith) (let b = k.1.0 in omega arith) (sym h.1.1.0 ∙ k.1.1.0)) ∙ sym k.1.1.1
one_value kind.Version text v w h k = h.1.1.1 ∙ ap value.Version (one_dotted h.0 k.0 h.1.0 k.1.0 (sym h.1.1.0 ∙ k.1.1.0)) ∙ sym k.1.1.1
one_value kind.List text v w h k = h ∙ sym k
one_value kind.Opaque text v w h k = h.1.1.1 ∙ ap value.Opaque (one_row hex hex_reads h.0 k.0 h.1.0 k.1.0 (second (sym h.1.1.0 ∙ k.1.1.0))) ∙ sym k.1.1.1

-- a line shows one tag, but for what is in it
one_head : (n m : ℕ) (t u : Tree) → IsHead t → IsHead u → bare_line n t ≡ bare_line m u → head_of t ≡ head_of u
one_head n m t u h k same =
    let a = parts_of n t (bare_line n t) refl in
    let b = parts_of m u (bare_line n t) same in
    let code = one_code (tree_code t) (tree_code u) (head_code t h) (head_code u k) (sym a.code ∙ b.code) in
    let spells = subst (λ x. Spells x (text_of u) (head_value t)) (ap kind_named (sym a.word ∙ b.word))
    (subst (λ x. Spells (kind_named (word_of t)) x (head_value t)) (sym a.text ∙ b.text) (head_spells t h)) in
    let values = one_value (kind_named (word_of u)) (text_of u) (head_value t) (head_value u) spells (head_spells u k) in
    sym (head_with t) ∙ ap₂ tree_with code values ∙ head_with u

head_tag : (t : Tree) → IsTag t → IsHead t
head_tag (leaf c l) h = h
head_tag (list c ts) h = h.0

-- the lines below that of the tag itself
abbrev inner : ℕ → Tree → List ℕ
inner level (leaf c l) = []
inner level (list c ts) = shown_tags (suc level) ts

tag_line : (level : ℕ) (t : Tree) → shown_tag level t ≡ bare_line level t ++ 10 ∷ inner level t
tag_line level (leaf c l) = refl
tag_line level (list c ts) = append_assoc (bare_line level (list c ts)) (10 ∷ []) (shown_tags (suc level) ts)

on_line : (level : ℕ) (t : Tree) (x : List ℕ) → shown_tag level t ++ x ≡ bare_line level t ++ 10 ∷ (inner level t ++ x)
on_line level t x = ap (λ s. s ++ x) (tag_line level t) ∙ append_assoc (bare_line level t) (10 ∷ inner level t) x

one_line : (level : ℕ) (t u : Tree) (x y : List ℕ) → IsTag t → IsTag u → shown_tag level t ++ x ≡ shown_tag level u ++ y →
    (head_of t ≡ head_of u) × (inner level t ++ x ≡ inner level u ++ y)
one_line level t u x y h k same =
    let lines = sym (on_line level t x) ∙ same ∙ on_line level u y in
    let free = line_has level t (head_tag t h) in
    let other = line_has level u (head_tag u k) in (
      one_head level level t u (head_tag t h) (head_tag u k)
          (sym (before_mark 10 (bare_line level t) (inner level t ++ x) free) ∙ ap (before 10) lines ∙ before_mark 10 (bare_line level u) (inner level u ++ y) other),
      sym (behind_mark 10 (bare_line level t) (inner level t ++ x) free) ∙ ap (behind 10) lines ∙ behind_mark 10 (bare_line level u) (inner level u ++ y) other,
    )

-- what follows a list's members begins no deeper than the list
pairs_tag : (level : ℕ) (t : Tree) (x : List ℕ) → pairs_in_front (shown_tag level t ++ x) ≡ level
pairs_tag level t x = ap pairs_in_front (on_line level t x) ∙ pairs_line level t (10 ∷ (inner level t ++ x))

pairs_rest : (level : ℕ) (ts : Trees) (x : List ℕ) → pairs_in_front x ≤ level → pairs_in_front (shown_tags level ts ++ x) ≤ level
pairs_rest level none x low = low
pairs_rest level (more t ts) x low =
    let same = ap pairs_in_front (append_assoc (shown_tag level t) (shown_tags level ts) x) ∙ pairs_tag level t (shown_tags level ts ++ x) in
    omega arith

no_members : (level : ℕ) (u : Tree) (us : Trees) (x y : List ℕ) → pairs_in_front x ≤ level → x ≡ shown_tags (suc level) (more u us) ++ y → ⊥
no_members level u us x y low same =
    let deep : pairs_in_front x ≡ suc level = ap pairs_in_front (same ∙ append_assoc (shown_tag (suc level) u) (shown_tags (suc level) us) y) ∙ pairs_tag (suc level) u (shown_tags (suc level) us ++ y) in
    absurd (omega arith)

mutual
  one_tag : (level : ℕ) (t u : Tree) (x y : List ℕ) → IsTag t → IsTag u → pairs_in_front x ≤ level → pairs_in_front y ≤ level →
      shown_tag level t ++ x ≡ shown_tag level u ++ y → (t ≡ u) × (x ≡ y)
  one_tag level (leaf c l) (leaf d m) x y h k low lower same = one_line level (leaf c l) (leaf d m) x y h k same
  one_tag level (leaf c l) (list d us) x y h k low lower same = absurd (let line = one_line level (leaf c l) (list d us) x y h k same in let no = line.0 in cc)
  one_tag level (list c ts) (leaf d m) x y h k low lower same = absurd (let line = one_line level (list c ts) (leaf d m) x y h k same in let no = line.0 in cc)
  one_tag level (list c ts) (list d us) x y h k low lower same =
      let line = one_line level (list c ts) (list d us) x y h k same in
      let members = one_rest level ts us x y h.1 k.1 low lower line.1 in
      (ap₂ list (ap tree_code line.0) members.0, members.1)

  one_rest : (level : ℕ) (ts us : Trees) (x y : List ℕ) → AreTags ts → AreTags us → pairs_in_front x ≤ level → pairs_in_front y ≤ level →
      shown_tags (suc level) ts ++ x ≡ shown_tags (suc level) us ++ y → (ts ≡ us) × (x ≡ y)
  one_rest level none none x y h k low lower same = (refl, same)
  one_rest level none (more u us) x y h k low lower same = absurd (no_members level u us x y low same)
  one_rest level (more t ts) none x y h k low lower same = absurd (no_members level t ts y x lower (sym same))
  one_rest level (more t ts) (more u us) x y h k low lower same =
      let tags = one_tag (suc level) t u (shown_tags (suc level) ts ++ x) (shown_tags (suc level) us ++ y) h.0 k.0
      (pairs_rest (suc level) ts x (omega arith)) (pairs_rest (suc level) us y (omega arith))
      (sym (append_assoc (shown_tag (suc level) t) (shown_tags (suc level) ts) x) ∙ same ∙ append_assoc (shown_tag (suc level) u) (shown_tags (suc level) us) y) in
      let others = one_rest level ts us x y h.1 k.1 low lower tags.1 in
      (ap₂ more tags.0 others.0, others.1)

no_lines : (u : Tree) (us : Trees) → [] ≡ shown_tags 0 (more u us) → ⊥
no_lines u us same =
    true≢false (sym (has_mark 10 (bare_line 0 u) (inner 0 u ++ shown_tags 0 us)) ∙ ap (has 10) (sym (on_line 0 u (shown_tags 0 us)) ∙ sym same))

at_top : (ts : Trees) → pairs_in_front (shown_tags 0 ts) ≤ 0
at_top none = omega arith
at_top (more t ts) = let same = pairs_tag 0 t (shown_tags 0 ts) in omega arith

one_top : (ts us : Trees) → AreTags ts → AreTags us → shown_tags 0 ts ≡ shown_tags 0 us → ts ≡ us
one_top none none h k same = refl
one_top none (more u us) h k same = absurd (no_lines u us same)
one_top (more t ts) none h k same = absurd (no_lines t ts (sym same))
one_top (more t ts) (more u us) h k same =
    let tags = one_tag 0 t u (shown_tags 0 ts) (shown_tags 0 us) h.0 k.0 (at_top ts) (at_top us) same in
    ap₂ more tags.0 (one_top ts us h.1 k.1 tags.1)

are_tags : (rows : List CodeRow) (ts : List Tree) → AllByRecursion (λ t. IsReadable rows t) ts → AreTags (trees_of ts)
are_tags rows [] h = tt
are_tags rows (t ∷ ts) h = (h.0.tag, are_tags rows ts h.1)

listed : (ts : List Tree) → tree_list (trees_of ts) ≡ ts
listed [] = refl
listed (t ∷ ts) = ap (λ us. t ∷ us) (listed ts)

pub one_text : (rows : List CodeRow) (text : List ℕ) (ts us : List Tree) → Shows rows text ts → Shows rows text us → ts ≡ us
one_text rows text ts us a b =
    sym (listed ts) ∙ ap tree_list (one_top (trees_of ts) (trees_of us) (are_tags rows ts a.each) (are_tags rows us b.each) (sym a.lines ∙ b.lines)) ∙ listed us
