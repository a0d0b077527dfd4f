-- Lines taken apart again.
use Rattle.std.proofs.Common.{◌≡◌, ℕ, zero, suc, ◌/◌, ◌%◌, ◌<◌, ◌≤◌, ◌^◌, true, false, ◌||◌, ◌==◌, nat_lt, nat_le, List, [], ◌∷◌, ◌++◌, flat_map, decimal, inl, inr, refl, sym, ap, ◌∙◌, arith, append_assoc}
use Rattle.std.proofs.lemmas.Bool.{eqb-true, leb-true, ltb-false, and_parts, or_from, or_parts, cases_Bool, ne_eqb, eq-eqb, true≢false}
use Rattle.std.proofs.lemmas.Fmt.{decimal_is_IsNumeral}
use Rattle.std.proofs.lemmas.Str.Parse.{digit_from_value}
use Rattle.std.specs.Char.{digit_char, is_ascii_graphic}
use Rattle.std.specs.Fmt.{signed_decimal}
use Rattle.std.specs.Int.RustNames.{FitsSigned}
use Rattle.std.specs.Int.{w64}
use Rattle.std.specs.List.{list_all}
use Rattle.std.specs.Str.Parse.{AllDigits}
use lib.IntN.{ℤ, pos, negsuc}
use Rattle.dmap_tags.specs.Codes.{Four, code_bytes}
use Rattle.dmap_tags.specs.Tree as tree
use Rattle.dmap_tags.specs.Tree.{Leaf, Tree, leaf, list, Trees, none, more, tree_code}
use Rattle.dmap_tags.specs.Seen.{tree_with}
use Rattle.dmap_show.proofs.EventLines.{leaf_with}
use Rattle.dmap_show.specs.Shown.{indent, hex, escaped, dotted, shown_code, leaf_word, leaf_text, word_of, space_of, text_of}
use Rattle.dmap_show.specs.Readable.{IsCode, IsValue}
use Rattle.dmap_show.specs.TextLines.{before, behind, has}
use Rattle.dmap_show.specs.Parts.{bare_line, head_of, IsHead, head_value, pairs_in_front, behind_pairs, kind_named, Spells}

-- a text is split at the first byte that is `mark`
pub before_mark : (mark : ℕ) (xs ys : List ℕ) → has mark xs ≡ false → before mark (xs ++ mark ∷ ys) ≡ xs
before_mark mark [] ys h = rw (eq-eqb mark mark refl) refl
before_mark mark (x ∷ xs) ys h = elim (cases_Bool (x == mark)) [
  | inl e ↦ absurd (true≢false (rw e at h))
  | inr e ↦ rw e (ap (λ s. x ∷ s) (before_mark mark xs ys (rw e at h)))
]

pub behind_mark : (mark : ℕ) (xs ys : List ℕ) → has mark xs ≡ false → behind mark (xs ++ mark ∷ ys) ≡ ys
behind_mark mark [] ys h = rw (eq-eqb mark mark refl) refl
behind_mark mark (x ∷ xs) ys h = elim (cases_Bool (x == mark)) [
  | inl e ↦ absurd (true≢false (rw e at h))
  | inr e ↦ rw e (behind_mark mark xs ys (rw e at h))
]

-- without a mark, all of the text is before it
pub before_none : (mark : ℕ) (xs : List ℕ) → has mark xs ≡ false → before mark xs ≡ xs
before_none mark [] h = refl
before_none mark (x ∷ xs) h = elim (cases_Bool (x == mark)) [
  | inl e ↦ absurd (true≢false (rw e at h))
  | inr e ↦ rw e (ap (λ s. x ∷ s) (before_none mark xs (rw e at h)))
]

pub behind_none : (mark : ℕ) (xs : List ℕ) → has mark xs ≡ false → behind mark xs ≡ []
behind_none mark [] h = refl
behind_none mark (x ∷ xs) h = elim (cases_Bool (x == mark)) [
  | inl e ↦ absurd (true≢false (rw e at h))
  | inr e ↦ rw e (behind_none mark xs (rw e at h))
]

pub has_mark : (mark : ℕ) (xs ys : List ℕ) → has mark (xs ++ mark ∷ ys) ≡ true
has_mark mark [] ys = rw (eq-eqb mark mark refl) refl
has_mark mark (x ∷ xs) ys = elim (cases_Bool (x == mark)) [
  | inl e ↦ rw e refl
  | inr e ↦ rw e (has_mark mark xs ys)
]

-- a text with a mark is what is before it, the mark, and what follows it
pub split_again : (mark : ℕ) (xs : List ℕ) → has mark xs ≡ true → xs ≡ before mark xs ++ mark ∷ behind mark xs
split_again mark [] h = absurd (true≢false (sym h))
split_again mark (x ∷ xs) h = elim (cases_Bool (x == mark)) [
  | inl e ↦ rw e (ap (λ y. y ∷ xs) (eqb-true x mark e))
  | inr e ↦ rw e (ap (λ s. x ∷ s) (split_again mark xs (rw e at h)))
]

pub has_append : (mark : ℕ) (xs ys : List ℕ) → has mark xs ≡ false → has mark ys ≡ false → has mark (xs ++ ys) ≡ false
has_append mark [] ys h k = k
has_append mark (x ∷ xs) ys h k = elim (cases_Bool (x == mark)) [
  | inl e ↦ absurd (true≢false (rw e at h))
  | inr e ↦ rw e (has_append mark xs ys (rw e at h) k)
]

-- digits are none of the characters below them
digits_have : (mark : ℕ) (ds : List ℕ) → mark < 48 → AllDigits 10 ds → has mark ds ≡ false
digits_have mark [] h k = refl
digits_have mark (d ∷ ds) h k =
    or_from (d == mark) (has mark ds) (ne_eqb d mark (λ e. let r = digit_from_value d k.0 in omega arith)) (digits_have mark ds h k.1)

pub decimal_has : (mark n : ℕ) → mark < 48 → n < 2 ^ 64 → has mark (decimal n) ≡ false
decimal_has mark n h k = digits_have mark (decimal n) h (decimal_is_IsNumeral n k).0.1

digit_low : (d : ℕ) → 48 ≤ digit_char d
digit_low d = elim (cases_Bool (nat_lt d 10)) [ inl e ↦ rw e (omega arith) | inr e ↦ rw e (omega arith) ]

graphic_low : (b : ℕ) → is_ascii_graphic b ≡ true → 33 ≤ b
graphic_low b h = leb-true 33 b (and_parts (nat_le 33 b) (nat_le b 126) h).0

-- what is shown in hex or printable has none of the marks below its characters
hex_has : (mark b : ℕ) → mark < 48 → has mark (hex b) ≡ false
hex_has mark b h =
    let digit : (d : ℕ) → (digit_char d == mark) ≡ false = λ d. ne_eqb (digit_char d) mark (λ e. let low : 48 ≤ digit_char d = digit_low d in omega arith) in
    or_from _ _ (digit (b / 16)) (or_from _ _ (digit (b % 16)) refl)

pub all_hex_have : (mark : ℕ) (bytes : List ℕ) → mark < 48 → has mark (flat_map hex bytes) ≡ false
all_hex_have mark [] h = refl
all_hex_have mark (b ∷ bytes) h = has_append mark (hex b) (flat_map hex bytes) (hex_has mark b h) (all_hex_have mark bytes h)

graphic_has : (mark : ℕ) (bytes : List ℕ) → mark < 33 → list_all is_ascii_graphic bytes ≡ true → has mark bytes ≡ false
graphic_has mark [] h k = refl
graphic_has mark (b ∷ bytes) h k =
    let p = and_parts (is_ascii_graphic b) (list_all is_ascii_graphic bytes) k in
    or_from (b == mark) (has mark bytes) (ne_eqb b mark (λ e. let low : 33 ≤ b = graphic_low b p.0 in omega arith)) (graphic_has mark bytes h p.1)

pub code_has : (mark : ℕ) (c : Four) → mark < 33 → has mark (shown_code c) ≡ false
code_has mark c h = elim (cases_Bool (list_all is_ascii_graphic (code_bytes c))) [
  | inl e ↦ rw e (graphic_has mark (code_bytes c) h e)
  | inr e ↦ rw e (or_from (120 == mark) _ (ne_eqb 120 mark (λ k. omega arith)) (all_hex_have mark (code_bytes c) (omega arith)))
]

-- a code begins with no space
abbrev StartsWithoutSpace : List ℕ → Type 0
StartsWithoutSpace bytes = (b : ℕ) × ((more : List ℕ) × ((bytes ≡ b ∷ more) × ((b == 32) ≡ false)))

code_starts : (c : Four) → StartsWithoutSpace (shown_code c)
code_starts c = elim (cases_Bool (list_all is_ascii_graphic (code_bytes c))) [
  | inl e ↦
      let low : 33 ≤ c.0 = graphic_low c.0 (and_parts (is_ascii_graphic c.0) _ e).0 in
      rw e (c.0, (c.1 ∷ c.2 ∷ c.3 ∷ [], (refl, ne_eqb c.0 32 (λ k. omega arith))))
  | inr e ↦ rw e (120, (flat_map hex (code_bytes c), (refl, refl)))
]

word_has_space : (t : Tree) → has 32 (word_of t) ≡ false
word_has_space (leaf c (tree.U8 n)) = refl
word_has_space (leaf c (tree.I8 z)) = refl
word_has_space (leaf c (tree.U16 n)) = refl
word_has_space (leaf c (tree.I16 z)) = refl
word_has_space (leaf c (tree.U32 n)) = refl
word_has_space (leaf c (tree.I32 z)) = refl
word_has_space (leaf c (tree.U64 n)) = refl
word_has_space (leaf c (tree.I64 z)) = refl
word_has_space (leaf c (tree.Text bytes)) = refl
word_has_space (leaf c (tree.Date n)) = refl
word_has_space (leaf c (tree.Version n)) = refl
word_has_space (leaf c (tree.Opaque bytes)) = refl
word_has_space (list c ts) = refl

-- the level is the number of pairs of spaces at the beginning
pairs_none : (b : ℕ) (rest : List ℕ) → (b == 32) ≡ false → (pairs_in_front (b ∷ rest) ≡ 0) × (behind_pairs (b ∷ rest) ≡ b ∷ rest)
pairs_none b [] h = (refl, refl)
pairs_none b (r ∷ rest) h = (rw h refl, rw h refl)

pairs_indent : (n b : ℕ) (rest : List ℕ) → (b == 32) ≡ false → (pairs_in_front (indent n ++ b ∷ rest) ≡ n) × (behind_pairs (indent n ++ b ∷ rest) ≡ b ∷ rest)
pairs_indent zero b rest h = pairs_none b rest h
pairs_indent (suc n) b rest h = let p = pairs_indent n b rest h in (ap suc p.0, p.1)

line_before : (i c w s t x : List ℕ) → (i ++ c ++ 32 ∷ w ++ s ++ t) ++ x ≡ i ++ (c ++ 32 ∷ (w ++ (s ++ (t ++ x))))
line_before i c w s t x = simp append_assoc refl

pairs_before : (level : ℕ) (t : Tree) (x : List ℕ) → StartsWithoutSpace (shown_code (tree_code t)) → pairs_in_front (bare_line level t ++ x) ≡ level
pairs_before level t x (b, (others, (starts, no_space))) =
    let rest = 32 ∷ (word_of t ++ (space_of t ++ (text_of t ++ x))) in
    ap pairs_in_front (line_before (indent level) (shown_code (tree_code t)) (word_of t) (space_of t) (text_of t) x ∙ ap (λ c. indent level ++ (c ++ rest)) starts)
    ∙ (pairs_indent level b (others ++ rest) no_space).0

-- whatever follows a line
pub pairs_line : (level : ℕ) (t : Tree) (x : List ℕ) → pairs_in_front (bare_line level t ++ x) ≡ level
pairs_line level t x = pairs_before level t x (code_starts (tree_code t))

pub record LineParts (level : ℕ) (t : Tree) (bare : List ℕ) : Type 0 where
  pub pairs : pairs_in_front bare ≡ level
  pub code : before 32 (behind_pairs bare) ≡ shown_code (tree_code t)
  pub word : before 32 (behind 32 (behind_pairs bare)) ≡ word_of t
  pub text : behind 32 (behind 32 (behind_pairs bare)) ≡ text_of t

word_split : (t : Tree) → (before 32 (word_of t ++ (space_of t ++ text_of t)) ≡ word_of t) × (behind 32 (word_of t ++ (space_of t ++ text_of t)) ≡ text_of t)
word_split (leaf c l) =
    (before_mark 32 (leaf_word l) (leaf_text l) (word_has_space (leaf c l)), behind_mark 32 (leaf_word l) (leaf_text l) (word_has_space (leaf c l)))
word_split (list c ts) = (refl, refl)

line_regrouped : (i c w s x : List ℕ) → i ++ c ++ 32 ∷ w ++ s ++ x ≡ i ++ (c ++ 32 ∷ (w ++ (s ++ x)))
line_regrouped i c w s x = simp append_assoc refl

code_split : (level : ℕ) (t : Tree) (bare : List ℕ) → bare ≡ indent level ++ (shown_code (tree_code t) ++ 32 ∷ (word_of t ++ (space_of t ++ text_of t)))
    → StartsWithoutSpace (shown_code (tree_code t)) → LineParts level t bare
code_split level t bare e (b, (others, (starts, no_space))) =
    let code = shown_code (tree_code t) in
    let rest = word_of t ++ (space_of t ++ text_of t) in
    let line : bare ≡ indent level ++ b ∷ (others ++ 32 ∷ rest) = e ∙ ap (λ c. indent level ++ (c ++ 32 ∷ rest)) starts in
    let pairs = pairs_indent level b (others ++ 32 ∷ rest) no_space in
    let tail : behind_pairs bare ≡ code ++ 32 ∷ rest = ap behind_pairs line ∙ pairs.1 ∙ ap (λ c. c ++ 32 ∷ rest) (sym starts) in
    let free : has 32 code ≡ false = code_has 32 (tree_code t) (omega arith) in
    let second : behind 32 (behind_pairs bare) ≡ rest = ap (behind 32) tail ∙ behind_mark 32 code rest free in
    record {
      pairs = ap pairs_in_front line ∙ pairs.0;
      code = ap (before 32) tail ∙ before_mark 32 code rest free;
      word = ap (before 32) second ∙ (word_split t).0;
      text = ap (behind 32) second ∙ (word_split t).1;
    }

-- the parts of a shown line
pub parts_of : (level : ℕ) (t : Tree) (bare : List ℕ) → bare ≡ bare_line level t → LineParts level t bare
parts_of level t bare e =
    code_split level t bare (e ∙ line_regrouped (indent level) (shown_code (tree_code t)) (word_of t) (space_of t) (text_of t)) (code_starts (tree_code t))

-- and what they are read as
pub head_spells : (t : Tree) → IsHead t → Spells (kind_named (word_of t)) (text_of t) (head_value t)
head_spells (leaf c (tree.U8 n)) h = (n, (h.1, (refl, refl)))
head_spells (leaf c (tree.I8 z)) h = (z, (h.1, (refl, refl)))
head_spells (leaf c (tree.U16 n)) h = (n, (h.1, (refl, refl)))
head_spells (leaf c (tree.I16 z)) h = (z, (h.1, (refl, refl)))
head_spells (leaf c (tree.U32 n)) h = (n, (h.1, (refl, refl)))
head_spells (leaf c (tree.I32 z)) h = (z, (h.1, (refl, refl)))
head_spells (leaf c (tree.U64 n)) h = (n, (h.1, (refl, refl)))
head_spells (leaf c (tree.I64 z)) h = (z, (h.1, (refl, refl)))
head_spells (leaf c (tree.Text bytes)) h = (bytes, (h.1, (refl, refl)))
head_spells (leaf c (tree.Date n)) h = (n, (h.1, (refl, refl)))
head_spells (leaf c (tree.Version n)) h = (n, (h.1, (refl, refl)))
head_spells (leaf c (tree.Opaque bytes)) h = (bytes, (h.1, (refl, refl)))
head_spells (list c ts) h = refl

pub head_code : (t : Tree) → IsHead t → IsCode (tree_code t)
head_code (leaf c l) h = h.0
head_code (list c ts) h = h

-- a head as the program has it is the tag without its members, and has the same line
pub head_with : (t : Tree) → tree_with (tree_code t) (head_value t) ≡ head_of t
head_with (leaf c l) = leaf_with c l
head_with (list c ts) = refl

pub head_line : (level : ℕ) (t : Tree) → bare_line level (head_of t) ≡ bare_line level t
head_line level (leaf c l) = refl
head_line level (list c ts) = refl

-- a version's parts
pub record VersionParts (n : ℕ) (text : List ℕ) : Type 0 where
  pub major : before 46 text ≡ decimal (n / 65536)
  pub minor : before 46 (behind 46 text) ≡ decimal (n / 256 % 256)
  pub patch : behind 46 (behind 46 text) ≡ decimal (n % 256)

pub version_parts : (n : ℕ) (text : List ℕ) → n < 2 ^ 32 → text ≡ dotted n → VersionParts n text
version_parts n text h e =
    let a = decimal (n / 65536) in
    let b = decimal (n / 256 % 256) in
    let c = decimal (n % 256) in
    let whole : text ≡ a ++ 46 ∷ (b ++ 46 ∷ c) = e ∙ append_assoc a (46 ∷ b) (46 ∷ c) in
    let free_a : has 46 a ≡ false = decimal_has 46 (n / 65536) (omega arith) (omega arith) in
    let free_b : has 46 b ≡ false = decimal_has 46 (n / 256 % 256) (omega arith) (omega arith) in
    let rest : behind 46 text ≡ b ++ 46 ∷ c = ap (behind 46) whole ∙ behind_mark 46 a (b ++ 46 ∷ c) free_a in
    record {
      major = ap (before 46) whole ∙ before_mark 46 a (b ++ 46 ∷ c) free_a;
      minor = ap (before 46) rest ∙ before_mark 46 b c free_b;
      patch = ap (behind 46) rest ∙ behind_mark 46 b c free_b;
    }

-- a line has no line feed inside
escaped_has : (b : ℕ) → has 10 (escaped b) ≡ false
escaped_has b = elim (cases_Bool (b == 34)) [
  | inl e ↦ rw e refl
  | inr e ↦ rw e (elim (cases_Bool (b == 92)) [
    | inl f ↦ rw f refl
    | inr f ↦ rw f (elim (cases_Bool (nat_lt b 32 || (b == 127))) [
      | inl g ↦ rw g (hex_has 10 b (omega arith))
      | inr g ↦ rw g (or_from (b == 10) false (ne_eqb b 10 (λ k. let low = ltb-false b 32 (or_parts (nat_lt b 32) (b == 127) g).0 in omega arith)) refl)
    ])
  ])
]

all_escaped_have : (bytes : List ℕ) → has 10 (flat_map escaped bytes) ≡ false
all_escaped_have [] = refl
all_escaped_have (b ∷ bytes) = has_append 10 (escaped b) (flat_map escaped bytes) (escaped_has b) (all_escaped_have bytes)

signed_has : (z : ℤ) → FitsSigned w64 z → has 10 (signed_decimal z) ≡ false
signed_has (pos n) h = decimal_has 10 n (omega arith) (let k = h.sfits in omega arith)
signed_has (negsuc n) h = decimal_has 10 (suc n) (omega arith) (let k = h.sfits in omega arith)

leaf_has : (l : Leaf) → IsValue l → has 10 (leaf_text l) ≡ false
leaf_has (tree.U8 n) h = decimal_has 10 n (omega arith) (omega arith)
leaf_has (tree.I8 z) h = signed_has z (record { sfits = let k = h.sfits in omega arith })
leaf_has (tree.U16 n) h = decimal_has 10 n (omega arith) (omega arith)
leaf_has (tree.I16 z) h = signed_has z (record { sfits = let k = h.sfits in omega arith })
leaf_has (tree.U32 n) h = decimal_has 10 n (omega arith) (omega arith)
leaf_has (tree.I32 z) h = signed_has z (record { sfits = let k = h.sfits in omega arith })
leaf_has (tree.U64 n) h = decimal_has 10 n (omega arith) (omega arith)
leaf_has (tree.I64 z) h = signed_has z h
leaf_has (tree.Text bytes) h = has_append 10 (34 ∷ flat_map escaped bytes) (34 ∷ []) (all_escaped_have bytes) refl
leaf_has (tree.Date n) h = decimal_has 10 n (omega arith) (omega arith)
leaf_has (tree.Version n) h =
    has_append 10 (decimal (n / 65536) ++ 46 ∷ decimal (n / 256 % 256)) (46 ∷ decimal (n % 256))
    (has_append 10 (decimal (n / 65536)) (46 ∷ decimal (n / 256 % 256)) (decimal_has 10 (n / 65536) (omega arith) (omega arith)) (decimal_has 10 (n / 256 % 256) (omega arith) (omega arith)))
    (decimal_has 10 (n % 256) (omega arith) (omega arith))
leaf_has (tree.Opaque bytes) h = all_hex_have 10 bytes (omega arith)

text_has : (t : Tree) → IsHead t → has 10 (text_of t) ≡ false
text_has (leaf c l) h = leaf_has l h.1
text_has (list c ts) h = refl

word_has : (t : Tree) → (has 10 (32 ∷ word_of t) ≡ false) × (has 10 (space_of t) ≡ false)
word_has (leaf c (tree.U8 n)) = (refl, refl)
word_has (leaf c (tree.I8 z)) = (refl, refl)
word_has (leaf c (tree.U16 n)) = (refl, refl)
word_has (leaf c (tree.I16 z)) = (refl, refl)
word_has (leaf c (tree.U32 n)) = (refl, refl)
word_has (leaf c (tree.I32 z)) = (refl, refl)
word_has (leaf c (tree.U64 n)) = (refl, refl)
word_has (leaf c (tree.I64 z)) = (refl, refl)
word_has (leaf c (tree.Text bytes)) = (refl, refl)
word_has (leaf c (tree.Date n)) = (refl, refl)
word_has (leaf c (tree.Version n)) = (refl, refl)
word_has (leaf c (tree.Opaque bytes)) = (refl, refl)
word_has (list c ts) = (refl, refl)

indent_has : (n : ℕ) → has 10 (indent n) ≡ false
indent_has zero = refl
indent_has (suc n) = indent_has n

pub line_has : (level : ℕ) (t : Tree) → IsHead t → has 10 (bare_line level t) ≡ false
line_has level t h =
    let code = indent level ++ shown_code (tree_code t) in
    has_append 10 (code ++ 32 ∷ word_of t ++ space_of t) (text_of t) (has_append 10 (code ++ 32 ∷ word_of t) (space_of t) (has_append 10 code (32 ∷ word_of t)
    (has_append 10 (indent level) (shown_code (tree_code t)) (indent_has level) (code_has 10 (tree_code t) (omega arith)))
    (word_has t).0) (word_has t).1) (text_has t h)
