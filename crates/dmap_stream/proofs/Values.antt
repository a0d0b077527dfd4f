-- A value has one payload, and a payload of a kind one value.
use Rattle.std.proofs.Common.{◌≡◌, ◌<◌, ◌^◌, ◌%◌, ◌==◌, ℕ, zero, suc, List, [], ◌∷◌, length, take, drop, get_or, Bool, true, false, if◌then◌else◌, unwrap_or, Some, None, refl, sym, ap, ◌∙◌, arith}
use mir.Val.{bits}
use Rattle.std.proofs.Math.Facts.{Fits-of_z, Fits-of_lt, sfits_to_z}
use Rattle.std.specs.Int.{Width, w8, w16, w32, w64, from_be_bytes, to_be_bytes, cast_signed, cast_unsigned}
use Rattle.std.specs.Str.{is_utf8}
use Rattle.std.proofs.lemmas.Nat.{from_be_bytes-to_be_bytes_2, from_be_bytes-to_be_bytes_4, from_be_bytes-to_be_bytes_8, be_bytes_2, be_bytes_4, be_bytes_8}
use Rattle.std.proofs.lemmas.Int.{to_z-of_z, of_z-to_z}
use Rattle.std.proofs.lemmas.Bool.{cond-true, eqb-true}
use Rattle.dmap_tags.specs.Codes.{Four}
use Rattle.dmap_tags.specs.Tree as tree
use Rattle.dmap_tags.specs.Tree.{Leaf, Tree, leaf}
use Rattle.dmap_tags.specs.Typed.{leaf_at, value_of}
use Rattle.dmap_tags.specs.Seen.{tree_with}
use Rattle.dmap_tags.specs.Spelling.{leaf_payload}
use Rattle.dmap_tags.specs.declared.kinds.Kind.{Kind}
use Rattle.dmap_tags.specs.Kinds.{is_list}
use Rattle.dmap_tags.specs.Proper.{IsProper}
use Rattle.dmap_tags.specs.declared.kinds.Kind.TheVariants as kind
use Rattle.code_table.specs.Fits.{leaf_fits, is_opaque}

pub seen_leaf : (c : Four) (l : Leaf) → tree_with c (value_of l) ≡ leaf c l
seen_leaf c (tree.U8 n) = refl
seen_leaf c (tree.I8 z) = refl
seen_leaf c (tree.U16 n) = refl
seen_leaf c (tree.I16 z) = refl
seen_leaf c (tree.U32 n) = refl
seen_leaf c (tree.I32 z) = refl
seen_leaf c (tree.U64 n) = refl
seen_leaf c (tree.I64 z) = refl
seen_leaf c (tree.Text bytes) = refl
seen_leaf c (tree.Date n) = refl
seen_leaf c (tree.Version n) = refl
seen_leaf c (tree.Opaque bytes) = refl

small_byte : (n : ℕ) → n < 256 → n % 256 ≡ n
small_byte n less = omega arith

-- a number's kind reads its payload exactly if the length is the kind's
sized_opaque : (n : ℕ) (p : List ℕ) (l : Leaf) (b : Bool) → is_opaque l ≡ false → is_opaque (unwrap_or (if b then Some l else None) (tree.Opaque p)) ≡ true → unwrap_or (if b then Some l else None) (tree.Opaque p) ≡ tree.Opaque p
sized_opaque n p l true plain h = absurd (let bad : false ≡ true = sym plain ∙ h in cc)
sized_opaque n p l false plain h = refl

text_opaque : (p : List ℕ) (b : Bool) → is_opaque (if b then tree.Text p else tree.Opaque p) ≡ true → (if b then tree.Text p else tree.Opaque p) ≡ tree.Opaque p
text_opaque p true h = absurd (cc)
text_opaque p false h = refl

-- bytes that encode no value of the kind are opaque
opaque_again : (k : Kind) (p : List ℕ) → is_opaque (leaf_at k p) ≡ true → leaf_at k p ≡ tree.Opaque p
opaque_again kind.U8 p h = sized_opaque 1 p _ (length p == 1) refl h
opaque_again kind.I8 p h = sized_opaque 1 p _ (length p == 1) refl h
opaque_again kind.U16 p h = sized_opaque 2 p _ (length p == 2) refl h
opaque_again kind.I16 p h = sized_opaque 2 p _ (length p == 2) refl h
opaque_again kind.U32 p h = sized_opaque 4 p _ (length p == 4) refl h
opaque_again kind.I32 p h = sized_opaque 4 p _ (length p == 4) refl h
opaque_again kind.U64 p h = sized_opaque 8 p _ (length p == 8) refl h
opaque_again kind.I64 p h = sized_opaque 8 p _ (length p == 8) refl h
opaque_again kind.Text p h = text_opaque p (is_utf8 p) h
opaque_again kind.Date p h = sized_opaque 4 p _ (length p == 4) refl h
opaque_again kind.Version p h = sized_opaque 4 p _ (length p == 4) refl h
opaque_again kind.List p h = refl
opaque_again kind.Opaque p h = refl

-- a value that fits its kind is what the kind reads in its payload
pub leaf_again : (k : Kind) (l : Leaf) → leaf_fits k l ≡ true → IsProper l → leaf_at k (leaf_payload l) ≡ l
leaf_again kind.U8 (tree.U8 n) h proper = ap tree.U8 (small_byte n proper)
leaf_again kind.I8 (tree.U8 n) h proper = absurd (cc)
leaf_again kind.U16 (tree.U8 n) h proper = absurd (cc)
leaf_again kind.I16 (tree.U8 n) h proper = absurd (cc)
leaf_again kind.U32 (tree.U8 n) h proper = absurd (cc)
leaf_again kind.I32 (tree.U8 n) h proper = absurd (cc)
leaf_again kind.U64 (tree.U8 n) h proper = absurd (cc)
leaf_again kind.I64 (tree.U8 n) h proper = absurd (cc)
leaf_again kind.Text (tree.U8 n) h proper = absurd (cc)
leaf_again kind.Date (tree.U8 n) h proper = absurd (cc)
leaf_again kind.Version (tree.U8 n) h proper = absurd (cc)
leaf_again kind.List (tree.U8 n) h proper = absurd (cc)
leaf_again kind.Opaque (tree.U8 n) h proper = absurd (cc)
leaf_again kind.U8 (tree.I8 z) h proper = absurd (cc)
leaf_again kind.I8 (tree.I8 z) h proper = ap tree.I8 (ap (cast_signed w8) (small_byte (cast_unsigned w8 z) (Fits-of_z proper).fits) ∙ to_z-of_z w8 z proper)
leaf_again kind.U16 (tree.I8 z) h proper = absurd (cc)
leaf_again kind.I16 (tree.I8 z) h proper = absurd (cc)
leaf_again kind.U32 (tree.I8 z) h proper = absurd (cc)
leaf_again kind.I32 (tree.I8 z) h proper = absurd (cc)
leaf_again kind.U64 (tree.I8 z) h proper = absurd (cc)
leaf_again kind.I64 (tree.I8 z) h proper = absurd (cc)
leaf_again kind.Text (tree.I8 z) h proper = absurd (cc)
leaf_again kind.Date (tree.I8 z) h proper = absurd (cc)
leaf_again kind.Version (tree.I8 z) h proper = absurd (cc)
leaf_again kind.List (tree.I8 z) h proper = absurd (cc)
leaf_again kind.Opaque (tree.I8 z) h proper = absurd (cc)
leaf_again kind.U8 (tree.U16 n) h proper = absurd (cc)
leaf_again kind.I8 (tree.U16 n) h proper = absurd (cc)
leaf_again kind.U16 (tree.U16 n) h proper = ap tree.U16 (from_be_bytes-to_be_bytes_2 n proper)
leaf_again kind.I16 (tree.U16 n) h proper = absurd (cc)
leaf_again kind.U32 (tree.U16 n) h proper = absurd (cc)
leaf_again kind.I32 (tree.U16 n) h proper = absurd (cc)
leaf_again kind.U64 (tree.U16 n) h proper = absurd (cc)
leaf_again kind.I64 (tree.U16 n) h proper = absurd (cc)
leaf_again kind.Text (tree.U16 n) h proper = absurd (cc)
leaf_again kind.Date (tree.U16 n) h proper = absurd (cc)
leaf_again kind.Version (tree.U16 n) h proper = absurd (cc)
leaf_again kind.List (tree.U16 n) h proper = absurd (cc)
leaf_again kind.Opaque (tree.U16 n) h proper = absurd (cc)
leaf_again kind.U8 (tree.I16 z) h proper = absurd (cc)
leaf_again kind.I8 (tree.I16 z) h proper = absurd (cc)
leaf_again kind.U16 (tree.I16 z) h proper = absurd (cc)
leaf_again kind.I16 (tree.I16 z) h proper = ap tree.I16 (ap (cast_signed w16) (from_be_bytes-to_be_bytes_2 (cast_unsigned w16 z) (Fits-of_z proper).fits) ∙ to_z-of_z w16 z proper)
leaf_again kind.U32 (tree.I16 z) h proper = absurd (cc)
leaf_again kind.I32 (tree.I16 z) h proper = absurd (cc)
leaf_again kind.U64 (tree.I16 z) h proper = absurd (cc)
leaf_again kind.I64 (tree.I16 z) h proper = absurd (cc)
leaf_again kind.Text (tree.I16 z) h proper = absurd (cc)
leaf_again kind.Date (tree.I16 z) h proper = absurd (cc)
leaf_again kind.Version (tree.I16 z) h proper = absurd (cc)
leaf_again kind.List (tree.I16 z) h proper = absurd (cc)
leaf_again kind.Opaque (tree.I16 z) h proper = absurd (cc)
leaf_again kind.U8 (tree.U32 n) h proper = absurd (cc)
leaf_again kind.I8 (tree.U32 n) h proper = absurd (cc)
leaf_again kind.U16 (tree.U32 n) h proper = absurd (cc)
leaf_again kind.I16 (tree.U32 n) h proper = absurd (cc)
leaf_again kind.U32 (tree.U32 n) h proper = ap tree.U32 (from_be_bytes-to_be_bytes_4 n proper)
leaf_again kind.I32 (tree.U32 n) h proper = absurd (cc)
leaf_again kind.U64 (tree.U32 n) h proper = absurd (cc)
leaf_again kind.I64 (tree.U32 n) h proper = absurd (cc)
leaf_again kind.Text (tree.U32 n) h proper = absurd (cc)
leaf_again kind.Date (tree.U32 n) h proper = absurd (cc)
leaf_again kind.Version (tree.U32 n) h proper = absurd (cc)
leaf_again kind.List (tree.U32 n) h proper = absurd (cc)
leaf_again kind.Opaque (tree.U32 n) h proper = absurd (cc)
leaf_again kind.U8 (tree.I32 z) h proper = absurd (cc)
leaf_again kind.I8 (tree.I32 z) h proper = absurd (cc)
leaf_again kind.U16 (tree.I32 z) h proper = absurd (cc)
leaf_again kind.I16 (tree.I32 z) h proper = absurd (cc)
leaf_again kind.U32 (tree.I32 z) h proper = absurd (cc)
leaf_again kind.I32 (tree.I32 z) h proper = ap tree.I32 (ap (cast_signed w32) (from_be_bytes-to_be_bytes_4 (cast_unsigned w32 z) (Fits-of_z proper).fits) ∙ to_z-of_z w32 z proper)
leaf_again kind.U64 (tree.I32 z) h proper = absurd (cc)
leaf_again kind.I64 (tree.I32 z) h proper = absurd (cc)
leaf_again kind.Text (tree.I32 z) h proper = absurd (cc)
leaf_again kind.Date (tree.I32 z) h proper = absurd (cc)
leaf_again kind.Version (tree.I32 z) h proper = absurd (cc)
leaf_again kind.List (tree.I32 z) h proper = absurd (cc)
leaf_again kind.Opaque (tree.I32 z) h proper = absurd (cc)
leaf_again kind.U8 (tree.U64 n) h proper = absurd (cc)
leaf_again kind.I8 (tree.U64 n) h proper = absurd (cc)
leaf_again kind.U16 (tree.U64 n) h proper = absurd (cc)
leaf_again kind.I16 (tree.U64 n) h proper = absurd (cc)
leaf_again kind.U32 (tree.U64 n) h proper = absurd (cc)
leaf_again kind.I32 (tree.U64 n) h proper = absurd (cc)
leaf_again kind.U64 (tree.U64 n) h proper = ap tree.U64 (from_be_bytes-to_be_bytes_8 n proper)
leaf_again kind.I64 (tree.U64 n) h proper = absurd (cc)
leaf_again kind.Text (tree.U64 n) h proper = absurd (cc)
leaf_again kind.Date (tree.U64 n) h proper = absurd (cc)
leaf_again kind.Version (tree.U64 n) h proper = absurd (cc)
leaf_again kind.List (tree.U64 n) h proper = absurd (cc)
leaf_again kind.Opaque (tree.U64 n) h proper = absurd (cc)
leaf_again kind.U8 (tree.I64 z) h proper = absurd (cc)
leaf_again kind.I8 (tree.I64 z) h proper = absurd (cc)
leaf_again kind.U16 (tree.I64 z) h proper = absurd (cc)
leaf_again kind.I16 (tree.I64 z) h proper = absurd (cc)
leaf_again kind.U32 (tree.I64 z) h proper = absurd (cc)
leaf_again kind.I32 (tree.I64 z) h proper = absurd (cc)
leaf_again kind.U64 (tree.I64 z) h proper = absurd (cc)
leaf_again kind.I64 (tree.I64 z) h proper = ap tree.I64 (ap (cast_signed w64) (from_be_bytes-to_be_bytes_8 (cast_unsigned w64 z) (Fits-of_z proper).fits) ∙ to_z-of_z w64 z proper)
leaf_again kind.Text (tree.I64 z) h proper = absurd (cc)
leaf_again kind.Date (tree.I64 z) h proper = absurd (cc)
leaf_again kind.Version (tree.I64 z) h proper = absurd (cc)
leaf_again kind.List (tree.I64 z) h proper = absurd (cc)
leaf_again kind.Opaque (tree.I64 z) h proper = absurd (cc)
leaf_again kind.U8 (tree.Text bytes) h proper = absurd (cc)
leaf_again kind.I8 (tree.Text bytes) h proper = absurd (cc)
leaf_again kind.U16 (tree.Text bytes) h proper = absurd (cc)
leaf_again kind.I16 (tree.Text bytes) h proper = absurd (cc)
leaf_again kind.U32 (tree.Text bytes) h proper = absurd (cc)
leaf_again kind.I32 (tree.Text bytes) h proper = absurd (cc)
leaf_again kind.U64 (tree.Text bytes) h proper = absurd (cc)
leaf_again kind.I64 (tree.Text bytes) h proper = absurd (cc)
leaf_again kind.Text (tree.Text bytes) h proper = cond-true (is_utf8 bytes) _ _ proper
leaf_again kind.Date (tree.Text bytes) h proper = absurd (cc)
leaf_again kind.Version (tree.Text bytes) h proper = absurd (cc)
leaf_again kind.List (tree.Text bytes) h proper = absurd (cc)
leaf_again kind.Opaque (tree.Text bytes) h proper = absurd (cc)
leaf_again kind.U8 (tree.Date n) h proper = absurd (cc)
leaf_again kind.I8 (tree.Date n) h proper = absurd (cc)
leaf_again kind.U16 (tree.Date n) h proper = absurd (cc)
leaf_again kind.I16 (tree.Date n) h proper = absurd (cc)
leaf_again kind.U32 (tree.Date n) h proper = absurd (cc)
leaf_again kind.I32 (tree.Date n) h proper = absurd (cc)
leaf_again kind.U64 (tree.Date n) h proper = absurd (cc)
leaf_again kind.I64 (tree.Date n) h proper = absurd (cc)
leaf_again kind.Text (tree.Date n) h proper = absurd (cc)
leaf_again kind.Date (tree.Date n) h proper = ap tree.Date (from_be_bytes-to_be_bytes_4 n proper)
leaf_again kind.Version (tree.Date n) h proper = absurd (cc)
leaf_again kind.List (tree.Date n) h proper = absurd (cc)
leaf_again kind.Opaque (tree.Date n) h proper = absurd (cc)
leaf_again kind.U8 (tree.Version n) h proper = absurd (cc)
leaf_again kind.I8 (tree.Version n) h proper = absurd (cc)
leaf_again kind.U16 (tree.Version n) h proper = absurd (cc)
leaf_again kind.I16 (tree.Version n) h proper = absurd (cc)
leaf_again kind.U32 (tree.Version n) h proper = absurd (cc)
leaf_again kind.I32 (tree.Version n) h proper = absurd (cc)
leaf_again kind.U64 (tree.Version n) h proper = absurd (cc)
leaf_again kind.I64 (tree.Version n) h proper = absurd (cc)
leaf_again kind.Text (tree.Version n) h proper = absurd (cc)
leaf_again kind.Date (tree.Version n) h proper = absurd (cc)
leaf_again kind.Version (tree.Version n) h proper = ap tree.Version (from_be_bytes-to_be_bytes_4 n proper)
leaf_again kind.List (tree.Version n) h proper = absurd (cc)
leaf_again kind.Opaque (tree.Version n) h proper = absurd (cc)
leaf_again kind.U8 (tree.Opaque bytes) h proper = opaque_again kind.U8 bytes h
leaf_again kind.I8 (tree.Opaque bytes) h proper = opaque_again kind.I8 bytes h
leaf_again kind.U16 (tree.Opaque bytes) h proper = opaque_again kind.U16 bytes h
leaf_again kind.I16 (tree.Opaque bytes) h proper = opaque_again kind.I16 bytes h
leaf_again kind.U32 (tree.Opaque bytes) h proper = opaque_again kind.U32 bytes h
leaf_again kind.I32 (tree.Opaque bytes) h proper = opaque_again kind.I32 bytes h
leaf_again kind.U64 (tree.Opaque bytes) h proper = opaque_again kind.U64 bytes h
leaf_again kind.I64 (tree.Opaque bytes) h proper = opaque_again kind.I64 bytes h
leaf_again kind.Text (tree.Opaque bytes) h proper = opaque_again kind.Text bytes h
leaf_again kind.Date (tree.Opaque bytes) h proper = opaque_again kind.Date bytes h
leaf_again kind.Version (tree.Opaque bytes) h proper = opaque_again kind.Version bytes h
leaf_again kind.List (tree.Opaque bytes) h proper = absurd (cc)
leaf_again kind.Opaque (tree.Opaque bytes) h proper = opaque_again kind.Opaque bytes h

sized_fits : (k : Kind) (n : ℕ) (p : List ℕ) (l : Leaf) (b : Bool) → (length p == n) ≡ b → leaf_fits k l ≡ true →
    (is_opaque (unwrap_or (if length p == n then Some l else None) (tree.Opaque p)) ≡ true → leaf_fits k (tree.Opaque p) ≡ true) →
    leaf_fits k (unwrap_or (if b then Some l else None) (tree.Opaque p)) ≡ true
sized_fits k n p l true is fit other = fit
sized_fits k n p l false is fit other = other (ap (λ b. is_opaque (unwrap_or (if b then Some l else None) (tree.Opaque p))) is)

text_fits : (p : List ℕ) (b : Bool) → is_utf8 p ≡ b → leaf_fits kind.Text (if b then tree.Text p else tree.Opaque p) ≡ true
text_fits p true is = refl
text_fits p false is = ap (λ b. is_opaque (if b then tree.Text p else tree.Opaque p)) is

-- what a kind reads in a payload fits the kind
pub leaf_fit : (k : Kind) (p : List ℕ) → is_list k ≡ false → leaf_fits k (leaf_at k p) ≡ true
leaf_fit kind.U8 p value = sized_fits kind.U8 1 p _ (length p == 1) refl refl (λ h. h)
leaf_fit kind.I8 p value = sized_fits kind.I8 1 p _ (length p == 1) refl refl (λ h. h)
leaf_fit kind.U16 p value = sized_fits kind.U16 2 p _ (length p == 2) refl refl (λ h. h)
leaf_fit kind.I16 p value = sized_fits kind.I16 2 p _ (length p == 2) refl refl (λ h. h)
leaf_fit kind.U32 p value = sized_fits kind.U32 4 p _ (length p == 4) refl refl (λ h. h)
leaf_fit kind.I32 p value = sized_fits kind.I32 4 p _ (length p == 4) refl refl (λ h. h)
leaf_fit kind.U64 p value = sized_fits kind.U64 8 p _ (length p == 8) refl refl (λ h. h)
leaf_fit kind.I64 p value = sized_fits kind.I64 8 p _ (length p == 8) refl refl (λ h. h)
leaf_fit kind.Text p value = text_fits p (is_utf8 p) refl
leaf_fit kind.Date p value = sized_fits kind.Date 4 p _ (length p == 4) refl refl (λ h. h)
leaf_fit kind.Version p value = sized_fits kind.Version 4 p _ (length p == 4) refl refl (λ h. h)
leaf_fit kind.List p value = absurd (cc)
leaf_fit kind.Opaque p value = refl

-- bytes, each of eight bits
abbrev pub AreBytes : List ℕ → Type 0
AreBytes p = (i : ℕ) → get_or p i 0 < 256

pub bytes_take : (n : ℕ) (p : List ℕ) → AreBytes p → AreBytes (take n p)
bytes_take zero p small i = omega arith
bytes_take (suc n) [] small i = omega arith
bytes_take (suc n) (a ∷ p) small zero = small 0
bytes_take (suc n) (a ∷ p) small (suc i) = bytes_take n p (λ k. small (suc k)) i

pub bytes_drop : (n : ℕ) (p : List ℕ) → AreBytes p → AreBytes (drop n p)
bytes_drop zero p small = small
bytes_drop (suc n) [] small = small
bytes_drop (suc n) (a ∷ p) small = bytes_drop n p (λ k. small (suc k))

one_byte : (p : List ℕ) → length p ≡ 1 → AreBytes p → to_be_bytes w8 (from_be_bytes w8 p) ≡ p
one_byte [] one small = absurd (cc)
one_byte (a ∷ []) one small = ap (λ n. n ∷ []) (small_byte a (small 0))
one_byte (a ∷ b ∷ p) one small = absurd (omega arith)

sized_back : (n : ℕ) (p : List ℕ) (l : Leaf) (b : Bool) → (length p == n) ≡ b → (length p ≡ n → leaf_payload l ≡ p) → leaf_payload (unwrap_or (if b then Some l else None) (tree.Opaque p)) ≡ p
sized_back n p l true is back = back (eqb-true (length p) n is)
sized_back n p l false is back = refl

text_back : (p : List ℕ) (b : Bool) → leaf_payload (if b then tree.Text p else tree.Opaque p) ≡ p
text_back p true = refl
text_back p false = refl

less_1 : (p : List ℕ) → AreBytes p → from_be_bytes w8 p < 2 ^ 8
less_1 p small = let a = small 0 in omega arith

less_2 : (p : List ℕ) → AreBytes p → from_be_bytes w16 p < 2 ^ 16
less_2 p small = let a = small 0 in let b = small 1 in omega arith

less_4 : (p : List ℕ) → AreBytes p → from_be_bytes w32 p < 2 ^ 32
less_4 p small = let a = small 0 in let b = small 1 in let c = small 2 in let d = small 3 in omega arith

less_8 : (p : List ℕ) → AreBytes p → from_be_bytes w64 p < 2 ^ 64
less_8 p small = let a = small 0 in let b = small 1 in let c = small 2 in let d = small 3 in let e = small 4 in let f = small 5 in let g = small 6 in let h = small 7 in omega arith

signed_back : (w : Width) (p : List ℕ) → from_be_bytes w p < 2 ^ bits w → to_be_bytes w (from_be_bytes w p) ≡ p → to_be_bytes w (cast_unsigned w (cast_signed w (from_be_bytes w p))) ≡ p
signed_back w p less back = ap (to_be_bytes w) (of_z-to_z w (from_be_bytes w p) less) ∙ back

-- what a kind reads in a payload has that payload
pub payload_back : (k : Kind) (p : List ℕ) → AreBytes p → leaf_payload (leaf_at k p) ≡ p
payload_back kind.U8 p small = sized_back 1 p _ (length p == 1) refl (λ count. one_byte p count small)
payload_back kind.I8 p small = sized_back 1 p _ (length p == 1) refl (λ count. signed_back w8 p (less_1 p small) (one_byte p count small))
payload_back kind.U16 p small = sized_back 2 p _ (length p == 2) refl (λ count. be_bytes_2 p _ count small refl)
payload_back kind.I16 p small = sized_back 2 p _ (length p == 2) refl (λ count. signed_back w16 p (less_2 p small) (be_bytes_2 p _ count small refl))
payload_back kind.U32 p small = sized_back 4 p _ (length p == 4) refl (λ count. be_bytes_4 p _ count small refl)
payload_back kind.I32 p small = sized_back 4 p _ (length p == 4) refl (λ count. signed_back w32 p (less_4 p small) (be_bytes_4 p _ count small refl))
payload_back kind.U64 p small = sized_back 8 p _ (length p == 8) refl (λ count. be_bytes_8 p _ count small refl)
payload_back kind.I64 p small = sized_back 8 p _ (length p == 8) refl (λ count. signed_back w64 p (less_8 p small) (be_bytes_8 p _ count small refl))
payload_back kind.Text p small = text_back p (is_utf8 p)
payload_back kind.Date p small = sized_back 4 p _ (length p == 4) refl (λ count. be_bytes_4 p _ count small refl)
payload_back kind.Version p small = sized_back 4 p _ (length p == 4) refl (λ count. be_bytes_4 p _ count small refl)
payload_back kind.List p small = refl
payload_back kind.Opaque p small = refl

sized_proper : (p : List ℕ) (l : Leaf) (b : Bool) → IsProper l → IsProper (unwrap_or (if b then Some l else None) (tree.Opaque p))
sized_proper p l true h = h
sized_proper p l false h = tt

text_proper : (p : List ℕ) (b : Bool) → is_utf8 p ≡ b → IsProper (if b then tree.Text p else tree.Opaque p)
text_proper p true is = is
text_proper p false is = tt

-- what a kind reads in a payload is a value as a program has it
pub leaf_proper : (k : Kind) (p : List ℕ) → AreBytes p → IsProper (leaf_at k p)
leaf_proper kind.U8 p small = sized_proper p _ (length p == 1) (less_1 p small)
leaf_proper kind.I8 p small = sized_proper p _ (length p == 1) (sfits_to_z (Fits-of_lt (less_1 p small)))
leaf_proper kind.U16 p small = sized_proper p _ (length p == 2) (less_2 p small)
leaf_proper kind.I16 p small = sized_proper p _ (length p == 2) (sfits_to_z (Fits-of_lt (less_2 p small)))
leaf_proper kind.U32 p small = sized_proper p _ (length p == 4) (less_4 p small)
leaf_proper kind.I32 p small = sized_proper p _ (length p == 4) (sfits_to_z (Fits-of_lt (less_4 p small)))
leaf_proper kind.U64 p small = sized_proper p _ (length p == 8) (less_8 p small)
leaf_proper kind.I64 p small = sized_proper p _ (length p == 8) (sfits_to_z (Fits-of_lt (less_8 p small)))
leaf_proper kind.Text p small = text_proper p (is_utf8 p) refl
leaf_proper kind.Date p small = sized_proper p _ (length p == 4) (less_4 p small)
leaf_proper kind.Version p small = sized_proper p _ (length p == 4) (less_4 p small)
leaf_proper kind.List p small = tt
leaf_proper kind.Opaque p small = tt
