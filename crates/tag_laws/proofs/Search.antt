-- Whether some tags of a size have a decided property is decided, since there are finitely many of them.
use Rattle.std.proofs.Common.{◌≡◌, ◌⊎◌, inl, inr, ℕ, zero, suc, ◌<◌, ◌≤◌, ◌^◌, max, List, [], ◌∷◌, length, Bool, true, false, refl, subst, arith}
use Rattle.std.proofs.lemmas.Bool.{cases_eq, cases_lt}
use Rattle.std.specs.Int.{Width, w8, w16, w32, w64}
use Rattle.std.specs.Int.RustNames.{FitsSigned}
use Rattle.std.specs.Str.{is_utf8}
use lib.IntN.{ℤ, pos, negsuc}
use Rattle.dmap_tags.specs.Codes.{Four}
use Rattle.dmap_tags.specs.Tree.{Leaf, U8, I8, U16, I16, U32, I32, U64, I64, Text, Date, Version, Opaque, Tree, leaf, list, Trees, none, more}
use Rattle.dmap_show.specs.Readable.{AreBytes, IsCode, IsValue, IsTag, AreTags}
use Rattle.dmap_show.proofs.Remaining.{utf8_bytes}

abbrev pub Decided : Type 0 → Type 0
Decided P = P ⊎ (P → ⊥)

pub dec_bool : (b : Bool) → Decided (b ≡ true)
dec_bool true = inl refl
dec_bool false = inr (λ e. absurd (let bad : false ≡ true = e in cc))

pub dec_both : (P Q : Type 0) → Decided P → Decided Q → Decided (P × Q)
dec_both P Q (inl p) (inl q) = inl (p, q)
dec_both P Q (inl p) (inr never) = inr (λ x. never x.1)
dec_both P Q (inr never) d = inr (λ x. never x.0)

dec_either : (P Q : Type 0) → Decided P → Decided Q → Decided (P ⊎ Q)
dec_either P Q (inl p) d = inl (inl p)
dec_either P Q (inr never) (inl q) = inl (inr q)
dec_either P Q (inr never) (inr neither) = inr (λ x. elim x [ inl p ↦ never p | inr q ↦ neither q ])

pub dec_as : (P Q : Type 0) → (P → Q) → (Q → P) → Decided P → Decided Q
dec_as P Q to from (inl p) = inl (to p)
dec_as P Q to from (inr never) = inr (λ q. never (from q))

-- some thing of a kind has a property
abbrev pub Has : (A : Type 0) → (A → Type 0) → (A → Type 0) → Type 0
Has A In P = (a : A) × (In a × P a)

abbrev pub Below : ℕ → ℕ → Type 0
Below n k = k < n

not_below : (n : ℕ) (P : ℕ → Type 0) → (Has ℕ (Below n) P → ⊥) → (P n → ⊥) → Has ℕ (Below (suc n)) P → ⊥
not_below n P never neither x =
    elim (cases_eq x.0 n) [
      | inl e ↦ neither (subst P e x.1.1)
      | inr ne ↦ never (x.0, ((let below : x.0 < suc n = x.1.0 in elim (cases_lt x.0 n) [ inl l ↦ l | inr ge ↦ absurd (ne (omega arith)) ]), x.1.1))
    ]

some_below : (n : ℕ) (P : ℕ → Type 0) → ((k : ℕ) → Decided (P k)) → Decided (Has ℕ (Below n) P)
some_below zero P d = inr (λ x. absurd (let never : x.0 < 0 = x.1.0 in omega arith))
some_below (suc n) P d =
    elim (some_below n P d) [
      | inl x ↦ inl (x.0, ((let below : x.0 < n = x.1.0 in omega arith), x.1.1))
      | inr never ↦ elim (d n) [
        | inl p ↦ inl (n, (omega arith, p))
        | inr neither ↦ inr (not_below n P never neither)
      ]
    ]

abbrev pub AreShort : ℕ → List ℕ → Type 0
AreShort m bytes = (length bytes ≤ m) × AreBytes bytes

no_bytes : (P : List ℕ → Type 0) → (P [] → ⊥) → (bytes : List ℕ) → AreShort 0 bytes → P bytes → ⊥
no_bytes P never [] h p = never p
no_bytes P never (b ∷ bytes) h p = let bad : length (b ∷ bytes) ≤ 0 = h.0 in absurd (omega arith)

abbrev More : ℕ → (List ℕ → Type 0) → ℕ → Type 0
More m P b = Has (List ℕ) (AreShort m) (λ bytes. P (b ∷ bytes))

no_longer : (m : ℕ) (P : List ℕ → Type 0) → (P [] → ⊥) → (Has ℕ (Below 256) (More m P) → ⊥) → (bytes : List ℕ) → AreShort (suc m) bytes → P bytes → ⊥
no_longer m P never neither [] h p = never p
no_longer m P never neither (b ∷ bytes) h p = neither (b, (h.1.0, (bytes, (((let le : length (b ∷ bytes) ≤ suc m = h.0 in omega arith), h.1.1), p))))

some_bytes : (m : ℕ) (P : List ℕ → Type 0) → ((bytes : List ℕ) → Decided (P bytes)) → Decided (Has (List ℕ) (AreShort m) P)
some_bytes zero P d =
    elim (d []) [
      | inl p ↦ inl ([], ((omega arith, tt), p))
      | inr never ↦ inr (λ x. no_bytes P never x.0 x.1.0 x.1.1)
    ]
some_bytes (suc m) P d =
    elim (d []) [
      | inl p ↦ inl ([], ((omega arith, tt), p))
      | inr never ↦ elim (some_below 256 (More m P) (λ b. some_bytes m (λ bytes. P (b ∷ bytes)) (λ bytes. d (b ∷ bytes)))) [
        | inl x ↦ inl (x.0 ∷ x.1.1.0, (((let le : length x.1.1.0 ≤ m = x.1.1.1.0.0 in omega arith), (x.1.0, x.1.1.1.0.1)), x.1.1.1.1))
        | inr neither ↦ inr (λ x. no_longer m P never neither x.0 x.1.0 x.1.1)
      ]
    ]

-- codes, byte by byte
abbrev Code4 : (Four → Type 0) → ℕ → ℕ → ℕ → Type 0
Code4 P a b c = Has ℕ (Below 256) (λ d. P (a, b, c, d))

abbrev Code3 : (Four → Type 0) → ℕ → ℕ → Type 0
Code3 P a b = Has ℕ (Below 256) (Code4 P a b)

abbrev Code2 : (Four → Type 0) → ℕ → Type 0
Code2 P a = Has ℕ (Below 256) (Code3 P a)

some_code : (P : Four → Type 0) → ((c : Four) → Decided (P c)) → Decided (Has Four IsCode P)
some_code P d =
    dec_as (Has ℕ (Below 256) (Code2 P)) (Has Four IsCode P)
    (λ x. ((x.0, x.1.1.0, x.1.1.1.1.0, x.1.1.1.1.1.1.0), ((x.1.0, (x.1.1.1.0, (x.1.1.1.1.1.0, x.1.1.1.1.1.1.1.0))), x.1.1.1.1.1.1.1.1)))
    (λ y. (y.0.0, (y.1.0.0, (y.0.1, (y.1.0.1.0, (y.0.2, (y.1.0.1.1.0, (y.0.3, (y.1.0.1.1.1, y.1.1)))))))))
    (some_below 256 (Code2 P) (λ a. some_below 256 (Code3 P a) (λ b. some_below 256 (Code4 P a b) (λ c. some_below 256 (λ e. P (a, b, c, e)) (λ e. d (a, b, c, e))))))

-- numbers with a sign
record Halved (w : Width) (half : ℕ) : Type 0 where
  up : (n : ℕ) → n < half → FitsSigned w (pos n)
  down : (n : ℕ) → n < half → FitsSigned w (negsuc n)
  up_back : (n : ℕ) → FitsSigned w (pos n) → n < half
  down_back : (n : ℕ) → FitsSigned w (negsuc n) → n < half

abbrev Signs : ℕ → (ℤ → Type 0) → Type 0
Signs half P = Has ℕ (Below half) (λ n. P (pos n)) ⊎ Has ℕ (Below half) (λ n. P (negsuc n))

signed_to : (w : Width) (half : ℕ) → Halved w half → (P : ℤ → Type 0) → Signs half P → Has ℤ (FitsSigned w) P
signed_to w half h P (inl x) = (pos x.0, (h.up x.0 x.1.0, x.1.1))
signed_to w half h P (inr x) = (negsuc x.0, (h.down x.0 x.1.0, x.1.1))

signed_from : (w : Width) (half : ℕ) → Halved w half → (P : ℤ → Type 0) → (z : ℤ) → FitsSigned w z → P z → Signs half P
signed_from w half h P (pos n) fit p = inl (n, (h.up_back n fit, p))
signed_from w half h P (negsuc n) fit p = inr (n, (h.down_back n fit, p))

some_signed : (w : Width) (half : ℕ) → Halved w half → (P : ℤ → Type 0) → ((z : ℤ) → Decided (P z)) → Decided (Has ℤ (FitsSigned w) P)
some_signed w half h P d =
    dec_as (Signs half P) (Has ℤ (FitsSigned w) P) (signed_to w half h P) (λ x. signed_from w half h P x.0 x.1.0 x.1.1)
    (dec_either _ _ (some_below half (λ n. P (pos n)) (λ n. d (pos n))) (some_below half (λ n. P (negsuc n)) (λ n. d (negsuc n))))

halved_8 : Halved w8 (2 ^ 7)
halved_8 = record {
  up = λ n h. record { sfits = omega arith };
  down = λ n h. record { sfits = omega arith };
  up_back = λ n h. let k = h.sfits in omega arith;
  down_back = λ n h. let k = h.sfits in omega arith;
}

halved_16 : Halved w16 (2 ^ 15)
halved_16 = record {
  up = λ n h. record { sfits = omega arith };
  down = λ n h. record { sfits = omega arith };
  up_back = λ n h. let k = h.sfits in omega arith;
  down_back = λ n h. let k = h.sfits in omega arith;
}

halved_32 : Halved w32 (2 ^ 31)
halved_32 = record {
  up = λ n h. record { sfits = omega arith };
  down = λ n h. record { sfits = omega arith };
  up_back = λ n h. let k = h.sfits in omega arith;
  down_back = λ n h. let k = h.sfits in omega arith;
}

halved_64 : Halved w64 (2 ^ 63)
halved_64 = record {
  up = λ n h. record { sfits = omega arith };
  down = λ n h. record { sfits = omega arith };
  up_back = λ n h. let k = h.sfits in omega arith;
  down_back = λ n h. let k = h.sfits in omega arith;
}

-- how many bytes a value has, if it is not a number
abbrev pub leaf_size : Leaf → ℕ
leaf_size (Text bytes) = length bytes
leaf_size (Opaque bytes) = length bytes
leaf_size _ = 0

abbrev pub IsSmallLeaf : ℕ → Leaf → Type 0
IsSmallLeaf m l = IsValue l × (leaf_size l ≤ m)

abbrev TextOf : (Leaf → Type 0) → List ℕ → Type 0
TextOf P bytes = (is_utf8 bytes ≡ true) × P (Text bytes)

-- one of each kind
abbrev Kinds : ℕ → (Leaf → Type 0) → Type 0
Kinds m P =
    Has ℕ (Below (2 ^ 8)) (λ n. P (U8 n))
    ⊎ (Has ℤ (FitsSigned w8) (λ z. P (I8 z))
    ⊎ (Has ℕ (Below (2 ^ 16)) (λ n. P (U16 n))
    ⊎ (Has ℤ (FitsSigned w16) (λ z. P (I16 z))
    ⊎ (Has ℕ (Below (2 ^ 32)) (λ n. P (U32 n))
    ⊎ (Has ℤ (FitsSigned w32) (λ z. P (I32 z))
    ⊎ (Has ℕ (Below (2 ^ 64)) (λ n. P (U64 n))
    ⊎ (Has ℤ (FitsSigned w64) (λ z. P (I64 z))
    ⊎ (Has (List ℕ) (AreShort m) (TextOf P)
    ⊎ (Has ℕ (Below (2 ^ 32)) (λ n. P (Date n))
    ⊎ (Has ℕ (Below (2 ^ 32)) (λ n. P (Version n))
    ⊎ (Has (List ℕ) (AreShort m) (λ bytes. P (Opaque bytes)))))))))))))

leaf_to : (m : ℕ) (P : Leaf → Type 0) → Kinds m P → Has Leaf (IsSmallLeaf m) P
leaf_to m P (inl x) = (U8 x.0, ((x.1.0, omega arith), x.1.1))
leaf_to m P (inr (inl x)) = (I8 x.0, ((x.1.0, omega arith), x.1.1))
leaf_to m P (inr (inr (inl x))) = (U16 x.0, ((x.1.0, omega arith), x.1.1))
leaf_to m P (inr (inr (inr (inl x)))) = (I16 x.0, ((x.1.0, omega arith), x.1.1))
leaf_to m P (inr (inr (inr (inr (inl x))))) = (U32 x.0, ((x.1.0, omega arith), x.1.1))
leaf_to m P (inr (inr (inr (inr (inr (inl x)))))) = (I32 x.0, ((x.1.0, omega arith), x.1.1))
leaf_to m P (inr (inr (inr (inr (inr (inr (inl x))))))) = (U64 x.0, ((x.1.0, omega arith), x.1.1))
leaf_to m P (inr (inr (inr (inr (inr (inr (inr (inl x)))))))) = (I64 x.0, ((x.1.0, omega arith), x.1.1))
leaf_to m P (inr (inr (inr (inr (inr (inr (inr (inr (inl x))))))))) = (Text x.0, ((x.1.1.0, x.1.0.0), x.1.1.1))
leaf_to m P (inr (inr (inr (inr (inr (inr (inr (inr (inr (inl x)))))))))) = (Date x.0, ((x.1.0, omega arith), x.1.1))
leaf_to m P (inr (inr (inr (inr (inr (inr (inr (inr (inr (inr (inl x))))))))))) = (Version x.0, ((x.1.0, omega arith), x.1.1))
leaf_to m P (inr (inr (inr (inr (inr (inr (inr (inr (inr (inr (inr (x)))))))))))) = (Opaque x.0, ((x.1.0.1, x.1.0.0), x.1.1))

leaf_from : (m : ℕ) (P : Leaf → Type 0) → (l : Leaf) → IsSmallLeaf m l → P l → Kinds m P
leaf_from m P (U8 x) h p = inl (x, (h.0, p))
leaf_from m P (I8 x) h p = inr (inl (x, (h.0, p)))
leaf_from m P (U16 x) h p = inr (inr (inl (x, (h.0, p))))
leaf_from m P (I16 x) h p = inr (inr (inr (inl (x, (h.0, p)))))
leaf_from m P (U32 x) h p = inr (inr (inr (inr (inl (x, (h.0, p))))))
leaf_from m P (I32 x) h p = inr (inr (inr (inr (inr (inl (x, (h.0, p)))))))
leaf_from m P (U64 x) h p = inr (inr (inr (inr (inr (inr (inl (x, (h.0, p))))))))
leaf_from m P (I64 x) h p = inr (inr (inr (inr (inr (inr (inr (inl (x, (h.0, p)))))))))
leaf_from m P (Text x) h p = inr (inr (inr (inr (inr (inr (inr (inr (inl (x, ((h.1, utf8_bytes x h.0), (h.0, p)))))))))))
leaf_from m P (Date x) h p = inr (inr (inr (inr (inr (inr (inr (inr (inr (inl (x, (h.0, p)))))))))))
leaf_from m P (Version x) h p = inr (inr (inr (inr (inr (inr (inr (inr (inr (inr (inl (x, (h.0, p))))))))))))
leaf_from m P (Opaque x) h p = inr (inr (inr (inr (inr (inr (inr (inr (inr (inr (inr ((x, ((h.1, h.0), p)))))))))))))

some_leaf : (m : ℕ) (P : Leaf → Type 0) → ((l : Leaf) → Decided (P l)) → Decided (Has Leaf (IsSmallLeaf m) P)
some_leaf m P d =
    dec_as (Kinds m P) (Has Leaf (IsSmallLeaf m) P) (leaf_to m P) (λ x. leaf_from m P x.0 x.1.0 x.1.1)
    (dec_either _ _ (some_below (2 ^ 8) (λ n. P (U8 n)) (λ n. d (U8 n)))
    (dec_either _ _ (some_signed w8 (2 ^ 7) halved_8 (λ z. P (I8 z)) (λ z. d (I8 z)))
    (dec_either _ _ (some_below (2 ^ 16) (λ n. P (U16 n)) (λ n. d (U16 n)))
    (dec_either _ _ (some_signed w16 (2 ^ 15) halved_16 (λ z. P (I16 z)) (λ z. d (I16 z)))
    (dec_either _ _ (some_below (2 ^ 32) (λ n. P (U32 n)) (λ n. d (U32 n)))
    (dec_either _ _ (some_signed w32 (2 ^ 31) halved_32 (λ z. P (I32 z)) (λ z. d (I32 z)))
    (dec_either _ _ (some_below (2 ^ 64) (λ n. P (U64 n)) (λ n. d (U64 n)))
    (dec_either _ _ (some_signed w64 (2 ^ 63) halved_64 (λ z. P (I64 z)) (λ z. d (I64 z)))
    (dec_either _ _ (some_bytes m (TextOf P) (λ bytes. dec_both _ _ (dec_bool (is_utf8 bytes)) (d (Text bytes))))
    (dec_either _ _ (some_below (2 ^ 32) (λ n. P (Date n)) (λ n. d (Date n)))
    (dec_either _ _ (some_below (2 ^ 32) (λ n. P (Version n)) (λ n. d (Version n)))
    (some_bytes m (λ bytes. P (Opaque bytes)) (λ bytes. d (Opaque bytes))))))))))))))

-- how large tags are: deep, or many, or with long values
abbrev mutual
  pub extent : Tree → ℕ
  extent (leaf c l) = suc (leaf_size l)
  extent (list c ts) = suc (extents ts)

  pub extents : Trees → ℕ
  extents none = 0
  extents (more t ts) = suc (max (extent t) (extents ts))

abbrev pub IsSmall : ℕ → Tree → Type 0
IsSmall m t = IsTag t × (extent t ≤ m)

abbrev pub AreSmall : ℕ → Trees → Type 0
AreSmall m ts = AreTags ts × (extents ts ≤ m)

abbrev Leaves : ℕ → (Tree → Type 0) → Four → Type 0
Leaves m P c = Has Leaf (IsSmallLeaf m) (λ l. P (leaf c l))

abbrev Lists : ℕ → (Tree → Type 0) → Four → Type 0
Lists m P c = Has Trees (AreSmall m) (λ ts. P (list c ts))

abbrev TagCases : ℕ → (Tree → Type 0) → Type 0
TagCases m P = Has Four IsCode (Leaves m P) ⊎ Has Four IsCode (Lists m P)

tag_to : (m : ℕ) (P : Tree → Type 0) → TagCases m P → Has Tree (IsSmall (suc m)) P
tag_to m P (inl x) = (leaf x.0 x.1.1.0, (((x.1.0, x.1.1.1.0.0), (let le = x.1.1.1.0.1 in omega arith)), x.1.1.1.1))
tag_to m P (inr x) = (list x.0 x.1.1.0, (((x.1.0, x.1.1.1.0.0), (let le = x.1.1.1.0.1 in omega arith)), x.1.1.1.1))

tag_from : (m : ℕ) (P : Tree → Type 0) → (t : Tree) → IsSmall (suc m) t → P t → TagCases m P
tag_from m P (leaf c l) h p = inl (c, (h.0.0, (l, ((h.0.1, (let le = h.1 in omega arith)), p))))
tag_from m P (list c ts) h p = inr (c, (h.0.0, (ts, ((h.0.1, (let le = h.1 in omega arith)), p))))

no_extent : (t : Tree) → extent t ≤ 0 → ⊥
no_extent (leaf c l) h = absurd (omega arith)
no_extent (list c ts) h = absurd (omega arith)

abbrev Next : ℕ → (Trees → Type 0) → Tree → Type 0
Next m P t = Has Trees (AreSmall m) (λ ts. P (more t ts))

abbrev TagsCases : ℕ → (Trees → Type 0) → Type 0
TagsCases m P = P none ⊎ Has Tree (IsSmall m) (Next m P)

tags_to : (m : ℕ) (P : Trees → Type 0) → TagsCases m P → Has Trees (AreSmall (suc m)) P
tags_to m P (inl p) = (none, ((tt, omega arith), p))
tags_to m P (inr x) =
    (more x.0 x.1.1.0, (((x.1.0.0, x.1.1.1.0.0), (let first = x.1.0.1 in let others = x.1.1.1.0.1 in omega arith)), x.1.1.1.1))

tags_from : (m : ℕ) (P : Trees → Type 0) → (ts : Trees) → AreSmall (suc m) ts → P ts → TagsCases m P
tags_from m P none h p = inl p
tags_from m P (more t ts) h p =
    inr (t, ((h.0.0, (let le = h.1 in omega arith)), (ts, ((h.0.1, (let le = h.1 in omega arith)), p))))

none_alone : (P : Trees → Type 0) → (ts : Trees) → AreSmall 0 ts → P ts → P none
none_alone P none h p = p
none_alone P (more t ts) h p = absurd (let le = h.1 in omega arith)

mutual
  some_tag : (m : ℕ) (P : Tree → Type 0) → ((t : Tree) → Decided (P t)) → Decided (Has Tree (IsSmall m) P)
  some_tag zero P d = inr (λ x. no_extent x.0 x.1.0.1)
  some_tag (suc m) P d =
      dec_as (TagCases m P) (Has Tree (IsSmall (suc m)) P) (tag_to m P) (λ x. tag_from m P x.0 x.1.0 x.1.1)
      (dec_either _ _ (some_code (Leaves m P) (λ c. some_leaf m (λ l. P (leaf c l)) (λ l. d (leaf c l))))
      (some_code (Lists m P) (λ c. some_tags m (λ ts. P (list c ts)) (λ ts. d (list c ts)))))

  pub some_tags : (m : ℕ) (P : Trees → Type 0) → ((ts : Trees) → Decided (P ts)) → Decided (Has Trees (AreSmall m) P)
  some_tags zero P d =
      dec_as (P none) (Has Trees (AreSmall 0) P) (λ p. (none, ((tt, omega arith), p))) (λ x. none_alone P x.0 x.1.0 x.1.1) (d none)
  some_tags (suc m) P d =
      dec_as (TagsCases m P) (Has Trees (AreSmall (suc m)) P) (tags_to m P) (λ x. tags_from m P x.0 x.1.0 x.1.1)
      (dec_either _ _ (d none) (some_tag m (Next m P) (λ t. some_tags m (λ ts. P (more t ts)) (λ ts. d (more t ts)))))
