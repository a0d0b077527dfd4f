-- Bytes begin with at most one tag: its head states its code and length, and the code its kind, which decodes the payload.
use Rattle.std.proofs.Common.{◌≡◌, ℕ, ◌<◌, ◌^◌, List, [], ◌++◌, length, take, drop, true, Option, Some, None, refl, sym, ap, ap₂, subst, ◌∙◌, arith, length-append}
use Rattle.std.specs.Int.{w32, to_be_bytes}
use Rattle.std.proofs.Math.Seq.{take-append_seam, drop-append_seam}
use Rattle.std.proofs.lemmas.Nat.{from_be_bytes-to_be_bytes_4}
use Rattle.std.proofs.lemmas.Bool.{and_parts}
use Rattle.dmap_tags.specs.Codes.{Four, code_bytes}
use Rattle.dmap_tags.specs.Tree.{Leaf, U8, Tree, leaf, list, Trees, none, more, tree_code}
use Rattle.dmap_tags.specs.Typed.{leaf_at}
use Rattle.dmap_tags.specs.Spelling.{leaf_payload, payload, spelling, spellings}
use Rattle.dmap_tags.specs.declared.kinds.Kind.{Kind}
use Rattle.dmap_tags.specs.Kinds.{is_list}
use Rattle.dmap_tags.specs.Proper.{IsProper, IsProperTag, AreProperTags}
use Rattle.dmap_tags.specs.declared.kinds.Kind.TheVariants as kind
use Rattle.code_table.specs.declared.row.CodeRow.{CodeRow}
use Rattle.code_table.specs.Rows.{kind_in}
use Rattle.code_table.specs.Fits.{leaf_fits, fits, all_fit}
use Rattle.dmap_stream.specs.WholeTag.{is_accepted, IsRoomFor}
use Rattle.dmap_stream.proofs.Heads.{IsHead}
use Rattle.dmap_stream.proofs.Spelled.{Begins, begins}
use Rattle.dmap_stream.proofs.Values.{leaf_again}
use Rattle.dmap_stream.proofs.WholeTags.{room_at_top}

-- a tag that fits at its level, and whose length fits in its head
record IsSound (rows : List CodeRow) (parent : Option Four) (t : Tree) : Type 0 where
  fit : fits rows parent t ≡ true
  proper : IsProperTag t
  told : length (payload t) < 2 ^ 32

-- the same of the members of a list
record AreSound (rows : List CodeRow) (c : Four) (ts : Trees) : Type 0 where
  fit : all_fit rows c ts ≡ true
  proper : AreProperTags ts
  told : length (spellings ts) < 2 ^ 32

-- a list's members
members : (rows : List CodeRow) (parent : Option Four) (c : Four) (ts : Trees) → IsSound rows parent (list c ts) → AreSound rows c ts
members rows parent c ts s = record { fit = (and_parts _ _ s.fit).1; proper = s.proper; told = s.told }

-- the first member
first : (rows : List CodeRow) (c : Four) (t : Tree) (ts : Trees) → AreSound rows c (more t ts) → IsSound rows (Some c) t
first rows c t ts s = record {
  fit = (and_parts _ _ s.fit).0;
  proper = s.proper.0;
  told = let less = s.told in omega (arith, length-append (payload t) (spellings ts));
}

-- the members after it
others : (rows : List CodeRow) (c : Four) (t : Tree) (ts : Trees) → AreSound rows c (more t ts) → AreSound rows c ts
others rows c t ts s = record {
  fit = (and_parts _ _ s.fit).1;
  proper = s.proper.1;
  told = let less = s.told in omega (arith, length-append (payload t) (spellings ts));
}

-- the first bytes of a tag's encoding
abbrev head : Tree → List ℕ
head t = code_bytes (tree_code t) ++ to_be_bytes w32 (length (payload t))

-- it states the code and the length
is_head : (t : Tree) → length (payload t) < 2 ^ 32 → IsHead (head t) (tree_code t) (length (payload t))
is_head t less = record { count = refl; code = refl; told = sym (from_be_bytes-to_be_bytes_4 (length (payload t)) less) }

-- two tags have the same code and the same payload, and the same rest follows them
record AreAlike (t u : Tree) (rest later : List ℕ) : Type 0 where
  code : tree_code t ≡ tree_code u
  payloads : payload t ≡ payload u
  rests : rest ≡ later

-- tags that the same bytes begin with are alike
alike : (t u : Tree) (rest later : List ℕ) → length (payload t) < 2 ^ 32 → length (payload u) < 2 ^ 32 → spelling t ++ rest ≡ spelling u ++ later → AreAlike t u rest later
alike t u rest later less small same = record {
  code = b.code;
  payloads = sym (take-append_seam (payload t) rest) ∙ ap (take (length (payload t))) b.left ∙ ap (λ n. take n (payload u ++ later)) b.count ∙ take-append_seam (payload u) later;
  rests = sym (drop-append_seam (payload t) rest) ∙ ap (drop (length (payload t))) b.left ∙ ap (λ n. drop n (payload u ++ later)) b.count ∙ drop-append_seam (payload u) later;
}
  where
    b : Begins (tree_code t) (length (payload t)) (payload t ++ rest) later u
    b = begins (head t) (payload t ++ rest) later (tree_code t) (length (payload t)) u (is_head t less) small same

-- no value has a list's kind
no_value : (k : Kind) (l : Leaf) → leaf_fits k l ≡ true → is_list k ≡ true → ⊥
no_value kind.List (U8 n) fit holds = cc
no_value k l fit holds = cc

-- values of one kind with one payload are one
same_value : (k : Kind) (l m : Leaf) → leaf_fits k l ≡ true → leaf_fits k m ≡ true → IsProper l → IsProper m → leaf_payload l ≡ leaf_payload m → l ≡ m
same_value k l m fit right proper fine same = sym (leaf_again k l fit proper) ∙ ap (leaf_at k) same ∙ leaf_again k m right fine

-- tags of one code with one payload are one
mutual
  same_tag : (rows : List CodeRow) (parent : Option Four) (t u : Tree) → IsSound rows parent t → IsSound rows parent u → tree_code t ≡ tree_code u → payload t ≡ payload u → t ≡ u
  same_tag rows parent (leaf c l) (leaf d m) s v code same =
      ap₂ leaf code (same_value (kind_in rows parent c) l m s.fit (ap (λ x. leaf_fits (kind_in rows parent x) m) code ∙ v.fit) s.proper v.proper same)
  same_tag rows parent (leaf c l) (list d us) s v code same =
      absurd (no_value (kind_in rows parent c) l s.fit (ap (λ x. is_list (kind_in rows parent x)) code ∙ (and_parts _ _ v.fit).0))
  same_tag rows parent (list c ts) (leaf d m) s v code same =
      absurd (no_value (kind_in rows parent d) m v.fit (ap (λ x. is_list (kind_in rows parent x)) (sym code) ∙ (and_parts _ _ s.fit).0))
  same_tag rows parent (list c ts) (list d us) s v code same =
      ap₂ list code (same_members rows c ts us (members rows parent c ts s) (subst (λ x. AreSound rows x us) (sym code) (members rows parent d us v)) same)

  same_members : (rows : List CodeRow) (c : Four) (ts us : Trees) → AreSound rows c ts → AreSound rows c us → spellings ts ≡ spellings us → ts ≡ us
  same_members rows c none none s v same = refl
  same_members rows c none (more u us) s v same = absurd (cc)
  same_members rows c (more t ts) none s v same = absurd (cc)
  same_members rows c (more t ts) (more u us) s v same =
      let here = first rows c t ts s in
      let there = first rows c u us v in
      let a = alike t u (spellings ts) (spellings us) here.told there.told same in
      ap₂ more (same_tag rows (Some c) t u here there a.code a.payloads) (same_members rows c ts us (others rows c t ts s) (others rows c u us v) a.rests)

-- a top tag that is accepted
at_top : (rows : List CodeRow) (limit : ℕ) (t : Tree) → limit < 2 ^ 32 → is_accepted rows limit t ≡ true → IsProperTag t → IsSound rows None t
at_top rows limit t small accepted proper =
    let room : IsRoomFor rows limit 0 [] t = room_at_top rows limit 0 t small accepted proper in
    record { fit = room.fit; proper = proper; told = room.told }

-- bytes begin with at most one tag that is accepted
pub one_tag : (rows : List CodeRow) (limit : ℕ) (t u : Tree) (more rest : List ℕ) → limit < 2 ^ 32 →
    is_accepted rows limit t ≡ true → IsProperTag t → is_accepted rows limit u ≡ true → IsProperTag u →
    spelling t ++ more ≡ spelling u ++ rest → (t ≡ u) × (more ≡ rest)
one_tag rows limit t u rest later small accepted proper right fine same =
    let here = at_top rows limit t small accepted proper in
    let there = at_top rows limit u small right fine in
    let a = alike t u rest later here.told there.told same in
    (same_tag rows None t u here there a.code a.payloads, a.rests)
