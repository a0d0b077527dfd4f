-- A scan ends exactly at the end of a framed head, and so no framed head is a prefix of another.
use Rattle.std.proofs.Common.{◌≡◌, ◌≢◌, ℕ, suc, ◌+◌, List, [], ◌∷◌, ◌++◌, length, Option, Some, None, option_and_then, Bool, true, false, not, ◌&&◌, if◌then◌else◌, ◌==◌, refl, sym, ap, ◌∙◌, subst, append_assoc, append-nil, arith, add-zero, add-one, zero-add, inl, inr}
use Rattle.std.proofs.lemmas.Bool.{and_parts, and_from, not-true, cond-true, cond-false, eqb-true, ne_eqb, true≢false, cases_Bool, not_from_false}
use Rattle.std.proofs.lemmas.List.{length_push, nil_from_length}
use Rattle.std.proofs.lemmas.Option.{option_and_then_some, same_Some, cond_some}
use Rattle.std.specs.List.{list_all}
use Rattle.http_heads.specs.declared.scanning.Begun.{Begun}
use Rattle.http_heads.specs.declared.scanning.Begun.TheVariants.{Nothing, Return, Text}
use Rattle.http_heads.specs.declared.scanning.Scan.{Scan}
use Rattle.http_heads.specs.Frames.{is_line, is_empty_line, is_full_line, print_line, print_lines, Frame, print_frame, IsFrame, IsFramed, HasNoFrame}
use Rattle.http_heads.specs.Scanning.{start, begun_with, at_line_end, after_byte, after}
use Rattle.http_heads.proofs.Scans.{after_both, after_ended}

-- what a line has begun with
abbrev pub begun_of : List ℕ → Begun
begun_of [] = Nothing
begun_of (b ∷ []) = begun_with Nothing b
begun_of (b ∷ c ∷ cs) = Text

-- the state after `lines` full lines and this part of a line
abbrev pub within_line : ℕ → List ℕ → Scan
within_line n part = record { full = n; begun = begun_of part }

pub begun_more : (part : List ℕ) (b : ℕ) → begun_of (part ++ b ∷ []) ≡ begun_with (begun_of part) b
begun_more [] b = refl
begun_more (x ∷ []) b = by_return (x == 13)
  where
    by_return : (t : Bool) → Text ≡ begun_with (if t then Return else Text) b
    by_return true = refl
    by_return false = refl
begun_more (x ∷ y ∷ ys) b = refl

-- a byte that ends no line
pub byte_in_line : (s : Scan) (b : ℕ) → not (b == 10) ≡ true → after_byte s b ≡ Some (record { full = s.full; begun = begun_with s.begun b })
byte_in_line s b e = cond-false (b == 10) _ _ (not-true (b == 10) e)

-- over the rest of a line
pub along_line : (n : ℕ) (part line : List ℕ) → is_line line ≡ true → after (within_line n part) line ≡ Some (within_line n (part ++ line))
along_line n part [] e = ap (λ p. Some (within_line n p)) (sym (append-nil part))
along_line n part (b ∷ bs) e =
    let parts = and_parts (not (b == 10)) (is_line bs) e in
    ap (option_and_then (λ t. after t bs)) (byte_in_line (within_line n part) b parts.0)
    ∙ ap (λ (begun : Begun). after (record { full = n; begun = begun }) bs) (sym (begun_more part b))
    ∙ along_line n (part ++ b ∷ []) bs parts.1
    ∙ ap (λ p. Some (within_line n p)) (append_assoc part (b ∷ []) bs)

-- an empty line has nothing but perhaps a carriage return
empty_begun : (line : List ℕ) → is_empty_line line ≡ true → (is_line line ≡ true) × ((full : ℕ) → at_line_end (begun_of line) full ≡ (if full == 0 then Some start else None))
empty_begun [] e = (refl, λ full. refl)
empty_begun (b ∷ []) e =
    let is : b ≡ 13 = eqb-true b 13 (and_parts (b == 13) true e).0 in (
      ap (λ n. is_line (n ∷ [])) is,
      λ full. ap (λ n. at_line_end (begun_of (n ∷ [])) full) is,
    )
empty_begun (b ∷ c ∷ cs) e = absurd (true≢false (sym (and_parts (b == 13) false e).1))

-- a line that is not empty has more
full_begun : (line : List ℕ) → is_empty_line line ≡ false → begun_of line ≡ Text
full_begun [] e = cc
full_begun (b ∷ []) e = by_return (b == 13) e
  where
    by_return : (t : Bool) → (t && true) ≡ false → (if t then Return else Text) ≡ Text
    by_return true h = cc
    by_return false h = refl
full_begun (b ∷ c ∷ cs) e = refl

-- over a whole line
pub over_line : (n : ℕ) (line : List ℕ) → is_line line ≡ true → after (within_line n []) (print_line line) ≡ after_byte (within_line n line) 10
over_line n line e = after_both (within_line n []) (within_line n line) line (10 ∷ []) (along_line n [] line e) ∙ kept (after_byte (within_line n line) 10)
  where
    kept : (o : Option Scan) → option_and_then (λ u. after u []) o ≡ o
    kept None = refl
    kept (Some u) = refl

over_blank : (lines : List (List ℕ)) → list_all is_empty_line lines ≡ true → after start (print_lines lines) ≡ Some start
over_blank [] e = refl
over_blank (line ∷ lines) e =
    let parts = and_parts (is_empty_line line) (list_all is_empty_line lines) e in
    let empty = empty_begun line parts.0 in
    after_both start start (print_line line) (print_lines lines) (over_line 0 line empty.0 ∙ empty.1 0) ∙ over_blank lines parts.1

over_full : (n : ℕ) (lines : List (List ℕ)) → list_all is_full_line lines ≡ true → after (within_line n []) (print_lines lines) ≡ Some (within_line (n + length lines) [])
over_full n [] e = ap (λ m. Some (within_line m [])) (sym (add-zero n))
over_full n (line ∷ lines) e =
    let parts = and_parts (is_full_line line) (list_all is_full_line lines) e in
    let line_parts = and_parts (is_line line) (not (is_empty_line line)) parts.0 in
    let begun : begun_of line ≡ Text = full_begun line (not-true (is_empty_line line) line_parts.1) in
    after_both (within_line n []) (within_line (suc n) []) (print_line line) (print_lines lines)
    (over_line n line line_parts.0 ∙ ap (λ b. at_line_end b n) begun)
    ∙ over_full (suc n) lines parts.1
    ∙ ap (λ m. Some (within_line m [])) (let same : suc n + length lines ≡ n + suc (length lines) = omega arith in same)

-- the scan ends with the last of these bytes, after `lines` full lines
pub record EndsAt (bytes : List ℕ) (lines : ℕ) : Type 0 where
  pub front : List ℕ
  pub byte : ℕ
  pub scan : Scan
  pub spelled : bytes ≡ front ++ byte ∷ []
  pub goes : after start front ≡ Some scan
  pub ends : after_byte scan byte ≡ None
  pub count : scan.full ≡ lines

some_lines : (lines : List (List ℕ)) → lines ≢ [] → (length lines == 0) ≡ false
some_lines [] e = absurd (e refl)
some_lines (l ∷ ls) e = ne_eqb (suc (length ls)) 0 (λ (h : suc (length ls) ≡ 0). omega arith)

pub frame_ends : (f : Frame) → IsFrame f → EndsAt (print_frame f) (length f.full)
frame_ends f h =
    let empty = empty_begun f.last h.last in
    record {
      front = print_lines f.blank ++ (print_lines f.full ++ f.last);
      byte = 10;
      scan = within_line (0 + length f.full) f.last;
      spelled = joined (print_lines f.blank) (print_lines f.full) f.last (10 ∷ []);
      goes =
          after_both start start (print_lines f.blank) (print_lines f.full ++ f.last) (over_blank f.blank h.blank)
          ∙ after_both start (within_line (0 + length f.full) []) (print_lines f.full) f.last (over_full 0 f.full h.full)
          ∙ along_line (0 + length f.full) [] f.last empty.0;
      ends = empty.1 (0 + length f.full) ∙ cond-false (0 + length f.full == 0) _ _ (ap (λ n. n == 0) (zero-add (length f.full)) ∙ some_lines f.full h.some);
      count = omega arith;
    }
  where
    joined : (a b c d : List ℕ) → a ++ (b ++ (c ++ d)) ≡ (a ++ (b ++ c)) ++ d
    joined a b c d = simp append_assoc

pub framed_ends : (bytes : List ℕ) (lines : ℕ) → IsFramed bytes lines → EndsAt bytes lines
framed_ends bytes lines (f, h, spelled, count) =
    let e = frame_ends f h in
    record {
      front = e.front;
      byte = e.byte;
      scan = e.scan;
      spelled = spelled ∙ e.spelled;
      goes = e.goes;
      ends = e.ends;
      count = e.count ∙ sym count;
    }

-- two scans of the same bytes end at the same byte
same_end : (s t u : Scan) (f : List ℕ) (x : ℕ) (p : List ℕ) (g : List ℕ) (y : ℕ) (q : List ℕ) → after s f ≡ Some t → after_byte t x ≡ None
    → after s g ≡ Some u → after_byte u y ≡ None → f ++ x ∷ p ≡ g ++ y ∷ q → (f ≡ g) × (x ≡ y) × (p ≡ q)
same_end s t u [] x p [] y q a b c d e = (refl, (let same : x ≡ y = cc in same), (let same : p ≡ q = cc in same))
same_end s t u [] x p (z ∷ zs) y q a b c d e =
    let none : after_byte s z ≡ None = cc in
    let lost : after s (z ∷ zs) ≡ None = ap (option_and_then (λ v. after v zs)) none in
    absurd (cc)
same_end s t u (z ∷ zs) x p [] y q a b c d e =
    let none : after_byte s z ≡ None = cc in
    let lost : after s (z ∷ zs) ≡ None = ap (option_and_then (λ v. after v zs)) none in
    absurd (cc)
same_end s t u (z ∷ zs) x p (w ∷ ws) y q a b c d e =
    let first : z ≡ w = cc in
    let rest : zs ++ x ∷ p ≡ ws ++ y ∷ q = cc in
    option_and_then_some (λ v. after v zs) (after_byte s z) t a
    (λ v h left.
    let right : after v ws ≡ Some u = ap (option_and_then (λ r. after r ws)) (sym h ∙ ap (after_byte s) first) ∙ c in
    let same = same_end v t u zs x p ws y q left b right d rest in
    ((let k : (z ∷ zs) ≡ (w ∷ ws) = cc (first, same.0) in k), same.1, same.2))

regroup : (f : List ℕ) (x : ℕ) (p : List ℕ) → (f ++ x ∷ []) ++ p ≡ f ++ x ∷ p
regroup f x p = append_assoc f (x ∷ []) p

-- no framed head is a prefix of another
pub framed_once : (a b p q : List ℕ) (m n : ℕ) → IsFramed a m → IsFramed b n → a ++ p ≡ b ++ q → (a ≡ b) × (p ≡ q) × (m ≡ n)
framed_once a b p q m n x y e =
    let ends = framed_ends a m x in
    let other = framed_ends b n y in
    let left : a ++ p ≡ ends.front ++ ends.byte ∷ p = ap (λ r. r ++ p) ends.spelled ∙ regroup ends.front ends.byte p in
    let right : b ++ q ≡ other.front ++ other.byte ∷ q = ap (λ r. r ++ q) other.spelled ∙ regroup other.front other.byte q in
    let same = same_end start ends.scan other.scan ends.front ends.byte p other.front other.byte q
    ends.goes ends.ends other.goes other.ends (sym left ∙ e ∙ right) in
    let fronts : ends.front ≡ other.front = same.0 in
    let scans : Some ends.scan ≡ Some other.scan = sym ends.goes ∙ ap (after start) fronts ∙ other.goes in (
      (let whole : a ≡ b = cc (ends.spelled, other.spelled, same.0, same.1) in whole),
      same.2,
      (let scan : ends.scan ≡ other.scan = cc in sym ends.count ∙ ap (λ (s : Scan). s.full) scan ∙ other.count),
    )

-- if the scan of bytes does not end, then they do not begin with a framed head
pub no_frame : (bytes : List ℕ) (s : Scan) → after start bytes ≡ Some s → HasNoFrame bytes
no_frame bytes s e front rest lines split h =
    let ends = framed_ends front lines h in
    let spelled : bytes ≡ ends.front ++ ends.byte ∷ rest = split ∙ ap (λ r. r ++ rest) ends.spelled ∙ regroup ends.front ends.byte rest in
    let lost : after start bytes ≡ None = ap (after start) spelled ∙ after_ended start ends.scan ends.front ends.byte rest ends.goes ends.ends in
    absurd (cc)

-- ---- from a scan back to lines

-- what has come is empty lines, full lines and a part of a line
pub record Stands (bytes : List ℕ) (s : Scan) : Type 0 where
  pub blank : List (List ℕ)
  pub full : List (List ℕ)
  pub part : List ℕ
  pub blank_is : list_all is_empty_line blank ≡ true
  pub full_is : list_all is_full_line full ≡ true
  pub part_is : is_line part ≡ true
  pub spelled : bytes ≡ print_lines blank ++ (print_lines full ++ part)
  pub scan_is : s ≡ within_line (length full) part

all_more : {A : Type 0} (test : A → Bool) (xs : List A) (x : A) → list_all test xs ≡ true → test x ≡ true → list_all test (xs ++ x ∷ []) ≡ true
all_more test [] x e h = and_from (test x) true h refl
all_more test (y ∷ ys) x e h =
    let parts = and_parts (test y) (list_all test ys) e in
    and_from (test y) (list_all test (ys ++ x ∷ [])) parts.0 (all_more test ys x parts.1 h)

lines_more : (lines : List (List ℕ)) (line : List ℕ) → print_lines (lines ++ line ∷ []) ≡ print_lines lines ++ print_line line
lines_more [] line = append-nil (print_line line)
lines_more (l ∷ ls) line = ap (λ r. print_line l ++ r) (lines_more ls line) ∙ sym (append_assoc (print_line l) (print_lines ls) (print_line line))

begun_empty : (part : List ℕ) → begun_of part ≢ Text → is_empty_line part ≡ true
begun_empty [] e = refl
begun_empty (b ∷ []) e = by_return (b == 13) e
  where
    by_return : (t : Bool) → (if t then Return else Text) ≢ Text → (t && true) ≡ true
    by_return true h = refl
    by_return false h = absurd (h refl)
begun_empty (b ∷ c ∷ cs) e = absurd (e refl)

begun_full : (part : List ℕ) → begun_of part ≡ Text → is_empty_line part ≡ false
begun_full [] e = cc
begun_full (b ∷ []) e = by_return (b == 13) e
  where
    by_return : (t : Bool) → (if t then Return else Text) ≡ Text → (t && true) ≡ false
    by_return true h = cc
    by_return false h = refl
begun_full (b ∷ c ∷ cs) e = by_return (b == 13)
  where
    by_return : (t : Bool) → (t && false) ≡ false
    by_return true = refl
    by_return false = refl

by_begun : (begun : Begun) (full : ℕ) (G : Type 0) → (begun ≡ Text → at_line_end begun full ≡ Some (record { full = suc full; begun = Nothing }) → G)
    → (begun ≢ Text → at_line_end begun full ≡ (if full == 0 then Some start else None) → G) → G
by_begun Nothing full G t e = e (λ h. cc) refl
by_begun Return full G t e = e (λ h. cc) refl
by_begun Text full G t e = t refl refl

in_line : (n : ℕ) (part : List ℕ) (b : ℕ) (t : Scan) → (b == 10) ≡ false → after_byte (within_line n part) b ≡ Some t → t ≡ within_line n (part ++ b ∷ [])
in_line n part b t inside e =
    let same : Some (record { full = n; begun = begun_with (begun_of part) b }) ≡ Some t = sym (byte_in_line (within_line n part) b (not_from_false (b == 10) inside)) ∙ e in
    sym (same_Some _ _ same) ∙ ap (λ (begun : Begun). record { full = n; begun = begun }) (sym (begun_more part b))

four : (a b c d : List ℕ) → (a ++ (b ++ c)) ++ d ≡ a ++ (b ++ (c ++ d))
four a b c d = simp append_assoc

stays_in_line : (bytes : List ℕ) (s t : Scan) (b : ℕ) → Stands bytes s → (b == 10) ≡ false → after_byte s b ≡ Some t → Stands (bytes ++ b ∷ []) t
stays_in_line bytes s t b h inside e = record {
  blank = h.blank;
  full = h.full;
  part = h.part ++ b ∷ [];
  blank_is = h.blank_is;
  full_is = h.full_is;
  part_is = all_more (λ c. not (c == 10)) h.part b h.part_is (not_from_false (b == 10) inside);
  spelled = ap (λ r. r ++ b ∷ []) h.spelled ∙ four (print_lines h.blank) (print_lines h.full) h.part (b ∷ []);
  scan_is = in_line (length h.full) h.part b t inside (ap (λ r. after_byte r b) (sym h.scan_is) ∙ e);
}

-- a line feed, whatever the line has begun with
at_feed : (s : Scan) (n : ℕ) (part : List ℕ) (b : ℕ) → s ≡ within_line n part → (b == 10) ≡ true → after_byte s b ≡ at_line_end (begun_of part) n
at_feed s n part b is ten = cond-true (b == 10) _ _ ten ∙ ap (λ (r : Scan). at_line_end r.begun r.full) is

behind_full : (bytes : List ℕ) (s t : Scan) (b : ℕ) → (h : Stands bytes s) → (b == 10) ≡ true → after_byte s b ≡ Some t → begun_of h.part ≡ Text
    → at_line_end (begun_of h.part) (length h.full) ≡ Some (record { full = suc (length h.full); begun = Nothing }) → Stands (bytes ++ b ∷ []) t
behind_full bytes s t b h ten e text to =
    let feed : b ≡ 10 = eqb-true b 10 ten in
    let same : Some t ≡ Some (record { full = suc (length h.full); begun = Nothing }) = sym e ∙ at_feed s (length h.full) h.part b h.scan_is ten ∙ to in
    record {
      blank = h.blank;
      full = h.full ++ h.part ∷ [];
      part = [];
      blank_is = h.blank_is;
      full_is = all_more is_full_line h.full h.part h.full_is (and_from (is_line h.part) _ h.part_is (not_from_false _ (begun_full h.part text)));
      part_is = refl;
      spelled =
          ap (λ r. r ++ b ∷ []) h.spelled ∙ ap (λ n. (print_lines h.blank ++ (print_lines h.full ++ h.part)) ++ n ∷ []) feed
          ∙ four (print_lines h.blank) (print_lines h.full) h.part (10 ∷ [])
          ∙ ap (λ r. print_lines h.blank ++ r) (sym (lines_more h.full h.part) ∙ sym (append-nil (print_lines (h.full ++ h.part ∷ []))));
      scan_is = same_Some _ _ same ∙ ap (λ n. within_line n []) (sym (length_push h.full h.part ∙ add-one (length h.full)));
    }

behind_blank : (bytes : List ℕ) (s t : Scan) (b : ℕ) → (h : Stands bytes s) → (b == 10) ≡ true → after_byte s b ≡ Some t → begun_of h.part ≢ Text
    → at_line_end (begun_of h.part) (length h.full) ≡ (if length h.full == 0 then Some start else None) → Stands (bytes ++ b ∷ []) t
behind_blank bytes s t b h ten e blank to =
    let feed : b ≡ 10 = eqb-true b 10 ten in
    let same : (if length h.full == 0 then Some start else None) ≡ Some t = sym to ∙ sym (at_feed s (length h.full) h.part b h.scan_is ten) ∙ e in
    let parts = cond_some (length h.full == 0) start t same in
    let none : h.full ≡ [] = nil_from_length h.full (eqb-true (length h.full) 0 parts.0) in
    record {
      blank = h.blank ++ h.part ∷ [];
      full = [];
      part = [];
      blank_is = all_more is_empty_line h.blank h.part h.blank_is (begun_empty h.part blank);
      full_is = refl;
      part_is = refl;
      spelled =
          ap (λ r. r ++ b ∷ []) h.spelled ∙ ap (λ n. (print_lines h.blank ++ (print_lines h.full ++ h.part)) ++ n ∷ []) feed
          ∙ ap (λ full. (print_lines h.blank ++ (print_lines full ++ h.part)) ++ 10 ∷ []) none
          ∙ append_assoc (print_lines h.blank) h.part (10 ∷ [])
          ∙ sym (lines_more h.blank h.part) ∙ sym (append-nil (print_lines (h.blank ++ h.part ∷ [])));
      scan_is = sym parts.1;
    }

behind_line : (bytes : List ℕ) (s t : Scan) (b : ℕ) → Stands bytes s → (b == 10) ≡ true → after_byte s b ≡ Some t → Stands (bytes ++ b ∷ []) t
behind_line bytes s t b h ten e =
    by_begun (begun_of h.part) (length h.full) (Stands (bytes ++ b ∷ []) t) (behind_full bytes s t b h ten e) (behind_blank bytes s t b h ten e)

ends_frame : (bytes : List ℕ) (s : Scan) (b : ℕ) → Stands bytes s → (b == 10) ≡ true → after_byte s b ≡ None → IsFramed (bytes ++ b ∷ []) s.full
ends_frame bytes s b h ten e =
    let feed : b ≡ 10 = eqb-true b 10 ten in
    by_begun (begun_of h.part) (length h.full) (IsFramed (bytes ++ b ∷ []) s.full)
    (λ text to. let lost : None ≡ Some (record { full = suc (length h.full); begun = Nothing }) = sym e ∙ at_feed s (length h.full) h.part b h.scan_is ten ∙ to in absurd (cc))
    (λ blank to.
    let none : (if length h.full == 0 then Some start else None) ≡ None = sym to ∙ sym (at_feed s (length h.full) h.part b h.scan_is ten) ∙ e in (
      record { blank = h.blank; full = h.full; last = h.part },
      record {
        blank = h.blank_is;
        full = h.full_is;
        some = λ k. let lost : Some start ≡ None = ap (λ (full : List (List ℕ)). if length full == 0 then Some start else None) (sym k) ∙ none in absurd (cc);
        last = begun_empty h.part blank;
      },
      ap (λ r. r ++ b ∷ []) h.spelled ∙ ap (λ n. (print_lines h.blank ++ (print_lines h.full ++ h.part)) ++ n ∷ []) feed
          ∙ four (print_lines h.blank) (print_lines h.full) h.part (10 ∷ []),
      ap (λ (r : Scan). r.full) h.scan_is,
    ))

-- a further byte, unless it ends the head
stands_more : (bytes : List ℕ) (s t : Scan) (b : ℕ) → Stands bytes s → after_byte s b ≡ Some t → Stands (bytes ++ b ∷ []) t
stands_more bytes s t b h e = elim (cases_Bool (b == 10)) [
  | inl ten ↦ behind_line bytes s t b h ten e
  | inr inside ↦ stays_in_line bytes s t b h inside e
]

-- the byte that ends it ends an empty line, with full ones before
framed_more : (bytes : List ℕ) (s : Scan) (b : ℕ) → Stands bytes s → after_byte s b ≡ None → IsFramed (bytes ++ b ∷ []) s.full
framed_more bytes s b h e = elim (cases_Bool (b == 10)) [
  | inl ten ↦ ends_frame bytes s b h ten e
  | inr inside ↦
      let goes : after_byte s b ≡ Some (record { full = s.full; begun = begun_with s.begun b }) = byte_in_line s b (not_from_false (b == 10) inside) in
      absurd (cc)
]

nothing_stands : Stands [] start
nothing_stands = record { blank = []; full = []; part = []; blank_is = refl; full_is = refl; part_is = refl; spelled = refl; scan_is = refl }

stands_along : (front bytes : List ℕ) (s t : Scan) → Stands front s → after s bytes ≡ Some t → Stands (front ++ bytes) t
stands_along front [] s t h e = subst (λ (p : List ℕ). Stands p t) (sym (append-nil front)) (let same : s ≡ t = cc in subst (λ (u : Scan). Stands front u) same h)
stands_along front (b ∷ bs) s t h e =
    option_and_then_some (λ u. after u bs) (after_byte s b) t e
    (λ u k l. subst (λ (p : List ℕ). Stands p t) (append_assoc front (b ∷ []) bs) (stands_along (front ++ b ∷ []) bs u t (stands_more front s u b h k) l))

-- if a scan ends, then so does a framed head
pub framed_end : (front : List ℕ) (s : Scan) (b : ℕ) → after start front ≡ Some s → after_byte s b ≡ None → IsFramed (front ++ b ∷ []) s.full
framed_end front s b e h = framed_more front s b (stands_along [] front start s nothing_stands e) h
