-- Texts and lines of scripts.
use Rattle.std.proofs.Common.{◌≡◌, ◌+◌, ◌≤◌, ◌<◌, ℕ, zero, suc, get_or, replicate, List, [], ◌∷◌, ◌++◌, length, Bool, true, false, ◌==◌, Option, Some, None, MatchOption, Ok, Err, if◌then◌else◌, refl, ap, sym, ◌∙◌, append_assoc, append-nil, arith, subst, inl, inr}
use Rattle.std.proofs.lemmas.Bool.{cases_Bool, and_parts, and_from}
use Rattle.share_replay.specs.Lines.{before, behind, in_front, line_tells}
use Rattle.share_replay.specs.Scripts.{lines_in, longer, may_follow, may_all_follow, then_read, with_told, lines_read}
use Rattle.share_replay.specs.declared.delivery.Delivery.{Delivery}

-- bytes before others
abbrev pub behind_bytes : List ℕ → Option (List ℕ) → Option (List ℕ)
behind_bytes front None = None
behind_bytes front (Some bytes) = Some (front ++ bytes)

pub one_byte_more : (front : List ℕ) (b : ℕ) (rest : Option (List ℕ)) → behind_bytes front (in_front (Some b) rest) ≡ behind_bytes (front ++ b ∷ []) rest
one_byte_more front b None = refl
one_byte_more front b (Some bytes) = ap (λ (bytes : List ℕ). Some bytes) (sym (append_assoc front (b ∷ []) bytes))

pub none_in_front : (rest : Option (List ℕ)) → behind_bytes [] rest ≡ rest
none_in_front None = refl
none_in_front (Some bytes) = refl

-- a text without a line feed has no line that is ended
pub no_line : (text : List ℕ) → behind 10 text ≡ None → lines_in text ≡ ([], text)
no_line [] is = refl
no_line (b ∷ text) is = elim (cases_Bool (b == 10)) [
  | inl e ↦ absurd (let x : Some text ≡ None = rw e at is in cc)
  | inr e ↦ rw e (ap (longer b) (no_line text (rw e at is)))
]

-- otherwise the first line ends before the line feed
pub one_line : (text rest : List ℕ) → behind 10 text ≡ Some rest → lines_in text ≡ (before 10 text ∷ (lines_in rest).0, (lines_in rest).1)
one_line [] rest is = absurd (cc)
one_line (b ∷ text) rest is = elim (cases_Bool (b == 10)) [
  | inl e ↦ let same : text ≡ rest = (let x : Some text ≡ Some rest = rw e at is in cc) in rw e (ap (λ (t : List ℕ). ([] ∷ (lines_in t).0, (lines_in t).1)) same)
  | inr e ↦ rw e (ap (longer b) (one_line text rest (rw e at is)))
]

pub line_is_shorter : (mark : ℕ) (text rest : List ℕ) → behind mark text ≡ Some rest → length rest + 1 ≤ length text
line_is_shorter mark [] rest is = absurd (cc)
line_is_shorter mark (b ∷ text) rest is = elim (cases_Bool (b == mark)) [
  | inl e ↦ let same : text ≡ rest = (let x : Some text ≡ Some rest = rw e at is in cc) in
      let len = ap length same in omega arith
  | inr e ↦ let shorter = line_is_shorter mark text rest (rw e at is) in omega arith
]

-- what a split at the first line feed says of the lines, for any view of its two parts
pub lines_by : {R : Type 0} (first rest : R → List ℕ) (text : List ℕ) (cut : Option R)
    → MatchOption cut (behind 10 text ≡ None) (λ r. (first r ≡ before 10 text) × (behind 10 text ≡ Some (rest r)))
    → MatchOption cut (lines_in text ≡ ([], text)) (λ r. lines_in text ≡ (first r ∷ (lines_in (rest r)).0, (lines_in (rest r)).1))
lines_by first rest text None is = no_line text is
lines_by first rest text (Some r) is =
    one_line text (rest r) is.1 ∙ ap (λ (front : List ℕ). (front ∷ (lines_in (rest r)).0, (lines_in (rest r)).1)) (sym is.0)

pub shorter_by : {R : Type 0} (first rest : R → List ℕ) (text : List ℕ) (cut : Option R)
    → MatchOption cut (behind 10 text ≡ None) (λ r. (first r ≡ before 10 text) × (behind 10 text ≡ Some (rest r)))
    → MatchOption cut (Unit {0}) (λ r. length (rest r) + 1 ≤ length text)
shorter_by first rest text None is = tt
shorter_by first rest text (Some r) is = line_is_shorter 10 text (rest r) is.1

-- one more line may follow
pub follows_more : (front lines : List Delivery) (d : Delivery) → may_all_follow front lines ≡ true → may_follow (front ++ lines) d ≡ true
    → may_all_follow front (lines ++ d ∷ []) ≡ true
follows_more front [] d h may = and_from _ _ (subst (λ (l : List Delivery). may_follow l d ≡ true) (append-nil front) may) refl
follows_more front (x ∷ lines) d h may =
    let parts = and_parts _ _ h in
    and_from _ _ parts.0
    (follows_more (front ++ x ∷ []) lines d parts.1 (subst (λ (l : List Delivery). may_follow l d ≡ true) (sym (append_assoc front (x ∷ []) lines)) may))

-- ---- what is left to read

pub line_taken : (before : List Delivery) (line : ℕ) (left bare : List ℕ) (texts : List (List ℕ)) (last : List ℕ) (d : Delivery)
    → lines_in left ≡ (bare ∷ texts, last) → line_tells bare ≡ Some d → may_follow before d ≡ true
    → lines_read before line (lines_in left).0 (lines_in left).1 ≡ lines_read (before ++ d ∷ []) (line + 1) texts last
line_taken before line left bare texts last d parts tells may =
    let told = ap (λ (o : Option Delivery). then_read before o line (lines_read (with_told before o) (line + 1) texts last)) tells in
    ap (λ (p : List (List ℕ) × List ℕ). lines_read before line p.0 p.1) parts ∙ told
    ∙ ap (λ (b : Bool). if b then lines_read (before ++ d ∷ []) (line + 1) texts last else Err line) may

pub line_refused : (before : List Delivery) (line : ℕ) (left bare : List ℕ) (texts : List (List ℕ)) (last : List ℕ)
    → lines_in left ≡ (bare ∷ texts, last) → line_tells bare ≡ None
    → lines_read before line (lines_in left).0 (lines_in left).1 ≡ Err line
line_refused before line left bare texts last parts tells =
    ap (λ (p : List (List ℕ) × List ℕ). lines_read before line p.0 p.1) parts
    ∙ ap (λ (o : Option Delivery). then_read before o line (lines_read (with_told before o) (line + 1) texts last)) tells

pub line_out_of_place : (before : List Delivery) (line : ℕ) (left bare : List ℕ) (texts : List (List ℕ)) (last : List ℕ) (d : Delivery)
    → lines_in left ≡ (bare ∷ texts, last) → line_tells bare ≡ Some d → may_follow before d ≡ false
    → lines_read before line (lines_in left).0 (lines_in left).1 ≡ Err line
line_out_of_place before line left bare texts last d parts tells may =
    let told = ap (λ (o : Option Delivery). then_read before o line (lines_read (with_told before o) (line + 1) texts last)) tells in
    ap (λ (p : List (List ℕ) × List ℕ). lines_read before line p.0 p.1) parts ∙ told
    ∙ ap (λ (b : Bool). if b then lines_read (before ++ d ∷ []) (line + 1) texts last else Err line) may

unended : (before : List Delivery) (line : ℕ) (left : List ℕ) → 0 < length left → lines_read before line [] left ≡ Err line
unended before line [] some = absurd (let bad : 0 < 0 = some in omega arith)
unended before line (b ∷ left) some = refl

pub line_unended : (before : List Delivery) (line : ℕ) (left : List ℕ) → lines_in left ≡ ([], left) → 0 < length left
    → lines_read before line (lines_in left).0 (lines_in left).1 ≡ Err line
line_unended before line left parts some =
    ap (λ (p : List (List ℕ) × List ℕ). lines_read before line p.0 p.1) parts ∙ unended before line left some

pub all_lines : (before : List Delivery) (line : ℕ) (left : List ℕ) → left ≡ [] → lines_read before line (lines_in left).0 (lines_in left).1 ≡ Ok before
all_lines before line left none = ap (λ (t : List ℕ). lines_read before line (lines_in t).0 (lines_in t).1) none

-- no flag is set among flags that aren't
pub none_at : (n i : ℕ) → get_or (replicate n false) i false ≡ false
none_at zero i = refl
none_at (suc n) zero = refl
none_at (suc n) (suc i) = none_at n i
