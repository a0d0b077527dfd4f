-- Drafts that lines lead to, line by line.
use Rattle.std.proofs.Common.{◌≡◌, ℕ, zero, suc, ◌+◌, ◌≤◌, ◌<◌, true, false, ◌||◌, ◌==◌, length, List, [], ◌∷◌, ◌++◌, Some, None, inl, inr, refl, sym, ap, ◌∙◌, subst, arith, append_assoc, append-nil, add-one}
use Rattle.std.proofs.lemmas.Bool.{true≢false, eqb-true, leb-false, ltb-false, cases_Bool, or_parts}
use Rattle.std.specs.Prelude.{nat_lt, nat_le}
use Rattle.dmap_tags.specs.Codes.{Four}
use Rattle.dmap_tags.specs.Seen.{tree_with}
use Rattle.dmap_tags.specs.Tree.{Tree, leaf, list, none, trees_of}
use Rattle.dmap_tags.specs.declared.tree.Value.{Value}
use Rattle.dmap_tags.specs.declared.tree.Value.TheVariants as value
use Rattle.code_table.specs.declared.row.CodeRow.{CodeRow}
use Rattle.code_table.specs.Fits.{fits}
use Rattle.dmap_show.specs.declared.draft.OpenList.{OpenList}
use Rattle.dmap_show.specs.Shown.{shown_tag, shown_tags}
use Rattle.dmap_show.specs.Readable.{IsCode, Shows}
use Rattle.dmap_show.specs.TextLines.{before, behind, has, first_line, first_lines, behind_lines, StopsBehind, Explains}
use Rattle.dmap_show.specs.declared.reading.ShowError.{ShowError}
use Rattle.dmap_show.specs.declared.reading.ShowError.TheVariants.{Line, Memory}
use Rattle.dmap_show.specs.Parts.{bare_line, head_of, IsHead, IsHeadValue}
use Rattle.dmap_show.specs.Drafts.{State, closed, parent_in, lowered, with_tag, fitted, taken, Took}
use Rattle.dmap_show.specs.Standing.{HeadStands}
use Rattle.dmap_show.specs.Ahead.{DraftStands, Goes}
use Rattle.dmap_show.specs.Follows.{Follows}
use Rattle.dmap_show.proofs.Taken.{behind_none, split_again}
use Rattle.dmap_show.proofs.Stands.{each_stands, each_readable}
use Rattle.dmap_show.proofs.Zipper.{lowered_length, lowered_closed, lowered_stands, with_tag_stands, shown_closed, draft_closed, goes_start, goes_end, goes_line, goes_ended}

pub follows_start : (rows : List CodeRow) → Follows rows [] [] []
follows_start rows = record {
  shown = refl;
  stands = (tt, tt);
  ahead = λ us z h e. subst (λ x. Goes rows [] [] us x) (sym e) (goes_start rows us h);
}

-- a tag is added only at a level and inside a list where it fits
record MayStand (rows : List CodeRow) (level : ℕ) (t : Tree) (around : List OpenList) (here : List Tree) (s : State) : Type 0 where
  low : level ≤ length around
  less : level < 32
  fit : fits rows (parent_in (lowered level around here).around) t ≡ true
  same : with_tag t (lowered level around here) ≡ s

fitted_may : (rows : List CodeRow) (t : Tree) (d s : State) → fitted rows t d ≡ Some s → (fits rows (parent_in d.around) t ≡ true) × (with_tag t d ≡ s)
fitted_may rows t d s h = elim (cases_Bool (fits rows (parent_in d.around) t)) [
  | inl e ↦ (e, let k = (rw e at h) in cc)
  | inr e ↦ absurd (let k = (rw e at h) in cc)
]

taken_may : (rows : List CodeRow) (level : ℕ) (t : Tree) (around : List OpenList) (here : List Tree) (s : State) → taken rows level t around here ≡ Some s → MayStand rows level t around here s
taken_may rows level t around here s h = elim (cases_Bool (nat_lt (length around) level || nat_le 32 level)) [
  | inl e ↦ absurd (let k = (rw e at h) in cc)
  | inr e ↦
      let p = or_parts (nat_lt (length around) level) (nat_le 32 level) e in
      let f = fitted_may rows t (lowered level around here) s (rw e at h) in
      record { low = ltb-false (length around) level p.0; less = leb-false 32 level p.1; fit = f.0; same = f.1 }
]

-- one more tag is shown after the others
with_tag_shown : (t : Tree) (s : State) → shown_tags 0 (trees_of (closed (with_tag (head_of t) s).around (with_tag (head_of t) s).here)) ≡ shown_tags 0 (trees_of (closed s.around s.here)) ++ shown_tag (length s.around) (head_of t)
with_tag_shown (leaf c l) s = shown_closed s.around s.here (leaf c l)
with_tag_shown (list c ts) s = shown_closed s.around s.here (list c none)

head_shown : (level : ℕ) (t : Tree) → shown_tag level (head_of t) ≡ bare_line level t ++ 10 ∷ []
head_shown level (leaf c l) = refl
head_shown level (list c ts) = append-nil (bare_line level (list c none) ++ 10 ∷ [])

line_on : (lines bare z : List ℕ) → lines ++ (bare ++ 10 ∷ z) ≡ lines ++ (bare ++ 10 ∷ []) ++ z
line_on lines bare z = ap (λ x. lines ++ x) (sym (append_assoc bare (10 ∷ []) z)) ∙ sym (append_assoc lines (bare ++ 10 ∷ []) z)

-- a line that was taken leads on
pub follows_line : (rows : List CodeRow) (lines : List ℕ) (around : List OpenList) (here : List Tree) (bare : List ℕ) (s : State)
    → has 10 bare ≡ false → Took rows around here bare s
    → ((level : ℕ) (t : Tree) → IsHead t → bare ≡ bare_line level t → Some s ≡ taken rows level (head_of t) around here)
    → Follows rows lines around here → Follows rows (lines ++ (bare ++ 10 ∷ [])) s.around s.here
follows_line rows lines around here bare s free took only f =
    let may = taken_may rows took.level took.t around here s took.taken in
    let d = lowered took.level around here in
    let deep : length d.around ≡ took.level = lowered_length took.level around here may.low in
    let grown : shown_tags 0 (trees_of (closed (with_tag took.t d).around (with_tag took.t d).here)) ≡ shown_tags 0 (trees_of (closed d.around d.here)) ++ shown_tag (length d.around) took.t =
    subst (λ t. shown_tags 0 (trees_of (closed (with_tag t d).around (with_tag t d).here)) ≡ shown_tags 0 (trees_of (closed d.around d.here)) ++ shown_tag (length d.around) t) took.alone (with_tag_shown took.t d) in
    let last : shown_tag (length d.around) took.t ≡ bare ++ 10 ∷ [] =
    ap (λ n. shown_tag n took.t) deep ∙ ap (shown_tag took.level) (sym took.alone) ∙ head_shown took.level took.t ∙ ap (λ x. x ++ 10 ∷ []) (sym took.line) in
    let old : lines ≡ shown_tags 0 (trees_of (closed d.around d.here)) = f.shown ∙ ap (λ ts. shown_tags 0 (trees_of ts)) (sym (lowered_closed took.level around here)) in
    let there : HeadStands rows (length d.around) (parent_in d.around) took.t =
    record { low = subst (λ n. n < 32) (sym deep) may.less; head = took.head; fit = ap (fits rows (parent_in d.around)) took.alone ∙ may.fit } in
    record {
      shown = ap (λ x. x ++ (bare ++ 10 ∷ [])) old ∙ ap (λ x. shown_tags 0 (trees_of (closed d.around d.here)) ++ x) (sym last) ∙ sym grown
          ∙ ap (λ (x : State). shown_tags 0 (trees_of (closed x.around x.here))) may.same;
      stands = subst (λ (x : State). DraftStands rows x.around x.here) may.same
          (with_tag_stands rows took.t d took.alone there (lowered_stands rows took.level around here f.stands));
      ahead = λ us z h e.
          let going = f.ahead us (bare ++ 10 ∷ z) h (line_on lines bare z ∙ e) in
          let l = goes_line rows around here us bare z free going in
          let same : with_tag (head_of l.t) (lowered l.level around here) ≡ s = let k = only l.level l.t l.head l.line ∙ l.taken in cc in
          subst (λ (x : State). Goes rows x.around x.here us z) same l.goes;
    }

-- lines, one after another
pub before_free : (mark : ℕ) (xs : List ℕ) → has mark (before mark xs) ≡ false
before_free mark [] = refl
before_free mark (x ∷ xs) = elim (cases_Bool (x == mark)) [
  | inl e ↦ rw e refl
  | inr e ↦ rw (e, e) (before_free mark xs)
]

first_again : (text : List ℕ) → first_line text ++ behind 10 text ≡ text
first_again text = elim (cases_Bool (has 10 text)) [
  | inl e ↦ rw e (append_assoc (before 10 text) (10 ∷ []) (behind 10 text) ∙ sym (split_again 10 text e))
  | inr e ↦ rw (e, behind_none 10 text e) (append-nil text)
]

pub lines_again : (n : ℕ) (text : List ℕ) → first_lines n text ++ behind_lines n text ≡ text
lines_again zero text = refl
lines_again (suc n) text =
    append_assoc (first_lines n text) (first_line (behind_lines n text)) (behind 10 (behind_lines n text))
    ∙ ap (λ x. first_lines n text ++ x) (first_again (behind_lines n text)) ∙ lines_again n text

pub lines_more : (n : ℕ) (text left : List ℕ) → left ≡ behind_lines n text → has 10 left ≡ true → first_lines (n + 1) text ≡ first_lines n text ++ (before 10 left ++ 10 ∷ [])
lines_more n text left e h =
    ap (λ k. first_lines k text) (add-one n) ∙ ap (λ x. first_lines n text ++ x) (ap first_line (sym e) ∙ rw h refl)

pub behind_more : (n : ℕ) (text left : List ℕ) → left ≡ behind_lines n text → behind 10 left ≡ behind_lines (n + 1) text
behind_more n text left e = ap (behind 10) e ∙ ap (λ k. behind_lines k text) (sym (add-one n))

-- all lines read: the text shows the draft's tags
pub follows_shows : (rows : List CodeRow) (text : List ℕ) (around : List OpenList) (here : List Tree) → Follows rows text around here → Shows rows text (closed around here)
follows_shows rows text around here f = record { lines = f.shown; each = each_readable rows (closed around here) (draft_closed rows around here f.stands) }

-- and no others
pub follows_only : (rows : List CodeRow) (text : List ℕ) (around : List OpenList) (here ts : List Tree) → Follows rows text around here → Shows rows text ts → closed around here ≡ ts
follows_only rows text around here ts f s = sym (goes_end rows around here ts (f.ahead ts [] (each_stands rows ts s.each) (append-nil text ∙ s.lines)))

nothing_taken : (s : State) → None ≡ Some s → ⊥
nothing_taken s e = absurd (cc)

-- a line that is not taken stops the text
pub stops_line : (rows : List CodeRow) (text : List ℕ) (n : ℕ) (left : List ℕ) (around : List OpenList) (here : List Tree)
    → left ≡ behind_lines n text → has 10 left ≡ true
    → ((level : ℕ) (t : Tree) → IsHead t → before 10 left ≡ bare_line level t → None ≡ taken rows level (head_of t) around here)
    → Follows rows (first_lines n text) around here → StopsBehind rows text n
stops_line rows text n left around here e h only f = record {
  shown = (closed around here, follows_shows rows (first_lines n text) around here f);
  ended = λ k others ts s.
      let bare = before 10 left in
      let first : first_line (behind_lines n text) ≡ bare ++ 10 ∷ [] = ap first_line (sym e) ∙ rw h refl in
      let lines : first_lines n text ++ (bare ++ 10 ∷ others) ≡ shown_tags 0 (trees_of ts) =
      line_on (first_lines n text) bare others ∙ ap (λ x. first_lines n text ++ x ++ others) (sym first) ∙ s.lines in
      let l = goes_line rows around here ts bare others (before_free 10 left) (f.ahead ts (bare ++ 10 ∷ others) (each_stands rows ts s.each) lines) in
      nothing_taken _ (only l.level l.t l.head l.line ∙ l.taken);
  unended = λ k ts s. absurd (true≢false (sym h ∙ ap (has 10) e ∙ k));
}

-- and so does a last line without a line feed
pub stops_open : (rows : List CodeRow) (text : List ℕ) (n : ℕ) (b : ℕ) (left : List ℕ) (around : List OpenList) (here : List Tree)
    → b ∷ left ≡ behind_lines n text → has 10 (b ∷ left) ≡ false
    → Follows rows (first_lines n text) around here → StopsBehind rows text n
stops_open rows text n b left around here e h f = record {
  shown = (closed around here, follows_shows rows (first_lines n text) around here f);
  ended = λ k others ts s. absurd (true≢false (sym k ∙ ap (has 10) (sym e) ∙ h));
  unended = λ k ts s.
      let first : first_line (behind_lines n text) ≡ b ∷ left = ap first_line (sym e) ∙ rw h refl in
      let lines : first_lines n text ++ b ∷ left ≡ shown_tags 0 (trees_of ts) = ap (λ x. first_lines n text ++ x) (sym first) ∙ s.lines in
      true≢false (sym (goes_ended rows around here ts b left (f.ahead ts (b ∷ left) (each_stands rows ts s.each) lines)) ∙ h);
}

-- a text that stops shows no tags
pub stops_shows : (rows : List CodeRow) (text : List ℕ) (n : ℕ) (ts : List Tree) → StopsBehind rows text n → Shows rows text ts → ⊥
stops_shows rows text n ts stops s = elim (cases_Bool (has 10 (behind_lines n text))) [
  | inl e ↦ stops.ended e (behind_lines (suc n) text) ts (subst (λ x. Shows rows x ts) (sym (lines_again (suc n) text)) s)
  | inr e ↦
      let whole : first_lines (suc n) text ≡ text = sym (append-nil (first_lines (suc n) text)) ∙ ap (λ x. first_lines (suc n) text ++ x) (sym (behind_none 10 (behind_lines n text) e)) ∙ lines_again (suc n) text in
      stops.unended e ts (subst (λ x. Shows rows x ts) (sym whole) s)
]

-- a head that the program made is a head by itself
pub value_head : (c : Four) (v : Value) → IsCode c → IsHeadValue v → (head_of (tree_with c v) ≡ tree_with c v) × IsHead (tree_with c v)
value_head c (value.U8 n) k h = (refl, (k, h))
value_head c (value.I8 z) k h = (refl, (k, h))
value_head c (value.U16 n) k h = (refl, (k, h))
value_head c (value.I16 z) k h = (refl, (k, h))
value_head c (value.U32 n) k h = (refl, (k, h))
value_head c (value.I32 z) k h = (refl, (k, h))
value_head c (value.U64 n) k h = (refl, (k, h))
value_head c (value.I64 z) k h = (refl, (k, h))
value_head c (value.Text bytes) k h = (refl, (k, h))
value_head c (value.Date n) k h = (refl, (k, h))
value_head c (value.Version n) k h = (refl, (k, h))
value_head c (value.List ts) k h = (ap (λ x. list c (trees_of x)) (sym h), k)
value_head c (value.Opaque bytes) k h = (refl, (k, h))

-- the text after a line feed is shorter
pub behind_shorter : (mark : ℕ) (xs : List ℕ) → has mark xs ≡ true → length (behind mark xs) < length xs
behind_shorter mark [] h = absurd (true≢false (sym h))
behind_shorter mark (x ∷ xs) h = elim (cases_Bool (x == mark)) [
  | inl e ↦ rw e (omega arith)
  | inr e ↦ rw e (let short = behind_shorter mark xs (rw e at h) in omega arith)
]

-- with nothing left, all lines were read
pub lines_all : (n : ℕ) (text left : List ℕ) → (length left == 0) ≡ true → left ≡ behind_lines n text → first_lines n text ≡ text
lines_all n text [] h e = sym (append-nil (first_lines n text)) ∙ ap (λ x. first_lines n text ++ x) e ∙ lines_again n text
lines_all n text (b ∷ left) h e = absurd (let k = eqb-true (length (b ∷ left)) 0 h in omega arith)

-- a last line without a line feed stops the text
pub stops_end : (rows : List CodeRow) (text : List ℕ) (n : ℕ) (left : List ℕ) (around : List OpenList) (here : List Tree)
    → (length left == 0) ≡ false → left ≡ behind_lines n text → has 10 left ≡ false → Follows rows (first_lines n text) around here → StopsBehind rows text n
stops_end rows text n [] around here k e h f = absurd (true≢false k)
stops_end rows text n (b ∷ left) around here k e h f = stops_open rows text n b left around here e h f

-- a text that shows tags is refused only if an allocation failed
pub explains_memory : (rows : List CodeRow) (text : List ℕ) (ts : List Tree) (e : ShowError) → Explains rows text e → Shows rows text ts → e ≡ Memory
explains_memory rows text ts (Line line) (n, (count, stops)) s = absurd (stops_shows rows text n ts stops s)
explains_memory rows text ts Memory h s = refl
