-- Open lists, and the tags that lines make.
use Rattle.std.proofs.Common.{◌≡◌, ℕ, suc, ◌≤◌, ◌<◌, true, false, length, List, [], ◌∷◌, ◌++◌, Some, None, inl, inr, refl, sym, ap, ◌∙◌, subst, arith, append_assoc, append-nil}
use Rattle.std.proofs.lemmas.Bool.{true≢false, lt-leb, le-ltb, lt-ltb, ltb-true, ltb-false, cases_Bool, and_parts}
use Rattle.std.specs.Prelude.{nat_lt}
use Rattle.dmap_tags.specs.Codes.{Four}
use Rattle.dmap_tags.specs.Tree.{Tree, leaf, list, Trees, none, more, trees_of, tree_list}
use Rattle.code_table.specs.declared.row.CodeRow.{CodeRow}
use Rattle.code_table.specs.Fits.{fits}
use Rattle.dmap_show.specs.declared.draft.OpenList.{OpenList}
use Rattle.dmap_show.specs.Shown.{shown_line, shown_tag, shown_tags}
use Rattle.dmap_show.specs.Drafts.{State, closed_in, closed, parent_in, lowered, with_tag, taken}
use Rattle.dmap_show.specs.TextLines.{before, behind, has}
use Rattle.dmap_show.specs.Parts.{bare_line, head_of, IsHead}
use Rattle.dmap_show.proofs.Taken.{before_mark, behind_mark, has_mark, line_has}
use Rattle.dmap_show.specs.Standing.{Stands, AllStand, HeadStands}
use Rattle.dmap_show.specs.Ahead.{DraftStands, first_of, others_of, whole, ahead_lines, AheadStands, Goes}
use Rattle.dmap_show.proofs.Stands.{all_stand_append, head_stands}

-- if no more lists are open, none is closed
pub lowered_low : (level : ℕ) (around : List OpenList) (here : List Tree) → length around ≤ level → lowered level around here ≡ record { around = around; here = here }
lowered_low level [] here h = refl
lowered_low level (o ∷ around) here h = rw (le-ltb level (suc (length around)) h) refl

-- after closing down to `level`, `level` lists are open
pub lowered_length : (level : ℕ) (around : List OpenList) (here : List Tree) → level ≤ length around → length (lowered level around here).around ≡ level
lowered_length level [] here h = omega arith
lowered_length level (o ∷ around) here h = elim (cases_Bool (nat_lt level (suc (length around)))) [
  | inl e ↦ rw e (lowered_length level around (closed_in o here) (let low = ltb-true level (suc (length around)) e in omega arith))
  | inr e ↦ rw e (let high = ltb-false level (suc (length around)) e in omega arith)
]

-- and changes no tags
pub lowered_closed : (level : ℕ) (around : List OpenList) (here : List Tree) → closed (lowered level around here).around (lowered level around here).here ≡ closed around here
lowered_closed level [] here = refl
lowered_closed level (o ∷ around) here = elim (cases_Bool (nat_lt level (suc (length around)))) [
  | inl e ↦ rw e (lowered_closed level around (closed_in o here))
  | inr e ↦ rw e refl
]

-- lines of tags one after another
pub shown_append : (level : ℕ) (xs ys : List Tree) → shown_tags level (trees_of (xs ++ ys)) ≡ shown_tags level (trees_of xs) ++ shown_tags level (trees_of ys)
shown_append level [] ys = refl
shown_append level (x ∷ xs) ys = ap (λ s. shown_tag level x ++ s) (shown_append level xs ys) ∙ sym (append_assoc (shown_tag level x) (shown_tags level (trees_of xs)) (shown_tags level (trees_of ys)))

-- one more member is shown after the others
pub shown_more : (level : ℕ) (xs : List Tree) (t : Tree) → shown_tags level (trees_of (xs ++ t ∷ [])) ≡ shown_tags level (trees_of xs) ++ shown_tag level t
shown_more level xs t = shown_append level xs (t ∷ []) ∙ ap (λ s. shown_tags level (trees_of xs) ++ s) (append-nil (shown_tag level t))

shown_grown : (level : ℕ) (c : Four) (here : List Tree) (t : Tree) → shown_tag level (list c (trees_of (here ++ t ∷ []))) ≡ shown_tag level (list c (trees_of here)) ++ shown_tag (suc level) t
shown_grown level c here t =
    let line = shown_line level (list c none) in
    let first : shown_tag level (list c (trees_of (here ++ t ∷ []))) ≡ line ++ shown_tags (suc level) (trees_of (here ++ t ∷ [])) = refl in
    let last : (line ++ shown_tags (suc level) (trees_of here)) ++ shown_tag (suc level) t ≡ shown_tag level (list c (trees_of here)) ++ shown_tag (suc level) t = refl in
    first ∙ ap (λ s. line ++ s) (shown_more (suc level) here t) ∙ sym (append_assoc line (shown_tags (suc level) (trees_of here)) (shown_tag (suc level) t)) ∙ last

pub shown_closed : (around : List OpenList) (here : List Tree) (t : Tree) → shown_tags 0 (trees_of (closed around (here ++ t ∷ []))) ≡ shown_tags 0 (trees_of (closed around here)) ++ shown_tag (length around) t
shown_closed [] here t = shown_more 0 here t
shown_closed (o ∷ around) here t =
    let n = length around in
    let grown = list o.code (trees_of (here ++ t ∷ [])) in
    let old = list o.code (trees_of here) in
    let before = shown_tags 0 (trees_of (closed around o.before)) in
    shown_closed around o.before grown
    ∙ ap (λ s. before ++ s) (shown_grown n o.code here t)
    ∙ sym (append_assoc before (shown_tag n old) (shown_tag (suc n) t))
    ∙ ap (λ s. s ++ shown_tag (suc n) t) (sym (shown_closed around o.before old))

closed_in_stands : (rows : List CodeRow) (o : OpenList) (around : List OpenList) (here : List Tree) → DraftStands rows (o ∷ around) here → DraftStands rows around (closed_in o here)
closed_in_stands rows o around here h =
    let open_list : Stands rows (length around) (parent_in around) (list o.code (trees_of here)) = (h.1.1.0, (h.1.1.1.0, (h.1.1.1.1.0, h.0))) in
    (all_stand_append rows (length around) (parent_in around) o.before (list o.code (trees_of here) ∷ []) h.1.0 (open_list, tt), h.1.1.1.1.1)

pub draft_closed : (rows : List CodeRow) (around : List OpenList) (here : List Tree) → DraftStands rows around here → AllStand rows 0 None (trees_of (closed around here))
draft_closed rows [] here h = h.0
draft_closed rows (o ∷ around) here h = draft_closed rows around (closed_in o here) (closed_in_stands rows o around here h)

pub lowered_stands : (rows : List CodeRow) (level : ℕ) (around : List OpenList) (here : List Tree) → DraftStands rows around here → DraftStands rows (lowered level around here).around (lowered level around here).here
lowered_stands rows level [] here h = h
lowered_stands rows level (o ∷ around) here h = elim (cases_Bool (nat_lt level (suc (length around)))) [
  | inl e ↦ rw e (lowered_stands rows level around (closed_in o here) (closed_in_stands rows o around here h))
  | inr e ↦ rw e h
]

-- one more tag that has no members yet
pub with_tag_stands : (rows : List CodeRow) (t : Tree) (s : State) → head_of t ≡ t → HeadStands rows (length s.around) (parent_in s.around) t → DraftStands rows s.around s.here
    → DraftStands rows (with_tag t s).around (with_tag t s).here
with_tag_stands rows (leaf c l) s e h d =
    (all_stand_append rows (length s.around) (parent_in s.around) s.here (leaf c l ∷ []) d.0 ((h.low, (h.head, h.fit)), tt), d.1)
with_tag_stands rows (list c ts) s e h d =
    (tt, (d.0, (h.low, (h.head, ((and_parts _ _ h.fit).0, d.1)))))

pub goes_start : (rows : List CodeRow) (us : List Tree) → AllStand rows 0 None (trees_of us) → Goes rows [] [] us (shown_tags 0 (trees_of us))
goes_start rows us h = record { m = us; ms = []; stands = h; all = refl; left = refl }

abbrev below : ℕ → Tree → List ℕ
below level (leaf c l) = []
below level (list c ts) = shown_tags (suc level) ts

-- a tag is shown as its line and what is below it
tag_line : (level : ℕ) (t : Tree) (rest : List ℕ) → shown_tag level t ++ rest ≡ bare_line level t ++ 10 ∷ (below level t ++ rest)
tag_line level (leaf c l) rest = append_assoc (bare_line level (leaf c l)) (10 ∷ []) rest
tag_line level (list c ts) rest =
    append_assoc (bare_line level (list c ts) ++ 10 ∷ []) (shown_tags (suc level) ts) rest
    ∙ append_assoc (bare_line level (list c ts)) (10 ∷ []) (shown_tags (suc level) ts ++ rest)

shown_not_empty : (level : ℕ) (t : Tree) (rest : List ℕ) → [] ≡ shown_tag level t ++ rest → ⊥
shown_not_empty level t rest e = true≢false (sym (has_mark 10 (bare_line level t) (below level t ++ rest)) ∙ sym (ap (has 10) (e ∙ tag_line level t rest)))

-- a list around takes what comes ahead of it
whole_closed : (o : OpenList) (around : List OpenList) (here : List Tree) (ms : List (List Tree))
    → whole (o ∷ around) (here ++ []) ms ≡ whole around (closed_in o here ++ first_of ms) (others_of ms)
whole_closed o around here ms =
    ap (λ h. whole around (o.before ++ list o.code (trees_of h) ∷ first_of ms) (others_of ms)) (append-nil here)
    ∙ ap (λ h. whole around h (others_of ms)) (sym (append_assoc o.before (list o.code (trees_of here) ∷ []) (first_of ms)))

-- nothing left: the tags are those of the draft
ended : (around : List OpenList) (here m : List Tree) (ms : List (List Tree)) (us : List Tree) → us ≡ whole around (here ++ m) ms → [] ≡ ahead_lines around m ms → us ≡ closed around here
ended [] here [] ms us e f = e ∙ append-nil here
ended [] here (t ∷ m) ms us e f = absurd (shown_not_empty 0 t (shown_tags 0 (trees_of m)) f)
ended (o ∷ around) here [] ms us e f = ended around (closed_in o here) (first_of ms) (others_of ms) us (e ∙ whole_closed o around here ms) f
ended (o ∷ around) here (t ∷ m) ms us e f =
    absurd (shown_not_empty (suc (length around)) t (shown_tags (suc (length around)) (trees_of m) ++ ahead_lines around (first_of ms) (others_of ms))
    (f ∙ append_assoc (shown_tag (suc (length around)) t) (shown_tags (suc (length around)) (trees_of m)) (ahead_lines around (first_of ms) (others_of ms))))

pub goes_end : (rows : List CodeRow) (around : List OpenList) (here us : List Tree) → Goes rows around here us [] → us ≡ closed around here
goes_end rows around here us g = ended around here g.m g.ms us g.all g.left

-- the tag of the next line, in the draft with as many lists open as it has levels above it
pub record Next (rows : List CodeRow) (around : List OpenList) (here us : List Tree) (z : List ℕ) : Type 0 where
  pub level : ℕ
  pub t : Tree
  pub m : List Tree
  pub ms : List (List Tree)
  pub low : level ≤ length around
  pub stands : AheadStands rows (lowered level around here).around (t ∷ m) ms
  pub all : us ≡ whole (lowered level around here).around ((lowered level around here).here ++ t ∷ m) ms
  pub left : z ≡ ahead_lines (lowered level around here).around (t ∷ m) ms

next_here : (rows : List CodeRow) (around : List OpenList) (here : List Tree) (t : Tree) (m : List Tree) (ms : List (List Tree)) (us : List Tree) (z : List ℕ)
    → AheadStands rows around (t ∷ m) ms → us ≡ whole around (here ++ t ∷ m) ms → z ≡ ahead_lines around (t ∷ m) ms → Next rows around here us z
next_here rows around here t m ms us z h e f =
    let same = lowered_low (length around) around here (omega arith) in
    record {
      level = length around;
      t = t;
      m = m;
      ms = ms;
      low = omega arith;
      stands = subst (λ (s : State). AheadStands rows s.around (t ∷ m) ms) (sym same) h;
      all = subst (λ (s : State). us ≡ whole s.around (s.here ++ t ∷ m) ms) (sym same) e;
      left = subst (λ (s : State). z ≡ ahead_lines s.around (t ∷ m) ms) (sym same) f;
    }

next_around : (rows : List CodeRow) (o : OpenList) (around : List OpenList) (here us : List Tree) (z : List ℕ)
    → Next rows around (closed_in o here) us z → Next rows (o ∷ around) here us z
next_around rows o around here us z n =
    let low : n.level ≤ length around = n.low in
    let same : lowered n.level (o ∷ around) here ≡ lowered n.level around (closed_in o here) = rw (lt-ltb n.level (suc (length around)) (omega arith)) refl in
    record {
      level = n.level;
      t = n.t;
      m = n.m;
      ms = n.ms;
      low = omega arith;
      stands = subst (λ (s : State). AheadStands rows s.around (n.t ∷ n.m) n.ms) (sym same) n.stands;
      all = subst (λ (s : State). us ≡ whole s.around (s.here ++ n.t ∷ n.m) n.ms) (sym same) n.all;
      left = subst (λ (s : State). z ≡ ahead_lines s.around (n.t ∷ n.m) n.ms) (sym same) n.left;
    }

next : (rows : List CodeRow) (around : List OpenList) (here m : List Tree) (ms : List (List Tree)) (us : List Tree) (b : ℕ) (z : List ℕ)
    → AheadStands rows around m ms → us ≡ whole around (here ++ m) ms → b ∷ z ≡ ahead_lines around m ms → Next rows around here us (b ∷ z)
next rows [] here [] ms us b z h e f = absurd (let n = ap length f in omega arith)
next rows [] here (t ∷ m) ms us b z h e f = next_here rows [] here t m ms us (b ∷ z) h e f
next rows (o ∷ around) here [] ms us b z h e f =
    next_around rows o around here us (b ∷ z) (next rows around (closed_in o here) (first_of ms) (others_of ms) us b z h.1 (e ∙ whole_closed o around here ms) f)
next rows (o ∷ around) here (t ∷ m) ms us b z h e f = next_here rows (o ∷ around) here t m ms us (b ∷ z) h e f

pub goes_next : (rows : List CodeRow) (around : List OpenList) (here us : List Tree) (b : ℕ) (z : List ℕ) → Goes rows around here us (b ∷ z) → Next rows around here us (b ∷ z)
goes_next rows around here us b z g = next rows around here g.m g.ms us b z g.stands g.all g.left

-- what comes ahead begins with the next tag
ahead_first : (around : List OpenList) (t : Tree) (m : List Tree) (ms : List (List Tree)) → ahead_lines around (t ∷ m) ms ≡ shown_tag (length around) t ++ ahead_lines around m ms
ahead_first [] t m ms = refl
ahead_first (o ∷ around) t m ms =
    append_assoc (shown_tag (suc (length around)) t) (shown_tags (suc (length around)) (trees_of m)) (ahead_lines around (first_of ms) (others_of ms))

ahead_head : (rows : List CodeRow) (around : List OpenList) (t : Tree) (m : List Tree) (ms : List (List Tree)) → AheadStands rows around (t ∷ m) ms → Stands rows (length around) (parent_in around) t
ahead_head rows [] t m ms h = h.0
ahead_head rows (o ∷ around) t m ms h = h.0.0

ahead_tail : (rows : List CodeRow) (around : List OpenList) (t : Tree) (m : List Tree) (ms : List (List Tree)) → AheadStands rows around (t ∷ m) ms → AheadStands rows around m ms
ahead_tail rows [] t m ms h = h.1
ahead_tail rows (o ∷ around) t m ms h = (h.0.1, h.1)

listed : (ts : Trees) → trees_of (tree_list ts) ≡ ts
listed none = refl
listed (more t ts) = ap (more t) (listed ts)

-- after the line of a tag, the further tags continue the draft that has it
goes_on : (rows : List CodeRow) (s : State) (t : Tree) (m : List Tree) (ms : List (List Tree)) (us : List Tree) (z : List ℕ)
    → AheadStands rows s.around (t ∷ m) ms → us ≡ whole s.around (s.here ++ t ∷ m) ms → z ≡ below (length s.around) t ++ ahead_lines s.around m ms
    → Goes rows (with_tag (head_of t) s).around (with_tag (head_of t) s).here us z
goes_on rows s (leaf c l) m ms us z h e f = record {
  m = m;
  ms = ms;
  stands = ahead_tail rows s.around (leaf c l) m ms h;
  all = e ∙ ap (λ x. whole s.around x ms) (sym (append_assoc s.here (leaf c l ∷ []) m));
  left = f;
}
goes_on rows s (list c ts) m ms us z h e f =
    let same = listed ts in
    let inside : AllStand rows (suc (length s.around)) (Some c) ts = (ahead_head rows s.around (list c ts) m ms h).1.1.1 in
    record {
      m = tree_list ts;
      ms = m ∷ ms;
      stands = (subst (λ x. AllStand rows (suc (length s.around)) (Some c) x) (sym same) inside, ahead_tail rows s.around (list c ts) m ms h);
      all = e ∙ ap (λ x. whole s.around (s.here ++ list c x ∷ m) ms) (sym same);
      left = f ∙ ap (λ x. shown_tags (suc (length s.around)) x ++ ahead_lines s.around m ms) (sym same);
    }

-- a tag that fits there is added
taken_fits : (rows : List CodeRow) (level : ℕ) (t : Tree) (around : List OpenList) (here : List Tree)
    → level ≤ length around → level < 32 → fits rows (parent_in (lowered level around here).around) t ≡ true
    → taken rows level t around here ≡ Some (with_tag t (lowered level around here))
taken_fits rows level t around here low less fit = rw (le-ltb (length around) level low, lt-leb 32 level less, fit) refl

-- the next line, and the draft after it
pub record LineOf (rows : List CodeRow) (around : List OpenList) (here us : List Tree) (bare rest : List ℕ) : Type 0 where
  pub level : ℕ
  pub t : Tree
  pub head : IsHead t
  pub line : bare ≡ bare_line level t
  pub taken : taken rows level (head_of t) around here ≡ Some (with_tag (head_of t) (lowered level around here))
  pub goes : Goes rows (with_tag (head_of t) (lowered level around here)).around (with_tag (head_of t) (lowered level around here)).here us rest

line_of : (rows : List CodeRow) (around : List OpenList) (here us : List Tree) (bare rest : List ℕ) → has 10 bare ≡ false
    → Next rows around here us (bare ++ 10 ∷ rest) → LineOf rows around here us bare rest
line_of rows around here us bare rest free n =
    let s = lowered n.level around here in
    let deep : length s.around ≡ n.level = lowered_length n.level around here n.low in
    let there = head_stands rows n.level (parent_in s.around) n.t (subst (λ k. Stands rows k (parent_in s.around) n.t) deep (ahead_head rows s.around n.t n.m n.ms n.stands)) in
    let ahead = ahead_lines s.around n.m n.ms in
    let whole_line : bare ++ 10 ∷ rest ≡ bare_line n.level n.t ++ 10 ∷ (below n.level n.t ++ ahead) =
    n.left ∙ ahead_first s.around n.t n.m n.ms ∙ ap (λ k. shown_tag k n.t ++ ahead) deep ∙ tag_line n.level n.t ahead in
    let none_there = line_has n.level n.t there.head in
    let line : bare ≡ bare_line n.level n.t = sym (before_mark 10 bare rest free) ∙ ap (before 10) whole_line ∙ before_mark 10 (bare_line n.level n.t) (below n.level n.t ++ ahead) none_there in
    let behind_it : rest ≡ below n.level n.t ++ ahead = sym (behind_mark 10 bare rest free) ∙ ap (behind 10) whole_line ∙ behind_mark 10 (bare_line n.level n.t) (below n.level n.t ++ ahead) none_there in
    record {
      level = n.level;
      t = n.t;
      head = there.head;
      line = line;
      taken = taken_fits rows n.level (head_of n.t) around here n.low there.low there.fit;
      goes = goes_on rows s n.t n.m n.ms us rest n.stands n.all (behind_it ∙ ap (λ k. below k n.t ++ ahead) (sym deep));
    }

pub goes_line : (rows : List CodeRow) (around : List OpenList) (here us : List Tree) (bare rest : List ℕ) → has 10 bare ≡ false
    → Goes rows around here us (bare ++ 10 ∷ rest) → LineOf rows around here us bare rest
goes_line rows around here us [] rest free g = line_of rows around here us [] rest free (goes_next rows around here us 10 rest g)
goes_line rows around here us (b ∷ bare) rest free g = line_of rows around here us (b ∷ bare) rest free (goes_next rows around here us b (bare ++ 10 ∷ rest) g)

-- text that continues a draft ends with a line feed
pub goes_ended : (rows : List CodeRow) (around : List OpenList) (here us : List Tree) (b : ℕ) (z : List ℕ) → Goes rows around here us (b ∷ z) → has 10 (b ∷ z) ≡ true
goes_ended rows around here us b z g =
    let n = goes_next rows around here us b z g in
    let s = lowered n.level around here in
    let ahead = ahead_lines s.around n.m n.ms in
    ap (has 10) (n.left ∙ ahead_first s.around n.t n.m n.ms ∙ tag_line (length s.around) n.t ahead)
    ∙ has_mark 10 (bare_line (length s.around) n.t) (below (length s.around) n.t ++ ahead)
