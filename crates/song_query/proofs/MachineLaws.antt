-- What the machine decides of a text: whether it reads as a query, and at which offset it is stuck.
use Rattle.std.proofs.Common.{◌⊎◌, inl, inr, ◌≡◌, ◌≤◌, ◌<◌, ◌+◌, ◌++◌, ℕ, true, false, List, [], ◌∷◌, map, length, take, drop, Some, None, refl, ap, sym, ◌∙◌, subst, arith}
use Rattle.std.proofs.Math.Seq.{take-length}
use Rattle.std.proofs.lemmas.List.{take-append-drop, take-append-le, length-take-le}
use Rattle.std.proofs.lemmas.Bool.{and_parts, and_from, cases_lt, false≢true}
use Rattle.item_model.specs.QueryTree.{QueryTree, or_of}
use Rattle.song_query.specs.declared.levels.Level.{Level}
use Rattle.song_query.specs.Grammar.{Blank, blanks, print_and, print_or, joined}
use Rattle.song_query.specs.Machine.{Place, due, close, apart, opened, named, begun, valued, slashed, State, start, with_unit, level_query, here, bind, run, is_behind_unit, is_outside, is_end}
use Rattle.song_query.specs.Reading.{QueryReads, HasNoReading, Begins, IsStuck}
use Rattle.song_query.proofs.Complete.{behind, run_append, after_or, after_query, query_runs}
use Rattle.song_query.proofs.Draft.{front_gap, front_or, quoted, naming, operating, valuing, slashing, Draft, starts, after, within, print_front, draft_place, draft_level, is_draft, Out, out_level, are_outs, print_whole, front_printed, front_read, front_valid}
use Rattle.song_query.proofs.Sound.{some_is, drafted, regrouped}

-- a draft after a unit outside of parentheses is a form
whole_reads : (x : Draft) (outs : List Out) → is_draft x ≡ true → is_behind_unit (draft_place x) ≡ true → is_outside (map out_level outs) ≡ true
    → QueryReads (print_whole (record { draft = x; outer = outs })) (level_query (draft_level x))
whole_reads (starts f) outs v e o = absurd (false≢true e)
whole_reads (within f d quoted) outs v e o = absurd (false≢true e)
whole_reads (within f d (naming n ns)) outs v e o = absurd (false≢true e)
whole_reads (within f d (operating n ns op)) outs v e o = absurd (false≢true e)
whole_reads (within f d (valuing n ns op ps p)) outs v e o = absurd (false≢true e)
whole_reads (within f d (slashing n ns op ps p)) outs v e o = absurd (false≢true e)
whole_reads (after f a g) (x ∷ outs) v e o = absurd (false≢true o)
whole_reads (after f a g) [] v e o =
    let parts = and_parts _ _ v in
    record {
      form = record { front = front_gap f; body = front_or f a; back = g };
      valid = front_valid f a parts.0 parts.1;
      spelled = sym (regrouped (blanks (front_gap f)) (print_or (front_or f a)) (print_front f) (print_and a) (blanks g) (front_printed f a));
      means = ap (joined or_of) (sym (front_read f a));
    }

-- a text that is read to an end reads as the query there
pub accepted : (text : List ℕ) (s : State) → run start text ≡ Some s → is_end s ≡ true → QueryReads text (level_query s.level)
accepted text s h e =
    let d = drafted text s h in
    let parts = and_parts (is_draft d.whole.draft) (are_outs d.whole.outer) d.valid in
    let end = and_parts (is_behind_unit (draft_place d.whole.draft)) (is_outside (map out_level d.whole.outer)) (ap is_end d.state ∙ e) in
    let reads = whole_reads d.whole.draft d.whole.outer parts.0 end.0 end.1 in
    subst (λ x. QueryReads x (level_query s.level)) d.printed
    (subst (λ (x : State). QueryReads (print_whole d.whole) (level_query x.level)) d.state reads)

-- the end to which a text that reads is read
pub record IsRead (text : List ℕ) (q : QueryTree) : Type 0 where
  pub state : State
  pub ran : run start text ≡ Some state
  pub ends : is_end state ≡ true
  pub means : level_query state.level ≡ q

behind_is : (g : List Blank) → is_behind_unit (behind g) ≡ true
behind_is [] = refl
behind_is (b ∷ g) = refl

pub read_back : (text : List ℕ) (q : QueryTree) → QueryReads text q → IsRead text q
read_back text q r = record {
  state = here (behind r.form.back) (after_or r.form.body) [];
  ran = ap (run start) r.spelled ∙ (query_runs r.form r.valid).ran;
  ends = and_from _ _ (behind_is r.form.back) refl;
  means = after_query r.form.body ∙ sym r.means;
}

-- no text reads as two queries
pub one_reading : (text : List ℕ) (q r : QueryTree) → QueryReads text q → QueryReads text r → q ≡ r
one_reading text q r h k =
    let a = read_back text q h in
    let b = read_back text r k in
    sym a.means ∙ ap (λ (s : State). level_query s.level) (some_is _ _ (sym a.ran ∙ b.ran)) ∙ b.means

-- bytes that end the unit that was begun, or a short unit if none was
ending : Place → List ℕ
ending due = 39 ∷ 97 ∷ 58 ∷ 39 ∷ []
ending close = []
ending apart = []
ending opened = 97 ∷ 58 ∷ 39 ∷ []
ending (named n) = 58 ∷ 39 ∷ []
ending (begun n o) = 58 ∷ 39 ∷ []
ending (valued n o ps p) = 39 ∷ []
ending (slashed n o ps p) = 39 ∷ 39 ∷ []

-- the end to which some bytes lead
record Ending (s : State) (bytes : List ℕ) : Type 0 where
  pub state : State
  pub ran : run s bytes ≡ Some state
  pub ends : is_end state ≡ true

-- closing parentheses for the levels
parens : List Level → List ℕ
parens ls = map (λ _. 41) ls

close_all : (p : Place) (l : Level) (ls : List Level) → is_behind_unit p ≡ true → Ending (here p l ls) (parens ls)
unfolding parens
close_all p l [] h = record { state = here p l []; ran = refl; ends = and_from _ _ h refl }
close_all close l (m ∷ ls) h =
    let e = close_all close (with_unit (level_query l) m) ls refl in record { state = e.state; ran = e.ran; ends = e.ends }
close_all apart l (m ∷ ls) h =
    let e = close_all close (with_unit (level_query l) m) ls refl in record { state = e.state; ran = e.ran; ends = e.ends }
close_all due l (m ∷ ls) h = absurd (false≢true h)
close_all opened l (m ∷ ls) h = absurd (false≢true h)
close_all (named n) l (m ∷ ls) h = absurd (false≢true h)
close_all (begun n o) l (m ∷ ls) h = absurd (false≢true h)
close_all (valued n o ps p) l (m ∷ ls) h = absurd (false≢true h)
close_all (slashed n o ps p) l (m ∷ ls) h = absurd (false≢true h)

end_all : (p : Place) (l : Level) (ls : List Level) → Ending (here p l ls) (ending p ++ parens ls)
unfolding ending
end_all due l ls = let e = close_all close _ ls refl in record { state = e.state; ran = e.ran; ends = e.ends }
end_all close l ls = close_all close l ls refl
end_all apart l ls = close_all apart l ls refl
end_all opened l ls = let e = close_all close _ ls refl in record { state = e.state; ran = e.ran; ends = e.ends }
end_all (named n) l ls = let e = close_all close _ ls refl in record { state = e.state; ran = e.ran; ends = e.ends }
end_all (begun n o) l ls = let e = close_all close _ ls refl in record { state = e.state; ran = e.ran; ends = e.ends }
end_all (valued n o ps p) l ls = let e = close_all close _ ls refl in record { state = e.state; ran = e.ran; ends = e.ends }
end_all (slashed n o ps p) l ls = let e = close_all close _ ls refl in record { state = e.state; ran = e.ran; ends = e.ends }

-- bytes that are read begin a text that reads
pub begins : (bytes : List ℕ) (s : State) → run start bytes ≡ Some s → Begins bytes
begins bytes s h =
    let e = end_all s.place s.level s.outer in
    record {
      more = ending s.place ++ parens s.outer;
      query = level_query e.state.level;
      reads = accepted (bytes ++ (ending s.place ++ parens s.outer)) e.state
          (run_append start bytes (ending s.place ++ parens s.outer) ∙ ap (λ o. bind o (λ t. run t (ending s.place ++ parens s.outer))) h ∙ e.ran) e.ends;
    }

-- bytes that are not read begin none
pub stops : (bytes : List ℕ) → run start bytes ≡ None → Begins bytes → ⊥
stops bytes h b =
    let r = read_back (bytes ++ b.more) b.query b.reads in
    let k : run start (bytes ++ b.more) ≡ None = run_append start bytes b.more ∙ ap (λ o. bind o (λ t. run t b.more)) h in
    no_state _ (sym k ∙ r.ran)
  where
    no_state : (s : State) → None ≡ Some s → ⊥
    no_state s e = cc

-- if a prefix is not read, no longer one is
more_stops : (text : List ℕ) (m n : ℕ) → m ≤ n → n ≤ length text → run start (take m text) ≡ None → run start (take n text) ≡ None
more_stops text m n h k e =
    let long : m ≤ length (take n text) = omega (arith, length-take-le n text k) in
    let front : take m (take n text) ≡ take m text =
    sym (take-append-le m (take n text) (drop n text) long) ∙ ap (take m) (take-append-drop n text) in
    let parts : take m text ++ drop m (take n text) ≡ take n text =
    ap (λ x. x ++ drop m (take n text)) (sym front) ∙ take-append-drop m (take n text) in
    ap (run start) (sym parts) ∙ run_append start (take m text) (drop m (take n text)) ∙ ap (λ o. bind o (λ t. run t (drop m (take n text)))) e

not_longer : (text : List ℕ) (place n : ℕ) → place < length text → n ≤ length text → run start (take (place + 1) text) ≡ None → Begins (take n text)
    → (place < n) ⊎ (n ≤ place) → n ≤ place
not_longer text place n w l k b (inl h) = absurd (stops (take n text) (more_stops text (place + 1) n (omega arith) l k) b)
not_longer text place n w l k b (inr h) = h

pub stuck_at : (text : List ℕ) (place : ℕ) (s : State) → place < length text → run start (take place text) ≡ Some s → run start (take (place + 1) text) ≡ None
    → IsStuck text place
stuck_at text place s w h k = record {
  within = omega arith;
  begins = begins (take place text) s h;
  longest = λ n l b. not_longer text place n w l k b (cases_lt place n);
}

pub stuck_end : (text : List ℕ) (s : State) → run start text ≡ Some s → IsStuck text (length text)
stuck_end text s h = record {
  within = omega arith;
  begins = begins (take (length text) text) s (ap (run start) (take-length text) ∙ h);
  longest = λ n l b. l;
}

pub not_over : (text : List ℕ) (s : State) → run start text ≡ Some s → is_end s ≡ false → HasNoReading text
not_over text s h e q r =
    let b = read_back text q r in
    false≢true (sym e ∙ ap is_end (some_is _ _ (sym h ∙ b.ran)) ∙ b.ends)
