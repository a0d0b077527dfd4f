-- The machine reads each text that is printed from a form, and ends with the meaning of the form.
use Rattle.std.proofs.Common.{◌≡◌, ◌++◌, ◌&&◌, ◌||◌, ◌==◌, ℕ, Bool, not, true, false, cond, List, [], ◌∷◌, map, Option, Some, None, refl, ap, sym, ◌∙◌, subst, append_assoc, append-nil}
use Rattle.std.proofs.lemmas.Bool.{and_parts, cond-true, cond-false, false≢true}
use Rattle.item_model.specs.Proper.{are_name_bytes}
use Rattle.item_model.specs.QueryTree.{QueryTree, condition, or_of}
use Rattle.item_model.specs.declared.condition.Op.{Op}
use Rattle.item_model.specs.declared.condition.Op.TheVariants.{Is, IsNot, Less, More}
use Rattle.song_query.specs.Grammar.{Blank, space, plus, blank, blanks, Mark, quote, backslash, star, mark, is_mark, Atom, plain, escaped, lone, print_atoms, piece_of, are_atoms, print_starred, are_pieces, Value, print_value, value_pieces, print_op, CondForm, print_cond, cond_meaning, is_cond, UnitForm, cond as condition_form, group, AndForm, one, more, OrForm, only, either, print_unit, print_and, print_or, joined, unit_meaning, units, members, is_unit, is_and, is_or, QueryForm, print_query}
use Rattle.song_query.specs.declared.levels.Level.{Level}
use Rattle.song_query.specs.Machine.{Place, due, close, apart, opened, named, valued, slashed, State, start, with_unit, with_member, level_query, here, cond_of, go, bind, run}

-- reading the bytes leads from one state to another
pub record Runs (s : State) (bytes : List ℕ) (t : State) : Type 0 where
  pub ran : run s bytes ≡ Some t

after_step : (cs b : List ℕ) → ((t : State) → run t (cs ++ b) ≡ bind (run t cs) (λ u. run u b)) → (o : Option State)
    → bind o (λ t. run t (cs ++ b)) ≡ bind (bind o (λ t. run t cs)) (λ t. run t b)
after_step cs b h None = refl
after_step cs b h (Some t) = h t

-- two parts are read one after the other
pub run_append : (s : State) (a b : List ℕ) → run s (a ++ b) ≡ bind (run s a) (λ t. run t b)
run_append s [] b = refl
run_append s (c ∷ cs) b = after_step cs b (λ t. run_append t cs b) (go s c)

pub both : {s t u : State} {a b : List ℕ} → Runs s a t → Runs t b u → Runs s (a ++ b) u
both {s} {t} {u} {a} {b} h k = record { ran = run_append s a b ∙ ap (λ o. bind o (λ x. run x b)) h.ran ∙ k.ran }

pub next : {s t u : State} {c : ℕ} {b : List ℕ} → go s c ≡ Some t → Runs t b u → Runs s (c ∷ b) u
next {s} {t} {u} {c} {b} h k = record { ran = ap (λ o. bind o (λ x. run x b)) h ∙ k.ran }

pub stay : {s : State} → Runs s [] s
stay = record { ran = refl }

-- a level with these members and units
abbrev pub lv : List QueryTree → List QueryTree → Level
lv ms us = record { members = ms; units = us }

pub due_gap : (g : List Blank) (l : Level) (ls : List Level) → Runs (here due l ls) (blanks g) (here due l ls)
due_gap [] l ls = stay
due_gap (space ∷ g) l ls = next refl (due_gap g l ls)
due_gap (plus ∷ g) l ls = next refl (due_gap g l ls)

pub apart_gap : (g : List Blank) (l : Level) (ls : List Level) → Runs (here apart l ls) (blanks g) (here apart l ls)
apart_gap [] l ls = stay
apart_gap (space ∷ g) l ls = next refl (apart_gap g l ls)
apart_gap (plus ∷ g) l ls = next refl (apart_gap g l ls)

-- the position after a unit and blanks
abbrev pub behind : List Blank → Place
behind [] = close
behind (b ∷ g) = apart

pub close_gap : (g : List Blank) (l : Level) (ls : List Level) → Runs (here close l ls) (blanks g) (here (behind g) l ls)
close_gap [] l ls = stay
close_gap (space ∷ g) l ls = next refl (apart_gap g l ls)
close_gap (plus ∷ g) l ls = next refl (apart_gap g l ls)

-- a blank after a unit
close_blank : (b : Blank) (l : Level) (ls : List Level) → go (here close l ls) (blank b) ≡ Some (here apart l ls)
close_blank space l ls = refl
close_blank plus l ls = refl

behind_comma : (g : List Blank) (l : Level) (ls : List Level) → go (here (behind g) l ls) 44 ≡ Some (here due (with_member l) ls)
behind_comma [] l ls = refl
behind_comma (b ∷ g) l ls = refl

behind_shut : (g : List Blank) (l m : Level) (ls : List Level) → go (here (behind g) l (m ∷ ls)) 41 ≡ Some (here close (with_unit (level_query l) m) ls)
behind_shut [] l m ls = refl
behind_shut (b ∷ g) l m ls = refl

-- the positions at which a unit may begin
data Entry : Type 0 where
  at_due : Entry
  at_apart : Entry

abbrev entry : Entry → Place
entry at_due = due
entry at_apart = apart

enter_quote : (e : Entry) (l : Level) (ls : List Level) → go (here (entry e) l ls) 39 ≡ Some (here opened l ls)
enter_quote at_due l ls = refl
enter_quote at_apart l ls = refl

enter_group : (e : Entry) (l : Level) (ls : List Level) → go (here (entry e) l ls) 40 ≡ Some (here due (lv [] []) (l ∷ ls))
enter_group at_due l ls = refl
enter_group at_apart l ls = refl

name_runs : (n cs : List ℕ) (l : Level) (ls : List Level) → are_name_bytes cs ≡ true → Runs (here (named n) l ls) cs (here (named (n ++ cs)) l ls)
name_runs n [] l ls h = subst (λ m. Runs (here (named n) l ls) [] (here (named m) l ls)) (sym (append-nil n)) stay
name_runs n (c ∷ cs) l ls h =
    let parts = and_parts _ _ h in
    subst (λ m. Runs (here (named n) l ls) (c ∷ cs) (here (named m) l ls)) (append_assoc n (c ∷ []) cs)
    (next (cond-true _ _ _ parts.0) (name_runs (n ++ c ∷ []) cs l ls parts.1))

op_runs : (n : List ℕ) (o : Op) (l : Level) (ls : List Level) → Runs (here (named n) l ls) (print_op o) (here (valued n o [] []) l ls)
op_runs n Is l ls = next refl stay
op_runs n IsNot l ls = next refl (next refl stay)
op_runs n Less l ls = next refl (next refl stay)
op_runs n More l ls = next refl (next refl stay)

no_mark : (a b d : Bool) (x y z w : Option State) → (a || (b || d)) ≡ false → cond a x (cond b y (cond d z w)) ≡ w
no_mark true b d x y z w h = absurd (false≢true (sym h))
no_mark false true d x y z w h = absurd (false≢true (sym h))
no_mark false false true x y z w h = absurd (false≢true (sym h))
no_mark false false false x y z w h = refl

-- a test whose negation holds fails
pub not_true : (b : Bool) → not b ≡ true → b ≡ false
not_true true h = absurd (false≢true h)
not_true false h = refl

escape_ends : (m : Mark) (n : List ℕ) (o : Op) (ps : List (List ℕ)) (p : List ℕ) (l : Level) (ls : List Level)
    → go (here (slashed n o ps p) l ls) (mark m) ≡ Some (here (valued n o ps (p ++ mark m ∷ [])) l ls)
escape_ends quote n o ps p l ls = refl
escape_ends backslash n o ps p l ls = refl
escape_ends star n o ps p l ls = refl

pub plain_read : (c : ℕ) (n : List ℕ) (o : Op) (ps : List (List ℕ)) (p : List ℕ) (l : Level) (ls : List Level) → is_mark c ≡ false
    → go (here (valued n o ps p) l ls) c ≡ Some (here (valued n o ps (p ++ c ∷ [])) l ls)
plain_read c n o ps p l ls h = no_mark (c == 39) (c == 92) (c == 42) _ _ _ _ h

atoms_run : (n : List ℕ) (o : Op) (ps : List (List ℕ)) (p : List ℕ) (atoms : List Atom) (l : Level) (ls : List Level) → are_atoms atoms ≡ true
    → Runs (here (valued n o ps p) l ls) (print_atoms atoms) (here (valued n o ps (p ++ piece_of atoms)) l ls)
atoms_run n o ps p [] l ls h = subst (λ m. Runs (here (valued n o ps p) l ls) [] (here (valued n o ps m) l ls)) (sym (append-nil p)) stay
atoms_run n o ps p (plain c ∷ atoms) l ls h =
    let parts = and_parts _ _ h in
    subst (λ m. Runs (here (valued n o ps p) l ls) (c ∷ print_atoms atoms) (here (valued n o ps m) l ls)) (append_assoc p (c ∷ []) (piece_of atoms))
    (next (plain_read c n o ps p l ls (not_true _ parts.0)) (atoms_run n o ps (p ++ c ∷ []) atoms l ls parts.1))
atoms_run n o ps p (escaped m ∷ atoms) l ls h =
    subst (λ r. Runs (here (valued n o ps p) l ls) (92 ∷ mark m ∷ print_atoms atoms) (here (valued n o ps r) l ls)) (append_assoc p (mark m ∷ []) (piece_of atoms))
    (next refl (next (escape_ends m n o ps p l ls) (atoms_run n o ps (p ++ mark m ∷ []) atoms l ls h)))
atoms_run n o ps p (lone c ∷ atoms) l ls h =
    let parts = and_parts _ _ h in
    subst (λ r. Runs (here (valued n o ps p) l ls) (92 ∷ c ∷ print_atoms atoms) (here (valued n o ps r) l ls)) (append_assoc p (92 ∷ c ∷ []) (piece_of atoms))
    (next refl (next (cond-false _ _ _ (not_true _ parts.0)) (atoms_run n o ps (p ++ 92 ∷ c ∷ []) atoms l ls parts.1)))

starred_run : (n : List ℕ) (o : Op) (ps : List (List ℕ)) (starred : List (List Atom)) (l : Level) (ls : List Level) → are_pieces starred ≡ true
    → Runs (here (valued n o ps []) l ls) (print_starred starred) (here (valued n o (ps ++ map piece_of starred) []) l ls)
starred_run n o ps [] l ls h = subst (λ r. Runs (here (valued n o ps []) l ls) [] (here (valued n o r []) l ls)) (sym (append-nil ps)) stay
starred_run n o ps (p ∷ starred) l ls h =
    let parts = and_parts _ _ h in
    subst (λ r. Runs (here (valued n o ps []) l ls) (print_atoms p ++ 42 ∷ print_starred starred) (here (valued n o r []) l ls)) (append_assoc ps (piece_of p ∷ []) (map piece_of starred))
    (both (atoms_run n o ps [] p l ls parts.0) (next refl (starred_run n o (ps ++ piece_of p ∷ []) starred l ls parts.1)))

value_runs : (n : List ℕ) (o : Op) (v : Value) (l : Level) (ls : List Level) → (are_pieces v.starred && are_atoms v.last) ≡ true
    → Runs (here (valued n o [] []) l ls) (print_value v ++ 39 ∷ []) (here close (with_unit (cond_of n o (value_pieces v)) l) ls)
value_runs n o v l ls h =
    let parts = and_parts _ _ h in
    both (both (starred_run n o [] v.starred l ls parts.0) (atoms_run n o (map piece_of v.starred) [] v.last l ls parts.1)) (next refl stay)

cond_runs : (c : CondForm) (e : Entry) (l : Level) (ls : List Level) → is_cond c ≡ true
    → Runs (here (entry e) l ls) (print_cond c) (here close (with_unit (condition (cond_meaning c)) l) ls)
cond_runs c e l ls h =
    let parts = and_parts _ _ h in
    let more = and_parts _ _ parts.1 in
    next (enter_quote e l ls)
    (next {t = here (named (c.first ∷ [])) l ls} (cond-true _ _ _ parts.0)
    (both (name_runs (c.first ∷ []) c.rest l ls more.0)
    (both (op_runs (c.first ∷ c.rest) c.op l ls) (value_runs (c.first ∷ c.rest) c.op c.value l ls more.1))))

-- the level after an `or`, whose last member is still open
abbrev pub after_or : OrForm → Level
after_or (only a) = lv [] (units a)
after_or (either o g h a) = lv (members o) (units a)

pub after_members : (o : OrForm) → with_member (after_or o) ≡ lv (members o) []
after_members (only a) = refl
after_members (either o g h a) = refl

pub after_query : (o : OrForm) → level_query (after_or o) ≡ joined or_of (members o)
after_query (only a) = refl
after_query (either o g h a) = refl

mutual
  unit_runs : (u : UnitForm) (e : Entry) (l : Level) (ls : List Level) → is_unit u ≡ true
      → Runs (here (entry e) l ls) (print_unit u) (here close (with_unit (unit_meaning u) l) ls)
  unit_runs (condition_form c) e l ls h = cond_runs c e l ls h
  unit_runs (group g o k) e l ls h =
      next (enter_group e l ls)
      (both (due_gap g (lv [] []) (l ∷ ls))
      (both (or_runs o (l ∷ ls) h)
      (both (close_gap k (after_or o) (l ∷ ls))
      (next (behind_shut k (after_or o) l ls ∙ ap (λ q. Some (here close (with_unit q l) ls)) (after_query o)) stay))))

  and_runs : (a : AndForm) (ms : List QueryTree) (ls : List Level) → is_and a ≡ true
      → Runs (here due (lv ms []) ls) (print_and a) (here close (lv ms (units a)) ls)
  and_runs (one u) ms ls h = unit_runs u at_due (lv ms []) ls h
  and_runs (more a b g u) ms ls h =
      let parts = and_parts _ _ h in
      both (and_runs a ms ls parts.0)
      (next (close_blank b (lv ms (units a)) ls)
      (both (apart_gap g (lv ms (units a)) ls) (unit_runs u at_apart (lv ms (units a)) ls parts.1)))

  or_runs : (o : OrForm) (ls : List Level) → is_or o ≡ true
      → Runs (here due (lv [] []) ls) (print_or o) (here close (after_or o) ls)
  or_runs (only a) ls h = and_runs a [] ls h
  or_runs (either o g k a) ls h =
      let parts = and_parts _ _ h in
      both (or_runs o ls parts.0)
      (both (close_gap g (after_or o) ls)
      (next (behind_comma g (after_or o) ls ∙ ap (λ l. Some (here due l ls)) (after_members o))
      (both (due_gap k (lv (members o) []) ls) (and_runs a (members o) ls parts.1))))

-- a text printed from a form is read to its end
pub query_runs : (f : QueryForm) → is_or f.body ≡ true → Runs start (print_query f) (here (behind f.back) (after_or f.body) [])
query_runs f h =
    both (due_gap f.front (lv [] []) []) (both (or_runs f.body [] h) (close_gap f.back (after_or f.body) []))
