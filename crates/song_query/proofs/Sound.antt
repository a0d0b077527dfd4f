-- Each step of the machine is a step of a draft: the bytes read begin a text that reads.
use Rattle.std.proofs.Common.{◌≡◌, ◌⊎◌, ◌++◌, ◌&&◌, ◌||◌, ℕ, Bool, not, true, false, cond, List, [], ◌∷◌, map, Option, Some, None, refl, ap, sym, ◌∙◌, subst, inl, inr, eqb, append_assoc, append-nil}
use Rattle.std.proofs.lemmas.Bool.{and_parts, and_from, or_from, eqb-true, false≢true}
use Rattle.item_model.specs.Proper.{is_name_byte, are_name_bytes}
use Rattle.item_model.specs.QueryTree.{or_of}
use Rattle.item_model.specs.declared.condition.Op.{Op}
use Rattle.item_model.specs.declared.condition.Op.TheVariants.{Is, IsNot, Less, More}
use Rattle.song_query.specs.Grammar.{Blank, space, plus, blank, blanks, Mark, quote, backslash, star, mark, is_mark, Atom, plain, escaped, lone, print_atoms, piece_of, are_atoms, print_starred, are_pieces, print_op, CondForm, is_and, UnitForm, cond as condition_form, group, AndForm, print_and, print_or, joined, units}
use Rattle.song_query.specs.Machine.{due, close, valued, slashed, State, start, with_unit, here, cond_of, is_blank, begin, follow, shut, step, go, bind, run}
use Rattle.song_query.proofs.Complete.{lv}
use Rattle.song_query.proofs.Draft.{Front, fresh, after_comma, print_front, front_members, is_front, front_gap, front_or, front_blank, Lead, first, next_to, print_lead, lead_units, is_lead, lead_and, Stub, quoted, naming, operating, op_mark, op_marked, valuing, slashing, print_stub, stub_place, is_stub, Draft, starts, after, within, print_draft, draft_place, draft_level, is_draft, Out, out_level, print_outs, are_outs, Whole, print_whole, is_whole, state_of, blanks_append, atoms_append, piece_append, are_atoms_append, starred_append, are_pieces_append, names_append, pieces_map_append, front_printed, front_read, front_valid, front_blank_printed, front_blank_read, front_blank_valid, lead_printed, lead_read, lead_valid}

-- the case that a test selects
pub chosen : (b : Bool) (x y z : Option State) → cond b x y ≡ z → ((b ≡ true) × (x ≡ z)) ⊎ ((b ≡ false) × (y ≡ z))
chosen true x y z h = inl (refl, h)
chosen false x y z h = inr (refl, h)

-- a draft that is one byte longer and has the state after the step
pub record Grown (w : Whole) (c : ℕ) (t : State) : Type 0 where
  pub next : Whole
  pub valid : is_whole next ≡ true
  pub printed : print_whole next ≡ print_whole w ++ c ∷ []
  pub state : Some (state_of next) ≡ Some t

-- a blank is a space or a plus
pub blank_at : (c : ℕ) → is_blank c ≡ true → (b : Blank) × (blank b ≡ c)
blank_at c h = blank_by (eqb c 32) (eqb c 43) refl refl h
  where
    blank_by : (x y : Bool) → eqb c 32 ≡ x → eqb c 43 ≡ y → (x || y) ≡ true → (b : Blank) × (blank b ≡ c)
    blank_by true y p q k = (space, sym (eqb-true c 32 p))
    blank_by false true p q k = (plus, sym (eqb-true c 43 q))
    blank_by false false p q k = absurd (false≢true k)

mark_at : (c : ℕ) → is_mark c ≡ true → (m : Mark) × (mark m ≡ c)
mark_at c h = mark_by (eqb c 39) (eqb c 92) (eqb c 42) refl refl refl h
  where
    mark_by : (x y z : Bool) → eqb c 39 ≡ x → eqb c 92 ≡ y → eqb c 42 ≡ z → (x || (y || z)) ≡ true → (m : Mark) × (mark m ≡ c)
    mark_by true y z p q r k = (quote, sym (eqb-true c 39 p))
    mark_by false true z p q r k = (backslash, sym (eqb-true c 92 q))
    mark_by false false true p q r k = (star, sym (eqb-true c 42 r))
    mark_by false false false p q r k = absurd (false≢true k)

-- a step that opens and closes no level
within_same : (outs : List Out) (old new : Draft) (c : ℕ) (t : State) → is_draft new ≡ true → are_outs outs ≡ true
    → print_draft new ≡ print_draft old ++ c ∷ [] → Some (here (draft_place new) (draft_level new) (map out_level outs)) ≡ Some t
    → Grown (record { draft = old; outer = outs }) c t
within_same outs old new c t v o p s = record {
  next = record { draft = new; outer = outs };
  valid = and_from _ _ v o;
  printed = ap (λ x. print_outs outs ++ x) p ∙ sym (append_assoc (print_outs outs) (print_draft old) (c ∷ []));
  state = s;
}

open_printed : (outs f l old : List ℕ) (c : ℕ) → old ≡ f ++ l → c ≡ 40 → (outs ++ (f ++ (l ++ 40 ∷ []))) ++ [] ≡ (outs ++ old) ++ c ∷ []
open_printed outs f l old c p e = rw p (rw e (simp (append_assoc, append-nil)))

comma_printed : (k o g f a : List ℕ) (c : ℕ) → f ++ a ≡ k ++ o → c ≡ 44 → k ++ (o ++ (g ++ 44 ∷ [])) ≡ (f ++ (a ++ g)) ++ c ∷ []
comma_printed k o g f a c p e =
    rw e (sym (append_assoc k o (g ++ 44 ∷ [])) ∙ ap (λ x. x ++ (g ++ 44 ∷ [])) (sym p) ∙ simp append_assoc)

-- after the same two parts
pub regrouped : (k o f a rest : List ℕ) → f ++ a ≡ k ++ o → k ++ (o ++ rest) ≡ f ++ (a ++ rest)
regrouped k o f a rest p = sym (append_assoc k o rest) ∙ ap (λ x. x ++ rest) (sym p) ∙ append_assoc f a rest

shut_printed : (outs f l and k o g e a : List ℕ) (c : ℕ) → l ++ 40 ∷ (k ++ (o ++ (g ++ 41 ∷ []))) ≡ and → e ++ a ≡ k ++ o → c ≡ 41
    → outs ++ (f ++ (and ++ [])) ≡ ((outs ++ (f ++ (l ++ 40 ∷ []))) ++ (e ++ (a ++ g))) ++ c ∷ []
shut_printed outs f l and k o g e a c p q r =
    ap (λ x. outs ++ (f ++ x)) (append-nil and ∙ sym p ∙ ap (λ x. l ++ 40 ∷ x) (regrouped k o e a (g ++ 41 ∷ []) q))
    ∙ rw r (simp append_assoc)

stub_printed : (f l s x : List ℕ) → f ++ (l ++ (s ++ x)) ≡ (f ++ (l ++ s)) ++ x
stub_printed f l s x = simp append_assoc

value_printed : (n : ℕ) (ns o ps p x : List ℕ) → 39 ∷ n ∷ (ns ++ (o ++ (ps ++ (p ++ x)))) ≡ (39 ∷ n ∷ (ns ++ (o ++ (ps ++ p)))) ++ x
value_printed n ns o ps p x = simp append_assoc

cond_printed : (f l and : List ℕ) (n : ℕ) (ns o ps p : List ℕ) (c : ℕ) → l ++ 39 ∷ n ∷ (ns ++ (o ++ ((ps ++ p) ++ 39 ∷ []))) ≡ and → c ≡ 39
    → f ++ (and ++ []) ≡ (f ++ (l ++ 39 ∷ n ∷ (ns ++ (o ++ (ps ++ p))))) ++ c ∷ []
cond_printed f l and n ns o ps p c h e = ap (λ x. f ++ x) (append-nil and ∙ sym h) ∙ rw e (simp append_assoc)

-- a quote or an opening parenthesis after a lead
begins_unit : (f : Front) (d : Lead) (old : Draft) (outs : List Out) (c : ℕ) (t : State) (other : Option State)
    → is_front f ≡ true → is_lead d ≡ true → are_outs outs ≡ true → print_draft old ≡ print_front f ++ print_lead d
    → begin (lv (front_members f) (lead_units d)) (map out_level outs) c other ≡ Some t
    → (other ≡ Some t → Grown (record { draft = old; outer = outs }) c t)
    → Grown (record { draft = old; outer = outs }) c t
begins_unit f d old outs c t other v w o p h else_ =
    elim (chosen (eqb c 39) _ _ _ h) [
      | inl e ↦ within_same outs old (within f d quoted) c t (and_from _ _ v (and_from _ _ w refl)) o
          (ap (λ x. print_front f ++ (print_lead d ++ x ∷ [])) (sym (eqb-true c 39 e.0))
          ∙ sym (append_assoc (print_front f) (print_lead d) (c ∷ [])) ∙ ap (λ x. x ++ c ∷ []) (sym p))
          e.1
      | inr e ↦ elim (chosen (eqb c 40) _ _ _ e.1) [
        | inl k ↦ record {
          next = record { draft = starts (fresh []); outer = record { front = f; lead = d } ∷ outs };
          valid = and_from _ _ (and_from _ _ v w) o;
          printed = open_printed (print_outs outs) (print_front f) (print_lead d) (print_draft old) c p (eqb-true c 40 k.0);
          state = k.1;
        }
        | inr k ↦ else_ k.1
      ]
    ]

-- a closing parenthesis after a unit
shuts : (f : Front) (a : AndForm) (g : List Blank) (outs : List Out) (c : ℕ) (t : State)
    → is_front f ≡ true → is_and a ≡ true → are_outs outs ≡ true → c ≡ 41
    → shut (lv (front_members f) (units a)) (map out_level outs) ≡ Some t
    → Grown (record { draft = after f a g; outer = outs }) c t
shuts f a g [] c t v w o e h = absurd (cc)
shuts f a g (x ∷ outs) c t v w o e h =
    let u : UnitForm = group (front_gap f) (front_or f a) g in
    let parts = and_parts _ _ o in
    let around = and_parts _ _ parts.0 in
    record {
      next = record { draft = after x.front (lead_and x.lead u) []; outer = outs };
      valid = and_from _ _ (and_from _ _ around.0 (lead_valid x.lead u around.1 (front_valid f a v w))) parts.1;
      printed =
          shut_printed (print_outs outs) (print_front x.front) (print_lead x.lead) (print_and (lead_and x.lead u)) (blanks (front_gap f)) (print_or (front_or f a)) (blanks g) (print_front f) (print_and a) c
          (lead_printed x.lead u) (front_printed f a) e;
      state =
          ap (λ us. Some (here close (lv (front_members x.front) us) (map out_level outs)))
          (lead_read x.lead u ∙ ap (λ ms. lead_units x.lead ++ joined or_of ms ∷ []) (front_read f a))
          ∙ h;
    }

-- a comma or a closing parenthesis after a unit
follows_unit : (f : Front) (a : AndForm) (g : List Blank) (outs : List Out) (c : ℕ) (t : State)
    → is_front f ≡ true → is_and a ≡ true → are_outs outs ≡ true
    → follow (lv (front_members f) (units a)) (map out_level outs) c ≡ Some t
    → Grown (record { draft = after f a g; outer = outs }) c t
follows_unit f a g outs c t v w o h =
    elim (chosen (eqb c 44) _ _ _ h) [
      | inl e ↦ within_same outs (after f a g) (starts (after_comma (front_gap f) (front_or f a) g [])) c t (front_valid f a v w) o
          (comma_printed (blanks (front_gap f)) (print_or (front_or f a)) (blanks g) (print_front f) (print_and a) c (front_printed f a) (eqb-true c 44 e.0))
          (ap (λ m. Some (here due (lv m []) (map out_level outs))) (front_read f a) ∙ e.1)
      | inr e ↦ elim (chosen (eqb c 41) _ _ _ e.1) [
        | inl k ↦ shuts f a g outs c t v w o (eqb-true c 41 k.0) k.1
        | inr k ↦ absurd (cc)
      ]
    ]

-- a step of a draft in a condition
stub_grows : (f : Front) (d : Lead) (s new : Stub) (outs : List Out) (c : ℕ) (t : State)
    → is_front f ≡ true → is_lead d ≡ true → are_outs outs ≡ true → is_stub new ≡ true → print_stub new ≡ print_stub s ++ c ∷ []
    → Some (here (stub_place new) (lv (front_members f) (lead_units d)) (map out_level outs)) ≡ Some t
    → Grown (record { draft = within f d s; outer = outs }) c t
stub_grows f d s new outs c t v w o k p h =
    within_same outs (within f d s) (within f d new) c t (and_from _ _ v (and_from _ _ w k)) o
    (ap (λ x. print_front f ++ (print_lead d ++ x)) p ∙ stub_printed (print_front f) (print_lead d) (print_stub s) (c ∷ [])) h

-- the end of a condition
cond_ends : (f : Front) (d : Lead) (n : ℕ) (ns : List ℕ) (op : Op) (ps : List (List Atom)) (p : List Atom) (outs : List Out) (c : ℕ) (t : State)
    → is_front f ≡ true → is_lead d ≡ true → are_outs outs ≡ true → is_stub (valuing n ns op ps p) ≡ true → c ≡ 39
    → Some (here close (with_unit (cond_of (n ∷ ns) op (map piece_of ps ++ piece_of p ∷ [])) (lv (front_members f) (lead_units d))) (map out_level outs)) ≡ Some t
    → Grown (record { draft = within f d (valuing n ns op ps p); outer = outs }) c t
cond_ends f d n ns op ps p outs c t v w o k e h =
    let form : CondForm = record { first = n; rest = ns; op = op; value = record { starred = ps; last = p } } in
    let parts = and_parts (are_name_bytes (n ∷ ns)) (are_pieces ps && are_atoms p) k in
    let name = and_parts (is_name_byte n) (are_name_bytes ns) parts.0 in
    within_same outs (within f d (valuing n ns op ps p)) (after f (lead_and d (condition_form form)) []) c t
    (and_from _ _ v (lead_valid d (condition_form form) w (and_from _ _ name.0 (and_from _ _ name.1 parts.1)))) o
    (cond_printed (print_front f) (print_lead d) (print_and (lead_and d (condition_form form))) n ns (print_op op) (print_starred ps) (print_atoms p) c (lead_printed d (condition_form form)) e)
    (ap (λ us. Some (here close (lv (front_members f) us) (map out_level outs))) (lead_read d (condition_form form)) ∙ h)

not_mark : (c : ℕ) → eqb c 39 ≡ false → eqb c 92 ≡ false → eqb c 42 ≡ false → not (is_mark c) ≡ true
not_mark c h k l = ap not (or_from _ _ h (or_from _ _ k l))

-- a byte of a value
value_grows : (f : Front) (d : Lead) (n : ℕ) (ns : List ℕ) (op : Op) (ps : List (List Atom)) (p : List Atom) (outs : List Out) (c : ℕ) (t : State)
    → is_front f ≡ true → is_lead d ≡ true → are_outs outs ≡ true → is_stub (valuing n ns op ps p) ≡ true
    → step (valued (n ∷ ns) op (map piece_of ps) (piece_of p)) (lv (front_members f) (lead_units d)) (map out_level outs) c ≡ Some t
    → Grown (record { draft = within f d (valuing n ns op ps p); outer = outs }) c t
value_grows f d n ns op ps p outs c t v w o k h =
    let parts = and_parts _ _ k in
    let more = and_parts _ _ parts.1 in
    elim (chosen (eqb c 39) _ _ _ h) [
      | inl e ↦ cond_ends f d n ns op ps p outs c t v w o k (eqb-true c 39 e.0) e.1
      | inr e ↦ elim (chosen (eqb c 92) _ _ _ e.1) [
        | inl x ↦ stub_grows f d (valuing n ns op ps p) (slashing n ns op ps p) outs c t v w o k
            (value_printed n ns (print_op op) (print_starred ps) (print_atoms p) (92 ∷ [])
            ∙ ap (λ y. print_stub (valuing n ns op ps p) ++ y ∷ []) (sym (eqb-true c 92 x.0))) x.1
        | inr x ↦ elim (chosen (eqb c 42) _ _ _ x.1) [
          | inl y ↦ stub_grows f d (valuing n ns op ps p) (valuing n ns op (ps ++ p ∷ []) []) outs c t v w o
              (and_from _ _ parts.0 (and_from _ _ (are_pieces_append ps p more.0 more.1) refl))
              (ap (λ y. 39 ∷ n ∷ (ns ++ (print_op op ++ y))) (append-nil (print_starred (ps ++ p ∷ [])) ∙ starred_append ps p)
              ∙ value_printed n ns (print_op op) (print_starred ps) (print_atoms p) (42 ∷ [])
              ∙ ap (λ y. print_stub (valuing n ns op ps p) ++ y ∷ []) (sym (eqb-true c 42 y.0)))
              (ap (λ r. Some (here (valued (n ∷ ns) op r []) (lv (front_members f) (lead_units d)) (map out_level outs))) (pieces_map_append ps p) ∙ y.1)
          | inr y ↦ stub_grows f d (valuing n ns op ps p) (valuing n ns op ps (p ++ plain c ∷ [])) outs c t v w o
              (and_from _ _ parts.0 (and_from _ _ more.0 (are_atoms_append p (plain c ∷ []) more.1 (and_from _ _ (not_mark c e.0 x.0 y.0) refl))))
              (ap (λ y. 39 ∷ n ∷ (ns ++ (print_op op ++ (print_starred ps ++ y)))) (atoms_append p (plain c ∷ []))
              ∙ value_printed n ns (print_op op) (print_starred ps) (print_atoms p) (c ∷ []))
              (ap (λ r. Some (here (valued (n ∷ ns) op (map piece_of ps) r) (lv (front_members f) (lead_units d)) (map out_level outs))) (piece_append p (plain c ∷ [])) ∙ y.1)
        ]
      ]
    ]

-- a byte after a backslash
slash_grows : (f : Front) (d : Lead) (n : ℕ) (ns : List ℕ) (op : Op) (ps : List (List Atom)) (p : List Atom) (outs : List Out) (c : ℕ) (t : State)
    → is_front f ≡ true → is_lead d ≡ true → are_outs outs ≡ true → is_stub (slashing n ns op ps p) ≡ true
    → step (slashed (n ∷ ns) op (map piece_of ps) (piece_of p)) (lv (front_members f) (lead_units d)) (map out_level outs) c ≡ Some t
    → Grown (record { draft = within f d (slashing n ns op ps p); outer = outs }) c t
slash_grows f d n ns op ps p outs c t v w o k h =
    let parts = and_parts _ _ k in
    let more = and_parts _ _ parts.1 in
    elim (chosen (is_mark c) _ _ _ h) [
      | inl e ↦
          let m = mark_at c e.0 in
          stub_grows f d (slashing n ns op ps p) (valuing n ns op ps (p ++ escaped m.0 ∷ [])) outs c t v w o
          (and_from _ _ parts.0 (and_from _ _ more.0 (are_atoms_append p (escaped m.0 ∷ []) more.1 refl)))
          (simp (atoms_append, append_assoc, m.1))
          (ap (λ r. Some (here (valued (n ∷ ns) op (map piece_of ps) r) (lv (front_members f) (lead_units d)) (map out_level outs))) (piece_append p (escaped m.0 ∷ []) ∙ ap (λ x. piece_of p ++ x ∷ []) m.1) ∙ e.1)
      | inr e ↦ stub_grows f d (slashing n ns op ps p) (valuing n ns op ps (p ++ lone c ∷ [])) outs c t v w o
          (and_from _ _ parts.0 (and_from _ _ more.0 (are_atoms_append p (lone c ∷ []) more.1 (and_from _ _ (ap not e.0) refl))))
          (simp (atoms_append, append_assoc))
          (ap (λ r. Some (here (valued (n ∷ ns) op (map piece_of ps) r) (lv (front_members f) (lead_units d)) (map out_level outs))) (piece_append p (lone c ∷ [])) ∙ e.1)
    ]

-- a byte of a condition before its value
stub_step : (f : Front) (d : Lead) (s : Stub) (outs : List Out) (c : ℕ) (t : State)
    → is_front f ≡ true → is_lead d ≡ true → are_outs outs ≡ true → is_stub s ≡ true
    → step (stub_place s) (lv (front_members f) (lead_units d)) (map out_level outs) c ≡ Some t
    → Grown (record { draft = within f d s; outer = outs }) c t
stub_step f d quoted outs c t v w o k h =
    elim (chosen (is_name_byte c) _ _ _ h) [
      | inl e ↦ stub_grows f d quoted (naming c []) outs c t v w o (and_from _ _ e.0 refl) refl e.1
      | inr e ↦ absurd (cc)
    ]
stub_step f d (naming n ns) outs c t v w o k h =
    let parts = and_parts _ _ k in
    elim (chosen (is_name_byte c) _ _ _ h) [
      | inl e ↦ stub_grows f d (naming n ns) (naming n (ns ++ c ∷ [])) outs c t v w o (and_from _ _ parts.0 (names_append ns c parts.1 e.0)) refl e.1
      | inr e ↦ elim (chosen (eqb c 58) _ _ _ e.1) [
        | inl x ↦ stub_grows f d (naming n ns) (valuing n ns Is [] []) outs c t v w o (and_from _ _ k refl)
            (ap (λ y. 39 ∷ n ∷ (ns ++ y ∷ [])) (sym (eqb-true c 58 x.0))) x.1
        | inr x ↦ elim (chosen (eqb c 33) _ _ _ x.1) [
          | inl y ↦ stub_grows f d (naming n ns) (operating n ns IsNot) outs c t v w o k
              (ap (λ y. 39 ∷ n ∷ (ns ++ y ∷ [])) (sym (eqb-true c 33 y.0))) y.1
          | inr y ↦ elim (chosen (eqb c 60) _ _ _ y.1) [
            | inl z ↦ stub_grows f d (naming n ns) (operating n ns Less) outs c t v w o k
                (ap (λ y. 39 ∷ n ∷ (ns ++ y ∷ [])) (sym (eqb-true c 60 z.0))) z.1
            | inr z ↦ elim (chosen (eqb c 62) _ _ _ z.1) [
              | inl u ↦ stub_grows f d (naming n ns) (operating n ns More) outs c t v w o k
                  (ap (λ y. 39 ∷ n ∷ (ns ++ y ∷ [])) (sym (eqb-true c 62 u.0))) u.1
              | inr u ↦ absurd (cc)
            ]
          ]
        ]
      ]
    ]
stub_step f d (operating n ns op) outs c t v w o k h =
    elim (chosen (eqb c 58) _ _ _ h) [
      | inl x ↦ stub_grows f d (operating n ns op) (valuing n ns op [] []) outs c t v w o (and_from _ _ k refl)
          (ap (λ y. 39 ∷ n ∷ (ns ++ y)) (op_marked op ∙ ap (λ y. op_mark op ++ y ∷ []) (sym (eqb-true c 58 x.0))) ∙ ap (λ y. 39 ∷ n ∷ y) (sym (append_assoc ns (op_mark op) (c ∷ [])))) x.1
      | inr x ↦ absurd (cc)
    ]
stub_step f d (valuing n ns op ps p) outs c t v w o k h = value_grows f d n ns op ps p outs c t v w o k h
stub_step f d (slashing n ns op ps p) outs c t v w o k h = slash_grows f d n ns op ps p outs c t v w o k h

-- each step is a step of the draft
draft_grows : (x : Draft) (outs : List Out) (c : ℕ) (t : State) → is_draft x ≡ true → are_outs outs ≡ true
    → step (draft_place x) (draft_level x) (map out_level outs) c ≡ Some t → Grown (record { draft = x; outer = outs }) c t
draft_grows (starts f) outs c t v o h =
    elim (chosen (is_blank c) _ _ _ h) [
      | inl e ↦
          let b = blank_at c e.0 in
          within_same outs (starts f) (starts (front_blank f b.0)) c t (front_blank_valid f b.0 ∙ v) o
          (front_blank_printed f b.0 ∙ ap (λ y. print_front f ++ y ∷ []) b.1)
          (ap (λ ms. Some (here due (lv ms []) (map out_level outs))) (front_blank_read f b.0) ∙ e.1)
      | inr e ↦ begins_unit f first (starts f) outs c t None v refl o (sym (append-nil (print_front f))) e.1 (λ k. absurd (cc))
    ]
draft_grows (after f a []) outs c t v o h =
    let parts = and_parts _ _ v in
    elim (chosen (is_blank c) _ _ _ h) [
      | inl e ↦
          let b = blank_at c e.0 in
          within_same outs (after f a []) (after f a (b.0 ∷ [])) c t v o
          (ap (λ y. print_front f ++ (print_and a ++ y ∷ [])) b.1 ∙ stub_printed (print_front f) (print_and a) [] (c ∷ []))
          e.1
      | inr e ↦ follows_unit f a [] outs c t parts.0 parts.1 o e.1
    ]
draft_grows (after f a (b ∷ g)) outs c t v o h =
    let parts = and_parts _ _ v in
    elim (chosen (is_blank c) _ _ _ h) [
      | inl e ↦
          let x = blank_at c e.0 in
          within_same outs (after f a (b ∷ g)) (after f a ((b ∷ g) ++ x.0 ∷ [])) c t v o
          (ap (λ y. print_front f ++ (print_and a ++ y)) (blanks_append (b ∷ g) (x.0 ∷ []) ∙ ap (λ y. blanks (b ∷ g) ++ y ∷ []) x.1)
          ∙ stub_printed (print_front f) (print_and a) (blanks (b ∷ g)) (c ∷ []))
          e.1
      | inr e ↦ begins_unit f (next_to a b g) (after f a (b ∷ g)) outs c t _ parts.0 parts.1 o refl e.1
          (λ k. follows_unit f a (b ∷ g) outs c t parts.0 parts.1 o k)
    ]
draft_grows (within f d s) outs c t v o h =
    let parts = and_parts _ _ v in
    let more = and_parts _ _ parts.1 in
    stub_step f d s outs c t parts.0 more.0 o more.1 h

-- the bytes read have a draft, with the state to which they led
pub record Drafted (bytes : List ℕ) (t : State) : Type 0 where
  pub whole : Whole
  pub valid : is_whole whole ≡ true
  pub printed : print_whole whole ≡ bytes
  pub state : state_of whole ≡ t

-- equal options have equal values
pub some_is : (s t : State) → Some s ≡ Some t → s ≡ t
some_is s t h = cc

drafted_step : (w : Whole) (c : ℕ) (cs : List ℕ) (t : State) (o : Option State) → is_whole w ≡ true → go (state_of w) c ≡ o → bind o (λ u. run u cs) ≡ Some t
    → ((next : Whole) → is_whole next ≡ true → run (state_of next) cs ≡ Some t → Drafted (print_whole next ++ cs) t)
    → Drafted (print_whole w ++ c ∷ cs) t
drafted_step w c cs t None v e h go_on = absurd (cc)
drafted_step w c cs t (Some u) v e h go_on =
    let parts = and_parts (is_draft w.draft) (are_outs w.outer) v in
    let g = draft_grows w.draft w.outer c u parts.0 parts.1 e in
    subst (λ x. Drafted x t) (ap (λ x. x ++ cs) g.printed ∙ append_assoc (print_whole w) (c ∷ []) cs)
    (go_on g.next g.valid (ap (λ x. run x cs) (some_is _ _ g.state) ∙ h))

-- a draft grows with all bytes that are read
drafted_from : (w : Whole) (bytes : List ℕ) (t : State) → is_whole w ≡ true → run (state_of w) bytes ≡ Some t → Drafted (print_whole w ++ bytes) t
drafted_from w [] t v h = record { whole = w; valid = v; printed = sym (append-nil (print_whole w)); state = some_is _ _ h }
drafted_from w (c ∷ cs) t v h =
    drafted_step w c cs t (go (state_of w) c) v refl h (λ next x k. drafted_from next cs t x k)

pub drafted : (bytes : List ℕ) (t : State) → run start bytes ≡ Some t → Drafted bytes t
drafted bytes t h = drafted_from (record { draft = starts (fresh []); outer = [] }) bytes t refl h
