-- The machine has a level for each parenthesis that is open.
use Rattle.std.proofs.Common.{◌≡◌, ◌++◌, ℕ, suc, true, false, List, [], ◌∷◌, length, Option, Some, None, refl, ap, sym, ◌∙◌, subst, inl, inr, eqb, arith}
use Rattle.std.proofs.lemmas.Bool.{cond-true, cond-false, eqb-true, ne_eqb, false_from_ne_true, false≢true}
use Rattle.item_model.specs.Proper.{is_name_byte}
use Rattle.song_query.specs.declared.levels.Level.{Level}
use Rattle.song_query.specs.Grammar.{Blank, space, plus, blank, is_mark}
use Rattle.song_query.specs.Machine.{Place, due, close, apart, opened, named, begun, valued, slashed, State, start, here, is_blank, begin, follow, shut, step, go, bind, run}
use Rattle.song_query.specs.Nesting.{Where, outside, inside, behind, where_next, open_next, open_behind, open_at_end}
use Rattle.song_query.proofs.Sound.{some_is, chosen, blank_at}
use Rattle.song_query.proofs.Wide.{AreWide}

-- whether a position is outside of conditions, in one, or after a backslash
abbrev pub where_at : Place → Where
where_at due = outside
where_at close = outside
where_at apart = outside
where_at opened = inside
where_at (named n) = inside
where_at (begun n o) = inside
where_at (valued n o ps p) = inside
where_at (slashed n o ps p) = behind

-- a step changes the levels as it changes the count
record Counts (w : Where) (n : ℕ) (c : ℕ) (t : State) : Type 0 where
  pub place : where_next w c ≡ where_at t.place
  pub count : open_next w n c ≡ length t.outer

counted : (w : Where) (n : ℕ) (c : ℕ) (p : Place) (l : Level) (ls : List Level) (t : State) → where_next w c ≡ where_at p → open_next w n c ≡ length ls
    → Some (here p l ls) ≡ Some t → Counts w n c t
counted w n c p l ls t a b h =
    let e : here p l ls ≡ t = cc in
    subst (Counts w n c) e (record { place = a; count = b })

blank_place : (b : Blank) → where_next outside (blank b) ≡ outside
blank_place space = refl
blank_place plus = refl

blank_count : (b : Blank) (n : ℕ) → open_next outside n (blank b) ≡ n
blank_count space n = refl
blank_count plus n = refl

on_blank : (p : Place) (l : Level) (ls : List Level) (c : ℕ) (t : State) → where_at p ≡ outside → is_blank c ≡ true → Some (here p l ls) ≡ Some t → Counts outside (length ls) c t
on_blank p l ls c t w e h =
    let b = blank_at c e in
    counted outside (length ls) c p l ls t (ap (where_next outside) (sym b.1) ∙ blank_place b.0 ∙ sym w) (ap (open_next outside (length ls)) (sym b.1) ∙ blank_count b.0 (length ls)) h

on_begin : (l : Level) (ls : List Level) (c : ℕ) (t : State) (other : Option State) → begin l ls c other ≡ Some t → (other ≡ Some t → Counts outside (length ls) c t)
    → Counts outside (length ls) c t
on_begin l ls c t other h else_ =
    elim (chosen (eqb c 39) _ _ _ h) [
      | inl e ↦ counted outside (length ls) c opened l ls t (ap (where_next outside) (eqb-true c 39 e.0)) (ap (open_next outside (length ls)) (eqb-true c 39 e.0)) e.1
      | inr e ↦ elim (chosen (eqb c 40) _ _ _ e.1) [
        | inl k ↦ counted outside (length ls) c due _ (l ∷ ls) t (ap (where_next outside) (eqb-true c 40 k.0)) (ap (open_next outside (length ls)) (eqb-true c 40 k.0) ∙ omega arith) k.1
        | inr k ↦ else_ k.1
      ]
    ]

on_shut : (l : Level) (ls : List Level) (c : ℕ) (t : State) → c ≡ 41 → shut l ls ≡ Some t → Counts outside (length ls) c t
on_shut l [] c t e h = absurd (cc)
on_shut l (m ∷ ls) c t e h =
    counted outside (suc (length ls)) c close _ ls t (ap (where_next outside) e) (ap (open_next outside (suc (length ls))) e ∙ omega arith) h

on_follow : (l : Level) (ls : List Level) (c : ℕ) (t : State) → follow l ls c ≡ Some t → Counts outside (length ls) c t
on_follow l ls c t h =
    elim (chosen (eqb c 44) _ _ _ h) [
      | inl e ↦ counted outside (length ls) c due _ ls t (ap (where_next outside) (eqb-true c 44 e.0)) (ap (open_next outside (length ls)) (eqb-true c 44 e.0)) e.1
      | inr e ↦ elim (chosen (eqb c 41) _ _ _ e.1) [
        | inl k ↦ on_shut l ls c t (eqb-true c 41 k.0) k.1
        | inr k ↦ absurd (cc)
      ]
    ]

not_name : (c k : ℕ) → is_name_byte k ≡ false → is_name_byte c ≡ true → eqb c k ≡ false
not_name c k h e = false_from_ne_true _ (λ x. false≢true (sym h ∙ ap is_name_byte (sym (eqb-true c k x)) ∙ e))

pub name_inside : (c : ℕ) → is_name_byte c ≡ true → where_next inside c ≡ inside
name_inside c h = cond-false _ _ _ (not_name c 39 refl h) ∙ cond-false _ _ _ (not_name c 92 refl h)

step_counts : (p : Place) (l : Level) (ls : List Level) (c : ℕ) (t : State) → step p l ls c ≡ Some t → Counts (where_at p) (length ls) c t
step_counts due l ls c t h =
    elim (chosen (is_blank c) _ _ _ h) [
      | inl e ↦ on_blank due l ls c t refl e.0 e.1
      | inr e ↦ on_begin l ls c t None e.1 (λ k. absurd (cc))
    ]
step_counts close l ls c t h =
    elim (chosen (is_blank c) _ _ _ h) [
      | inl e ↦ on_blank apart l ls c t refl e.0 e.1
      | inr e ↦ on_follow l ls c t e.1
    ]
step_counts apart l ls c t h =
    elim (chosen (is_blank c) _ _ _ h) [
      | inl e ↦ on_blank apart l ls c t refl e.0 e.1
      | inr e ↦ on_begin l ls c t (follow l ls c) e.1 (λ k. on_follow l ls c t k)
    ]
step_counts opened l ls c t h =
    elim (chosen (is_name_byte c) _ _ _ h) [
      | inl e ↦ counted inside (length ls) c (named (c ∷ [])) l ls t (name_inside c e.0) refl e.1
      | inr e ↦ absurd (cc)
    ]
step_counts (named n) l ls c t h =
    elim (chosen (is_name_byte c) _ _ _ h) [
      | inl e ↦ counted inside (length ls) c (named (n ++ c ∷ [])) l ls t (name_inside c e.0) refl e.1
      | inr e ↦ elim (chosen (eqb c 58) _ _ _ e.1) [
        | inl k ↦ counted inside (length ls) c _ l ls t (ap (where_next inside) (eqb-true c 58 k.0)) refl k.1
        | inr k ↦ elim (chosen (eqb c 33) _ _ _ k.1) [
          | inl x ↦ counted inside (length ls) c _ l ls t (ap (where_next inside) (eqb-true c 33 x.0)) refl x.1
          | inr x ↦ elim (chosen (eqb c 60) _ _ _ x.1) [
            | inl y ↦ counted inside (length ls) c _ l ls t (ap (where_next inside) (eqb-true c 60 y.0)) refl y.1
            | inr y ↦ elim (chosen (eqb c 62) _ _ _ y.1) [
              | inl z ↦ counted inside (length ls) c _ l ls t (ap (where_next inside) (eqb-true c 62 z.0)) refl z.1
              | inr z ↦ absurd (cc)
            ]
          ]
        ]
      ]
    ]
step_counts (begun n o) l ls c t h =
    elim (chosen (eqb c 58) _ _ _ h) [
      | inl k ↦ counted inside (length ls) c _ l ls t (ap (where_next inside) (eqb-true c 58 k.0)) refl k.1
      | inr k ↦ absurd (cc)
    ]
step_counts (valued n o ps p) l ls c t h =
    elim (chosen (eqb c 39) _ _ _ h) [
      | inl e ↦ counted inside (length ls) c close _ ls t (cond-true _ _ _ e.0) refl e.1
      | inr e ↦ elim (chosen (eqb c 92) _ _ _ e.1) [
        | inl k ↦ counted inside (length ls) c (slashed n o ps p) l ls t (cond-false _ _ _ e.0 ∙ cond-true _ _ _ k.0) refl k.1
        | inr k ↦ elim (chosen (eqb c 42) _ _ _ k.1) [
          | inl x ↦ counted inside (length ls) c (valued n o (ps ++ p ∷ []) []) l ls t (cond-false _ _ _ e.0 ∙ cond-false _ _ _ k.0) refl x.1
          | inr x ↦ counted inside (length ls) c (valued n o ps (p ++ c ∷ [])) l ls t (cond-false _ _ _ e.0 ∙ cond-false _ _ _ k.0) refl x.1
        ]
      ]
    ]
step_counts (slashed n o ps p) l ls c t h =
    elim (chosen (is_mark c) _ _ _ h) [
      | inl e ↦ counted behind (length ls) c (valued n o ps (p ++ c ∷ [])) l ls t refl refl e.1
      | inr e ↦ counted behind (length ls) c (valued n o ps (p ++ 92 ∷ c ∷ [])) l ls t refl refl e.1
    ]

counts_on : (s : State) (c : ℕ) (cs : List ℕ) (t : State) (o : Option State) → go s c ≡ o → bind o (λ u. run u cs) ≡ Some t
    → ((u : State) → run u cs ≡ Some t → open_behind (where_at u.place) (length u.outer) cs ≡ length t.outer)
    → open_behind (where_at s.place) (length s.outer) (c ∷ cs) ≡ length t.outer
counts_on s c cs t None e h go_on = absurd (cc)
counts_on s c cs t (Some u) e h go_on =
    let k = step_counts s.place s.level s.outer c u e in
    ap (λ w. open_behind w (open_next (where_at s.place) (length s.outer) c) cs) k.place
    ∙ ap (λ n. open_behind (where_at u.place) n cs) k.count
    ∙ go_on u h

run_counts : (s : State) (bytes : List ℕ) (t : State) → run s bytes ≡ Some t → open_behind (where_at s.place) (length s.outer) bytes ≡ length t.outer
run_counts s [] t h = ap (λ (x : State). length x.outer) (some_is _ _ h)
run_counts s (c ∷ cs) t h = counts_on s c cs t (go s c) refl h (λ u k. run_counts u cs t k)

-- the levels after a text are its open parentheses
pub nested : (bytes : List ℕ) (t : State) → run start bytes ≡ Some t → open_at_end bytes ≡ length t.outer
nested bytes t h = run_counts start bytes t h

-- outside of conditions, in one, or after a backslash, after the bytes
where_behind : Where → List ℕ → Where
where_behind w [] = w
where_behind w (c ∷ cs) = where_behind (where_next w c) cs

-- the count after two parts
open_append : (w : Where) (n : ℕ) (a b : List ℕ) → open_behind w n (a ++ b) ≡ open_behind (where_behind w a) (open_behind w n a) b
unfolding where_behind
open_append w n [] b = refl
open_append w n (c ∷ cs) b = open_append (where_next w c) (open_next w n c) cs b

-- bytes above ASCII open and close nothing
wide_keeps : (w : Where) (n : ℕ) (bytes : List ℕ) → AreWide bytes → open_behind w n bytes ≡ n
wide_keeps w n [] h = refl
wide_keeps outside n (b ∷ bytes) h =
    let e : open_next outside n b ≡ n =
    cond-false _ _ _ (ne_eqb b 40 (let k = h.each 0 (omega arith) in omega arith)) ∙ cond-false _ _ _ (ne_eqb b 41 (let k = h.each 0 (omega arith) in omega arith)) in
    ap (λ m. open_behind (where_next outside b) m bytes) e ∙ wide_keeps (where_next outside b) n bytes (record { each = λ k x. h.each (suc k) (omega arith) })
wide_keeps inside n (b ∷ bytes) h = wide_keeps (where_next inside b) n bytes (record { each = λ k x. h.each (suc k) (omega arith) })
wide_keeps behind n (b ∷ bytes) h = wide_keeps inside n bytes (record { each = λ k x. h.each (suc k) (omega arith) })

-- so they do not change the count
pub wide_behind : (a b : List ℕ) → AreWide b → open_at_end (a ++ b) ≡ open_at_end a
wide_behind a b h = open_append outside 0 a b ∙ wide_keeps (where_behind outside a) (open_at_end a) b h
