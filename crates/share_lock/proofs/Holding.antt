-- After each step every ticket and number is still some view's.
use Rattle.std.proofs.Common.{◌≡◌, ◌≢◌, ℕ, ◌+◌, ◌<◌, List, [], ◌∷◌, ◌++◌, set, sym, ap, ◌∙◌, subst, ⊎_elim, arith, append_assoc, Option, Some, None, unwrap_or}
use Rattle.std.specs.Prelude.{Contains, option_to_list}
use Rattle.std.proofs.lemmas.List.Elements.{Contains-append_cases, Contains-append_left, Contains-append_right}
use mathlib.Core.Logic.{dite}
use mathlib.Core.Option.{some, some-injective}
use native.Mathlib.Decide.{ℕ_discrete}
use lib.ListN.{get_elem?}
use Rattle.atomic_table.proofs.Lists.{set_else, at_longer, at_snoc}
use Rattle.share_lock.specs.declared.view.View.{View}
use Rattle.share_lock.specs.Histories.{AreApart}
use Rattle.share_lock.specs.Plays.{having_seen}
use Rattle.share_lock.specs.Rule.{Stand, own_numbers, newcomer, joined, spent, HasTicket, HasNumber, IsHad, AreDistinct, Held}
use Rattle.share_lock.proofs.Moves.{set_at, views_stay, in_front}

distinct_append : (ns ms : List ℕ) → AreDistinct ns → AreDistinct ms → AreApart ns ms → AreDistinct (ns ++ ms)
distinct_append [] ms a b apart = b
distinct_append (n ∷ ns) ms a b apart = (
  (λ has. ⊎_elim a.0 (apart n (in_front n ns)) (Contains-append_cases ns ms n has)),
  distinct_append ns ms a.1 b (λ m one two. apart m (Contains-append_right (n ∷ []) ns m one) two),
)

module _ {E T : Type 0} where
  -- what a view had it still has, or another has it
  had_stays : (Has : View E T → ℕ → Type 0) (vs : List (View E T)) (id : ℕ) (v w : View E T) (n : ℕ) → get_elem? vs id ≡ some v → (Has v n → Has w n) → IsHad Has vs n → IsHad Has (set vs id w) n
  had_stays Has vs id v w n at keeps had = dite (ℕ_discrete had.0 id)
      (λ same. (id, w, set_at vs id v w at, keeps (subst (λ (u : View E T). Has u n) (some-injective had.1 v (sym had.2 ∙ (ap (get_elem? vs) same ∙ at))) had.3)))
      (λ other. (had.0, had.1, set_else vs id had.0 w other ∙ had.2, had.3))

  had_longer : (Has : View E T → ℕ → Type 0) (vs more : List (View E T)) (n : ℕ) → IsHad Has vs n → IsHad Has (vs ++ more) n
  had_longer Has vs more n had = (had.0, had.1, at_longer vs more had.0 had.1 had.2, had.3)

  distinct_stays : (vs : List (View E T)) (id : ℕ) (w : View E T) → AreDistinct (own_numbers w) → ((i : ℕ) (v : View E T) → get_elem? vs i ≡ some v → AreDistinct (own_numbers v)) → (i : ℕ) (v : View E T) → get_elem? (set vs id w) i ≡ some v → AreDistinct (own_numbers v)
  distinct_stays vs id w mine each = views_stay (λ u. AreDistinct (own_numbers u)) vs id w mine (λ j u _ there. each j u there)

  -- a step after which the view has what it had
  pub held_still : (z y : Stand E T) (vs : List (View E T)) (id : ℕ) (v w : View E T) → get_elem? vs id ≡ some v → y.ticket ≡ z.ticket → y.serving ≡ z.serving → y.named ≡ z.named → w.ticket ≡ v.ticket → own_numbers w ≡ own_numbers v → Held z vs → Held y (set vs id w)
  held_still z y vs id v w at ticket serving named same numbers h = record {
    waited = λ n low high. had_stays HasTicket vs id v w n at (λ is. same ∙ is) (h.waited n (omega arith) (omega arith));
    drawn = λ n high. had_stays HasNumber vs id v w n at (subst (λ ns. Contains ns n) (sym numbers)) (h.drawn n (omega arith));
    distinct = distinct_stays vs id w (subst AreDistinct (sym numbers) (h.distinct id v at)) h.distinct;
  }

  pub held_draw : (z : Stand E T) (vs : List (View E T)) (id : ℕ) (v : View E T) → get_elem? vs id ≡ some v → v.ticket ≡ None → Held z vs
      → Held (record z { ticket = z.ticket + 1 }) (set vs id (record v { ticket = Some z.ticket }))
  held_draw z vs id v at none h = let w : View E T = record v { ticket = Some z.ticket } in record {
    waited = λ n low high. dite (ℕ_discrete n z.ticket)
        (λ new. (id, w, set_at vs id v w at, ap Some (sym new)))
        (λ old. had_stays HasTicket vs id v w n at (λ is. absurd (let no = sym none ∙ is in cc)) (h.waited n low (omega arith)));
    drawn = λ n high. had_stays HasNumber vs id v w n at (λ is. is) (h.drawn n high);
    distinct = distinct_stays vs id w (h.distinct id v at) h.distinct;
  }

  pub held_leave : (z : Stand E T) (vs : List (View E T)) (id : ℕ) (v : View E T) → get_elem? vs id ≡ some v → v.ticket ≡ Some z.serving → Held z vs
      → Held (record z { serving = z.serving + 1 }) (set vs id (having_seen v))
  held_leave z vs id v at mine h = let w : View E T = having_seen v in record {
    waited = λ n low high. had_stays HasTicket vs id v w n at
        (λ is. absurd (let same : z.serving ≡ n = ap (λ (o : Option ℕ). unwrap_or o 0) (sym mine ∙ is) in omega arith)) (h.waited n (omega arith) high);
    drawn = λ n high. had_stays HasNumber vs id v w n at (λ is. is) (h.drawn n high);
    distinct = distinct_stays vs id w (h.distinct id v at) h.distinct;
  }

  pub held_name : (z : Stand E T) (vs : List (View E T)) (id : ℕ) (v : View E T) → get_elem? vs id ≡ some v → v.number ≡ None → ((n : ℕ) → Contains (own_numbers v) n → n < z.named) → Held z vs
      → Held (record z { named = z.named + 1 }) (set vs id (record v { number = Some z.named }))
  held_name z vs id v at none small h =
      let w : View E T = record v { number = Some z.named } in
      let before : own_numbers v ≡ v.taken = ap (λ (o : Option ℕ). option_to_list o ++ v.taken) none in record {
        waited = λ n low high. had_stays HasTicket vs id v w n at (λ is. is) (h.waited n low high);
        drawn = λ n high. dite (ℕ_discrete n z.named)
            (λ new. (id, w, set_at vs id v w at, subst (Contains (own_numbers w)) (sym new) (in_front z.named v.taken)))
            (λ old. had_stays HasNumber vs id v w n at (λ is. Contains-append_right (z.named ∷ []) v.taken n (subst (λ ns. Contains ns n) before is)) (h.drawn n (omega arith)));
        distinct = distinct_stays vs id w ((λ has. let l = small z.named (subst (λ ns. Contains ns z.named) (sym before) has) in omega arith), subst AreDistinct before (h.distinct id v at)) h.distinct;
      }

  pub held_split : (z : Stand E T) (vs : List (View E T)) (v : View E T) → Held z vs → Held z (vs ++ newcomer v ∷ [])
  held_split z vs v h = record {
    waited = λ n low high. had_longer HasTicket vs (newcomer v ∷ []) n (h.waited n low high);
    drawn = λ n high. had_longer HasNumber vs (newcomer v ∷ []) n (h.drawn n high);
    distinct = λ i u there. ⊎_elim (h.distinct i u) (λ (is : newcomer v ≡ u). subst (λ (x : View E T). AreDistinct (own_numbers x)) is tt) (at_snoc vs (newcomer v) u i there);
  }

  pub held_join : (z : Stand E T) (vs : List (View E T)) (id : ℕ) (v : View E T) (other : ℕ) (w : View E T) (unset : T) → get_elem? vs id ≡ some v → get_elem? vs other ≡ some w → other ≢ id → w.ticket ≡ None → AreApart (own_numbers v) (own_numbers w) → Held z vs
      → Held z (set (set vs other (spent unset)) id (joined v w))
  held_join z vs id v other w unset at there apart none differ h =
      let u : View E T = joined v w in
      let vs' : List (View E T) = set vs other (spent unset) in
      let at' : get_elem? vs' id ≡ some v = set_else vs other id (spent unset) (λ same. apart (sym same)) ∙ at in
      let numbers : own_numbers v ++ own_numbers w ≡ own_numbers u = append_assoc (option_to_list v.number) v.taken (own_numbers w) in record {
        waited = λ n low high. had_stays HasTicket vs' id v u n at' (λ is. is)
            (had_stays HasTicket vs other w (spent unset) n there (λ is. absurd (let no = sym none ∙ is in cc)) (h.waited n low high));
        drawn = λ n high. let had = h.drawn n high in dite (ℕ_discrete had.0 other)
            (λ same. (
              id,
              u,
              set_at vs' id v u at',
              subst (λ ns. Contains ns n) numbers (Contains-append_right (own_numbers v) (own_numbers w) n
                  (subst (λ (x : View E T). HasNumber x n) (some-injective had.1 w (sym had.2 ∙ (ap (get_elem? vs) same ∙ there))) had.3)),
            ))
            (λ far. had_stays HasNumber vs' id v u n at' (λ is. subst (λ ns. Contains ns n) numbers (Contains-append_left (own_numbers v) (own_numbers w) n is))
            (had.0, had.1, set_else vs other had.0 (spent unset) far ∙ had.2, had.3));
        distinct = distinct_stays vs' id u (subst AreDistinct numbers (distinct_append (own_numbers v) (own_numbers w) (h.distinct id v at) (h.distinct other w there) differ))
            (distinct_stays vs other (spent unset) tt h.distinct);
      }
