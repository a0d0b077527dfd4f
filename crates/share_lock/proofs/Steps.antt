-- Each step of a handle keeps the lock's rule, and reports what it must.
use Rattle.std.proofs.Common.{◌≡◌, ◌≢◌, ℕ, zero, suc, ◌+◌, ◌%◌, ◌^◌, ◌<◌, ◌≤◌, ◌==◌, eqb, Bool, true, false, List, [], ◌∷◌, ◌++◌, length, get_or, set, sym, refl, ap, ◌∙◌, subst, inl, inr, ⊎_elim, arith, Option, Some, None, unwrap_or, eq-eqb, ne_eqb, mod-eq_of_lt}
use Rattle.std.specs.Prelude.{All, Contains, MatchBool}
use mathlib.Core.Logic.{dite}
use mathlib.Core.Option.{none, some, some-injective, some-ne-none}
use mathlib.Core.Option as maybe
use native.Mathlib.Decide.{ℕ_discrete}
use lib.ListN.{get_elem?}
use prog.Atomic.{either}
use Rattle.atomic_table.specs.Table.{State, step, Act, keeps, takes, gives, carried_after, Valid, stepped, Allows, Splits, Joins, opening}
use Rattle.atomic_table.proofs.Lists.{set_else, set_again}
use Rattle.share_lock.specs.declared.view.View.{View}
use Rattle.share_lock.specs.Histories.{Adds, Continues}
use Rattle.share_lock.specs.Plays.{At, drawn, numbered, having_seen, left, holding, stored, Finds, entered, told}
use Rattle.share_lock.specs.Rule.{Stand, words_of, nothing, own_numbers, first_view, newcomer, joined, spent, HasTicket, HasNumber, IsHad, AllOutside, Kept, Held, Holds}
use Rattle.share_lock.proofs.Fronts.{continues_none, continues_here}
use Rattle.share_lock.proofs.Moves.{set_swap, only, none_in, in_front, all_outside, draw_at, enter_at, store_at, leave_at, name_at, split_at, join_at}
use Rattle.share_lock.proofs.Holding.{held_still, held_draw, held_leave, held_name, held_split, held_join}

-- a compare-and-exchange to one more, by whether it wins
tried : (n old : ℕ) (F : ℕ → Bool → Type 0) → (n ≡ old → F (n + 1) true) → F n false → F (either (eqb n old) (old + 1) n) (eqb n old)
tried n old F hit miss = dite (ℕ_discrete n old)
    (λ same. subst (λ b. F (either b (old + 1) n) b) (sym (eq-eqb n old same)) (subst (λ m. F (m + 1) true) same (hit same)))
    (λ other. subst (λ b. F (either b (old + 1) n) b) (sym (ne_eqb n old other)) miss)

shelf : {A : Type 0} (xs : List A) (a : A) → length xs ≡ 1 → set xs 0 a ≡ a ∷ []
shelf [] a one = absurd (omega arith)
shelf (x ∷ []) a one = refl
shelf (x ∷ y ∷ ys) a one = absurd (omega arith)

at_zero : {A : Type 0} (a b : A) (i : ℕ) → get_elem? (a ∷ []) i ≡ some b → (i ≡ 0) × (a ≡ b)
at_zero a b zero there = (refl, some-injective a b there)
at_zero a b (suc i) there = absurd (some-ne-none b (sym there))

abbrev state_in : {S : Type 0} → S → List (ℕ × Option S) → S
state_in d [] = d
state_in d (c ∷ cs) = unwrap_or c.1 d

module _ {S E T : Type 0} (entries : S → List E) (by : E → ℕ) (settings : S → T) (passes : ℕ) where
  abbrev W : Type 0
  W = View E T

  abbrev Table : Type 0
  Table = State (Option S) W

  abbrev Rule : Table → Type 0
  Rule = Holds entries by settings passes

  -- the words of the table are those of its state
  placed : (s : Table) (h : Rule s) → Rule record { words = words_of h.stand; homes = s.homes; views = s.views }
  placed s h = subst (λ ws. Rule record { words = ws; homes = s.homes; views = s.views }) h.kept.words h

  -- a step that changes nothing
  unmoved : (s : Table) (h : Rule s) (id : ℕ) (v : W) → get_elem? s.views id ≡ some v → Rule record { words = words_of h.stand; homes = s.homes; views = set s.views id v }
  unmoved s h id v at = subst (λ vs. Rule record { words = words_of h.stand; homes = s.homes; views = vs }) (sym (set_again s.views id v at)) (placed s h)

  pub starts : (x : S) → All (λ e. by e ≡ 0) (entries x) → 1 ≤ passes → Rule (opening (0 ∷ 0 ∷ length (entries x) ∷ 1 ∷ []) (Some x ∷ []) (first_view passes (settings x) (entries x)))
  starts x opened some_pass =
      let v : W = first_view passes (settings x) (entries x) in
      let h = entries x in
      let z : Stand E T = record { ticket = 0; serving = 0; history = h; named = 1; settings = settings x } in record {
        stand = z;
        kept = record {
          words = refl;
          fits = omega arith;
          ordered = omega arith;
          least = omega arith;
          most = some_pass;
          known = λ k d less. let is = opened k d less in omega arith;
          each = λ i u there. subst (Rattle.share_lock.specs.Rule.Fit by passes z) (at_zero v u i there).1 (record {
            waits = λ n is. absurd (cc);
            inside = λ no. absurd (cc);
            about = λ _. (refl, refl);
            front = ([], Rattle.std.proofs.Common.append-nil h);
            own = λ _. continues_here by (0 ∷ []) h;
            small = λ n has. let is : n ≡ 0 = only 0 n has in omega arith;
            avoids = λ n has. absurd (none_in n has);
            joint = record { first = continues_none by [] h h refl; second = continues_none by [] h h refl; apart = λ n has _. none_in n has };
          });
          once = λ i j u w n here there _ _. (at_zero v u i here).0 ∙ sym (at_zero v w j there).0;
          apart = λ i j u w n here there _ _. (at_zero v u i here).0 ∙ sym (at_zero v w j there).0;
          home = λ _. (x, refl, refl, refl);
        };
        held = record {
          waited = λ n low high. absurd (omega arith);
          drawn = λ n high. (0, v, refl, subst (Contains (0 ∷ [])) (let is : 0 ≡ n = omega arith in is) (in_front 0 []));
          distinct = λ i u there. subst (λ (w : W). Rattle.share_lock.specs.Rule.AreDistinct (own_numbers w)) (at_zero v u i there).1 ((λ has. none_in 0 has), tt);
        };
      }

  pub draws : (slots id old : ℕ) (me : At S E T) → old + 1 < 2 ^ 64 → me.0.ticket ≡ None → me.0.inside ≡ false
      → Allows Rule slots id me 0 (λ n. either (eqb n old) (old + 1) n) (drawn (step slots 0 old (old + 1) none) me)
  draws slots id old me small idle out s h count at fits =
      let z = h.stand in
      let w : W = record me.0 { ticket = Some z.ticket } in
      let now : W → Act (Option S) → At S E T = λ v a. (v, carried_after me.1 a) in
      let mine : At S E T = (w, me.1) in
      let F : ℕ → Bool → Type 0 = λ n b. (v : W) × (a : Act (Option S)) × Valid s.homes me.1 a × Rule (stepped record { words = words_of z; homes = s.homes; views = s.views } 0 n id me.1 v a)
      × MatchBool b (now v a ≡ mine) (now v a ≡ me) in
      let G : List ℕ → Type 0 = λ ws. (v : W) × (a : Act (Option S)) × Valid s.homes me.1 a × Rule (stepped record { words = ws; homes = s.homes; views = s.views } 0 (either (eqb (get_or ws 0 0) old) (old + 1) (get_or ws 0 0)) id me.1 v a)
      × drawn (step slots 0 old (old + 1) none) me (get_or ws 0 0) (v, carried_after me.1 a) in
      let go : G (words_of z) = tried z.ticket old F
      (λ hit. (
        w,
        keeps,
        tt,
        record {
          stand = record z { ticket = z.ticket + 1 };
          kept = draw_at entries by settings passes z s h.kept id me.0 at (omega arith) out;
          held = held_draw z s.views id me.0 at idle h.held;
        },
        refl,
      ))
      (me.0, keeps, tt, unmoved s h id me.0 at, refl) in
      subst G (sym h.kept.words) go

  pub names : (slots id old : ℕ) (me : At S E T) → old < passes → me.0.number ≡ None → me.0.inside ≡ false
      → Allows Rule slots id me 3 (λ n. either (eqb n old) (old + 1) n) (numbered (step slots 3 old (old + 1) none) me)
  names slots id old me small none_yet out s h count at fits =
      let z = h.stand in
      let f = h.kept.each id me.0 at in
      let w : W = record me.0 { number = Some z.named } in
      let now : W → Act (Option S) → At S E T = λ v a. (v, carried_after me.1 a) in
      let mine : At S E T = (w, me.1) in
      let F : ℕ → Bool → Type 0 = λ n b. (v : W) × (a : Act (Option S)) × Valid s.homes me.1 a × Rule (stepped record { words = words_of z; homes = s.homes; views = s.views } 3 n id me.1 v a)
      × MatchBool b ((now v a ≡ mine) × (1 ≤ z.named) × ¬ (Contains me.0.avoid z.named)) (now v a ≡ me) in
      let G : List ℕ → Type 0 = λ ws. (v : W) × (a : Act (Option S)) × Valid s.homes me.1 a × Rule (stepped record { words = ws; homes = s.homes; views = s.views } 3 (either (eqb (get_or ws 3 0) old) (old + 1) (get_or ws 3 0)) id me.1 v a)
      × numbered (step slots 3 old (old + 1) none) me (get_or ws 3 0) (v, carried_after me.1 a) in
      let go : G (words_of z) = tried z.named old F
      (λ hit. (
        w,
        keeps,
        tt,
        record {
          stand = record z { named = z.named + 1 };
          kept = name_at entries by settings passes z s h.kept id me.0 at none_yet out (omega arith);
          held = held_name z s.views id me.0 at none_yet f.small h.held;
        },
        (refl, h.kept.least, λ has. let less = f.avoids z.named has in omega arith),
      ))
      (me.0, keeps, tt, unmoved s h id me.0 at, refl) in
      subst G (sym h.kept.words) go

  pub enters : (slots id : ℕ) (me : At S E T) (ticket : ℕ) → me.0.ticket ≡ Some ticket → me.0.inside ≡ false → Allows Rule slots id me 1 (λ n. n) (entered entries by settings (step slots 1 0 0 none) me)
  enters slots id me ticket mine out s h count at fits =
      let z = h.stand in
      let k = h.kept in
      let f = k.each id me.0 at in
      let own : (n : ℕ) → me.0.ticket ≡ Some n → ticket ≡ n = λ n is. ap (λ (o : Option ℕ). unwrap_or o 0) (sym mine ∙ is) in
      let G : List ℕ → Type 0 = λ ws. (v : W) × (a : Act (Option S)) × Valid s.homes me.1 a × Rule (stepped record { words = ws; homes = s.homes; views = s.views } 1 (get_or ws 1 0) id me.1 v a)
      × entered entries by settings (step slots 1 0 0 none) me (get_or ws 1 0) (v, carried_after me.1 a) in
      let go : G (words_of z) = dite (ℕ_discrete z.serving ticket)
      (λ hit.
      let served : me.0.ticket ≡ Some z.serving = mine ∙ ap Some (sym hit) in
      let x = k.home (all_outside entries by settings passes z s k id me.0 at served out) in
      let w : W = holding me.0 (entries x.0) in (
        w,
        takes 0 (Some x.0),
        ap (λ hs. get_elem? hs 0) x.1,
        record {
          stand = z;
          kept = subst (λ history. Kept entries by settings passes z record { words = words_of z; homes = set s.homes 0 none; views = set s.views id (holding me.0 history) }) (sym x.2)
              (enter_at entries by settings passes z s k id me.0 (set s.homes 0 none) at served);
          held = held_still z z s.views id me.0 w at refl refl refl refl refl h.held;
        },
        λ n is. subst (λ b. MatchBool b (Finds entries by settings me (w, (0, Some x.0) ∷ me.1)) ((w, (0, Some x.0) ∷ me.1) ≡ me)) (sym (eq-eqb z.serving n (hit ∙ own n is)))
            (record {
              state = x.0;
              holds = refl;
              about = λ some_pass. x.3 ∙ sym (f.about some_pass).1;
              history = subst (Continues by (own_numbers me.0) me.0.seen) (sym x.2) (f.own out);
              numbers = λ some_pass. subst (All (λ e. by e < me.0.passes)) (sym x.2) (λ i d less. let l = k.known i d less in let m = k.most in let p = (f.about some_pass).0 in omega arith);
            }),
      ))
      (λ miss. (
        me.0,
        keeps,
        tt,
        unmoved s h id me.0 at,
        λ n is. subst (λ b. MatchBool b (Finds entries by settings me me) (me ≡ me)) (sym (ne_eqb z.serving n (λ same. miss (same ∙ sym (own n is))))) refl,
      )) in
      subst G (sym k.words) go

  stores : (id : ℕ) (v : W) (x : S) (number n : ℕ) (more : List E) → v.inside ≡ true → v.number ≡ Some number → entries x ≡ v.noted ++ more → All (λ e. by e ≡ number) more → n ≡ length (entries x)
      → Allows Rule 1 id (v, (0, Some x) ∷ []) 2 (λ _. n) (λ _. stored entries (step 1 2 n 0 none) (v, (0, Some x) ∷ []) n)
  stores id v x number n more in_turn named grown made long s h count at fits =
      let z = h.stand in
      let k = h.kept in
      let whole = ((k.each id v at).inside in_turn).1 in
      let w : W = record v { noted = entries x } in
      let G : List ℕ → Type 0 = λ ws. (u : W) × (a : Act (Option S)) × Valid s.homes ((0, Some x) ∷ []) a × Rule (stepped record { words = ws; homes = s.homes; views = s.views } 2 n id ((0, Some x) ∷ []) u a)
      × stored entries (step 1 2 n 0 none) (v, (0, Some x) ∷ []) n (u, carried_after ((0, Some x) ∷ []) a) in
      let go : G (words_of z) = (
        w,
        keeps,
        tt,
        subst (λ m. Rule record { words = z.ticket ∷ z.serving ∷ m ∷ z.named ∷ []; homes = s.homes; views = set s.views id w }) (sym long) (record {
          stand = record z { history = entries x };
          kept = store_at entries by settings passes z s k id v number (entries x) more at in_turn named (grown ∙ ap (λ l. l ++ more) whole) made;
          held = held_still z (record z { history = entries x }) s.views id v w at refl refl refl refl refl h.held;
        }),
        λ y same. ap (λ cs. let u : W = record v { noted = entries (state_in x cs) } in let m : At S E T = (u, (0, Some x) ∷ []) in m) same,
      ) in
      subst G (sym k.words) go

  -- the same with the number of slots as an equation, and a list of slots with only the state
  pub stores_at : (slots id : ℕ) (me : At S E T) (x : S) (number n : ℕ) → slots ≡ 1 → me.1 ≡ (0, Some x) ∷ [] → me.0.inside ≡ true → me.0.number ≡ Some number → Adds by number me.0.noted (entries x) → n ≡ length (entries x)
      → Allows Rule slots id me 2 (λ _. n) (λ _. stored entries (step slots 2 n 0 none) me n)
  stores_at slots id me x number n one has in_turn named added long =
      subst (λ (t : ℕ × List (ℕ × Option S)). Allows Rule t.0 id (me.0, t.1) 2 (λ _. n) (λ _. stored entries (step t.0 2 n 0 none) (me.0, t.1) n)) (λ i. (sym one i, sym has i))
      (stores id me.0 x number n added.0 in_turn named added.1 added.2 long)

  leaves : (id : ℕ) (v : W) (x : S) → v.inside ≡ true → entries x ≡ v.noted → settings x ≡ v.settings → 1 ≤ v.passes
      → Allows Rule 1 id (v, (0, Some x) ∷ []) 1 (λ n. (n + 1) % 2 ^ 64) (left (step 1 1 1 0 none) (v, (0, Some x) ∷ []))
  leaves id v x in_turn noted settled some_pass s h count at fits =
      let z = h.stand in
      let k = h.kept in
      let f = k.each id v at in
      let served = (f.inside in_turn).0 in
      let w : W = having_seen v in
      let next : (z.serving + 1) % 2 ^ 64 ≡ z.serving + 1 = mod-eq_of_lt (let l = (f.waits z.serving served).1 in let m = k.fits in omega arith) in
      let G : List ℕ → Type 0 = λ ws. (u : W) × (a : Act (Option S)) × Valid s.homes ((0, Some x) ∷ []) a × Rule (stepped record { words = ws; homes = s.homes; views = s.views } 1 ((get_or ws 1 0 + 1) % 2 ^ 64) id ((0, Some x) ∷ []) u a)
      × left (step 1 1 1 0 none) (v, (0, Some x) ∷ []) (get_or ws 1 0) (u, carried_after ((0, Some x) ∷ []) a) in
      let go : G (words_of z) = (
        w,
        gives,
        tt,
        subst (λ (t : ℕ × List (maybe.Option (Option S))). Rule record { words = z.ticket ∷ t.0 ∷ length z.history ∷ z.named ∷ []; homes = t.1; views = set s.views id w }) (λ i. (sym next i, sym (shelf s.homes (some (Some x)) count) i)) (record {
          stand = record z { serving = z.serving + 1 };
          kept = leave_at entries by settings passes z s k id v x at in_turn noted settled some_pass;
          held = held_leave z s.views id v at served h.held;
        }),
        refl,
      ) in
      subst G (sym k.words) go

  pub leaves_at : (slots id : ℕ) (me : At S E T) (x : S) → slots ≡ 1 → me.1 ≡ (0, Some x) ∷ [] → me.0.inside ≡ true → entries x ≡ me.0.noted → settings x ≡ me.0.settings → 1 ≤ me.0.passes
      → Allows Rule slots id me 1 (λ n. (n + 1) % 2 ^ 64) (left (step slots 1 1 0 none) me)
  leaves_at slots id me x one has in_turn noted settled some_pass =
      subst (λ (t : ℕ × List (ℕ × Option S)). Allows Rule t.0 id (me.0, t.1) 1 (λ n. (n + 1) % 2 ^ 64) (left (step t.0 1 1 0 none) (me.0, t.1))) (λ i. (sym one i, sym has i))
      (leaves id me.0 x in_turn noted settled some_pass)

  pub splits : (id : ℕ) (v : W) → Splits Rule id v v (newcomer v)
  splits id v s h at = subst (λ vs. Rule record { words = s.words; homes = s.homes; views = vs ++ newcomer v ∷ [] }) (sym (set_again s.views id v at)) (record {
    stand = h.stand;
    kept = split_at entries by settings passes h.stand s h.kept id v at;
    held = held_split h.stand s.views v h.held;
  })

  pub merges : (id : ℕ) (v : W) (other : ℕ) (w : W) (unset : T) → v.inside ≡ false → w.inside ≡ false → w.ticket ≡ None → Joins Rule id v other w (joined v w) (spent unset)
  merges id v other w unset out also_out idle s h at apart there =
      let z = h.stand in
      let k = h.kept in
      let there' : get_elem? s.views other ≡ some w = sym (set_else s.views id other (joined v w) apart) ∙ there in
      subst (λ (t : List ℕ × List W). Rule record { words = t.0; homes = s.homes; views = t.1 }) (λ i. (sym k.words i, sym (set_swap s.views id other (joined v w) (spent unset) apart) i)) (record {
        stand = z;
        kept = join_at entries by settings passes z s k id v other w unset at there' apart out also_out;
        held = held_join z s.views id v other w unset at there' apart idle (λ n mine his. apart (k.apart other id w v n there' at his mine)) h.held;
      })

  pub tells : (slots id : ℕ) (me : At S E T) → Allows Rule slots id me 0 (λ n. n) (told by (step slots 0 0 0 none) me)
  tells slots id me s h count at fits =
      let G : List ℕ → Type 0 = λ ws. (v : W) × (a : Act (Option S)) × Valid s.homes me.1 a × Rule (stepped record { words = ws; homes = s.homes; views = s.views } 0 (get_or ws 0 0) id me.1 v a)
      × told by (step slots 0 0 0 none) me (get_or ws 0 0) (v, carried_after me.1 a) in
      let go : G (words_of h.stand) = (me.0, keeps, tt, unmoved s h id me.0 at, (refl, (h.kept.each id me.0 at).joint)) in
      subst G (sym h.kept.words) go
