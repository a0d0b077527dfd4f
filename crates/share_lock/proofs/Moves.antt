-- A lock's table with one view changed still fits together: one lemma for all, and then each kind of step.
use Rattle.std.proofs.Common.{◌≡◌, ◌≢◌, ℕ, zero, suc, ◌+◌, ◌^◌, ◌<◌, ◌≤◌, Bool, true, false, List, [], ◌∷◌, ◌++◌, get_or, set, sym, refl, ap, ◌∙◌, subst, ◌⊎◌, ⊎_elim, arith, append_assoc, Option, Some, None, unwrap_or}
use Rattle.std.specs.Prelude.{All, Contains, option_to_list}
use Rattle.std.proofs.lemmas.List.{append-nil}
use Rattle.std.proofs.lemmas.List.Elements.{All-append, Contains-append_cases}
use mathlib.Core.Logic.{dite}
use mathlib.Core.List.{IsPrefix}
use mathlib.Core.Option.{some, some-injective, some-ne-none}
use mathlib.Core.Option as maybe
use native.Mathlib.Decide.{ℕ_discrete}
use lib.ListN.{get_elem?}
use Rattle.atomic_table.specs.Table.{State}
use Rattle.atomic_table.proofs.Lists.{at_set, set_else, at_longer, at_snoc}
use Rattle.share_lock.specs.declared.view.View.{View}
use Rattle.share_lock.specs.Histories.{Continues, longer}
use Rattle.share_lock.specs.Plays.{having_seen, holding}
use Rattle.share_lock.specs.Rule.{Stand, words_of, own_numbers, newcomer, joined, spent, Fit, Differ, HasTicket, HasNumber, AllOutside, IsHome, Kept}
use Rattle.share_lock.proofs.Fronts.{prefix_trans, continues, continues_none, continues_here, continues_more, continues_front, all_rest, joins}

module _ {A : Type 0} where
  pub set_at : (xs : List A) (i : ℕ) (a b : A) → get_elem? xs i ≡ some a → get_elem? (set xs i b) i ≡ some b
  set_at [] i a b there = absurd (some-ne-none a (sym there))
  set_at (x ∷ xs) zero a b there = refl
  set_at (x ∷ xs) (suc i) a b there = set_at xs i a b there

  pub set_swap : (xs : List A) (i j : ℕ) (a b : A) → j ≢ i → set (set xs i a) j b ≡ set (set xs j b) i a
  set_swap [] i j a b other = refl
  set_swap (x ∷ xs) zero zero a b other = absurd (other refl)
  set_swap (x ∷ xs) zero (suc j) a b other = refl
  set_swap (x ∷ xs) (suc i) zero a b other = refl
  set_swap (x ∷ xs) (suc i) (suc j) a b other = ap (λ l. x ∷ l) (set_swap xs i j a b (λ same. other (ap suc same)))

-- a number in a list of one is that one
pub only : (n m : ℕ) → Contains (n ∷ []) m → m ≡ n
only n m (zero, less, is) = sym is
only n m (suc k, less, is) = absurd (omega arith)

pub none_in : (n : ℕ) → Contains [] n → ⊥
none_in n has = let less = has.1 in omega arith

pub in_front : (n : ℕ) (ns : List ℕ) → Contains (n ∷ ns) n
in_front n ns = (0, omega arith, refl)

either_way : (b : Bool) → (b ≡ true → ⊥) → b ≡ false
either_way true not = absurd (not refl)
either_way false not = refl

module _ {E T : Type 0} where
  -- what holds of the changed view and of the others holds of each
  pub views_stay : (P : View E T → Type 0) (vs : List (View E T)) (id : ℕ) (w : View E T) → P w → ((j : ℕ) (u : View E T) → j ≢ id → get_elem? vs j ≡ some u → P u) → (j : ℕ) (u : View E T) → get_elem? (set vs id w) j ≡ some u → P u
  views_stay P vs id w mine others j u there = ⊎_elim (λ (t : (j ≡ id) × (w ≡ u)). subst P t.1 mine) (λ (t : (j ≢ id) × (get_elem? vs j ≡ some u)). others j u t.0 t.1) (at_set vs id j w u there)

  -- no other view has what the changed view has
  abbrev pub IsFree : (View E T → ℕ → Type 0) → List (View E T) → ℕ → View E T → Type 0
  IsFree Has vs id w = (n j : ℕ) (u : View E T) → Has w n → j ≢ id → get_elem? vs j ≡ some u → Has u n → ⊥

  differ_set : (Has : View E T → ℕ → Type 0) (vs : List (View E T)) (id : ℕ) (w : View E T) → Differ Has vs → IsFree Has vs id w → Differ Has (set vs id w)
  differ_set Has vs id w differ free i j v u n here there has also =
      ⊎_elim (λ (s : (i ≡ id) × (w ≡ v)).
      ⊎_elim (λ (t : (j ≡ id) × (w ≡ u)). s.0 ∙ sym t.0)
      (λ (t : (j ≢ id) × (get_elem? vs j ≡ some u)). absurd (free n j u (subst (λ z. Has z n) (sym s.1) has) t.0 t.1 also)) (at_set vs id j w u there))
      (λ (s : (i ≢ id) × (get_elem? vs i ≡ some v)).
      ⊎_elim (λ (t : (j ≡ id) × (w ≡ u)). absurd (free n i v (subst (λ z. Has z n) (sym t.1) also) s.0 s.1 has))
      (λ (t : (j ≢ id) × (get_elem? vs j ≡ some u)). differ i j v u n s.1 t.1 has also) (at_set vs id j w u there))
      (at_set vs id i w v here)

  differ_more : (Has : View E T → ℕ → Type 0) (vs : List (View E T)) (w : View E T) → Differ Has vs → ((n : ℕ) → Has w n → ⊥) → Differ Has (vs ++ w ∷ [])
  differ_more Has vs w differ none i j v u n here there has also =
      ⊎_elim (λ (s : get_elem? vs i ≡ some v).
      ⊎_elim (λ (t : get_elem? vs j ≡ some u). differ i j v u n s t has also) (λ (t : w ≡ u). absurd (none n (subst (λ z. Has z n) (sym t) also))) (at_snoc vs w u j there))
      (λ (s : w ≡ v). absurd (none n (subst (λ z. Has z n) (sym s) has))) (at_snoc vs w v i here)

  -- what a view had belongs to no other
  pub still_free : (Has : View E T → ℕ → Type 0) (vs : List (View E T)) (id : ℕ) (v : View E T) → Differ Has vs → get_elem? vs id ≡ some v → IsFree Has vs id v
  still_free Has vs id v differ at n j u has other there also = other (differ j id u v n there at also has)

  outside_again : (vs : List (View E T)) (id : ℕ) (v w : View E T) → get_elem? vs id ≡ some v → v.inside ≡ false → AllOutside (set vs id w) → AllOutside vs
  outside_again vs id v w at out all j u there = dite (ℕ_discrete j id)
      (λ same. subst (λ (z : View E T). z.inside ≡ false) (some-injective v u (sym at ∙ (ap (get_elem? vs) (sym same) ∙ there))) out)
      (λ other. all j u (set_else vs id j w other ∙ there))

module _ {S E T : Type 0} (entries : S → List E) (by : E → ℕ) (settings : S → T) (passes : ℕ) where
  abbrev W : Type 0
  W = View E T

  abbrev Table : Type 0
  Table = State (Option S) W

  abbrev Rule : Stand E T → Table → Type 0
  Rule = Kept entries by settings passes

  abbrev Homes : Type 0
  Homes = List (maybe.Option (Option S))

  -- one view is changed, and the words with it
  pub moved : (z : Stand E T) (s : Table) (k : Rule z s) (id : ℕ) (w : W) (y : Stand E T) (homes : Homes) → y.ticket < 2 ^ 64 → y.serving ≤ y.ticket → 1 ≤ y.named → y.named ≤ passes → All (λ e. by e < y.named) y.history
      → Fit by passes y w → ((j : ℕ) (u : W) → j ≢ id → get_elem? s.views j ≡ some u → Fit by passes z u → Fit by passes y u) → IsFree HasTicket s.views id w → IsFree HasNumber s.views id w
      → (AllOutside (set s.views id w) → IsHome entries settings homes y) → Rule y record { words = words_of y; homes = homes; views = set s.views id w }
  moved z s k id w y homes fits ordered least most known mine others ticket number home = record {
    words = refl;
    fits = fits;
    ordered = ordered;
    least = least;
    most = most;
    known = known;
    each = views_stay (Fit by passes y) s.views id w mine (λ j u other there. others j u other there (k.each j u there));
    once = differ_set HasTicket s.views id w k.once ticket;
    apart = differ_set HasNumber s.views id w k.apart number;
    home = home;
  }

  -- only the handle of the served ticket is in its turn
  one_inside : (z : Stand E T) (s : Table) (k : Rule z s) (id : ℕ) (v : W) → get_elem? s.views id ≡ some v → v.ticket ≡ Some z.serving → (j : ℕ) (u : W) → j ≢ id → get_elem? s.views j ≡ some u → u.inside ≡ true → ⊥
  one_inside z s k id v at mine j u other there in_turn = other (k.once j id u v z.serving there at ((k.each j u there).inside in_turn).0 mine)

  pub all_outside : (z : Stand E T) (s : Table) (k : Rule z s) (id : ℕ) (v : W) → get_elem? s.views id ≡ some v → v.ticket ≡ Some z.serving → v.inside ≡ false → AllOutside s.views
  all_outside z s k id v at mine out j u there = dite (ℕ_discrete j id)
      (λ same. subst (λ (x : W). x.inside ≡ false) (some-injective v u (sym at ∙ (ap (get_elem? s.views) (sym same) ∙ there))) out)
      (λ other. either_way u.inside (one_inside z s k id v at mine j u other there))

  -- of what the rule reads, the view changes only in what is given
  pub draw_at : (z : Stand E T) (s : Table) (k : Rule z s) (id : ℕ) (v : W) → get_elem? s.views id ≡ some v → z.ticket + 1 < 2 ^ 64 → v.inside ≡ false
      → Rule (record z { ticket = z.ticket + 1 }) record { words = words_of (record z { ticket = z.ticket + 1 }); homes = s.homes; views = set s.views id (record v { ticket = Some z.ticket }) }
  draw_at z s k id v at small out =
      let f = k.each id v at in
      let w : W = record v { ticket = Some z.ticket } in
      let ordered = k.ordered in
      moved z s k id w (record z { ticket = z.ticket + 1 }) s.homes small (omega arith) k.least k.most k.known
      (record {
        waits = λ n is. let same : z.ticket ≡ n = ap (λ (o : Option ℕ). unwrap_or o 0) is in (omega arith, omega arith);
        inside = λ in_turn. absurd (let no = sym out ∙ in_turn in cc);
        about = f.about;
        front = f.front;
        own = f.own;
        small = f.small;
        avoids = f.avoids;
        joint = f.joint;
      })
      (λ j u other there g. record {
        waits = λ n is. let r = g.waits n is in (r.0, let less = r.1 in omega arith);
        inside = g.inside;
        about = g.about;
        front = g.front;
        own = g.own;
        small = g.small;
        avoids = g.avoids;
        joint = g.joint;
      })
      (λ n j u is other there also. let same : z.ticket ≡ n = ap (λ (o : Option ℕ). unwrap_or o 0) is in let r = ((k.each j u there).waits n also).1 in omega arith)
      (still_free HasNumber s.views id v k.apart at)
      (λ all. k.home (outside_again s.views id v w at out all))

  pub enter_at : (z : Stand E T) (s : Table) (k : Rule z s) (id : ℕ) (v : W) (homes : Homes) → get_elem? s.views id ≡ some v → v.ticket ≡ Some z.serving
      → Rule z record { words = words_of z; homes = homes; views = set s.views id (holding v z.history) }
  enter_at z s k id v homes at mine =
      let f = k.each id v at in
      let w : W = holding v z.history in
      moved z s k id w z homes k.fits k.ordered k.least k.most k.known
      (record {
        waits = f.waits;
        inside = λ _. (mine, refl);
        about = f.about;
        front = f.front;
        own = λ no. absurd (cc);
        small = f.small;
        avoids = f.avoids;
        joint = f.joint;
      })
      (λ j u other there g. g)
      (still_free HasTicket s.views id v k.once at)
      (still_free HasNumber s.views id v k.apart at)
      (λ all. absurd (let no : true ≡ false = all id w (set_at s.views id v w at) in cc))

  pub store_at : (z : Stand E T) (s : Table) (k : Rule z s) (id : ℕ) (v : W) (n : ℕ) (history more : List E) → get_elem? s.views id ≡ some v → v.inside ≡ true → v.number ≡ Some n → history ≡ z.history ++ more → All (λ e. by e ≡ n) more
      → Rule (record z { history = history }) record { words = words_of (record z { history = history }); homes = s.homes; views = set s.views id (record v { noted = history }) }
  store_at z s k id v n history more at in_turn number grown made =
      let f = k.each id v at in
      let w : W = record v { noted = history } in
      let has : HasNumber v n = subst (λ (o : Option ℕ). Contains (option_to_list o ++ v.taken) n) (sym number) (in_front n v.taken) in
      let ticket = (f.inside in_turn).0 in
      let front : IsPrefix z.history history = (more, sym grown) in
      moved z s k id w (record z { history = history }) s.homes k.fits k.ordered k.least k.most
      (subst (All (λ e. by e < z.named)) (sym grown) (All-append (λ e. by e < z.named) z.history more k.known (λ i d less. subst (λ (m : ℕ). m < z.named) (sym (made i d less)) (f.small n has))))
      (record {
        waits = f.waits;
        inside = λ _. (ticket, refl);
        about = f.about;
        front = prefix_trans v.seen z.history history f.front front;
        own = λ no. absurd (let both = sym in_turn ∙ no in cc);
        small = f.small;
        avoids = f.avoids;
        joint = f.joint;
      })
      (λ j u other there g. record {
        waits = g.waits;
        inside = λ also. absurd (one_inside z s k id v at ticket j u other there also);
        about = g.about;
        front = prefix_trans u.seen z.history history g.front front;
        own = λ out. continues_more by (own_numbers u) u.seen z.history history (g.own out)
            (continues by (own_numbers u) z.history history more grown
            (λ i d less its. other (k.apart j id u v n there at (subst (Contains (own_numbers u)) (made i d less) its) has)));
        small = g.small;
        avoids = g.avoids;
        joint = g.joint;
      })
      (still_free HasTicket s.views id v k.once at)
      (still_free HasNumber s.views id v k.apart at)
      (λ all. absurd (let no = sym in_turn ∙ all id w (set_at s.views id v w at) in cc))

  pub leave_at : (z : Stand E T) (s : Table) (k : Rule z s) (id : ℕ) (v : W) (x : S) → get_elem? s.views id ≡ some v → v.inside ≡ true → entries x ≡ v.noted → settings x ≡ v.settings → 1 ≤ v.passes
      → Rule (record z { serving = z.serving + 1 }) record { words = words_of (record z { serving = z.serving + 1 }); homes = some (Some x) ∷ []; views = set s.views id (having_seen v) }
  leave_at z s k id v x at in_turn noted settled some_pass =
      let f = k.each id v at in
      let w : W = having_seen v in
      let ticket = (f.inside in_turn).0 in
      let whole = (f.inside in_turn).1 in
      let range = f.waits z.serving ticket in
      moved z s k id w (record z { serving = z.serving + 1 }) (some (Some x) ∷ []) k.fits (let less = range.1 in omega arith) k.least k.most k.known
      (record {
        waits = λ n is. absurd (cc);
        inside = λ no. absurd (cc);
        about = f.about;
        front = ([], append-nil v.noted ∙ whole);
        own = λ _. subst (Continues by (own_numbers v) v.noted) whole (continues_here by (own_numbers v) v.noted);
        small = f.small;
        avoids = f.avoids;
        joint = record { first = continues_none by [] v.noted v.noted refl; second = continues_none by [] v.noted v.noted refl; apart = λ n has _. none_in n has };
      })
      (λ j u other there g. record {
        waits = λ n is. let r = g.waits n is in
            let apart : n ≢ z.serving = λ same. other (k.once j id u v z.serving there at (is ∙ ap Some same) ticket) in
            let low = r.0 in (omega arith, r.1);
        inside = λ also. absurd (one_inside z s k id v at ticket j u other there also);
        about = g.about;
        front = g.front;
        own = g.own;
        small = g.small;
        avoids = g.avoids;
        joint = g.joint;
      })
      (λ n j u is other there also. absurd (cc))
      (still_free HasNumber s.views id v k.apart at)
      (λ _. (x, refl, noted ∙ whole, settled ∙ (f.about some_pass).1))

  pub name_at : (z : Stand E T) (s : Table) (k : Rule z s) (id : ℕ) (v : W) → get_elem? s.views id ≡ some v → v.number ≡ None → v.inside ≡ false → z.named < passes
      → Rule (record z { named = z.named + 1 }) record { words = words_of (record z { named = z.named + 1 }); homes = s.homes; views = set s.views id (record v { number = Some z.named }) }
  name_at z s k id v at none out less =
      let f = k.each id v at in
      let w : W = record v { number = Some z.named } in
      let before : (n : ℕ) → Contains v.taken n → HasNumber v n = λ n has. subst (λ (o : Option ℕ). Contains (option_to_list o ++ v.taken) n) (sym none) has in
      let least = k.least in
      moved z s k id w (record z { named = z.named + 1 }) s.homes k.fits k.ordered (omega arith) (omega arith) (λ i d short. let l = k.known i d short in omega arith)
      (record {
        waits = f.waits;
        inside = f.inside;
        about = f.about;
        front = f.front;
        own = λ no. let c = f.own no in
            continues by (z.named ∷ v.taken) v.seen z.history c.more c.begins
            (λ i d short has. ⊎_elim
            (λ mine. let is : by (get_or c.more i d) ≡ z.named = only z.named _ mine in
            let l = all_rest (λ e. by e < z.named) v.seen c.more (subst (All (λ e. by e < z.named)) c.begins k.known) i d short in omega arith)
            (λ old. c.later i d short (before _ old)) (Contains-append_cases (z.named ∷ []) v.taken _ has));
        small = λ n has. ⊎_elim (λ mine. let is : n ≡ z.named = only z.named n mine in omega arith) (λ old. let l = f.small n (before n old) in omega arith) (Contains-append_cases (z.named ∷ []) v.taken n has);
        avoids = λ n has. let l = f.avoids n has in omega arith;
        joint = f.joint;
      })
      (λ j u other there g. record {
        waits = g.waits;
        inside = g.inside;
        about = g.about;
        front = g.front;
        own = g.own;
        small = λ n has. let l = g.small n has in omega arith;
        avoids = λ n has. let l = g.avoids n has in omega arith;
        joint = g.joint;
      })
      (still_free HasTicket s.views id v k.once at)
      (λ n j u has other there also. ⊎_elim
      (λ mine. let is : n ≡ z.named = only z.named n mine in let l = (k.each j u there).small n also in omega arith)
      (λ old. other (k.apart j id u v n there at also (before n old))) (Contains-append_cases (z.named ∷ []) v.taken n has))
      (λ all. k.home (outside_again s.views id v w at out all))

  pub split_at : (z : Stand E T) (s : Table) (k : Rule z s) (id : ℕ) (v : W) → get_elem? s.views id ≡ some v → Rule z record { words = s.words; homes = s.homes; views = s.views ++ newcomer v ∷ [] }
  split_at z s k id v at =
      let f = k.each id v at in
      let w : W = newcomer v in
      let new : Fit by passes z w = record {
        waits = λ n is. absurd (cc);
        inside = λ no. absurd (cc);
        about = f.about;
        front = f.front;
        own = λ _. continues_none by v.seen z.history f.front.0 (sym f.front.1);
        small = λ n has. absurd (none_in n has);
        avoids = f.small;
        joint = record { first = continues_none by [] v.seen v.seen refl; second = continues_none by [] v.seen v.seen refl; apart = λ n has _. none_in n has };
      } in record {
        words = k.words;
        fits = k.fits;
        ordered = k.ordered;
        least = k.least;
        most = k.most;
        known = k.known;
        each = λ j u there. ⊎_elim (λ (old : get_elem? s.views j ≡ some u). k.each j u old) (λ (is : w ≡ u). subst (Fit by passes z) is new) (at_snoc s.views w u j there);
        once = differ_more HasTicket s.views w k.once (λ n is. absurd (cc));
        apart = differ_more HasNumber s.views w k.apart (λ n has. none_in n has);
        home = λ all. k.home (λ j u there. all j u (at_longer s.views (w ∷ []) j u there));
      }

  -- a view is spent
  spend_at : (z : Stand E T) (s : Table) (k : Rule z s) (id : ℕ) (v : W) (unset : T) → get_elem? s.views id ≡ some v → v.inside ≡ false → Rule z record { words = words_of z; homes = s.homes; views = set s.views id (spent unset) }
  spend_at z s k id v unset at out =
      moved z s k id (spent unset) z s.homes k.fits k.ordered k.least k.most k.known
      (record {
        waits = λ n is. absurd (cc);
        inside = λ no. absurd (cc);
        about = λ no. absurd (omega arith);
        front = (z.history, refl);
        own = λ _. continues_none by [] z.history z.history refl;
        small = λ n has. absurd (none_in n has);
        avoids = λ n has. absurd (none_in n has);
        joint = record { first = continues_none by [] [] [] refl; second = continues_none by [] [] [] refl; apart = λ n has _. none_in n has };
      })
      (λ j u other there g. g)
      (λ n j u is other there also. absurd (cc))
      (λ n j u has other there also. none_in n has)
      (λ all. k.home (outside_again s.views id v (spent unset) at out all))

  -- two views are made one, and the second is spent
  pub join_at : (z : Stand E T) (s : Table) (k : Rule z s) (id : ℕ) (v : W) (other : ℕ) (w : W) (unset : T) → get_elem? s.views id ≡ some v → get_elem? s.views other ≡ some w → other ≢ id → v.inside ≡ false → w.inside ≡ false
      → Rule z record { words = words_of z; homes = s.homes; views = set (set s.views other (spent unset)) id (joined v w) }
  join_at z s k id v other w unset at there apart out also_out =
      let f = k.each id v at in
      let g = k.each other w there in
      let u : W = joined v w in
      let t : Table = record { words = words_of z; homes = s.homes; views = set s.views other (spent unset) } in
      let kt : Rule z t = spend_at z s k other w unset there also_out in
      let at_t : get_elem? t.views id ≡ some v = set_else s.views other id (spent unset) (λ same. apart (sym same)) ∙ at in
      let j = joins by (own_numbers v) (own_numbers w) v.seen w.seen z.history (f.own out) (g.own also_out) in
      let numbers : own_numbers v ++ own_numbers w ≡ own_numbers u = append_assoc (option_to_list v.number) v.taken (own_numbers w) in
      let cases : (n : ℕ) → HasNumber u n → HasNumber v n ⊎ HasNumber w n = λ n has. Contains-append_cases (own_numbers v) (own_numbers w) n (subst (λ ns. Contains ns n) (sym numbers) has) in
      moved z t kt id u z s.homes k.fits k.ordered k.least k.most k.known
      (record {
        waits = f.waits;
        inside = λ no. absurd (let both = sym out ∙ no in cc);
        about = f.about;
        front = continues_front by (own_numbers v ++ own_numbers w) (longer v.seen w.seen) z.history j.onward;
        own = λ _. subst (λ ns. Continues by ns (longer v.seen w.seen) z.history) numbers j.onward;
        small = λ n has. ⊎_elim (f.small n) (g.small n) (cases n has);
        avoids = f.avoids;
        joint = record { first = j.first; second = j.second; apart = λ n one two. apart (k.apart other id w v n there at two one) };
      })
      (λ i x else at_x h. h)
      (still_free HasTicket t.views id v kt.once at_t)
      (λ n i x has else at_x also. ⊎_elim (λ mine. still_free HasNumber t.views id v kt.apart at_t n i x mine else at_x also)
      (λ his. ⊎_elim (λ (same : (i ≡ other) × (spent unset ≡ x)). none_in n (subst (λ (y : W). HasNumber y n) (sym same.1) also))
      (λ (far : (i ≢ other) × (get_elem? s.views i ≡ some x)). far.0 (k.apart i other x w n far.1 there also his)) (at_set s.views other i (spent unset) x at_x))
      (cases n has))
      (λ all. kt.home (outside_again t.views id v u at_t out all))
