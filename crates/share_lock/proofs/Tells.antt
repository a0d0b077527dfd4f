-- What a handle knows once the number that a step found is known.
use Rattle.std.proofs.Common.{◌≡◌, ◌≢◌, ℕ, ◌<◌, ◌≤◌, List, [], ◌∷◌, ◌++◌, sym, refl, ap, ◌∙◌, subst, Option, Some, None, unwrap_or, eq-eqb, ne_eqb}
use Rattle.std.specs.Prelude.{All, IsSome, MatchBool, option_to_list}
use Rattle.atomic_table.specs.Table.{Step, rest}
use Rattle.share_lock.specs.declared.view.View.{View}
use Rattle.share_lock.specs.Histories.{Continues}
use Rattle.share_lock.specs.Plays.{At, holding, Finds, entered}
use Rattle.share_lock.specs.Rule.{own_numbers}

module _ {S : Type 0} where
  -- the slot's content that a handle holds
  abbrev pub in_hands : List (ℕ × Option S) → Option S
  in_hands [] = None
  in_hands (c ∷ cs) = c.1

  -- one slot is in hands, and no other
  pub alone : (has : List (ℕ × Option S)) (o : Option S) → has ≡ (0, o) ∷ [] → has ≡ (0, o) ∷ rest has
  alone has o is = is ∙ ap (λ l. (0, o) ∷ l) (sym (ap rest is))

-- the numbers of a handle that has one
pub numbers_are : {E T : Type 0} (v : View E T) (n : ℕ) → v.number ≡ Some n → own_numbers v ≡ n ∷ v.taken
numbers_are v n named = ap (λ (o : Option ℕ). option_to_list o ++ v.taken) named

module _ {S E T : Type 0} (entries : S → List E) (by : E → ℕ) (settings : S → T) where
  pub has_entered : (st : Step (Option S)) (me m m' : At S E T) (ticket found : ℕ) → m ≡ me → me.0.ticket ≡ Some ticket → found ≡ ticket → entered entries by settings st m found m' → Finds entries by settings me m'
  has_entered st me m m' ticket found same waits hit told =
      let now = subst (λ (z : At S E T). entered entries by settings st z found m') same told in
      subst (λ b. MatchBool b (Finds entries by settings me m') (m' ≡ me)) (eq-eqb found ticket hit) (now ticket waits)

  pub has_missed : (st : Step (Option S)) (me m m' : At S E T) (ticket found : ℕ) → m ≡ me → me.0.ticket ≡ Some ticket → found ≢ ticket → entered entries by settings st m found m' → m' ≡ me
  has_missed st me m m' ticket found same waits miss told =
      let now = subst (λ (z : At S E T). entered entries by settings st z found m') same told in
      subst (λ b. MatchBool b (Finds entries by settings me m') (m' ≡ me)) (ne_eqb found ticket miss) (now ticket waits)

  -- the slot is in hands, with the state that was found
  pub in_hand : (me m' : At S E T) (f : Finds entries by settings me m') → me.1 ≡ [] → m'.1 ≡ (0, Some f.state) ∷ []
  in_hand me m' f free = ap (λ (m : At S E T). m.1) f.holds ∙ ap (λ l. (0, Some f.state) ∷ l) free

  found_state : (me m' : At S E T) (result : Option S) (f : Finds entries by settings me m') → me.1 ≡ [] → m'.1 ≡ (0, result) ∷ rest m'.1 → result ≡ Some f.state
  found_state me m' result f free was = ap in_hands (sym was ∙ in_hand me m' f free)

  pub is_found : (me m' : At S E T) (result : Option S) (f : Finds entries by settings me m') → me.1 ≡ [] → m'.1 ≡ (0, result) ∷ rest m'.1 → IsSome result
  is_found me m' result f free was = subst IsSome (sym (found_state me m' result f free was)) refl

  -- what is known of the state that a turn began with
  pub record Takes (me m : At S E T) (x : S) : Type 0 where
    pub holds : m ≡ (holding me.0 (entries x), (0, None) ∷ [])
    pub about : settings x ≡ me.0.settings
    pub history : Continues by (own_numbers me.0) me.0.seen (entries x)
    pub numbers : All (λ e. by e < me.0.passes) (entries x)

  taken_at : (me m : At S E T) (x y : S) → x ≡ y → Takes me m x → Takes me m y
  taken_at me m x y same t = subst (Takes me m) same t

  pub has_taken : (me m' m : At S E T) (result : Option S) (y : S) (f : Finds entries by settings me m') → me.1 ≡ [] → 1 ≤ me.0.passes → m'.1 ≡ (0, result) ∷ rest m'.1 → m ≡ (m'.0, (0, None) ∷ rest m'.1) → result ≡ Some y → Takes me m y
  has_taken me m' m result y f free some_pass was now is =
      let same : f.state ≡ y = ap (λ (o : Option S). unwrap_or o y) (sym (found_state me m' result f free was) ∙ is) in
      let known : ◌≡◌ {A = At S E T} (m'.0, (0, None) ∷ rest m'.1) (holding me.0 (entries f.state), (0, None) ∷ []) =
      λ i. ((ap (λ (n : At S E T). n.0) f.holds) i, (0, None) ∷ rest (in_hand me m' f free i)) in
      taken_at me m f.state y same (record { holds = now ∙ known; about = f.about some_pass; history = f.history; numbers = f.numbers some_pass })
