-- Histories that continue what was seen, by entries of other numbers.
use Rattle.std.proofs.Common.{◌≡◌, ◌≢◌, ℕ, suc, ◌+◌, ◌≤◌, ◌==◌, Bool, true, false, cond, List, [], ◌∷◌, ◌++◌, length, filter, take, drop, get_or, sym, refl, ap, ◌∙◌, subst, ⊎_elim, arith, append_assoc, eq-eqb, ne_eqb}
use Rattle.std.proofs.lemmas.List.{append-nil, append_cancel_left, length-append, get_or-append-add}
use Rattle.std.proofs.lemmas.List.Elements.{All-append, Contains-append_cases, filter-append}
use Rattle.std.proofs.lemmas.Bool.{leb-true, leb-false}
use Rattle.std.specs.Prelude.{All, Contains, nat_le}
use Rattle.std.proofs.Math.ListN.{get_or-append}
use Rattle.std.proofs.Math.Seq.{take-append_seam}
use mathlib.Core.List.{IsPrefix}
use Rattle.share_lock.specs.Histories.{entries_of, NoneOf, Continues, Adds, AddsOwn, longer}

module _ {E : Type 0} where
  -- what holds of each element of a list holds of each element of its prefixes, and of the rest
  all_front : (P : E → Type 0) (xs ys : List E) → All P (xs ++ ys) → All P xs
  all_front P xs ys all k d less =
      let len = length-append xs ys in
      subst P (get_or-append xs ys d k less) (all k d (omega arith))

  pub all_rest : (P : E → Type 0) (xs ys : List E) → All P (xs ++ ys) → All P ys
  all_rest P xs ys all k d less =
      let len = length-append xs ys in
      subst P (get_or-append-add xs ys k d) (all (length xs + k) d (omega arith))

  -- of two prefixes of one list the shorter is a prefix of the longer
  pub shorter_begins : (xs m ys t : List E) → xs ++ m ≡ ys ++ t → length xs ≤ length ys → (u : List E) × (ys ≡ xs ++ u) × (m ≡ u ++ t)
  shorter_begins [] m ys t same short = (ys, refl, same)
  shorter_begins (x ∷ xs) m [] t same short = absurd (omega arith)
  shorter_begins (x ∷ xs) m (y ∷ ys) t same short =
      let head : x ≡ y = ap (λ l. get_or l 0 x) same in
      let rest = shorter_begins xs m ys t (ap (drop 1) same) (omega arith) in
      (rest.0, (λ i. sym head i ∷ rest.1 i), rest.2)

  pub prefix_trans : (xs ys zs : List E) → IsPrefix xs ys → IsPrefix ys zs → IsPrefix xs zs
  prefix_trans xs ys zs a b = (a.0 ++ b.0, sym (append_assoc xs a.0 b.0) ∙ (ap (λ l. l ++ b.0) a.1 ∙ b.1))

  -- the first entries of a history are those that it begins with
  pub front_at : (xs ys more : List E) → ys ≡ xs ++ more → take (length xs) ys ≡ xs
  front_at xs ys more begins = ap (take (length xs)) begins ∙ take-append_seam xs more

module _ {E : Type 0} (by : E → ℕ) where
  none_filtered : (n : ℕ) (es : List E) → All (λ e. by e ≢ n) es → filter (λ e. by e == n) es ≡ []
  none_filtered n [] none = refl
  none_filtered n (e ∷ es) none =
      ap (λ b. cond b (e ∷ filter (λ x. by x == n) es) (filter (λ x. by x == n) es)) (ne_eqb (by e) n (none 0 e (omega arith)))
      ∙ none_filtered n es (λ k d less. none (suc k) d (omega arith))

  all_filtered : (n : ℕ) (es : List E) → All (λ e. by e ≡ n) es → filter (λ e. by e == n) es ≡ es
  all_filtered n [] all = refl
  all_filtered n (e ∷ es) all =
      ap (λ b. cond b (e ∷ filter (λ x. by x == n) es) (filter (λ x. by x == n) es)) (eq-eqb (by e) n (all 0 e (omega arith)))
      ∙ ap (λ l. e ∷ l) (all_filtered n es (λ k d less. all (suc k) d (omega arith)))

  -- what was added under a number follows the entries of that number
  pub adds_own : (n : ℕ) (before after : List E) → Adds by n before after → AddsOwn by n before after
  adds_own n before after added more is =
      let same : added.0 ≡ more = append_cancel_left before added.0 more (sym added.1 ∙ is) in
      ap (entries_of by n) is ∙ (filter-append (λ e. by e == n) before more ∙ ap (λ l. entries_of by n before ++ l) (all_filtered n more (subst (All (λ e. by e ≡ n)) same added.2)))

  -- a history that continues with entries of other numbers
  pub continues : (numbers : List ℕ) (seen history more : List E) → history ≡ seen ++ more → NoneOf by numbers more → Continues by numbers seen history
  continues numbers seen history more begins later = record {
    more = more;
    begins = begins;
    later = later;
    own = λ n has.
        let none : All (λ e. by e ≢ n) more = λ k d less is. later k d less (subst (Contains numbers) (sym is) has) in
        ap (entries_of by n) begins ∙ (filter-append (λ e. by e == n) seen more ∙ (ap (λ l. entries_of by n seen ++ l) (none_filtered n more none) ∙ append-nil (entries_of by n seen)));
  }

  -- any history continues the empty one, if there are no numbers
  pub continues_none : (seen history more : List E) → history ≡ seen ++ more → Continues by [] seen history
  continues_none seen history more begins = continues [] seen history more begins (λ k d less has. absurd (let h = has.1 in omega arith))

  pub continues_here : (numbers : List ℕ) (seen : List E) → Continues by numbers seen seen
  continues_here numbers seen = continues numbers seen seen [] (sym (append-nil seen)) (λ k d less. absurd (omega arith))

  pub continues_more : (numbers : List ℕ) (xs ys zs : List E) → Continues by numbers xs ys → Continues by numbers ys zs → Continues by numbers xs zs
  continues_more numbers xs ys zs a b =
      continues numbers xs zs (a.more ++ b.more) (b.begins ∙ (ap (λ l. l ++ b.more) a.begins ∙ append_assoc xs a.more b.more))
      (All-append (λ e. ¬ (Contains numbers (by e))) a.more b.more a.later b.later)

  -- of fewer numbers it is as true
  pub continues_less : (ns ms : List ℕ) (xs ys : List E) → ((n : ℕ) → Contains ms n → Contains ns n) → Continues by ns xs ys → Continues by ms xs ys
  continues_less ns ms xs ys fewer a = continues ms xs ys a.more a.begins (λ k d less has. a.later k d less (fewer (by (get_or a.more k d)) has))

  pub continues_front : (numbers : List ℕ) (xs ys : List E) → Continues by numbers xs ys → IsPrefix xs ys
  continues_front numbers xs ys a = (a.more, sym a.begins)

  -- if a history continues a prefix, each longer prefix continues it too, and the history continues that
  parted : (numbers : List ℕ) (xs ys h : List E) → Continues by numbers xs h → IsPrefix ys h → length xs ≤ length ys → Continues by numbers xs ys × Continues by numbers ys h
  parted numbers xs ys h a front short =
      let u = shorter_begins xs a.more ys front.0 (sym a.begins ∙ sym front.1) short in
      let later : NoneOf by numbers (u.0 ++ front.0) = subst (NoneOf by numbers) u.2 a.later in (
        continues numbers xs ys u.0 u.1 (all_front (λ e. ¬ (Contains numbers (by e))) u.0 front.0 later),
        continues numbers ys h front.0 (sym front.1) (all_rest (λ e. ¬ (Contains numbers (by e))) u.0 front.0 later),
      )

  -- two sets of numbers at once
  both : (ns ms : List ℕ) (ys h : List E) → Continues by ns ys h → Continues by ms ys h → Continues by (ns ++ ms) ys h
  both ns ms ys h a b =
      let first : NoneOf by ns b.more = subst (NoneOf by ns) (append_cancel_left ys a.more b.more (sym a.begins ∙ b.begins)) a.later in
      continues (ns ++ ms) ys h b.more b.begins (λ k d less has. ⊎_elim (first k d less) (b.later k d less) (Contains-append_cases ns ms (by (get_or b.more k d)) has))

  -- The longer of two prefixes, each with no later entry of its numbers: it continues both, and the history continues
  -- it.
  pub record Joins (ns ms : List ℕ) (xs ys zs h : List E) : Type 0 where
    pub first : Continues by ns xs zs
    pub second : Continues by ms ys zs
    pub onward : Continues by (ns ++ ms) zs h

  joins_at : (b : Bool) (ns ms : List ℕ) (xs ys h : List E) → nat_le (length xs) (length ys) ≡ b → Continues by ns xs h → Continues by ms ys h → Joins ns ms xs ys (cond b ys xs) h
  joins_at true ns ms xs ys h is a c =
      let p = parted ns xs ys h a (continues_front ms ys h c) (leb-true _ _ is) in
      record { first = p.0; second = continues_here ms ys; onward = both ns ms ys h p.1 c }
  joins_at false ns ms xs ys h is a c =
      let less = leb-false _ _ is in
      let p = parted ms ys xs h c (continues_front ns xs h a) (omega arith) in
      record { first = continues_here ns xs; second = p.0; onward = both ns ms xs h a p.1 }

  pub joins : (ns ms : List ℕ) (xs ys h : List E) → Continues by ns xs h → Continues by ms ys h → Joins ns ms xs ys (longer xs ys) h
  joins ns ms xs ys h a c = joins_at (nat_le (length xs) (length ys)) ns ms xs ys h refl a c
