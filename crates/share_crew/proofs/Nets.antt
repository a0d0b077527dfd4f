-- The known lists of a network and its error counter, call by call.
use Rattle.std.proofs.Common.{◌≡◌, ◌≤◌, ℕ, List, [], ◌++◌, Option, None, Some, sym, subst, ap, ◌∙◌, arith, append_assoc, append-nil}
use Rattle.outside_net.specs.Counts.{Rose}
use Rattle.outside_net.specs.Told.{BeginsEmpty, Grows, GrowsByTold}

module _ {A : Type 0} where
  -- what stays grows by nothing
  pub grows_none : (w : Option (List A)) → Grows w w []
  grows_none None = tt
  grows_none (Some xs) = sym (append-nil xs)

  pub grows_by_none : (w w' : Option (List A)) → w' ≡ w → Grows w w' []
  grows_by_none w w' is = subst (λ v. Grows w v []) (sym is) (grows_none w)

  pub grows_then : (a b c : Option (List A)) (xs ys : List A) → Grows a b xs → Grows b c ys → Grows a c (xs ++ ys)
  grows_then None None None xs ys g h = tt
  grows_then None None (Some c) xs ys g h = absurd h
  grows_then None (Some b) c xs ys g h = absurd g
  grows_then (Some a) None None xs ys g h = tt
  grows_then (Some a) None (Some c) xs ys g h = absurd h
  grows_then (Some a) (Some b) None xs ys g h = tt
  grows_then (Some a) (Some b) (Some c) xs ys g h = h ∙ (ap (λ l. l ++ ys) g ∙ append_assoc a xs ys)

  -- a list that began empty and grew, appended to the list that keeps it
  pub grows_told : (kept begun told w w' : Option (List A)) (front more : List A) → BeginsEmpty kept begun → Grows begun told more → Grows kept w front → GrowsByTold w w' told
      → Grows kept w' (front ++ more)
  grows_told None begun told None w' front more b g h k = stays told w' k
    where
      stays : (told w' : Option (List A)) → GrowsByTold None w' told → Grows None w' (front ++ more)
      stays None None k = tt
      stays None (Some now) k = absurd (cc)
      stays (Some t) None k = tt
      stays (Some t) (Some now) k = absurd k
  grows_told None begun told (Some w) w' front more b g h k = absurd h
  grows_told (Some kept) begun told w w' front more b g h k =
      added told w w' (subst (λ e. Grows e told more) b g) h k
    where
      added : (told w w' : Option (List A)) → Grows (Some []) told more → Grows (Some kept) w front → GrowsByTold w w' told → Grows (Some kept) w' (front ++ more)
      added None w None g h k = tt
      added None w (Some now) g h k = absurd (cc)
      added (Some t) w w' g h k = grows_then (Some kept) w w' front more h (subst (Grows w w') g k)

-- a counter that rose and did not fall has risen; so has one that stayed and then rose
pub rose_then : (a b c : ℕ) → Rose a b → b ≤ c → Rose a c
rose_then a b c r more = (omega (arith, r.0, more), omega (arith, r.1, more))

pub stood_then : (a b c : ℕ) → b ≡ a → Rose b c → Rose a c
stood_then a b c is r = subst (λ n. Rose n c) is r
