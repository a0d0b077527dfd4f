-- First mentions weigh no more than all properties together, whatever each property weighs.
use Rattle.std.proofs.Common.{◌≡◌, ◌≤◌, ◌<◌, ◌+◌, ◌&&◌, ℕ, zero, suc, Bool, true, false, not, List, [], ◌∷◌, ◌++◌, length, length-append, take, slice_set, get_or, cond, refl, sym, ap, subst, ◌∙◌, eq-eqb, arith}
use Rattle.std.specs.List.{filter}
use Rattle.std.proofs.lemmas.List.{take_more_set, length-take-le}
use Rattle.item_model.specs.declared.property.Property.{Property}
use Rattle.item_model.specs.declared.property.Property.TheVariants.{Minm}
use Rattle.item_model.specs.Properties.{all_properties, rank_of, is_same}
use Rattle.item_model.specs.Projection.{default_projection, first_mentions, mentions, new_mention}
use Rattle.item_model.proofs.Ranks.{at_rank, rank_below}
use Rattle.item_model.proofs.Mentions.{first_last, mentions_first}
use Rattle.item_model.proofs.Distinct.{first_again}

-- the weight of properties together
abbrev pub total : (Property → ℕ) → List Property → ℕ
total w [] = 0
total w (x ∷ xs) = w x + total w xs

-- the weight of those that pass a test
abbrev passing : (Property → ℕ) → (Property → Bool) → List Property → ℕ
passing w f [] = 0
passing w f (x ∷ xs) = cond (f x) (w x + passing w f xs) (passing w f xs)

-- the test without one property
abbrev but : (Property → Bool) → Property → Property → Bool
but f x y = f y && not (is_same x y)

both_step : (w : Property → ℕ) (a s : Bool) (y : Property) (f : Property → Bool) (ys : List Property) (m : ℕ) → f y ≡ a → passing w f ys ≡ m → passing w f (cond s (y ∷ ys) ys) ≡ cond (a && s) (w y + m) m
both_step w true true y f ys m h k = rw h (ap (λ n. w y + n) k)
both_step w true false y f ys m h k = k
both_step w false true y f ys m h k = rw h k
both_step w false false y f ys m h k = k

passing_but : (w : Property → ℕ) (f : Property → Bool) (x : Property) (ys : List Property) → passing w f (filter (λ y. not (is_same x y)) ys) ≡ passing w (but f x) ys
passing_but w f x [] = refl
passing_but w f x (y ∷ ys) =
    both_step w (f y) (not (is_same x y)) y f (filter (λ y. not (is_same x y)) ys) (passing w (but f x) ys) refl (passing_but w f x ys)

less_step : (a s : Bool) (k m n : ℕ) → m ≤ n → cond (a && s) (k + m) m ≤ cond a (k + n) n
less_step true true k m n h = omega arith
less_step true false k m n h = omega arith
less_step false s k m n h = h

passing_less : (w : Property → ℕ) (f : Property → Bool) (x : Property) (ys : List Property) → passing w (but f x) ys ≤ passing w f ys
passing_less w f x [] = omega arith
passing_less w f x (y ∷ ys) =
    less_step (f y) (not (is_same x y)) (w y) (passing w (but f x) ys) (passing w f ys) (passing_less w f x ys)

here_step : (a s : Bool) (k m n : ℕ) → a ≡ true → s ≡ true → m ≤ n → k + cond (a && not s) (k + m) m ≤ cond a (k + n) n
here_step true true k m n h e le = omega arith
here_step true false k m n h e le = absurd (cc)
here_step false s k m n h e le = absurd (cc)

later_step : (a s : Bool) (k j m n : ℕ) → j + m ≤ n → j + cond (a && s) (k + m) m ≤ cond a (k + n) n
later_step true true k j m n h = omega arith
later_step true false k j m n h = omega arith
later_step false s k j m n h = h

-- without a property of the list, its weight is missing
passing_one : (w : Property → ℕ) (f : Property → Bool) (x : Property) (ys : List Property) (i : ℕ) (d : Property) → i < length ys → get_or ys i d ≡ x → f x ≡ true → w x + passing w (but f x) ys ≤ passing w f ys
passing_one w f x [] i d h e k = absurd (omega arith)
passing_one w f x (y ∷ ys) zero d h e k =
    subst (λ z. w x + passing w (but f x) (z ∷ ys) ≤ passing w f (z ∷ ys)) (sym e)
    (here_step (f x) (is_same x x) (w x) (passing w (but f x) ys) (passing w f ys) k (eq-eqb (rank_of x) (rank_of x) refl) (passing_less w f x ys))
passing_one w f x (y ∷ ys) (suc i) d h e k =
    later_step (f y) (not (is_same x y)) (w y) (w x) (passing w (but f x) ys) (passing w f ys) (passing_one w f x ys i d (omega arith) e k)

-- the list has each property
abbrev HasEach : List Property → Type 0
HasEach ts = (p : Property) → (rank_of p < length ts) × (get_or ts (rank_of p) Minm ≡ p)

first_step : (w : Property → ℕ) (f : Property → Bool) (x : Property) (ts : List Property) (a : Bool) (n : ℕ) → HasEach ts → f x ≡ a → n ≤ passing w (but f x) ts → cond a (w x + n) n ≤ passing w f ts
first_step w f x ts true n has h le = omega (arith, passing_one w f x ts (rank_of x) Minm (has x).0 (has x).1 h)
first_step w f x ts false n has h le = omega (arith, passing_less w f x ts)

first_passing : (w : Property → ℕ) (f : Property → Bool) (ts xs : List Property) → HasEach ts → passing w f (first_mentions xs) ≤ passing w f ts
first_passing w f ts [] has = omega arith
first_passing w f ts (x ∷ xs) has =
    first_step w f x ts (f x) (passing w f (filter (λ y. not (is_same x y)) (first_mentions xs))) has refl
    (omega (arith, passing_but w f x (first_mentions xs), first_passing w (but f x) ts xs has))

passing_all : (w : Property → ℕ) (xs : List Property) → passing w (λ _. true) xs ≡ total w xs
passing_all w [] = refl
passing_all w (x ∷ xs) = ap (λ n. w x + n) (passing_all w xs)

weighed : (w : Property → ℕ) (xs ts : List Property) → HasEach ts → total w (first_mentions xs) ≤ total w ts
weighed w xs ts has =
    omega (arith, passing_all w (first_mentions xs), passing_all w ts, first_passing w (λ _. true) ts xs has)

-- whatever is mentioned, the first mentions weigh no more than all properties
pub first_weighed : (w : Property → ℕ) (xs : List Property) → total w (first_mentions xs) ≤ total w all_properties
first_weighed w xs = weighed w xs all_properties (λ p. (rank_below p, at_rank p))

total_ones : (xs : List Property) → total (λ _. 1) xs ≡ length xs
total_ones [] = refl
total_ones (x ∷ xs) = omega (arith, total_ones xs)

-- no list mentions more than the 26 properties
pub first_few : (xs : List Property) → length (first_mentions xs) ≤ 26
first_few xs = omega (arith, total_ones (first_mentions xs), first_weighed (λ _. 1) xs)

-- the lists for requests that name nothing have each property once
pub all_once : first_mentions all_properties ≡ all_properties
all_once = refl

pub default_once : first_mentions default_projection ≡ default_projection
default_once = refl

-- a mention adds to the first mentions what it adds to the mentions
pub mention_last : (ps : List Property) (p : Property) → first_mentions ps ++ new_mention (first_mentions ps) p ≡ first_mentions (ps ++ p ∷ [])
mention_last ps p = ap (λ b. first_mentions ps ++ cond b [] (p ∷ [])) (mentions_first ps p) ∙ sym (first_last ps p)

-- and the mentions are still first ones
pub mention_once : (ps : List Property) (p : Property) → first_mentions ps ≡ ps → first_mentions (ps ++ new_mention ps p) ≡ ps ++ new_mention ps p
mention_once ps p h =
    let last : ps ++ new_mention ps p ≡ first_mentions (ps ++ p ∷ []) = subst (λ qs. qs ++ new_mention qs p ≡ first_mentions (ps ++ p ∷ [])) h (mention_last ps p) in
    ap first_mentions last ∙ first_again (ps ++ p ∷ []) ∙ sym last

-- a new property comes after those so far, each once
pub kept_once : (room : List Property) (n : ℕ) (p : Property) → n < length room → mentions (take n room) p ≡ false → first_mentions (take n room) ≡ take n room → first_mentions (take (n + 1) (slice_set room n p)) ≡ take (n + 1) (slice_set room n p)
kept_once room n p lt new h =
    let e : take (n + 1) (slice_set room n p) ≡ take n room ++ p ∷ [] = take_more_set room n p lt in
    rw e (subst (λ b. first_mentions (take n room ++ cond b [] (p ∷ [])) ≡ take n room ++ cond b [] (p ∷ [])) new (mention_once (take n room) p h))

-- a new property that still fits leaves an index for it
pub place_left : (room : List Property) (n : ℕ) (p : Property) → length room ≡ 26 → n ≤ 26 → mentions (take n room) p ≡ false → length (take n room ++ new_mention (take n room) p) ≤ 26 → n < length room
place_left room n p full few new h =
    let le : n ≤ length room = omega (arith, full, few) in
    let fits : length (take n room ++ p ∷ []) ≤ 26 = subst (λ b. length (take n room ++ cond b [] (p ∷ [])) ≤ 26) new h in
    omega (arith, full, fits, length-append (take n room) (p ∷ []), length-take-le n room le)

-- and there is capacity for it
pub mention_room : (ps : List Property) (p : Property) → length (first_mentions ps ++ new_mention (first_mentions ps) p) ≤ 26
mention_room ps p = rw (mention_last ps p) (first_few (ps ++ p ∷ []))
