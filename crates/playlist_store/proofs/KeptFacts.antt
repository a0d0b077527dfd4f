-- Lists in a map, of which some change in their newest version.
use Rattle.std.proofs.Common.{◌≡◌, ◌≤◌, ◌<◌, ℕ, cond, ◌==◌, List, [], ◌∷◌, Option, Some, None, refl, sym, ap, subst, ◌∙◌, ⊎_elim, eqb-true, arith}
use Rattle.std.specs.Prelude.{nat_le}
use Rattle.std.specs.List.{find}
use Rattle.std.proofs.lemmas.Bool.{cases_Bool, le-leb, lt-leb, leb-true, leb-false}
use Rattle.key_versions.specs.Held.{at}
use Rattle.playlist_store.specs.declared.kept.ListVersion.{ListVersion}
use Rattle.playlist_store.specs.declared.kept.ListHistory.{ListHistory}
use Rattle.playlist_store.specs.Lists.{Lists, top, list_in, since_of}
use Rattle.playlist_store.specs.Changes.{InPlace, ChangesOne, Everywhere, now_of, found_of}

-- ---- changes in the newest version

pub in_place_refl : (R : ListVersion → ListVersion → Type 0) → ((k : ListVersion) → R k k) → (x : Option ListHistory) → InPlace R x x
in_place_refl R same None = refl
in_place_refl R same (Some l) = (refl, same l.now)

pub in_place_then : {R S T : ListVersion → ListVersion → Type 0} → ((a b c : ListVersion) → R a b → S b c → T a c) → (x y z : Option ListHistory) → InPlace R x y → InPlace S y z → InPlace T x z
in_place_then {R} {S} {T} join None y z p q = subst (λ w. InPlace S w z) p q
in_place_then join (Some l) None z p q = absurd p
in_place_then join (Some l) (Some m) None p q = absurd q
in_place_then join (Some l) (Some m) (Some n) p q = (q.0 ∙ p.0, join l.now m.now n.now p.1 q.1)

-- the same if the first change is empty
pub in_place_from : (R : ListVersion → ListVersion → Type 0) (x y z : Option ListHistory) → y ≡ x → InPlace R y z → InPlace R x z
in_place_from R x y z same p = subst (λ w. InPlace R w z) same p

pub in_place_to : (R : ListVersion → ListVersion → Type 0) (x y z : Option ListHistory) → z ≡ y → InPlace R x y → InPlace R x z
in_place_to R x y z same p = subst (λ w. InPlace R x w) (sym same) p

pub in_place_as : {R S : ListVersion → ListVersion → Type 0} → ((a b : ListVersion) → R a b → S a b) → (x y : Option ListHistory) → InPlace R x y → InPlace S x y
in_place_as also None y p = p
in_place_as also (Some l) None p = absurd p
in_place_as also (Some l) (Some m) p = (p.0, also l.now m.now p.1)

-- a change of one list is a change of every list, if a list may also stay
pub one_of_all : {R : ListVersion → ListVersion → Type 0} → ((k : ListVersion) → R k k) → (c : ℕ) (old new : Lists) → ChangesOne c R old new → Everywhere R old new
one_of_all {R} same c old new h q =
    ⊎_elim
    (λ is. subst (λ k. InPlace R (at k old) (at k new)) (eqb-true c q is) h.here)
    (λ other. in_place_to R (at q old) (at q old) (at q new) (h.others q other) (in_place_refl R same (at q old)))
    (cases_Bool (c == q))

-- the newest version of a list was one, and is another
abbrev pub Becomes : ListVersion → ListVersion → ListVersion → ListVersion → Type 0
Becomes was is old new = (old ≡ was) × (new ≡ is)

pub became : {R : ListVersion → ListVersion → Type 0} (c : ℕ) (was is : ListVersion) (old new : Lists) → ChangesOne c (Becomes was is) old new → R was is → ChangesOne c R old new
became {R} c was is old new one now = record {
  here = in_place_as {R = Becomes was is} {S = R} (λ a b p. subst (λ k. R k b) (sym p.0) (subst (λ k. R was k) (sym p.1) now)) (at c old) (at c new) one.here;
  others = one.others;
}

-- ---- the newest, and what is found at a revision

pub on_top : {R : ListVersion → ListVersion → Type 0} (P : Option ListVersion → Option ListVersion → Type 0) → P None None → ((a b : ListVersion) → R a b → P (Some a) (Some b))
    → (x y : Option ListHistory) → InPlace R x y → P (now_of x) (now_of y)
on_top P none some None y p = subst (λ w. P None (now_of w)) (sym p) none
on_top P none some (Some l) None p = absurd p
on_top P none some (Some l) (Some m) p = some l.now m.now p.1

pub found_now : (x : Option ListHistory) (v : ℕ) → since_of (now_of x) ≤ v → found_of x v ≡ now_of x
found_now None v h = refl
found_now (Some l) v h = ap (λ b. cond b (Some l.now) (find (λ kept. nat_le kept.since v) l.older.items)) (le-leb l.now.since v h)

abbrev older_of : Option ListHistory → ℕ → Option ListVersion
older_of None v = None
older_of (Some l) v = find (λ kept. nat_le kept.since v) l.older.items

found_later : (x : Option ListHistory) (v : ℕ) → v < since_of (now_of x) → found_of x v ≡ older_of x v
found_later None v h = refl
found_later (Some l) v h = ap (λ b. cond b (Some l.now) (find (λ kept. nat_le kept.since v) l.older.items)) (lt-leb l.now.since v h)

-- what is older than the newest is not changed with it
pub found_older : {R : ListVersion → ListVersion → Type 0} → ((a b : ListVersion) → R a b → b.since ≡ a.since) → (x y : Option ListHistory) (v : ℕ) → v < since_of (now_of x) → InPlace R x y
    → found_of y v ≡ found_of x v
found_older since None y v lt p = ap (λ w. found_of w v) p
found_older since (Some l) None v lt p = absurd p
found_older since (Some l) (Some m) v lt p =
    found_later (Some m) v (subst (λ n. v < n) (sym (since l.now m.now p.1)) lt)
    ∙ ap (find (λ kept. nat_le kept.since v)) p.0
    ∙ sym (found_later (Some l) v lt)

-- at each revision what is found is the newest, or is left
pub on_found : {R : ListVersion → ListVersion → Type 0} (P : Option ListVersion → Option ListVersion → Type 0) → ((k : Option ListVersion) → P k k) → ((a b : ListVersion) → R a b → b.since ≡ a.since)
    → (v : ℕ) → ((a b : ListVersion) → R a b → a.since ≤ v → P (Some a) (Some b)) → (x y : Option ListHistory) → InPlace R x y → P (found_of x v) (found_of y v)
on_found P same since v some None y p = subst (λ w. P None (found_of w v)) (sym p) (same None)
on_found P same since v some (Some l) None p = absurd p
on_found {R} P same since v some (Some l) (Some m) p =
    ⊎_elim
    (λ seen.
    let a : found_of (Some l) v ≡ Some l.now = found_now (Some l) v (leb-true l.now.since v seen) in
    let b : found_of (Some m) v ≡ Some m.now = found_now (Some m) v (subst (λ n. n ≤ v) (sym (since l.now m.now p.1)) (leb-true l.now.since v seen)) in
    subst (λ o. P o (found_of (Some m) v)) (sym a) (subst (λ o. P (Some l.now) o) (sym b) (some l.now m.now p.1 (leb-true l.now.since v seen))))
    (λ unseen.
    subst (λ o. P (found_of (Some l) v) o)
    (sym (found_older {R = R} since (Some l) (Some m) v (leb-false l.now.since v unseen) p))
    (same (found_of (Some l) v)))
    (cases_Bool (nat_le l.now.since v))

-- what is found came by the revision
pub found_since : (ks : List ListVersion) (v : ℕ) → since_of (find (λ kept. nat_le kept.since v) ks) ≤ v
found_since [] v = omega arith
found_since (k ∷ ks) v =
    ⊎_elim
    (λ seen. subst (λ b. since_of (cond b (Some k) (find (λ kept. nat_le kept.since v) ks)) ≤ v) (sym seen) (leb-true k.since v seen))
    (λ unseen. subst (λ b. since_of (cond b (Some k) (find (λ kept. nat_le kept.since v) ks)) ≤ v) (sym unseen) (found_since ks v))
    (cases_Bool (nat_le k.since v))

pub list_since : (lists : Lists) (c v : ℕ) → since_of (list_in lists c v) ≤ v
list_since lists c v = of (at c lists)
  where
    of : (x : Option ListHistory) → since_of (found_of x v) ≤ v
    of None = omega arith
    of (Some l) = found_since (l.now ∷ l.older.items) v

-- the newest of a list is what it is from its put on
pub top_found : (lists : Lists) (c v : ℕ) → since_of (top lists c) ≤ v → list_in lists c v ≡ top lists c
top_found lists c v h = found_now (at c lists) v h
