-- Requests one after another, and what a mirror holds after them.
use Rattle.std.proofs.Common.{◌≡◌, ◌≤◌, ℕ, zero, suc, ◌+◌, not, List, [], ◌∷◌, ◌++◌, Bool, true, false, cond, Option, take, drop, filter, fold, length, refl, sym, ap, subst, ◌∙◌, arith, length-append, count_by}
use Rattle.std.specs.List.{AllByRecursion, range_with_len}
use Rattle.std.proofs.lemmas.List.Elements.{filter-append}
use Rattle.std.proofs.lemmas.List.Sums.{sum_by-cons}
use Rattle.item_model.specs.declared.changes.Edit.{Edit}
use Rattle.item_model.specs.declared.query.Query.{Query}
use Rattle.item_model.specs.declared.request.Meta.TheVariants.{Default}
use Rattle.item_model.specs.declared.request.Target.TheVariants.{Items}
use Rattle.share_history.specs.Histories.{revision}
use Rattle.share_history.specs.Kept.{is_kept}
use Rattle.share_history.specs.Listings.{listing}
use Rattle.share_history.specs.Mirror.{Held, mirror_after, mirrored, mirror_look}
use Rattle.share_history.proofs.MirrorFacts.{full_listings_suffice, mirrors_catch_up}
use Rattle.rehearsal.specs.Asks.{is_due, asks, kept_bases, deltas, fulls}
use Rattle.rehearsal.specs.Following.{nothing_held, held_after}

-- ---- requests

range_more : (a n : ℕ) → range_with_len a (n + 1) ≡ range_with_len a n ++ (a + n) ∷ []
range_more a n = subst (λ k. range_with_len a k ≡ range_with_len a n ++ (a + n) ∷ []) one (by_suc a n)
  where
    one : suc n ≡ n + 1
    one = omega arith

    by_suc : (a n : ℕ) → range_with_len a (suc n) ≡ range_with_len a n ++ (a + n) ∷ []
    by_suc a zero = ap (λ k. k ∷ []) (add_zero a)
      where
        add_zero : (a : ℕ) → a ≡ a + 0
        add_zero a = omega arith
    by_suc a (suc n) = ap (λ ks. a ∷ ks) (by_suc (a + 1) n ∙ ap (λ k. range_with_len (a + 1) n ++ k ∷ []) (shift a n))
      where
        shift : (a n : ℕ) → a + 1 + n ≡ a + suc n
        shift a n = omega arith

pub asks_more : (period last count : ℕ) → asks period last (count + 1) ≡ asks period last count ++ cond (is_due period last (count + 1)) ((count + 1) ∷ []) []
asks_more period last count =
    ap (filter (is_due period last)) (range_more 1 count ∙ ap (λ n. range_with_len 1 count ++ n ∷ []) comm)
    ∙ filter-append (is_due period last) (range_with_len 1 count) ((count + 1) ∷ [])
  where
    comm : 1 + count ≡ count + 1
    comm = omega arith

-- the requests come after batches that exist
abbrev pub AreWithin : ℕ → List ℕ → Type 0
AreWithin count ns = AllByRecursion (λ n. n ≤ count) ns

range_within : (top a n : ℕ) → a + n ≤ top + 1 → AreWithin top (range_with_len a n)
range_within top a zero h = tt
range_within top a (suc n) h = (omega arith, range_within top (a + 1) n (omega arith))

within_filter : (top : ℕ) (p : ℕ → Bool) (ns : List ℕ) → AreWithin top ns → AreWithin top (filter p ns)
within_filter top p [] h = tt
within_filter top p (n ∷ ns) h = kept (p n) (within_filter top p ns h.1)
  where
    kept : (b : Bool) → AreWithin top (filter p ns) → AreWithin top (cond b (n ∷ filter p ns) (filter p ns))
    kept true rest = (h.0, rest)
    kept false rest = rest

asks_within : (period last count : ℕ) → AreWithin count (asks period last count)
asks_within period last count = within_filter count (is_due period last) (range_with_len 1 count) (range_within count 1 count (omega arith))

-- ---- what a mirror holds

-- the revision of the last request
last_base : List (List Edit) → ℕ → List ℕ → ℕ
last_base bs base ns = fold (λ _ n. revision (take n bs)) base ns

held_from : List (List Edit) → Option Query → Held → List ℕ → Held
held_from bs q held ns = fold (λ _ n. mirrored (take n bs) Items q Default) held ns

held_base : (bs : List (List Edit)) (q : Option Query) (held : Held) (ns : List ℕ) → (held_from bs q held ns).revision ≡ last_base bs held.revision ns
unfolding held_from last_base
held_base bs q held [] = refl
held_base bs q held (n ∷ ns) = held_base bs q (mirrored (take n bs) Items q Default) ns

-- from what is held, a mirror catches up with the first n batches
abbrev CatchesUp : ℕ → ℕ → List (List Edit) → Option Query → Held → Type 0
CatchesUp keep n bs q held = mirror_after held (listing keep (take n bs) Items (mirror_look q Default held.revision)) ≡ mirrored (take n bs) Items q Default

take_split : {A : Type 0} (m n : ℕ) (xs : List A) → m ≤ n → take m xs ++ drop m (take n xs) ≡ take n xs
take_split zero n xs h = refl
take_split (suc m) zero xs h = absurd (omega arith)
take_split (suc m) (suc n) [] h = refl
take_split (suc m) (suc n) (x ∷ xs) h = ap (λ l. x ∷ l) (take_split m n xs (omega arith))

from_nothing : (keep n : ℕ) (bs : List (List Edit)) (q : Option Query) → CatchesUp keep n bs q nothing_held
from_nothing keep n bs q = full_listings_suffice nothing_held (take n bs) Items q Default 0

from_before : (keep m n : ℕ) (bs : List (List Edit)) (q : Option Query) → m ≤ n → CatchesUp keep n bs q (mirrored (take m bs) Items q Default)
from_before keep m n bs q h =
    subst (λ all. mirror_after (mirrored (take m bs) Items q Default) (listing keep all Items (mirror_look q Default (revision (take m bs)))) ≡ mirrored all Items q Default)
    (take_split m n bs h) (mirrors_catch_up keep (take m bs) (drop m (take n bs)) Items q Default)

from_held : (keep n : ℕ) (bs : List (List Edit)) (q : Option Query) (held : Held) (ns : List ℕ) → CatchesUp keep n bs q held → AreWithin n ns → CatchesUp keep n bs q (held_from bs q held ns)
unfolding held_from
from_held keep n bs q held [] h within = h
from_held keep n bs q held (m ∷ ns) h within = from_held keep n bs q (mirrored (take m bs) Items q Default) ns (from_before keep m n bs q within.0) within.1

within_more : (n : ℕ) (ns : List ℕ) → AreWithin n ns → AreWithin (n + 1) ns
within_more n [] h = tt
within_more n (m ∷ ns) h = (omega (arith, h.0), within_more n ns h.1)

-- a mirror that made its requests catches up with the next batch
pub catches_up : (keep period last count : ℕ) (bs : List (List Edit)) (q : Option Query) (held : Held) → held ≡ held_after bs q (asks period last count)
    → mirror_after held (listing keep (take (count + 1) bs) Items (mirror_look q Default held.revision)) ≡ mirrored (take (count + 1) bs) Items q Default
unfolding held_from
catches_up keep period last count bs q held is =
    subst (CatchesUp keep (count + 1) bs q) (sym is)
    (from_held keep (count + 1) bs q nothing_held (asks period last count) (from_nothing keep (count + 1) bs q) (within_more count (asks period last count) (asks_within period last count)))

fold_more : {A B : Type 0} (f : B → A → B) (b : B) (xs : List A) (x : A) → fold f b (xs ++ x ∷ []) ≡ f (fold f b xs) x
fold_more f b [] x = refl
fold_more f b (y ∷ xs) x = fold_more f (f b y) xs x

pub held_more : (bs : List (List Edit)) (q : Option Query) (ns : List ℕ) (n : ℕ) → held_after bs q (ns ++ n ∷ []) ≡ mirrored (take n bs) Items q Default
held_more bs q ns n = fold_more (λ _ n. mirrored (take n bs) Items q Default) nothing_held ns n

-- and holds no later revision than that makes
base_within : (bs : List (List Edit)) (base n : ℕ) (ns : List ℕ) → base ≤ revision (take n bs) → AreWithin n ns → last_base bs base ns ≤ revision (take n bs)
unfolding last_base
base_within bs base n [] h within = h
base_within bs base n (m ∷ ns) h within = base_within bs (revision (take m bs)) n ns (taken_less m n bs within.0) within.1
  where
    taken_less : {A : Type 0} (m n : ℕ) (xs : List A) → m ≤ n → length (take m xs) + 2 ≤ length (take n xs) + 2
    taken_less m n xs h = omega (arith, length-append (take m xs) (drop m (take n xs)), ap length (take_split m n xs h))

pub base_not_later : (period last count : ℕ) (bs : List (List Edit)) (q : Option Query) (held : Held) → held ≡ held_after bs q (asks period last count) → held.revision ≤ revision (take (count + 1) bs)
unfolding held_from last_base
base_not_later period last count bs q held is =
    let all : AreWithin (count + 1) (asks period last count) = within_more count (asks period last count) (asks_within period last count) in
    omega (arith, base_within bs 0 (count + 1) (asks period last count) (omega arith) all, held_base bs q nothing_held (asks period last count), ap (λ h. h.revision) is)

-- ---- counts

kept_more : (keep : ℕ) (bs : List (List Edit)) (base : ℕ) (ns : List ℕ) (n : ℕ)
    → kept_bases keep bs base (ns ++ n ∷ []) ≡ kept_bases keep bs base ns ++ is_kept keep (take n bs) Items (last_base bs base ns) ∷ []
unfolding last_base
kept_more keep bs base [] n = refl
kept_more keep bs base (m ∷ ns) n = ap (λ l. is_kept keep (take m bs) Items base ∷ l) (kept_more keep bs (revision (take m bs)) ns n)

count_more : (p : Bool → Bool) (xs : List Bool) (x : Bool) → count_by p (xs ++ x ∷ []) ≡ count_by p xs + cond (p x) 1 0
count_more p [] x = refl
count_more p (y ∷ xs) x =
    omega (arith, count_more p xs x, sum_by-cons (λ z. cond (p z) 1 0) y (xs ++ x ∷ []), sum_by-cons (λ z. cond (p z) 1 0) y xs)

-- one request more, from the held base
pub deltas_more : (keep : ℕ) (bs : List (List Edit)) (q : Option Query) (held : Held) (ns : List ℕ) (n : ℕ) → held ≡ held_after bs q ns
    → deltas keep bs (ns ++ n ∷ []) ≡ deltas keep bs ns + cond (is_kept keep (take n bs) Items held.revision) 1 0
unfolding held_from
deltas_more keep bs q held ns n is =
    ap (count_by (λ b. b)) (kept_more keep bs 0 ns n) ∙ count_more (λ b. b) (kept_bases keep bs 0 ns) (is_kept keep (take n bs) Items (last_base bs 0 ns))
    ∙ ap (λ base. deltas keep bs ns + cond (is_kept keep (take n bs) Items base) 1 0) (sym (ap (λ h. h.revision) is ∙ held_base bs q nothing_held ns))

pub fulls_more : (keep : ℕ) (bs : List (List Edit)) (q : Option Query) (held : Held) (ns : List ℕ) (n : ℕ) → held ≡ held_after bs q ns
    → fulls keep bs (ns ++ n ∷ []) ≡ fulls keep bs ns + cond (not (is_kept keep (take n bs) Items held.revision)) 1 0
unfolding held_from
fulls_more keep bs q held ns n is =
    ap (count_by not) (kept_more keep bs 0 ns n) ∙ count_more not (kept_bases keep bs 0 ns) (is_kept keep (take n bs) Items (last_base bs 0 ns))
    ∙ ap (λ base. fulls keep bs ns + cond (not (is_kept keep (take n bs) Items base)) 1 0) (sym (ap (λ h. h.revision) is ∙ held_base bs q nothing_held ns))
