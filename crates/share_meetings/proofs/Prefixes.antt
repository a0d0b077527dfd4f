-- Prefixes of one history, each one of the next, and the listings that are answered on them.
use Rattle.std.proofs.Common.{◌≡◌, ◌≤◌, ℕ, zero, suc, ◌+◌, ◌*◌, ◌-◌, List, [], ◌∷◌, ◌++◌, take, drop, length, Bool, true, false, cond, Option, Some, refl, sym, ap, ◌∙◌, subst, append_assoc, append-nil, length-append, arith}
use Rattle.std.proofs.lemmas.List.{length-take-le, take-append-drop, take-append-le}
use Rattle.std.specs.List.{slice_get}
use Rattle.item_model.specs.declared.changes.Edit.{Edit}
use Rattle.item_model.specs.declared.changes.Entry.{Entry}
use Rattle.item_model.specs.declared.query.Query.{Query}
use Rattle.item_model.specs.declared.request.Meta.{Meta}
use Rattle.item_model.specs.declared.request.Target.{Target}
use Rattle.share_history.specs.Histories.{batches, revision}
use Rattle.share_history.specs.Listings.{Listing, listing}
use Rattle.share_history.specs.Mirror.{mirror_look}
use Rattle.share_history.proofs.EditFacts.{batches-append}
use Rattle.share_server.specs.declared.report.Served.{Served}
use Rattle.share_server.specs.Served.{answered_on, at_point}
use Rattle.mirror_client.specs.Laws.{AreAnswers, NeverFall, last_point}
use Rattle.share_meetings.specs.ServedRuns.{Rise}
use Rattle.share_history.specs.Whole.{IsWhole}
use Rattle.share_meetings.specs.Mirrors.{AreListed, IsListed}
use Rattle.share_history.proofs.WholeFacts.{point_whole}

-- ---- histories that begin others

abbrev pub IsPrefix : List Entry → List Entry → Type 0
IsPrefix p q = (later : List Entry) × (q ≡ p ++ later)

pub prefix_self : (p : List Entry) → IsPrefix p p
prefix_self p = ([], sym (append-nil p))

pub prefix_both : (p q r : List Entry) → IsPrefix p q → IsPrefix q r → IsPrefix p r
prefix_both p q r a b = (a.0 ++ b.0, b.1 ∙ ap (λ (x : List Entry). x ++ b.0) a.1 ∙ append_assoc p a.0 b.0)

pub prefix_taken : (n : ℕ) (h : List Entry) → IsPrefix (take n h) h
prefix_taken n h = (drop n h, sym (take-append-drop n h))

pub prefix_longer : (m n : ℕ) (h : List Entry) → m ≤ n → IsPrefix (take m h) (take n h)
prefix_longer zero n h less = (take n h, refl)
prefix_longer (suc m) zero h less = absurd (omega (arith, less))
prefix_longer (suc m) (suc n) [] less = ([], refl)
prefix_longer (suc m) (suc n) (e ∷ h) less =
    let further = prefix_longer m n h (omega (arith, less)) in (further.0, ap (λ (x : List Entry). e ∷ x) further.1)

-- each prefix of a whole history is whole
pub prefix_whole : (p h : List Entry) → IsPrefix p h → IsWhole h → IsWhole p
prefix_whole p h a whole = point_whole p a.0 (subst IsWhole a.1 whole)

-- no prefix has a higher revision
pub prefix_revision : (p q : List Entry) → IsPrefix p q → revision (batches p) ≤ revision (batches q)
prefix_revision p q a =
    omega (
      arith,
      ap (λ (x : List Entry). length (batches x)) a.1,
      ap (λ (bs : List (List Edit)). length bs) (batches-append p a.0),
      length-append (batches p) (batches a.0),
    )

-- ---- the history that an answer was computed from

on_point : (low : ℕ) (added : Bool) (p : List Entry) → low + cond added 1 0 ≤ length p → IsPrefix (take low p) (answered_on added p) × IsPrefix (answered_on added p) p
on_point low false p above = (prefix_taken low p, prefix_self p)
on_point low true p above = (prefix_longer low (length p - 1) p (omega (arith, above)), prefix_taken (length p - 1) p)

-- it begins with what was there at the request before, and is a prefix of what is there after the answer
pub answered_between : (h : List Entry) (low at : ℕ) (added : Bool) → low + cond added 1 0 ≤ at → at ≤ length h
    → IsPrefix (take low h) (answered_on added (take at h)) × IsPrefix (answered_on added (take at h)) (take at h)
answered_between h low at added above within =
    let all : length (take at h) ≡ at = length-take-le at h within in
    let same : take low h ≡ take low (take at h) =
    ap (take low) (sym (take-append-drop at h)) ∙ take-append-le low (take at h) (drop at h) (omega (arith, above, all)) in
    let on = on_point low added (take at h) (omega (arith, above, all)) in
    (subst (λ (x : List Entry). IsPrefix x (answered_on added (take at h))) (sym same) on.0, on.1)

-- ---- histories that never shrink

-- the last one may be a later one
pub rise_on : (points : List (List Entry)) (p q h : List Entry) → IsPrefix p q → IsPrefix q h → Rise (points ++ p ∷ []) h → Rise (points ++ q ∷ []) h
rise_on [] p q h a b rise = (b, tt)
rise_on (x ∷ []) p q h a b rise = (prefix_both x p q rise.0 a, (b, tt))
rise_on (x ∷ y ∷ points) p q h a b rise = (rise.0, rise_on (y ∷ points) p q h a b rise.1)

-- and there may be one more
pub rise_more : (points : List (List Entry)) (p q h : List Entry) → IsPrefix p q → IsPrefix q h → Rise (points ++ p ∷ []) h → Rise ((points ++ p ∷ []) ++ q ∷ []) h
rise_more [] p q h a b rise = (a, (b, tt))
rise_more (x ∷ []) p q h a b rise = (rise.0, (a, (b, tt)))
rise_more (x ∷ y ∷ points) p q h a b rise = (rise.0, rise_more (y ∷ points) p q h a b rise.1)

-- the others begin each history that the last one begins
pub rise_short : (points : List (List Entry)) (p h k : List Entry) → IsPrefix p k → Rise (points ++ p ∷ []) h → Rise points k
rise_short [] p h k a rise = tt
rise_short (x ∷ []) p h k a rise = (prefix_both x p k rise.0 a, tt)
rise_short (x ∷ y ∷ points) p h k a rise = (rise.0, rise_short (y ∷ points) p h k a rise.1)

pub rise_falls : (p : List Entry) (points : List (List Entry)) (h : List Entry) → Rise (p ∷ points) h → NeverFall p points
rise_falls p [] h rise = tt
rise_falls p (q ∷ points) h rise = (rise.0, rise_falls q points h rise.1)

pub last_begins : (p : List Entry) (points : List (List Entry)) (h : List Entry) → Rise (p ∷ points) h → IsPrefix (last_point p points) h
last_begins p [] h rise = rise.0
last_begins p (q ∷ points) h rise = last_begins q points h rise.1

-- ---- listings at them

-- the revision of the last history
abbrev pub last_base : ℕ → List (List Entry) → ℕ
last_base base [] = base
last_base base (p ∷ points) = last_base (revision (batches p)) points

pub last_base_more : (base : ℕ) (points : List (List Entry)) (p : List Entry) → last_base base (points ++ p ∷ []) ≡ revision (batches p)
last_base_more base [] p = refl
last_base_more base (q ∷ points) p = last_base_more (revision (batches q)) points p

pub answers_more : (keep : ℕ) (target : Target) (query : Option Query) (meta : Meta) (base : ℕ) (points : List (List Entry)) (ls : List Listing) (p : List Entry) (l : Listing)
    → AreAnswers keep target query meta base points ls → l ≡ listing keep (batches p) target (mirror_look query meta (last_base base points))
    → AreAnswers keep target query meta base (points ++ p ∷ []) (ls ++ l ∷ [])
answers_more keep target query meta base [] [] p l are is = (is, tt)
answers_more keep target query meta base [] (k ∷ ls) p l are is = absurd are
answers_more keep target query meta base (q ∷ points) [] p l are is = absurd are
answers_more keep target query meta base (q ∷ points) (k ∷ ls) p l are is =
    (are.0, answers_more keep target query meta (revision (batches q)) points ls p l are.1 is)

pub as_many_points : (keep : ℕ) (target : Target) (query : Option Query) (meta : Meta) (base : ℕ) (points : List (List Entry)) (ls : List Listing)
    → AreAnswers keep target query meta base points ls → length points ≡ length ls
as_many_points keep target query meta base [] [] are = refl
as_many_points keep target query meta base [] (l ∷ ls) are = absurd are
as_many_points keep target query meta base (p ∷ points) [] are = absurd are
as_many_points keep target query meta base (p ∷ points) (l ∷ ls) are = ap suc (as_many_points keep target query meta (revision (batches p)) points ls are.1)

-- ---- the requests that they answer

pub got_behind : (front : List Served) (one : Served) (rest : List Served) → slice_get (front ++ one ∷ rest) (length front) ≡ Some one
got_behind [] one rest = refl
got_behind (v ∷ front) one rest = got_behind front one rest

pub listed_more : (h : List Entry) (reports : List Served) (number : ℕ) (points : List (List Entry)) (p : List Entry) → AreListed h reports number points
    → IsListed h reports (number + 2 * length points) p → AreListed h reports number (points ++ p ∷ [])
listed_more h reports number [] p are is =
    let same : number + 2 * 0 ≡ number = omega arith in (subst (λ (n : ℕ). IsListed h reports n p) same is, tt)
listed_more h reports number (q ∷ points) p are is =
    let same : number + 2 * length (q ∷ points) ≡ number + 2 + 2 * length points = omega arith in
    (are.0, listed_more h reports (number + 2) points p are.1 (subst (λ (n : ℕ). IsListed h reports n p) same is))

-- the history may have grown since
pub listed_still : (h later : List Entry) (reports : List Served) (number : ℕ) (points : List (List Entry)) → AreListed h reports number points → AreListed (h ++ later) reports number points
listed_still h later reports number [] are = tt
listed_still h later reports number (p ∷ points) are =
    let one = are.0 in
    let within = one.within in (
      record {
        one = one.one;
        is_there = one.is_there;
        within = omega (arith, within, length-append h later);
        point_is = one.point_is ∙ sym (take-append-le one.one.point h later within);
      },
      listed_still h later reports (number + 2) points are.1,
    )
