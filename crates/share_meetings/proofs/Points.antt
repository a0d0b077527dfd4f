-- The revisions of histories that rise, and the first of some listings: a run may have applied one that it did not tell.
use Rattle.std.proofs.Common.{◌≡◌, ◌≤◌, ◌<◌, ℕ, zero, suc, ◌+◌, List, [], ◌∷◌, ◌++◌, take, length, Option, Some, refl, ap, ◌∙◌, subst, append_assoc, arith}
use Rattle.std.proofs.lemmas.List.{take_at}
use Rattle.std.proofs.lemmas.Option.{slice_get_within}
use Rattle.std.specs.List.{slice_get}
use Rattle.std.specs.Prelude.{⊤}
use Rattle.item_model.specs.declared.changes.Edit.{Edit}
use Rattle.item_model.specs.declared.changes.Entry.{Entry}
use Rattle.item_model.specs.declared.changes.Entry.TheVariants.{Login}
use Rattle.item_model.specs.declared.query.Query.{Query}
use Rattle.item_model.specs.declared.request.Meta.{Meta}
use Rattle.item_model.specs.declared.request.Target.{Target}
use Rattle.share_history.specs.Histories.{batches, revision, up_to}
use Rattle.share_history.specs.Listings.{Listing}
use Rattle.share_history.proofs.EditFacts.{batches-append}
use Rattle.share_server.specs.declared.report.LinkReport.{LinkReport}
use Rattle.share_server.specs.declared.report.Served.{Served}
use Rattle.share_server.specs.Passes.{Rises}
use Rattle.share_server.specs.Served.{at_point}
use Rattle.mirror_client.specs.Laws.{AreAnswers}
use Rattle.share_meetings.specs.ServedRuns.{Rise}
use Rattle.share_meetings.specs.Mirrors.{AreBehindLogin, AreListed, AreNew}
use Rattle.share_meetings.proofs.Prefixes.{IsPrefix, prefix_both, prefix_longer, prefix_revision}
use Rattle.share_meetings.specs.Shown.{AreAfterLogin, AreAnsweredBehind, AreRising}

abbrev pub revisions_of : List (List Entry) → List ℕ
revisions_of [] = []
revisions_of (p ∷ points) = revision (batches p) ∷ revisions_of points

pub as_many : (points : List (List Entry)) → length (revisions_of points) ≡ length points
as_many [] = refl
as_many (p ∷ points) = ap suc (as_many points)

pub revisions_more : (points : List (List Entry)) (p : List Entry) → revisions_of (points ++ p ∷ []) ≡ revisions_of points ++ revision (batches p) ∷ []
revisions_more [] p = refl
revisions_more (q ∷ points) p = ap (λ (vs : List ℕ). revision (batches q) ∷ vs) (revisions_more points p)

-- ---- the batches up to a revision

taken : (xs ys : List (List Edit)) → up_to (xs ++ ys) (revision xs) ≡ xs
taken xs ys = ap (λ (n : ℕ). take n (xs ++ ys)) (omega arith) ∙ take_at xs ys (length xs) refl

pub up_to_point : (p h : List Entry) → IsPrefix p h → up_to (batches h) (revision (batches p)) ≡ batches p
up_to_point p h a = ap (λ (bs : List (List Edit)). up_to bs (revision (batches p))) (ap batches a.1 ∙ batches-append p a.0) ∙ taken (batches p) (batches a.0)

-- ---- revisions rise

pub first_begins : (p : List Entry) (points : List (List Entry)) (h : List Entry) → Rise (p ∷ points) h → IsPrefix p h
first_begins p [] h rise = rise.0
first_begins p (q ∷ points) h rise = prefix_both p q h rise.0 (first_begins q points h rise.1)

rising_from : (h : List Entry) (base : ℕ) (p : List Entry) (points : List (List Entry)) → base < revision (batches p) → Rise (p ∷ points) h → AreNew (p ∷ points)
    → AreRising base (revision (batches h)) (revisions_of (p ∷ points))
rising_from h base p [] less rise new = (less, prefix_revision p h rise.0, tt)
rising_from h base p (q ∷ points) less rise new =
    (less, prefix_revision p h (first_begins p (q ∷ points) h rise), rising_from h (revision (batches p)) q points new.0 rise.1 new.1)

pub rising : (h : List Entry) (points : List (List Entry)) → Rise points h → AreNew points → AreRising 0 (revision (batches h)) (revisions_of points)
rising h [] rise new = tt
rising h (p ∷ points) rise new = rising_from h 0 p points (omega arith) rise new

-- the first one is not from before the login
pub after_login : (report : LinkReport) (h : List Entry) (points : List (List Entry)) → AreBehindLogin report.number h report.served points
    → AreAfterLogin report h (revisions_of points)
after_login report h [] b = tt
after_login report h (p ∷ points) b =
    let login : List Entry = Login report.number b.session ∷ [] in
    record {
      login = b.login;
      is_report = b.is_report;
      added = b.added;
      session = b.session;
      before = b.before;
      entered = b.entered;
      since =
          prefix_revision b.before p (login ++ b.since, b.begins ∙ ap (λ (x : List Entry). x ++ b.since) b.entered ∙ append_assoc b.before login b.since);
    }

-- ---- which requests they answer

-- the request with this number was answered at the revision
pub record IsAnsweredAt (report : LinkReport) (h : List Entry) (number v : ℕ) : Type 0 where
  pub one : Served
  pub is_there : slice_get report.served number ≡ Some one
  pub at : v ≡ revision (batches (at_point h one))

abbrev pub AreAnsweredAt : LinkReport → List Entry → (number : ℕ) → List ℕ → Type 0
AreAnsweredAt report h number [] = ⊤
AreAnsweredAt report h number (v ∷ vs) = IsAnsweredAt report h number v × AreAnsweredAt report h (number + 2) vs

pub answered_at : (report : LinkReport) (h : List Entry) (number : ℕ) (points : List (List Entry)) → AreListed h report.served number points
    → AreAnsweredAt report h number (revisions_of points)
answered_at report h number [] are = tt
answered_at report h number (p ∷ points) are =
    let is = are.0 in
    (record { one = is.one; is_there = is.is_there; at = ap (λ (x : List Entry). revision (batches x)) is.point_is }, answered_at report h (number + 2) points are.1)

pub listed_front : (h : List Entry) (served : List Served) (number n : ℕ) (points : List (List Entry)) → AreListed h served number points → AreListed h served number (take n points)
listed_front h served number zero points are = tt
listed_front h served number (suc n) [] are = tt
listed_front h served number (suc n) (p ∷ points) are = (are.0, listed_front h served (number + 2) n points are.1)

got_within : (served : List Served) (n : ℕ) → n < length served → (v : Served) × (slice_get served n ≡ Some v)
got_within [] n less = absurd (omega (arith, less))
got_within (v ∷ served) zero less = (v, refl)
got_within (v ∷ served) (suc n) less = got_within served n (omega (arith, less))

rises_at : (low high : ℕ) (served : List Served) (n : ℕ) (a b : Served) → Rises low served high → slice_get served n ≡ Some a → slice_get served (suc n) ≡ Some b → a.point ≤ b.point
rises_at low high [] n a b rises at next = absurd (cc at)
rises_at low high (v ∷ []) zero a b rises at next = absurd (cc next)
rises_at low high (v ∷ w ∷ served) zero a b rises at next =
    let first : v ≡ a = cc at in
    let second : w ≡ b = cc next in
    let step = rises.1.0 in
    omega (arith, step, ap (λ (x : Served). x.point) first, ap (λ (x : Served). x.point) second)
rises_at low high (v ∷ served) (suc n) a b rises at next = rises_at v.point high served n a b rises.1 at next

-- each is behind a request that was answered at no higher revision
pub answered_behind : (report : LinkReport) (h : List Entry) (high number : ℕ) (vs : List ℕ) → Rises 0 report.served high → AreAnsweredAt report h (number + 1) vs
    → AreAnsweredBehind report h number vs
answered_behind report h high number [] rises are = tt
answered_behind report h high number (v ∷ vs) rises are =
    let is = are.0 in
    let within = slice_get_within report.served (number + 1) is.one is.is_there in
    let before = got_within report.served number (omega (arith, within)) in
    let next : number + 1 ≡ suc number = omega arith in
    let less = rises_at 0 high report.served number before.0 is.one rises before.1 (subst (λ (n : ℕ). slice_get report.served n ≡ Some is.one) next is.is_there) in
    let rest : number + 1 + 2 ≡ number + 2 + 1 = omega arith in
    let at = is.at in (
      record {
        one = is.one;
        is_there = is.is_there;
        at = at;
        before = before.0;
        is_before = before.1;
        since = omega (arith, at, prefix_revision (at_point h before.0) (at_point h is.one) (prefix_longer before.0.point is.one.point h less));
      },
      answered_behind report h high (number + 2) vs rises (subst (λ (n : ℕ). AreAnsweredAt report h n vs) rest are.1),
    )

-- ---- the first of some listings

pub answers_front : (keep : ℕ) (target : Target) (query : Option Query) (meta : Meta) (base : ℕ) (points : List (List Entry)) (told others : List Listing)
    → AreAnswers keep target query meta base points (told ++ others) → AreAnswers keep target query meta base (take (length told) points) told
answers_front keep target query meta base points [] others are = tt
answers_front keep target query meta base [] (l ∷ told) others are = absurd are
answers_front keep target query meta base (p ∷ points) (l ∷ told) others are =
    (are.0, answers_front keep target query meta (revision (batches p)) points told others are.1)

pub each_told : (keep : ℕ) (target : Target) (query : Option Query) (meta : Meta) (base : ℕ) (points : List (List Entry)) (ls : List Listing)
    → AreAnswers keep target query meta base points ls → length points ≡ length ls
each_told keep target query meta base [] [] are = refl
each_told keep target query meta base [] (l ∷ ls) are = absurd are
each_told keep target query meta base (p ∷ points) [] are = absurd are
each_told keep target query meta base (p ∷ points) (l ∷ ls) are = ap suc (each_told keep target query meta (revision (batches p)) points ls are.1)

pub rise_front : (n : ℕ) (points : List (List Entry)) (h : List Entry) → Rise points h → Rise (take n points) h
rise_front zero points h rise = tt
rise_front (suc n) [] h rise = tt
rise_front (suc zero) (p ∷ points) h rise = (first_begins p points h rise, tt)
rise_front (suc (suc n)) (p ∷ []) h rise = rise
rise_front (suc (suc n)) (p ∷ q ∷ points) h rise = (rise.0, rise_front (suc n) (q ∷ points) h rise.1)

pub new_front : (n : ℕ) (points : List (List Entry)) → AreNew points → AreNew (take n points)
new_front zero points new = tt
new_front (suc n) [] new = tt
new_front (suc zero) (p ∷ points) new = tt
new_front (suc (suc n)) (p ∷ []) new = tt
new_front (suc (suc n)) (p ∷ q ∷ points) new = (new.0, new_front (suc n) (q ∷ points) new.1)

pub behind_front : (report : LinkReport) (h : List Entry) (n : ℕ) (points : List (List Entry)) → AreBehindLogin report.number h report.served points
    → AreBehindLogin report.number h report.served (take n points)
behind_front report h zero points b = tt
behind_front report h (suc n) [] b = tt
behind_front report h (suc n) (p ∷ points) b = b

-- all but the last of some listings
pub record AreAnswersTo (keep : ℕ) (target : Target) (query : Option Query) (meta : Meta) (base : ℕ) (points : List (List Entry)) (ls : List Listing) : Type 0 where
  pub earlier : List (List Entry)
  pub last : List Entry
  pub are_points : points ≡ earlier ++ last ∷ []
  pub answers : AreAnswers keep target query meta base earlier ls

pub answers_before : (keep : ℕ) (target : Target) (query : Option Query) (meta : Meta) (base : ℕ) (points : List (List Entry)) (ls : List Listing) (l : Listing)
    → AreAnswers keep target query meta base points (ls ++ l ∷ []) → AreAnswersTo keep target query meta base points ls
answers_before keep target query meta base [] [] l are = absurd are
answers_before keep target query meta base [] (k ∷ ls) l are = absurd are
answers_before keep target query meta base (p ∷ []) [] l are = record { earlier = []; last = p; are_points = refl; answers = tt }
answers_before keep target query meta base (p ∷ q ∷ points) [] l are = absurd are.1
answers_before keep target query meta base (p ∷ points) (k ∷ ls) l are =
    let x = answers_before keep target query meta (revision (batches p)) points ls l are.1 in
    record { earlier = p ∷ x.earlier; last = x.last; are_points = ap (λ (ps : List (List Entry)). p ∷ ps) x.are_points; answers = (are.0, x.answers) }

pub last_there : (points : List (List Entry)) (p h : List Entry) → Rise (points ++ p ∷ []) h → IsPrefix p h
last_there [] p h rise = rise.0
last_there (q ∷ points) p h rise = last_there points p h rise.1
