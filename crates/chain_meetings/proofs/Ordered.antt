-- Players that look at a share whose batches are the steps between another share's libraries.
use Rattle.std.proofs.Common.{◌≡◌, List, [], ◌∷◌, ◌++◌, length, map, refl, sym, ap, ap₂, ◌∙◌, subst, append_assoc, length-append, arith}
use Rattle.std.proofs.lemmas.List.{append_cancel_left}
use Rattle.std.specs.List.{AllByRecursion}
use Rattle.item_model.specs.declared.changes.Entry.{Entry}
use Rattle.share_history.specs.Histories.{all_edits, batches, edits}
use Rattle.share_history.specs.Rows.{library}
use Rattle.share_history.proofs.EditFacts.{all_edits-append, batches-append}
use Rattle.share_meetings.specs.ServedRuns.{Rise, first_of}
use Rattle.share_meetings.proofs.Prefixes.{IsPrefix, prefix_both, prefix_self}
use Rattle.relayed_rows.specs.Libraries.{IsLibrary, Library}
use Rattle.relayed_rows.specs.Relays.{steps_between}
use Rattle.relayed_rows.proofs.LibraryFacts.{nothing_is_library}
use Rattle.relayed_rows.proofs.StepFacts.{Reaches, reaches}
use Rattle.chain_meetings.specs.Orders.{ShowsInOrder, StepsThrough, library_at}

-- ---- histories that rise

-- the first begins the whole
pub begins_all : (p : List Entry) (points : List (List Entry)) (h : List Entry) → Rise (p ∷ points) h → IsPrefix p h
begins_all p [] h rise = rise.0
begins_all p (q ∷ points) h rise = prefix_both p q h rise.0 (begins_all q points h rise.1)

-- the empty history may come first
from_nothing : (points : List (List Entry)) (h : List Entry) → Rise points h → Rise ([] ∷ points) h
from_nothing points h rise = ((first_of points h, refl), rise)

-- ---- a library among those that a share had

head_same : {A : Type 0} (x y : A) (xs ys : List A) → x ∷ xs ≡ y ∷ ys → x ≡ y
head_same x y xs ys is = cc

tail_same : {A : Type 0} (x y : A) (xs ys : List A) → x ∷ xs ≡ y ∷ ys → xs ≡ ys
tail_same x y xs ys is = cc

too_long : {A : Type 0} (x y z : A) (ys zs : List A) → x ∷ [] ≡ y ∷ (ys ++ z ∷ zs) → ⊥
too_long x y z ys zs is = let count = ap length is in let parts = length-append ys (z ∷ zs) in omega (arith, count, parts)

-- a history that had this library, none before `p`, and the later histories with the libraries ahead
record Finds (p h : List Entry) (found : Library) (ahead : List Library) : Type 0 where
  point : List Entry
  after : List (List Entry)
  begins : IsPrefix p point
  rise : Rise (point ∷ after) h
  same : library_at point ≡ found
  others : map library_at after ≡ ahead

finds : (p : List Entry) (points : List (List Entry)) (h : List Entry) (passed : List Library) (found : Library) (ahead : List Library) → Rise (p ∷ points) h
    → map library_at (p ∷ points) ≡ passed ++ found ∷ ahead → Finds p h found ahead
finds p points h [] found ahead rise are = record {
  point = p;
  after = points;
  begins = prefix_self p;
  rise = rise;
  same = head_same (library_at p) found (map library_at points) ahead are;
  others = tail_same (library_at p) found (map library_at points) ahead are;
}
finds p [] h (l ∷ passed) found ahead rise are = absurd (too_long (library_at p) l found passed ahead are)
finds p (q ∷ points) h (l ∷ passed) found ahead rise are =
    let further : Finds q h found ahead =
    finds q points h passed found ahead rise.1 (tail_same (library_at p) l (map library_at (q ∷ points)) (passed ++ found ∷ ahead) are) in
    record {
      point = further.point;
      after = further.after;
      begins = prefix_both p q further.point rise.0 further.begins;
      rise = further.rise;
      same = further.same;
      others = further.others;
    }

-- ---- the looks of players, one by one

module _ (up down : List Entry) where
  -- from a length `front` of the share's history on, at which it has the library that the other one has at `here`
  looks_from : (front rest : List Entry) (looks : List (List Entry)) (here : List Entry) (ahead : List (List Entry)) → down ≡ front ++ rest → Rise (front ∷ looks) down
      → Rise (here ∷ ahead) up → library_at front ≡ library_at here → IsLibrary (library_at front) → AllByRecursion IsLibrary (map library_at ahead)
      → batches rest ≡ steps_between (library_at front) (map library_at ahead)
      → (points : List (List Entry)) × Rise (here ∷ points) up × (map library_at looks ≡ map library_at points)
  looks_from front rest [] here ahead is looked rise same is_library are_libraries steps = ([], (begins_all here ahead up rise, tt), refl)
  looks_from front rest (look ∷ looks) here ahead is looked rise same is_library are_libraries steps =
      let more : IsPrefix front look = looked.0 in
      let behind : IsPrefix look down = begins_all look looks down looked.1 in
      let splits : rest ≡ more.0 ++ behind.0 =
      append_cancel_left front rest (more.0 ++ behind.0) (sym is ∙ behind.1 ∙ ap (λ (h : List Entry). h ++ behind.0) more.1 ∙ append_assoc front more.0 behind.0) in
      let reached : Reaches (all_edits front) (map library_at ahead) (batches more.0) (batches behind.0) =
      reaches (all_edits front) (map library_at ahead) (batches more.0) (batches behind.0) is_library are_libraries
      (sym (batches-append more.0 behind.0) ∙ sym (ap batches splits) ∙ steps) in
      let there : library (all_edits front ++ edits (batches more.0)) ≡ library_at look =
      ap library (sym (all_edits-append front more.0)) ∙ ap library_at (sym more.1) in
      let found : Finds here up (library_at look) reached.ahead =
      finds here ahead up reached.passed (library_at look) reached.ahead rise
      (ap (λ (l : Library). l ∷ map library_at ahead) (sym same) ∙ reached.are ∙ ap (λ (l : Library). reached.passed ++ l ∷ reached.ahead) there) in
      let next =
      looks_from look behind.0 looks found.point found.after behind.1 looked.1 found.rise (sym found.same) (subst IsLibrary there reached.is)
      (subst (AllByRecursion IsLibrary) (sym found.others) reached.libraries_ahead)
      (reached.left ∙ ap (λ (l : Library). steps_between l reached.ahead) there ∙ ap (steps_between (library_at look)) (sym found.others)) in
      (found.point ∷ next.0, (found.begins, next.1), ap₂ (λ (l : Library) (ls : List Library). l ∷ ls) (sym found.same) next.2)

pub steps_show_in_order : (up down : List Entry) → StepsThrough up down → ShowsInOrder up down
steps_show_in_order up down x looks looked =
    let all = looks_from up down [] down looks [] x.points refl (from_nothing looks down looked) (from_nothing x.points up x.rise) refl nothing_is_library x.libraries x.steps in
    (all.0, all.1.1, all.2)

-- what is shown in order is shown in order further on
pub orders_compose : (up middle down : List Entry) → ShowsInOrder up middle → ShowsInOrder middle down → ShowsInOrder up down
orders_compose up middle down first second looks looked =
    let near = second looks looked in
    let far = first near.0 near.1 in
    (far.0, far.1, near.2 ∙ far.2)

pub shows_itself : (h : List Entry) → ShowsInOrder h h
shows_itself h looks looked = (looks, looked, refl)
