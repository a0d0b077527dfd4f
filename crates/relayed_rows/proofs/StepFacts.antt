-- The library of a share whose batches are the steps through some libraries.
use Rattle.std.proofs.Common.{◌≡◌, List, [], ◌∷◌, ◌++◌, refl, sym, ap, subst, ◌∙◌, append_assoc, append-nil}
use Rattle.std.specs.List.{AllByRecursion}
use Rattle.item_model.specs.declared.changes.Edit.{Edit}
use Rattle.share_history.specs.Histories.{all_edits, batches, edits}
use Rattle.share_history.specs.Rows.{library}
use Rattle.share_history.proofs.EditFacts.{batches-append, all_edits-append}
use Rattle.relayed_rows.specs.Libraries.{IsLibrary, Library}
use Rattle.relayed_rows.specs.Differences.{difference}
use Rattle.relayed_rows.specs.Relays.{steps_between, with_batch}
use Rattle.relayed_rows.specs.Laws.{RelaysNeverGoBack}
use Rattle.relayed_rows.proofs.LibraryFacts.{nothing_is_library}
use Rattle.relayed_rows.proofs.DifferenceFacts.{differences_apply, differences_tell}

-- after the first of some steps the library is one of those that they lead through, and the other steps lead on from it
pub record Reaches (es : List Edit) (libraries : List Library) (bs cs : List (List Edit)) : Type 0 where
  pub passed : List Library
  pub ahead : List Library
  pub are : library es ∷ libraries ≡ passed ++ library (es ++ edits bs) ∷ ahead
  pub left : cs ≡ steps_between (library (es ++ edits bs)) ahead
  pub is : IsLibrary (library (es ++ edits bs))
  pub libraries_ahead : AllByRecursion IsLibrary ahead

-- no step
reaches_here : (es : List Edit) (libraries : List Library) (cs : List (List Edit)) → IsLibrary (library es) → AllByRecursion IsLibrary libraries
    → cs ≡ steps_between (library es) libraries → Reaches es libraries [] cs
reaches_here es libraries cs is all h =
    let same : es ≡ es ++ [] = sym (append-nil es) in
    record {
      passed = [];
      ahead = libraries;
      are = ap (λ (ds : List Edit). library ds ∷ libraries) same;
      left = subst (λ (ds : List Edit). cs ≡ steps_between (library ds) libraries) same h;
      is = subst (λ (ds : List Edit). IsLibrary (library ds)) same is;
      libraries_ahead = all;
    }

-- a library that is equal to the one before it makes no step
reaches_past : (es : List Edit) (now : Library) (later : List Library) (bs cs : List (List Edit)) → library es ≡ now → Reaches es later bs cs → Reaches es (now ∷ later) bs cs
reaches_past es now later bs cs same r = record {
  passed = library es ∷ r.passed;
  ahead = r.ahead;
  are = ap (λ (l : Library). library es ∷ l ∷ later) (sym same) ∙ ap (λ (ls : List Library). library es ∷ ls) r.are;
  left = r.left;
  is = r.is;
  libraries_ahead = r.libraries_ahead;
}

-- one step more
reaches_on : (es b : List Edit) (now : Library) (later : List Library) (bs cs : List (List Edit)) → library (es ++ b) ≡ now → Reaches (es ++ b) later bs cs
    → Reaches es (now ∷ later) (b ∷ bs) cs
reaches_on es b now later bs cs same r =
    let joined : (es ++ b) ++ edits bs ≡ es ++ edits (b ∷ bs) = append_assoc es b (edits bs) in
    record {
      passed = library es ∷ r.passed;
      ahead = r.ahead;
      are =
          ap (λ (l : Library). library es ∷ l ∷ later) (sym same) ∙ ap (λ (ls : List Library). library es ∷ ls) r.are
          ∙ ap (λ (ds : List Edit). library es ∷ (r.passed ++ library ds ∷ r.ahead)) joined;
      left = subst (λ (ds : List Edit). cs ≡ steps_between (library ds) r.ahead) joined r.left;
      is = subst (λ (ds : List Edit). IsLibrary (library ds)) joined r.is;
      libraries_ahead = r.libraries_ahead;
    }

first_batch : (b d : List Edit) (bs ds : List (List Edit)) → b ∷ bs ≡ d ∷ ds → b ≡ d
first_batch b d bs ds h = cc

other_batches : (b d : List Edit) (bs ds : List (List Edit)) → b ∷ bs ≡ d ∷ ds → bs ≡ ds
other_batches b d bs ds h = cc

pub reaches : (es : List Edit) (libraries : List Library) (bs cs : List (List Edit)) → IsLibrary (library es) → AllByRecursion IsLibrary libraries
    → bs ++ cs ≡ steps_between (library es) libraries → Reaches es libraries bs cs
reaches es [] [] cs is all h = reaches_here es [] cs is all h
reaches es [] (b ∷ bs) cs is all h = absurd (cc)
reaches es (now ∷ later) [] cs is all h = reaches_here es (now ∷ later) cs is all h
reaches es (now ∷ later) (b ∷ bs) cs is all h =
    let made : library (es ++ difference (library es) now) ≡ now = differences_apply es now is all.0 in
    elim (difference (library es) now) as (λ d. difference (library es) now ≡ d → b ∷ (bs ++ cs) ≡ with_batch d (steps_between now later) → Reaches es (now ∷ later) (b ∷ bs) cs) [
      | [] ↦ λ none steps.
          let same : library es ≡ now = (differences_tell (library es) now is all.0).0 none in
          reaches_past es now later (b ∷ bs) cs same
          (reaches es later (b ∷ bs) cs is all.1 (steps ∙ ap (λ (l : Library). steps_between l later) (sym same)))
      | d ∷ ds ↦ λ some steps.
          let is_step : difference (library es) now ≡ b = some ∙ sym (first_batch b (d ∷ ds) (bs ++ cs) (steps_between now later) steps) in
          let there : library (es ++ b) ≡ now = ap (λ (e : List Edit). library (es ++ e)) (sym is_step) ∙ made in
          reaches_on es b now later bs cs there
          (reaches (es ++ b) later bs cs (subst IsLibrary (sym there) all.0) all.1
          (other_batches b (d ∷ ds) (bs ++ cs) (steps_between now later) steps ∙ ap (λ (l : Library). steps_between l later) (sym there)))
    ] refl h

pub relays_never_go_back : RelaysNeverGoBack
relays_never_go_back libraries h front middle rest all steps is =
    let split : batches front ++ batches (middle ++ rest) ≡ steps_between [] libraries =
    sym (batches-append front (middle ++ rest)) ∙ sym (ap batches is) ∙ steps in
    let first : Reaches [] libraries (batches front) (batches (middle ++ rest)) =
    reaches [] libraries (batches front) (batches (middle ++ rest)) nothing_is_library all split in
    let second : Reaches (all_edits front) first.ahead (batches middle) (batches rest) =
    reaches (all_edits front) first.ahead (batches middle) (batches rest) first.is first.libraries_ahead (sym (batches-append middle rest) ∙ first.left) in (
      record { passed = first.passed; ahead = first.ahead; are = first.are },
      record {
        passed = second.passed;
        ahead = second.ahead;
        are =
            second.are
            ∙ ap (λ (es : List Edit). second.passed ++ library es ∷ second.ahead) (sym (all_edits-append front middle));
      },
    )
