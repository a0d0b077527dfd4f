-- What the stores of a share represent before and after each call.
use Rattle.std.proofs.Common.{◌≡◌, ◌≤◌, ◌+◌, ℕ, true, false, List, [], ◌∷◌, ◌++◌, length, map, Option, Some, None, refl, sym, ap, ◌∙◌, subst, arith}
use Rattle.std.specs.List.{AllByRecursion, list_any}
use Rattle.std.specs.BTreeMap.{is_at}
use Rattle.std.specs.Option.{option_map, option_and_then}
use Rattle.std.specs.Ordering.{nat_cmp}
use Rattle.item_model.specs.declared.item.Row.{Row}
use Rattle.item_model.specs.declared.query.Query.{Query}
use Rattle.item_model.specs.declared.changes.Edit.{Edit}
use Rattle.item_model.specs.declared.changes.Entry.{Entry}
use Rattle.item_model.specs.declared.request.Target.TheVariants.{Items}
use Rattle.share_history.specs.Histories.{batches, edits, all_edits, revision}
use Rattle.share_history.specs.Keyed.{IsAscending, ascending}
use Rattle.share_history.specs.LastSaid.{item_at}
use Rattle.share_history.specs.Rows.{library, row_at, if_selected}
use Rattle.share_history.proofs.EditFacts.{edits_more}
use Rattle.share_history.proofs.RowFacts.{ascending-library}
use Rattle.item_store.specs.Stands as item_store
use Rattle.item_store.specs.Store.{Store}
use Rattle.item_store.proofs.StandFacts.{newest_now}
use Rattle.prop_index.specs.declared.changes.Change.{Change}
use Rattle.prop_index.specs.declared.index.PropIndex.{PropIndex}
use Rattle.prop_index.specs.Index as prop_index
use Rattle.prop_index.specs.Library.{after_all, FitInTurn}
use Rattle.share_listings.specs.Answers.{AreCandidates, StartFrom}
use Rattle.share_core.specs.declared.stores.Stores.{Stores}
use Rattle.share_core.specs.Short.{HasShortTexts}
use Rattle.share_core.specs.Turned.{change_to, IsShortChange}
use Rattle.share_core.specs.Held.{StandFor}
use Rattle.share_core.specs.Followed.{IsAsBefore, CanFollow}
use Rattle.share_core.proofs.Turning.{rows_of, changes_of, leads, short_after}

-- ---- the index follows

-- what the index does with changes
abbrev pub TakesIn : List Change → PropIndex → PropIndex → Type 0
TakesIn changes old new =
    (rows : List (ℕ × Row)) → IsAscending rows → FitInTurn rows changes → prop_index.StandsFor rows old → prop_index.StandsFor (after_all rows changes) new

pub index_follows : (bs : List (List Edit)) (batch : List Edit) (changes : List Change) (old new : PropIndex)
    → changes ≡ changes_of (edits bs) (edits (bs ++ batch ∷ [])) (ascending (item_store.named_items batch)) → TakesIn changes old new
    → prop_index.StandsFor (library (edits bs)) old → prop_index.StandsFor (library (edits (bs ++ batch ∷ []))) new
index_follows bs batch changes old new are taken stands =
    let on = leads (edits bs) (edits (bs ++ batch ∷ [])) batch (edits_more bs batch) in
    subst (λ rows. prop_index.StandsFor rows new) (ap (after_all (library (edits bs))) are ∙ on.reached)
    (taken (library (edits bs)) (ascending-library (edits bs)) (subst (FitInTurn (library (edits bs))) (sym are) on.fit) stands)

pub short_follows : (bs : List (List Edit)) (batch : List Edit) (changes : List Change)
    → changes ≡ changes_of (edits bs) (edits (bs ++ batch ∷ [])) (ascending (item_store.named_items batch)) → AllByRecursion IsShortChange changes
    → ((id : ℕ) (row : Row) → item_at (edits bs) id ≡ Some row → HasShortTexts row)
    → (id : ℕ) (row : Row) → item_at (edits (bs ++ batch ∷ [])) id ≡ Some row → HasShortTexts row
short_follows bs batch changes are all before =
    short_after (edits bs) (edits (bs ++ batch ∷ [])) batch (edits_more bs batch) (subst (AllByRecursion IsShortChange) are all) before

-- ---- ids to start from

-- a store has one item under each id, whatever batches it represents
same_item : (bs cs : List (List Edit)) (s : Store) → item_store.StandsFor bs s → item_store.StandsFor cs s → (id : ℕ) → item_at (edits bs) id ≡ item_at (edits cs) id
same_item bs cs s at_bs at_cs id = sym (newest_now at_bs id) ∙ newest_now at_cs id

pub start_same : (bs cs : List (List Edit)) (s : Store) (q : Option Query) (ids : Option (List ℕ)) → item_store.StandsFor bs s → item_store.StandsFor cs s
    → StartFrom (edits bs) q ids → StartFrom (edits cs) q ids
start_same bs cs s q None at_bs at_cs start = start
start_same bs cs s q (Some ids) at_bs at_cs start = record {
  ascending = start.ascending;
  others = λ id gone. ap (option_and_then (if_selected q)) (sym (same_item bs cs s at_bs at_cs id)) ∙ start.others id gone;
}
