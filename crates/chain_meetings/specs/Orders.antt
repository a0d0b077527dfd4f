-- A share whose players see only what another share had, and see it in order.
use Rattle.std.specs.Prelude.{◌≡◌, List, [], map}
use Rattle.std.specs.List.{AllByRecursion}
use Rattle.item_model.specs.declared.changes.Entry.{Entry}
use Rattle.share_history.specs.Histories.{all_edits, batches}
use Rattle.share_history.specs.Rows.{library}
use Rattle.share_meetings.specs.ServedRuns.{Rise}
use Rattle.relayed_rows.specs.Libraries.{IsLibrary, Library}
use Rattle.relayed_rows.specs.Relays.{steps_between}

-- the items of a share after this history
abbrev pub library_at : List Entry → Library
library_at h = library (all_edits h)

-- For any lengths of the history `down` at which players look, in order, the history `up` has lengths, in order, with
-- the same libraries.
abbrev pub ShowsInOrder : (up down : List Entry) → Type 0
ShowsInOrder up down =
    (looks : List (List Entry)) → Rise looks down → (points : List (List Entry)) × Rise points up × (map library_at looks ≡ map library_at points)

-- The batches of the history `down` are the steps between libraries that the history `up` has at some lengths, in
-- order, and the first step is from the empty library.
pub record StepsThrough (up down : List Entry) : Type 0 where
  pub points : List (List Entry)
  pub rise : Rise points up
  pub libraries : AllByRecursion IsLibrary (map library_at points)
  pub steps : batches down ≡ steps_between [] (map library_at points)
