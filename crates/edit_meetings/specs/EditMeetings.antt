-- Laws of all runs of `edit` over a connection of a share.
use Rattle.std.specs.Prelude.{◌≡◌, ◌≤◌, ℕ, List, [], ◌∷◌, ◌++◌, Bool, false}
use Rattle.item_model.specs.declared.changes.Edit.{Edit}
use Rattle.item_model.specs.declared.changes.Entry.{Entry}
use Rattle.http_client.specs.Requests.{IsHost}
use Rattle.share_history.specs.Histories.{batches, revision, up_to}
use Rattle.share_replies.specs.Settings.{Settings}
use Rattle.share_server.specs.declared.report.LinkReport.{LinkReport}
use Rattle.command_core.specs.Seen.{Run}
use Rattle.link_commands.specs.EditShare.{edit_meaning}
use Rattle.link_commands.specs.Meanings.{LinkEnds}
use Rattle.share_meetings.specs.Meetings.{IsMade}
use Rattle.share_meetings.specs.Shares.{IsOfShare}
use Rattle.edit_meetings.specs.Kept.{Acknowledges, IsAllOrNothing, IsKeptAt, TellsOf}

-- If `edit` succeeded over a connection of a share, then the share's history has the batch of its input, at the
-- revision that it wrote, or the input has no edits.
abbrev pub EditMeetsTheShare : Type 0
EditMeetsTheShare =
    (s : Settings) (h : List Entry) (report : LinkReport) (input output : List ℕ) (host : List ℕ) (seen : Run) (status : ℕ) (sent owed lost dropped : List ℕ)
    → IsOfShare s h report input output → LinkEnds (edit_meaning host false) seen status → status ≡ 0
    → IsMade seen.before.around.net seen.after.around.net sent owed → sent ≡ input ++ lost → output ≡ owed ++ dropped
    → IsHost host → Acknowledges report h seen

-- However a run of `edit` over a connection of a share ends: what it wrote of the share is true.
abbrev pub EditTellsOfTheShare : Type 0
EditTellsOfTheShare =
    (s : Settings) (h : List Entry) (report : LinkReport) (input output : List ℕ) (host : List ℕ) (stop : Bool) (seen : Run) (status : ℕ) (sent owed lost dropped : List ℕ)
    → IsOfShare s h report input output → LinkEnds (edit_meaning host stop) seen status
    → IsMade seen.before.around.net seen.after.around.net sent owed → sent ≡ input ++ lost → output ≡ owed ++ dropped
    → IsHost host → TellsOf stop report h seen status

-- However it ends, also if the connection broke or an allocation failed: the answers on the connection added all of the
-- input's edits, in one batch, or none.
abbrev pub EditsAreAllOrNothing : Type 0
EditsAreAllOrNothing =
    (s : Settings) (h : List Entry) (report : LinkReport) (input output : List ℕ) (host : List ℕ) (stop : Bool) (seen : Run) (status : ℕ) (sent owed lost : List ℕ)
    → IsOfShare s h report input output → LinkEnds (edit_meaning host stop) seen status
    → IsMade seen.before.around.net seen.after.around.net sent owed → sent ≡ input ++ lost
    → IsHost host → IsAllOrNothing stop report h seen

-- A batch that was kept is among those of its revision and of each later one, at its place.
abbrev pub KeptEditsStay : Type 0
KeptEditsStay =
    (report : LinkReport) (h : List Entry) (bytes : List ℕ) (n v : ℕ) → (kept : IsKeptAt report h bytes n) → n ≤ v
    → (front rest : List (List Edit)) × (up_to (batches h) v ≡ front ++ kept.batch ∷ rest) × (n ≡ revision (front ++ kept.batch ∷ []))
