-- Laws of all runs of `serve`, `relay` and `follow` that met on a connection.
use Rattle.std.specs.Prelude.{◌≡◌, ◌≤◌, ◌<◌, ℕ, List, ◌∷◌, ◌++◌, Option, Some, IfSome, IsUtf8}
use Rattle.item_model.specs.declared.changes.Entry.{Entry}
use Rattle.item_model.specs.declared.request.Target.{Target}
use Rattle.http_client.specs.Requests.{HasListNumber, IsHost}
use Rattle.share_history.specs.Listings.{Listing}
use Rattle.share_replies.specs.Settings.{Settings}
use Rattle.mirror_core.specs.Mirrored.{Mirrored}
use Rattle.mirror_client.specs.Steps.{with_listings}
use Rattle.share_meetings.specs.Mirrors.{HeldBefore, HoldsTheShare}
use Rattle.share_server.specs.declared.report.LinkReport.{LinkReport}
use Rattle.command_core.specs.Seen.{NetSeen, OutputSeen, Run}
use Rattle.link_commands.specs.FollowShare.{follow_meaning}
use Rattle.link_commands.specs.Meanings.{LinkEnds}
use Rattle.share_crew.specs.declared.outcome.Outcome.{Outcome}
use Rattle.relay_command.specs.declared.terms.Relaying.{Relaying}
use Rattle.relay_command.specs.Runs.{RelayEnds}
use Rattle.relay_command.specs.Terms as relay
use Rattle.serve_command.specs.declared.terms.Serving.{Serving}
use Rattle.serve_command.specs.Runs.{ServeOutcome, ServeEnds}
use Rattle.serve_command.specs.Terms.{settings_of}
use Rattle.share_meetings.specs.Meetings.{IsMade, IsServedOn}
use Rattle.share_meetings.specs.Shares.{IsOfShare}
use Rattle.share_meetings.specs.Shown.{ShowsAsked}

-- A connection that a run of `serve` served is one of a share, with the history that the run left.
abbrev pub ServesAShare : Type 0
ServesAShare =
    (serving : Serving) (told : Run) (left : ServeOutcome) (h : List Entry) (input output : List ℕ)
    → ServeEnds serving told left → left.history ≡ Some h → (on : IsServedOn told.before.around.net told.after.around.net left.links input output)
    → IsOfShare (settings_of serving) h on.report input output

-- So is one that a run of `relay` served.
abbrev pub RelaysAShare : Type 0
RelaysAShare =
    (relaying : Relaying) (net net' : NetSeen) (output_before output_after : OutputSeen) (left : Outcome) (h : List Entry) (input output : List ℕ)
    → RelayEnds relaying net net' output_before output_after left → left.history ≡ Some h → (on : IsServedOn net net' left.links input output)
    → IsOfShare (relay.settings_of relaying) h on.report input output

-- However a run of `follow` over a connection of a share ends, it shows the share.
abbrev pub FollowShowsAnyShare : Type 0
FollowShowsAnyShare =
    (s : Settings) (h : List Entry) (report : LinkReport) (input output : List ℕ)
    (host : List ℕ) (rounds : ℕ) (query meta : Option (List ℕ)) (target : Target) (seen : Run) (status : ℕ) (sent owed lost dropped : List ℕ)
    → IsOfShare s h report input output → LinkEnds (follow_meaning host rounds query meta target) seen status
    → IsMade seen.before.around.net seen.after.around.net sent owed → sent ≡ input ++ lost → output ≡ owed ++ dropped
    → 1 ≤ rounds → IsHost host → HasListNumber target → IfSome query IsUtf8
    → ShowsAsked s.keep report h rounds target query meta seen.output_before seen.output_after status

-- A mirror that applied listings over a connection of a worker held what the share had before each request of a later
-- connection of that worker. So there it gets the changes since then, or all rows.
abbrev pub LaterConnectionsBeginWell : Type 0
LaterConnectionsBeginWell =
    (serving : Serving) (told : Run) (left : ServeOutcome) (h : List Entry) (input output input' output' : List ℕ) (m : Mirrored) (l : Listing) (ls : List Listing)
    → ServeEnds serving told left → left.history ≡ Some h
    → (on : IsServedOn told.before.around.net told.after.around.net left.links input output) → (on' : IsServedOn told.before.around.net told.after.around.net left.links input' output')
    → on'.worker ≡ on.worker → on.number < on'.number
    → HoldsTheShare (settings_of serving) on.report.number h on.report.served m (l ∷ ls) (with_listings m (l ∷ ls))
    → HeldBefore (with_listings m (l ∷ ls)) h on'.report.served
