-- What follows for a run of `relay`: what its players can see, and how it ends.
use Rattle.std.specs.Prelude.{◌≡◌, ◌≢◌, ℕ, List, [], ◌∷◌, ◌++◌}
use Rattle.item_model.specs.declared.changes.Entry.{Entry}
use Rattle.mirror_client.specs.Stages.{listings_in}
use Rattle.share_history.specs.Histories.{all_edits, batches}
use Rattle.share_history.specs.Rows.{library}
use Rattle.command_core.specs.Seen.{NetSeen, OutputSeen}
use Rattle.link_commands.specs.Linked.{start_of}
use Rattle.share_crew.specs.declared.outcome.Outcome.{Outcome}
use Rattle.relayed_rows.specs.Relays.{StandsAt, relay_of, steps_between}
use Rattle.relay_share.specs.Laws.{LeavesSteps}
use Rattle.relay_share.specs.declared.report.RelayEnd.TheVariants.{Done, Stopped}
use Rattle.relay_command.specs.Runs.{HasServed}
use Rattle.relay_command.specs.declared.terms.Relaying.{Relaying}

-- The batches that a run leaves are the steps between the libraries that the relay read on its connection, from the
-- empty one. So at each length of the history that a run leaves, the library is one of these, or the empty one. At a
-- later length it is that one, or one that the relay read later.
abbrev pub RunsShowWhatTheyRead : Type 0
RunsShowWhatTheyRead =
    (relaying : Relaying) (front : List ℕ) (net net' : NetSeen) (output output' : OutputSeen) (left : Outcome) → (r : HasServed relaying front net net' output output' left)
    → (x : LeavesSteps relaying.upstream relaying.rounds (start_of r.relay.link) r.relay.link.taken r.relay.pass) × (batches r.history ≡ steps_between [] (relay_of (listings_in x.stage)))
    × ((first middle rest : List Entry) → r.history ≡ first ++ (middle ++ rest)
    → (s : StandsAt ([] ∷ relay_of (listings_in x.stage)) first) × StandsAt (library (all_edits first) ∷ s.ahead) (first ++ middle))

-- ---- how runs end

-- Nobody stops the share of a relay before the relay does: players cannot
abbrev pub RunsAreNotStopped : Type 0
RunsAreNotStopped =
    (relaying : Relaying) (front : List ℕ) (net net' : NetSeen) (output output' : OutputSeen) (left : Outcome) → (r : HasServed relaying front net net' output output' left)
    → r.relay.report.end ≢ Stopped

-- Status 0 says that all rounds were made
abbrev pub SuccessesMakeAllRounds : Type 0
SuccessesMakeAllRounds =
    (relaying : Relaying) (front : List ℕ) (net net' : NetSeen) (output output' : OutputSeen) (left : Outcome) → (r : HasServed relaying front net net' output output' left)
    → left.status ≡ 0 → r.relay.report.end ≡ Done
