-- When a relay that reads a share goes on, and when a run of `relay` succeeds.
use Rattle.std.specs.Prelude.{◌≡◌, ◌⊎◌, ⊤, ℕ, List, ◌∷◌, length, map, true, Option, Some, None}
use Rattle.outside_net.specs.Counts.{Rose}
use Rattle.item_model.specs.declared.changes.Entry.{Entry}
use Rattle.item_model.specs.declared.request.Meta.TheVariants.{All}
use Rattle.item_model.specs.declared.request.Target.TheVariants.{Items}
use Rattle.mirror_client.specs.declared.refusal.FollowError.TheVariants.{LinkFault}
use Rattle.mirror_client.specs.Points.{Point}
use Rattle.share_history.specs.Whole.{IsWhole}
use Rattle.share_replies.specs.Settings.{Settings}
use Rattle.share_server.specs.Passes.{Pass}
use Rattle.share_workers.specs.declared.worker.WorkerEnd.TheVariants.{Spent}
use Rattle.share_meetings.specs.ServedRuns.{ServesRun}
use Rattle.command_core.specs.Seen.{NetSeen, OutputSeen}
use Rattle.share_crew.specs.declared.outcome.Outcome.{Outcome}
use Rattle.share_crew.specs.Verdicts.{has_end}
use Rattle.relay_share.specs.Ends.{HasRelayed}
use Rattle.relay_share.specs.declared.report.RelayEnd.{RelayEnd}
use Rattle.relay_share.specs.declared.report.RelayEnd.TheVariants.{Done, Row, Full, Stopped, Peer, Memory}
use Rattle.relay_share.specs.declared.report.RelayReport.{RelayReport}
use Rattle.relay_command.specs.Lines.{relaying_line}
use Rattle.relay_command.specs.Runs.{HasServed, RelayEnds}
use Rattle.relay_command.specs.declared.terms.Relaying.{Relaying}

-- ---- what a share sends

-- The bytes are all responses of a share to a client that follows its items, with all their properties, for exactly this number of rounds. The
-- share answered at lengths of one history that never decrease
pub record ServesRelay (s : Settings) (h : List Entry) (rounds : ℕ) (bytes : List ℕ) : Type 0 where
  pub whole : IsWhole h
  pub run : ServesRun s Items None All h bytes
  pub rounds_are : length (run.first ∷ run.others) ≡ rounds

-- how a relay may end whose connection has such bytes
abbrev pub MayEnd : RelayEnd → Type 0
MayEnd Done = ⊤
MayEnd (Row index) = ⊥
MayEnd Full = ⊤
MayEnd Stopped = ⊤
MayEnd (Peer error) = error ≡ LinkFault
MayEnd Memory = ⊤

-- No response of a share ends a relay early: each row is read, and each response is the expected one
abbrev pub ServedRelaysGoOn : Type 0
ServedRelaysGoOn =
    (host : List ℕ) (rounds : ℕ) (p : Point) (taken : Option (List ℕ)) (k k' : Pass) (report : RelayReport) (s : Settings) (h : List Entry) (bytes : List ℕ)
    → HasRelayed host rounds p taken k k' report → p.owed ≡ Some bytes → ServesRelay s h rounds bytes → MayEnd report.end

-- the relay's share had no capacity for a listing, or a worker served as much as it may
abbrev pub MeetsLimit : {relaying : Relaying} {front : List ℕ} {net net' : NetSeen} {output output' : OutputSeen} {left : Outcome}
    → HasServed relaying front net net' output output' left → Type 0
MeetsLimit r = (r.relay.report.end ≡ Full) ⊎ (has_end Spent (map (λ worker_run. worker_run.end) r.crew) ≡ true)

-- If the relay's connection has such bytes, and neither error counter increased, then the run succeeds, unless an allocation failed or a
-- limit was met
abbrev pub ServedRunsSucceed : Type 0
ServedRunsSucceed =
    (relaying : Relaying) (front : List ℕ) (net net' : NetSeen) (output output' : OutputSeen) (left : Outcome) (s : Settings) (h : List Entry) (bytes : List ℕ)
    → (r : HasServed relaying front net net' output output' left) → r.relay.link.left ≡ Some bytes → ServesRelay s h relaying.rounds bytes
    → ¬ (Rose net.faults net'.faults) → ¬ (Rose output.faults output'.faults)
    → (left.status ≡ 0) ⊎ ((left.status ≡ 9) ⊎ ((left.status ≡ 8) × MeetsLimit r))

-- so does each run of `relay`, if the connection that the network makes next has such bytes
abbrev pub RunsSucceed : Type 0
RunsSucceed =
    (relaying : Relaying) (net net' : NetSeen) (output output' : OutputSeen) (left : Outcome) (s : Settings) (h : List Entry) (bytes : List ℕ)
    → RelayEnds relaying net net' output output' left → net.next_input ≡ Some bytes → ServesRelay s h relaying.rounds bytes
    → ¬ (Rose net.faults net'.faults) → ¬ (Rose output.faults output'.faults)
    → (left.status ≡ 0)
    ⊎ ((left.status ≡ 9) ⊎ ((left.status ≡ 8) × ((r : HasServed relaying (relaying_line relaying.name) net net' output output' left) × MeetsLimit r)))
