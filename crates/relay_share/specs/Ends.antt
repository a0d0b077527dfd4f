-- A relay on its connection and at its own share. One list of listings serves both: the relay read them on the
-- connection, and each of them is an edit of its handle at the share.
use Rattle.std.specs.Prelude.{◌≡◌, ◌≢◌, ◌⊎◌, ℕ, List, [], ◌∷◌, ◌++◌, length, Bool, true, false, MatchBool, Option, Some, None, ◌==◌, if◌then◌else◌}
use Rattle.std.specs.List.{AllByRecursion}
use Rattle.outside_net.specs.Counts.{Rose}
use Rattle.share_history.specs.Listings.{Listing}
use Rattle.share_history.specs.Sessions.{is_stopped}
use Rattle.mirror_client.specs.declared.refusal.FollowError.{FollowError}
use Rattle.mirror_client.specs.declared.refusal.FollowError.TheVariants as follow
use Rattle.mirror_client.specs.Points.{Point}
use Rattle.mirror_client.specs.Stages.{Asking, Begun, Closed, Holding, Stage, UnexpectedIn, Walks, due, listings_in}
use Rattle.mirror_client.specs.Steps.{Known, held_after}
use Rattle.mirror_client.specs.Stopping.{Stops}
use Rattle.share_server.specs.declared.report.Served.{Served}
use Rattle.share_server.specs.Passes.{Pass, Serves}
use Rattle.relayed_rows.specs.Libraries.{IsLibrary}
use Rattle.relayed_rows.specs.Relays.{first_unread, nothing_held, relay_of}
use Rattle.relay_share.specs.Asks.{stop_ask}
use Rattle.relay_share.specs.Rounds.{AreRelayed, IsRefused, edits_asked, followed}
use Rattle.relay_share.specs.declared.report.Relayed.{Relayed}
use Rattle.relay_share.specs.declared.report.RelayEnd.{RelayEnd}
use Rattle.relay_share.specs.declared.report.RelayEnd.TheVariants.{Done, Row, Full, Stopped, Peer, Memory}
use Rattle.relay_share.specs.declared.report.RelayReport.{RelayReport}

-- The relay read listings until it came to a stage of its client, and its handle made the edit of each of them. Each
-- of them left a library: items with ids and values that the program allows, each once.
pub record Relays (host : List ℕ) (rounds : ℕ) (p : Point) (stage : Stage) (q : Point) (k k' : Pass) (done : List Relayed) : Type 0 where
  pub walks : Walks host followed rounds Begun p stage q
  pub served : List Served
  pub serves : Serves k k' (edits_asked nothing_held (listings_in stage)) served
  pub relayed : AreRelayed k'.seen nothing_held (listings_in stage) served done
  pub libraries : AllByRecursion IsLibrary (relay_of (listings_in stage))

-- All rounds were done, and the relay logged out.
pub record IsDone (host : List ℕ) (rounds : ℕ) (p : Point) (taken : Option (List ℕ)) (k k' : Pass) (done : List Relayed) : Type 0 where
  pub known : Known
  pub listings : List Listing
  pub there : Point
  pub relays : Relays host rounds p (Closed known listings) there k k' done
  pub all : length listings ≡ rounds
  pub written : there.taken ≡ taken

-- A step of its client failed.
pub record Halts (host : List ℕ) (rounds : ℕ) (p : Point) (taken : Option (List ℕ)) (k k' : Pass) (done : List Relayed) (e : FollowError) : Type 0 where
  pub stage : Stage
  pub there : Point
  pub relays : Relays host rounds p stage there k k' done
  pub request : List ℕ
  pub is_due : due host followed rounds stage ≡ Some request
  pub stops : Stops request (UnexpectedIn followed rounds stage) there taken e

-- One more listing was read, and no edit was requested for it.
pub record Leaves (host : List ℕ) (rounds : ℕ) (p : Point) (taken : Option (List ℕ)) (k k' : Pass) (done : List Relayed) : Type 0 where
  pub known : Known
  pub listings : List Listing
  pub last : Listing
  pub middle : Point
  pub there : Point
  pub relays : Relays host rounds p (Asking known listings) middle k k' done
  pub walks : Walks host followed rounds (Asking known listings) middle (Holding known (listings ++ last ∷ [])) there
  pub written : there.taken ≡ taken

-- One more listing was read, and its edit got another status.
pub record Refuses (host : List ℕ) (rounds : ℕ) (p : Point) (taken : Option (List ℕ)) (k k' : Pass) (done : List Relayed) (status : ℕ) : Type 0 where
  pub reached : Pass
  pub leaves : Leaves host rounds p taken k reached done
  pub refused : IsRefused (held_after nothing_held leaves.listings) leaves.last reached k' status

abbrev pub EndsRelay : List ℕ → ℕ → Point → Option (List ℕ) → Pass → Pass → List Relayed → RelayEnd → Type 0
EndsRelay host rounds p taken k k' done Done = IsDone host rounds p taken k k' done
EndsRelay host rounds p taken k k' done (Row index) = (x : Leaves host rounds p taken k k' done) × (first_unread x.last ≡ Some index)
EndsRelay host rounds p taken k k' done Full = Refuses host rounds p taken k k' done 507
EndsRelay host rounds p taken k k' done Stopped = Refuses host rounds p taken k k' done 503
EndsRelay host rounds p taken k k' done (Peer e) = (e ≢ follow.Memory) × Halts host rounds p taken k k' done e
EndsRelay host rounds p taken k k' done Memory =
    Halts host rounds p taken k k' done follow.Memory ⊎ (Leaves host rounds p taken k k' done ⊎ Refuses host rounds p taken k k' done 500)

-- The relay ended as reported, and then requested a stop: its share is stopped.
pub record HasRelayed (host : List ℕ) (rounds : ℕ) (p : Point) (taken : Option (List ℕ)) (k k' : Pass) (report : RelayReport) : Type 0 where
  pub before_stop : Pass
  pub ends : EndsRelay host rounds p taken k before_stop report.rounds.items report.end
  pub last : Served
  pub stops : Serves before_stop k' (stop_ask ∷ []) (last ∷ [])
  pub latest : last.point ≡ length k'.seen
  pub stopped : is_stopped k'.seen ≡ true

-- ---- How a relay ends.

abbrev pub is_memory : FollowError → Bool
is_memory (follow.Refused status) = false
is_memory (follow.BadReply at) = false
is_memory (follow.Ended at) = false
is_memory (follow.Listing error) = false
is_memory (follow.Codes error) = false
is_memory follow.LinkFault = false
is_memory follow.Memory = true

abbrev pub end_of : FollowError → RelayEnd
end_of e = if is_memory e then Memory else Peer e

abbrev pub ending_of : ℕ → Option RelayEnd
ending_of status =
    if status == 200 then None
    else if status == 204 then None
    else if status == 503 then Some Stopped
    else if status == 507 then Some Full
    else Some Memory

-- The connection's error counter increased exactly if the end reports its error.
abbrev pub is_fault : RelayEnd → Bool
is_fault Done = false
is_fault (Row index) = false
is_fault Full = false
is_fault Stopped = false
is_fault (Peer (follow.Refused status)) = false
is_fault (Peer (follow.BadReply at)) = false
is_fault (Peer (follow.Ended at)) = false
is_fault (Peer (follow.Listing error)) = false
is_fault (Peer (follow.Codes error)) = false
is_fault (Peer follow.LinkFault) = true
is_fault (Peer follow.Memory) = false
is_fault Memory = false

abbrev pub CountsRelay : ℕ → ℕ → RelayEnd → Type 0
CountsRelay before now end = MatchBool (is_fault end) (Rose before now) (now ≡ before)
