-- Theorems about the entries of a relay's handle.
use Rattle.std.specs.Prelude.{◌≡◌, ℕ, List, [], ◌∷◌, ◌++◌, length, Bool, true, false, ◌&&◌, ◌==◌, not, map, Option, None, if◌then◌else◌}
use Rattle.std.specs.Io.KnownBytes.{Appends}
use Rattle.std.specs.List.{AllByRecursion, list_any}
use Rattle.item_model.specs.declared.changes.Edit.{Edit}
use Rattle.item_model.specs.declared.changes.Entry.{Entry}
use Rattle.item_model.specs.declared.changes.Entry.TheVariants as entry
use Rattle.item_model.specs.declared.request.Meta.TheVariants.{All}
use Rattle.item_model.specs.declared.request.Target.TheVariants.{Items}
use Rattle.mirror_client.specs.Laws.{AreAnswers, NeverFall, last_point}
use Rattle.mirror_client.specs.Points.{Point}
use Rattle.mirror_client.specs.Stages.{Begun, Stage, Walks, listings_in}
use Rattle.share_history.specs.Histories.{all_edits, batches}
use Rattle.share_history.specs.Listings.{Listing}
use Rattle.share_history.specs.Rows.{library}
use Rattle.share_history.specs.Sessions.{is_stop, is_stopped}
use Rattle.share_history.specs.Whole.{IsWhole}
use Rattle.share_lock.specs.Histories.{entries_of}
use Rattle.share_replies.specs.Laws.{is_edit, maker}
use Rattle.share_server.specs.declared.report.Served.{Served}
use Rattle.share_server.specs.Passes.{Pass, Serves}
use Rattle.relayed_rows.specs.Libraries.{IsLibrary}
use Rattle.relayed_rows.specs.Relays.{StandsAt, relay_of, steps_between}
use Rattle.relay_share.specs.Asks.{stop_ask}
use Rattle.relay_share.specs.Ends.{HasRelayed, Relays}
use Rattle.relay_share.specs.Rounds.{followed}
use Rattle.relay_share.specs.declared.report.Relayed.{Relayed}
use Rattle.relay_share.specs.declared.report.RelayEnd.TheVariants.{Stopped}
use Rattle.relay_share.specs.declared.report.RelayReport.{RelayReport}

abbrev pub edits_by : ℕ → List (List Edit) → List Entry
edits_by number batches = map (λ batch. entry.Edits number batch) batches

-- The entries of a relay's handle are those before, and one for each two successive libraries that differ: from the
-- empty one through those that the listings left.
abbrev pub RelaysMakeSteps : Type 0
RelaysMakeSteps =
    (host : List ℕ) (rounds : ℕ) (p : Point) (stage : Stage) (q : Point) (k k' : Pass) (done : List Relayed) → Relays host rounds p stage q k k' done
    → entries_of maker k.number k'.seen ≡ entries_of maker k.number k.seen ++ edits_by k.number (steps_between [] (relay_of (listings_in stage)))

-- A stop that another handle made.
abbrev pub is_stop_beside : ℕ → Entry → Bool
is_stop_beside number e = is_stop e && not (maker e == number)

abbrev pub stop_behind : ℕ → List Entry → List Entry
stop_behind number h = if list_any (is_stop_beside number) h then [] else entry.Stop number ∷ []

-- A handle that had made no stop requests one: its entries are the earlier ones and then a stop. The stop is missing
-- if the handle has seen one that another handle made.
abbrev pub StopsComeLast : Type 0
StopsComeLast =
    (k k' : Pass) (s : Served) → is_stopped (entries_of maker k.number k.seen) ≡ false → Serves k k' (stop_ask ∷ []) (s ∷ [])
    → s.point ≡ length k'.seen → is_stopped k'.seen ≡ true
    → entries_of maker k.number k'.seen ≡ entries_of maker k.number k.seen ++ stop_behind k.number k'.seen

-- What a relay leaves. Its entries are the steps between the libraries of the listings that it read, from the empty
-- one, and then the stop. Its connection has the requests of these listings, and at most a part of further ones.
pub record LeavesSteps (host : List ℕ) (rounds : ℕ) (p : Point) (taken : Option (List ℕ)) (k : Pass) : Type 0 where
  pub stage : Stage
  pub there : Point
  pub walks : Walks host followed rounds Begun p stage there
  pub part : List ℕ
  pub written : Appends there.taken taken part
  pub libraries : AllByRecursion IsLibrary (relay_of (listings_in stage))
  pub entries : entries_of maker k.number k.seen ≡ edits_by k.number (steps_between [] (relay_of (listings_in stage))) ++ stop_behind k.number k.seen

-- The same of a handle that had seen nothing before, however the relay ended.
abbrev pub RelaysLeaveSteps : Type 0
RelaysLeaveSteps =
    (host : List ℕ) (rounds : ℕ) (p : Point) (taken : Option (List ℕ)) (k k' : Pass) (report : RelayReport) → k.seen ≡ []
    → HasRelayed host rounds p taken k k' report → LeavesSteps host rounds p taken k'

-- A relay that ended `Stopped` saw a stop that another handle made.
abbrev pub StoppedRelaysSawAStop : Type 0
StoppedRelaysSawAStop =
    (host : List ℕ) (rounds : ℕ) (p : Point) (taken : Option (List ℕ)) (k k' : Pass) (report : RelayReport) → k.seen ≡ []
    → HasRelayed host rounds p taken k k' report → report.end ≡ Stopped → list_any (is_stop_beside k'.number) k'.seen ≡ true

-- Only the handle with this number made edits.
abbrev pub EditsAlone : ℕ → List Entry → Type 0
EditsAlone number h = AllByRecursion (λ e. is_edit e ≡ true → maker e ≡ number) h

-- If only a relay edits its share, the batches of the share are the steps between the libraries that the relay read,
-- from the empty one.
abbrev pub SharesMakeSteps : Type 0
SharesMakeSteps =
    (host : List ℕ) (rounds : ℕ) (p : Point) (taken : Option (List ℕ)) (k : Pass) (h : List Entry) → (r : LeavesSteps host rounds p taken k)
    → entries_of maker k.number h ≡ entries_of maker k.number k.seen → EditsAlone k.number h → batches h ≡ steps_between [] (relay_of (listings_in r.stage))

-- If only a relay edits its share, the share's library is at each length of its history one that the relay read, or
-- the empty one. At a later length it is that one, or one that the relay read later.
abbrev pub RelaysShowWhatTheyRead : Type 0
RelaysShowWhatTheyRead =
    (host : List ℕ) (rounds : ℕ) (p : Point) (taken : Option (List ℕ)) (k : Pass) (h front middle rest : List Entry) → (r : LeavesSteps host rounds p taken k)
    → entries_of maker k.number h ≡ entries_of maker k.number k.seen → EditsAlone k.number h → h ≡ front ++ (middle ++ rest)
    → (s : StandsAt ([] ∷ relay_of (listings_in r.stage)) front) × StandsAt (library (all_edits front) ∷ s.ahead) (front ++ middle)

-- If a share answered the listings of a relay, at lengths of its one history that never decrease, the relay read the
-- libraries that the share had.
abbrev pub LibrariesAreTheShares : Type 0
LibrariesAreTheShares =
    (keep : ℕ) (point : List Entry) (points : List (List Entry)) (listings : List Listing) → IsWhole (last_point point points) → NeverFall point points
    → AreAnswers keep Items None All 0 (point ∷ points) listings → relay_of listings ≡ map (λ h. library (all_edits h)) (point ∷ points)
