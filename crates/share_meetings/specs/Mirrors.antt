-- What a mirror holds that follows a listing of a share.
use Rattle.std.specs.Prelude.{◌≡◌, ◌≤◌, ◌<◌, ◌⊎◌, ⊤, ℕ, ◌+◌, List, [], ◌∷◌, ◌++◌, length, true, Some}
use Rattle.std.specs.List.{slice_get}
use Rattle.item_model.specs.declared.changes.Entry.{Entry}
use Rattle.item_model.specs.declared.changes.Entry.TheVariants.{Login}
use Rattle.share_asks.specs.Valid.{MayAsk}
use Rattle.share_history.specs.Histories.{batches, revision}
use Rattle.share_history.specs.Listings.{Listing}
use Rattle.share_history.specs.Mirror.{mirrored}
use Rattle.share_replies.specs.Settings.{Settings}
use Rattle.share_server.specs.declared.report.Served.{Served}
use Rattle.share_server.specs.Passes.{Rises}
use Rattle.share_server.specs.Served.{at_point}
use Rattle.http_client.specs.Requests.{HasListNumber, IsHost, IsNamed, IsWithinLimits}
use Rattle.http_client.specs.Targets.{IsText}
use Rattle.mirror_core.specs.Mirrored.{Mirrored}
use Rattle.mirror_client.specs.Laws.{AreAnswers, last_point}
use Rattle.share_meetings.specs.ServedRuns.{Rise}
use Rattle.share_meetings.specs.Links.{IsReport}

-- A server reads the requests of this mirror to this host as they were meant.
pub record CanBeAsked (host : List ℕ) (m : Mirrored) : Type 0 where
  pub host_is : IsHost host
  pub list : HasListNumber m.target
  pub proper : MayAsk m.query
  pub text : IsText m.query
  pub short : IsWithinLimits m.query
  pub named : IsNamed m.meta

-- ---- before the first listing

-- The mirror held what the share had at a length of its history, and no request was served at a lower one.
pub record HeldBefore (m : Mirrored) (h : List Entry) (served : List Served) : Type 0 where
  pub front : List Entry
  pub later : List Entry
  pub begins : h ≡ front ++ later
  pub holds : m.held ≡ mirrored (batches front) m.target m.query m.meta
  pub since : Rises (length front) served (length h)

-- The mirror is new, or held what the share had before.
abbrev pub BeganWell : Mirrored → List Entry → List Served → Type 0
BeganWell m h served = (m.held.revision ≡ 0) ⊎ HeldBefore m h served

-- ---- after the last

-- All rows that the mirror selects, as they were at the last of these histories; without any, what it held before.
abbrev pub HoldsLast : Mirrored → List (List Entry) → Mirrored → Type 0
HoldsLast m [] now = now.held ≡ m.held
HoldsLast m (point ∷ points) now = now.held ≡ mirrored (batches (last_point point points)) m.target m.query m.meta

-- Each is at a higher revision than the one before.
abbrev pub AreNew : List (List Entry) → Type 0
AreNew [] = ⊤
AreNew (p ∷ []) = ⊤
AreNew (p ∷ q ∷ points) = (revision (batches p) < revision (batches q)) × AreNew (q ∷ points)

-- The history begins with the login that one of these requests added.
pub record IsBehindLogin (by : ℕ) (h : List Entry) (served : List Served) (point : List Entry) : Type 0 where
  pub login : Served
  pub is_report : IsReport login served
  pub within : login.point ≤ length h
  pub added : login.added ≡ true
  pub session : ℕ
  pub before : List Entry
  pub entered : at_point h login ≡ before ++ Login by session ∷ []
  pub since : List Entry
  pub begins : point ≡ at_point h login ++ since

-- The first one does, and so each one does, as they rise.
abbrev pub AreBehindLogin : ℕ → List Entry → List Served → List (List Entry) → Type 0
AreBehindLogin by h served [] = ⊤
AreBehindLogin by h served (point ∷ points) = IsBehindLogin by h served point

-- The answer to this request of the connection, counted from 0, was the listing at this history.
pub record IsListed (h : List Entry) (served : List Served) (number : ℕ) (point : List Entry) : Type 0 where
  pub one : Served
  pub is_there : slice_get served number ≡ Some one
  pub within : one.point ≤ length h
  pub point_is : point ≡ at_point h one

-- A listing, and then always a request in between and a listing again.
abbrev pub AreListed : List Entry → List Served → (number : ℕ) → List (List Entry) → Type 0
AreListed h served number [] = ⊤
AreListed h served number (point ∷ points) = IsListed h served number point × AreListed h served (number + 2) points

-- Each listing that the mirror applied is the share's at a length of its history, that of the answer to its request: the
-- third of the connection, after those for the table and the login, and then, after an update each, every second one. The
-- first is at or after the login of the connection, and each other one at a higher revision than the one before. It is the delta since the revision that
-- the mirror held exactly if that is inside the delta window, and otherwise all rows. So the mirror holds what the share
-- had at the last of these lengths.
pub record HoldsTheShare (s : Settings) (by : ℕ) (h : List Entry) (served : List Served) (m : Mirrored) (listings : List Listing) (now : Mirrored) : Type 0 where
  pub points : List (List Entry)
  pub rise : Rise points h
  pub listed : AreListed h served 2 points
  pub behind : AreBehindLogin by h served points
  pub new : AreNew points
  pub answers : AreAnswers s.keep m.target m.query m.meta m.held.revision points listings
  pub holds : HoldsLast m points now
