-- What a client is to follow, and a client that followed it for all its rounds.
use Rattle.std.specs.Prelude.{◌≡◌, ℕ, List, length, Option}
use Rattle.outside_net.specs.Bounds.{Links}
use Rattle.share_history.specs.Listings.{Listing}
use Rattle.mirror_core.specs.declared.mirror.Applied.{Applied}
use Rattle.mirror_core.specs.Mirrored.{Mirrored}
use Rattle.mirror_client.specs.declared.refusal.FollowError.{FollowError}
use Rattle.mirror_client.specs.Points.{Point, start_of}
use Rattle.mirror_client.specs.Stages.{Begun, Closed, Stage, StopsFrom, Walks}
use Rattle.mirror_client.specs.Steps.{Known, all_applied, with_listings}

pub record Followed (host : List ℕ) (m : Mirrored) (rounds : ℕ) (p : Point) (taken : Option (List ℕ)) (applied : List Applied) (now : Mirrored) : Type 0 where
  pub known : Known
  pub listings : List Listing
  pub there : Point
  pub walks : Walks host m rounds Begun p (Closed known listings) there
  pub written : there.taken ≡ taken
  pub one_each : length listings ≡ rounds
  pub holds : now ≡ with_listings m listings
  pub told : applied ≡ all_applied m.held listings

-- ---- The same, by what the client is to follow.

-- The host that the client names, the mirror at the start, and the number of rounds.
pub record FollowRun : Type 0 where
  pub host : List ℕ
  pub mirror : Mirrored
  pub rounds : ℕ

abbrev pub follow_run : List ℕ → Mirrored → ℕ → FollowRun
follow_run host mirror rounds = record { host = host; mirror = mirror; rounds = rounds }

-- Exchanges led from one stage to another.
abbrev pub WalksRun : FollowRun → Stage → Point → Stage → Point → Type 0
WalksRun run s p t q = Walks run.host run.mirror run.rounds s p t q

-- Exchanges led from a stage to one whose request failed.
abbrev pub StopsRun : FollowRun → Stage → Point → Option (List ℕ) → FollowError → Mirrored → Type 0
StopsRun run s p taken e now = StopsFrom run.host run.mirror run.rounds s p taken e now

-- On a connection of which nothing was read, the client followed for all rounds, or failed in one of the stages.
abbrev pub CompletesRun : {K : Type 0} → Links K → FollowRun → K → K → List Applied → Mirrored → Type 0
CompletesRun g run old new applied now =
    Followed run.host run.mirror run.rounds (start_of g old) (g.taken new) applied now

abbrev pub BreaksRun : {K : Type 0} → Links K → FollowRun → K → K → FollowError → Mirrored → Type 0
BreaksRun g run old new e now = StopsRun run Begun (start_of g old) (g.taken new) e now
