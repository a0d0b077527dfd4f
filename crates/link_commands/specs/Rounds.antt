-- Rounds of a client that follows, with a line on the output after each: how they end early.
use Rattle.std.specs.Prelude.{◌≡◌, ◌≢◌, ◌≤◌, ◌++◌, ◌∷◌, [], ℕ, List, length, Option}
use Rattle.share_history.specs.Listings.{Listing}
use Rattle.mirror_core.specs.declared.mirror.Applied.{Applied}
use Rattle.mirror_core.specs.Mirrored.{Mirrored}
use Rattle.command_core.specs.Endings.{IsCut, IsWritten}
use Rattle.command_core.specs.Seen.{OutputSeen}
use Rattle.mirror_client.specs.declared.refusal.FollowError.{FollowError}
use Rattle.mirror_client.specs.declared.refusal.FollowError.TheVariants.{Memory}
use Rattle.mirror_client.specs.Points.{Point}
use Rattle.mirror_client.specs.Stages.{Holding, Stage, StopsFrom, Walks, listings_in}
use Rattle.mirror_client.specs.Steps.{Known, all_applied, with_listings}
use Rattle.mirror_client.specs.Stopping.{CountsFault}
use Rattle.link_commands.specs.declared.rounds.Stop.{Stop}
use Rattle.link_commands.specs.declared.rounds.Stop.TheVariants.{Output, Link}
use Rattle.link_commands.specs.FollowShare.{HasRounds, StopsBehind}
use Rattle.link_commands.specs.Linked.{LinkSeen}
use Rattle.link_commands.specs.Meanings.{IsCutBehind}
use Rattle.link_commands.specs.RoundLines.{round_line}

-- one more round was made from stage `s`, and its line was written
pub record WritesRound (host : List ℕ) (known : Known) (m now : Mirrored) (rounds : ℕ) (ls : List Listing) (s : Stage) (p q : Point) (before after : OutputSeen) : Type 0 where
  pub listing : Listing
  pub done : Applied
  pub holds : now ≡ with_listings m (ls ++ listing ∷ [])
  pub told : all_applied m.held ls ++ done ∷ [] ≡ all_applied m.held (ls ++ listing ∷ [])
  pub walks : Walks host m rounds s p (Holding known (ls ++ listing ∷ [])) q
  pub line : IsWritten before after (round_line done)

-- the output failed in its line
pub record CutsRound (host : List ℕ) (known : Known) (m : Mirrored) (rounds : ℕ) (ls : List Listing) (s : Stage) (p : Point) (taken : Option (List ℕ)) (before after : OutputSeen) : Type 0 where
  pub listing : Listing
  pub done : Applied
  pub there : Point
  pub told : all_applied m.held ls ++ done ∷ [] ≡ all_applied m.held (ls ++ listing ∷ [])
  pub walks : Walks host m rounds s p (Holding known (ls ++ listing ∷ [])) there
  pub written : there.taken ≡ taken
  pub line : IsCut before after (round_line done)

-- these listings, and perhaps one more if an allocation failed
pub record AreAtMost (e : FollowError) (listings ls : List Listing) : Type 0 where
  pub others : List Listing
  pub split : listings ≡ ls ++ others
  pub only : e ≢ Memory → others ≡ []
  pub few : length others ≤ 1

-- the exchange ended early, and nothing was written
pub record StopsRound (host : List ℕ) (m now : Mirrored) (rounds : ℕ) (ls : List Listing) (s : Stage) (p : Point) (taken : Option (List ℕ)) (e : FollowError) (before after : OutputSeen) : Type 0 where
  pub stops : StopsFrom host m rounds s p taken e now
  pub behind : AreAtMost e (listings_in stops.stage) ls
  pub untold : after ≡ before

abbrev pub EndsRound : (host : List ℕ) (known : Known) (m now : Mirrored) (rounds : ℕ) (ls : List Listing) (s : Stage) (p : Point) (taken : Option (List ℕ)) (before after : OutputSeen)
    → Stop → Type 0
EndsRound host known m now rounds ls s p taken before after Output = CutsRound host known m rounds ls s p taken before after
EndsRound host known m now rounds ls s p taken before after (Link e) = StopsRound host m now rounds ls s p taken e before after

-- the connection's error counter
abbrev pub CountsStop : ℕ → ℕ → Stop → Type 0
CountsStop before now Output = now ≡ before
CountsStop before now (Link e) = CountsFault before now e

-- ---- a line, and all rounds

abbrev pub EndsLine : Applied → (before after : OutputSeen) → Stop → Type 0
EndsLine done before after Output = IsCut before after (round_line done)
EndsLine done before after (Link e) = (e ≡ Memory) × (after ≡ before)

-- the output failed in the line of a round, after the lines before it
pub record CutsRounds (host : List ℕ) (m : Mirrored) (rounds : ℕ) (link : LinkSeen) (before after : OutputSeen) : Type 0 where
  pub front : List ℕ
  pub line : List ℕ
  pub has : HasRounds host m rounds link front line
  pub faultless : link.faults ≡ 0
  pub cut : IsCutBehind before after front line

-- the exchange ended early, after these lines
pub record StopsRounds (host : List ℕ) (m : Mirrored) (rounds : ℕ) (link : LinkSeen) (e : FollowError) (before after : OutputSeen) : Type 0 where
  pub lines : List ℕ
  pub stops : StopsBehind host m rounds link e lines
  pub written : IsWritten before after lines

abbrev pub EndsRounds : (host : List ℕ) (m : Mirrored) (rounds : ℕ) (link : LinkSeen) (before after : OutputSeen) → Stop → Type 0
EndsRounds host m rounds link before after Output = CutsRounds host m rounds link before after
EndsRounds host m rounds link before after (Link e) = StopsRounds host m rounds link e before after
