-- What is written after the last round, or after the rounds ended early.
use Rattle.std.specs.Prelude.{◌≡◌, ◌⊎◌, ℕ, List, None}
use Rattle.dmap_tags.specs.Tree.{Tree}
use Rattle.command_core.specs.declared.outcome.Outcome.{Outcome}
use Rattle.command_core.specs.Answers.{WritesDone, WritesError, WritesMemory}
use Rattle.command_core.specs.Seen.{OutputSeen}
use Rattle.link_commands.specs.declared.rounds.Stop.{Stop}
use Rattle.link_commands.specs.declared.rounds.Stop.TheVariants.{Output, Link}
use Rattle.link_commands.specs.FollowShare.{follow_line, follow_status, link_fault}
use Rattle.link_commands.specs.RoundLines.{shown_rows}

-- the rows, or the line of out of memory
abbrev pub WritesRows : List (ℕ × Tree) → OutputSeen → OutputSeen → Outcome → Type 0
WritesRows rows before after outcome = WritesDone None (shown_rows rows) before after outcome ⊎ WritesMemory None before after outcome

-- nothing is written to an output that failed
pub record WritesNothing (before after : OutputSeen) (outcome : Outcome) : Type 0 where
  pub unopened : outcome.history ≡ None
  pub status : outcome.status ≡ 5
  pub untold : after ≡ before

abbrev pub WritesStop : Stop → OutputSeen → OutputSeen → Outcome → Type 0
WritesStop Output before after outcome = WritesNothing before after outcome
WritesStop (Link e) before after outcome = WritesError follow_line follow_status (link_fault e) before after outcome
