-- What a command's specification has to meet, so that its runs end as it says.
use Rattle.std.proofs.Common.{◌≡◌, ℕ, List, [], Some, None}
use Rattle.command_core.specs.declared.fault.Fault.{Fault}
use Rattle.command_core.specs.declared.fault.Fault.TheVariants.{Memory}
use Rattle.command_core.specs.declared.outcome.Outcome.{Outcome}
use Rattle.command_core.specs.Seen.{Seen, ShareSeen, Run, no_share}
use Rattle.command_core.specs.Answers.{WritesMemory}
use Rattle.command_core.specs.Causes.{HasCause}
use Rattle.command_core.specs.Meanings.{Meaning, IsCause}

pub record IsSensible (m : Meaning) : Type 0 where
  -- an allocation may fail in place of any error, with the same prefix written and the same share left
  pub wants : (before after : Seen) (fault : Fault m.fault) → IsCause m before after fault → m.may_want before after
  pub wants_front : (before after : Seen) (fault : Fault m.fault) (front : List ℕ) → m.is_front before after fault front → m.is_front before after Memory front
  pub wants_share : (before after : Seen) (fault : Fault m.fault) (share : ShareSeen) → m.leaves before after fault share → m.leaves before after Memory share
  -- .. and before anything was done
  pub idle : (seen : Seen) → m.may_want seen seen
  pub idle_front : (seen : Seen) → m.is_front seen seen Memory []
  pub idle_share : (seen : Seen) → m.leaves seen seen Memory no_share
  pub idle_always : (told : Run) (outcome : Outcome) → told.after ≡ told.before → WritesMemory None told.output_before told.output_after outcome → m.always told outcome
  -- two errors that arguments and input say have one status, and the command does not succeed if they say one
  pub one_status : (input : List ℕ) (one other : m.fault) → HasCause (m.cause one) input → HasCause (m.cause other) input → m.status one ≡ m.status other
  pub not_both : (input : List ℕ) (own : m.fault) → HasCause (m.cause own) input → m.gives input → ⊥
  -- if it succeeds, arguments and input are such that it does
  pub given : (input : List ℕ) (before after : Seen) (share : ShareSeen) (output : List ℕ) → before.input.left ≡ Some input
      → m.is_done before after share output → m.gives input

-- .. of a command that writes once, at its end, whose own errors leave no share, and of whose runs nothing more is said
pub record WritesOnce (m : Meaning) : Type 0 where
  pub sensible : IsSensible m
  pub begun : (before after : Seen) (share : ShareSeen) (output : List ℕ) → m.is_done before after share output → m.is_begun before after share output
  pub front : (before after : Seen) (fault : Fault m.fault) → m.is_front before after fault []
  pub unopened : (before after : Seen) (fault : Fault m.fault) → m.leaves before after fault no_share
  pub always : (told : Run) (outcome : Outcome) → m.always told outcome
