-- What a run of the program leaves.
use Rattle.std.specs.Prelude.{◌≡◌, []}
use Rattle.command_core.specs.declared.outcome.Outcome.{Outcome as CoreOutcome}
use Rattle.serve_command.specs.Runs.{ServeOutcome}
use Rattle.share_crew.specs.declared.outcome.Outcome.{Outcome as CrewOutcome}
use Rattle.command_runs.specs.declared.outcome.Outcome.{Outcome}

-- what a command that serves no connection leaves
abbrev pub core_of : Outcome → CoreOutcome
core_of outcome = record { status = outcome.status; history = outcome.history }

-- what `serve` leaves
abbrev pub serve_outcome_of : Outcome → ServeOutcome
serve_outcome_of outcome = record { status = outcome.status; history = outcome.history; links = outcome.links }

-- what the workers of a share leave
abbrev pub crew_of : Outcome → CrewOutcome
crew_of outcome = record { status = outcome.status; history = outcome.history; links = outcome.links }

-- no connection was served, and `ends` holds of the rest
abbrev pub HasNoLinks : (CoreOutcome → Type 0) → Outcome → Type 0
HasNoLinks ends outcome = (outcome.links ≡ []) × ends (core_of outcome)
