-- What an outcome of `serve` says.
use Rattle.share_crew.specs.declared.outcome.Outcome.{Outcome}
use Rattle.serve_command.specs.Runs.{ServeOutcome}

abbrev pub outcome_of : Outcome → ServeOutcome
outcome_of outcome = record { status = outcome.status; history = outcome.history; links = outcome.links }
