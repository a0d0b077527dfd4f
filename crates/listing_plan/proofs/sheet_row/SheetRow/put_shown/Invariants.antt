use Rattle.std.proofs.Common.{◌≡◌, ◌++◌, drop}
use Rattle.listing_plan.specs.Runs.{runs_bytes, row_bytes}
use Rattle.listing_plan.proofs.sheet_row.SheetRow.put_shown.Given as goal

-- what was put and what is left are all that is shown
abbrev pub invariant-loop-run : goal.invariant-loop-run
invariant-loop-run g l =
    l.page ++ runs_bytes l.self.sheet.now.properties l.self.shared.now (drop l.run-index l.self.runs.now) ≡ l.initial.page ++ row_bytes l.self
