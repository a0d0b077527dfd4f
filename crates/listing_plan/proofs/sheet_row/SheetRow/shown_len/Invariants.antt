use Rattle.std.proofs.Common.{◌≡◌, ◌+◌, length, drop}
use Rattle.listing_plan.specs.Runs.{runs_bytes, row_bytes}
use Rattle.listing_plan.proofs.sheet_row.SheetRow.shown_len.Given as goal

-- the runs that were passed are counted, and those that are left complete them
abbrev pub invariant-loop-run : goal.invariant-loop-run
invariant-loop-run l =
    l.len + length (runs_bytes l.self.sheet.now.properties l.self.shared.now (drop l.run-index l.self.runs.now)) ≡ length (row_bytes l.self)
