use Rattle.std.proofs.Common.{◌≡◌, drop}
use Rattle.listing_plan.specs.Held.{sheet_bytes}
use Rattle.listing_plan.proofs.Moves.{Left}
use Rattle.listing_plan.proofs.sheets.push_sheet.Given as goal

-- the rows that were not passed are left to push
abbrev pub invariant-loop-index : goal.invariant-loop-index
invariant-loop-index g l = record {
  left : Left (sheet_bytes l.target l.asked (drop l.index l.sheet.rows)) (sheet_bytes l.target l.asked l.sheet.rows) (g.W.Sink.taken l.initial.sink) (g.W.Sink.taken l.sink) l.initial.page l.page (g.W.Faulted.faults l.initial.sink) (g.W.Faulted.faults l.sink);
  beside : g.W.Sink.beside_taken l.sink ≡ g.W.Sink.beside_taken l.initial.sink;
}
