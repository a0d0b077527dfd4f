use Rattle.std.proofs.Common.{◌≡◌, drop}
use Rattle.row_sheets.specs.Sheets.{rows_in}
use Rattle.listing_plan.specs.Held.{sheet_bytes}
use Rattle.listing_plan.proofs.Moves.{Left}
use Rattle.listing_plan.proofs.sheets.push_sheets.Given as goal

-- the sheets that were not passed are left to push
abbrev pub invariant-loop-sheet : goal.invariant-loop-sheet
invariant-loop-sheet g l = record {
  left : Left (sheet_bytes l.target l.asked (rows_in (drop l.sheet-index l.sheet-items))) (sheet_bytes l.target l.asked (rows_in l.sheet-items)) (g.W.Sink.taken l.initial.sink) (g.W.Sink.taken l.sink) l.initial.page l.page (g.W.Faulted.faults l.initial.sink) (g.W.Faulted.faults l.sink);
  beside : g.W.Sink.beside_taken l.sink ≡ g.W.Sink.beside_taken l.initial.sink;
}
