use Rattle.std.proofs.Common.{◌≡◌, drop}
use Rattle.dmap_tags.specs.Spelling.{spellings}
use Rattle.dmap_tags.specs.Tree.{trees_of}
use Rattle.listing_plan.specs.Held.{row_trees}
use Rattle.listing_plan.proofs.Moves.{Left}
use Rattle.listing_plan.proofs.rows.push_rows.Given as goal

-- the rows that were not passed are left to push
abbrev pub invariant-loop-row : goal.invariant-loop-row
invariant-loop-row g l = record {
  left : Left (spellings (trees_of (row_trees l.properties (drop l.row-index l.rows)))) (spellings (trees_of (row_trees l.properties l.rows))) (g.W.Sink.taken l.initial.sink) (g.W.Sink.taken l.sink) l.initial.page l.page (g.W.Faulted.faults l.initial.sink) (g.W.Faulted.faults l.sink);
  beside : g.W.Sink.beside_taken l.sink ≡ g.W.Sink.beside_taken l.initial.sink;
}
