use Rattle.std.proofs.Common.{◌≡◌, drop, map}
use Rattle.dmap_tags.specs.Spelling.{spellings}
use Rattle.dmap_tags.specs.Tree.{leaf, trees_of, U32}
use Rattle.listing_plan.proofs.Moves.{Left}
use Rattle.listing_plan.proofs.body.push_keys.Given as goal

-- the keys that were not passed are left to push
abbrev pub invariant-loop-key : goal.invariant-loop-key
invariant-loop-key g l = record {
  left : Left (spellings (trees_of (map (λ key. leaf l.of (U32 key)) (drop l.key-index l.keys)))) (spellings (trees_of (map (λ key. leaf l.of (U32 key)) l.keys))) (g.W.Sink.taken l.initial.sink) (g.W.Sink.taken l.sink) l.initial.page l.page (g.W.Faulted.faults l.initial.sink) (g.W.Faulted.faults l.sink);
  beside : g.W.Sink.beside_taken l.sink ≡ g.W.Sink.beside_taken l.initial.sink;
}
