use Rattle.std.proofs.Common.{◌≡◌, ◌+◌, ◌*◌, drop}
use Rattle.dmap_tags.specs.Spelling.{spellings}
use Rattle.dmap_tags.specs.Tree.{trees_of, size_of, sizes_of}
use Rattle.listing_plan.proofs.Moves.{Left}
use Rattle.listing_plan.proofs.tags.+push_tag.Given as goal

-- a tag is above its payload, which is above the tags in it
abbrev pub decreases-push_measured : goal.decreases-push_measured
decreases-push_measured g l = 2 * size_of l.tag.now + 1

abbrev pub decreases-push_payload : goal.decreases-push_payload
decreases-push_payload g l = 2 * size_of l.tag.now

abbrev pub decreases-push_tags : goal.decreases-push_tags
decreases-push_tags g l = 2 * sizes_of (trees_of l.tags.now)

-- the tags that were not passed are left to push
abbrev pub invariant-push_tags-loop-tag : goal.invariant-push_tags-loop-tag
invariant-push_tags-loop-tag g l = record {
  left : Left (spellings (trees_of (drop l.tag-index l.tags))) (spellings (trees_of l.tags)) (g.W.Sink.taken l.initial.sink) (g.W.Sink.taken l.sink) l.initial.page l.page (g.W.Faulted.faults l.initial.sink) (g.W.Faulted.faults l.sink);
  beside : g.W.Sink.beside_taken l.sink ≡ g.W.Sink.beside_taken l.initial.sink;
}
