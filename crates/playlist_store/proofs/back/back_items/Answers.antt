use Rattle.playlist_store.specs.Changes.{ReturnsItems}
use Rattle.playlist_store.proofs.BackFacts.{passed_more, rest_more}
use Rattle.playlist_store.proofs.back.back_items.Goals as goal

pub loop-id-preserved : goal.loop-id-preserved
loop-id-preserved c = record {
  passed = λ some.
      passed_more (ReturnsItems c.args.revision c.args.items.now) c.args.lists.now.entries c.loop-id.lists.entries c.loop-id.last (c.loop-id.invariant.passed some)
      (c.loop-id.invariant.rest some) c.back_rule.new.lists.entries c.in-Some.id c.in-Some.ensures.behind c.in-Some.ensures.between (c.back_rule.ensures some);
  rest = λ some.
      rest_more (ReturnsItems c.args.revision c.args.items.now) c.args.lists.now.entries c.loop-id.lists.entries c.loop-id.last (c.loop-id.invariant.passed some)
      (c.loop-id.invariant.rest some) c.back_rule.new.lists.entries c.in-Some.id c.in-Some.ensures.behind (c.back_rule.ensures some);
}
