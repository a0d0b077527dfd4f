use Rattle.std.proofs.Common.{◌≡◌, ◌∙◌, ◌&&◌, ℕ, cond, arith, subst}
use Rattle.std.specs.Prelude.{nat_le}
use Rattle.std.proofs.lemmas.List.{take_all}
use Rattle.key_versions.specs.Held.{value_at, is_among}
use Rattle.share_history.specs.Histories.{edits}
use Rattle.share_history.specs.LastSaid.{item_at}
use Rattle.playlist_store.specs.Words.{ruled}
use Rattle.playlist_store.proofs.PickFacts.{tested_more, lacked_at}
use Rattle.playlist_store.proofs.rules.test_ids.Goals as goal

pub returns-in-Err : goal.returns-in-Err
returns-in-Err g c = record {
  tests = tt;
  below = λ key base lt. c.test_id.ensures.below key base lt ∙ c.loop-id.invariant.below key base lt;
  others = λ key base lacks. c.test_id.ensures.others key base (lacked_at c.args.ids.now c.loop-id.id-index key c.loop-id-test.true lacks) ∙ c.loop-id.invariant.others key base lacks;
  cost = omega (arith, c.loop-id.invariant.cost, c.test_id.ensures.cost);
}

pub loop-id-preserved : goal.loop-id-preserved
loop-id-preserved g c = record {
  tests = λ bs h.
      tested_more c.args.revision c.loop-id.id-index c.args.ids.now (λ key. ruled c.args.rule.now key (item_at (edits bs) key)) c.args.members.now c.loop-id.members c.test_id.new.members c.loop-id-test.true
      (c.loop-id.invariant.tests bs h) (c.in-Ok.ensures.tests bs h);
  below = λ key base lt. c.test_id.ensures.below key base lt ∙ c.loop-id.invariant.below key base lt;
  others = λ key base lacks. c.test_id.ensures.others key base (lacked_at c.args.ids.now c.loop-id.id-index key c.loop-id-test.true lacks) ∙ c.loop-id.invariant.others key base lacks;
  cost = omega (arith, c.loop-id.invariant.cost, c.test_id.ensures.cost);
}

pub returns : goal.returns
returns g c = record {
  tests = λ bs h.
      subst (λ ids. (key base : ℕ) → value_at c.loop-id.members key base ≡ cond (is_among key ids && nat_le c.args.revision base) (ruled c.args.rule.now key (item_at (edits bs) key)) (value_at c.args.members.now key base))
      (take_all c.loop-id.id-index c.args.ids.now c.loop-id-test.false) (c.loop-id.invariant.tests bs h);
  below = c.loop-id.invariant.below;
  others = c.loop-id.invariant.others;
  cost = omega (arith, c.loop-id.invariant.cost);
}
