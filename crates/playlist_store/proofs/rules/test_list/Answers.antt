use Rattle.std.proofs.Common.{rules, arith}
use Rattle.std.proofs.lemmas.Grind.{common_steps}
use Rattle.item_store.specs.Stands.{StandsFor}
use Rattle.playlist_store.specs.Changes.{ChangesOne, LeavesRule}
use Rattle.playlist_store.proofs.KeptFacts.{Becomes, became}
use Rattle.playlist_store.proofs.RuleFacts.{list_tested}
use Rattle.playlist_store.proofs.rules.test_list.Goals as goal

pub returns-in-Some : goal.returns-in-Some
returns-in-Some g c =
    let was = c.in-Some.list.now.now in
    let is = c.test_kept.new.kept in
    let old = c.args.lists.now.entries in
    let new = (c.get_mut.follows.lender record { now = is; older = c.in-Some.list.now.older }).entries in
    let one : ChangesOne c.args.id (Becomes was is) old new = grind (arith, common_steps) in
    record {
      tests = list_tested c.test_kept.result (λ bs. StandsFor bs c.args.items.now) c.args.revision c.args.ids.now c.args.id was is old new one c.test_kept.ensures.tests;
      leaves = became {R = LeavesRule c.args.revision c.args.ids.now} c.args.id was is old new one c.test_kept.ensures.leaves;
      cost = grind (arith, common_steps);
    }

pub returns-in-None : goal.returns-in-None
returns-in-None g c = search rules
