use Rattle.item_store.specs.Stands.{StandsFor}
use Rattle.playlist_store.proofs.RuleFacts.{rule_put}
use Rattle.playlist_store.proofs.rules.test_id.Goals as goal

pub returns-clause-tests : goal.returns-clause-tests
returns-clause-tests g c =
    rule_put c.put_number.result (λ bs. StandsFor bs c.args.items.now) c.args.rule.now c.args.revision c.args.id c.ruled-item.result c.args.members.now c.put_number.new.self
    c.ruled-item.ensures.ruled c.put_number.ensures.values
