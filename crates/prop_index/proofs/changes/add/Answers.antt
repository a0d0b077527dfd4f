use Rattle.std.proofs.Common.{◌≡◌, Some, option_copied, refl, rules}
use Rattle.prop_index.specs.Turns.{id_of}
use Rattle.prop_index.proofs.TurnFacts.{turn_more}
use Rattle.prop_index.proofs.changes.add.Goals as goal

pub returns : goal.returns
returns c = λ rows now turned rising fits.
    let is : id_of (option_copied c.args.old) (option_copied c.args.new) ≡ Some c.in-Some.id = search rules in
    turn_more rows now c.args.turns.now.entries c.insert.new.self.entries (option_copied c.args.old) (option_copied c.args.new) c.in-Some.id
    (record { old = c.first_row-old.result; new = c.args.new }) turned rising fits is c.first_row-old.ensures refl c.in_ok-insert.ensures.entries
