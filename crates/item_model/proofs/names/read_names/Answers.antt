use Rattle.std.proofs.Common.{◌≡◌, [], option_copied, ◌∙◌}
use Rattle.item_model.specs.Names.{parts, parts_behind, with_names}
use Rattle.item_model.proofs.Mentions.{names_first}
use Rattle.item_model.proofs.names.read_names.Goals as goal

pub returns : goal.returns
returns c =
    let e : with_names c.loop-rest.properties (parts_behind (option_copied c.loop-rest.rest)) ≡ with_names [] (parts c.args.text.now) = c.loop-rest.invariant in
    rw c.in_default.is at e ∙ names_first [] (parts c.args.text.now)
