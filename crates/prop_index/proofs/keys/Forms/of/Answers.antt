use Rattle.std.proofs.Common.{sym, ap, ◌∙◌, option_copied}
use Rattle.prop_index.specs.Keys.{key_or_none}
use Rattle.prop_index.proofs.keys.Forms.of.Goals as goal

pub returns-in-None-clause-keys : goal.returns-in-None-clause-keys
returns-in-None-clause-keys c = λ form. c.none.ensures form ∙ ap (λ row. key_or_none form c.args.browse (option_copied row)) (sym c.in-None.is)
