use Rattle.std.proofs.Common.{◌≡◌, false, ◌==◌, rules, ◌∙◌}
use Rattle.std.specs.Str.{bytes_eq}
use Rattle.prop_index.specs.IdSets.{has}
use Rattle.prop_index.specs.Ids.{ids_under}
use Rattle.prop_index.proofs.UnderFacts.{settles}
use Rattle.prop_index.proofs.texts.TextIds.settle.Goals as goal

pub returns-then-ne : goal.returns-then-ne
returns-then-ne c = λ other q.
    let apart : bytes_eq c.args.kept.now c.args.gone.now ≡ false = search rules in
    c.take.ensures other q ∙ settles c.args.kept.now c.args.gone.now other (has q (ids_under c.args.self.now other)) (q == c.args.id) apart
