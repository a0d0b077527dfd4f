use Rattle.std.proofs.Common.{sym, ap, ◌∙◌}
use Rattle.std.proofs.lemmas.List.{drop-take}
use Rattle.share_history.specs.Ranges.{in_range}
use Rattle.share_listings.proofs.ranges.window_of.Goals as goal

pub returns-in-One : goal.returns-in-One
returns-in-One c = λ rows count. ap (λ range. in_range range rows) c.in-One.is ∙ sym (drop-take c.in-One.at 1 rows)
