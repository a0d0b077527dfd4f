use Rattle.std.proofs.Common.{ap, ◌∙◌, subst}
use Rattle.std.proofs.lemmas.Result.{IfOk-weaker}
use Rattle.share_history.specs.Keyed.{AreAscending}
use Rattle.prop_index.specs.Ids.{ids_under}
use Rattle.prop_index.specs.Forms.{spelled}
use Rattle.prop_index.proofs.FoundFacts.{ids_found}
use Rattle.prop_index.proofs.index.PropIndex.ids_of.Goals as goal

-- the ids under the value are those of the rows that it finds
pub returns : goal.returns
returns c =
    let value = c.args.value.now in
    let texts = ap (λ t. ids_under t value) (c.ids_by.ensures spelled) in
    IfOk-weaker c.ids.result _ _
    (λ ids is rows rising stands.
    ids_found rows c.args.self.now c.args.browse spelled value ids.items rising stands (is ∙ texts) (subst AreAscending texts c.ids.ensures.ascending))
    c.ids.ensures.ids
