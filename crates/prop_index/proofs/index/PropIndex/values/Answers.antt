use Rattle.std.proofs.Common.{ap, map, string_bytes, ◌∙◌, subst}
use Rattle.std.specs.BTreeMap.{keys, IsOrdered}
use Rattle.std.specs.String.{string_cmp}
use Rattle.std.proofs.lemmas.Result.{IfOk-weaker}
use Rattle.prop_index.specs.Forms.{spelled}
use Rattle.prop_index.proofs.ValueFacts.{values_are}
use Rattle.prop_index.proofs.index.PropIndex.values.Goals as goal

-- the texts of the map are the values
pub returns : goal.returns
returns c =
    IfOk-weaker c.texts.result _ _
    (λ texts is rows rising stands.
    values_are rows c.args.self.now c.args.browse texts rising stands (is ∙ ap (λ t. map string_bytes (keys t.ids)) (c.ids_by.ensures spelled))
    (subst (λ t. IsOrdered string_cmp t.ids) (c.ids_by.ensures spelled) c.texts.ensures.ascending))
    c.texts.ensures.texts
