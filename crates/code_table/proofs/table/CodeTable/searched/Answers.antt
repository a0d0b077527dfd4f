use Rattle.std.proofs.Common.{unwrap_or, ap, ◌∙◌}
use Rattle.dmap_tags.specs.declared.kinds.Kind.TheVariants.{Opaque}
use Rattle.code_table.specs.Rows.{row_kind}
use Rattle.code_table.proofs.Index.{kind_found}
use Rattle.code_table.proofs.table.CodeTable.searched.Goals as goal

pub returns : goal.returns
returns c =
    let code = c.args.code in
    c.unwrap_or.ensures
    ∙ ap (λ kind. unwrap_or kind Opaque) (c.copied.ensures ∙ c.get.ensures.value ∙ c.self.invariant.found code)
    ∙ kind_found c.self.inside.rows.items code
    ∙ ap (λ rows. row_kind rows code) c.self.view_is
