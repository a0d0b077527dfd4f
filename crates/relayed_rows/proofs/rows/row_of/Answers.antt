-- The tag of a list is read by its members.
use Rattle.std.proofs.Common.{◌≡◌, IfOk, ap, subst, ◌∙◌}
use Rattle.relayed_rows.specs.ReadRows.{row_among}
use Rattle.relayed_rows.proofs.RowFacts.{row_of_list}
use Rattle.relayed_rows.proofs.rows.row_of.Goals as goal

pub returns-in-List : goal.returns-in-List
returns-in-List c =
    subst (λ told. IfOk c.row_among.result (λ row. row ≡ told))
    (ap row_among c.as_slice.ensures ∙ row_of_list c.tag.inside.code c.tag.inside.value c.in-List.members c.args.tag.now c.tag.view_is c.in-List.is)
    c.row_among.ensures
