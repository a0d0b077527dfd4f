use Rattle.std.proofs.Common.{is_some, ap, ◌∙◌}
use Rattle.code_table.specs.Rows.{is_coded}
use Rattle.code_table.proofs.Index.{coded_found}
use Rattle.code_table.proofs.table.CodeTable.has.Goals as goal

pub returns : goal.returns
returns c =
    let rows = c.self.inside.rows.items in
    c.contains_key.ensures ∙ ap is_some (c.self.invariant.found c.args.code) ∙ coded_found rows c.args.code ∙ ap (is_coded c.args.code) c.self.view_is
