use Rattle.std.proofs.Common.{◌≡◌, [], ◌∷◌, ◌++◌, false, cond, Some, is_eq, sym, ap, ◌∙◌}
use Rattle.code_table.specs.Rows.{is_coded, codes_differ, code_cmp, kind_at}
use Rattle.code_table.proofs.Tellings.{differ_more}
use Rattle.code_table.proofs.Index.{kind_more}
use Rattle.code_table.proofs.table.CodeTable.push.Goals as goal

pub invariant_of-self-2 : goal.invariant_of-self-2
invariant_of-self-2 c =
    let rows = c.self.inside.rows.items in
    let row = c.args.row in
    let new : is_coded row.code rows ≡ false = ap (is_coded row.code) c.self.view_is ∙ c.requires in
    let more : c.push_reserved.new.self.items ≡ rows ++ row ∷ [] = c.push_reserved.ensures.items ∙ ap (λ before. before ++ row ∷ []) c.reserve.ensures.items in
    record {
      differ = ap codes_differ more ∙ differ_more rows row c.self.invariant.differ new;
      found = λ q.
          c.in_ok-insert.ensures.updates.0 q
          ∙ ap (cond (is_eq (code_cmp row.code q)) (Some row.kind)) (c.self.invariant.found q)
          ∙ kind_more rows row q new
          ∙ ap (λ all. kind_at all q) (sym more);
    }
