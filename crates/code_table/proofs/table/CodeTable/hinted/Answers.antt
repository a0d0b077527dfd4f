use Rattle.std.proofs.Common.{◌≡◌, true, IfSome, sym, ap, ◌∙◌, subst}
use Rattle.dmap_tags.specs.Codes.{Four, is_code}
use Rattle.code_table.specs.Rows.{row_kind, codes_differ}
use Rattle.code_table.proofs.Tellings.{hint_tells}
use Rattle.code_table.proofs.table.CodeTable.hinted.Goals as goal

pub returns : goal.returns
returns c =
    let found = c.get-2.result in
    let rows = c.deref.result.now in
    let differ = ap codes_differ c.deref.ensures.value ∙ c.self.invariant.differ in
    subst (λ all. IfSome found (λ row. (k : Four) → is_code row.now.code k ≡ true → row_kind all k ≡ row.now.kind)) (c.deref.ensures.value ∙ c.self.view_is)
    (hint_tells rows c.in_ok-get.field-0.now found differ c.get-2.ensures.lookup.0 c.get-2.ensures.lookup.1)
