-- No rows ascend.
use Rattle.std.proofs.Common.{[], refl, sym, subst}
use Rattle.share_history.proofs.KeyedFacts.{sorted-ascending}
use Rattle.row_sheets.specs.Sheets.{AreSheets}
use Rattle.row_sheets.proofs.sheets.RowSheets.new.Goals as goal

pub invariant_of-result : goal.invariant_of-result
invariant_of-result c = subst (λ sheets. AreSheets sheets 0) (sym c.new.ensures.items) (record { ascending = sorted-ascending []; counted = refl })
