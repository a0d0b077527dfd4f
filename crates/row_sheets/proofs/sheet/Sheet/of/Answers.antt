-- A new sheet has the cells of its rows.
use Rattle.std.proofs.Common.{◌≡◌, ◌<◌, All, length, map, ap, subst, ◌∙◌, arith}
use Rattle.item_model.specs.declared.item.Row.{Row}
use Rattle.row_sheets.specs.Held.{held_properties}
use Rattle.row_sheets.specs.Cells.{cells_of, ids_of, column_length, AreCells, HasValue}
use Rattle.row_sheets.proofs.HeldFacts.{held_values}
use Rattle.row_sheets.proofs.sheet.Sheet.of.Goals as goal

pub invariant_of-result : goal.invariant_of-result
invariant_of-result c =
    let rows = c.shrink_to_fit.new.self.items in
    let ps = c.in_ok-properties.properties.items in
    let held : ps ≡ held_properties rows = c.in_ok-properties.ensures ∙ ap held_properties c.as_slice.ensures.value in
    let some : 0 < length rows = omega (arith, c.requires, ap length c.shrink_to_fit.ensures.items) in
    record {
      held = held;
      cells =
          subst (λ qs. AreCells (cells_of qs rows) c.in_ok-cells.cells.bytes.items c.in_ok-cells.cells.starts.items) c.as_slice-3.ensures.value
          (subst (λ rs. AreCells (cells_of c.as_slice-3.result.now rs) c.in_ok-cells.cells.bytes.items c.in_ok-cells.cells.starts.items) c.as_slice-2.ensures.value c.in_ok-cells.ensures.cells);
      values =
          held_values rows
          (subst (λ qs. All (λ (row : Row). All (HasValue row.item) qs) rows) (c.as_slice-3.ensures.value ∙ held)
          (subst (λ rs. All (λ (row : Row). All (HasValue row.item) c.as_slice-3.result.now) rs) c.as_slice-2.ensures.value c.in_ok-cells.ensures.values));
      some = some;
      numbered = c.in_ok-ids.ensures ∙ ap ids_of c.as_slice-6.ensures.value;
      measured =
          subst (λ rs. c.in_ok-column_lens.column_lens.items ≡ map (column_length rs) ps) c.as_slice-4.ensures.value
          (c.in_ok-column_lens.ensures ∙ ap (map (column_length c.as_slice-4.result.now)) c.as_slice-5.ensures.value);
    }
