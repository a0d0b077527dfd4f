use Rattle.std.proofs.Common.{◌≡◌, ◌++◌, length, ap, subst, ◌∙◌, rules}
use Rattle.std.proofs.lemmas.List.{nil_from_length}
use Rattle.share_history.specs.Keyed.{IsAscending}
use Rattle.row_sheets.specs.Spelled.{Spelled}
use Rattle.row_sheets.specs.Sheets.{by_id, rows_on, rows_in}
use Rattle.row_sheets.specs.Changes.{changed, AreChanges}
use Rattle.row_sheets.specs.Turns.{AreTurned}
use Rattle.row_sheets.proofs.StepFacts.{last_step, kept_rows, sheet_shared}
use Rattle.row_sheets.proofs.turning.turn_last.Goals as goal

pub returns-then-is_empty : goal.returns-then-is_empty
returns-then-is_empty c = λ wanted t.
    let none : length c.args.changes.now ≡ 0 = search rules in
    let rows = rows_on c.args.sheet.now in
    let new : rows_in c.push.new.self.items ≡ rows_in c.args.turned.now.items ++ rows = ap rows_in c.in_ok-push.ensures.items ∙ sheet_shared c.args.turned.now.items c.args.sheet.now c.in_ok-try_clone.field-0 c.in_ok-try_clone.ensures in
    last_step wanted (rows_in c.args.turned.now.items) (rows_in c.push.new.self.items) rows c.args.changes.now (by_id rows) new (kept_rows rows c.args.changes.now (nil_from_length c.args.changes.now none)) t

pub returns : goal.returns
returns c = λ wanted t.
    let rows = rows_on c.args.sheet.now in
    let piece = c.in_ok-rows.rows.items in
    let read : c.rows.result.now ≡ rows = c.rows.ensures.rows ∙ ap (λ (s : Spelled). s.rows) c.deref.ensures in
    last_step wanted (rows_in c.args.turned.now.items) (rows_in c.push_cut.new.turned.items) piece c.args.changes.now (by_id rows) c.in_ok-push_cut.ensures
    (subst (λ rs. AreChanges c.args.changes.now → IsAscending (by_id rs) → AreTurned (changed c.args.changes.now (by_id rs)) (by_id piece)) read c.in_ok-rows.ensures) t
