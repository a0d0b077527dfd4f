-- A sheet with the changes of ids up to its last one, which it shares where there are none.
use Rattle.std.proofs.Common.{◌≡◌, ◌+◌, ◌++◌, ◌<◌, [], length, take, drop, refl, ap, subst, ◌∙◌}
use Rattle.share_history.specs.Keyed.{IsAscending}
use Rattle.row_sheets.specs.Spelled.{Spelled}
use Rattle.row_sheets.specs.Sheets.{by_id, rows_on, rows_in}
use Rattle.row_sheets.specs.Cells.{IsLast}
use Rattle.row_sheets.specs.Changes.{changed, AreChanges}
use Rattle.row_sheets.specs.Turns.{AreUnder, AreAbove, IsTurned, AreTurned}
use Rattle.row_sheets.proofs.StepFacts.{sheet_step, kept_rows, sheet_shared}
use Rattle.row_sheets.proofs.turning.turn.Goals as goal

pub returns-then-count-eq0-clause-turned : goal.returns-then-count-eq0-clause-turned
returns-then-count-eq0-clause-turned c = λ wanted rest t.
    let changes = c.args.changes.now in
    let rows = rows_on c.args.sheet.now in
    let k = c.count_below-count.result in
    let here : c.deref.result.now.rows ≡ rows = ap (λ (s : Spelled). s.rows) c.deref.ensures in
    let none : take k changes ≡ [] = ap (λ n. take n changes) c.if-count-eq0.true in
    let new : rows_in c.push.new.self.items ≡ rows_in c.args.turned.now.items ++ rows = ap rows_in c.in_ok-push.ensures.items ∙ sheet_shared c.args.turned.now.items c.args.sheet.now c.in_ok-try_clone.field-0 c.in_ok-try_clone.ensures in
    subst (λ n. IsTurned wanted (by_id (rows_in c.push.new.self.items)) (drop n changes) rest) c.if-count-eq0.true
    (sheet_step wanted (rows_in c.args.turned.now.items) (rows_in c.push.new.self.items) rows rows changes (take k changes) k c.last.result rest refl new
    (subst (λ rs. 0 < length rs) here c.last.ensures.some) (subst (λ rs. IsLast rs c.last.result) here c.last.ensures.last)
    (subst (λ n. AreUnder (n + 1) (take k changes)) c.from.ensures c.count_below-count.ensures.under) (subst (λ n. IsAscending changes → AreAbove (n + 1) (drop k changes)) c.from.ensures c.count_below-count.ensures.above)
    (kept_rows rows (take k changes) none) t)

pub returns-clause-turned : goal.returns-clause-turned
returns-clause-turned c = λ wanted rest t.
    let changes = c.args.changes.now in
    let rows = rows_on c.args.sheet.now in
    let k = c.count_below-count.result in
    let own = c.split_at.result.0.now in
    let piece = c.in_ok-rows.rows.items in
    let here : c.deref.result.now.rows ≡ rows = ap (λ (s : Spelled). s.rows) c.deref.ensures in
    let read : c.rows.result.now ≡ rows = c.rows.ensures.rows ∙ ap (λ (s : Spelled). s.rows) c.deref-2.ensures in
    sheet_step wanted (rows_in c.args.turned.now.items) (rows_in c.push_cut.new.turned.items) rows piece changes own k c.last.result rest c.split_at.ensures.front c.in_ok-push_cut.ensures
    (subst (λ rs. 0 < length rs) here c.last.ensures.some) (subst (λ rs. IsLast rs c.last.result) here c.last.ensures.last)
    (subst (λ n. AreUnder (n + 1) (take k changes)) c.from.ensures c.count_below-count.ensures.under) (subst (λ n. IsAscending changes → AreAbove (n + 1) (drop k changes)) c.from.ensures c.count_below-count.ensures.above)
    (subst (λ rs. AreChanges own → IsAscending (by_id rs) → AreTurned (changed own (by_id rs)) (by_id piece)) read c.in_ok-rows.ensures) t
