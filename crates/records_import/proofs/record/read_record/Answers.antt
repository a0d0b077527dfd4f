use Rattle.std.proofs.Common.{◌≡◌, ◌<◌, ◌+◌, ◌∙◌, suc, Ok, Err, length, drop, sym, subst, arith}
use Rattle.std.proofs.lemmas.Bool.{eq-eqb, lt-ltb}
use Rattle.csv.specs.Records.{fields_of}
use Rattle.item_model.specs.declared.refusal.RecordWhy.TheVariants.{Missing}
use Rattle.records_import.specs.Limits.{most_records}
use Rattle.records_import.specs.declared.refusal.RecordError.TheVariants.{Field}
use Rattle.records_import.proofs.Walks.{EditAnswer, record_answers, walked_edit}
use Rattle.records_import.proofs.record.read_record.Goals as goal

pub returns-in-Some : goal.returns-in-Some
returns-in-Some c =
    let few : c.args.row < suc most_records = omega arith in
    let same : length (fields_of c.args.cells.now) ≡ length c.args.columns.now + 3 = sym c.width.ensures ∙ c.if-width-columns.false in
    let numbered = sym (rw (c.least_id.ensures, c.cell.ensures) at c.in-Ok.ensures) in
    record_answers c.args.columns.now c.args.row (fields_of c.args.cells.now) c.in_ok-action.action c.in-Ok.id (Ok c.in-Some.edit)
    (lt-ltb _ _ few) (eq-eqb _ _ same) (sym c.read_action.ensures ∙ c.in_ok-action.was) numbered
    (subst (EditAnswer c.in_ok-action.action c.args.row c.in-Ok.id c.args.columns.now (drop 3 (fields_of c.args.cells.now)))
    (sym c.in_ok-edit.ensures ∙ c.in-Some.is)
    (walked_edit c.in_ok-action.action c.args.row c.in-Ok.id c.args.columns.now (drop 3 (fields_of c.args.cells.now)) c.in_ok-values.values c.in_ok-values.ensures))

pub returns-in-None : goal.returns-in-None
returns-in-None c = λ other.
    let few : c.args.row < suc most_records = omega arith in
    let same : length (fields_of c.args.cells.now) ≡ length c.args.columns.now + 3 = sym c.width.ensures ∙ c.if-width-columns.false in
    let numbered = sym (rw (c.least_id.ensures, c.cell.ensures) at c.in-Ok.ensures) in
    rw c.field-in-None.ensures
    (record_answers c.args.columns.now c.args.row (fields_of c.args.cells.now) c.in_ok-action.action c.in-Ok.id (Err (Field c.args.row (length c.args.columns.now + 4) Missing))
    (lt-ltb _ _ few) (eq-eqb _ _ same) (sym c.read_action.ensures ∙ c.in_ok-action.was) numbered
    (subst (EditAnswer c.in_ok-action.action c.args.row c.in-Ok.id c.args.columns.now (drop 3 (fields_of c.args.cells.now)))
    (sym c.in_ok-edit.ensures ∙ c.in-None.is)
    (walked_edit c.in_ok-action.action c.args.row c.in-Ok.id c.args.columns.now (drop 3 (fields_of c.args.cells.now)) c.in_ok-values.values c.in_ok-values.ensures)))
