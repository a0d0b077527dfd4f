use Rattle.std.proofs.Common.{Err}
use Rattle.std.proofs.lemmas.Result.{err_from_is_err_and}
use Rattle.records_import.proofs.Answering.{edit_more, edits_all, fault_here}
use Rattle.records_import.proofs.batch.read_records.Goals as goal

-- the first malformed record
pub returns-in_err-read_record : goal.returns-in_err-read_record
returns-in_err-read_record c =
    let p = err_from_is_err_and c.from_residual.result c.from_residual.ensures.1 in
    rw (p.1, p.2)
    (λ other. c.loop-place.invariant (Err c.in_err-read_record.field-0.0)
    (fault_here c.args.columns.now c.args.records.now c.loop-place.place c.index-records-place.result c.in_err-read_record.field-0.0 c.loop-place-test.true c.index-records-place.is
    (c.in_err-read_record.ensures other)))

-- one more edit
pub loop-place-preserved : goal.loop-place-preserved
loop-place-preserved c =
    edit_more c.args.columns.now c.args.records.now c.loop-place.place c.index-records-place.result c.loop-place.edits c.push.new.self c.in_ok-read_record.field-0
    c.loop-place-test.true c.index-records-place.is c.in_ok-read_record.ensures c.loop-place.invariant c.in_ok-push.ensures.ok

pub returns : goal.returns
returns c = edits_all c.args.columns.now c.args.records.now c.loop-place.place c.loop-place.edits c.loop-place-test.false c.loop-place.invariant
