use Rattle.csv.specs.Records.{fields_of}
use Rattle.item_model.specs.declared.property.Property.TheVariants.{Minm}
use Rattle.records_import.specs.declared.header.Column.TheVariants as holds
use Rattle.records_import.proofs.Walks.{leftmost_here, leftmost_more, walked_all, walked_more}
use Rattle.records_import.proofs.record.read_cells.Goals as goal

pub returns-in-Err-Refused : goal.returns-in-Err-Refused
returns-in-Err-Refused c = λ other.
    let flaw = rw (c.in-Err-Refused.field-0-is, c.cell.ensures) at c.in-Err-Refused.ensures in
    rw (c.field.ensures, c.in-Err-Refused.why-is) (c.loop-place.invariant.leftmost _ (leftmost_here c.args.action c.args.row c.args.columns.now (fields_of c.args.cells.now) c.loop-place.place
    (holds.Property Minm) c.in-Err-Refused.why c.loop-place-test.true c.requires flaw))

pub loop-place-preserved : goal.loop-place-preserved
loop-place-preserved c =
    let taken = rw c.cell.ensures at c.in-Ok.ensures in record {
      walked = λ after rest. c.loop-place.invariant.walked after (walked_more c.args.action c.args.columns.now (fields_of c.args.cells.now) c.loop-place.place
          (holds.Property Minm) c.loop-place.values c.take.new.self after c.loop-place-test.true c.requires taken.0 taken.1 rest);
      leftmost = λ fault rest. c.loop-place.invariant.leftmost fault (leftmost_more c.args.action c.args.row c.args.columns.now (fields_of c.args.cells.now) c.loop-place.place
          (holds.Property Minm) fault c.loop-place-test.true c.requires taken.0 rest);
    }

pub returns : goal.returns
returns c =
    c.loop-place.invariant.walked c.loop-place.values
    (walked_all c.args.action c.args.columns.now (fields_of c.args.cells.now) c.loop-place.place c.loop-place.values c.loop-place-test.false)
