use Rattle.std.proofs.Common.{map}
use Rattle.csv.specs.Records.{fields_of}
use Rattle.records_import.specs.Table.{table_of}
use Rattle.records_import.proofs.Answering.{Told, whole_told}
use Rattle.records_import.proofs.ValidEdits.{read_few, read_valid}
use Rattle.records_import.proofs.batch.read_batch.Goals as goal

-- the result of the first rows is that of all
told : (c : goal.After-drop-rows) → Told (table_of c.args.bytes.now) c.read_rows.result
told c =
    whole_told (table_of c.args.bytes.now) (map fields_of c.in_ok-rows.rows.items) c.read_rows.result c.in_ok-rows.ensures
    (rw c.as_slice.ensures.value at c.read_rows.ensures)

pub returns-clause-exact : goal.returns-clause-exact
returns-clause-exact c = told c

pub returns-clause-valid : goal.returns-clause-valid
returns-clause-valid c = read_valid (table_of c.args.bytes.now) c.read_rows.result (told c)

pub returns-clause-few : goal.returns-clause-few
returns-clause-few c = read_few (table_of c.args.bytes.now) c.read_rows.result (told c)
