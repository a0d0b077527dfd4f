-- A payload reads as one batch.
use Rattle.std.proofs.Common.{rules, ◌≡◌, List, [], ◌∷◌, length, Ok, refl, ◌∙◌, arith}
use Rattle.item_model.specs.declared.changes.Edit.{Edit}
use Rattle.records_import.proofs.Once.{batch_same}
use Rattle.records_import.specs.Records.{BatchReads}
use Rattle.records_import.specs.Table.{table_of}
use Rattle.edit_file.proofs.reading.batch_in.Goals as goal

no_items : (l : List Edit) → length l ≡ 0 → l ≡ []
no_items [] e = refl
no_items (x ∷ l) e = absurd (omega (arith, e))

pub returns-in-Ok-clause-read : goal.returns-in-Ok-clause-read
returns-in-Ok-clause-read c batch reads =
    let whole : BatchReads (table_of c.args.payload.now) (Ok c.in-Ok.batch.edits) = search rules in
    let none : c.in-Ok.batch.edits ≡ [] = no_items _ (search rules) in
    batch_same _ batch _ reads whole ∙ none
