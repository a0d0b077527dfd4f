use Rattle.std.proofs.Common.{◌≡◌, ◌<◌, ◌+◌, ◌∷◌, ◌++◌, ◌∙◌, [], Some, length, map, take, get_or, arith, ap, sym, subst}
use Rattle.std.proofs.lemmas.List.{map_more, take_all, take_more}
use Rattle.csv.specs.Records.{AllText}
use Rattle.item_model.specs.Valid.{IsValid}
use Rattle.records_import.specs.Table.{table_of, table_text}
use Rattle.records_import.specs.Writing.{HasWritten}
use Rattle.records_import.specs.Written.{written_cell, written_columns, written_header, written_row, written_rows}
use Rattle.records_import.proofs.RowsBack.{batch_text_back}
use Rattle.records_import.proofs.Texts.{AreTexts, texts_behind}
use Rattle.records_import.proofs.ValidEdits.{batch_valid}
use Rattle.records_import.proofs.Written.{table_text_more}
use Rattle.records_import.proofs.writing.write_edits.Goals as goal

pub loop-edit-init : goal.loop-edit-init
unfolding table_text
loop-edit-init c =
    let columns = c.as_slice.ensures.value ∙ c.in_ok-columns.ensures in
    record {
      written = λ none.
          subst (λ text. HasWritten (λ v. Some v.items) c.write_header.new.writer text) (sym (table_text_more [] written_header))
          ((rw columns at c.in_ok-write_header.ensures) [] none);
      texts = tt;
    }

-- each edit of the batch is valid
pub write_edit-requires : goal.write_edit-requires
write_edit-requires c =
    let edits = c.args.batch.now in
    let i = c.loop-edit.edit-index in
    let same : c.as_slice-edit-items.result.now ≡ edits = c.as_slice-edit-items.ensures ∙ c.batch.view_is in
    let inside : i < length edits = omega (arith, ap length same) in
    let valid = (batch_valid (table_of c.requires.text) edits c.requires.reads).0 i c.edit-item.result inside in
    subst IsValid (sym (c.edit-item.is ∙ ap (λ es. get_or es i c.edit-item.result) same)) valid

-- one more record is written
pub loop-edit-preserved : goal.loop-edit-preserved
loop-edit-preserved c =
    let edits = c.args.batch.now in
    let i = c.loop-edit.edit-index in
    let edit = c.edit-item.result in
    let before = take i edits in
    let same : c.as_slice-edit-items.result.now ≡ edits = c.as_slice-edit-items.ensures ∙ c.batch.view_is in
    let inside : i < length edits = omega (arith, ap length same) in
    let here : edit ≡ get_or edits i edit = c.edit-item.is ∙ ap (λ es. get_or es i edit) same in
    let columns = c.as_slice-in-loop-edit.ensures.value ∙ c.in_ok-columns.ensures in
    let utf8 : AllText (map (written_cell edit) written_columns) = rw columns at c.in_ok-write_edit.ensures.utf8 in
    let told = rw columns at c.in_ok-write_edit.ensures.written in
    let more : take (i + 1) edits ≡ before ++ edit ∷ [] = take_more edits i edit inside ∙ ap (λ e. before ++ e ∷ []) (sym here) in
    let rows : written_rows (take (i + 1) edits) ≡ written_rows before ++ written_row edit ∷ [] =
    ap (λ rs. written_header ∷ rs) (map_more written_row edits i edit inside ∙ ap (λ e. map written_row before ++ written_row e ∷ []) (sym here)) in
    record {
      written = λ none.
          subst (λ text. HasWritten (λ v. Some v.items) c.write_edit.new.writer text)
          (sym (ap table_text rows ∙ table_text_more (written_rows before) (written_row edit))) (told (table_text (written_rows before)) (c.loop-edit.invariant.written none));
      texts = subst AreTexts (sym more) (texts_behind before edit c.loop-edit.invariant.texts utf8);
    }

-- all records are written, and read back
pub returns : goal.returns
returns c =
    let edits = c.args.batch.now in
    let i = c.loop-edit.edit-index in
    let same : c.as_slice-edit-items.result.now ≡ edits = c.as_slice-edit-items.ensures ∙ c.batch.view_is in
    let all : take i edits ≡ edits = take_all i edits (omega (arith, ap length same)) in
    record {
      written = rw all at c.loop-edit.invariant.written;
      reads_back = batch_text_back edits c.requires (subst AreTexts all c.loop-edit.invariant.texts);
    }
