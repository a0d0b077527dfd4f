-- Written cells are texts.
use Rattle.std.proofs.Common.{◌∷◌, ◌++◌, [], ℕ, List, IsUtf8, map}
use Rattle.csv.specs.Records.{AllText}
use Rattle.item_model.specs.declared.changes.Edit.{Edit}
use Rattle.records_import.specs.Table.{Cells}
use Rattle.records_import.specs.Written.{written_cell, written_columns}

-- one more text
pub text_behind : (cells : Cells) (cell : List ℕ) → AllText cells → IsUtf8 cell → AllText (cells ++ cell ∷ [])
unfolding AllText
text_behind [] cell h utf8 = (utf8, tt)
text_behind (c ∷ cells) cell h utf8 = (h.0, text_behind cells cell h.1 utf8)

-- the further cells of each edit are texts
abbrev pub AreTexts : List Edit → Type 0
AreTexts [] = Unit {0}
AreTexts (edit ∷ edits) = AllText (map (written_cell edit) written_columns) × AreTexts edits

-- one more edit
pub texts_behind : (edits : List Edit) (edit : Edit) → AreTexts edits → AllText (map (written_cell edit) written_columns) → AreTexts (edits ++ edit ∷ [])
texts_behind [] edit h text = (text, tt)
texts_behind (e ∷ edits) edit h text = (h.0, texts_behind edits edit h.1 text)
