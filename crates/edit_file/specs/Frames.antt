-- What a frame in memory is: all of a batch's frame but its open byte, and the byte that closes after it.
use Rattle.std.specs.Prelude.{◌≡◌, ◌≢◌, ℕ, ◌^◌, ◌<◌, List, [], ◌∷◌, ◌++◌, length, Ok}
use Rattle.item_model.specs.declared.changes.Edit.{Edit}
use Rattle.records_import.specs.Records.{BatchReads}
use Rattle.records_import.specs.Table.{table_of}
use Rattle.edit_file.specs.Standing.{counted}

pub record IsFrameText (text : List ℕ) (batch : List Edit) : Type 0 where
  pub payload : List ℕ
  pub spelled : text ≡ counted payload ++ 0 ∷ []
  pub countable : length payload < 2 ^ 32
  pub reads : BatchReads (table_of payload) (Ok batch)
  pub filled : batch ≢ []
