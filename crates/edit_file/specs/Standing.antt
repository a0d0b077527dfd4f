-- What the bytes of an edit file represent: a list of batches, or nothing. A file is made in steps that a crash may interrupt, so
-- bytes that were never finished represent no batches; a finished file is a signature, a frame for each batch, and a closing byte.
use Rattle.std.specs.Prelude.{◌≡◌, ◌≢◌, ℕ, ◌+◌, ◌^◌, ◌<◌, ◌≤◌, List, [], ◌∷◌, ◌++◌, length, take, get_or, codes, Ok, ◌⊎◌}
use Rattle.std.specs.Int.{w32, to_be_bytes}
use Rattle.item_model.specs.declared.changes.Edit.{Edit}
use Rattle.records_import.specs.Records.{BatchReads}
use Rattle.records_import.specs.Table.{table_of}

-- the one byte that opens a file or a frame; every other byte closes
abbrev pub opened : ℕ
opened = 1

abbrev pub signature : List ℕ
signature = codes "DAAPEDIT"

-- a payload after its length in four bytes
abbrev pub counted : List ℕ → List ℕ
counted payload = to_be_bytes w32 (length payload) ++ payload

-- the bytes are the frame of a batch: an open byte, and records that read as the batch, which has at least one edit
pub record IsFrame (bytes : List ℕ) (batch : List Edit) : Type 0 where
  pub payload : List ℕ
  pub spelled : bytes ≡ opened ∷ counted payload
  pub countable : length payload < 2 ^ 32
  pub reads : BatchReads (table_of payload) (Ok batch)
  pub filled : batch ≢ []

-- the bytes are the frames of these batches, in order
abbrev pub AreFrames : List ℕ → List (List Edit) → Type 0
AreFrames bytes [] = bytes ≡ []
AreFrames bytes (batch ∷ batches) = (frame : List ℕ) × (rest : List ℕ) × (bytes ≡ frame ++ rest) × IsFrame frame batch × AreFrames rest batches

-- a file that was not finished: too short, or of at most ten bytes of which the first is not open
abbrev pub IsUnmade : List ℕ → Type 0
IsUnmade bytes = (length bytes < 2) ⊎ ((length bytes ≤ 10) × (get_or bytes 0 0 ≢ opened))

-- a finished file: an open byte, the signature, the frames, a byte that is not open, and then any bytes
pub record IsMade (bytes : List ℕ) (batches : List (List Edit)) : Type 0 where
  pub frames : List ℕ
  pub closing : ℕ
  pub behind : List ℕ
  pub bytes_are : bytes ≡ opened ∷ signature ++ frames ++ closing ∷ behind
  pub framed : AreFrames frames batches
  pub shut : closing ≢ opened

-- the bytes represent the batches
abbrev pub FileStands : List ℕ → List (List Edit) → Type 0
FileStands bytes batches = (IsUnmade bytes × (batches ≡ [])) ⊎ IsMade bytes batches

-- the bytes begin with neither a closing byte nor a frame
pub record EndsBadly (rest : List ℕ) : Type 0 where
  pub unclosed : (closing : ℕ) (behind : List ℕ) → rest ≡ closing ∷ behind → closing ≡ opened
  pub unframed : (frame more : List ℕ) (batch : List Edit) → rest ≡ frame ++ more → IsFrame frame batch → ⊥

-- the first nine bytes are wrong, and the file is not an unfinished one
pub record IsNoHead (bytes : List ℕ) (at : ℕ) : Type 0 where
  pub begun : IsUnmade bytes → ⊥
  pub wrong : take 9 bytes ≢ opened ∷ signature
  pub place : at ≡ 0

-- after these frames, neither a frame nor a closing byte follows
pub record IsNoFrame (bytes : List ℕ) (at : ℕ) : Type 0 where
  pub frames : List ℕ
  pub batches : List (List Edit)
  pub rest : List ℕ
  pub bytes_are : bytes ≡ opened ∷ signature ++ frames ++ rest
  pub framed : AreFrames frames batches
  pub place : at ≡ 9 + length frames
  pub ends : EndsBadly rest

-- the bytes represent nothing, and this is the offset where that shows
abbrev pub BreaksAt : List ℕ → ℕ → Type 0
BreaksAt bytes at = IsNoHead bytes at ⊎ IsNoFrame bytes at
