-- What reading a disk returns: bytes at an offset, and the frame or the closing byte there.
use Rattle.std.specs.Prelude.{◌≡◌, ◌≢◌, ℕ, ◌+◌, ◌<◌, ◌≤◌, List, [], ◌∷◌, length, take, drop, Ok, Option, MatchOption}
use Rattle.item_model.specs.declared.changes.Edit.{Edit}
use Rattle.item_model.specs.Valid.{AreValid}
use Rattle.records_import.specs.Records.{BatchReads}
use Rattle.records_import.specs.Table.{table_of}
use Rattle.edit_file.specs.Standing.{opened, IsFrame, EndsBadly}
use Rattle.edit_file.specs.declared.reading.Found.{Found}
use Rattle.edit_file.specs.declared.reading.Found.TheVariants as found

-- the buffer starts with all bytes from offset `at`, as far as it goes
pub record FillsFrom (bytes : List ℕ) (at count : ℕ) (room : List ℕ) : Type 0 where
  pub taken : take count room ≡ take (length room) (drop at bytes)
  pub within : count ≤ length room

-- `count` bytes from offset `at`, or there are fewer
abbrev pub IsPayload : List ℕ → ℕ → ℕ → Option (List ℕ) → Type 0
IsPayload bytes at count payload =
    MatchOption payload (length bytes < at + count) (λ text. text ≡ take count (drop at bytes))

-- the batch that a payload reads as, or it reads as none that has an edit
abbrev pub IsBatchIn : List ℕ → Option (List Edit) → Type 0
IsBatchIn payload result = MatchOption result
    ((batch : List Edit) → BatchReads (table_of payload) (Ok batch) → batch ≡ [])
    (λ batch. BatchReads (table_of payload) (Ok batch) × (batch ≢ []))

-- what `rest` begins with
abbrev pub IsFound : List ℕ → Found → Type 0
IsFound rest (found.Frame batch size) = IsFrame (take size rest) batch × (size ≤ length rest)
IsFound rest found.Closed = (closing : ℕ) × (behind : List ℕ) × (rest ≡ closing ∷ behind) × (closing ≢ opened)
IsFound rest found.Broken = EndsBadly rest

-- a frame ends within the length
abbrev pub IsWithin : ℕ → ℕ → Found → Type 0
IsWithin at len (found.Frame batch size) = (at + size ≤ len) × (5 ≤ size)
IsWithin at len found.Closed = Unit {0}
IsWithin at len found.Broken = Unit {0}

-- a frame's batch has edits, and all of them are valid
abbrev pub IsUsable : Found → Type 0
IsUsable (found.Frame batch size) = (batch ≢ []) × AreValid batch
IsUsable found.Closed = Unit {0}
IsUsable found.Broken = Unit {0}
