-- What is at an offset, by the five bytes that were read there and by the length of the file.
use Rattle.std.proofs.Common.{◌≡◌, ◌≢◌, ℕ, ◌+◌, ◌^◌, ◌<◌, ◌≤◌, min, List, [], ◌∷◌, length, take, drop, get_or, Ok, sym, ap, ◌∙◌, length-drop, arith}
use Rattle.std.proofs.lemmas.List.{take_all, drop-drop}
use Rattle.std.specs.Int.{w32, to_be_bytes, from_be_bytes}
use Rattle.item_model.specs.declared.changes.Edit.{Edit}
use Rattle.records_import.specs.Records.{BatchReads}
use Rattle.records_import.specs.Table.{table_of}
use Rattle.edit_file.specs.Reading.{FillsFrom}
use Rattle.edit_file.specs.Standing.{opened, IsFrame, EndsBadly}
use Rattle.edit_file.proofs.Fronts.{first_read, read_size, nothing_ends, short_ends, long_ends, unread_ends, read_frames}

-- five bytes were read at the offset, or all that are there
pub record Heads (bytes : List ℕ) (at count : ℕ) (head : List ℕ) : Type 0 where
  pub size : length head ≡ 5
  pub few : count ≤ 5
  pub taken : take count head ≡ take 5 (drop at bytes)

pub heads : (bytes head : List ℕ) (at count : ℕ) → FillsFrom bytes at count head → length head ≡ 5 → Heads bytes at count head
heads bytes head at count fills size = record {
  size = size;
  few = omega (arith, fills.within, size);
  taken = fills.taken ∙ ap (λ (n : ℕ). take n (drop at bytes)) size;
}

all_read : (bytes head : List ℕ) (at count : ℕ) → Heads bytes at count head → count ≡ min 5 (length (drop at bytes))
all_read bytes head at count h = read_size (drop at bytes) head count h.few h.size h.taken

-- nothing is there
pub nothing_there : (bytes head : List ℕ) (at count : ℕ) → Heads bytes at count head → count ≡ 0 → EndsBadly (drop at bytes)
nothing_there bytes head at count h none = nothing_ends (drop at bytes) (omega (arith, none, all_read bytes head at count h))

-- a closing byte is there
pub closed_there : (bytes head : List ℕ) (at count : ℕ) → Heads bytes at count head → 0 < count → get_or head 0 0 ≢ opened
    → (closing : ℕ) × (behind : List ℕ) × (drop at bytes ≡ closing ∷ behind) × (closing ≢ opened)
closed_there bytes head at count h some shut =
    let first = first_read (drop at bytes) head count some h.size h.taken in
    (get_or head 0 0, first.0, first.1, shut)

-- the open byte is there
opens_there : (bytes head : List ℕ) (at count : ℕ) → Heads bytes at count head → 0 < count → get_or head 0 0 ≡ opened
    → (behind : List ℕ) × (drop at bytes ≡ opened ∷ behind)
opens_there bytes head at count h some first =
    let read = first_read (drop at bytes) head count some h.size h.taken in
    (read.0, read.1 ∙ ap (λ (x : ℕ). x ∷ read.0) first)

-- the open byte is there, and fewer than four bytes after it
pub short_there : (bytes head : List ℕ) (at count : ℕ) → Heads bytes at count head → 0 < count → get_or head 0 0 ≡ opened → length (drop at bytes) < 5
    → EndsBadly (drop at bytes)
short_there bytes head at count h some first short =
    let opens = opens_there bytes head at count h some first in
    short_ends (drop at bytes) opens.0 opens.1 short

pub few_there : (bytes head : List ℕ) (at count : ℕ) → Heads bytes at count head → 0 < count → get_or head 0 0 ≡ opened → count < 5
    → EndsBadly (drop at bytes)
few_there bytes head at count h some first few =
    short_there bytes head at count h some first (omega (arith, few, all_read bytes head at count h))

-- all five bytes
whole_head : (bytes head : List ℕ) (at count : ℕ) → Heads bytes at count head → 5 ≤ count → head ≡ take 5 (drop at bytes)
whole_head bytes head at count h whole = sym (take_all count head (omega (arith, whole, h.size))) ∙ h.taken

told_size : (bytes head : List ℕ) (at count size : ℕ) → Heads bytes at count head → 5 ≤ count → size ≡ from_be_bytes w32 (drop 1 head)
    → size ≡ from_be_bytes w32 (drop 1 (take 5 (drop at bytes)))
told_size bytes head at count size h whole told =
    told ∙ ap (λ (l : List ℕ). from_be_bytes w32 (drop 1 l)) (whole_head bytes head at count h whole)

-- the payload would exceed the end
pub past_there : (bytes head : List ℕ) (at count size : ℕ) → Heads bytes at count head → 5 ≤ count → get_or head 0 0 ≡ opened
    → size ≡ from_be_bytes w32 (drop 1 head) → length bytes < at + 5 + size → EndsBadly (drop at bytes)
past_there bytes head at count size h whole first told past =
    let opens = opens_there bytes head at count h (omega (arith, whole)) first in
    long_ends (drop at bytes) opens.0 size opens.1 (told_size bytes head at count size h whole told)
    (omega (arith, past, length-drop at bytes))

-- what follows the five bytes
later : (at : ℕ) (bytes : List ℕ) → drop (at + 5) bytes ≡ drop 5 (drop at bytes)
later at bytes = sym (drop-drop 5 at bytes)

-- the payload reads as no batch with an edit
pub unread_there : (bytes head payload : List ℕ) (at count size : ℕ) → Heads bytes at count head → 5 ≤ count → get_or head 0 0 ≡ opened
    → size ≡ from_be_bytes w32 (drop 1 head) → payload ≡ take size (drop (at + 5) bytes)
    → ((batch : List Edit) → BatchReads (table_of payload) (Ok batch) → batch ≡ []) → EndsBadly (drop at bytes)
unread_there bytes head payload at count size h whole first told text none =
    let opens = opens_there bytes head at count h (omega (arith, whole)) first in
    unread_ends (drop at bytes) opens.0 payload size opens.1 (told_size bytes head at count size h whole told)
    (text ∙ ap (λ (l : List ℕ). take size l) (later at bytes)) none

-- a frame is there
pub frame_there : (bytes head payload : List ℕ) (at count size : ℕ) (batch : List Edit) → Heads bytes at count head → 5 ≤ count → get_or head 0 0 ≡ opened
    → to_be_bytes w32 size ≡ drop 1 head → size < 2 ^ 32 → payload ≡ take size (drop (at + 5) bytes) → at + 5 + size ≤ length bytes
    → BatchReads (table_of payload) (Ok batch) → batch ≢ [] → IsFrame (take (size + 5) (drop at bytes)) batch × (size + 5 ≤ length (drop at bytes))
frame_there bytes head payload at count size batch h whole first spelled countable text inside reads filled =
    read_frames (drop at bytes) payload head size batch h.size first (whole_head bytes head at count h whole) spelled countable
    (text ∙ ap (λ (l : List ℕ). take size l) (later at bytes)) (omega (arith, inside, length-drop at bytes)) reads filled
