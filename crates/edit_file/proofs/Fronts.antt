-- What bytes begin with, by the prefix that was read.
use Rattle.std.proofs.Common.{◌≡◌, ◌≢◌, ℕ, zero, suc, ◌+◌, ◌^◌, ◌<◌, ◌≤◌, min, List, [], ◌∷◌, ◌++◌, length, take, drop, get_or, Ok, refl, sym, ap, ◌∙◌, subst, take_at, length-append, length-drop, arith}
use Rattle.std.proofs.lemmas.List.{take_all, length-take, length-take-le}
use Rattle.std.proofs.lemmas.Nat.{from_be_bytes-to_be_bytes_4}
use Rattle.std.proofs.Math.Seq.{take-add, take-append-add}
use Rattle.std.specs.Int.{w32, to_be_bytes, from_be_bytes}
use Rattle.item_model.specs.declared.changes.Edit.{Edit}
use Rattle.records_import.specs.Records.{BatchReads}
use Rattle.records_import.specs.Table.{table_of}
use Rattle.edit_file.specs.Reading.{FillsFrom}
use Rattle.edit_file.specs.Standing.{opened, counted, IsFrame, EndsBadly}

-- one read more
pub read_more : (d room rest : List ℕ) (done count : ℕ) → done ≤ length room → done ≤ length d → take done room ≡ take done d
    → take count rest ≡ take count (drop done d) → take (done + count) (take done room ++ rest) ≡ take (done + count) d
read_more d room rest done count within inside front more =
    let size : length (take done room) ≡ done = length-take-le done room within in
    ap (λ (n : ℕ). take (n + count) (take done room ++ rest)) (sym size)
    ∙ take-append-add (take done room) rest count
    ∙ ap (λ (l : List ℕ). l ++ take count rest) front
    ∙ ap (λ (l : List ℕ). take done d ++ l) more
    ∙ sym (take-add done count d)

-- a buffer that is full, or that has all bytes
pub read_all : (bytes room : List ℕ) (at done : ℕ) → done ≤ length room → take done room ≡ take done (drop at bytes) → done ≤ length (drop at bytes)
    → min (length room) (length (drop at bytes)) ≤ done → FillsFrom bytes at done room
read_all bytes room at done within front inside most = record {
  taken = front ∙ same_front (drop at bytes) done (length room) within inside most;
  within = within;
}
  where
    same_front : (d : List ℕ) (n m : ℕ) → n ≤ m → n ≤ length d → min m (length d) ≤ n → take n d ≡ take m d
    same_front [] n m le inside most = take_all n [] (omega arith) ∙ sym (take_all m [] (omega arith))
    same_front (x ∷ d) zero zero le inside most = refl
    same_front (x ∷ d) zero (suc m) le inside most = absurd (omega (arith, most))
    same_front (x ∷ d) (suc n) zero le inside most = absurd (omega (arith, le))
    same_front (x ∷ d) (suc n) (suc m) le inside most = ap (λ (l : List ℕ). x ∷ l) (same_front d n m (omega (arith, le)) (omega (arith, inside)) (omega (arith, most)))

-- the first byte that was read
pub first_read : (rest head : List ℕ) (n : ℕ) → 0 < n → length head ≡ 5 → take n head ≡ take 5 rest → (behind : List ℕ) × (rest ≡ get_or head 0 0 ∷ behind)
first_read rest [] n some size e = absurd (omega (arith, size))
first_read rest (h ∷ head) zero some size e = absurd (omega (arith, some))
first_read [] (h ∷ head) (suc n) some size e = absurd (omega (arith, ap (λ (l : List ℕ). length l) e))
first_read (r ∷ rest) (h ∷ head) (suc n) some size e = (rest, ap (λ (l : List ℕ). get_or l 0 0 ∷ rest) (sym e))

-- how many bytes were read
pub read_size : (rest head : List ℕ) (n : ℕ) → n ≤ 5 → length head ≡ 5 → take n head ≡ take 5 rest → n ≡ min 5 (length rest)
read_size rest head n few size e =
    omega (arith, few, size, length-take n head, length-take 5 rest, ap (λ (l : List ℕ). length l) e)

-- a frame at the start determines its payload
pub frame_parts : (rest frame more : List ℕ) (batch : List Edit) → rest ≡ frame ++ more → (h : IsFrame frame batch)
    → (from_be_bytes w32 (drop 1 (take 5 rest)) ≡ length h.payload) × (take (length h.payload) (drop 5 rest) ≡ h.payload) × (5 + length h.payload ≤ length rest)
frame_parts rest frame more batch e h =
    let whole : rest ≡ (opened ∷ counted h.payload) ++ more = e ∙ ap (λ (l : List ℕ). l ++ more) h.spelled in (
      ap (λ (l : List ℕ). from_be_bytes w32 (drop 1 (take 5 l))) whole ∙ from_be_bytes-to_be_bytes_4 (length h.payload) h.countable,
      ap (λ (l : List ℕ). take (length h.payload) (drop 5 l)) whole ∙ take_at h.payload more (length h.payload) refl,
      omega (arith, ap (λ (l : List ℕ). length l) whole, length-append (opened ∷ counted h.payload) more, length-append (to_be_bytes w32 (length h.payload)) h.payload),
    )

-- bytes that begin with the open byte, and with no frame
ends_open : (rest behind : List ℕ) → rest ≡ opened ∷ behind → ((frame more : List ℕ) (batch : List Edit) → rest ≡ frame ++ more → IsFrame frame batch → ⊥) → EndsBadly rest
ends_open rest behind e none = record {
  unclosed = λ closing after same. ap (λ (l : List ℕ). get_or l 0 0) (sym same ∙ e);
  unframed = none;
}

pub nothing_ends : (rest : List ℕ) → length rest ≡ 0 → EndsBadly rest
nothing_ends rest none = record {
  unclosed = λ closing after same. absurd (omega (arith, none, ap (λ (l : List ℕ). length l) same));
  unframed = λ frame more batch same h. let parts = frame_parts rest frame more batch same h in absurd (omega (arith, none, parts.2));
}

pub short_ends : (rest behind : List ℕ) → rest ≡ opened ∷ behind → length rest < 5 → EndsBadly rest
short_ends rest behind e short = ends_open rest behind e
    (λ frame more batch same h. let parts = frame_parts rest frame more batch same h in absurd (omega (arith, short, parts.2)))

-- the length in the frame exceeds the end
pub long_ends : (rest behind : List ℕ) (count : ℕ) → rest ≡ opened ∷ behind → count ≡ from_be_bytes w32 (drop 1 (take 5 rest)) → length rest < 5 + count → EndsBadly rest
long_ends rest behind count e told short = ends_open rest behind e
    (λ frame more batch same h. let parts = frame_parts rest frame more batch same h in absurd (omega (arith, short, told, parts.0, parts.2)))

-- the payload reads as no batch with an edit
pub unread_ends : (rest behind payload : List ℕ) (count : ℕ) → rest ≡ opened ∷ behind → count ≡ from_be_bytes w32 (drop 1 (take 5 rest))
    → payload ≡ take count (drop 5 rest) → ((batch : List Edit) → BatchReads (table_of payload) (Ok batch) → batch ≡ []) → EndsBadly rest
unread_ends rest behind payload count e told is none = ends_open rest behind e
    (λ frame more batch same h. let parts = frame_parts rest frame more batch same h in
    let text : h.payload ≡ payload = sym parts.1 ∙ ap (λ (n : ℕ). take n (drop 5 rest)) (sym (told ∙ parts.0)) ∙ sym is in
    h.filled (none batch (subst (λ (l : List ℕ). BatchReads (table_of l) (Ok batch)) text h.reads)))

-- the payload reads as a batch, so a frame is there
pub read_frames : (rest payload head : List ℕ) (count : ℕ) (batch : List Edit) → length head ≡ 5 → get_or head 0 0 ≡ opened → head ≡ take 5 rest
    → to_be_bytes w32 count ≡ drop 1 head → count < 2 ^ 32 → payload ≡ take count (drop 5 rest) → 5 + count ≤ length rest
    → BatchReads (table_of payload) (Ok batch) → batch ≢ [] → IsFrame (take (count + 5) rest) batch × (count + 5 ≤ length rest)
read_frames rest payload head count batch size first is spelled countable text inside reads filled =
    let length_is : length payload ≡ count =
    ap (λ (l : List ℕ). length l) text ∙ length-take-le count (drop 5 rest) (omega (arith, inside, length-drop 5 rest)) in
    let order : count + 5 ≡ 5 + count = omega arith in (
      record {
        payload = payload;
        spelled = ap (λ (n : ℕ). take n rest) order ∙ take-add 5 count rest ∙ ap (λ (l : List ℕ). l ++ take count (drop 5 rest)) (sym is)
            ∙ ap (λ (l : List ℕ). head ++ l) (sym text) ∙ ap (λ (l : List ℕ). l ++ payload) (head_is head first size)
            ∙ ap (λ (l : List ℕ). opened ∷ l ++ payload) (sym spelled) ∙ ap (λ (n : ℕ). opened ∷ to_be_bytes w32 n ++ payload) (sym length_is);
        countable = subst (λ (n : ℕ). n < 2 ^ 32) (sym length_is) countable;
        reads = reads;
        filled = filled;
      },
      omega (arith, inside),
    )
  where
    head_is : (head : List ℕ) → get_or head 0 0 ≡ opened → length head ≡ 5 → head ≡ opened ∷ drop 1 head
    head_is [] first size = absurd (omega (arith, size))
    head_is (h ∷ head) first size = ap (λ (x : ℕ). x ∷ head) first
