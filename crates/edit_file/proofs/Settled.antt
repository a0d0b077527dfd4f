-- What opening leaves of a finished file.
use Rattle.std.proofs.Common.{◌≡◌, ◌≢◌, ◌⊎◌, ℕ, ◌+◌, ◌-◌, ◌≤◌, List, [], ◌∷◌, ◌++◌, length, take, drop, refl, sym, ap, ◌∙◌, subst, inl, inr, append_assoc, append-nil, take-append-drop, length-append, drop_at, arith}
use Rattle.std.proofs.lemmas.List.{length-take-le}
use Rattle.std.proofs.Math.Seq.{take-append-add}
use Rattle.item_model.specs.declared.changes.Edit.{Edit}
use Rattle.outside_disks.specs.Disks.{CutShort}
use Rattle.edit_file.specs.Files.{AtRest}
use Rattle.edit_file.specs.Making.{empty_file}
use Rattle.edit_file.specs.Opening.{ClosesAt, HasRead}
use Rattle.edit_file.specs.Standing.{opened, signature, IsFrame, EndsBadly, IsNoFrame, FileStands}
use Rattle.edit_file.proofs.Appended.{frames_push}

pub closed_stands_for : (bytes : List ℕ) (place : ℕ) (batches : List (List Edit)) → ClosesAt bytes place batches → FileStands bytes batches
closed_stands_for bytes place batches h = inr h.made

-- the bytes up to the closing one, and those after it
split_bytes : (bytes : List ℕ) (place : ℕ) (batches : List (List Edit)) (h : ClosesAt bytes place batches)
    → bytes ≡ ((opened ∷ signature ++ h.made.frames) ++ h.made.closing ∷ []) ++ h.made.behind
split_bytes bytes place batches h =
    h.made.bytes_are ∙ ap (λ (l : List ℕ). opened ∷ signature ++ l) (sym (append_assoc h.made.frames (h.made.closing ∷ []) h.made.behind))

front_size : (bytes : List ℕ) (place : ℕ) (batches : List (List Edit)) (h : ClosesAt bytes place batches)
    → length ((opened ∷ signature ++ h.made.frames) ++ h.made.closing ∷ []) ≡ place + 1
front_size bytes place batches h = omega (arith, h.at, length-append (opened ∷ signature ++ h.made.frames) (h.made.closing ∷ []))

pub closes_inside : (bytes : List ℕ) (place : ℕ) (batches : List (List Edit)) → ClosesAt bytes place batches → place + 1 ≤ length bytes
closes_inside bytes place batches h =
    omega (
      arith,
      ap (λ (l : List ℕ). length l) (split_bytes bytes place batches h),
      front_size bytes place batches h,
      length-append ((opened ∷ signature ++ h.made.frames) ++ h.made.closing ∷ []) h.made.behind,
    )

-- truncated after the closing byte, the file is at rest
pub cut_rests : (bytes : List ℕ) (place : ℕ) (batches : List (List Edit)) → ClosesAt bytes place batches → AtRest (take (place + 1) bytes) place batches
cut_rests bytes place batches h =
    let front = (opened ∷ signature ++ h.made.frames) ++ h.made.closing ∷ [] in
    record {
      frames = h.made.frames;
      shut = h.made.closing;
      framed = h.made.framed;
      bytes_are = ap (λ (l : List ℕ). take (place + 1) l) (split_bytes bytes place batches h)
          ∙ ap (λ (n : ℕ). take n (front ++ h.made.behind)) (omega (arith, front_size bytes place batches h))
          ∙ take-append-add front h.made.behind 0 ∙ append-nil front;
      place = omega (arith, h.at);
      closed = h.made.shut;
    }

-- a truncation that was interrupted leaves the batches
pub cut_stands : (bytes image : List ℕ) (place : ℕ) (batches : List (List Edit)) → ClosesAt bytes place batches
    → (image ≡ bytes) ⊎ CutShort (place + 1) bytes image → FileStands image batches
cut_stands bytes image place batches h left = elim left [
  | inl same ↦ subst (λ (l : List ℕ). FileStands l batches) (sym same) (closed_stands_for bytes place batches h)
  | inr cut ↦
      let front = (opened ∷ signature ++ h.made.frames) ++ h.made.closing ∷ [] in
      let least : place + 1 ≤ length image = omega (arith, cut.no_shorter, closes_inside bytes place batches h) in
      let more : length image ≡ length front + (length image - (place + 1)) = omega (arith, least, front_size bytes place batches h) in
      inr (record {
        frames = h.made.frames;
        closing = h.made.closing;
        behind = take (length image - (place + 1)) h.made.behind;
        bytes_are = cut.front ∙ ap (λ (l : List ℕ). take (length image) l) (split_bytes bytes place batches h)
            ∙ ap (λ (n : ℕ). take n (front ++ h.made.behind)) more
            ∙ take-append-add front h.made.behind (length image - (place + 1))
            ∙ ap (λ (l : List ℕ). opened ∷ signature ++ l) (append_assoc h.made.frames (h.made.closing ∷ []) (take (length image - (place + 1)) h.made.behind));
        framed = h.made.framed;
        shut = h.made.shut;
      })
]

pub empty_rests : AtRest empty_file 9 []
empty_rests = record {
  frames = [];
  shut = 0;
  framed = refl;
  bytes_are = refl;
  place = refl;
  closed = λ z. omega (arith, z);
}

-- before the first frame
pub none_read : (bytes rest : List ℕ) → bytes ≡ opened ∷ signature ++ rest → HasRead bytes 9 []
none_read bytes rest e = record { frames = []; rest = rest; bytes_are = e; framed = refl; at = refl }

-- what is at the offset is the rest
rest_at : (bytes : List ℕ) (place : ℕ) (batches : List (List Edit)) (h : HasRead bytes place batches) → drop place bytes ≡ h.rest
rest_at bytes place batches h =
    ap (λ (l : List ℕ). drop place l) h.bytes_are ∙ drop_at (opened ∷ signature ++ h.frames) h.rest place (omega (arith, h.at))

-- one frame more
pub more_read : (bytes : List ℕ) (place size : ℕ) (batches : List (List Edit)) (batch : List Edit) → HasRead bytes place batches
    → IsFrame (take size (drop place bytes)) batch → size ≤ length (drop place bytes) → HasRead bytes (place + size) (batches ++ batch ∷ [])
more_read bytes place size batches batch h frame inside =
    let cut = rest_at bytes place batches h in
    record {
      frames = h.frames ++ take size h.rest;
      rest = drop size h.rest;
      bytes_are = h.bytes_are ∙ ap (λ (l : List ℕ). opened ∷ signature ++ h.frames ++ l) (sym (take-append-drop size h.rest))
          ∙ ap (λ (l : List ℕ). opened ∷ signature ++ l) (sym (append_assoc h.frames (take size h.rest) (drop size h.rest)));
      framed = frames_push h.frames (take size h.rest) batches batch h.framed (subst (λ (l : List ℕ). IsFrame (take size l) batch) cut frame);
      at = omega (arith, h.at, length-append h.frames (take size h.rest), length-take-le size h.rest (omega (arith, inside, ap (λ (l : List ℕ). length l) cut)));
    }

pub closed_read : (bytes : List ℕ) (place : ℕ) (batches : List (List Edit)) → HasRead bytes place batches
    → (closing : ℕ) × (behind : List ℕ) × (drop place bytes ≡ closing ∷ behind) × (closing ≢ opened) → ClosesAt bytes place batches
closed_read bytes place batches h found = record {
  made = record {
    frames = h.frames;
    closing = found.0;
    behind = found.1;
    bytes_are = h.bytes_are ∙ ap (λ (l : List ℕ). opened ∷ signature ++ h.frames ++ l) (sym (rest_at bytes place batches h) ∙ found.2);
    framed = h.framed;
    shut = found.3;
  };
  at = h.at;
}

pub broken_read : (bytes : List ℕ) (place : ℕ) (batches : List (List Edit)) → HasRead bytes place batches → EndsBadly (drop place bytes) → IsNoFrame bytes place
broken_read bytes place batches h ends = record {
  frames = h.frames;
  batches = batches;
  rest = h.rest;
  bytes_are = h.bytes_are;
  framed = h.framed;
  place = h.at;
  ends = subst (λ (l : List ℕ). EndsBadly l) (rest_at bytes place batches h) ends;
}
