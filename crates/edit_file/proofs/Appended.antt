-- What an append leaves: the batches, or these and the new one, at each moment, and at the end a file at rest with one batch more.
use Rattle.std.proofs.Common.{◌≡◌, ◌≢◌, ℕ, ◌+◌, ◌==◌, List, [], ◌∷◌, ◌++◌, length, Bool, true, false, Option, Some, None, is_some, IfSome, MatchBool, refl, sym, ap, ◌∙◌, subst, inl, inr, true≢false, append_assoc, append-nil, length-append, arith}
use Rattle.std.specs.Cmp.{unsigned_Decides}
use Rattle.item_model.specs.declared.changes.Edit.{Edit}
use Rattle.outside_disks.specs.declared.disk.Disk.{Ghosts}
use Rattle.outside_disks.specs.declared.faulted.Faulted as faulted
use Rattle.edit_file.specs.Adding.{IsClosedOrFramed}
use Rattle.edit_file.specs.Files.{AtRest, StandsForOrOneMore, StandsWithOrWithout, HasBatches, is_broken}
use Rattle.edit_file.specs.Frames.{IsFrameText}
use Rattle.edit_file.specs.Moments.{Holds, LeavesOnly}
use Rattle.edit_file.specs.Standing.{opened, signature, counted, IsFrame, AreFrames, FileStands}
use Rattle.edit_file.specs.declared.file.EditFile.{EditFile}
use Rattle.edit_file.proofs.Moments.{run_wider}

-- a frame after frames
pub frames_push : (xs frame : List ℕ) (earlier : List (List Edit)) (batch : List Edit) → AreFrames xs earlier → IsFrame frame batch → AreFrames (xs ++ frame) (earlier ++ batch ∷ [])
frames_push xs frame [] batch h k = (frame, [], ap (λ (l : List ℕ). l ++ frame) h ∙ sym (append-nil frame), k, refl)
frames_push xs frame (a ∷ earlier) batch h k =
    (h.0, h.1 ++ frame, ap (λ (l : List ℕ). l ++ frame) h.2 ∙ append_assoc h.0 h.1 frame, h.3, frames_push h.1 frame earlier batch h.4 k)

-- the frame that a text in memory is, with its open byte
pub whole_frame : (text : List ℕ) (batch : List Edit) (t : IsFrameText text batch) → IsFrame (opened ∷ counted t.payload) batch
whole_frame text batch t = record { payload = t.payload; spelled = refl; countable = t.countable; reads = t.reads; filled = t.filled }

-- with a closing byte there the file represents what it did
closed_stands : (bytes image : List ℕ) (closing shut : ℕ) (behind : List ℕ) (batches : List (List Edit)) (rest : AtRest bytes closing batches)
    → shut ≢ opened → image ≡ (opened ∷ signature ++ rest.frames) ++ shut ∷ behind → FileStands image batches
closed_stands bytes image closing shut behind batches rest closed e =
    inr (record { frames = rest.frames; closing = shut; behind = behind; bytes_are = e; framed = rest.framed; shut = closed })

-- with an open byte there it represents one batch more
opened_stands : (bytes image : List ℕ) (closing : ℕ) (text : List ℕ) (batches : List (List Edit)) (batch : List Edit) (rest : AtRest bytes closing batches)
    → IsFrameText text batch → image ≡ (opened ∷ signature ++ rest.frames) ++ opened ∷ text → FileStands image (batches ++ batch ∷ [])
opened_stands bytes image closing text batches batch rest t e =
    let frame = opened ∷ counted t.payload in
    inr (record {
      frames = rest.frames ++ frame;
      closing = 0;
      behind = [];
      bytes_are = e ∙ ap (λ (l : List ℕ). (opened ∷ signature ++ rest.frames) ++ opened ∷ l) t.spelled
          ∙ ap (λ (l : List ℕ). opened ∷ signature ++ l) (sym (append_assoc rest.frames frame (0 ∷ [])));
      framed = frames_push rest.frames frame batches batch rest.framed (whole_frame text batch t);
      shut = λ z. zero_is_closed z;
    })
  where
    zero_is_closed : 0 ≢ opened
    zero_is_closed z = omega (arith, z)

-- whatever a crash leaves of adding a frame
pub either_stands : (bytes image : List ℕ) (closing : ℕ) (text : List ℕ) (batches : List (List Edit)) (batch : List Edit) (rest : AtRest bytes closing batches)
    → IsFrameText text batch → IsClosedOrFramed (opened ∷ signature ++ rest.frames) rest.shut text image → StandsWithOrWithout batches batch image
either_stands bytes image closing text batches batch rest t left = elim left [
  | inl closed ↦ inl (closed_stands bytes image closing rest.shut closed.0 batches rest rest.closed closed.1)
  | inr framed ↦ by_byte framed.0 (framed.0 == opened) refl framed.1
]
  where
    by_byte : (byte : ℕ) (is_open : Bool) → (byte == opened) ≡ is_open → image ≡ (opened ∷ signature ++ rest.frames) ++ byte ∷ text → StandsWithOrWithout batches batch image
    by_byte byte true is e = inr (opened_stands bytes image closing text batches batch rest t
        (e ∙ ap (λ (b : ℕ). (opened ∷ signature ++ rest.frames) ++ b ∷ text) ((unsigned_Decides byte opened).0 is)))
    by_byte byte false is e = inl (closed_stands bytes image closing byte text batches rest (λ same. true≢false (sym ((unsigned_Decides byte opened).1 same) ∙ is)) e)

-- after the whole frame the file is at rest again
pub next_rest : (bytes : List ℕ) (closing : ℕ) (text : List ℕ) (batches : List (List Edit)) (batch : List Edit) (rest : AtRest bytes closing batches)
    → IsFrameText text batch → AtRest ((opened ∷ signature ++ rest.frames) ++ opened ∷ text) (closing + length text) (batches ++ batch ∷ [])
next_rest bytes closing text batches batch rest t =
    let frame = opened ∷ counted t.payload in
    record {
      frames = rest.frames ++ frame;
      shut = 0;
      framed = frames_push rest.frames frame batches batch rest.framed (whole_frame text batch t);
      bytes_are = ap (λ (l : List ℕ). (opened ∷ signature ++ rest.frames) ++ opened ∷ l) t.spelled
          ∙ ap (λ (l : List ℕ). opened ∷ signature ++ l) (sym (append_assoc rest.frames frame (0 ∷ [])));
      place = omega (arith, rest.place, length-append rest.frames frame, ap (λ (l : List ℕ). length l) t.spelled, length-append (counted t.payload) (0 ∷ []));
      closed = λ z. omega (arith, z);
    }

-- nothing is claimed of bytes that are not known
unknown : (o : Option (List ℕ)) (P : List ℕ → Type 0) → is_some o ≡ false → IfSome o P
unknown None P e = tt
unknown (Some x) P e = absurd (true≢false e)

module _ {D : Type 0} (g : Ghosts D) {f : faulted.Ghosts D} where
  -- what is known of a sound file
  pub sound_file : (file : EditFile D g f) (batches : List (List Edit)) → is_broken g file ≡ false → HasBatches g file batches
      → IfSome (g.bytes file.disk) (λ bytes. AtRest bytes file.closing batches × Holds g file.disk bytes)
  sound_file file batches e h = subst (λ (b : Bool). MatchBool b
      (IfSome (g.bytes file.disk) (λ _. (image : List ℕ) → g.images file.disk image → StandsForOrOneMore batches image))
      (IfSome (g.bytes file.disk) (λ bytes. AtRest bytes file.closing batches × Holds g file.disk bytes))) e h

module _ {D : Type 0} (g : Ghosts D) where
  -- adding a frame keeps to the batches, with or without the new one
  pub append_crash : (old new : D) (closing : ℕ) (text : List ℕ) (batches : List (List Edit)) (batch : List Edit) → IsFrameText text batch
      → ((front : List ℕ) (shut : ℕ) → length front ≡ closing → Holds g old (front ++ shut ∷ []) → LeavesOnly g old new (IsClosedOrFramed front shut text))
      → IfSome (g.bytes old) (λ bytes. AtRest bytes closing batches × Holds g old bytes)
      → IfSome (g.bytes old) (λ _. LeavesOnly g old new (StandsWithOrWithout batches batch))
  append_crash old new closing text batches batch t crash known = by_bytes (g.bytes old) known
    where
      by_bytes : (o : Option (List ℕ)) → IfSome o (λ bytes. AtRest bytes closing batches × Holds g old bytes) → IfSome o (λ _. LeavesOnly g old new (StandsWithOrWithout batches batch))
      by_bytes None h = tt
      by_bytes (Some bytes) h =
          let rest = h.0 in
          run_wider g old new (IsClosedOrFramed (opened ∷ signature ++ rest.frames) rest.shut text) (StandsWithOrWithout batches batch)
          (λ image left. either_stands bytes image closing text batches batch rest t left)
          (crash (opened ∷ signature ++ rest.frames) rest.shut rest.place (subst (λ (b : List ℕ). Holds g old b) rest.bytes_are h.1))

  -- the disk has the whole frame
  pub append_rest : (old new : D) (closing : ℕ) (text : List ℕ) (batches : List (List Edit)) (batch : List Edit) → IsFrameText text batch
      → ((front : List ℕ) (shut : ℕ) → length front ≡ closing → Holds g old (front ++ shut ∷ []) → Holds g new (front ++ opened ∷ text))
      → is_some (g.bytes new) ≡ is_some (g.bytes old)
      → IfSome (g.bytes old) (λ bytes. AtRest bytes closing batches × Holds g old bytes)
      → IfSome (g.bytes new) (λ bytes. AtRest bytes (closing + length text) (batches ++ batch ∷ []) × Holds g new bytes)
  append_rest old new closing text batches batch t added told known = by_bytes (g.bytes old) refl known
    where
      by_bytes : (o : Option (List ℕ)) → g.bytes old ≡ o → IfSome o (λ bytes. AtRest bytes closing batches × Holds g old bytes)
          → IfSome (g.bytes new) (λ bytes. AtRest bytes (closing + length text) (batches ++ batch ∷ []) × Holds g new bytes)
      by_bytes None e h = unknown (g.bytes new) _ (told ∙ ap (λ (o : Option (List ℕ)). is_some o) e)
      by_bytes (Some bytes) e h =
          let rest = h.0 in
          let held = added (opened ∷ signature ++ rest.frames) rest.shut rest.place (subst (λ (b : List ℕ). Holds g old b) rest.bytes_are h.1) in
          subst (λ (o : Option (List ℕ)). IfSome o (λ b. AtRest b (closing + length text) (batches ++ batch ∷ []) × Holds g new b)) (sym held.told)
          (next_rest bytes closing text batches batch rest t, held)

  -- a failed append leaves images that represent the batches, or one more
  pub broken_images : (old new : D) (batches : List (List Edit)) (batch : List Edit) → is_some (g.bytes new) ≡ is_some (g.bytes old)
      → IfSome (g.bytes old) (λ _. LeavesOnly g old new (StandsWithOrWithout batches batch))
      → IfSome (g.bytes new) (λ _. (image : List ℕ) → g.images new image → StandsForOrOneMore batches image)
  broken_images old new batches batch told run = by_bytes (g.bytes old) (g.bytes new) told run
    where
      by_bytes : (o n : Option (List ℕ)) → is_some n ≡ is_some o → IfSome o (λ _. LeavesOnly g old new (StandsWithOrWithout batches batch))
          → IfSome n (λ _. (image : List ℕ) → g.images new image → StandsForOrOneMore batches image)
      by_bytes o None e h = tt
      by_bytes None (Some x) e h = absurd (true≢false e)
      by_bytes (Some y) (Some x) e h = λ image left. elim (h.now image left) [
        | inl same ↦ inl same
        | inr more ↦ inr (batch, more)
      ]
