-- Bytes represent at most one list of batches: a frame's length determines where it ends, so two readings go frame by
-- frame together.
use Rattle.std.proofs.Common.{◌≡◌, ◌≢◌, ℕ, ◌^◌, ◌<◌, List, [], ◌∷◌, ◌++◌, length, take, drop, get_or, Ok, refl, sym, ap, ◌∙◌, subst, inl, inr, append_assoc, take_at, drop_at, arith}
use Rattle.std.proofs.lemmas.Nat.{from_be_bytes-to_be_bytes_4}
use Rattle.std.specs.Int.{w32, to_be_bytes, from_be_bytes}
use Rattle.item_model.specs.declared.changes.Edit.{Edit}
use Rattle.records_import.proofs.Once.{batch_same}
use Rattle.records_import.specs.Records.{BatchReads}
use Rattle.records_import.specs.Table.{table_of}
use Rattle.edit_file.specs.Standing.{opened, signature, counted, IsFrame, AreFrames, IsUnmade, IsMade, FileStands, EndsBadly, BreaksAt}

-- a counted payload determines its end
same_payload : (p q more others : List ℕ) → length p < 2 ^ 32 → length q < 2 ^ 32 → counted p ++ more ≡ counted q ++ others → (p ≡ q) × (more ≡ others)
same_payload p q more others small little e =
    let lengths : to_be_bytes w32 (length p) ≡ to_be_bytes w32 (length q) = ap (λ (l : List ℕ). take 4 l) e in
    let tails : p ++ more ≡ q ++ others = ap (λ (l : List ℕ). drop 4 l) e in
    let same : length p ≡ length q =
    sym (from_be_bytes-to_be_bytes_4 (length p) small) ∙ ap (λ (l : List ℕ). from_be_bytes w32 l) lengths ∙ from_be_bytes-to_be_bytes_4 (length q) little in (
      sym (take_at p more (length p) refl) ∙ ap (λ (l : List ℕ). take (length p) l) tails ∙ take_at q others (length p) (sym same),
      sym (drop_at p more (length p) refl) ∙ ap (λ (l : List ℕ). drop (length p) l) tails ∙ drop_at q others (length p) (sym same),
    )

-- a frame begins with the open byte
pub frame_opens : (frame more : List ℕ) (batch : List Edit) → IsFrame frame batch → get_or (frame ++ more) 0 0 ≡ opened
frame_opens frame more batch h = ap (λ (l : List ℕ). get_or (l ++ more) 0 0) h.spelled

-- two frames at the start of the same bytes are one
pub frame_same : (f g more others : List ℕ) (a b : List Edit) → IsFrame f a → IsFrame g b → f ++ more ≡ g ++ others → (f ≡ g) × (more ≡ others) × (a ≡ b)
frame_same f g more others a b h k e =
    let whole : (opened ∷ counted h.payload) ++ more ≡ (opened ∷ counted k.payload) ++ others =
    sym (ap (λ (l : List ℕ). l ++ more) h.spelled) ∙ e ∙ ap (λ (l : List ℕ). l ++ others) k.spelled in
    let parts = same_payload h.payload k.payload more others h.countable k.countable (ap (λ (l : List ℕ). drop 1 l) whole) in (
      h.spelled ∙ ap (λ (l : List ℕ). opened ∷ counted l) parts.0 ∙ sym k.spelled,
      parts.1,
      batch_same (table_of k.payload) a b (subst (λ (l : List ℕ). BatchReads (table_of l) (Ok a)) parts.0 h.reads) k.reads,
    )

-- what follows a first frame, with the end of the bytes after it
behind_frame : (bytes frame rest tail : List ℕ) → bytes ≡ frame ++ rest → bytes ++ tail ≡ frame ++ (rest ++ tail)
behind_frame bytes frame rest tail e = ap (λ (l : List ℕ). l ++ tail) e ∙ append_assoc frame rest tail

-- frames and then a byte that does not open are read in one way
frames_once : (xs ys : List ℕ) (firsts seconds : List (List Edit)) (c d : ℕ) (p q : List ℕ)
    → AreFrames xs firsts → AreFrames ys seconds → c ≢ opened → d ≢ opened → xs ++ c ∷ p ≡ ys ++ d ∷ q → firsts ≡ seconds
frames_once xs ys [] [] c d p q h k shut closed e = refl
frames_once xs ys [] (b ∷ seconds) c d p q h k shut closed e =
    let front : c ∷ p ≡ k.0 ++ (k.1 ++ d ∷ q) = sym (ap (λ (l : List ℕ). l ++ c ∷ p) h) ∙ e ∙ behind_frame ys k.0 k.1 (d ∷ q) k.2 in
    absurd (shut (ap (λ (l : List ℕ). get_or l 0 0) front ∙ frame_opens k.0 (k.1 ++ d ∷ q) b k.3))
frames_once xs ys (a ∷ firsts) [] c d p q h k shut closed e =
    let front : d ∷ q ≡ h.0 ++ (h.1 ++ c ∷ p) = sym (ap (λ (l : List ℕ). l ++ d ∷ q) k) ∙ sym e ∙ behind_frame xs h.0 h.1 (c ∷ p) h.2 in
    absurd (closed (ap (λ (l : List ℕ). get_or l 0 0) front ∙ frame_opens h.0 (h.1 ++ c ∷ p) a h.3))
frames_once xs ys (a ∷ firsts) (b ∷ seconds) c d p q h k shut closed e =
    let both : h.0 ++ (h.1 ++ c ∷ p) ≡ k.0 ++ (k.1 ++ d ∷ q) =
    sym (behind_frame xs h.0 h.1 (c ∷ p) h.2) ∙ e ∙ behind_frame ys k.0 k.1 (d ∷ q) k.2 in
    let first = frame_same h.0 k.0 (h.1 ++ c ∷ p) (k.1 ++ d ∷ q) a b h.3 k.3 both in
    ap (λ (l : List (List Edit)). a ∷ l) (frames_once h.1 k.1 firsts seconds c d p q h.4 k.4 shut closed first.1) ∙ ap (λ (x : List Edit). x ∷ seconds) first.2

-- a finished file is not an unfinished one
made_is_no_unmade : (bytes : List ℕ) (batches : List (List Edit)) → IsMade bytes batches → IsUnmade bytes → ⊥
made_is_no_unmade bytes batches made unmade = elim unmade [
  | inl short ↦ omega (arith, short, ap (λ (l : List ℕ). length l) made.bytes_are)
  | inr closed ↦ closed.1 (ap (λ (l : List ℕ). get_or l 0 0) made.bytes_are)
]

-- what follows the open byte and the signature
after_head : (xs ys : List ℕ) → opened ∷ signature ++ xs ≡ opened ∷ signature ++ ys → xs ≡ ys
after_head xs ys e = ap (λ (l : List ℕ). drop 9 l) e

pub one_list : (bytes : List ℕ) (a b : List (List Edit)) → FileStands bytes a → FileStands bytes b → a ≡ b
one_list bytes a b h k = elim h [
  | inl unmade ↦ elim k [
    | inl other ↦ unmade.1 ∙ sym other.1
    | inr made ↦ absurd (made_is_no_unmade bytes b made unmade.0)
  ]
  | inr made ↦ elim k [
    | inl other ↦ absurd (made_is_no_unmade bytes a made other.0)
    | inr again ↦ frames_once made.frames again.frames a b made.closing again.closing made.behind again.behind made.framed again.framed made.shut again.shut
        (after_head _ _ (sym made.bytes_are ∙ again.bytes_are))
  ]
]

-- frames that end badly are not frames with a closing byte
frames_break : (xs ys rest : List ℕ) (firsts seconds : List (List Edit)) (d : ℕ) (q : List ℕ)
    → AreFrames xs firsts → EndsBadly rest → AreFrames ys seconds → d ≢ opened → xs ++ rest ≡ ys ++ d ∷ q → ⊥
frames_break xs ys rest [] [] d q h ends k closed e =
    closed (ends.unclosed d q (sym (ap (λ (l : List ℕ). l ++ rest) h) ∙ e ∙ ap (λ (l : List ℕ). l ++ d ∷ q) k))
frames_break xs ys rest [] (b ∷ seconds) d q h ends k closed e =
    ends.unframed k.0 (k.1 ++ d ∷ q) b (sym (ap (λ (l : List ℕ). l ++ rest) h) ∙ e ∙ behind_frame ys k.0 k.1 (d ∷ q) k.2) k.3
frames_break xs ys rest (a ∷ firsts) [] d q h ends k closed e =
    let front : d ∷ q ≡ h.0 ++ (h.1 ++ rest) = sym (ap (λ (l : List ℕ). l ++ d ∷ q) k) ∙ sym e ∙ behind_frame xs h.0 h.1 rest h.2 in
    closed (ap (λ (l : List ℕ). get_or l 0 0) front ∙ frame_opens h.0 (h.1 ++ rest) a h.3)
frames_break xs ys rest (a ∷ firsts) (b ∷ seconds) d q h ends k closed e =
    let both : h.0 ++ (h.1 ++ rest) ≡ k.0 ++ (k.1 ++ d ∷ q) = sym (behind_frame xs h.0 h.1 rest h.2) ∙ e ∙ behind_frame ys k.0 k.1 (d ∷ q) k.2 in
    let first = frame_same h.0 k.0 (h.1 ++ rest) (k.1 ++ d ∷ q) a b h.3 k.3 both in
    frames_break h.1 k.1 rest firsts seconds d q h.4 ends k.4 closed first.1

-- after the head, frames that end badly: no unfinished file
headed_is_no_unmade : (bytes rest : List ℕ) → bytes ≡ opened ∷ signature ++ rest → IsUnmade bytes → ⊥
headed_is_no_unmade bytes rest e unmade = elim unmade [
  | inl short ↦ omega (arith, short, ap (λ (l : List ℕ). length l) e)
  | inr closed ↦ closed.1 (ap (λ (l : List ℕ). get_or l 0 0) e)
]

pub broken_is_none : (bytes : List ℕ) (at : ℕ) (batches : List (List Edit)) → BreaksAt bytes at → FileStands bytes batches → ⊥
broken_is_none bytes at batches h k = elim h [
  | inl head ↦ elim k [
    | inl unmade ↦ head.begun unmade.0
    | inr made ↦ head.wrong (ap (λ (l : List ℕ). take 9 l) made.bytes_are)
  ]
  | inr frame ↦ elim k [
    | inl unmade ↦ headed_is_no_unmade bytes (frame.frames ++ frame.rest) frame.bytes_are unmade.0
    | inr made ↦ frames_break frame.frames made.frames frame.rest frame.batches batches made.closing made.behind frame.framed frame.ends made.framed made.shut
        (after_head _ _ (sym frame.bytes_are ∙ made.bytes_are))
  ]
]
