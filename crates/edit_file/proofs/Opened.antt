-- What opening finds at the start of a file, and what each way through it leaves of the disk.
use Rattle.std.proofs.Common.{◌≡◌, ◌≢◌, ℕ, zero, suc, ◌+◌, ◌<◌, ◌≤◌, List, [], ◌∷◌, ◌++◌, length, take, drop, get_or, Option, Some, None, option_map, is_some, IfSome, Bool, true, false, MatchBool, refl, sym, ap, ◌∙◌, subst, inl, inr, true≢false, take-append-drop, length-append, arith}
use Rattle.std.proofs.lemmas.List.{take_all, length-take}
use Rattle.item_model.specs.declared.changes.Edit.{Edit}
use Rattle.outside_disks.specs.declared.disk.Disk.{Ghosts}
use Rattle.outside_disks.specs.Disks.{CutShort, Only}
use Rattle.edit_file.specs.Files.{AtRest}
use Rattle.edit_file.specs.Making.{empty_file}
use Rattle.edit_file.specs.Moments.{Does, IsQuiet, LeavesOnly, Holds}
use Rattle.edit_file.specs.Opening.{ClosesAt, HasHead}
use Rattle.edit_file.specs.Standing.{opened, signature, IsUnmade, FileStands}
use Rattle.edit_file.proofs.Moments.{NowIsAlone, run_then, run_wider, run_goes_on, held_follows, now_held}
use Rattle.edit_file.proofs.Once.{one_list}
use Rattle.edit_file.proofs.Quiet.{quiet_holds, quiet_run}
use Rattle.edit_file.proofs.Settled.{closed_stands_for, cut_rests, cut_stands, empty_rests}
use Rattle.edit_file.proofs.Unfinished.{unmade_stands}

-- the first byte that was read
pub first_same : (bytes room : List ℕ) (n : ℕ) → 1 ≤ length bytes → length room ≡ 1 → take n room ≡ take 1 bytes → get_or room 0 0 ≡ get_or bytes 0 0
first_same [] room n some size e = absurd (omega (arith, some))
first_same (b ∷ bytes) [] n some size e = absurd (omega (arith, size))
first_same (b ∷ bytes) (r ∷ room) zero some size e = absurd (omega (arith, ap (λ (l : List ℕ). length l) e))
first_same (b ∷ bytes) (r ∷ room) (suc n) some size e = ap (λ (l : List ℕ). get_or l 0 0) e

pub long_made : (bytes : List ℕ) → 10 < length bytes → IsUnmade bytes → ⊥
long_made bytes long unmade = elim unmade [
  | inl short ↦ omega (arith, long, short)
  | inr few ↦ omega (arith, long, few.0)
]

pub open_made : (bytes : List ℕ) → 2 ≤ length bytes → get_or bytes 0 0 ≡ opened → IsUnmade bytes → ⊥
open_made bytes some first unmade = elim unmade [
  | inl short ↦ omega (arith, some, short)
  | inr closed ↦ closed.1 first
]

-- nine bytes were read, and they are the head
pub head_there : (bytes head : List ℕ) (n : ℕ) → n ≡ 9 → length head ≡ 9 → take n head ≡ take 9 bytes → head ≡ opened ∷ signature
    → (rest : List ℕ) × (bytes ≡ opened ∷ signature ++ rest)
head_there bytes head n nine size taken is =
    let front : take 9 bytes ≡ opened ∷ signature = sym taken ∙ take_all n head (omega (arith, nine, size)) ∙ is in
    (drop 9 bytes, sym (take-append-drop 9 bytes) ∙ ap (λ (l : List ℕ). l ++ drop 9 bytes) front)

-- bytes that begin with the head were read whole
pub head_read : (bytes head : List ℕ) (n : ℕ) → n ≤ 9 → length head ≡ 9 → take n head ≡ take 9 bytes → take 9 bytes ≡ opened ∷ signature
    → (n ≡ 9) × (head ≡ opened ∷ signature)
head_read bytes head n few size taken is =
    let nine : n ≡ 9 = omega (arith, few, size, length-take n head, ap (λ (l : List ℕ). length l) (taken ∙ is)) in
    (nine, sym (take_all n head (omega (arith, nine, size))) ∙ taken ∙ is)

-- what the result of a test says
pub head_is : (bytes : List ℕ) (it : Bool) → it ≡ true → HasHead bytes it → (rest : List ℕ) × (bytes ≡ opened ∷ signature ++ rest)
head_is bytes it is has = subst (λ (i : Bool). HasHead bytes i) is has

pub head_is_wrong : (bytes : List ℕ) (it : Bool) → it ≡ false → HasHead bytes it → take 9 bytes ≢ opened ∷ signature
head_is_wrong bytes it is has = subst (λ (i : Bool). HasHead bytes i) is has

-- with the head, the file closes where its frames end
pub closes_with : (bytes : List ℕ) (it : Bool) (place : ℕ) (found : List (List Edit)) → it ≡ true → HasHead bytes it
    → ((rest : List ℕ) → bytes ≡ opened ∷ signature ++ rest → ClosesAt bytes place found) → ClosesAt bytes place found
closes_with bytes it place found is has closes = let begins = head_is bytes it is has in closes begins.0 begins.1

pub was_unmade : (bytes : List ℕ) (it : Bool) → it ≡ true → MatchBool it (IsUnmade bytes) (IsUnmade bytes → ⊥) → IsUnmade bytes
was_unmade bytes it is exact = subst (λ (i : Bool). MatchBool i (IsUnmade bytes) (IsUnmade bytes → ⊥)) is exact

pub was_made : (bytes : List ℕ) (it : Bool) → it ≡ false → MatchBool it (IsUnmade bytes) (IsUnmade bytes → ⊥) → IsUnmade bytes → ⊥
was_made bytes it is exact = subst (λ (i : Bool). MatchBool i (IsUnmade bytes) (IsUnmade bytes → ⊥)) is exact

-- an unfinished file was made
pub made_rests : (batches : List (List Edit)) → batches ≡ [] → AtRest empty_file 9 batches
made_rests batches none = subst (λ (l : List (List Edit)). AtRest empty_file 9 l) (sym none) empty_rests

-- nothing is claimed of bytes that are not known
unknown : (o : Option (List ℕ)) (P : List ℕ → Type 0) → is_some o ≡ false → IfSome o P
unknown None P e = tt
unknown (Some x) P e = absurd (true≢false e)

-- the closing byte of a file at rest is inside
pub rest_inside : (bytes : List ℕ) (closing : ℕ) (batches : List (List Edit)) → AtRest bytes closing batches → closing < length bytes
rest_inside bytes closing batches rest =
    omega (arith, rest.place, ap (λ (l : List ℕ). length l) rest.bytes_are, length-append (opened ∷ signature ++ rest.frames) (rest.shut ∷ []))

module _ {D : Type 0} (g : Ghosts D) where
  -- calls that change nothing, and then a run
  pub quiet_then_run : NowIsAlone g → (old mid new : D) (bytes : List ℕ) (P : List ℕ → Type 0) → Holds g old bytes → P bytes → IsQuiet g old mid
      → LeavesOnly g mid new P → LeavesOnly g old new P
  quiet_then_run alone old mid new bytes P held here quiet run = run_then g old mid new P (quiet_run g alone old mid bytes P held here quiet) run

  -- the batches are read, and the file is truncated after the closing byte
  pub cut_leaves : NowIsAlone g → (old mid new : D) (bytes : List ℕ) (place : ℕ) (found batches : List (List Edit)) → ClosesAt bytes place found
      → FileStands bytes batches → Holds g old bytes → IsQuiet g old mid → g.bytes mid ≡ g.bytes old → Does g (CutShort (place + 1)) mid new
      → LeavesOnly g old new (λ image. FileStands image batches)
  cut_leaves alone old mid new bytes place found batches closes stands held quiet stay does =
      let same = one_list bytes found batches (closed_stands_for bytes place found closes) stands in
      let here = quiet_holds g old mid bytes quiet stay held in
      run_goes_on g alone (CutShort (place + 1)) old mid new (λ image. FileStands image batches)
      (quiet_run g alone old mid bytes (λ image. FileStands image batches) held stands quiet) does
      (λ image follows. subst (λ (l : List (List Edit)). FileStands image l) same
      (cut_stands bytes image place found closes (held_follows g (CutShort (place + 1)) mid bytes image here follows)))

  pub cut_is_rest : (mid new : D) (bytes : List ℕ) (place : ℕ) (found : List (List Edit)) → ClosesAt bytes place found → g.bytes mid ≡ Some bytes
      → g.bytes new ≡ option_map (take (place + 1)) (g.bytes mid) → Only (g.bytes new) (g.images new)
      → (c : List ℕ) × AtRest c place found × Holds g new c
  cut_is_rest mid new bytes place found closes told shorter safe = (
    take (place + 1) bytes,
    cut_rests bytes place found closes,
    now_held g new (take (place + 1) bytes) (shorter ∙ ap (λ (o : Option (List ℕ)). option_map (take (place + 1)) o) told) safe,
  )

  -- an unfinished file is made
  pub make_leaves : NowIsAlone g → (old mid new : D) (bytes : List ℕ) (batches : List (List Edit)) → IsUnmade bytes → FileStands bytes batches → Holds g old bytes
      → IsQuiet g old mid → LeavesOnly g mid new (λ image. FileStands image []) → LeavesOnly g old new (λ image. FileStands image batches)
  make_leaves alone old mid new bytes batches unmade stands held quiet run =
      let same = one_list bytes [] batches (unmade_stands bytes unmade) stands in
      quiet_then_run alone old mid new bytes (λ image. FileStands image batches) held stands quiet
      (run_wider g mid new (λ image. FileStands image []) (λ image. FileStands image batches)
      (λ image here. subst (λ (l : List (List Edit)). FileStands image l) same here) run)

  -- an opened file is at rest, if its bytes are known
  pub opened_rests : (old new : D) (closing : ℕ) (batches : List (List Edit)) → is_some (g.bytes new) ≡ is_some (g.bytes old)
      → ((b : List ℕ) → g.bytes old ≡ Some b → (c : List ℕ) × AtRest c closing batches × Holds g new c)
      → IfSome (g.bytes new) (λ bytes. AtRest bytes closing batches × Holds g new bytes)
  opened_rests old new closing batches told rests = by_bytes (g.bytes old) refl
    where
      by_bytes : (o : Option (List ℕ)) → g.bytes old ≡ o → IfSome (g.bytes new) (λ bytes. AtRest bytes closing batches × Holds g new bytes)
      by_bytes None e = unknown (g.bytes new) _ (told ∙ ap (λ (o : Option (List ℕ)). is_some o) e)
      by_bytes (Some b) e =
          let rest = rests b e in
          subst (λ (o : Option (List ℕ)). IfSome o (λ c. AtRest c closing batches × Holds g new c)) (sym rest.2.told) (rest.1, rest.2)
