-- Calls that change nothing: one after another, and within a run.
use Rattle.std.proofs.Common.{◌≡◌, ℕ, List, Option, Some, None, IfSome, Ok, Err, inl, inr, sym, ◌∙◌, subst, le_refl, refl, arith}
use Rattle.outside_disks.specs.declared.disk.Disk.{Ghosts}
use Rattle.outside_disks.specs.Disks.{Elapses, NoMore}
use Rattle.edit_file.specs.Moments.{IsQuiet, LeavesOnly, Holds}
use Rattle.edit_file.proofs.Moments.{NowIsAlone}

-- a fact of known bytes
pub if_told : (o : Option (List ℕ)) (P : List ℕ → Type 0) → ((b : List ℕ) → o ≡ Some b → P b) → IfSome o P
if_told None P here = tt
if_told (Some b) P here = here b refl

pub told_of : (o : Option (List ℕ)) (P : List ℕ → Type 0) (b : List ℕ) → o ≡ Some b → IfSome o P → P b
told_of o P b e here = subst (λ (x : Option (List ℕ)). IfSome x P) e here

pub ok_is_no_err : {T E : Type 0} (x : T) (e : E) → Ok x ≡ Err e → ⊥
ok_is_no_err x e same = absurd (cc)

module _ {D : Type 0} (g : Ghosts D) where
  pub quiet_self : (disk : D) → IsQuiet g disk disk
  quiet_self disk = record { later = le_refl _; leaves = λ image left. left; nothing_else = λ time image le left. inl left }

  pub quiet_then : (old mid new : D) → IsQuiet g old mid → IsQuiet g mid new → IsQuiet g old new
  quiet_then old mid new first second = record {
    later = omega (arith, first.later, second.later);
    leaves = λ image left. first.leaves image (second.leaves image left);
    nothing_else = λ time image le left. elim (second.nothing_else time image (omega (arith, le, first.later)) left) [
      | inl earlier ↦ first.nothing_else time image le earlier
      | inr here ↦ inr (first.leaves image here)
    ];
  }

  -- a read changes nothing
  pub quiet_read : (old new : D) → Elapses (g.clock old) (g.clock new) (g.since old) (g.since new) (g.images new) → NoMore (g.images old) (g.images new) → IsQuiet g old new
  quiet_read old new time stay = record {
    later = time.later;
    leaves = stay;
    nothing_else = λ moment image le left. elim (time.nothing_else moment image le left) [
      | inl earlier ↦ inl earlier
      | inr here ↦ inr (stay image here)
    ];
  }

  -- held bytes are still held
  pub quiet_holds : (old new : D) (bytes : List ℕ) → IsQuiet g old new → g.bytes new ≡ g.bytes old → Holds g old bytes → Holds g new bytes
  quiet_holds old new bytes quiet stay held = record { told = stay ∙ held.told; alone = λ image left. held.alone image (quiet.leaves image left) }

  -- if the held bytes have a property, calls that change nothing leave only such images
  pub quiet_run : NowIsAlone g → (old new : D) (bytes : List ℕ) (P : List ℕ → Type 0) → Holds g old bytes → P bytes → IsQuiet g old new → LeavesOnly g old new P
  quiet_run alone old new bytes P held here quiet = record {
    later = quiet.later;
    now = λ image left. now image (quiet.leaves image left);
    each = λ image left. elim (quiet.nothing_else (g.clock old) image (le_refl _) left) [
      | inl earlier ↦ now image (alone old image earlier)
      | inr left ↦ now image left
    ];
    before = λ time image le left. elim (quiet.nothing_else time image le left) [
      | inl earlier ↦ inl earlier
      | inr left ↦ inr (now image left)
    ];
  }
    where
      now : (image : List ℕ) → g.images old image → P image
      now image left = subst P (sym (held.alone image left)) here
