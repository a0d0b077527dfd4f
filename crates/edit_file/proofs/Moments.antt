-- How runs of disk calls continue: what one more call leaves has the property that all before it had.
use Rattle.std.proofs.Common.{◌≡◌, ◌⊎◌, ℕ, List, Some, inl, inr, sym, ◌∙◌, subst, le_refl, arith}
use Rattle.outside_disks.specs.declared.disk.Disk.{Ghosts}
use Rattle.outside_disks.specs.Disks.{Only}
use Rattle.edit_file.specs.Moments.{MayFollow, Does, LeavesOnly, Holds}

some_same : {A : Type 0} (x y : A) → Some x ≡ Some y → x ≡ y
some_same x y e = cc

module _ {D : Type 0} (g : Ghosts D) where
  -- what was left since now is left now
  abbrev pub NowIsAlone : Type 0
  NowIsAlone = (disk : D) (image : List ℕ) → g.since disk (g.clock disk) image → g.images disk image

  -- before the first call
  pub run_begins : NowIsAlone → (old : D) (P : List ℕ → Type 0) → ((image : List ℕ) → g.images old image → P image) → LeavesOnly g old old P
  run_begins alone old P here = record {
    later = le_refl _;
    now = here;
    each = λ image left. here image (alone old image left);
    before = λ time image le left. inl left;
  }

  -- one run after another
  pub run_then : (old mid new : D) (P : List ℕ → Type 0) → LeavesOnly g old mid P → LeavesOnly g mid new P → LeavesOnly g old new P
  run_then old mid new P first second = record {
    later = omega (arith, first.later, second.later);
    now = second.now;
    each = λ image left. elim (second.before (g.clock old) image first.later left) [
      | inl earlier ↦ first.each image earlier
      | inr here ↦ here
    ];
    before = λ time image le left. elim (second.before time image (omega (arith, le, first.later)) left) [
      | inl earlier ↦ first.before time image le earlier
      | inr here ↦ inr here
    ];
  }

  -- one change
  pub run_does : NowIsAlone → (step : List ℕ → List ℕ → Type 0) (old new : D) (P : List ℕ → Type 0) → Does g step old new
      → ((image : List ℕ) → MayFollow g step old image → P image) → LeavesOnly g old new P
  run_does alone step old new P does here = record {
    later = does.later;
    now = λ image left. here image (does.leaves image left);
    each = λ image left. elim (does.nothing_else (g.clock old) image (le_refl _) left) [
      | inl earlier ↦ here image (inl (alone old image earlier))
      | inr follows ↦ here image follows
    ];
    before = λ time image le left. elim (does.nothing_else time image le left) [
      | inl earlier ↦ inl earlier
      | inr follows ↦ inr (here image follows)
    ];
  }

  -- a run, and one change more
  pub run_goes_on : NowIsAlone → (step : List ℕ → List ℕ → Type 0) (old mid new : D) (P : List ℕ → Type 0) → LeavesOnly g old mid P → Does g step mid new
      → ((image : List ℕ) → MayFollow g step mid image → P image) → LeavesOnly g old new P
  run_goes_on alone step old mid new P first does here = run_then old mid new P first (run_does alone step mid new P does here)

  -- what has the property also has a wider one
  pub run_wider : (old new : D) (P Q : List ℕ → Type 0) → ((image : List ℕ) → P image → Q image) → LeavesOnly g old new P → LeavesOnly g old new Q
  run_wider old new P Q wider run = record {
    later = run.later;
    now = λ image left. wider image (run.now image left);
    each = λ image left. wider image (run.each image left);
    before = λ time image le left. elim (run.before time image le left) [
      | inl earlier ↦ inl earlier
      | inr here ↦ inr (wider image here)
    ];
  }

  -- if the bytes are the one image, a change leaves them or what the step makes of them
  pub held_follows : (step : List ℕ → List ℕ → Type 0) (disk : D) (bytes image : List ℕ) → Holds g disk bytes → MayFollow g step disk image → (image ≡ bytes) ⊎ step bytes image
  held_follows step disk bytes image held follows = elim follows [
    | inl left ↦ inl (held.alone image left)
    | inr stepped ↦ inr (subst (λ (b : List ℕ). step b image) (held.alone stepped.0 stepped.1) stepped.2)
  ]

  -- bytes that are safe are held
  pub now_held : (disk : D) (bytes : List ℕ) → g.bytes disk ≡ Some bytes → Only (g.bytes disk) (g.images disk) → Holds g disk bytes
  now_held disk bytes told safe = record { told = told; alone = λ image left. some_same _ _ (sym (safe image left) ∙ told) }
