use Rattle.std.proofs.Common.{◌≡◌, ◌≢◌, ◌<◌, ◌-◌, ◌^◌, ℕ, List, [], ◌∷◌, ◌++◌, length, is_some, Some}
use Rattle.std.specs.Prelude.{All}
use Rattle.item_model.specs.Valid.{AreValid}
use Rattle.edit_file.specs.Moments.{IsQuiet}
use Rattle.edit_file.specs.Opening.{HasRead}
use Rattle.edit_file.specs.Standing.{opened, signature}
use Rattle.edit_file.proofs.opening.read_frames.Given as goal

-- the frames before the offset were read, and nothing was changed
abbrev pub invariant-frames : goal.invariant-frames
invariant-frames g l = record {
  read : (b rest : List ℕ) → length b ≡ l.len → g.D.Disk.bytes l.initial.disk ≡ Some b → b ≡ opened ∷ signature ++ rest → HasRead b l.at l.batches.items;
  near : l.at < 2 ^ 63;
  filled : All (λ batch. batch ≢ []) l.batches.items;
  valid : All AreValid l.batches.items;
  bytes : g.D.Disk.bytes l.disk ≡ g.D.Disk.bytes l.initial.disk;
  quiet : IsQuiet g.D.Disk l.initial.disk l.disk;
  told : is_some (g.D.Disk.bytes l.disk) ≡ is_some (g.D.Disk.bytes l.initial.disk);
  name : g.D.Disk.opened_as l.disk ≡ g.D.Disk.opened_as l.initial.disk;
  faultless : g.D.Faulted.faults l.disk ≡ g.D.Faulted.faults l.initial.disk;
}

abbrev pub decreases-frames : goal.decreases-frames
decreases-frames g l = l.len - l.at
