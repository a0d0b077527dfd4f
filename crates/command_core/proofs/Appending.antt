-- Bytes that are written one after another.
use Rattle.std.proofs.Common.{◌≡◌, ◌+◌, ◌≤◌, ◌++◌, List, [], ℕ, length, take, refl, sym, subst, ◌∙◌, arith, length-append}
use Rattle.std.specs.Io.KnownBytes.{Appends}
use Rattle.std.proofs.KnownBytes.{Appends-trans, Appends-nil}
use Rattle.std.proofs.Math.Seq.{take-append-add}
use Rattle.command_core.specs.Seen.{OutputSeen}
use Rattle.command_core.specs.Endings.{IsWritten, IsCut}

-- nothing was written
pub none_written : (output : OutputSeen) → IsWritten output output []
none_written output = record { taken = Appends-nil output.taken; faultless = refl }

-- `more` was written after `front`
pub written_more : (before mid after : OutputSeen) (front more : List ℕ) → IsWritten before mid front → IsWritten mid after more → IsWritten before after (front ++ more)
written_more before mid after front more h k = record {
  taken = Appends-trans before.taken mid.taken after.taken front more h.taken k.taken;
  faultless = k.faultless ∙ h.faultless;
}

-- the output failed within `more`, after `front`
pub cut_more : (before mid after : OutputSeen) (front more : List ℕ) → IsWritten before mid front → IsCut mid after more → IsCut before after (front ++ more)
cut_more before mid after front more h k = record {
  taken = (
    length front + k.taken.0,
    omega (arith, k.taken.1, length-append front more),
    subst (Appends before.taken after.taken) (sym (take-append-add front more k.taken.0)) (Appends-trans before.taken mid.taken after.taken front (take k.taken.0 more) h.taken k.taken.2),
  );
  rose = let f = h.faultless in let r = k.rose in (omega (arith, f, r.0), omega (arith, f, r.1));
}
