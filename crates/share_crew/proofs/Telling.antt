-- What is written after a prefix.
use Rattle.std.proofs.Common.{◌++◌, ℕ, List, sym, subst, inl, inr, arith, length-append}
use Rattle.std.proofs.lemmas.List.{take-append-le}
use Rattle.std.specs.Io.KnownBytes.{Appends}
use Rattle.command_core.specs.Seen.{OutputSeen}
use Rattle.command_core.specs.Endings.{IsWritten, IsCut}
use Rattle.command_core.specs.Answers.{Writes}
use Rattle.command_core.proofs.Appending.{written_more, cut_more}

-- after a prefix
pub told_behind : (start mid after : OutputSeen) (front bytes : List ℕ) (wanted status : ℕ) → IsWritten start mid front → Writes wanted bytes mid after status → Writes wanted (front ++ bytes) start after status
told_behind start mid after front bytes wanted status w (inl h) = inl (h.0, written_more start mid after front bytes w h.1)
told_behind start mid after front bytes wanted status w (inr h) = inr (h.0, cut_more start mid after front bytes w h.1)

-- an output that failed in some bytes failed in more
pub cut_wider : (before after : OutputSeen) (bytes more : List ℕ) → IsCut before after bytes → IsCut before after (bytes ++ more)
cut_wider before after bytes more h = record {
  taken = (
    h.taken.0,
    (let few = h.taken.1 in omega (arith, length-append bytes more)),
    subst (Appends before.taken after.taken) (sym (take-append-le h.taken.0 bytes more h.taken.1)) h.taken.2,
  );
  rose = h.rose;
}
