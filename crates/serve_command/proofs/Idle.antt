-- A run that is out of memory before anything happened ends as the specification of `serve` says.
use Rattle.std.proofs.Common.{◌≡◌, refl, sym, subst, ap, inl, inr, arith}
use Rattle.command_core.specs.declared.fault.Fault.TheVariants as fault
use Rattle.command_core.specs.Answers.{Writes}
use Rattle.command_core.specs.Faults.{memory_line}
use Rattle.command_core.specs.Seen.{Seen, NetSeen, Run}
use Rattle.serve_command.specs.declared.terms.Serving.{Serving}
use Rattle.serve_command.specs.Places.{FailsToOpen}
use Rattle.serve_command.specs.Runs.{ServeOutcome, HasNoShare, ServeEnds, unopened}
use Rattle.share_crew.proofs.Nets.{grows_none}

-- `listen` was not called
no_place : (serving : Serving) (net : NetSeen) → FailsToOpen serving net net fault.Memory
no_place serving net = record {
  count = 0;
  few = omega arith;
  some = λ is. absurd (cc);
  asked = record { asked = grows_none net.asked; written = grows_none net.written };
  stops = inr (refl, refl);
}

pub by_idle : (serving : Serving) (told : Run) (left : ServeOutcome) → told.after ≡ told.before → Writes 9 memory_line told.output_before told.output_after left.status → HasNoShare left
    → ServeEnds serving told left
by_idle serving told left idle tells none =
    unopened fault.Memory (subst (λ (s : Seen). FailsToOpen serving told.before.around.net s.around.net fault.Memory) (sym idle) (no_place serving told.before.around.net))
    (record { left = ap (λ (s : Seen). s.input.left) idle; faults = ap (λ (s : Seen). s.input.faults) idle }) (ap (λ (s : Seen). s.around.files) idle) (inl tells) none
