-- How reading and writing keep step in `show`.
use Rattle.std.proofs.Common.{◌≡◌, ◌≤◌, ◌⊎◌, ℕ, List, [], ◌++◌, length, take, Option, None, refl, sym, ap, ◌∙◌, subst, inl, inr, arith, append_assoc}
use Rattle.std.specs.Io.KnownBytes.{Appends, Consumes}
use Rattle.std.proofs.KnownBytes.{Appends-nil, Appends-trans, Consumes-nil, Consumes-trans}
use Rattle.std.proofs.lemmas.List.{append-nil, length-take}
use Rattle.command_core.specs.declared.fault.Fault.{Fault}
use Rattle.command_core.specs.declared.outcome.Outcome.{Outcome}
use Rattle.command_core.specs.Answers.{Writes, WritesError, WritesMemory}
use Rattle.command_core.specs.Causes.{piece_limit}
use Rattle.command_core.specs.Faults.{fault_line, fault_status, memory_line}
use Rattle.command_core.specs.Seen.{InputSeen, OutputSeen, Seen, Run}
use Rattle.tag_commands.specs.declared.show.Stop.{Stop}
use Rattle.tag_commands.specs.declared.show.Stop.TheVariants.{Input, Output}
use Rattle.tag_commands.specs.Show.{IsInStep, shown_text}
use Rattle.tag_commands.specs.Showing.{StepStops}
use Rattle.tag_commands.proofs.Counted.{none_left}
use Rattle.tag_commands.proofs.Showing.{within_whole}
use Rattle.tag_commands.proofs.Tagged.{tags_shown}

-- all that was read is shown
pub step_shown : (before after : InputSeen) (output_before output_after : OutputSeen) (fed written : List ℕ) → written ≡ shown_text fed
    → Consumes before.left after.left fed → Appends output_before.taken output_after.taken written → IsInStep before after output_before output_after
step_shown before after output_before output_after fed written is read taken = record {
  front = fed;
  last = [];
  read = subst (Consumes before.left after.left) (sym (append-nil fed)) read;
  short = omega arith;
  more = [];
  taken = subst (Appends output_before.taken output_after.taken) (is ∙ sym (append-nil (shown_text fed))) taken;
  steady = inl refl;
}

-- no bytes have no lines
none_shown : shown_text [] ≡ []
none_shown = within_whole [] (omega arith) ∙ tags_shown [] [] (record { spelled = refl; accepted = tt })

-- nothing is read and nothing written
pub step_none : (input : InputSeen) (output : OutputSeen) → IsInStep input input output output
step_none input output = step_shown input input output output [] [] (sym none_shown) (Consumes-nil input.left) (Appends-nil output.taken)

-- a read that brings nothing
pub consumes_none : (a b c : Option (List ℕ)) (fed room : List ℕ) (n : ℕ) → n ≡ 0 → Consumes a b fed → Consumes b c (take n room) → Consumes a c fed
consumes_none a b c fed room n end front read =
    let none : take n room ≡ [] = none_left (take n room) (omega (arith, end, length-take n room)) in
    subst (Consumes a c) (ap (λ (l : List ℕ). fed ++ l) none ∙ append-nil fed) (Consumes-trans a b c fed (take n room) front read)

-- what was taken when a step stopped
stop_took : (bytes lines more : List ℕ) (mid after : OutputSeen) (stop : Stop) → StepStops bytes lines more mid after stop
    → (some : List ℕ) × Appends mid.taken after.taken some
stop_took bytes lines more mid after (Input fault) stops = (more, stops.1.taken)
stop_took bytes lines more mid after Output stops = (take stops.1.taken.0 more, stops.1.taken.2)

-- a step stopped within a chunk, after what was written
pub step_stopped : (before after : InputSeen) (output_before mid output_after : OutputSeen) (fed piece written lines more : List ℕ) (stop : Stop) → written ≡ shown_text fed
    → Consumes before.left after.left (fed ++ piece) → length piece ≤ piece_limit → after.faults ≡ before.faults → Appends output_before.taken mid.taken written
    → StepStops (fed ++ piece) lines more mid output_after stop → IsInStep before after output_before output_after
step_stopped before after output_before mid output_after fed piece written lines more stop is read short faultless front stops =
    let some = stop_took (fed ++ piece) lines more mid output_after stop stops in
    record {
      front = fed;
      last = piece;
      read = read;
      short = short;
      more = some.0;
      taken =
          subst (λ (l : List ℕ). Appends output_before.taken output_after.taken (l ++ some.0)) is
          (Appends-trans output_before.taken mid.taken output_after.taken written some.0 front some.1);
      steady = inr faultless;
    }

-- more was taken after it
step_more : (before after : InputSeen) (output_before mid output_after : OutputSeen) (bytes : List ℕ) → IsInStep before after output_before mid
    → Appends mid.taken output_after.taken bytes → IsInStep before after output_before output_after
step_more before after output_before mid output_after bytes h taken = record {
  front = h.front;
  last = h.last;
  read = h.read;
  short = h.short;
  more = h.more ++ bytes;
  taken =
      subst (Appends output_before.taken output_after.taken) (append_assoc (shown_text h.front) h.more bytes)
      (Appends-trans output_before.taken mid.taken output_after.taken (shown_text h.front ++ h.more) bytes h.taken taken);
  steady = h.steady;
}

step_told : (before after : InputSeen) (output_before mid output_after : OutputSeen) (wanted : ℕ) (bytes : List ℕ) (status : ℕ) → IsInStep before after output_before mid
    → Writes wanted bytes mid output_after status → IsInStep before after output_before output_after
step_told before after output_before mid output_after wanted bytes status h (inl t) = step_more before after output_before mid output_after bytes h t.1.taken
step_told before after output_before mid output_after wanted bytes status h (inr t) =
    step_more before after output_before mid output_after (take t.1.taken.0 bytes) h t.1.taken.2

-- the line of an error was written, perhaps only a prefix of it
pub step_fault : {F : Type 0} (line : F → List ℕ) (status : F → ℕ) (fault : Fault F) (before after : InputSeen) (output_before mid output_after : OutputSeen) (outcome : Outcome)
    → IsInStep before after output_before mid → WritesError line status fault mid output_after outcome → IsInStep before after output_before output_after
step_fault {F} line status fault before after output_before mid output_after outcome h t = by_line t.told
  where
    by_line : Writes (fault_status status fault) (fault_line line fault) mid output_after outcome.status ⊎ Writes 9 memory_line mid output_after outcome.status
        → IsInStep before after output_before output_after
    by_line (inl own) = step_told before after output_before mid output_after (fault_status status fault) (fault_line line fault) outcome.status h own
    by_line (inr want) = step_told before after output_before mid output_after 9 memory_line outcome.status h want

-- an allocation failed before anything was read
pub step_idle : (told : Run) (outcome : Outcome) → told.after ≡ told.before → WritesMemory None told.output_before told.output_after outcome
    → IsInStep told.before.input told.after.input told.output_before told.output_after
step_idle told outcome same t =
    subst (λ (s : Seen). IsInStep told.before.input s.input told.output_before told.output_after) (sym same)
    (step_told told.before.input told.before.input told.output_before told.output_before told.output_after 9 memory_line outcome.status (step_none told.before.input told.output_before) t.told)
