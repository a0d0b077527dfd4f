-- A run ends as its command's specification says, by what was written; and what the end says if nothing outside failed.
use Rattle.std.proofs.Common.{Vec, Global, MatchResult, ◌≡◌, ◌⊎◌, ◌++◌, ℕ, List, [], Option, Some, None, Result, Ok, Err, IfSome, IfOk, IfErr, refl, sym, subst, ap, ◌∙◌, inl, inr}
use Rattle.outside_net.specs.Counts.{Rose}
use Rattle.item_model.specs.declared.changes.Entry.{Entry}
use Rattle.command_core.specs.declared.fault.Fault.{Fault}
use Rattle.command_core.specs.declared.fault.Fault.TheVariants.{Own, Read, Memory}
use Rattle.command_core.specs.declared.outcome.Outcome.{Outcome}
use Rattle.command_core.specs.Seen.{InputSeen, OutputSeen, Seen, ShareSeen, no_share, Run}
use Rattle.command_core.specs.Faults.{memory_line, fault_line, fault_status}
use Rattle.command_core.specs.Causes.{Cause, OfWords, OfInput, HasCause, StopsAtCause}
use Rattle.command_core.specs.Meanings.{Meaning, IsCause}
use Rattle.command_core.specs.Endings.{Ending, Done, OutputCut, Refused, LineCut, ending_status, IsWritten, IsCut, IsRefused, EndsAs, HasEnding, DecidesStatus, IsDecided, share_of, IsAnswered}
use Rattle.command_core.specs.Answers.{Writes, WritesDone, WritesMemory, WritesError}
use Rattle.command_core.proofs.Sensible.{IsSensible, WritesOnce}
use Rattle.command_core.proofs.Appending.{written_more, cut_more, none_written}

abbrev share_with_of : Option (List Entry) → ShareSeen
share_with_of history = record { history = history }

-- ---- what the end says

-- arguments and input say the cause of an own error, if the input is known
said_by : (c : Cause) (reads_on : List ℕ → Type 0) (input : List ℕ) (before after : InputSeen) → before.left ≡ Some input → StopsAtCause reads_on c before after → HasCause c input
said_by (OfWords words) reads_on input before after told cause = cause.0
said_by (OfInput words said) reads_on input before after told cause = (cause.words, subst (λ left. IfSome left said) told cause.said)

-- if no read failed, the error is one that arguments and input say, or out of memory
said : (m : Meaning) (input : List ℕ) (before after : Seen) (fault : Fault m.fault) → before.input.left ≡ Some input
    → ¬ (Rose before.input.faults after.input.faults) → IsCause m before after fault
    → (fault ≡ Memory) ⊎ ((own : m.fault) × (fault ≡ Own own) × HasCause (m.cause own) input)
said m input before after (Own own) told steady cause = inr (own, refl, said_by (m.cause own) m.reads_on input before.input after.input told cause)
said m input before after Read told steady cause = absurd (steady cause.rose)
said m input before after Memory told steady cause = inl refl

decided_by : (m : Meaning) → IsSensible m → (input : List ℕ) (fault : Fault m.fault) (status : ℕ) → status ≡ fault_status m.status fault
    → (fault ≡ Memory) ⊎ ((own : m.fault) × (fault ≡ Own own) × HasCause (m.cause own) input) → DecidesStatus m input status
decided_by m sense input fault status s (inl is) =
    let want : status ≡ 9 = s ∙ ap (fault_status m.status) is in
    record { done = λ _. inr want; refused = λ _ _. inr want }
decided_by m sense input fault status s (inr says) =
    let own : status ≡ m.status says.0 = s ∙ ap (fault_status m.status) says.1 in
    record {
      done = λ gives. absurd (sense.not_both input says.0 says.2 gives);
      refused = λ other says_other. inl (own ∙ sense.one_status input says.0 other says.2 says_other);
    }

decides : (m : Meaning) → IsSensible m → (input : List ℕ) (told : Run) (status : ℕ) (share : ShareSeen) → told.before.input.left ≡ Some input
    → ¬ (Rose told.before.input.faults told.after.input.faults) → ¬ (Rose told.output_before.faults told.output_after.faults)
    → (ending : Ending m.fault) → status ≡ ending_status m ending → EndsAs m told share ending → DecidesStatus m input status
decides m sense input told status share known steady whole (Done output) s h = record {
  done = λ _. inl s;
  refused = λ own says. absurd (sense.not_both input own says (sense.given input told.before told.after share output known h.0));
}
decides m sense input told status share known steady whole (OutputCut output) s h = absurd (whole h.1.rose)
decides m sense input told status share known steady whole (LineCut front fault) s h = absurd (whole h.1.rose)
decides m sense input told status share known steady whole (Refused front fault) s h =
    decided_by m sense input fault status s (said m input told.before told.after fault known steady h.0.cause)

if_told : (m : Meaning) (status : ℕ) (left : Option (List ℕ)) → ((input : List ℕ) → left ≡ Some input → DecidesStatus m input status)
    → IfSome left (λ input. DecidesStatus m input status)
if_told m status None f = tt
if_told m status (Some input) f = f input refl

-- the arguments and the input decide a run that ends as its specification says
pub answered : (m : Meaning) → IsSensible m → (told : Run) (outcome : Outcome) → m.always told outcome → HasEnding m told outcome.status (share_of outcome) → IsAnswered m told outcome
answered m sense told outcome always ends = record {
  ends = ends;
  decided = λ steady whole.
      if_told m outcome.status told.before.input.left
      (λ input known. decides m sense input told outcome.status (share_of outcome) known steady whole ends.0 ends.1 ends.2);
  always = always;
}

-- ---- the ends

-- the command succeeded, and all of its output was written
pub by_done : (m : Meaning) → IsSensible m → (told : Run) (outcome : Outcome) (output : List ℕ) → m.always told outcome
    → m.is_done told.before told.after (share_of outcome) output → outcome.status ≡ 0 → IsWritten told.output_before told.output_after output → IsAnswered m told outcome
by_done m sense told outcome output always done s w = answered m sense told outcome always (Done output, s, (done, w))

-- the output failed
pub by_cut : (m : Meaning) → IsSensible m → (told : Run) (outcome : Outcome) (output : List ℕ) → m.always told outcome
    → m.is_begun told.before told.after (share_of outcome) output → outcome.status ≡ 5 → IsCut told.output_before told.output_after output → IsAnswered m told outcome
by_cut m sense told outcome output always begun s w = answered m sense told outcome always (OutputCut output, s, (begun, w))

-- the line of an error ends a run, after what was written before
by_line : (m : Meaning) → IsSensible m → (told : Run) (mid : OutputSeen) (outcome : Outcome) (front : List ℕ) (fault : Fault m.fault) → m.always told outcome
    → IsRefused m told (share_of outcome) front fault → IsWritten told.output_before mid front
    → Writes (fault_status m.status fault) (fault_line m.line fault) mid told.output_after outcome.status → IsAnswered m told outcome
by_line m sense told mid outcome front fault always refused w (inl t) =
    answered m sense told outcome always (Refused front fault, t.0, (refused, written_more told.output_before mid told.output_after front (fault_line m.line fault) w t.1))
by_line m sense told mid outcome front fault always refused w (inr t) =
    answered m sense told outcome always (LineCut front fault, t.0, (refused, cut_more told.output_before mid told.output_after front (fault_line m.line fault) w t.1))

-- the line of out of memory ends a run
pub by_memory : (m : Meaning) → IsSensible m → (told : Run) (mid : OutputSeen) (outcome : Outcome) (front : List ℕ) (history : Option (List Entry)) → m.always told outcome
    → m.may_want told.before told.after → m.leaves told.before told.after Memory (share_with_of history) → m.is_front told.before told.after Memory front
    → IsWritten told.output_before mid front → WritesMemory history mid told.output_after outcome → IsAnswered m told outcome
by_memory m sense told mid outcome front history always wants share before w t =
    by_line m sense told mid outcome front Memory always (record {
      cause = wants;
      left = subst (λ h. m.leaves told.before told.after Memory (share_with_of h)) (sym t.history) share;
      written = before;
    }) w t.told

-- an error ends the command, and an allocation for its line may fail
pub by_fault : (m : Meaning) → IsSensible m → (told : Run) (mid : OutputSeen) (outcome : Outcome) (front : List ℕ) (fault : Fault m.fault) → m.always told outcome
    → IsCause m told.before told.after fault → m.leaves told.before told.after fault no_share → m.is_front told.before told.after fault front
    → IsWritten told.output_before mid front → WritesError m.line m.status fault mid told.output_after outcome → IsAnswered m told outcome
by_fault m sense told mid outcome front fault always cause unopened before w t = at_line t.told
  where
    share : m.leaves told.before told.after fault (share_of outcome)
    share = subst (λ h. m.leaves told.before told.after fault (share_with_of h)) (sym t.unopened) unopened

    at_line : Writes (fault_status m.status fault) (fault_line m.line fault) mid told.output_after outcome.status ⊎ Writes 9 memory_line mid told.output_after outcome.status
        → IsAnswered m told outcome
    at_line (inl line) = by_line m sense told mid outcome front fault always (record { cause = cause; left = share; written = before }) w line
    at_line (inr line) =
        by_line m sense told mid outcome front Memory always (record {
          cause = sense.wants told.before told.after fault cause;
          left = sense.wants_share told.before told.after fault (share_of outcome) share;
          written = sense.wants_front told.before told.after fault front before;
        }) w line

-- out of memory, before anything was done
pub by_idle : (m : Meaning) → IsSensible m → (told : Run) (outcome : Outcome) → told.after ≡ told.before → WritesMemory None told.output_before told.output_after outcome
    → IsAnswered m told outcome
by_idle m sense told outcome same t =
    by_memory m sense told told.output_before outcome [] None (sense.idle_always told outcome same t)
    (subst (λ after. m.may_want told.before after) (sym same) (sense.idle told.before))
    (subst (λ after. m.leaves told.before after Memory no_share) (sym same) (sense.idle_share told.before))
    (subst (λ after. m.is_front told.before after Memory []) (sym same) (sense.idle_front told.before)) (none_written told.output_before) t

-- the output of a command that writes once was written
pub by_output : (m : Meaning) → WritesOnce m → (told : Run) (outcome : Outcome) (history : Option (List Entry)) (bytes : List ℕ)
    → m.is_done told.before told.after (share_with_of history) bytes → WritesDone history bytes told.output_before told.output_after outcome → IsAnswered m told outcome
by_output m once told outcome history bytes done t = at_output t.told
  where
    is_done : m.is_done told.before told.after (share_of outcome) bytes
    is_done = subst (λ h. m.is_done told.before told.after (share_with_of h) bytes) (sym t.history) done

    at_output : Writes 0 bytes told.output_before told.output_after outcome.status → IsAnswered m told outcome
    at_output (inl w) = by_done m once.sensible told outcome bytes (once.always told outcome) is_done w.0 w.1
    at_output (inr w) = by_cut m once.sensible told outcome bytes (once.always told outcome) (once.begun told.before told.after (share_of outcome) bytes is_done) w.0 w.1

-- the line of its error was written
pub by_refusal : (m : Meaning) → WritesOnce m → (told : Run) (outcome : Outcome) (fault : Fault m.fault) → IsCause m told.before told.after fault
    → WritesError m.line m.status fault told.output_before told.output_after outcome → IsAnswered m told outcome
by_refusal m once told outcome fault cause t =
    by_fault m once.sensible told told.output_before outcome [] fault (once.always told outcome) cause (once.unopened told.before told.after fault) (once.front told.before told.after fault)
    (none_written told.output_before) t

-- the end of a command that opens no share
pub by_answer : (m : Meaning) → WritesOnce m → (told : Run) (outcome : Outcome) (answer : Result (Vec ℕ Global) (Fault m.fault))
    → IfOk answer (λ bytes. m.is_done told.before told.after no_share bytes.items)
    → IfErr answer (λ fault. IsCause m told.before told.after fault)
    → MatchResult answer (λ bytes. WritesDone None bytes.items told.output_before told.output_after outcome)
    (λ fault. WritesError m.line m.status fault told.output_before told.output_after outcome)
    → IsAnswered m told outcome
by_answer m once told outcome (Ok bytes) done cause t = by_output m once told outcome None bytes.items done t
by_answer m once told outcome (Err fault) done cause t = by_refusal m once told outcome fault cause t
