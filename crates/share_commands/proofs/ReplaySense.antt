-- The specification of `replay` is sensible: an input has one status, and no error if the command succeeds.
use Rattle.std.proofs.Common.{◌≡◌, ℕ, List, None, inl, refl, sym, subst, arith}
use Rattle.std.specs.Prelude.{Result, Ok, Err}
use Rattle.command_core.specs.declared.fault.Fault.{Fault}
use Rattle.command_core.specs.declared.fault.Fault.TheVariants.{Own, Read, Memory}
use Rattle.command_core.specs.declared.outcome.Outcome.{Outcome}
use Rattle.command_core.specs.Answers.{WritesError, WritesMemory}
use Rattle.command_core.specs.Seen.{Seen, ShareSeen, Run}
use Rattle.command_core.specs.Causes.{HasCause}
use Rattle.command_core.proofs.Reading.{read_whole}
use Rattle.command_core.proofs.Sensible.{IsSensible}
use Rattle.share_replay.specs.Scripts.{script_of}
use Rattle.share_replay.specs.declared.delivery.Delivery.{Delivery}
use Rattle.share_replies.specs.Settings.{Settings}
use Rattle.share_commands.specs.ReadScript.{ReadsAs}
use Rattle.share_commands.specs.ReplayShare.{IsScript, LeavesMoment, ReplayLeaves, ReplayWrote, replay_cause, replay_line, replay_meaning, replay_status, settings_of}
use Rattle.share_commands.specs.declared.replay.ReplayFault.{ReplayFault}
use Rattle.share_commands.specs.declared.replay.ReplayFault.TheVariants.{TooLong, Line}

-- an input that is too long has no bad line
one_replay_status : (input : List ℕ) (one other : ReplayFault) → HasCause (replay_cause one) input → HasCause (replay_cause other) input → replay_status one ≡ replay_status other
one_replay_status input TooLong TooLong says said = refl
one_replay_status input TooLong (Line line) says said = let within = said.1.within in let long = says.1 in absurd (omega arith)
one_replay_status input (Line line) TooLong says said = let within = says.1.within in let long = said.1 in absurd (omega arith)
one_replay_status input (Line line) (Line other) says said = refl

read_or_bad : (r : Result (List Delivery) ℕ) (lines : List Delivery) (line : ℕ) → r ≡ Ok lines → r ≡ Err line → ⊥
read_or_bad r lines line reads bad = absurd (cc)

no_replay_fault : (input : List ℕ) (own : ReplayFault) → HasCause (replay_cause own) input → IsScript input → ⊥
no_replay_fault input TooLong says script = let within = script.reads.within in let long = says.1 in absurd (omega arith)
no_replay_fault input (Line line) says script = read_or_bad (script_of input) script.lines line script.reads.read says.1.bad

wrote : (keep : ℕ) (name : List ℕ) (before after : Seen) (fault : Fault ReplayFault) (front : List ℕ) → ReplayWrote keep name before after fault front
    → ReplayWrote keep name before after Memory front
wrote keep name before after (Own own) front w = inl w
wrote keep name before after Read front w = inl w
wrote keep name before after Memory front w = w

leaves : (keep : ℕ) (name : List ℕ) (before after : Seen) (fault : Fault ReplayFault) (share : ShareSeen) → ReplayLeaves keep name before after fault share
    → ReplayLeaves keep name before after Memory share
leaves keep name before after (Own own) share l = inl l
leaves keep name before after Read share l = inl l
leaves keep name before after Memory share l = l

-- if no share was opened, only the line of an error was written
pub unplayed : (s : Settings) (told : Run) (outcome : Outcome) (fault : Fault ReplayFault) → WritesError replay_line replay_status fault told.output_before told.output_after outcome
    → LeavesMoment s told outcome outcome.history
unplayed s told outcome fault tells = subst (LeavesMoment s told outcome) (sym tells.unopened) (fault, tells)

pub unplayed_idle : (s : Settings) (told : Run) (outcome : Outcome) → WritesMemory None told.output_before told.output_after outcome → LeavesMoment s told outcome outcome.history
unplayed_idle s told outcome t = unplayed s told outcome Memory (record { unopened = t.history; told = inl t.told })

pub replay_sense : (keep : ℕ) (name : List ℕ) → IsSensible (replay_meaning keep name)
replay_sense keep name = record {
  wants = λ before after fault cause. tt;
  wants_front = wrote keep name;
  wants_share = leaves keep name;
  idle = λ seen. tt;
  idle_front = λ seen. inl refl;
  idle_share = λ seen. inl refl;
  idle_always = λ told outcome same t. unplayed_idle (settings_of keep name) told outcome t;
  one_status = one_replay_status;
  not_both = no_replay_fault;
  given = λ input before after share output told played. record {
    lines = played.lines;
    reads =
        subst (ReadsAs played.lines) (sym (read_whole input played.read.bytes before.input.left after.input.left told played.read.read played.read.end))
        played.read.script;
  };
}
