-- Out of memory, before anything was done, is an end of every command.
use Rattle.std.proofs.Common.{◌≡◌, Option, Some, None, [], refl, sym, subst, ap, inl, inr, arith}
use Rattle.command_core.proofs.Ended.{by_idle}
use Rattle.command_core.proofs.Sensible.{IsSensible}
use Rattle.command_core.specs.declared.fault.Fault.TheVariants.{Memory}
use Rattle.command_core.specs.declared.outcome.Outcome.{Outcome as CoreOutcome}
use Rattle.command_core.specs.Answers.{WritesMemory}
use Rattle.command_core.specs.Endings.{IsAnswered}
use Rattle.command_core.specs.Meanings.{Meaning}
use Rattle.command_core.specs.Seen.{NetSeen, Seen, Run}
use Rattle.link_commands.proofs.FollowFacts.{follow_idle}
use Rattle.link_commands.proofs.PushFacts.{edit_idle}
use Rattle.relay_command.specs.declared.terms.Relaying.{Relaying}
use Rattle.relay_command.specs.Places.{FailsToOpen}
use Rattle.relay_command.specs.Runs.{unopened}
use Rattle.serve_command.proofs.Idle.{by_idle as serve_idle}
use Rattle.share_crew.proofs.Nets.{grows_none}
use Rattle.daapshare_words.specs.declared.command.Command.{Command}
use Rattle.daapshare_words.specs.declared.command.Command.TheVariants.{Local, Net}
use Rattle.daapshare_words.specs.declared.command.NetCommand.{NetCommand}
use Rattle.daapshare_words.specs.declared.command.NetCommand.TheVariants as net
use Rattle.command_runs.specs.declared.outcome.Outcome.{Outcome}
use Rattle.command_runs.specs.Left.{HasNoLinks, core_of, serve_outcome_of}
use Rattle.command_runs.specs.Table.{meaning_of, relaying_of, serving_of, target_of, IsRelayed, IsRun, IsRunOverNet}
use Rattle.command_runs.specs.Usage.{usage_meaning}
use Rattle.command_runs.proofs.Senses.{usage_sense, sense_of}

-- neither `connect` nor `listen` was called
no_place : (relaying : Relaying) (net : NetSeen) → FailsToOpen relaying net net Memory
no_place relaying net = record {
  count = 0;
  few = omega arith;
  asked = grows_none net.asked;
  written = grows_none net.written;
  stops = inr (refl, refl);
}

module _ (told : Run) (outcome : Outcome) (same : told.after ≡ told.before) (none : outcome.links ≡ []) (t : WritesMemory None told.output_before told.output_after (core_of outcome)) where
  idle_alone : (m : Meaning) → IsSensible m → HasNoLinks (IsAnswered m told) outcome
  idle_alone m sense = (none, by_idle m sense told (core_of outcome) same t)

  idle_relay : (relaying : Relaying) → IsRelayed relaying told outcome
  idle_relay relaying = record {
    unread = record { left = ap (λ (s : Seen). s.input.left) same; faults = ap (λ (s : Seen). s.input.faults) same };
    files = ap (λ (s : Seen). s.around.files) same;
    ends = unopened Memory (subst (λ (s : Seen). FailsToOpen relaying told.before.around.net s.around.net Memory) (sym same) (no_place relaying told.before.around.net))
        (inl t.told) (record { history = t.history; links = none });
  }

  idle_net : (command : NetCommand) → IsRunOverNet command told outcome
  idle_net (net.Serve words) = serve_idle (serving_of words) told (serve_outcome_of outcome) same t.told (record { history = t.history; links = none })
  idle_net (net.Edit words) = (none, edit_idle words.place words.stop told (core_of outcome) same t)
  idle_net (net.Follow words) = (none, follow_idle words.place words.rounds words.query words.meta (target_of words.list) told (core_of outcome) same t)
  idle_net (net.Relay words) = idle_relay (relaying_of words)

  idle_ended : (asked : Option Command) → IsRun asked told outcome
  idle_ended None = idle_alone usage_meaning usage_sense.sensible
  idle_ended (Some (Local command)) = idle_alone (meaning_of command) (sense_of command)
  idle_ended (Some (Net command)) = record { ranged = inr (record { same = same; unlinked = none; memory = t }); ends = idle_net command }

pub idle_run : (asked : Option Command) (told : Run) (outcome : Outcome) (ended : CoreOutcome) → told.after ≡ told.before → core_of outcome ≡ ended → outcome.links ≡ []
    → WritesMemory None told.output_before told.output_after ended → IsRun asked told outcome
idle_run asked told outcome ended same is none t =
    idle_ended told outcome same none (subst (λ (e : CoreOutcome). WritesMemory None told.output_before told.output_after e) (sym is) t) asked
