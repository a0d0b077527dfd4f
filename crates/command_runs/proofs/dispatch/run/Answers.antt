use Rattle.std.proofs.Common.{Some, inl, refl, sym, subst, ap, ◌∙◌}
use Rattle.command_core.proofs.Ended.{by_refusal}
use Rattle.command_core.specs.declared.fault.Fault.TheVariants.{Own}
use Rattle.command_core.specs.declared.outcome.Outcome.{Outcome as CoreOutcome}
use Rattle.command_core.specs.Endings.{IsAnswered}
use Rattle.command_core.specs.Seen.{FilesSeen, NetSeen, Run, files_seen, input_seen, net_seen, output_seen, seen_of, run_of}
use Rattle.daapshare_words.specs.Grammar.{texts_of}
use Rattle.daapshare_words.specs.Words.{IsRanged, command_of}
use Rattle.daapshare_words.specs.declared.command.Command.{Command}
use Rattle.command_runs.specs.declared.usage.UsageFault.TheVariants.{NoCommand}
use Rattle.command_runs.specs.Table.{leaves_files, meaning_of, IsRun}
use Rattle.command_runs.specs.Usage.{usage_meaning}
use Rattle.command_runs.proofs.Idle.{idle_run}
use Rattle.command_runs.proofs.Senses.{usage_sense}
use Rattle.command_runs.proofs.dispatch.run.Goals as goal

pub returns-in-Ok-Local-clause-answered : goal.returns-in-Ok-Local-clause-answered
returns-in-Ok-Local-clause-answered g c =
    let files : FilesSeen = files_seen (g.F.Files.asked c.args.files.now) (g.F.Files.contents c.args.files.now) (g.F.Faulted.faults c.args.files.now) in
    let net : NetSeen = net_seen (g.N.Net.asked c.args.net.now) (g.N.Net.written c.args.net.now) (g.N.Net.listener_links c.args.net.now) (g.N.Net.next_input c.args.net.now) (g.N.Faulted.faults c.args.net.now) in
    let told : Run = run_of (seen_of (input_seen (g.I.Source.left c.args.input.now) (g.I.Faulted.faults c.args.input.now)) files net)
    (seen_of (input_seen (g.I.Source.left c.run_local.new.input) (g.I.Faulted.faults c.run_local.new.input)) files net)
    (output_seen (g.W.Sink.taken c.args.output.now) (g.W.Faulted.faults c.args.output.now)) (output_seen (g.W.Sink.taken c.run_local.new.output) (g.W.Faulted.faults c.run_local.new.output)) in
    subst (λ asked. IsRun asked told c.without_links.result) (sym c.in-Ok-Local.ensures.read)
    (subst (λ (command : Command). IsRun (Some command) told c.without_links.result) (sym c.in-Ok-Local.field-0-is)
    (c.without_links.ensures.unlinked, subst (λ (ended : CoreOutcome). IsAnswered (meaning_of c.in-Ok-Local.command) told ended) (sym c.without_links.ensures.ended) (c.run_local.ensures (record { files = files; net = net }))))

pub returns-in-Ok-Net-clause-answered : goal.returns-in-Ok-Net-clause-answered
returns-in-Ok-Net-clause-answered g c =
    let files : FilesSeen = files_seen (g.F.Files.asked c.args.files.now) (g.F.Files.contents c.args.files.now) (g.F.Faulted.faults c.args.files.now) in
    let net : NetSeen = net_seen (g.N.Net.asked c.args.net.now) (g.N.Net.written c.args.net.now) (g.N.Net.listener_links c.args.net.now) (g.N.Net.next_input c.args.net.now) (g.N.Faulted.faults c.args.net.now) in
    let new = c.run_net.new.files in
    let files_after : FilesSeen = files_seen (g.F.Files.asked new) (g.F.Files.contents new) (g.F.Faulted.faults new) in
    let net_after : NetSeen = net_seen (g.N.Net.asked c.run_net.new.net) (g.N.Net.written c.run_net.new.net) (g.N.Net.listener_links c.run_net.new.net) (g.N.Net.next_input c.run_net.new.net) (g.N.Faulted.faults c.run_net.new.net) in
    let told : Run = run_of (seen_of (input_seen (g.I.Source.left c.args.input.now) (g.I.Faulted.faults c.args.input.now)) files net)
    (seen_of (input_seen (g.I.Source.left c.run_net.new.input) (g.I.Faulted.faults c.run_net.new.input)) files_after net_after)
    (output_seen (g.W.Sink.taken c.args.output.now) (g.W.Faulted.faults c.args.output.now)) (output_seen (g.W.Sink.taken c.run_net.new.output) (g.W.Faulted.faults c.run_net.new.output)) in
    subst (λ asked. IsRun asked told c.run_net.result) (sym c.in-Ok-Net.ensures.read)
    (subst (λ (command : Command). IsRun (Some command) told c.run_net.result) (sym c.in-Ok-Net.field-0-is)
    (record { ranged = inl (subst IsRanged c.in-Ok-Net.field-0-is c.in-Ok-Net.ensures.ranged); ends = c.run_net.ensures.answered }))

pub returns-in-Err-Usage-clause-answered : goal.returns-in-Err-Usage-clause-answered
returns-in-Err-Usage-clause-answered g c =
    let files : FilesSeen = files_seen (g.F.Files.asked c.args.files.now) (g.F.Files.contents c.args.files.now) (g.F.Faulted.faults c.args.files.now) in
    let net : NetSeen = net_seen (g.N.Net.asked c.args.net.now) (g.N.Net.written c.args.net.now) (g.N.Net.listener_links c.args.net.now) (g.N.Net.next_input c.args.net.now) (g.N.Faulted.faults c.args.net.now) in
    let told : Run = run_of (seen_of (input_seen (g.I.Source.left c.args.input.now) (g.I.Faulted.faults c.args.input.now)) files net)
    (seen_of (input_seen (g.I.Source.left c.args.input.now) (g.I.Faulted.faults c.args.input.now)) files net)
    (output_seen (g.W.Sink.taken c.args.output.now) (g.W.Faulted.faults c.args.output.now)) (output_seen (g.W.Sink.taken c.write_error.new.output) (g.W.Faulted.faults c.write_error.new.output)) in
    subst (λ asked. IsRun asked told c.without_links-in-Err-Usage.result) (sym (c.in-Err-Usage.ensures.usage c.in-Err-Usage.field-0-is)) (
      c.without_links-in-Err-Usage.ensures.unlinked,
      subst (λ (ended : CoreOutcome). IsAnswered usage_meaning told ended) (sym c.without_links-in-Err-Usage.ensures.ended)
          (by_refusal usage_meaning usage_sense told c.write_error.result (Own NoCommand) (tt, record { left = refl; faults = refl }) c.write_error.ensures),
    )

pub returns-in-Err-Memory-clause-answered : goal.returns-in-Err-Memory-clause-answered
returns-in-Err-Memory-clause-answered g c =
    let asked = command_of (texts_of c.args.words.now) in
    let files : FilesSeen = files_seen (g.F.Files.asked c.args.files.now) (g.F.Files.contents c.args.files.now) (g.F.Faulted.faults c.args.files.now) in
    let net : NetSeen = net_seen (g.N.Net.asked c.args.net.now) (g.N.Net.written c.args.net.now) (g.N.Net.listener_links c.args.net.now) (g.N.Net.next_input c.args.net.now) (g.N.Faulted.faults c.args.net.now) in
    let told : Run = run_of (seen_of (input_seen (g.I.Source.left c.args.input.now) (g.I.Faulted.faults c.args.input.now)) files net)
    (seen_of (input_seen (g.I.Source.left c.args.input.now) (g.I.Faulted.faults c.args.input.now)) files net)
    (output_seen (g.W.Sink.taken c.args.output.now) (g.W.Faulted.faults c.args.output.now)) (output_seen (g.W.Sink.taken c.out_of_memory.new.output) (g.W.Faulted.faults c.out_of_memory.new.output)) in
    idle_run asked told c.without_links-in-Err-Memory.result c.out_of_memory.result refl c.without_links-in-Err-Memory.ensures.ended c.without_links-in-Err-Memory.ensures.unlinked c.out_of_memory.ensures

pub returns-in-Ok-Net-clause-files : goal.returns-in-Ok-Net-clause-files
returns-in-Ok-Net-clause-files g c = λ leaves.
    c.run_net.ensures.files (ap (λ (command : Command). leaves_files (Some command)) (sym c.in-Ok-Net.field-0-is) ∙ (ap leaves_files (sym c.in-Ok-Net.ensures.read) ∙ leaves))
