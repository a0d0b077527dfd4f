use Rattle.std.proofs.Common.{sym, subst}
use Rattle.command_core.specs.Seen.{Run, input_seen, output_seen, run_over_streams}
use Rattle.command_core.specs.Endings.{IsAnswered}
use Rattle.daapshare_words.specs.Words.{IsLocalRanged}
use Rattle.daapshare_words.specs.declared.command.LocalCommand.{LocalCommand}
use Rattle.command_runs.specs.Table.{meaning_of}
use Rattle.command_runs.proofs.local.run_local.Goals as goal

pub returns-in-List : goal.returns-in-List
returns-in-List g c =
    λ around.
    let told : Run = run_over_streams around
    (input_seen (g.I.Source.left c.args.input.now) (g.I.Faulted.faults c.args.input.now)) (input_seen (g.I.Source.left c.run_list.new.input) (g.I.Faulted.faults c.run_list.new.input))
    (output_seen (g.W.Sink.taken c.args.output.now) (g.W.Faulted.faults c.args.output.now)) (output_seen (g.W.Sink.taken c.run_list.new.output) (g.W.Faulted.faults c.run_list.new.output)) in
    subst (λ (asked : LocalCommand). IsAnswered (meaning_of asked) told c.run_list.result) (sym c.in-List.is)
    (c.run_list.ensures around)

pub returns-in-Show : goal.returns-in-Show
returns-in-Show g c =
    λ around.
    let told : Run = run_over_streams around
    (input_seen (g.I.Source.left c.args.input.now) (g.I.Faulted.faults c.args.input.now)) (input_seen (g.I.Source.left c.run_show.new.input) (g.I.Faulted.faults c.run_show.new.input))
    (output_seen (g.W.Sink.taken c.args.output.now) (g.W.Faulted.faults c.args.output.now)) (output_seen (g.W.Sink.taken c.run_show.new.output) (g.W.Faulted.faults c.run_show.new.output)) in
    subst (λ (asked : LocalCommand). IsAnswered (meaning_of asked) told c.run_show.result) (sym c.in-Show.is)
    (c.run_show.ensures around)

pub returns-in-Check : goal.returns-in-Check
returns-in-Check g c =
    λ around.
    let told : Run = run_over_streams around
    (input_seen (g.I.Source.left c.args.input.now) (g.I.Faulted.faults c.args.input.now)) (input_seen (g.I.Source.left c.check_tags.new.input) (g.I.Faulted.faults c.check_tags.new.input))
    (output_seen (g.W.Sink.taken c.args.output.now) (g.W.Faulted.faults c.args.output.now)) (output_seen (g.W.Sink.taken c.check_tags.new.output) (g.W.Faulted.faults c.check_tags.new.output)) in
    subst (λ (asked : LocalCommand). IsAnswered (meaning_of asked) told c.check_tags.result) (sym c.in-Check.is)
    (c.check_tags.ensures around)

pub returns-in-Codes : goal.returns-in-Codes
returns-in-Codes g c =
    λ around.
    let told : Run = run_over_streams around
    (input_seen (g.I.Source.left c.args.input.now) (g.I.Faulted.faults c.args.input.now)) (input_seen (g.I.Source.left c.run_codes.new.input) (g.I.Faulted.faults c.run_codes.new.input))
    (output_seen (g.W.Sink.taken c.args.output.now) (g.W.Faulted.faults c.args.output.now)) (output_seen (g.W.Sink.taken c.run_codes.new.output) (g.W.Faulted.faults c.run_codes.new.output)) in
    subst (λ (asked : LocalCommand). IsAnswered (meaning_of asked) told c.run_codes.result) (sym c.in-Codes.is)
    (c.run_codes.ensures around)

pub returns-in-Replay : goal.returns-in-Replay
returns-in-Replay g c =
    λ around.
    let told : Run = run_over_streams around
    (input_seen (g.I.Source.left c.args.input.now) (g.I.Faulted.faults c.args.input.now)) (input_seen (g.I.Source.left c.run_replay.new.input) (g.I.Faulted.faults c.run_replay.new.input))
    (output_seen (g.W.Sink.taken c.args.output.now) (g.W.Faulted.faults c.args.output.now)) (output_seen (g.W.Sink.taken c.run_replay.new.output) (g.W.Faulted.faults c.run_replay.new.output)) in
    subst (λ (asked : LocalCommand). IsAnswered (meaning_of asked) told c.run_replay.result) (sym c.in-Replay.is)
    (c.run_replay.ensures around)

pub returns-in-Rehearse : goal.returns-in-Rehearse
returns-in-Rehearse g c =
    λ around.
    let told : Run = run_over_streams around
    (input_seen (g.I.Source.left c.args.input.now) (g.I.Faulted.faults c.args.input.now)) (input_seen (g.I.Source.left c.run_rehearse.new.input) (g.I.Faulted.faults c.run_rehearse.new.input))
    (output_seen (g.W.Sink.taken c.args.output.now) (g.W.Faulted.faults c.args.output.now)) (output_seen (g.W.Sink.taken c.run_rehearse.new.output) (g.W.Faulted.faults c.run_rehearse.new.output)) in
    subst (λ (asked : LocalCommand). IsAnswered (meaning_of asked) told c.run_rehearse.result) (sym c.in-Rehearse.is)
    (c.run_rehearse.ensures around)

pub returns-in-Json : goal.returns-in-Json
returns-in-Json g c =
    λ around.
    let told : Run = run_over_streams around
    (input_seen (g.I.Source.left c.args.input.now) (g.I.Faulted.faults c.args.input.now)) (input_seen (g.I.Source.left c.run_json.new.input) (g.I.Faulted.faults c.run_json.new.input))
    (output_seen (g.W.Sink.taken c.args.output.now) (g.W.Faulted.faults c.args.output.now)) (output_seen (g.W.Sink.taken c.run_json.new.output) (g.W.Faulted.faults c.run_json.new.output)) in
    subst (λ (asked : LocalCommand). IsAnswered (meaning_of asked) told c.run_json.result) (sym c.in-Json.is)
    (c.run_json.ensures around)

pub run_replay-requires : goal.run_replay-requires
run_replay-requires g c = subst (λ (asked : LocalCommand). IsLocalRanged asked) c.in-Replay.is c.requires

pub run_rehearse-requires : goal.run_rehearse-requires
run_rehearse-requires g c = subst (λ (asked : LocalCommand). IsLocalRanged asked) c.in-Rehearse.is c.requires
