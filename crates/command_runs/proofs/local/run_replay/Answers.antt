use Rattle.std.proofs.Common.{◌≤◌, ℕ, length, List, sym, subst}
use Rattle.std.proofs.lemmas.Bool.{leb-true}
use Rattle.command_core.specs.Seen.{Run, input_seen, output_seen, run_over_streams}
use Rattle.command_core.specs.Endings.{IsAnswered}
use Rattle.share_commands.specs.ReplayShare.{replay_meaning}
use Rattle.command_runs.proofs.local.run_replay.Goals as goal

pub replay_script-requires-clause-short : goal.replay_script-requires-clause-short
replay_script-requires-clause-short g c = subst (λ (name : List ℕ). length name ≤ 255) (sym c.as_str.ensures) (leb-true _ _ c.requires.name)

pub returns : goal.returns
returns g c =
    let words = c.args.words.now in
    λ around.
    let told : Run = run_over_streams around
    (input_seen (g.I.Source.left c.args.input.now) (g.I.Faulted.faults c.args.input.now)) (input_seen (g.I.Source.left c.replay_script.new.input) (g.I.Faulted.faults c.replay_script.new.input))
    (output_seen (g.W.Sink.taken c.args.output.now) (g.W.Faulted.faults c.args.output.now)) (output_seen (g.W.Sink.taken c.replay_script.new.output) (g.W.Faulted.faults c.replay_script.new.output)) in
    subst (λ (name : List ℕ). IsAnswered (replay_meaning words.keep name) told c.replay_script.result) c.as_str.ensures (c.replay_script.ensures around)
