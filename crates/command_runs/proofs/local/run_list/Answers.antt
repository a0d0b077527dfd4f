use Rattle.std.proofs.Common.{ℕ, List, Option, option_copied, subst}
use Rattle.item_model.specs.declared.request.Target.{Target}
use Rattle.command_core.specs.Seen.{Run, input_seen, output_seen, run_over_streams}
use Rattle.command_core.specs.Endings.{IsAnswered}
use Rattle.share_commands.specs.ListShare.{list_meaning}
use Rattle.command_runs.proofs.local.run_list.Goals as goal

pub returns : goal.returns
returns g c =
    let words = c.args.words.now in
    let meta = option_copied c.as_ref-2.result in
    λ around.
    let told : Run = run_over_streams around
    (input_seen (g.I.Source.left c.args.input.now) (g.I.Faulted.faults c.args.input.now)) (input_seen (g.I.Source.left c.list_share.new.input) (g.I.Faulted.faults c.list_share.new.input))
    (output_seen (g.W.Sink.taken c.args.output.now) (g.W.Faulted.faults c.args.output.now)) (output_seen (g.W.Sink.taken c.list_share.new.output) (g.W.Faulted.faults c.list_share.new.output)) in
    subst (λ (t : Target). IsAnswered (list_meaning words.query words.meta t) told c.list_share.result) c.target_of.ensures
    (subst (λ (m : Option (List ℕ)). IsAnswered (list_meaning words.query m c.target_of.result) told c.list_share.result) c.as_ref-2.ensures.value
    (subst (λ (q : Option (List ℕ)). IsAnswered (list_meaning q meta c.target_of.result) told c.list_share.result) c.as_ref.ensures.value (c.list_share.ensures around)))
