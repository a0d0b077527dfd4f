use Rattle.std.proofs.Common.{ℕ, List, Option, option_copied, refl, sym, subst}
use Rattle.item_model.specs.declared.request.Target.{Target}
use Rattle.command_core.specs.declared.outcome.Outcome.{Outcome as CoreOutcome}
use Rattle.command_core.specs.Seen.{FilesSeen, NetSeen, Run, files_seen, input_seen, net_seen, output_seen, seen_of, run_of}
use Rattle.link_commands.specs.EditShare.{edit_meaning}
use Rattle.link_commands.specs.FollowShare.{follow_meaning}
use Rattle.link_commands.specs.Meanings.{IsLinkAnswered}
use Rattle.relay_command.specs.declared.terms.Relaying.{Relaying}
use Rattle.relay_command.specs.Runs.{RelayEnds}
use Rattle.serve_command.specs.declared.terms.Serving.{Serving}
use Rattle.serve_command.specs.Outcomes.{outcome_of}
use Rattle.serve_command.specs.Runs.{ServeOutcome, ServeEnds}
use Rattle.share_crew.specs.declared.outcome.Outcome.{Outcome as CrewOutcome}
use Rattle.daapshare_words.specs.declared.command.NetCommand.{NetCommand}
use Rattle.command_runs.specs.Table.{relaying_of, serving_of, target_of, IsRunOverNet}
use Rattle.command_runs.proofs.over_net.run_net.Goals as goal

pub returns-in-Serve-clause-answered : goal.returns-in-Serve-clause-answered
returns-in-Serve-clause-answered g c =
    let old = c.args.files.now in
    let new = c.serve.new.files in
    let files : FilesSeen = files_seen (g.F.Files.asked old) (g.F.Files.contents old) (g.F.Faulted.faults old) in
    let files' : FilesSeen = files_seen (g.F.Files.asked new) (g.F.Files.contents new) (g.F.Faulted.faults new) in
    let before : NetSeen = net_seen (g.N.Net.asked c.args.net.now) (g.N.Net.written c.args.net.now) (g.N.Net.listener_links c.args.net.now) (g.N.Net.next_input c.args.net.now) (g.N.Faulted.faults c.args.net.now) in
    let after : NetSeen = net_seen (g.N.Net.asked c.serve.new.net) (g.N.Net.written c.serve.new.net) (g.N.Net.listener_links c.serve.new.net) (g.N.Net.next_input c.serve.new.net) (g.N.Faulted.faults c.serve.new.net) in
    let told : Run = run_of (seen_of (input_seen (g.I.Source.left c.args.input.now) (g.I.Faulted.faults c.args.input.now)) files before)
    (seen_of (input_seen (g.I.Source.left c.serve.new.input) (g.I.Faulted.faults c.serve.new.input)) files' after)
    (output_seen (g.W.Sink.taken c.args.output.now) (g.W.Faulted.faults c.args.output.now)) (output_seen (g.W.Sink.taken c.serve.new.output) (g.W.Faulted.faults c.serve.new.output)) in
    subst (λ (asked : NetCommand). IsRunOverNet asked told c.with_links.result) (sym c.in-Serve.is)
    (subst (λ (left : ServeOutcome). ServeEnds (serving_of c.in-Serve.words) told left) (sym c.with_links.ensures.served)
    (subst (λ (serving : Serving). ServeEnds serving told (outcome_of c.serve.result)) c.serving_of.ensures.asked c.serve.ensures.ends))

pub returns-in-Edit-clause-answered : goal.returns-in-Edit-clause-answered
returns-in-Edit-clause-answered g c =
    let files : FilesSeen = files_seen (g.F.Files.asked c.args.files.now) (g.F.Files.contents c.args.files.now) (g.F.Faulted.faults c.args.files.now) in
    let before : NetSeen = net_seen (g.N.Net.asked c.args.net.now) (g.N.Net.written c.args.net.now) (g.N.Net.listener_links c.args.net.now) (g.N.Net.next_input c.args.net.now) (g.N.Faulted.faults c.args.net.now) in
    let after : NetSeen = net_seen (g.N.Net.asked c.edit_share-ended.new.net) (g.N.Net.written c.edit_share-ended.new.net) (g.N.Net.listener_links c.edit_share-ended.new.net) (g.N.Net.next_input c.edit_share-ended.new.net) (g.N.Faulted.faults c.edit_share-ended.new.net) in
    let told : Run = run_of (seen_of (input_seen (g.I.Source.left c.args.input.now) (g.I.Faulted.faults c.args.input.now)) files before)
    (seen_of (input_seen (g.I.Source.left c.edit_share-ended.new.input) (g.I.Faulted.faults c.edit_share-ended.new.input)) files after)
    (output_seen (g.W.Sink.taken c.args.output.now) (g.W.Faulted.faults c.args.output.now)) (output_seen (g.W.Sink.taken c.edit_share-ended.new.output) (g.W.Faulted.faults c.edit_share-ended.new.output)) in
    let words = c.in-Edit.words in
    subst (λ (asked : NetCommand). IsRunOverNet asked told c.without_links.result) (sym c.in-Edit.is) (
      c.without_links.ensures.unlinked,
      subst (λ (ended : CoreOutcome). IsLinkAnswered (edit_meaning words.place words.stop) told ended) (sym c.without_links.ensures.ended)
          (subst (λ (place : List ℕ). IsLinkAnswered (edit_meaning place words.stop) told c.edit_share-ended.result) c.as_str.ensures (c.edit_share-ended.ensures.answered files)),
    )

pub returns-in-Follow-clause-answered : goal.returns-in-Follow-clause-answered
returns-in-Follow-clause-answered g c =
    let files : FilesSeen = files_seen (g.F.Files.asked c.args.files.now) (g.F.Files.contents c.args.files.now) (g.F.Faulted.faults c.args.files.now) in
    let before : NetSeen = net_seen (g.N.Net.asked c.args.net.now) (g.N.Net.written c.args.net.now) (g.N.Net.listener_links c.args.net.now) (g.N.Net.next_input c.args.net.now) (g.N.Faulted.faults c.args.net.now) in
    let after : NetSeen = net_seen (g.N.Net.asked c.follow_share-ended.new.net) (g.N.Net.written c.follow_share-ended.new.net) (g.N.Net.listener_links c.follow_share-ended.new.net) (g.N.Net.next_input c.follow_share-ended.new.net) (g.N.Faulted.faults c.follow_share-ended.new.net) in
    let told : Run = run_of (seen_of (input_seen (g.I.Source.left c.args.input.now) (g.I.Faulted.faults c.args.input.now)) files before)
    (seen_of (input_seen (g.I.Source.left c.args.input.now) (g.I.Faulted.faults c.args.input.now)) files after)
    (output_seen (g.W.Sink.taken c.args.output.now) (g.W.Faulted.faults c.args.output.now)) (output_seen (g.W.Sink.taken c.follow_share-ended.new.output) (g.W.Faulted.faults c.follow_share-ended.new.output)) in
    let words = c.in-Follow.words in
    let query = option_copied c.as_ref.result in
    let meta = option_copied c.as_ref-in-Follow.result in
    subst (λ (asked : NetCommand). IsRunOverNet asked told c.without_links-in-Follow.result) (sym c.in-Follow.is) (
      c.without_links-in-Follow.ensures.unlinked,
      subst (λ (ended : CoreOutcome). IsLinkAnswered (follow_meaning words.place words.rounds words.query words.meta (target_of words.list)) told ended) (sym c.without_links-in-Follow.ensures.ended)
          (subst (λ (place : List ℕ). IsLinkAnswered (follow_meaning place words.rounds words.query words.meta (target_of words.list)) told c.follow_share-ended.result) c.as_str-in-Follow.ensures
          (subst (λ (t : Target). IsLinkAnswered (follow_meaning c.as_str-in-Follow.result.now words.rounds words.query words.meta t) told c.follow_share-ended.result) c.target_of.ensures
          (subst (λ (m : Option (List ℕ)). IsLinkAnswered (follow_meaning c.as_str-in-Follow.result.now words.rounds words.query m c.target_of.result) told c.follow_share-ended.result) c.as_ref-in-Follow.ensures.value
          (subst (λ (q : Option (List ℕ)). IsLinkAnswered (follow_meaning c.as_str-in-Follow.result.now words.rounds q meta c.target_of.result) told c.follow_share-ended.result) c.as_ref.ensures.value
          (c.follow_share-ended.ensures.answered files (input_seen (g.I.Source.left c.args.input.now) (g.I.Faulted.faults c.args.input.now))))))),
    )

pub returns-in-Relay-clause-answered : goal.returns-in-Relay-clause-answered
returns-in-Relay-clause-answered g c =
    let files : FilesSeen = files_seen (g.F.Files.asked c.args.files.now) (g.F.Files.contents c.args.files.now) (g.F.Faulted.faults c.args.files.now) in
    let before : NetSeen = net_seen (g.N.Net.asked c.args.net.now) (g.N.Net.written c.args.net.now) (g.N.Net.listener_links c.args.net.now) (g.N.Net.next_input c.args.net.now) (g.N.Faulted.faults c.args.net.now) in
    let after : NetSeen = net_seen (g.N.Net.asked c.relay.new.net) (g.N.Net.written c.relay.new.net) (g.N.Net.listener_links c.relay.new.net) (g.N.Net.next_input c.relay.new.net) (g.N.Faulted.faults c.relay.new.net) in
    let input = input_seen (g.I.Source.left c.args.input.now) (g.I.Faulted.faults c.args.input.now) in
    let output = output_seen (g.W.Sink.taken c.args.output.now) (g.W.Faulted.faults c.args.output.now) in
    let output' = output_seen (g.W.Sink.taken c.relay.new.output) (g.W.Faulted.faults c.relay.new.output) in
    let told : Run = run_of (seen_of input files before) (seen_of input files after) output output' in
    subst (λ (asked : NetCommand). IsRunOverNet asked told c.with_links-in-Relay.result) (sym c.in-Relay.is) (record {
      unread = record { left = refl; faults = refl };
      files = refl;
      ends = subst (λ (left : CrewOutcome). RelayEnds (relaying_of c.in-Relay.words) before after output output' left) (sym c.with_links-in-Relay.ensures.crew)
          (subst (λ (relaying : Relaying). RelayEnds relaying before after output output' c.relay.result) c.relaying_of.ensures.asked c.relay.ensures.ends);
    })
