use Rattle.std.proofs.Common.{List, ℕ, Option, option_copied, ◌∙◌, sym, subst}
use Rattle.command_core.specs.declared.fault.Fault.{Fault}
use Rattle.mirror_client.specs.Stopping.{CountsFault}
use Rattle.link_commands.specs.declared.edit.EditFault.{EditFault}
use Rattle.link_commands.specs.EditShare.{HasPushed, StopsPush, StopsSending}
use Rattle.link_commands.specs.Linked.{LinkSeen, link_seen}
use Rattle.link_commands.proofs.PushFacts.{pushing_fault, told_fault}
use Rattle.link_commands.proofs.RoundFacts.{on_err}
use Rattle.link_commands.proofs.edit.push_body.Goals as goal

pub returns-in-Ok-clause-stops : goal.returns-in-Ok-clause-stops
returns-in-Ok-clause-stops g c =
    let host : List ℕ = c.args.place.now in
    let body : Option (List ℕ) = option_copied c.args.body in
    let link : LinkSeen = link_seen (g.K.Sink.taken c.args.link.now) (g.K.Source.left c.args.link.now) (g.K.Sink.taken c.push_link.new.link) (g.K.Faulted.faults c.push_link.new.link) in
    let x = c.in-Ok.ensures.pushed in
    let pushed : HasPushed host body link c.in-Ok.made =
    record { answer = x.0; there = x.1; exchanged = x.2; written = x.3; is = x.4; faultless = c.in-Ok.ensures.count ∙ c.requires } in
    on_err _ _ c.push_line.result c.push_line.ensures (λ fault is stop before after has. told_fault host stop before after body link c.in-Ok.made fault pushed is has)

pub returns-in-Err-clause-stops : goal.returns-in-Err-clause-stops
returns-in-Err-clause-stops g c = λ stop before after has.
    let host : List ℕ = c.args.place.now in
    let body : Option (List ℕ) = option_copied c.args.body in
    let link : LinkSeen = link_seen (g.K.Sink.taken c.args.link.now) (g.K.Source.left c.args.link.now) (g.K.Sink.taken c.push_link.new.link) (g.K.Faulted.faults c.push_link.new.link) in
    let stops : StopsPush host body link c.in-Err.error = record {
      stops = c.in-Err.ensures.stops;
      count = subst (λ (n : ℕ). CountsFault n (g.K.Faulted.faults c.push_link.new.link) c.in-Err.error) c.requires c.in-Err.ensures.count;
    } in
    subst (λ (f : Fault EditFault). StopsSending host stop before after link f) (sym c.push_fault.ensures)
    (pushing_fault host stop before after body link c.in-Err.error stops has)
