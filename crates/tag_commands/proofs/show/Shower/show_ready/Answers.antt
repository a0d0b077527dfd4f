use Rattle.std.proofs.Common.{◌++◌, ◌∙◌, sym, subst, arith}
use Rattle.tag_commands.specs.Showing.{ShowsSome}
use Rattle.tag_commands.proofs.Showing.{few_shown, shown_next, shows_some, if_err}
use Rattle.tag_commands.proofs.show.Shower.show_ready.Goals as goal

pub overflow_cast-level : goal.overflow_cast-level
overflow_cast-level c =
    let few =
    few_shown c.requires.0 c.requires.1 c.loop-event.self.lines.items c.loop-event.self.counter.reader c.next.new.self c.loop-event.self.counter.tops c.in-Some.event
    (c.loop-event.invariant.shown c.requires.0 c.requires.1 c.requires.2) c.in-Some.ensures.read c.requires.3 in
    omega (arith, few)

pub returns-in_err-show_event-clause-some : goal.returns-in_err-show_event-clause-some
returns-in_err-show_event-clause-some c =
    λ fed written h.
    if_err (ShowsSome fed (written ++ c.show_event.new.out.items)) c.from_residual.result
    (subst (λ l. ShowsSome fed (written ++ l)) (sym c.in_err-show_event.ensures.unchanged)
    (shows_some fed written c.loop-event.self.lines.items c.loop-event.self.counter.reader c.loop-event.self.counter.tops (c.loop-event.invariant.shown fed written h)))

pub count-requires : goal.count-requires
count-requires c =
    let few =
    few_shown c.requires.0 c.requires.1 c.loop-event.self.lines.items c.loop-event.self.counter.reader c.next.new.self c.loop-event.self.counter.tops c.in-Some.event
    (c.loop-event.invariant.shown c.requires.0 c.requires.1 c.requires.2) c.in-Some.ensures.read c.requires.3 in
    omega (arith, few)

pub loop-event-preserved : goal.loop-event-preserved
loop-event-preserved c = record {
  shown = λ fed written h.
      shown_next fed written c.loop-event.self.lines.items c.show_event.new.out.items c.loop-event.self.counter.reader c.next.new.self c.loop-event.self.counter.tops
      c.count.new.self c.in-Some.event (c.loop-event.invariant.shown fed written h) c.in-Some.ensures.same c.in-Some.ensures.read
      c.in_ok-show_event.ensures.shown c.count.ensures;
  error = c.in-Some.ensures.error ∙ c.loop-event.invariant.error;
  bytes = c.loop-event.invariant.bytes;
}
