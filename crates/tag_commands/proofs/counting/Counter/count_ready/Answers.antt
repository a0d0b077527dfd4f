use Rattle.std.proofs.Common.{sym, subst}
use Rattle.tag_commands.specs.Counting.{HasCounted}
use Rattle.tag_commands.proofs.Counted.{few_counted_tops, counted_next}
use Rattle.tag_commands.proofs.counting.Counter.count_ready.Goals as goal

pub count-requires : goal.count-requires
count-requires c =
    few_counted_tops c.requires.0 c.loop-event.self.reader c.loop-event.self.tops (c.loop-event.invariant.counted c.requires.0 c.requires.1) c.requires.2

pub loop-event-preserved : goal.loop-event-preserved
loop-event-preserved c = record {
  counted = λ fed h.
      counted_next fed c.loop-event.self.reader c.next.new.self c.loop-event.self.tops c.count.new.self c.in-Some.event (c.loop-event.invariant.counted fed h)
      c.in-Some.ensures.same c.in-Some.ensures.error c.in-Some.ensures.read c.count.ensures;
  bytes = c.loop-event.invariant.bytes;
}

pub returns-clause-counted : goal.returns-clause-counted
returns-clause-counted c =
    λ fed h. subst (λ r. HasCounted fed r c.loop-event.self.tops) (sym c.in_default.ensures.none.1) (c.loop-event.invariant.counted fed h)
