use Rattle.tag_commands.proofs.Counted.{few_counted_tops, counted_next}
use Rattle.tag_commands.proofs.counting.Counter.count_next.Goals as goal

pub count-requires : goal.count-requires
count-requires c = few_counted_tops c.requires.0 c.args.self.now.reader c.args.self.now.tops c.requires.1 c.requires.2

pub returns-in-Some-clause-counted : goal.returns-in-Some-clause-counted
returns-in-Some-clause-counted c =
    λ fed h.
    counted_next fed c.args.self.now.reader c.next.new.self c.args.self.now.tops c.count.new.self c.in-Some.event h
    c.in-Some.ensures.same c.in-Some.ensures.error c.in-Some.ensures.read c.count.ensures
