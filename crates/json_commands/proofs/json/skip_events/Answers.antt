use Rattle.std.proofs.Common.{◌++◌, ◌∙◌, option_to_list}
use Rattle.json_commands.proofs.json.skip_events.Goals as goal

pub loop-preserved : goal.loop-preserved
loop-preserved c =
    let so_far = c.loop.invariant in
    record {
      same = (c.next.ensures.same.0 ∙ so_far.same.0, (c.next.ensures.same.1 ∙ so_far.same.1.0, c.next.ensures.error ∙ so_far.same.1.1));
      read = λ fed h. (let read = so_far.read fed h in (read.0 ++ option_to_list c.next.result, c.next.ensures.read fed read.0 read.1));
    }

pub returns-clause-read : goal.returns-clause-read
returns-clause-read c = λ fed h. (let read = c.loop.invariant.read fed h in (read.0 ++ option_to_list c.next.result, c.next.ensures.read fed read.0 read.1))
