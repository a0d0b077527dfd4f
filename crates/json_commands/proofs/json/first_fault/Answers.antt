use Rattle.std.proofs.Common.{rules, ◌≡◌, length}
use Rattle.json_commands.proofs.Fed.{feeds_end, nothing_left}
use Rattle.json_commands.proofs.json.first_fault.Goals as goal

pub loop-left-smaller : goal.loop-left-smaller
loop-left-smaller c = (c.in-Ok.ensures c.args.bytes.now c.loop-left.invariant).1

pub returns : goal.returns
returns c =
    let none : length c.loop-left.left.now ≡ 0 = search rules in
    feeds_end c.args.bytes.now c.loop-left.left.now c.loop-left.reader c.finish.result c.loop-left.invariant (nothing_left c.loop-left.left.now none) c.finish.ensures.told
