use Rattle.std.proofs.Common.{rules}
use Rattle.json_commands.specs.Json.{TakesTag}
use Rattle.json_commands.proofs.TagsRead.{read_more}
use Rattle.json_commands.proofs.json.tag_lines.Goals as goal

pub loop-left-preserved : goal.loop-left-preserved
loop-left-preserved c =
    let took : TakesTag c.loop-left.left.now c.in-Some.rest.now c.loop-left.lines.items c.push_first.new.lines.items = search rules in
    read_more c.args.bytes.now c.loop-left.left.now c.in-Some.rest.now c.loop-left.lines.items c.push_first.new.lines.items c.loop-left.invariant took
