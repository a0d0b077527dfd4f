use Rattle.std.proofs.Common.{rules, ◌≡◌, ◌+◌, length, refl}
use Rattle.json_commands.specs.JsonBack.{StopsAfter, TakesLine}
use Rattle.json_commands.proofs.Fed.{nothing_left}
use Rattle.json_commands.proofs.TagsRead.{fewer_lines, tags_all, tags_more, tags_stop}
use Rattle.json_commands.proofs.json_back.text_tags.Goals as goal

pub returns-in_default-clause-refused : goal.returns-in_default-clause-refused
returns-in_default-clause-refused c =
    let stop : StopsAfter 0 c.loop-left.left.now = search rules in
    tags_stop c.args.text.now c.loop-left.left.now c.loop-left.bytes.items c.loop-left.line (c.loop-left.line + 1) c.loop-left.invariant refl stop

pub loop-left-smaller : goal.loop-left-smaller
loop-left-smaller c =
    let took : TakesLine c.loop-left.left.now c.in-Some.rest.now c.loop-left.bytes.items c.push_first.new.bytes.items = search rules in
    fewer_lines c.loop-left.left.now c.in-Some.rest.now c.loop-left.bytes.items c.push_first.new.bytes.items took

pub loop-left-preserved : goal.loop-left-preserved
loop-left-preserved c =
    let took : TakesLine c.loop-left.left.now c.in-Some.rest.now c.loop-left.bytes.items c.push_first.new.bytes.items = search rules in
    tags_more c.args.text.now c.loop-left.left.now c.in-Some.rest.now c.loop-left.bytes.items c.push_first.new.bytes.items c.loop-left.line c.loop-left.invariant took

pub returns-clause-given : goal.returns-clause-given
returns-clause-given c =
    let none : length c.loop-left.left.now ≡ 0 = search rules in
    tags_all c.args.text.now c.loop-left.left.now c.loop-left.bytes.items c.loop-left.line (nothing_left c.loop-left.left.now none) c.loop-left.invariant
