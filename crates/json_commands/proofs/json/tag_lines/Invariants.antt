use Rattle.std.proofs.Common.{length}
use Rattle.json_commands.proofs.TagsRead.{HasRead}
use Rattle.json_commands.proofs.json.tag_lines.Given as goal

abbrev pub invariant-loop-left : goal.invariant-loop-left
invariant-loop-left l = HasRead l.bytes l.left l.lines.items

abbrev pub decreases-loop-left : goal.decreases-loop-left
decreases-loop-left l = length l.left
