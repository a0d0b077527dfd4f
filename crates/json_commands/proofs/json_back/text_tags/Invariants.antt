use Rattle.std.proofs.Common.{length}
use Rattle.json_commands.proofs.TagsRead.{HasTags}
use Rattle.json_commands.proofs.json_back.text_tags.Given as goal

abbrev pub invariant-loop-left : goal.invariant-loop-left
invariant-loop-left l = HasTags l.text l.left l.bytes.items l.line

abbrev pub decreases-loop-left : goal.decreases-loop-left
decreases-loop-left l = length l.left
