use Rattle.std.proofs.Common.{◌≡◌, ◌+◌, ◌≤◌, [], true, length}
use Rattle.share_replay.specs.Scripts.{AreOpened, lines_in, lines_read, may_all_follow, script_of}
use Rattle.share_replay.proofs.script.read_lines.Given as goal

-- the whole text reads as the lines so far and what is left
abbrev pub invariant-loop-left : goal.invariant-loop-left
invariant-loop-left l = record {
  text : script_of l.text ≡ lines_read l.lines.items (l.line + 1) (lines_in l.left).0 (lines_in l.left).1;
  count : l.line + length l.left ≤ length l.text;
  follow : may_all_follow [] l.lines.items ≡ true;
  opened : AreOpened l.opened l.lines.items;
  size : length l.opened ≡ 65;
}

abbrev pub decreases-loop-left : goal.decreases-loop-left
decreases-loop-left l = length l.left
