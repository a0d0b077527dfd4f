use Rattle.std.proofs.Common.{◌≡◌, length}
use Rattle.share_replay.specs.Lines.{written_by}
use Rattle.share_replay.proofs.Texts.{behind_bytes}
use Rattle.share_replay.proofs.line.unescape.Given as goal

abbrev pub invariant-loop-byte : goal.invariant-loop-byte
invariant-loop-byte l = written_by l.text ≡ behind_bytes l.bytes.items (written_by l.left)

abbrev pub decreases-loop-byte : goal.decreases-loop-byte
decreases-loop-byte l = length l.left
