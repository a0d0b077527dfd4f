use Rattle.std.proofs.Common.{◌≡◌, ◌≤◌, ◌+◌, take, Some}
use Rattle.http_heads.specs.Scanning.{after}
use Rattle.http_heads.proofs.scanning.Scan.find_end.Given as goal

abbrev pub invariant-loop-i : goal.invariant-loop-i
invariant-loop-i l = (after l.fn.self (take l.i l.piece) ≡ Some l.self) × (l.self.full ≤ l.fn.self.full + l.i)
