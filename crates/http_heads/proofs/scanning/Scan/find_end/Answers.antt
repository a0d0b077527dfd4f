-- A byte more of the chunk is scanned.
use Rattle.std.proofs.Common.{◌≡◌, ◌∙◌, ap, sym, take, get_or, arith, Some}
use Rattle.std.proofs.lemmas.List.{take_more}
use Rattle.http_heads.specs.Scanning.{after, after_byte}
use Rattle.http_heads.proofs.Scans.{after_more, byte_full}
use Rattle.http_heads.proofs.scanning.Scan.find_end.Goals as goal

pub loop-i-preserved : goal.loop-i-preserved
loop-i-preserved c =
    let next : after_byte c.loop-i.self (get_or c.args.piece.now c.loop-i.i 0) ≡ Some c.in-Some.scan = sym c.behind.ensures ∙ c.in-Some.is in (
      ap (after c.args.self.now) (take_more c.args.piece.now c.loop-i.i 0 c.loop-i-test.true)
          ∙ after_more c.args.self.now c.loop-i.self (take c.loop-i.i c.args.piece.now) (get_or c.args.piece.now c.loop-i.i 0) c.loop-i.invariant.0
          ∙ next,
      omega (arith, byte_full c.loop-i.self c.in-Some.scan (get_or c.args.piece.now c.loop-i.i 0) next),
    )
