use Rattle.std.proofs.Common.{rules, ◌≡◌, ◌<◌, ◌++◌, length, sym, subst, ap, arith, length-append}
use Rattle.tag_commands.specs.Counting.{IsCounted, StopsAt}
use Rattle.tag_commands.proofs.Counted.{whole_piece, stops, too_long}
use Rattle.tag_commands.proofs.counting.Counter.take.Goals as goal

pub returns-in-Ok-clause-took : goal.returns-in-Ok-clause-took
returns-in-Ok-clause-took c =
    let front = c.up_to_limit.result.0.now in
    let end : length c.up_to_limit.result.1.now ≡ 0 = search rules in
    let same = whole_piece c.args.piece.now front c.up_to_limit.result.1.now c.up_to_limit.ensures.split end in
    λ fed h. (
      subst (λ l. IsCounted (fed ++ l) c.feed.new.self) (sym same) (c.in-Ok.ensures.fed fed h),
      omega (arith, h.bytes, c.up_to_limit.ensures.within, ap length same, length-append fed c.args.piece.now),
    )

pub returns-in-Ok-2-clause-stopped : goal.returns-in-Ok-2-clause-stopped
returns-in-Ok-2-clause-stopped c =
    let front = c.up_to_limit.result.0.now in
    let more : 0 < length c.up_to_limit.result.1.now = search rules in
    λ fed h.
    too_long fed front c.up_to_limit.result.1.now c.args.piece.now c.feed.new.self.reader c.feed.new.self.tops
    (omega (arith, h.bytes, c.up_to_limit.ensures.full more, length-append fed front)) more c.up_to_limit.ensures.split (c.in-Ok-2.ensures.fed fed h).counted

pub returns-in-Err-clause-stopped : goal.returns-in-Err-clause-stopped
returns-in-Err-clause-stopped c =
    let front = c.up_to_limit.result.0.now in
    λ fed h.
    subst (StopsAt (fed ++ c.args.piece.now)) (sym c.tags_fault.ensures)
    (stops fed front c.args.piece.now c.in-Err.error (omega (arith, h.bytes, c.up_to_limit.ensures.within, length-append fed front))
    (c.in-Err.ensures.stopped fed h) (c.up_to_limit.result.1.now, c.up_to_limit.ensures.split))
