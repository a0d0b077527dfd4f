use Rattle.std.proofs.Common.{rules, ◌≡◌, ◌<◌, ◌++◌, length, sym, subst, ap, arith, length-append}
use Rattle.tag_commands.specs.Showing.{IsShowing, StopsShowing}
use Rattle.tag_commands.proofs.Counted.{whole_piece}
use Rattle.tag_commands.proofs.Showing.{stops_showing, stops_long}
use Rattle.tag_commands.proofs.show.Shower.take.Goals as goal

pub returns-in-Ok-clause-took : goal.returns-in-Ok-clause-took
returns-in-Ok-clause-took c =
    let front = c.up_to_limit.result.0.now in
    let end : length c.up_to_limit.result.1.now ≡ 0 = search rules in
    let same = whole_piece c.args.piece.now front c.up_to_limit.result.1.now c.up_to_limit.ensures.split end in
    λ fed written h. (
      subst (λ l. IsShowing (fed ++ l) written c.feed.new.self) (sym same) (c.in-Ok.ensures.fed fed written h),
      omega (arith, h.bytes, c.up_to_limit.ensures.within, ap length same, length-append fed c.args.piece.now),
    )

pub returns-in-Ok-2-clause-stopped : goal.returns-in-Ok-2-clause-stopped
returns-in-Ok-2-clause-stopped c =
    let front = c.up_to_limit.result.0.now in
    let more : 0 < length c.up_to_limit.result.1.now = search rules in
    λ fed written h.
    stops_long fed front c.up_to_limit.result.1.now c.args.piece.now written c.feed.new.self
    (omega (arith, h.bytes, c.up_to_limit.ensures.full more, length-append fed front)) more c.up_to_limit.ensures.split (c.in-Ok-2.ensures.fed fed written h)

pub returns-in-Err-clause-stopped : goal.returns-in-Err-clause-stopped
returns-in-Err-clause-stopped c =
    let front = c.up_to_limit.result.0.now in
    λ fed written h.
    let lines = written ++ c.feed.new.self.lines.items in
    subst (StopsShowing (fed ++ c.args.piece.now) lines) (sym c.tags_fault.ensures)
    (stops_showing fed front c.args.piece.now c.up_to_limit.result.1.now lines c.in-Err.error
    (omega (arith, h.bytes, c.up_to_limit.ensures.within, length-append fed front)) (c.in-Err.ensures.stopped fed written h) c.up_to_limit.ensures.split)
