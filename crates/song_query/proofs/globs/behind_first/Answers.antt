use Rattle.std.proofs.Common.{◌∙◌, ◌<◌, length, arith}
use Rattle.song_query.proofs.Joining.{found, not_found, nothing_first, not_in_less}
use Rattle.song_query.proofs.globs.behind_first.Goals as goal

pub returns-then-is_empty : goal.returns-then-is_empty
returns-then-is_empty c = λ q ps. nothing_first _ _ q ps c.if-is_empty.ensures

pub returns-in-Some : goal.returns-in-Some
returns-in-Some c =
    λ q ps. c.loop-left.invariant q ps ∙ found _ _ _ q ps c.in-Some.ensures.0 c.in-Some.ensures.1

pub loop-left-preserved : goal.loop-left-preserved
loop-left-preserved c =
    let some : 0 < length c.loop-left.left.now = omega (arith, c.split_at.ensures.back_len) in
    λ q ps. c.loop-left.invariant q ps ∙ not_found _ _ _ q ps c.in_default.ensures some c.split_at.ensures.back

pub returns : goal.returns
returns c =
    λ q ps. c.loop-left.invariant q ps ∙ not_in_less _ _ q ps c.loop-left-test.false
