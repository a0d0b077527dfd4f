use Rattle.std.proofs.Common.{◌≡◌, sym, ◌∙◌, arith, length}
use Rattle.song_query.proofs.Joining.{none_behind}
use Rattle.song_query.proofs.globs.are_behind.Goals as goal

pub returns : goal.returns
returns c =
    let none : length c.loop-left.left.now ≡ 0 = omega arith in
    sym (c.loop-left.invariant ∙ none_behind _ _ none)
