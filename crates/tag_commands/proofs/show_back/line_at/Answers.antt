use Rattle.std.proofs.Common.{◌==◌, take, arith}
use Rattle.std.proofs.lemmas.List.{length-take}
use Rattle.std.proofs.lemmas.List.Sums.{length-filter, count_by-le-length}
use Rattle.tag_commands.proofs.show_back.line_at.Goals as goal

pub overflow_add-line : goal.overflow_add-line
overflow_add-line c =
    let front = c.split_at.result.0.now in
    let so_far = take c.loop-byte.byte-index front in
    omega (
      arith,
      c.loop-byte.invariant,
      length-filter (λ byte. byte == 10) so_far,
      count_by-le-length (λ byte. byte == 10) so_far,
      length-take c.loop-byte.byte-index front,
      c.loop-byte-test.true,
      c.split_at.ensures.front_len,
      c.requires.within,
      c.requires.there,
    )
