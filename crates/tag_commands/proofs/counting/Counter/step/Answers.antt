use Rattle.std.proofs.Common.{◌<◌, ◌^◌, ◌++◌, length, take, refl, arith, length-append}
use Rattle.std.proofs.lemmas.List.{length-take}
use Rattle.tag_commands.proofs.Counted.{counted_fed, counted_takes, shown}
use Rattle.tag_commands.proofs.counting.Counter.step.Goals as goal

pub count_next-requires : goal.count_next-requires
count_next-requires c =
    let fed = c.requires.0 in
    let more = take c.in-Ok.taken c.args.piece.now in
    let within : length (fed ++ more) < 2 ^ 63 = omega (arith, c.requires.2, length-append fed more, length-take c.in-Ok.taken c.args.piece.now) in (
      fed ++ more,
      counted_fed fed more (fed ++ more) c.args.self.now.reader c.feed.new.self c.args.self.now.tops c.requires.1
          c.in-Ok.ensures.same c.in-Ok.ensures.error c.in-Ok.ensures.read refl,
      within,
    )

pub count_more-requires : goal.count_more-requires
count_more-requires c =
    let fed = c.requires.0 in
    let more = take c.in-Ok.taken c.args.piece.now in
    let within : length (fed ++ more) < 2 ^ 63 = omega (arith, c.requires.2, length-append fed more, length-take c.in-Ok.taken c.args.piece.now) in (
      fed ++ more,
      c.count_next.ensures.counted (fed ++ more)
          (counted_fed fed more (fed ++ more) c.args.self.now.reader c.feed.new.self c.args.self.now.tops c.requires.1
          c.in-Ok.ensures.same c.in-Ok.ensures.error c.in-Ok.ensures.read refl),
      within,
    )

pub returns-in-Err-clause-stopped : goal.returns-in-Err-clause-stopped
returns-in-Err-clause-stopped c =
    λ fed h.
    shown fed c.args.piece.now (fed ++ c.args.piece.now) c.args.self.now.reader c.feed.new.self c.args.self.now.tops c.in-Err.error h
    c.in-Err.ensures.same c.in-Err.ensures.error c.in-Err.ensures.read refl

pub returns-clause-takes : goal.returns-clause-takes
returns-clause-takes c =
    λ quiet some.
    counted_takes c.requires.0 c.args.piece.now c.args.self.now.reader c.feed.new.self c.args.self.now.tops c.in-Ok.taken
    c.requires.1 quiet c.in-Ok.ensures.same c.in-Ok.ensures.error c.in-Ok.ensures.read c.in-Ok.ensures.took.1 some

pub returns-clause-counted : goal.returns-clause-counted
returns-clause-counted c =
    let more = take c.in-Ok.taken c.args.piece.now in
    λ fed h.
    c.count_more.ensures.counted (fed ++ more)
    (c.count_next.ensures.counted (fed ++ more)
    (counted_fed fed more (fed ++ more) c.args.self.now.reader c.feed.new.self c.args.self.now.tops h
    c.in-Ok.ensures.same c.in-Ok.ensures.error c.in-Ok.ensures.read refl))
