use Rattle.std.proofs.Common.{rules, ◌≡◌, ◌≤◌, ◌<◌, ◌++◌, ◌∙◌, length, take, drop, Some, sym, subst, ap, arith, length-append, append_assoc}
use Rattle.std.proofs.lemmas.List.{append-nil, length-take, length-drop, take-append-drop}
use Rattle.std.proofs.lemmas.Result.{err_from_is_err_and}
use Rattle.tag_commands.specs.TopTags.{tags_limit}
use Rattle.tag_commands.specs.Showing.{HasShown}
use Rattle.tag_commands.proofs.Counted.{none_left, counted_taken, counted_takes}
use Rattle.tag_commands.proofs.Showing.{shown_fed, counted_of, shows_some, shows_broken, stopped_memory, more_some}
use Rattle.tag_commands.proofs.Tagged.{each_small, both_small, taken_more}
use Rattle.tag_commands.proofs.show.Shower.feed.Goals as goal

pub feed-requires : goal.feed-requires
feed-requires c =
    let fed = c.requires.0 in
    let front = c.loop-rest.invariant.front in
    let rest = c.loop-rest.rest.now in
    let reader = c.loop-rest.self.counter.reader in
    let tops = c.loop-rest.self.counter.tops in
    λ _.
    omega (
      arith,
      counted_taken (fed ++ front) reader tops
          (counted_of (fed ++ front) c.requires.1 c.loop-rest.self.lines.items reader tops (c.loop-rest.invariant.shown fed c.requires.1 c.requires.2) c.loop-rest.invariant.going),
      c.requires.3,
      length-append fed front,
      ap length c.loop-rest.invariant.split,
      length-append front rest,
    )

pub show_ready-requires : goal.show_ready-requires
show_ready-requires c =
    let fed = c.requires.0 in
    let piece = c.args.piece.now in
    let front = c.loop-rest.invariant.front in
    let rest = c.loop-rest.rest.now in
    let within : length (fed ++ piece) ≤ tags_limit = omega (arith, c.requires.3, length-append fed piece) in (
      fed ++ piece,
      c.requires.1,
      shown_fed (fed ++ front) rest (fed ++ piece) c.requires.1 c.loop-rest.self.lines.items c.loop-rest.self.counter.reader c.feed.new.self c.loop-rest.self.counter.tops
          (c.loop-rest.invariant.shown fed c.requires.1 c.requires.2) c.in-Err.ensures.same c.in-Err.ensures.read
          (append_assoc fed front rest ∙ ap (λ l. fed ++ l) (sym c.loop-rest.invariant.split)),
      within,
    )

pub returns-in_err-show_ready-in-Err-clause-stopped : goal.returns-in_err-show_ready-in-Err-clause-stopped
returns-in_err-show_ready-in-Err-clause-stopped c =
    let p = err_from_is_err_and c.from_residual.result c.from_residual.ensures.1 in
    let piece = c.args.piece.now in
    let front = c.loop-rest.invariant.front in
    let rest = c.loop-rest.rest.now in
    λ fed written h.
    stopped_memory (fed ++ piece) (written ++ c.show_ready.new.self.lines.items) c.from_residual.result p.0 p.1 p.2
    (c.in_err-show_ready-in-Err.ensures.some (fed ++ piece) written
    (shown_fed (fed ++ front) rest (fed ++ piece) written c.loop-rest.self.lines.items c.loop-rest.self.counter.reader c.feed.new.self c.loop-rest.self.counter.tops
    (c.loop-rest.invariant.shown fed written h) c.in-Err.ensures.same c.in-Err.ensures.read
    (append_assoc fed front rest ∙ ap (λ l. fed ++ l) (sym c.loop-rest.invariant.split))))

pub returns-in-Err-clause-stopped : goal.returns-in-Err-clause-stopped
returns-in-Err-clause-stopped c =
    let piece = c.args.piece.now in
    let front = c.loop-rest.invariant.front in
    let rest = c.loop-rest.rest.now in
    let new = c.show_ready.new.self in
    let stopped : new.counter.reader.error ≡ Some c.in-Err.error = c.show_ready.ensures.error ∙ c.in-Err.ensures.error in
    λ fed written h.
    let shown : HasShown (fed ++ piece) written new.counter.reader new.counter.tops new.lines.items =
    c.in_ok-show_ready-in-Err.ensures.shown (fed ++ piece) written
    (shown_fed (fed ++ front) rest (fed ++ piece) written c.loop-rest.self.lines.items c.loop-rest.self.counter.reader c.feed.new.self c.loop-rest.self.counter.tops
    (c.loop-rest.invariant.shown fed written h) c.in-Err.ensures.same c.in-Err.ensures.read
    (append_assoc fed front rest ∙ ap (λ l. fed ++ l) (sym c.loop-rest.invariant.split))) in
    record {
      some = shows_some (fed ++ piece) written new.lines.items new.counter.reader new.counter.tops shown;
      all = λ known.
          shows_broken (fed ++ piece) written new.lines.items new.counter.reader new.counter.tops c.in-Err.error shown c.in_ok-show_ready-in-Err.ensures.quiet stopped known;
    }

pub show_ready-requires-in-loop-rest : goal.show_ready-requires-in-loop-rest
show_ready-requires-in-loop-rest c =
    let fed = c.requires.0 in
    let front = c.loop-rest.invariant.front in
    let rest = c.loop-rest.rest.now in
    let more = take c.in-Ok.taken rest in
    let within : length (fed ++ (front ++ more)) ≤ tags_limit =
    omega (arith, c.requires.3, length-append fed (front ++ more), length-append front more, length-take c.in-Ok.taken rest, ap length c.loop-rest.invariant.split, length-append front rest) in (
      fed ++ (front ++ more),
      c.requires.1,
      shown_fed (fed ++ front) more (fed ++ (front ++ more)) c.requires.1 c.loop-rest.self.lines.items c.loop-rest.self.counter.reader c.feed.new.self
          c.loop-rest.self.counter.tops (c.loop-rest.invariant.shown fed c.requires.1 c.requires.2) c.in-Ok.ensures.same c.in-Ok.ensures.read
          (append_assoc fed front more),
      within,
    )

pub returns-in_err-show_ready-clause-stopped : goal.returns-in_err-show_ready-clause-stopped
returns-in_err-show_ready-clause-stopped c =
    let p = err_from_is_err_and c.from_residual-in_err-show_ready.result c.from_residual-in_err-show_ready.ensures.1 in
    let piece = c.args.piece.now in
    let front = c.loop-rest.invariant.front in
    let rest = c.loop-rest.rest.now in
    let more = take c.in-Ok.taken rest in
    let behind = drop c.in-Ok.taken rest in
    let lines = c.show_ready-in-loop-rest.new.self.lines.items in
    λ fed written h.
    stopped_memory (fed ++ piece) (written ++ lines) c.from_residual-in_err-show_ready.result p.0 p.1 p.2
    (more_some (fed ++ (front ++ more)) behind (fed ++ piece) (written ++ lines)
    (append_assoc fed (front ++ more) behind
    ∙ ap (λ l. fed ++ l) (append_assoc front more behind ∙ ap (λ l. front ++ l) (take-append-drop c.in-Ok.taken rest) ∙ sym c.loop-rest.invariant.split))
    (c.in_err-show_ready.ensures.some (fed ++ (front ++ more)) written
    (shown_fed (fed ++ front) more (fed ++ (front ++ more)) written c.loop-rest.self.lines.items c.loop-rest.self.counter.reader c.feed.new.self c.loop-rest.self.counter.tops
    (c.loop-rest.invariant.shown fed written h) c.in-Ok.ensures.same c.in-Ok.ensures.read (append_assoc fed front more))))

pub loop-rest-smaller : goal.loop-rest-smaller
loop-rest-smaller c =
    let fed = c.requires.0 in
    let front = c.loop-rest.invariant.front in
    let rest = c.loop-rest.rest.now in
    let reader = c.loop-rest.self.counter.reader in
    let tops = c.loop-rest.self.counter.tops in
    let some : 0 < length rest = search rules in
    let took : 0 < c.in-Ok.taken =
    counted_takes (fed ++ front) rest reader c.feed.new.self tops c.in-Ok.taken
    (counted_of (fed ++ front) c.requires.1 c.loop-rest.self.lines.items reader tops (c.loop-rest.invariant.shown fed c.requires.1 c.requires.2) c.loop-rest.invariant.going)
    c.loop-rest.invariant.quiet c.in-Ok.ensures.same c.in-Ok.ensures.error c.in-Ok.ensures.read c.in-Ok.ensures.took.1 some in
    omega (arith, took, some, ap length c.split_at.ensures.back, length-drop c.in-Ok.taken rest)

pub loop-rest-preserved : goal.loop-rest-preserved
loop-rest-preserved c =
    let front = c.loop-rest.invariant.front in
    let rest = c.loop-rest.rest.now in
    let more = take c.in-Ok.taken rest in
    record {
      front = front ++ more;
      split = taken_more c.args.piece.now front rest c.split_at.result.1.now c.in-Ok.taken c.loop-rest.invariant.split c.split_at.ensures.back;
      shown = λ fed written h.
          c.in_ok-show_ready.ensures.shown (fed ++ (front ++ more)) written
          (shown_fed (fed ++ front) more (fed ++ (front ++ more)) written c.loop-rest.self.lines.items c.loop-rest.self.counter.reader c.feed.new.self
          c.loop-rest.self.counter.tops (c.loop-rest.invariant.shown fed written h) c.in-Ok.ensures.same c.in-Ok.ensures.read (append_assoc fed front more));
      going = c.show_ready-in-loop-rest.ensures.error ∙ c.in-Ok.ensures.error;
      quiet = c.in_ok-show_ready.ensures.quiet;
      bytes = c.show_ready-in-loop-rest.ensures.bytes ∙ c.loop-rest.invariant.bytes;
    }

pub returns-clause-fed : goal.returns-clause-fed
returns-clause-fed c =
    let piece = c.args.piece.now in
    let front = c.loop-rest.invariant.front in
    let self = c.loop-rest.self in
    let end : length c.loop-rest.rest.now ≡ 0 = search rules in
    let whole : piece ≡ front = c.loop-rest.invariant.split ∙ ap (λ l. front ++ l) (none_left c.loop-rest.rest.now end) ∙ append-nil front in
    λ fed written h. record {
      shown =
          subst (λ l. HasShown (fed ++ l) written self.counter.reader self.counter.tops self.lines.items) (sym whole) (c.loop-rest.invariant.shown fed written h);
      going = c.loop-rest.invariant.going;
      quiet = c.loop-rest.invariant.quiet;
      bytes = omega (arith, c.loop-rest.invariant.bytes, h.bytes, length-append fed piece);
      small = both_small fed piece h.small (each_small piece (λ k. (c.type_inv.piece k).fits));
    }
