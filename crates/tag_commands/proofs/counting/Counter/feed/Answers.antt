use Rattle.std.proofs.Common.{rules, ◌≡◌, ◌<◌, ◌+◌, ◌^◌, ◌++◌, [], length, take, refl, sym, subst, ap, ◌∙◌, arith, length-append, append_assoc}
use Rattle.std.proofs.lemmas.List.{append-nil, length-drop}
use Rattle.dmap_stream.specs.Reader.{ready}
use Rattle.tag_commands.specs.Counting.{HasCounted}
use Rattle.tag_commands.proofs.Counted.{none_left, fewer_left}
use Rattle.tag_commands.proofs.Tagged.{each_small, both_small, taken_more}
use Rattle.tag_commands.proofs.counting.Counter.feed.Goals as goal

pub loop-rest-init : goal.loop-rest-init
loop-rest-init c = record {
  front = [];
  split = refl;
  counted = λ fed h. subst (λ l. HasCounted l c.args.self.now.reader c.args.self.now.tops) (sym (append-nil fed)) h.counted;
  bytes = refl;
}

pub step-requires : goal.step-requires
step-requires c =
    let fed = c.requires.0 in
    let front = c.loop-rest.invariant.front in
    let rest = c.loop-rest.rest.now in
    let within : length (fed ++ front) + length rest < 2 ^ 63 =
    omega (arith, c.requires.2, length-append fed front, ap length c.loop-rest.invariant.split, length-append front rest) in
    (fed ++ front, c.loop-rest.invariant.counted fed c.requires.1, within)

pub returns-in-Err-clause-stopped : goal.returns-in-Err-clause-stopped
returns-in-Err-clause-stopped c =
    let front = c.loop-rest.invariant.front in
    let rest = c.loop-rest.rest.now in
    λ fed h known more.
    ap (λ l. (Rattle.tag_commands.specs.TopTags.walk_of_tags l).ending) (ap (λ l. (fed ++ l) ++ more) c.loop-rest.invariant.split ∙ ap (λ l. l ++ more) (sym (append_assoc fed front rest)))
    ∙ c.in-Err.ensures.stopped (fed ++ front) (c.loop-rest.invariant.counted fed h) known more

pub loop-rest-smaller : goal.loop-rest-smaller
loop-rest-smaller c =
    let rest = c.loop-rest.rest.now in
    let some : 0 < length rest = search rules in
    fewer_left (ready c.loop-rest.self.reader) (ready c.step.new.self.reader) (length rest) (length c.split_at.result.1.now) c.in-Ok.taken some
    (c.in-Ok.ensures.took) (ap length c.split_at.ensures.back ∙ length-drop c.in-Ok.taken rest)
    (λ quiet. c.in-Ok.ensures.takes quiet some) c.in-Ok.ensures.hands_out

pub loop-rest-preserved : goal.loop-rest-preserved
loop-rest-preserved c =
    let inv = c.loop-rest.invariant in
    let more = take c.in-Ok.taken c.loop-rest.rest.now in
    record {
      front = inv.front ++ more;
      split = taken_more c.args.piece.now inv.front c.loop-rest.rest.now c.split_at.result.1.now c.in-Ok.taken inv.split c.split_at.ensures.back;
      counted = λ fed h. subst (λ l. HasCounted l c.step.new.self.reader c.step.new.self.tops) (append_assoc fed inv.front more)
          (c.in-Ok.ensures.counted (fed ++ inv.front) (inv.counted fed h));
      bytes = c.step.ensures.bytes ∙ inv.bytes;
    }

pub count_ready-requires : goal.count_ready-requires
count_ready-requires c =
    let fed = c.requires.0 in
    let front = c.loop-rest.invariant.front in
    let rest = c.loop-rest.rest.now in
    let within : length (fed ++ front) < 2 ^ 63 =
    omega (arith, c.requires.2, length-append fed front, ap length c.loop-rest.invariant.split, length-append front rest) in
    (fed ++ front, c.loop-rest.invariant.counted fed c.requires.1, within)

pub returns-clause-fed : goal.returns-clause-fed
returns-clause-fed c =
    let front = c.loop-rest.invariant.front in
    let end : length c.loop-rest.rest.now ≡ 0 = search rules in
    let whole : c.args.piece.now ≡ front = c.loop-rest.invariant.split ∙ ap (λ l. front ++ l) (none_left c.loop-rest.rest.now end) ∙ append-nil front in
    λ fed h. record {
      counted = subst (λ l. HasCounted (fed ++ l) c.count_ready.new.self.reader c.count_ready.new.self.tops) (sym whole) (c.count_ready.ensures.counted (fed ++ front) (c.loop-rest.invariant.counted fed h));
      quiet = c.count_ready.ensures.quiet;
      bytes = omega (arith, c.count_ready.ensures.bytes, c.loop-rest.invariant.bytes, h.bytes, length-append fed c.args.piece.now);
      small = both_small fed c.args.piece.now h.small (each_small c.args.piece.now (λ k. (c.type_inv.piece k).fits));
    }
