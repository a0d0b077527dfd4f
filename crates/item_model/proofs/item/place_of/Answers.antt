use Rattle.std.proofs.Common.{◌≡◌, length, sym, ◌∙◌, rules, arith}
use Rattle.item_model.proofs.Places.{same_here, new_here, new_last}
use Rattle.item_model.proofs.item.place_of.Goals as goal

pub returns-then-rank : goal.returns-then-rank
returns-then-rank c = record {
  within = c.loop-i-test.true;
  set = λ v. same_here c.args.property v c.args.entries.now c.loop-i.i c.index-entries-i.result c.loop-i-test.true (search rules) ∙ sym (c.loop-i.invariant v);
}

pub returns-then-rank-2 : goal.returns-then-rank-2
returns-then-rank-2 c = record {
  within = omega arith;
  set = λ v. new_here c.args.property v c.args.entries.now c.loop-i.i c.index-entries-i.result c.loop-i-test.true (search rules) ∙ sym (c.loop-i.invariant v);
}

pub returns : goal.returns
returns c = record {
  within = omega arith;
  set = λ v.
      let e : c.loop-i.i ≡ length c.args.entries.now = omega arith in
      new_last c.args.property v c.args.entries.now ∙ sym (rw (← e) (c.loop-i.invariant v));
}
