-- A change whose key is below a key comes before a row with that key.
use Rattle.std.proofs.Common.{◌≡◌, ◌++◌, Less, rules, sym, ap, ◌∙◌, arith}
use Rattle.mirror_core.specs.Changes.{past_row, next_order}
use Rattle.mirror_core.proofs.MergeFacts.{less_next}
use Rattle.mirror_core.proofs.merging.push_up_to.Goals as goal

pub loop-out-preserved : goal.loop-out-preserved
loop-out-preserved c =
    let is : next_order c.args.key c.loop-out.changes.entries ≡ Less = search rules in
    record {
      rows = λ tag rest.
          c.push_next.ensures.rows (past_row (c.args.key, tag) rest)
          ∙ ap (λ rows. c.loop-out.out.items ++ rows) (sym (less_next (c.args.key, tag) rest c.loop-out.changes.entries is))
          ∙ c.loop-out.invariant.rows tag rest;
      room = omega arith;
      capacity = c.push_next.ensures.capacity ∙ c.loop-out.invariant.capacity;
    }
