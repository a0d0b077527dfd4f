-- One row more was put.
use Rattle.std.proofs.Common.{◌≡◌, ◌∷◌, fold, rules, sym, ap, subst, ◌∙◌}
use Rattle.std.specs.Vec.Iter.{into_iter_items}
use Rattle.share_history.specs.Keyed.{put_in}
use Rattle.relayed_rows.specs.Held.{AreHeld}
use Rattle.relayed_rows.proofs.PutFacts.{held_more}
use Rattle.relayed_rows.proofs.puts.put_over.Goals as goal

pub loop-id-preserved : goal.loop-id-preserved
loop-id-preserved c =
    let rest = into_iter_items c.next.new.self in
    let left : into_iter_items c.loop-id.id-iterator ≡ (c.in-Some.id, c.in-Some.row) ∷ rest = search rules in
    record {
      put =
          ap (λ held. fold put_in held rest) c.put_at.ensures
          ∙ ap (fold put_in c.loop-id.held.entries) (sym left)
          ∙ c.loop-id.invariant.put;
      held =
          subst (λ held. AreHeld held rest) (sym c.put_at.ensures)
          (held_more c.loop-id.held.entries (c.in-Some.id, c.in-Some.row) rest (subst (AreHeld c.loop-id.held.entries) left c.loop-id.invariant.held).1);
    }
