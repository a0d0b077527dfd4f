use Rattle.std.proofs.Common.{◌+◌, ◌-◌, ◌++◌, ◌∷◌, [], ℕ, drop, sym, ap, subst, ◌∙◌, arith}
use Rattle.share_history.specs.Histories.{edits}
use Rattle.share_history.proofs.EditFacts.{edits_more}
use Rattle.playlist_store.specs.Stands.{StandsFor}
use Rattle.playlist_store.proofs.StandFacts.{since_now, tells_start}
use Rattle.playlist_store.proofs.TickFacts.{batch_ticks, batch_cost, most_of}
use Rattle.playlist_store.proofs.WholeFacts.{applied, not_applied}
use Rattle.playlist_store.proofs.store.PlaylistStore.apply.Goals as goal

pub returns-in-Ok-clause-stands : goal.returns-in-Ok-clause-stands
returns-in-Ok-clause-stands g c = λ bs h items.
    let passed : ℕ = c.floor-low.result - c.self.inside.low in
    let stands = subst (StandsFor bs) (sym c.self.view_is) h in
    let next = c.requires.next ∙ ap (λ s. s.revision + 1) (sym c.self.view_is) in
    applied bs c.args.batch.now _ c.args.revision c.floor-low.result _ c.take_in_batch-taken.new.lists.entries c.prune_to.new.lists.entries
    stands c.requires.valid next c.floor-low.ensures
    (c.prune_to.ensures.named ∙ ap (drop passed) c.in-Ok.ensures.named)
    (c.in-Ok.ensures.taken (bs ++ c.args.batch.now ∷ []) (edits bs) items (edits_more bs c.args.batch.now) (λ k. let e = since_now stands k in omega (arith, e, next)) (tells_start stands c.args.revision next))
    c.in-Ok.ensures.frames c.prune_to.ensures.lists

pub returns-in-Err-clause-unchanged : goal.returns-in-Err-clause-unchanged
returns-in-Err-clause-unchanged g c =
    not_applied c.self.view_is c.args.revision c.args.batch.now _ c.take_in_batch-taken.new.lists.entries c.requires.next c.in-Err.ensures.named_left c.in-Err.ensures.left

pub returns-in-Ok-clause-cost : goal.returns-in-Ok-clause-cost
returns-in-Ok-clause-cost g c = λ bs h items.
    let all = edits (bs ++ c.args.batch.now ∷ []) in
    batch_cost all c.args.batch.now c.args.steps.now c.take_in_batch-taken.new.steps
    (c.take_in_batch-taken.ensures.cost (bs ++ c.args.batch.now ∷ []) (most_of all c.args.batch.now) items
    (batch_ticks bs c.args.batch.now _ c.args.revision (subst (StandsFor bs) (sym c.self.view_is) h) (c.requires.next ∙ ap (λ s. s.revision + 1) (sym c.self.view_is))))

pub returns-in-Err-clause-cost : goal.returns-in-Err-clause-cost
returns-in-Err-clause-cost g c = λ bs h items.
    let all = edits (bs ++ c.args.batch.now ∷ []) in
    batch_cost all c.args.batch.now c.args.steps.now c.take_in_batch-taken.new.steps
    (c.take_in_batch-taken.ensures.cost (bs ++ c.args.batch.now ∷ []) (most_of all c.args.batch.now) items
    (batch_ticks bs c.args.batch.now _ c.args.revision (subst (StandsFor bs) (sym c.self.view_is) h) (c.requires.next ∙ ap (λ s. s.revision + 1) (sym c.self.view_is))))
