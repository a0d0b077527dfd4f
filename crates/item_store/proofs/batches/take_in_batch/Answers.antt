use Rattle.std.proofs.Common.{◌++◌, ◌∷◌, [], map, inl, refl, ap, ◌∙◌}
use Rattle.std.proofs.lemmas.List.{map-append}
use Rattle.item_store.specs.Stands.{named_items}
use Rattle.item_store.proofs.BatchFacts.{rows_left}
use Rattle.item_store.proofs.batches.take_in_batch.Goals as goal

pub returns-in-Err-clause-rows_left : goal.returns-in-Err-clause-rows_left
returns-in-Err-clause-rows_left c = λ pos q base. inl refl

pub returns-in-Err-push_back-clause-rows_left : goal.returns-in-Err-push_back-clause-rows_left
returns-in-Err-push_back-clause-rows_left c = λ pos q base. inl refl

pub returns-in-Err-take_in-clause-named_left : goal.returns-in-Err-take_in-clause-named_left
returns-in-Err-take_in-clause-named_left c =
    c.take_back_batch.ensures.named (map (λ v. v.items) c.args.named.now.items) (named_items c.args.edits.now)
    (ap (map (λ v. v.items)) c.in-Ok-push_back.ensures.items ∙ map-append _ _ _ ∙ ap (λ ids. map (λ v. v.items) c.args.named.now.items ++ ids ∷ []) c.in-Ok.ensures)

pub returns-in-Err-take_in-clause-rows_left : goal.returns-in-Err-take_in-clause-rows_left
returns-in-Err-take_in-clause-rows_left c = λ pos.
    rows_left c.args.edits.now c.args.held.now c.take_in.new.held c.take_back_batch.new.held c.args.revision pos
    c.take_in.ensures.before c.take_in.ensures.others
    (c.take_back_batch.ensures.rows pos (map (λ v. v.items) c.args.named.now.items) (named_items c.args.edits.now)
    (ap (map (λ v. v.items)) c.in-Ok-push_back.ensures.items ∙ map-append _ _ _ ∙ ap (λ ids. map (λ v. v.items) c.args.named.now.items ++ ids ∷ []) c.in-Ok.ensures))
