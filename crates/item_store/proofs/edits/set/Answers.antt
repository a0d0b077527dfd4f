use Rattle.item_store.proofs.edits.set.Goals as goal

pub returns-in-Ok-clause-counted : goal.returns-in-Ok-clause-counted
returns-in-Ok-clause-counted c = λ n fits e. c.counted.ensures n fits (rw (c.in-Ok.ensures.was, c.is_some-is.ensures) e)
