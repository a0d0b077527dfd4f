-- The revision of a log that grows.
use Rattle.std.proofs.Common.{◌≡◌, ◌+◌, ◌++◌, ◌∷◌, [], List, length, length-append, ap, ◌∙◌, arith}
use Rattle.item_model.specs.declared.changes.Entry.{Entry}
use Rattle.share_history.specs.Histories.{batches, revision}
use Rattle.share_history.proofs.EditFacts.{batches-append}

-- the revision after one more entry
pub revision_more : (h : List Entry) (e : Entry) → revision (batches (h ++ e ∷ [])) ≡ revision (batches h) + length (batches (e ∷ []))
revision_more h e =
    let parts = ap length (batches-append h (e ∷ [])) ∙ length-append (batches h) (batches (e ∷ [])) in
    grind (arith)
