use Rattle.std.proofs.Common.{◌≢◌, ◌++◌, ◌∷◌, [], List, refl, sym, ap, ◌∙◌, subst, inr, rules}
use Rattle.std.proofs.lemmas.List.Elements.{All-push}
use Rattle.std.specs.Prelude.{All}
use Rattle.item_model.specs.declared.changes.Edit.{Edit}
use Rattle.item_model.specs.Valid.{AreValid}
use Rattle.edit_file.specs.Files.{HasBatches, disk_of}
use Rattle.kept_library.specs.Opening.{AreFew, share_of}
use Rattle.kept_library.proofs.Stops.{counts_nothing, counts_same, filled_is}
use Rattle.kept_library.proofs.Told.{loses_first}
use Rattle.kept_library.proofs.opening.open_and_append.Goals as goal

pub returns-then-is_empty-clause-count : goal.returns-then-is_empty-clause-count
returns-then-is_empty-clause-count g c = let n = g.D.Faulted.faults (disk_of g.D.Disk c.args.file.now) in counts_nothing n c.share_with.result (c.share_with.ensures.count n)

pub share_with-requires-2-clause-valid : goal.share_with-requires-2-clause-valid
share_with-requires-2-clause-valid g c = subst (All AreValid) (sym c.in_ok-batches.ensures) (All-push AreValid c.args.batches.items c.args.first c.requires.are_valid c.requires.valid)

pub returns-in_err-share-clause-count : goal.returns-in_err-share-clause-count
returns-in_err-share-clause-count g c = let n = g.D.Faulted.faults (disk_of g.D.Disk c.args.file.now) in counts_same n c.from_residual-in_err-share.result c.in_err-share.field-0.0 c.from_residual-in_err-share.ensures.1 (c.in_err-share.ensures.count n)

pub returns-in-Ok-clause-opened : goal.returns-in-Ok-clause-opened
returns-in-Ok-clause-opened g c =
    let some : c.args.first ≢ [] = subst (λ (es : List Edit). es ≢ []) (c.frame.view_is ∙ c.in_ok-frame.ensures) c.frame.invariant.filled in
    c.in_ok-share.ensures.opened
    ∙ ap (λ bs. share_of (record { name = c.args.name.now; keep = c.args.keep }) bs) (c.in_ok-batches.ensures ∙ ap (λ last. c.args.batches.items ++ last) (sym (filled_is c.args.first some)))

pub returns-in-Ok-clause-few : goal.returns-in-Ok-clause-few
returns-in-Ok-clause-few g c =
    let some : c.args.first ≢ [] = subst (λ (es : List Edit). es ≢ []) (c.frame.view_is ∙ c.in_ok-frame.ensures) c.frame.invariant.filled in
    subst AreFew (c.in_ok-batches.ensures ∙ ap (λ last. c.args.batches.items ++ last) (sym (filled_is c.args.first some))) c.in_ok-share.ensures.few

pub returns-in-Ok-clause-keeps : goal.returns-in-Ok-clause-keeps
returns-in-Ok-clause-keeps g c has =
    let some : c.args.first ≢ [] = subst (λ (es : List Edit). es ≢ []) (c.frame.view_is ∙ c.in_ok-frame.ensures) c.frame.invariant.filled in
    subst (λ (bs : List (List Edit)). HasBatches g.D.Disk c.append.new.self bs)
    (ap (λ frame. c.args.batches.items ++ frame ∷ []) c.in_ok-frame.ensures ∙ ap (λ last. c.args.batches.items ++ last) (sym (filled_is c.args.first some)))
    (c.in-Ok.ensures.acknowledged c.args.batches.items has)

-- One search proves all clauses of a return. A search for each clause, as without an answer, takes far longer.
pub returns-in_err-frame : goal.returns-in_err-frame
returns-in_err-frame g c = search rules

pub returns-in_err-batches : goal.returns-in_err-batches
returns-in_err-batches g c = search rules

pub returns-in-Err-clause-unchanged : goal.returns-in-Err-clause-unchanged
returns-in-Err-clause-unchanged g c =
    let some : c.args.first ≢ [] = subst (λ (es : List Edit). es ≢ []) (c.frame.view_is ∙ c.in_ok-frame.ensures) c.frame.invariant.filled in
    inr (
      refl,
      λ has. loses_first g.D.Disk _ _ c.args.batches.items _ c.args.first (ap (λ (frame : List Edit). frame ∷ []) c.in_ok-frame.ensures ∙ sym (filled_is c.args.first some))
          (c.in-Err.ensures.crash c.args.batches.items c.requires.sound has),
    )
