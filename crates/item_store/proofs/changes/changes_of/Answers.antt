use Rattle.std.proofs.Common.{◌++◌, ◌∷◌, [], take, sym, ap, ◌∙◌, rules}
use Rattle.std.specs.Option.{option_or}
use Rattle.std.proofs.lemmas.List.{take_more}
use Rattle.item_model.specs.declared.changes.Edit.{Edit}
use Rattle.share_history.specs.LastSaid.{last_said, says_item}
use Rattle.share_history.proofs.EditFacts.{last_said-append}
use Rattle.item_store.proofs.changes.changes_of.Goals as goal

pub loop-edit-preserved : goal.loop-edit-preserved
loop-edit-preserved c = λ id.
    let es = c.args.edits.now in
    let i = c.loop-edit.edit-index in
    let edit : Edit = c.edit-item.result in
    c.in_ok-note.ensures id ∙ ap (option_or (says_item id edit)) (c.loop-edit.invariant id) ∙ sym (last_said-append (says_item id) (take i es) (edit ∷ []))
    ∙ ap (last_said (says_item id)) (sym (take_more es i edit (search rules) ∙ ap (λ e. take i es ++ e ∷ []) (sym c.edit-item.is)))
