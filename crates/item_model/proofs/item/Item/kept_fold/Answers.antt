use Rattle.std.proofs.Common.{◌≡◌, ◌∙◌, ap, sym, subst, Some, None, option_copied}
use Rattle.item_model.specs.Items.{value_of}
use Rattle.item_model.specs.Folds.{kept_for, ServesIfAny}
use Rattle.item_model.proofs.KeptFolds.{folds_at}
use Rattle.item_model.proofs.item.Item.kept_fold.Goals as goal

-- the text stored for the property serves its value
pub returns-in-Some : goal.returns-in-Some
returns-in-Some c =
    let p = c.args.property in
    let kept : kept_for p c.self.inside.folds.items ≡ Some c.as_str.result.now =
    sym (c.find_fold.ensures ∙ ap (kept_for p) c.as_slice.ensures.value) ∙ ap option_copied c.in-Some.is ∙ ap Some (sym c.as_str.ensures) in
    rw (← c.self.view_is)
    (subst (λ k. ServesIfAny k (value_of p c.self.inside.entries.items)) kept (folds_at p c.self.inside.entries.items _ c.self.invariant.1))

pub returns-in-None : goal.returns-in-None
returns-in-None c =
    let p = c.args.property in
    let kept : kept_for p c.self.inside.folds.items ≡ None =
    sym (c.find_fold.ensures ∙ ap (kept_for p) c.as_slice.ensures.value) ∙ ap option_copied c.in-None.is in
    rw (← c.self.view_is)
    (subst (λ k. ServesIfAny k (value_of p c.self.inside.entries.items)) kept (folds_at p c.self.inside.entries.items _ c.self.invariant.1))
