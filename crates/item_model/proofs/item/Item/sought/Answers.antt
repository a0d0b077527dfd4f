use Rattle.std.proofs.Common.{◌≡◌, ◌∙◌, ap, sym, Some, unwrap_or, option_copied}
use Rattle.item_model.specs.Items.{value_of}
use Rattle.item_model.specs.Folds.{kept_for}
use Rattle.item_model.specs.declared.item.PropValue.TheVariants.{Text}
use Rattle.item_model.proofs.KeptFolds.{folds_at, sought_text}
use Rattle.item_model.proofs.item.Item.sought.Goals as goal

pub returns-in-Some : goal.returns-in-Some
returns-in-Some c =
    let p = c.args.property in
    let entries = c.self.inside.entries.items in
    let found : value_of p entries ≡ Some (Text c.in-Text.text) = sym (c.find_value.ensures ∙ ap (value_of p) c.as_slice.ensures.value) ∙ ap option_copied c.in_ok-n.was ∙ ap Some c.in-Text.is in
    let kept : kept_for p c.self.inside.folds.items ≡ Some c.in-Some.fold.now = sym (c.find_fold.ensures ∙ ap (kept_for p) c.as_slice-in-Text.ensures.value) ∙ ap option_copied c.in-Some.is in
    rw (← c.self.view_is)
    (sought_text (value_of p entries) (kept_for p c.self.inside.folds.items) c.in-Text.text c.as_str.result found
    (c.as_str.ensures ∙ sym (ap (λ k. unwrap_or k c.in-Text.text) kept)) (folds_at p entries _ c.self.invariant.1))

pub returns-in-None : goal.returns-in-None
returns-in-None c =
    let p = c.args.property in
    let entries = c.self.inside.entries.items in
    let found : value_of p entries ≡ Some (Text c.in-Text.text) = sym (c.find_value.ensures ∙ ap (value_of p) c.as_slice.ensures.value) ∙ ap option_copied c.in_ok-n.was ∙ ap Some c.in-Text.is in
    let kept = sym (c.find_fold.ensures ∙ ap (kept_for p) c.as_slice-in-Text.ensures.value) ∙ ap option_copied c.in-None.is in
    rw (← c.self.view_is)
    (sought_text (value_of p entries) (kept_for p c.self.inside.folds.items) c.in-Text.text c.as_str-in-None.result found
    (c.as_str-in-None.ensures ∙ sym (ap (λ k. unwrap_or k c.in-Text.text) kept)) (folds_at p entries _ c.self.invariant.1))
