use Rattle.std.proofs.Common.{◌≡◌, None, option_copied, option_map, sym, ap, ◌∙◌}
use Rattle.item_model.specs.declared.item.PropValue.TheVariants.{Text}
use Rattle.item_model.specs.Items.{value_of}
use Rattle.share_history.specs.BrowseListings.{browsed, text_in}
use Rattle.prop_index.specs.Forms.{in_form}
use Rattle.prop_index.proofs.LoweredFacts.{nothing_in}
use Rattle.prop_index.proofs.keys.Forms.of_row.Goals as goal

-- a row without the property has an empty text
pub returns-in-None-clause-keys : goal.returns-in-None-clause-keys
returns-in-None-clause-keys c =
    let without : value_of (browsed c.args.browse) c.args.row.now.item ≡ None = c.text_of.ensures.value ∙ ap (λ text. option_map Text (option_copied text)) c.in-None.is in
    λ form. c.none.ensures form ∙ sym (nothing_in form) ∙ ap (λ value. in_form form (text_in value)) (sym without)
