use Rattle.std.proofs.Common.{◌≡◌, true, sym, subst}
use Rattle.std.specs.Str.{is_utf8}
use Rattle.std.proofs.lemmas.Str.{is_utf8-from_IsUtf8}
use Rattle.item_model.specs.Items.{IsText}
use Rattle.item_model.proofs.item.PropValue.fold.Goals as goal

pub returns-in-Text-clause-text : goal.returns-in-Text-clause-text
returns-in-Text-clause-text c =
    subst IsText (sym c.in-Text.is) (subst (λ bytes. is_utf8 bytes ≡ true) c.as_str.ensures (is_utf8-from_IsUtf8 _ c.as_str.utf8))
