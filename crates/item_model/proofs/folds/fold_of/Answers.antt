use Rattle.std.proofs.Common.{◌≡◌, IsAscii, sym, ◌∙◌, rules}
use Rattle.item_model.specs.Folding.{folded, lowered}
use Rattle.item_model.proofs.FoldLaws.{folded_ascii, lowered_folded}
use Rattle.item_model.proofs.folds.fold_of.Goals as goal

pub returns-then-is_ascii : goal.returns-then-is_ascii
returns-then-is_ascii c =
    let ascii : IsAscii c.args.text.now = search rules in sym (folded_ascii _ ascii)

pub returns-then-eq_ignore_ascii_case : goal.returns-then-eq_ignore_ascii_case
returns-then-eq_ignore_ascii_case c =
    let text = c.args.text.now in
    let same : lowered (folded text) ≡ lowered text = search rules in
    sym same ∙ lowered_folded text
