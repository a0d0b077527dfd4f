use Rattle.std.proofs.Common.{◌≡◌, ◌++◌, ◌∷◌, [], ap, ◌∙◌, None, Some, rules}
use Rattle.item_model.specs.Folds.{kept_for}
use Rattle.item_model.proofs.KeptFolds.{others, kept_without, kept_last}
use Rattle.item_model.proofs.folds.keep.Goals as goal

pub returns-in_default-clause-kept : goal.returns-in_default-clause-kept
returns-in_default-clause-kept c = λ q.
    let none : c.args.fold ≡ None = search rules in
    rw none (ap (kept_for q) c.forget.ensures.others ∙ kept_without c.args.property q c.args.folds.now.items)

pub returns-clause-kept : goal.returns-clause-kept
returns-clause-kept c = λ q.
    let p = c.args.property in
    let some : c.args.fold ≡ Some c.in-Some.fold = search rules in
    rw some
    (ap (kept_for q) (c.push_reserved.ensures.items ∙ ap (λ folds. folds ++ (p, c.in-Some.fold) ∷ []) (c.forget-2.ensures.others ∙ ap (others p) c.in_ok-reserve.ensures.items))
    ∙ kept_last p q c.in-Some.fold c.args.folds.now.items)
