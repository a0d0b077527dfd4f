use Rattle.std.proofs.Common.{◌∷◌, [], ◌++◌, sym, subst, ◌∙◌}
use Rattle.item_store.specs.Stands.{StandsFor}
use Rattle.share_core.proofs.Results.{anyway}
use Rattle.share_core.proofs.stores.Stores.apply.Goals as goal

pub returns-in-Ok-clause-stand : goal.returns-in-Ok-clause-stand
returns-in-Ok-clause-stand g c = λ bs stand.
    c.in-Ok.ensures.stand bs
    (record {
      items = c.in_ok-apply.ensures.stands bs stand.items;
      others = record { lists = stand.lists; index = stand.index };
      were = c.as_slice.ensures.value ∙ c.in_ok-before.ensures bs stand.items;
      short = stand.short;
    })

pub returns-in-Ok-clause-cost : goal.returns-in-Ok-clause-cost
returns-in-Ok-clause-cost g c = λ bs stand.
    c.follow.ensures.cost bs
    (record {
      items = c.in_ok-apply.ensures.stands bs stand.items;
      others = record { lists = stand.lists; index = stand.index };
      were = c.as_slice.ensures.value ∙ c.in_ok-before.ensures bs stand.items;
      short = stand.short;
    })

pub returns-clause-unchanged : goal.returns-clause-unchanged
returns-clause-unchanged g c = λ bs stand.
    let batch = c.args.batch.now in
    let left = c.in-Err.ensures.unchanged bs
    (record {
      items = c.in_ok-apply.ensures.stands bs stand.items;
      others = record { lists = stand.lists; index = stand.index };
      were = c.as_slice.ensures.value ∙ c.in_ok-before.ensures bs stand.items;
      short = stand.short;
    }) in record {
      items = c.undo.ensures.stands bs batch (subst (StandsFor (bs ++ batch ∷ [])) (sym c.follow.ensures.items) (c.in_ok-apply.ensures.stands bs stand.items));
      lists = left.lists;
      index = left.index;
      short = stand.short;
    }

pub returns-clause-cost : goal.returns-clause-cost
returns-clause-cost g c = λ bs stand.
    c.follow.ensures.cost bs
    (record {
      items = c.in_ok-apply.ensures.stands bs stand.items;
      others = record { lists = stand.lists; index = stand.index };
      were = c.as_slice.ensures.value ∙ c.in_ok-before.ensures bs stand.items;
      short = stand.short;
    })

pub returns-in_err-before-clause-unchanged : goal.returns-in_err-before-clause-unchanged
returns-in_err-before-clause-unchanged g c = anyway c.from_residual.result (λ bs stand. stand)

pub returns-in_err-apply-clause-unchanged : goal.returns-in_err-apply-clause-unchanged
returns-in_err-apply-clause-unchanged g c =
    anyway c.from_residual-in_err-apply.result
    (λ bs stand. record {
      items = c.in_err-apply.ensures.unchanged.stands bs stand.items;
      lists = stand.lists;
      index = stand.index;
      short = stand.short;
    })
