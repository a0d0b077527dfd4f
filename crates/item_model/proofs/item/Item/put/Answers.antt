use Rattle.std.proofs.Common.{◌≡◌, ◌≤◌, ◌∙◌, ap, true, rules, arith}
use Rattle.item_model.specs.Properties.{rank_of}
use Rattle.item_model.specs.Items.{is_value_of, with_value}
use Rattle.item_model.proofs.Places.{stay_texts, stays_item}
use Rattle.item_model.proofs.KeptFolds.{folds_with}
use Rattle.item_model.proofs.item.Item.put.Goals as goal

pub invariant_of-self-2 : goal.invariant_of-self-2
invariant_of-self-2 c =
    let p = c.args.property in
    let v = c.args.value in
    let value : is_value_of p v ≡ true = search rules in
    let first : 0 ≤ rank_of p = omega arith in
    let put : c.set.new.entries.items ≡ with_value p v c.self.inside.entries.items = c.set.ensures ∙ ap (with_value p v) c.reserve.ensures.items in (
      rw put (stays_item p v 0 _ value first c.self.invariant.0),
      folds_with p v c.in_ok-fold.fold _ _ c.self.inside.folds.items _ put (c.in_ok-keep.ensures.kept) c.in_ok-fold.ensures.serves c.self.invariant.1,
      rw put (stay_texts p v _ c.fold.ensures.text c.self.invariant.2),
    )
