use Rattle.std.proofs.Common.{Some, None, refl}
use Rattle.item_model.specs.declared.changes.Edit.TheVariants.{PutItem, DropItem}
use Rattle.item_store.proofs.ItemFacts.{one_set, one_left, length-put_item, length-drop_item}
use Rattle.item_store.proofs.edits.take_in_one.Goals as goal

pub returns-in-PutItem-clause-items : goal.returns-in-PutItem-clause-items
returns-in-PutItem-clause-items c =
    let row = c.in-PutItem.row in
    let is = c.in-PutItem.is in
    rw is
    (one_set c.put.result (PutItem row) row.id (Some row) c.args.held.now c.put.new.held c.args.revision c.args.count (rw is at c.requires)
    (λ q. refl) (λ es. length-put_item es row) c.put.ensures.rows c.put.ensures.counted)

pub returns-in-DropItem-clause-items : goal.returns-in-DropItem-clause-items
returns-in-DropItem-clause-items c =
    let id = c.in-DropItem.id in
    let is = c.in-DropItem.is in
    let set = c.set in
    rw is
    (one_set set.result (DropItem id) id None c.args.held.now set.new.held c.args.revision c.args.count (rw is at c.requires)
    (λ q. refl) (λ es. length-drop_item es id) set.ensures.rows set.ensures.counted)

pub returns-in_default : goal.returns-in_default
returns-in_default c = record {
  items = one_left c.args.edit.now c.args.held.now c.args.revision c.args.count c.requires c.in_default.not-PutItem c.in_default.not-DropItem;
  before = λ q base h. refl;
  others = λ q base h. refl;
}
