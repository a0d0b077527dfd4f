-- The edits that name what a `Named` is.
use Rattle.std.specs.Prelude.{Bool}
use Rattle.item_model.specs.declared.changes.Edit.{Edit}
use Rattle.share_history.specs.Named.{names_item, names_list, names_member}
use Rattle.reference_share.specs.declared.names.Named.{Named}
use Rattle.reference_share.specs.declared.names.Named.TheVariants.{Item, List, Member}

abbrev pub names : Named → Edit → Bool
names (Item id) edit = names_item id edit
names (List id) edit = names_list id edit
names (Member list member) edit = names_member list member edit
