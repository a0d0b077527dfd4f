use Rattle.std.proofs.Common.{◌≡◌, drop}
use Rattle.relayed_rows.specs.Putting.{put_all_told}
use Rattle.relayed_rows.proofs.items.put_all_told.Given as goal

abbrev pub invariant-loop-property : goal.invariant-loop-property
invariant-loop-property l = put_all_told l.tags l.item (drop l.property-index l.properties) ≡ put_all_told l.tags l.fn.item l.properties
