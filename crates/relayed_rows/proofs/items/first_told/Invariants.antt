use Rattle.std.proofs.Common.{◌≡◌, drop}
use Rattle.relayed_rows.specs.ReadRows.{first_told}
use Rattle.relayed_rows.proofs.items.first_told.Given as goal

abbrev pub invariant-loop-tag : goal.invariant-loop-tag
invariant-loop-tag l = first_told l.property (drop l.tag-index l.tags) ≡ first_told l.property l.tags
