use Rattle.std.proofs.Common.{◌≡◌, drop}
use Rattle.std.specs.List.{list_any}
use Rattle.reference_share.specs.NamedBy.{names}
use Rattle.reference_share.proofs.names.one_names.Given as goal

abbrev pub invariant-loop-edit : goal.invariant-loop-edit
invariant-loop-edit l =
    list_any (names l.named) (drop l.edit-index l.edits) ≡ list_any (names l.named) l.edits
