use Rattle.std.proofs.Common.{◌≡◌, fold, map, drop}
use Rattle.item_model.specs.declared.request.Target.TheVariants.{Items}
use Rattle.mirror_core.specs.Reading.{key_of}
use Rattle.relayed_rows.specs.Changes.{with_gone}
use Rattle.relayed_rows.proofs.changes.clear_deleted.Given as goal

abbrev pub invariant-loop-key : goal.invariant-loop-key
invariant-loop-key l =
    fold with_gone l.changes.entries (map (key_of Items) (drop l.key-index l.keys)) ≡ fold with_gone l.fn.changes.entries (map (key_of Items) l.keys)
