use Rattle.std.proofs.Common.{◌≡◌, fold, map, drop}
use Rattle.mirror_core.specs.Reading.{key_of}
use Rattle.mirror_core.specs.Changes.{with_gone}
use Rattle.mirror_core.proofs.changes.put_gone.Given as goal

abbrev pub invariant-loop-tag : goal.invariant-loop-tag
invariant-loop-tag l =
    fold with_gone l.changes.entries (map (key_of l.target) (drop l.tag-index l.tags)) ≡ fold with_gone l.fn.changes.entries (map (key_of l.target) l.tags)
