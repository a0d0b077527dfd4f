use Rattle.std.proofs.Common.{◌≡◌, drop}
use Rattle.mirror_core.specs.Reading.{are_keys}
use Rattle.mirror_core.proofs.tags.are_keys.Given as goal

abbrev pub invariant-loop-tag : goal.invariant-loop-tag
invariant-loop-tag l = are_keys l.target (drop l.tag-index l.tags) ≡ are_keys l.target l.tags
