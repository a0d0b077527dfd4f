use Rattle.std.proofs.Common.{◌≡◌, drop}
use Rattle.mirror_core.specs.Reading.{are_rows}
use Rattle.mirror_core.proofs.tags.are_rows.Given as goal

abbrev pub invariant-loop-tag : goal.invariant-loop-tag
invariant-loop-tag l = are_rows l.target (drop l.tag-index l.tags) ≡ are_rows l.target l.tags
