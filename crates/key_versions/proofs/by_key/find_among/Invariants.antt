use Rattle.std.proofs.Common.{◌≡◌, drop}
use Rattle.key_versions.specs.Found.{found}
use Rattle.key_versions.proofs.by_key.find_among.Given as goal

abbrev pub invariant-loop-index : goal.invariant-loop-index
invariant-loop-index g l = found (drop l.index l.versions.items) l.base ≡ found l.versions.items l.base
