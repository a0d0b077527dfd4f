use Rattle.std.proofs.Common.{◌≡◌, ◌≤◌, ℕ}
use Rattle.key_versions.specs.Found.{value_in}
use Rattle.key_versions.proofs.HeldFacts.{changed}
use Rattle.key_versions.proofs.versions.Versions.prune.Goals as goal

pub returns : goal.returns
returns g c =
    changed c.self.inside.newest.entries c.prune.new.newest.entries c.self.inside.older.entries c.prune.new.older.entries c.args.self.now c.self.view_is
    (λ old new. (q base : ℕ) → c.args.low ≤ base → value_in (new q) base ≡ value_in (old q) base) c.prune.ensures
