use Rattle.std.proofs.Common.{◌≡◌, ◌≤◌, ◌-◌, ℕ, ◌==◌, cond, min}
use Rattle.key_versions.specs.Found.{value_in}
use Rattle.key_versions.proofs.HeldFacts.{changed}
use Rattle.key_versions.proofs.versions.Versions.take_back.Goals as goal

pub returns : goal.returns
returns g c =
    changed c.self.inside.newest.entries c.take_back.new.newest.entries c.self.inside.older.entries c.take_back.new.older.entries c.args.self.now c.self.view_is
    (λ old new. 1 ≤ c.args.revision → (q base : ℕ) → value_in (new q) base ≡ value_in (old q) (cond (c.args.key == q) (min base (c.args.revision - 1)) base))
    c.take_back.ensures
