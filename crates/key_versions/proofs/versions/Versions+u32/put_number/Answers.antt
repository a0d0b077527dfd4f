use Rattle.std.proofs.Common.{◌≡◌, ℕ, ◌==◌, ◌&&◌, cond}
use Rattle.std.specs.Prelude.{nat_le, OnOk, OnErr}
use Rattle.key_versions.specs.Found.{value_in}
use Rattle.key_versions.proofs.HeldFacts.{changed}
use Rattle.key_versions.proofs.versions.Versions+u32.put_number.Goals as goal

pub returns-clause-values : goal.returns-clause-values
returns-clause-values c =
    changed c.self.inside.newest.entries c.put.new.newest.entries c.self.inside.older.entries c.put.new.older.entries c.args.self.now c.self.view_is
    (λ old new. OnOk c.put.result ((q base : ℕ) → value_in (new q) base ≡ cond ((c.args.key == q) && nat_le c.args.revision base) c.args.number (value_in (old q) base)))
    c.put.ensures.values

pub returns-clause-unchanged : goal.returns-clause-unchanged
returns-clause-unchanged c =
    changed c.self.inside.newest.entries c.put.new.newest.entries c.self.inside.older.entries c.put.new.older.entries c.args.self.now c.self.view_is
    (λ old new. OnErr c.put.result ((q base : ℕ) → value_in (new q) base ≡ value_in (old q) base)) c.put.ensures.unchanged
