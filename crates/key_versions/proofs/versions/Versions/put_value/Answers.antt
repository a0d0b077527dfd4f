use Rattle.std.proofs.Common.{◌≡◌, ℕ, ◌==◌, ◌&&◌, cond, is_some}
use Rattle.std.specs.Prelude.{nat_le, IfOk, OnOk, OnErr}
use Rattle.key_versions.specs.Found.{value_in, newest_value}
use Rattle.key_versions.proofs.HeldFacts.{told, changed}
use Rattle.key_versions.proofs.versions.Versions.put_value.Goals as goal

pub returns-clause-was : goal.returns-clause-was
returns-clause-was g c =
    told c.self.inside.newest.entries c.self.inside.older.entries c.args.self.now c.self.view_is
    (λ old. IfOk c.put_value.result (λ was. was ≡ is_some (newest_value (old c.args.key)))) c.put_value.ensures.was

pub returns-clause-values : goal.returns-clause-values
returns-clause-values g c =
    changed c.self.inside.newest.entries c.put_value.new.newest.entries c.self.inside.older.entries c.put_value.new.older.entries c.args.self.now c.self.view_is
    (λ old new. OnOk c.put_value.result ((q base : ℕ) → value_in (new q) base ≡ cond ((c.args.key == q) && nat_le c.args.revision base) c.args.value (value_in (old q) base)))
    c.put_value.ensures.values

pub returns-clause-unchanged : goal.returns-clause-unchanged
returns-clause-unchanged g c =
    changed c.self.inside.newest.entries c.put_value.new.newest.entries c.self.inside.older.entries c.put_value.new.older.entries c.args.self.now c.self.view_is
    (λ old new. OnErr c.put_value.result ((q base : ℕ) → value_in (new q) base ≡ value_in (old q) base)) c.put_value.ensures.unchanged
