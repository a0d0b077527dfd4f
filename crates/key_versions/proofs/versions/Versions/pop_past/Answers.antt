use Rattle.std.proofs.Common.{◌≡◌, ◌≤◌, ◌<◌, ℕ, length}
use Rattle.std.specs.Prelude.{OnSome}
use Rattle.key_versions.specs.Found.{value_in}
use Rattle.key_versions.proofs.HeldFacts.{changed}
use Rattle.key_versions.proofs.versions.Versions.pop_past.Goals as goal

pub returns-clause-values : goal.returns-clause-values
returns-clause-values g c =
    changed c.self.inside.newest.entries c.self.inside.newest.entries c.self.inside.older.entries c.pop_past.new.older.entries c.args.self.now c.self.view_is
    (λ old new. (q base : ℕ) → c.args.low ≤ base → value_in (new q) base ≡ value_in (old q) base) c.pop_past.ensures.values

pub returns-clause-fewer : goal.returns-clause-fewer
returns-clause-fewer g c =
    changed c.self.inside.newest.entries c.self.inside.newest.entries c.self.inside.older.entries c.pop_past.new.older.entries c.args.self.now c.self.view_is
    (λ old new. OnSome c.pop_past.result (length (new c.args.key) < length (old c.args.key))) c.pop_past.ensures.fewer
