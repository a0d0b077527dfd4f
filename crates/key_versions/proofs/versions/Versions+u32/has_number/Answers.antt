use Rattle.std.proofs.Common.{◌≡◌, ℕ, Some, true}
use Rattle.key_versions.specs.Found.{value_in}
use Rattle.key_versions.proofs.HeldFacts.{told}
use Rattle.key_versions.proofs.versions.Versions+u32.has_number.Goals as goal

pub returns : goal.returns
returns c =
    told c.self.inside.newest.entries c.self.inside.older.entries c.args.self.now c.self.view_is
    (λ f. (base : ℕ) → value_in (f c.args.key) base ≡ Some c.args.number → c.is_held.result ≡ true) c.is_held.ensures
