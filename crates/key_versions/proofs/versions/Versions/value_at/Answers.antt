use Rattle.std.proofs.Common.{◌≡◌, option_copied}
use Rattle.key_versions.specs.Found.{value_in}
use Rattle.key_versions.proofs.HeldFacts.{told}
use Rattle.key_versions.proofs.versions.Versions.value_at.Goals as goal

pub returns : goal.returns
returns g c =
    told c.self.inside.newest.entries c.self.inside.older.entries c.args.self.now c.self.view_is (λ f. option_copied c.value_at.result ≡ value_in (f c.args.key) c.args.base)
    c.value_at.ensures
