use Rattle.std.proofs.Common.{◌≡◌, option_copied}
use Rattle.key_versions.specs.Found.{newest_value}
use Rattle.key_versions.specs.Joined.{older_at}
use Rattle.key_versions.proofs.HeldFacts.{told}
use Rattle.key_versions.proofs.versions.Versions.newest.Goals as goal

pub returns : goal.returns
returns g c =
    told c.self.inside.newest.entries c.self.inside.older.entries c.args.self.now c.self.view_is (λ f. option_copied c.newest.result ≡ newest_value (f c.args.key))
    (c.newest.ensures (older_at c.args.key c.self.inside.older.entries))
