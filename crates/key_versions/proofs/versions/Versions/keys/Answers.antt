use Rattle.key_versions.proofs.HeldFacts.{keys_told}
use Rattle.key_versions.proofs.versions.Versions.keys.Goals as goal

pub returns : goal.returns
returns g c =
    keys_told (λ v. v.items) c.keys.result c.self.inside.newest.entries c.self.inside.older.entries c.args.self.now c.self.view_is c.keys.ensures.ascending c.keys.ensures.keys
