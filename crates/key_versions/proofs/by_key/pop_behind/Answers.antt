use Rattle.std.proofs.Common.{◌<◌, length, subst, sym}
use Rattle.std.specs.Prelude.{OnSome}
use Rattle.key_versions.specs.Joined.{older_at}
use Rattle.key_versions.proofs.by_key.pop_behind.Goals as goal

pub returns-clause-fewer : goal.returns-clause-fewer
returns-clause-fewer g c =
    subst (λ left. OnSome c.pop_at-popped.result (length left < length (older_at c.args.key c.args.older.now.entries)))
    (sym (c.tidy.ensures c.args.key)) c.pop_at-popped.ensures.fewer
