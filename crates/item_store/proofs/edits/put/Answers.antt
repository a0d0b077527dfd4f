use Rattle.std.proofs.Common.{◌≡◌, ◌<◌, ◌+◌, ◌^◌, ℕ, cond, is_some, ap, subst}
use Rattle.std.specs.Prelude.{IfOk}
use Rattle.key_versions.specs.Found.{newest_value}
use Rattle.key_versions.specs.Held.{versions_at}
use Rattle.item_store.proofs.edits.put.Goals as goal

pub returns-in-Ok-clause-counted : goal.returns-in-Ok-clause-counted
returns-in-Ok-clause-counted c =
    subst (λ id. IfOk c.set.result (λ now. (n : ℕ) → n < 2 ^ 32 → n + cond (is_some (newest_value (versions_at id c.args.held.now))) 1 0 ≡ c.args.count + 1 → now ≡ n))
    (ap (λ row. row.id) c.row.ensures) c.set.ensures.counted
