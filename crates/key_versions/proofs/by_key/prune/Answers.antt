use Rattle.std.proofs.Common.{◌≡◌, ◌==◌, None, eqb-true, subst}
use Rattle.key_versions.specs.Found.{value_in}
use Rattle.key_versions.specs.Joined.{apart_at, older_at}
use Rattle.key_versions.proofs.FoundFacts.{gone_value}
use Rattle.key_versions.proofs.by_key.prune.Goals as goal

pub returns-then-is_gone : goal.returns-then-is_gone
returns-then-is_gone g c = λ q base le.
    gone_value (c.args.key == q) _ _ base _ (c.remove_all.ensures q)
    (λ e. subst (λ k. value_in (apart_at c.args.newest.now.entries c.trim.new.older.entries k) base ≡ None) (eqb-true c.args.key q e)
    (c.is_gone.ensures c.if-is_gone.true (older_at c.args.key c.trim.new.older.entries) base le))
    (c.trim.ensures q base le)
