use Rattle.std.proofs.Common.{rules}
use Rattle.share_lock.specs.Passes.{known}
use Rattle.share_workers.proofs.OneMore.{looked}
use Rattle.share_workers.proofs.working.sync_turn.Goals as goal

pub returns-clause-syncs : goal.returns-clause-syncs
returns-clause-syncs g c = looked (known c.args.pass.now) (known c.take-turn.result.pass.now) _ _ c.take-turn.ensures.pass c.take-turn.ensures.history (search rules)
