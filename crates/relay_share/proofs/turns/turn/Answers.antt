-- The handle found the share in its turn, and has then seen what the answer left.
use Rattle.std.proofs.Common.{rules, ◌≡◌, sym, subst}
use Rattle.share_lock.specs.Passes.{known}
use Rattle.share_server.specs.Answering.{Finds}
use Rattle.share_server.specs.Passes.{Pass}
use Rattle.relay_share.specs.Turns.{IsTold}
use Rattle.relay_share.proofs.turns.turn.Goals as goal

pub returns-clause-told : goal.returns-clause-told
returns-clause-told g c =
    let k = known c.args.pass.now in
    let own : k.number ≡ c.number-by.result = search rules in
    let found : Finds k c.state.result.now =
    subst (Finds k) (sym c.state.ensures.value) (record { settings = c.take-turn.ensures.settings; history = c.take-turn.ensures.history }) in
    subst (λ (now : Pass). IsTold k now c.args.ask.now c.ask_share-told.result) (search rules) (c.ask_share-told.ensures.told k own found)
