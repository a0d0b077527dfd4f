-- The handle found the share in its turn, and has then seen what the answer left.
use Rattle.std.proofs.Common.{rules, ◌≡◌, sym, subst}
use Rattle.share_lock.specs.Passes.{known}
use Rattle.share_server.specs.Answering.{Finds, loses_in}
use Rattle.share_server.proofs.Kept.{kept_in}
use Rattle.share_server.proofs.Turning.{turned}
use Rattle.share_server.proofs.turns.looks.answer_in_turn.Goals as goal

pub returns-clause-looked : goal.returns-clause-looked
returns-clause-looked g c =
    let k = known c.args.pass.now in
    let own : k.number ≡ c.number-by.result = search rules in
    let found : Finds k c.state.result.now =
    subst (Finds k) (sym c.state.ensures.value) (record { settings = c.take-turn.ensures.settings; history = c.take-turn.ensures.history }) in
    turned k _ c.ask_share-outcome.new.share.history c.args.ask.now c.ask_share-outcome.result (search rules) (c.ask_share-outcome.ensures.looked k own found)

pub returns-clause-keeping : goal.returns-clause-keeping
returns-clause-keeping g c =
    let k = known c.args.pass.now in
    let own : k.number ≡ c.number-by.result = search rules in
    let found : Finds k c.state.result.now =
    subst (Finds k) (sym c.state.ensures.value) (record { settings = c.take-turn.ensures.settings; history = c.take-turn.ensures.history }) in
    kept_in k _ c.ask_share-outcome.new.share.history (g.F.Keeps.keeps c.args.keeper.now) (g.F.Keeps.keeps c.ask_share-outcome.new.keeper) (g.F.Keeps.is_lost c.ask_share-outcome.new.keeper)
    (g.F.Keeps.faults c.args.keeper.now) (g.F.Keeps.faults c.ask_share-outcome.new.keeper) (loses_in c.ask_share-outcome.result) (search rules) (c.ask_share-outcome.ensures.keeping k own found)
