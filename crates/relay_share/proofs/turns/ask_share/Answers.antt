-- What the share answers, and leaves, is the report of the turn.
use Rattle.std.proofs.Common.{refl, sym, subst}
use Rattle.share_history.specs.Sessions.{is_stopped}
use Rattle.share_lock.specs.Known.{after_turn}
use Rattle.share_server.proofs.Turning.{Asked, grows_at}
use Rattle.relay_share.specs.Turns.{IsTold}
use Rattle.relay_share.proofs.TurnFacts.{told_at}
use Rattle.relay_share.proofs.turns.ask_share.Goals as goal

pub returns-clause-grows : goal.returns-clause-grows
returns-clause-grows g c =
    grows_at c.args.share.now c.answer-answer.new.self c.args.by c.args.ask.now.want c.answer-answer.result c.answer-answer.ensures.answered c.answer-answer.ensures.unchanged

pub returns-clause-told : goal.returns-clause-told
returns-clause-told g c = λ k own found.
    let asked : Asked c.args.share.now c.answer-answer.new.self c.args.by c.args.ask.now.want c.answer-answer.result (is_stopped c.answer-answer.new.self.history) c.revision-revision.result c.len-end.result = record {
      answered = c.answer-answer.ensures.answered;
      marked = c.answer-answer.ensures.marked;
      unchanged = c.answer-answer.ensures.unchanged;
      free = c.answer-answer.ensures.free;
      stopped_is = refl;
      revised_is = c.revision-revision.ensures;
      end_is = c.len-end.ensures;
    } in
    subst (IsTold k (after_turn k c.answer-answer.new.self.history) c.args.ask.now) (sym c.told_of.ensures)
    (told_at k c.args.share.now c.answer-answer.new.self c.args.by c.args.ask.now c.answer-answer.result (is_stopped c.answer-answer.new.self.history) c.revision-revision.result
    c.len-end.result own found c.requires.change asked)
