-- What the share answers, and leaves, is the report of one turn.
use Rattle.std.proofs.Common.{◌∙◌, ap, sym, subst}
use Rattle.share_lock.specs.Known.{after_turn}
use Rattle.share_server.specs.Answering.{IsTurnOutcome, HasAdded, has_added, loses_in}
use Rattle.share_server.proofs.Turning.{Asked, added_at, asked_at, grows_at, told_no_loss}
use Rattle.share_server.proofs.turns.keeping.answer_ask.Goals as goal

pub returns-clause-grows : goal.returns-clause-grows
returns-clause-grows g c =
    grows_at c.args.share.now c.answer-answer.new.self c.args.by c.args.ask.now.want c.answer-answer.result c.answer-answer.ensures.answered c.answer-answer.ensures.unchanged

pub returns-clause-looked : goal.returns-clause-looked
returns-clause-looked g c k own found =
    let asked : Asked c.args.share.now c.answer-answer.new.self c.args.by c.args.ask.now.want c.answer-answer.result c.is_stopped-stopped.result c.revision-revision.result c.len-end.result = record {
      answered = c.answer-answer.ensures.answered;
      marked = c.answer-answer.ensures.marked;
      unchanged = c.answer-answer.ensures.unchanged;
      free = c.answer-answer.ensures.free;
      stopped_is = c.is_stopped-stopped.ensures;
      revised_is = c.revision-revision.ensures;
      end_is = c.len-end.ensures;
    } in
    subst (IsTurnOutcome k (after_turn k c.answer-answer.new.self.history) c.args.ask.now) (sym c.turn_outcome.ensures)
    (asked_at k c.args.share.now c.answer-answer.new.self c.args.by c.args.ask.now c.answer-answer.result c.is_stopped-stopped.result c.revision-revision.result
    c.len-end.result own found asked)

pub returns-clause-added : goal.returns-clause-added
returns-clause-added g c =
    subst (λ outcome. HasAdded (has_added outcome) c.args.share.now.history c.args.by c.args.ask.now.want c.answer-answer.new.self.history) (sym c.turn_outcome.ensures)
    (added_at c.args.share.now c.answer-answer.new.self c.args.by c.args.ask.now.want c.answer-answer.result c.is_stopped-stopped.result c.revision-revision.result
    c.len-end.result c.answer-answer.ensures.answered c.answer-answer.ensures.unchanged)

pub returns-clause-goes_on : goal.returns-clause-goes_on
returns-clause-goes_on g c =
    ap loses_in c.turn_outcome.ensures ∙ told_no_loss c.answer-answer.result c.is_stopped-stopped.result c.revision-revision.result c.len-end.result
