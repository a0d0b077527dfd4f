-- The turn has ended, the handle served nothing yet, the keeper lost nothing, and the connection is unchanged.
use Rattle.std.specs.Prelude.{◌≡◌, [], false}
use Rattle.share_lock.specs.Passes.{lock_id, known, IsReady}
use Rattle.share_server.specs.Passes.{Serves}
use Rattle.share_server.specs.Kept.{Keeping}
use Rattle.share_server.proofs.turns.answers.answer_request.Given as goal

abbrev pub invariant-loop : goal.invariant-loop
invariant-loop g l = record {
  ready : IsReady (lock_id l.lock) l.pass;
  quiet : Serves (known l.fn.pass) (known l.pass) [] [];
  going : g.F.Keeps.is_lost l.keeper ≡ false;
  keeping :
      Keeping (g.F.Keeps.keeps l.fn.keeper) (g.F.Keeps.keeps l.keeper) (g.F.Keeps.is_lost l.keeper) (g.F.Keeps.faults l.fn.keeper) (g.F.Keeps.faults l.keeper)
      (known l.fn.pass) (known l.pass) false;
  taken : g.K.Sink.taken l.link ≡ g.K.Sink.taken l.initial.link;
  beside : g.K.Sink.beside_taken l.link ≡ g.K.Sink.beside_taken l.initial.link;
  count : g.K.Faulted.faults l.link ≡ g.K.Faulted.faults l.initial.link;
}
