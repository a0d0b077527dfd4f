use denote.Exit.{no}
use denote.Param.{param}
use denote.Param.Send.{IsSend, Quiet-if}
use mir.Syntax.{of_param}
use Rattle.share_crew.proofs.Crossing.{taken_send}
use Rattle.share_crew.proofs.beside.run_with_editor.Goals as goal

-- the workers may go to a thread, as their listeners may
pub join_mut-requires-send-F : goal.join_mut-requires-send-F
join_mut-requires-send-F g c κs within =
    let taken = taken_send (param 2 g.row.R) (param 0 g.row.D) κs.1.1.1.1.1.1.1.1.0 κs.1.1.1.1.1.1.1.1.1.0 κs.1.1.1.1.1.1.1.1.1.1.0 κs.1.1.1.1.1.1.1.1.1.1.1.0 κs.1.1.1.1.1.1.1.1.1.1.1.1.0
    c.type_bounds.sync-R c.type_bounds.send-D in record {
      owned = λ x vs. taken.owned (x.0, (x.1, (x.2, (x.3, (x.4, tt))))) vs;
      leaving = λ k. Quiet-if (k (of_param 1)) _ _ (λ x w. taken.leaving no (x.0, (x.1, (x.2, (x.3, (x.4, tt))))) w) (λ x w. tt);
    }
