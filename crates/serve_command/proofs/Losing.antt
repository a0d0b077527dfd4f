-- What a keeper has after all workers have ended, of whom the last is its editor.
use Rattle.std.proofs.Common.{◌≡◌, ◌||◌, ℕ, zero, suc, Bool, true, false, List, [], ◌∷◌, ◌++◌, drop, get_or, length, map, Option, MatchBool, refl, sym, subst, ap, ◌∙◌, arith, length-append}
use Rattle.std.proofs.lemmas.List.{map-append}
use Rattle.std.proofs.lemmas.List.Elements.{recursion_from_All}
use Rattle.std.specs.List.{AllByRecursion, AllZip}
use Rattle.std.specs.Prelude.{All, nat_eq, replicate}
use Rattle.outside_net.specs.Counts.{Rose}
use Rattle.outside_net.specs.Places.{Returned}
use Rattle.item_model.specs.declared.changes.Edit.{Edit}
use Rattle.item_model.specs.declared.changes.Entry.{Entry}
use Rattle.share_asks.specs.declared.ask.Role.TheVariants as role
use Rattle.share_lock.specs.Passes.{known}
use Rattle.share_replies.specs.Settings.{Settings}
use Rattle.share_replies.specs.Laws.{maker}
use Rattle.share_server.specs.Kept.{Keeping}
use Rattle.share_server.specs.Passes.{Pass}
use Rattle.share_workers.specs.declared.worker.Worker.{Worker}
use Rattle.share_workers.specs.declared.worker.WorkerEnd.{WorkerEnd}
use Rattle.share_workers.specs.declared.worker.WorkerEnd.TheVariants as worker
use Rattle.share_workers.specs.Ends.{is_worker_loss}
use Rattle.share_workers.specs.Keepers.{KeepsBut}
use Rattle.share_history.specs.Histories.{batches}
use Rattle.share_crew.specs.Crews.{IsOf}
use Rattle.share_crew.specs.WorkerRuns.{WorkerRun, IsHistoryOf, IsPart}
use Rattle.share_crew.specs.Verdicts.{end_number, has_end}
use Rattle.share_crew.proofs.Joining.{all_parts, last_of}
use Rattle.serve_command.specs.Files.{HasKept}
use Rattle.share_crew.proofs.Players.{ArePlayers}
use Rattle.serve_command.proofs.Editing.{editor_keeps}

-- what precedes the last of a list
pub init_same : {A : Type 0} (xs ys : List A) (x y : A) → xs ++ x ∷ [] ≡ ys ++ y ∷ [] → xs ≡ ys
init_same [] [] x y is = refl
init_same [] (b ∷ ys) x y is = absurd (let count = ap length is in let more = length-append ys (y ∷ []) in omega (arith, count, more))
init_same (a ∷ xs) [] x y is = absurd (let count = ap length is in let more = length-append xs (x ∷ []) in omega (arith, count, more))
init_same (a ∷ xs) (b ∷ ys) x y is = let head = ap (λ l. get_or l 0 a) is in let rest = init_same xs ys x y (ap (drop 1) is) in λ i. head i ∷ rest i

loss_is : (end : WorkerEnd) → nat_eq (end_number end) 6 ≡ is_worker_loss end
loss_is worker.Running = refl
loss_is worker.Stopped = refl
loss_is worker.NoMoreLinks = refl
loss_is worker.Spent = refl
loss_is worker.AcceptFault = refl
loss_is worker.FileFault = refl
loss_is worker.Memory = refl

or_none : (b : Bool) → (b || false) ≡ b
or_none true = refl
or_none false = refl

module _ {settings : Settings} {opened : List Entry} where
  -- an edit was lost if the last worker lost one
  pub last_lost : (players : List (WorkerRun settings opened)) (editor : WorkerRun settings opened) → AllByRecursion (λ s. is_worker_loss s.end ≡ false) players
      → has_end worker.FileFault (map (λ (s : WorkerRun settings opened). s.end) (players ++ editor ∷ [])) ≡ is_worker_loss editor.end
  last_lost [] editor none = or_none (nat_eq (end_number editor.end) 6) ∙ loss_is editor.end
  last_lost (s ∷ players) editor none =
      ap (λ b. b || has_end worker.FileFault (map (λ (t : WorkerRun settings opened). t.end) (players ++ editor ∷ []))) (loss_is s.end ∙ none.0) ∙ last_lost players editor none.1

  all_listen : (players : List (WorkerRun settings opened)) (count : ℕ) → map (λ (s : WorkerRun settings opened). s.role) players ≡ replicate count role.Listen → AllByRecursion (λ s. is_worker_loss s.end ≡ false) players
      → ArePlayers players
  all_listen [] count is none = tt
  all_listen (s ∷ players) zero is none = absurd (let count = ap length is in omega (arith, count))
  all_listen (s ∷ players) (suc count) is none = ((ap (λ l. get_or l 0 role.Listen) is, none.0), all_listen players count (ap (drop 1) is) none.1)

  module _ {D : Type 0} (written : D → Option (List Returned)) (faults : D → ℕ) where
    no_losses : (players : List (WorkerRun settings opened)) (front : List (Worker D)) → AllZip (IsOf written faults) players front → AllByRecursion (λ (w : Worker D). is_worker_loss w.end ≡ false) front
        → AllByRecursion (λ (s : WorkerRun settings opened). is_worker_loss s.end ≡ false) players
    no_losses [] [] zip none = tt
    no_losses [] (w ∷ front) zip none = absurd zip
    no_losses (s ∷ players) [] zip none = absurd zip
    no_losses (s ∷ players) (w ∷ front) zip none = (ap is_worker_loss zip.0.end_is ∙ none.0, no_losses players front zip.1 none.1)

    -- for the players, and then the editor
    keeps_as : (history : List Entry) (players : List (WorkerRun settings opened)) (editor : WorkerRun settings opened) (most workers editors : ℕ) (k : Pass) (w : Worker D)
        (keeps keeps' : List (List Edit) → Type 0) (is_lost' : Bool) (n n' : ℕ)
        → AllByRecursion (λ (s : WorkerRun settings opened). is_worker_loss s.end ≡ false) players → IsOf written faults editor w
        → map (λ (s : WorkerRun settings opened). s.role) (players ++ editor ∷ []) ≡ replicate workers role.Listen ++ replicate editors role.Edit → All (λ e. maker e ≡ 0) opened
        → IsHistoryOf most history (players ++ editor ∷ []) [] → k.seen ≡ opened → Keeping keeps keeps' is_lost' n n' k (known w.pass) (is_worker_loss w.end)
        → HasKept editors keeps keeps' is_lost' n n' opened history (has_end worker.FileFault (map (λ (s : WorkerRun settings opened). s.end) (players ++ editor ∷ [])))
    keeps_as history players editor most workers editors k w keeps keeps' is_lost' n n' none of roles first one seen did =
        let lost : has_end worker.FileFault (map (λ (s : WorkerRun settings opened). s.end) (players ++ editor ∷ [])) ≡ is_worker_loss w.end = last_lost players editor none ∙ ap is_worker_loss of.end_is in
        let did' : Keeping keeps keeps' is_lost' n n' k editor.pass (is_worker_loss w.end) = subst (λ (p : Pass). Keeping keeps keeps' is_lost' n n' k p (is_worker_loss w.end)) (sym of.pass_is) did in record {
          is_lost = did.is_lost ∙ sym lost;
          counts = subst (λ b. MatchBool b (Rose n n') (n' ≡ n)) (sym lost) did.counts;
          kept = λ single had.
              let listen = init_same (map (λ (s : WorkerRun settings opened). s.role) players) (replicate workers role.Listen) editor.role role.Edit
              (sym (map-append (λ (s : WorkerRun settings opened). s.role) players (editor ∷ [])) ∙ roles ∙ ap (λ e. replicate workers role.Listen ++ replicate e role.Edit) single) in
              subst (λ b. KeepsBut b keeps' (batches history)) (sym lost)
              (editor_keeps history players editor most k keeps keeps' is_lost' n n' (is_worker_loss w.end) (all_listen players workers listen none) first one
              (all_parts (IsPart history) players editor one.parts).1 seen did' had);
        }

    pub crew_keeps : (history : List Entry) (crew : List (WorkerRun settings opened)) (front : List (Worker D)) (w : Worker D) (most workers editors : ℕ) (k : Pass)
        (keeps keeps' : List (List Edit) → Type 0) (is_lost' : Bool) (n n' : ℕ)
        → AllZip (IsOf written faults) crew (front ++ w ∷ []) → All (λ (v : Worker D). is_worker_loss v.end ≡ false) front
        → map (λ (s : WorkerRun settings opened). s.role) crew ≡ replicate workers role.Listen ++ replicate editors role.Edit → All (λ e. maker e ≡ 0) opened
        → IsHistoryOf most history crew [] → k.seen ≡ opened → Keeping keeps keeps' is_lost' n n' k (known w.pass) (is_worker_loss w.end)
        → HasKept editors keeps keeps' is_lost' n n' opened history (has_end worker.FileFault (map (λ (s : WorkerRun settings opened). s.end) crew))
    crew_keeps history crew front w most workers editors k keeps keeps' is_lost' n n' zip whole roles first one seen did =
        let parts = last_of (IsOf {settings = settings} {opening = opened} written faults) crew front w zip in
        subst (λ c. HasKept editors keeps keeps' is_lost' n n' opened history (has_end worker.FileFault (map (λ (s : WorkerRun settings opened). s.end) c))) (sym parts.are)
        (keeps_as history parts.before parts.last most workers editors k w keeps keeps' is_lost' n n'
        (no_losses parts.before front parts.fits (recursion_from_All (λ (v : Worker D). is_worker_loss v.end ≡ false) front whole)) parts.fits_last
        (subst (λ c. map (λ (s : WorkerRun settings opened). s.role) c ≡ replicate workers role.Listen ++ replicate editors role.Edit) parts.are roles) first
        (subst (λ c. IsHistoryOf most history c []) parts.are one) seen did)
