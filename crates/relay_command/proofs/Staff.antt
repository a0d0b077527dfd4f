-- The workers of a relay, its lock handle, and the listeners of both.
use Rattle.std.proofs.Common.{◌≡◌, ℕ, ◌+◌, ◌<◌, List, [], ◌∷◌, ◌++◌, map, length, refl, sym, ap, ◌∙◌, subst, arith, length-append}
use Rattle.std.proofs.lemmas.List.{get_or_append_left}
use Rattle.std.proofs.lemmas.Simd.{map-map}
use Rattle.std.specs.List.{AllByRecursion}
use Rattle.std.specs.Prelude.{All}
use Rattle.share_asks.specs.declared.ask.Role.{Role}
use Rattle.share_lock.specs.Passes.{LockId}
use Rattle.share_lock.proofs.Fronts.{all_rest}
use Rattle.share_server.specs.Passes.{Pass}
use Rattle.share_workers.specs.declared.worker.Worker.{Worker}
use Rattle.share_crew.specs.Crews.{AddsWorkers, IsNewWorker}

module _ {D : Type 0} where
  pub hired_all : (id : LockId) (k k' : Pass) (role : Role) (listeners : List D) (before after : List (Worker D)) → before ≡ [] → k' ≡ k → AddsWorkers id k role listeners before after
      → All (IsNewWorker id k') after
  hired_all id k k' role listeners before after none same h =
      let are : after ≡ h.added = h.are ∙ ap (λ (l : List (Worker D)). l ++ h.added) none in
      subst (λ (p : Pass). All (IsNewWorker id p) after) (sym same) (subst (All (IsNewWorker id k)) (sym are) h.hired)

  pub roles_all : (id : LockId) (k : Pass) (role : Role) (listeners : List D) (before after : List (Worker D)) → before ≡ [] → AddsWorkers id k role listeners before after
      → map (λ (w : Worker D). w.role) after ≡ map (λ (w : Worker D). role) after
  roles_all id k role listeners before after none h =
      let are : after ≡ h.added = h.are ∙ ap (λ (l : List (Worker D)). l ++ h.added) none in
      subst (λ (l : List (Worker D)). map (λ (w : Worker D). w.role) l ≡ map (λ (w : Worker D). role) l) (sym are)
      (h.roles_are ∙ ap (map (λ (d : D). role)) (sym h.listeners_are) ∙ map-map (λ (d : D). role) (λ (w : Worker D). w.listener) h.added)

-- what holds of all items holds of those before the last, and of the last
pub front_of : {A : Type 0} (P : A → Type 0) (xs : List A) (y : A) → All P (xs ++ y ∷ []) → All P xs
front_of P xs y all = λ k d less. subst P (get_or_append_left xs (y ∷ []) d k less) (all k d (let more = length-append xs (y ∷ []) in omega (arith, more, less)))

pub last_of_all : {A : Type 0} (P : A → Type 0) (xs : List A) (y : A) → All P (xs ++ y ∷ []) → P y
last_of_all P xs y all = all_rest P xs (y ∷ []) all 0 y (omega arith)

pub all_push : {A : Type 0} (P : A → Type 0) (xs : List A) (y : A) → AllByRecursion P xs → P y → AllByRecursion P (xs ++ y ∷ [])
all_push P [] y all one = (one, tt)
all_push P (x ∷ xs) y all one = (all.0, all_push P xs y all.1 one)
