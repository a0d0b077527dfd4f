-- The history that the worker runs of all workers leave together.
use Rattle.std.proofs.Common.{◌≡◌, ◌≢◌, ◌⊎◌, ◌+◌, ◌<◌, ◌≤◌, ℕ, zero, suc, cond, List, [], ◌∷◌, ◌++◌, length, get_or, refl, sym, subst, ap, ◌∙◌, inl, inr, arith, append_assoc, ne_eqb}
use Rattle.std.proofs.lemmas.List.{length-map}
use Rattle.std.proofs.lemmas.List.Elements.{All-append, Contains-append_left, Contains-append_right, Contains-append_cases}
use Rattle.std.specs.List.{AllByRecursion}
use Rattle.std.specs.Prelude.{All, Contains}
use Rattle.item_model.specs.declared.changes.Entry.{Entry}
use Rattle.share_lock.specs.Histories.{entries_of, Continues}
use Rattle.share_lock.specs.Known.{numbers_of, fresh}
use Rattle.share_lock.proofs.Fronts.{all_rest}
use Rattle.share_replies.specs.Settings.{Settings}
use Rattle.share_replies.specs.Laws.{maker}
use Rattle.share_server.specs.Passes.{Pass}
use Rattle.share_server.specs.Served.{added_entries}
use Rattle.share_server.proofs.Longer.{stays}
use Rattle.share_workers.specs.Works.{all_served}
use Rattle.share_crew.specs.WorkerRuns.{WorkerRun, IsPart, IsOther, IsHistoryOf, IsNumbered, numbers_of_all, passes_in}
use Rattle.share_crew.specs.Crews.{ContinuesHistory, HasJoined}
use Rattle.share_crew.proofs.Joining.{further}
use Rattle.share_crew.proofs.Numbers.{each_stands, contains_head}

-- the opening has no entries of a worker
pub none_of_opening : (n : ℕ) (es : List Entry) → 1 ≤ n → All (λ e. maker e ≡ 0) es → entries_of maker n es ≡ []
none_of_opening n [] some all = refl
none_of_opening n (e ∷ es) some all =
    let other : maker e ≢ n = λ is. let zero : maker e ≡ 0 = all 0 e (omega arith) in absurd (omega arith) in
    ap (λ b. cond b (e ∷ entries_of maker n es) (entries_of maker n es)) (ne_eqb (maker e) n other) ∙ none_of_opening n es some (λ k d less. all (suc k) d (omega arith))

few : (most : ℕ) (passes : List Pass) → AllByRecursion (IsNumbered (most + 1)) passes → AllByRecursion (λ n. (1 ≤ n) × (n ≤ most)) (numbers_of_all passes)
few most [] all = tt
few most (k ∷ passes) all = let h = all.0 in ((h.0, omega (arith, h.1)), few most passes all.1)

below : (bound : ℕ) (passes : List Pass) → AllByRecursion (IsNumbered bound) passes → AllByRecursion (λ n. n < bound) (numbers_of_all passes)
below bound [] all = tt
below bound (k ∷ passes) all = (all.0.1, below bound passes all.1)

all_split : {A : Type 0} (P : A → Type 0) (xs ys : List A) → AllByRecursion P (xs ++ ys) → AllByRecursion P xs × AllByRecursion P ys
all_split P [] ys all = (tt, all)
all_split P (x ∷ xs) ys all = let rest = all_split P xs ys all.1 in ((all.0, rest.0), rest.1)

-- a history that continues what another handle has seen has its part
others_in : (history : List Entry) (others : List Pass) → AllByRecursion (ContinuesHistory history) others → AllByRecursion (IsOther history) others
others_in history [] on = tt
others_in history (k ∷ others) on = (
  record { later = on.0.1.more; begins = on.0.1.begins; own = on.0.1.own k.number (contains_head k.number k.taken_in) },
  others_in history others on.1,
)

module _ {settings : Settings} {opening : List Entry} where
  -- a history that continues what a worker's handle has seen has its part
  part : (history : List Entry) (worker_run : WorkerRun settings opening) → 1 ≤ worker_run.pass.number → All (λ e. maker e ≡ 0) opening
      → Continues maker (numbers_of worker_run.pass) worker_run.pass.seen history → IsPart history worker_run
  part history worker_run some opened on =
      let served = all_served worker_run.reports in
      let serves = worker_run.served.works.serves in
      let more = stays settings worker_run.pass.number 0 worker_run.pass.seen on.more 0 worker_run.served.works.asks served serves.are_served in record {
        later = on.more;
        begins = on.begins;
        none = λ i d less has. on.later i d less (Contains-append_left (worker_run.pass.number ∷ []) worker_run.pass.taken_in _ has);
        own = on.own worker_run.pass.number (contains_head worker_run.pass.number worker_run.pass.taken_in)
            ∙ serves.own
            ∙ ap (λ l. l ++ (added_entries worker_run.pass.seen served ++ worker_run.served.works.lost)) (none_of_opening worker_run.pass.number opening some opened)
            ∙ ap (λ l. l ++ worker_run.served.works.lost) (sym more.entries ∙ ap (λ h. added_entries h served) (sym on.begins));
      }

  parts : (history : List Entry) (bound : ℕ) (worker_runs : List (WorkerRun settings opening)) → AllByRecursion (IsNumbered bound) (passes_in worker_runs) → All (λ e. maker e ≡ 0) opening
      → AllByRecursion (ContinuesHistory history) (passes_in worker_runs) → AllByRecursion (IsPart history) worker_runs
  parts history bound [] numbered opened on = tt
  parts history bound (worker_run ∷ worker_runs) numbered opened on = (part history worker_run numbered.0.0 opened on.0.1, parts history bound worker_runs numbered.1 opened on.1)

  pub one_history : (k' : Pass) (history : List Entry) (worker_runs : List (WorkerRun settings opening)) (others : List Pass) → All (λ e. maker e ≡ 0) opening
      → HasJoined (fresh 0 settings opening) k' (passes_in worker_runs ++ others) → AllByRecursion (IsNumbered (length (passes_in worker_runs ++ others) + 1)) (passes_in worker_runs ++ others)
      → Continues maker (numbers_of k') k'.seen history → All (λ e. maker e < length (passes_in worker_runs ++ others) + 1) history
      → IsHistoryOf (length (passes_in worker_runs ++ others)) history worker_runs others
  one_history k' history worker_runs others opened joined numbered on small =
      let all = passes_in worker_runs ++ others in
      let ns = numbers_of_all all in
      let bound = length all + 1 in
      let differ = joined.differ refl in
      let begins : history ≡ opening ++ (joined.front.more ++ on.more) = on.begins ∙ (ap (λ l. l ++ on.more) joined.front.begins ∙ append_assoc opening joined.front.more on.more) in
      let has_zero : Contains (numbers_of k') 0 = subst (λ n. Contains (n ∷ k'.taken_in) 0) (sym joined.number) (contains_head 0 k'.taken_in) in
      let not_first : All (λ e. maker e ≢ 0) (joined.front.more ++ on.more) = All-append (λ e. maker e ≢ 0) joined.front.more on.more
      (λ i d less is. joined.front.later i d less (subst (λ n. Contains (0 ∷ []) n) (sym is) (contains_head 0 [])))
      (λ i d less is. on.later i d less (subst (λ n. Contains (numbers_of k') n) (sym is) has_zero)) in
      let lower : All (λ e. maker e < bound) (joined.front.more ++ on.more) = all_rest (λ e. maker e < bound) opening (joined.front.more ++ on.more) (subst (All (λ e. maker e < bound)) begins small) in
      let among : (n : ℕ) → Contains ns n → Contains (numbers_of k') n =
      λ n has. Contains-append_right (k'.number ∷ []) k'.taken_in n (subst (λ l. Contains l n) (sym joined.taken) has) in
      let fronts = all_split (ContinuesHistory history) (passes_in worker_runs) others (further (numbers_of k') k'.seen history all on among joined.fronts) in
      let numbers = all_split (IsNumbered bound) (passes_in worker_runs) others numbered in record {
        parts = parts history bound worker_runs numbers.0 opened fronts.0;
        other_parts = others_in history others fronts.1;
        differ = differ.1;
        numbered = few (length all) all numbered;
        later = joined.front.more ++ on.more;
        begins = begins;
        made = λ i d less.
            let n = maker (get_or (joined.front.more ++ on.more) i d) in
            one_of ns n (not_first i d less) (Contains-append_cases (0 ∷ []) ns n
            (each_stands bound (0 ∷ ns) differ (omega arith, below bound all numbered) (length_of all) n (lower i d less)));
      }
    where
      length_of : (passes : List Pass) → length (0 ∷ numbers_of_all passes) ≡ length passes + 1
      length_of passes = let h = length-map passes (λ (k : Pass). k.number) in omega (arith, h)

      one_of : (ns : List ℕ) (n : ℕ) → n ≢ 0 → Contains (0 ∷ []) n ⊎ Contains ns n → Contains ns n
      one_of ns n other (inl (zero, less, is)) = absurd (other (sym is))
      one_of ns n other (inl (suc i, less, is)) = absurd (omega arith)
      one_of ns n other (inr has) = has
