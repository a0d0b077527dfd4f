-- Workers whose lock handles are joined and whose listeners are closed, one after another.
use Rattle.std.proofs.Common.{◌≡◌, ℕ, suc, Bool, true, false, ◌||◌, List, [], ◌∷◌, ◌++◌, map, Option, MatchBool, refl, sym, subst, ap, ◌∙◌, arith, append_assoc, append-nil}
use Rattle.std.proofs.lemmas.List.{map-append}
use Rattle.std.proofs.lemmas.List.Elements.{Contains-append_left, Contains-append_right}
use Rattle.std.specs.List.{AllByRecursion, AllZip, flat_map}
use Rattle.std.specs.Prelude.{All, Contains, nat_eq}
use Rattle.outside_net.specs.Counts.{Rose, RisesWith}
use Rattle.outside_net.specs.Places.{Returned}
use Rattle.outside_net.specs.Told.{BeginsEmpty, Grows, GrowsByTold}
use Rattle.item_model.specs.declared.changes.Entry.{Entry}
use Rattle.share_lock.specs.Histories.{Continues, AreApart}
use Rattle.share_lock.specs.Known.{numbers_of, after_join}
use Rattle.share_lock.proofs.Fronts.{continues_here, continues_less, continues_more}
use Rattle.share_replies.specs.Settings.{Settings}
use Rattle.share_replies.specs.Laws.{maker}
use Rattle.share_server.specs.Passes.{Pass}
use Rattle.share_workers.specs.declared.worker.WorkerEnd.{WorkerEnd}
use Rattle.share_workers.specs.declared.worker.WorkerEnd.TheVariants.{Running, Stopped, NoMoreLinks, Spent, AcceptFault, FileFault, Memory}
use Rattle.share_workers.specs.Ends.{CountsAccepts}
use Rattle.share_crew.specs.Verdicts.{end_number, has_end}
use Rattle.share_crew.specs.Listeners.{CountsListenerFaults}
use Rattle.share_crew.specs.WorkerRuns.{WorkerRun, AreDistinct, numbers_of_all, passes_in, returns_of}
use Rattle.share_crew.specs.Crews.{ContinuesHistory, HasJoined, HasClosedListeners}
use Rattle.share_crew.proofs.Nets.{grows_told, rose_then, stood_then}
use Rattle.share_crew.proofs.Numbers.{contains_head, differ_push}

-- what goes with the last of a list, and with those before it
pub record Last {A B : Type 0} (R : A → B → Type 0) (xs : List A) (front : List B) (b : B) : Type 0 where
  pub before : List A
  pub last : A
  pub are : xs ≡ before ++ last ∷ []
  pub fits : AllZip R before front
  pub fits_last : R last b

pub last_of : {A B : Type 0} (R : A → B → Type 0) (xs : List A) (front : List B) (b : B) → AllZip R xs (front ++ b ∷ []) → Last R xs front b
last_of R [] [] b zip = absurd zip
last_of R [] (f ∷ front) b zip = absurd zip
last_of R (a ∷ []) [] b zip = record { before = []; last = a; are = refl; fits = tt; fits_last = zip.0 }
last_of R (a ∷ (c ∷ xs)) [] b zip = absurd zip.1
last_of R (a ∷ xs) (f ∷ front) b zip =
    let rest = last_of R xs front b zip.1 in
    record { before = a ∷ rest.before; last = rest.last; are = ap (λ l. a ∷ l) rest.are; fits = (zip.0, rest.fits); fits_last = rest.fits_last }

pub none_zip : {A B : Type 0} (R : A → B → Type 0) (xs : List A) → AllZip R xs [] → xs ≡ []
none_zip R [] zip = refl
none_zip R (a ∷ xs) zip = absurd zip

pub all_head : {A : Type 0} (P : A → Type 0) (x : A) (xs ys : List A) → ys ≡ x ∷ xs → All P ys → P x
all_head P x xs ys is all = subst (All P) is all 0 x (omega arith)

pub all_tail : {A : Type 0} (P : A → Type 0) (x : A) (xs ys : List A) → ys ≡ x ∷ xs → All P ys → All P xs
all_tail P x xs ys is all = λ k d less. subst (All P) is all (suc k) d (omega arith)

pub all_push : {A : Type 0} (P : A → Type 0) (xs : List A) (y : A) → AllByRecursion P xs → P y → AllByRecursion P (xs ++ y ∷ [])
all_push P [] y all one = (one, tt)
all_push P (x ∷ xs) y all one = (all.0, all_push P xs y all.1 one)

pub all_parts : {A : Type 0} (P : A → Type 0) (xs : List A) (y : A) → AllByRecursion P (xs ++ y ∷ []) → AllByRecursion P xs × P y
all_parts P [] y all = (tt, all.0)
all_parts P (x ∷ xs) y all = let rest = all_parts P xs y all.1 in ((all.0, rest.0), rest.1)

any_push : (ends : List WorkerEnd) (end : WorkerEnd) → has_end AcceptFault (ends ++ end ∷ []) ≡ (has_end AcceptFault ends || has_end AcceptFault (end ∷ []))
any_push [] end = refl
any_push (e ∷ ends) end = or_assoc (nat_eq (end_number e) 4) (has_end AcceptFault ends) (has_end AcceptFault (end ∷ [])) (has_end AcceptFault (ends ++ end ∷ [])) (any_push ends end)
  where
    or_assoc : (a b c d : Bool) → d ≡ (b || c) → (a || d) ≡ ((a || b) || c)
    or_assoc true b c d is = refl
    or_assoc false b c d is = is

count_stays : (failed : Bool) (before mid after : ℕ) → MatchBool failed (Rose before mid) (mid ≡ before) → after ≡ mid → MatchBool (failed || false) (Rose before after) (after ≡ before)
count_stays true before mid after was is = subst (Rose before) (sym is) was
count_stays false before mid after was is = is ∙ was

-- the counter after one more listener
count_more : (failed : Bool) (end : WorkerEnd) (before mid after given : ℕ) → MatchBool failed (Rose before mid) (mid ≡ before) → CountsAccepts 0 given end → RisesWith mid after given
    → MatchBool (failed || has_end AcceptFault (end ∷ [])) (Rose before after) (after ≡ before)
count_more failed AcceptFault before mid after given was counts rises =
    let up : Rose mid after = rises.faulty (omega (arith, counts.1)) in all failed was up
  where
    all : (failed : Bool) → MatchBool failed (Rose before mid) (mid ≡ before) → Rose mid after → MatchBool (failed || true) (Rose before after) (after ≡ before)
    all true was up = rose_then before mid after was up.0
    all false was up = stood_then before mid after was up
count_more failed Running before mid after given was counts rises = count_stays failed before mid after was (rises.faultless counts)
count_more failed Stopped before mid after given was counts rises = count_stays failed before mid after was (rises.faultless counts)
count_more failed NoMoreLinks before mid after given was counts rises = count_stays failed before mid after was (rises.faultless counts)
count_more failed Spent before mid after given was counts rises = count_stays failed before mid after was (rises.faultless counts)
count_more failed Memory before mid after given was counts rises = count_stays failed before mid after was (rises.faultless counts)
count_more failed FileFault before mid after given was counts rises = count_stays failed before mid after was (rises.faultless counts)

own_number : (k : Pass) → k.taken_in ≡ [] → numbers_of k ≡ k.number ∷ []
own_number k none = ap (λ l. k.number ∷ l) none

numbers_push : (passes : List Pass) (k : Pass) → numbers_of_all (passes ++ k ∷ []) ≡ numbers_of_all passes ++ k.number ∷ []
numbers_push passes k = map-append (λ (p : Pass). p.number) passes (k ∷ [])

-- a history that continues what each has seen continues further, by no entries of theirs
pub further : (ns : List ℕ) (seen seen' : List Entry) (passes : List Pass) → Continues maker ns seen seen' → ((n : ℕ) → Contains (numbers_of_all passes) n → Contains ns n)
    → AllByRecursion (ContinuesHistory seen) passes → AllByRecursion (ContinuesHistory seen') passes
further ns seen seen' [] on among all = tt
further ns seen seen' (pass ∷ passes) on among all =
    let mine : (n : ℕ) → Contains (numbers_of pass) n → Contains ns n =
    λ n has. among n (Contains-append_left (pass.number ∷ []) (numbers_of_all passes) n (subst (λ l. Contains l n) (own_number pass all.0.0) has)) in (
      (all.0.0, continues_more maker (numbers_of pass) pass.seen seen seen' all.0.1 (continues_less maker ns (numbers_of pass) seen seen' mine on)),
      further ns seen seen' passes on (λ n has. among n (Contains-append_right (pass.number ∷ []) (numbers_of_all passes) n has)) all.1,
    )

pub none_joined : (k : Pass) → HasJoined k k []
none_joined k = record {
  number = refl;
  settings_stay = refl;
  taken = sym (append-nil k.taken_in);
  front = continues_here maker (numbers_of k) k.seen;
  fronts = tt;
  differ = λ none. ((λ has. let h = has.1 in absurd (omega arith)), tt);
}

-- one more handle was joined
pub join_more : (k k' k'' other : Pass) (passes : List Pass) → HasJoined k k' passes → other.taken_in ≡ []
    → k'' ≡ after_join k' other → Continues maker (numbers_of k') k'.seen k''.seen → Continues maker (numbers_of other) other.seen k''.seen → AreApart (numbers_of k') (numbers_of other)
    → HasJoined k k'' (passes ++ other ∷ [])
join_more k k' k'' other passes h alone after first second apart =
    let apart' : AreApart (numbers_of k') (other.number ∷ []) = subst (λ l. AreApart (numbers_of k') l) (own_number other alone) apart in
    let taken : k''.taken_in ≡ k'.taken_in ++ other.number ∷ [] =
    ap (λ (p : Pass). p.taken_in) after ∙ ap (λ l. k'.taken_in ++ l) (own_number other alone) in
    let had : (n : ℕ) → Contains (numbers_of k) n → Contains (numbers_of k') n =
    λ n has. subst (λ (t : ℕ × List ℕ). Contains (t.0 ∷ t.1) n) (λ i. (sym h.number i, sym h.taken i)) (Contains-append_left (numbers_of k) (numbers_of_all passes) n has) in
    let have : (n : ℕ) → Contains (numbers_of_all passes) n → Contains (numbers_of k') n =
    λ n has. subst (λ (t : ℕ × List ℕ). Contains (t.0 ∷ t.1) n) (λ i. (sym h.number i, sym h.taken i)) (Contains-append_right (numbers_of k) (numbers_of_all passes) n has) in
    record {
      number = ap (λ (p : Pass). p.number) after ∙ h.number;
      settings_stay = ap (λ (p : Pass). p.settings) after ∙ h.settings_stay;
      taken = taken ∙ (ap (λ l. l ++ other.number ∷ []) h.taken ∙ (append_assoc k.taken_in (numbers_of_all passes) (other.number ∷ []) ∙ ap (λ l. k.taken_in ++ l) (sym (numbers_push passes other))));
      front = continues_more maker (numbers_of k) k.seen k'.seen k''.seen h.front (continues_less maker (numbers_of k') (numbers_of k) k'.seen k''.seen had first);
      fronts = all_push (ContinuesHistory k''.seen) passes other (further (numbers_of k') k'.seen k''.seen passes first have h.fronts) (alone, second);
      differ = λ none.
          let mine : (n : ℕ) → Contains (k.number ∷ numbers_of_all passes) n → Contains (numbers_of k') n =
          λ n has. subst (λ (t : ℕ × List ℕ). Contains (t.0 ∷ t.1) n) (λ i. (sym h.number i, sym (h.taken ∙ ap (λ l. l ++ numbers_of_all passes) none) i)) has in
          subst (λ l. AreDistinct (k.number ∷ l)) (sym (numbers_push passes other))
          (differ_push (k.number ∷ numbers_of_all passes) other.number (h.differ none) (λ has. apart' other.number (mine other.number has) (contains_head other.number [])));
    }

module _ {settings : Settings} {opening : List Entry} where
  -- no handle was joined to a worker's
  pub took_none : (worker_run : WorkerRun settings opening) → worker_run.pass.taken_in ≡ []
  took_none worker_run = ap (λ (k : Pass). k.taken_in) worker_run.served.works.serves.stays

  -- the handle of one more worker was joined
  pub joined_one : (k k' k'' other : Pass) (worker_runs : List (WorkerRun settings opening)) (worker_run : WorkerRun settings opening) → HasJoined k k' (passes_in worker_runs) → worker_run.pass ≡ other
      → k'' ≡ after_join k' other → Continues maker (numbers_of k') k'.seen k''.seen → Continues maker (numbers_of other) other.seen k''.seen → AreApart (numbers_of k') (numbers_of other)
      → HasJoined k k'' (passes_in (worker_runs ++ worker_run ∷ []))
  joined_one k k' k'' other worker_runs worker_run h is after first second apart =
      subst (HasJoined k k'') (sym (map-append (λ (s : WorkerRun settings opening). s.pass) worker_runs (worker_run ∷ []) ∙ ap (λ (p : Pass). passes_in worker_runs ++ p ∷ []) is))
      (join_more k k' k'' other (passes_in worker_runs) h (ap (λ (p : Pass). p.taken_in) (sym is) ∙ took_none worker_run) after first second apart)

  -- ---- listeners

  pub none_shut : (written : Option (List Returned)) (faults : ℕ) → HasClosedListeners {settings = settings} {opening = opening} written written faults faults []
  none_shut written faults = record {
    written_grows = λ kept more begun grows. subst (Grows kept written) (sym (append-nil more)) grows;
    counts = refl;
  }

  pub shut_more : (w w' w'' told : Option (List Returned)) (n n' n'' given : ℕ) (worker_runs : List (WorkerRun settings opening)) (worker_run : WorkerRun settings opening) → HasClosedListeners w w' n n' worker_runs
      → worker_run.written ≡ told → worker_run.faults ≡ given → GrowsByTold w' w'' told → RisesWith n' n'' given → HasClosedListeners w w'' n n'' (worker_runs ++ worker_run ∷ [])
  shut_more w w' w'' told n n' n'' given worker_runs worker_run h told_is given_is grows rises = record {
    written_grows = λ kept more begun start.
        let parts = all_parts (λ s. BeginsEmpty kept s.begun) worker_runs worker_run begun in
        let given_back : Grows worker_run.begun worker_run.written (returns_of worker_run) = worker_run.served.works.given_back in
        let so_far : Grows kept w' (more ++ flat_map returns_of worker_runs) = h.written_grows kept more parts.0 start in
        subst (Grows kept w'') (joined more worker_runs worker_run)
        (grows_told kept worker_run.begun told w' w'' (more ++ flat_map returns_of worker_runs) (returns_of worker_run) parts.1 (subst (λ t. Grows worker_run.begun t (returns_of worker_run)) told_is given_back) so_far grows);
    counts = subst (λ (l : List WorkerEnd). CountsListenerFaults n n'' l) (sym (map-append (λ (s : WorkerRun settings opening). s.end) worker_runs (worker_run ∷ [])))
        (subst (λ (b : Bool). MatchBool b (Rose n n'') (n'' ≡ n)) (sym (any_push (map (λ (s : WorkerRun settings opening). s.end) worker_runs) worker_run.end))
        (count_more (has_end AcceptFault (map (λ (s : WorkerRun settings opening). s.end) worker_runs)) worker_run.end n n' n'' given h.counts (subst (λ f. CountsAccepts 0 f worker_run.end) given_is worker_run.served.counts) rises));
  }
    where
      flat_push : (worker_runs : List (WorkerRun settings opening)) (worker_run : WorkerRun settings opening) → flat_map returns_of (worker_runs ++ worker_run ∷ []) ≡ flat_map returns_of worker_runs ++ returns_of worker_run
      flat_push [] worker_run = append-nil (returns_of worker_run)
      flat_push (s ∷ worker_runs) worker_run = ap (λ l. returns_of s ++ l) (flat_push worker_runs worker_run) ∙ sym (append_assoc (returns_of s) (flat_map returns_of worker_runs) (returns_of worker_run))

      joined : (more : List Returned) (worker_runs : List (WorkerRun settings opening)) (worker_run : WorkerRun settings opening) → (more ++ flat_map returns_of worker_runs) ++ returns_of worker_run ≡ more ++ flat_map returns_of (worker_runs ++ worker_run ∷ [])
      joined more worker_runs worker_run = append_assoc more (flat_map returns_of worker_runs) (returns_of worker_run) ∙ ap (λ l. more ++ l) (sym (flat_push worker_runs worker_run))
