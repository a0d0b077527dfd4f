-- The connection of a worker, found by what is told of the network.
use Rattle.std.proofs.Common.{◌≡◌, ◌<◌, ℕ, zero, suc, ◌+◌, ◌-◌, List, [], ◌∷◌, ◌++◌, map, take, length, Option, Some, None, refl, sym, ap, ◌∙◌, subst, append_assoc, arith}
use Rattle.std.proofs.lemmas.List.{append_cancel_left}
use Rattle.std.proofs.lemmas.Option.{slice_get_within}
use Rattle.std.specs.List.{flat_map, slice_get}
use Rattle.item_model.specs.declared.changes.Entry.{Entry}
use Rattle.outside_net.specs.Places.{Returned}
use Rattle.outside_net.specs.Told.{Grows}
use Rattle.share_asks.specs.declared.ask.Role.{Role}
use Rattle.share_replies.specs.Settings.{Settings}
use Rattle.share_server.specs.declared.report.LinkReport.{LinkReport}
use Rattle.share_server.specs.Serving.{limit_of}
use Rattle.share_workers.specs.Works.{Came, LinkAt, LinksAt}
use Rattle.command_core.specs.Seen.{NetSeen}
use Rattle.share_crew.specs.Listeners.{HaveLinks}
use Rattle.share_crew.specs.WorkerRuns.{WorkerRun, returns_of}
use Rattle.share_meetings.specs.Meetings.{IsServedOn, place_of}

-- ---- elements of lists

module _ {A : Type 0} where
  get_first : (xs ys : List A) (n : ℕ) → n < length xs → slice_get (xs ++ ys) n ≡ slice_get xs n
  get_first [] ys n less = absurd (omega (arith, less))
  get_first (x ∷ xs) ys zero less = refl
  get_first (x ∷ xs) ys (suc n) less = get_first xs ys n (omega (arith, less))

  get_further : (xs ys : List A) (n : ℕ) → slice_get (xs ++ ys) (length xs + n) ≡ slice_get ys n
  get_further [] ys n = ap (slice_get ys) (omega arith)
  get_further (x ∷ xs) ys n =
      let next : length (x ∷ xs) + n ≡ suc (length xs + n) = omega arith in
      ap (slice_get (x ∷ (xs ++ ys))) next ∙ get_further xs ys n

  -- each is known, and is the one at the same place
  known_at : (xs : List (Option A)) (ys : List A) (n : ℕ) (x : Option A) (y : A) → xs ≡ map (λ y. Some y) (take (length xs) ys) → slice_get xs n ≡ Some x
      → slice_get ys n ≡ Some y → x ≡ Some y
  known_at [] ys n x y are at there = absurd (cc at)
  known_at (o ∷ xs) [] n x y are at there = absurd (cc there)
  known_at (o ∷ xs) (z ∷ ys) zero x y are at there =
      let here : o ≡ x = cc at in
      let same : z ≡ y = cc there in
      let first : o ≡ Some z = cc are in
      sym here ∙ first ∙ ap (λ (a : A). Some a) same
  known_at (o ∷ xs) (z ∷ ys) (suc n) x y are at there =
      let rest : xs ≡ map (λ y. Some y) (take (length xs) ys) = cc are in
      known_at xs ys n x y rest at there

-- what a known list gained
grown : (before now : Option (List Returned)) (closed more made : List Returned) → before ≡ Some closed → now ≡ Some (closed ++ more) → Grows before now made → more ≡ made
grown before now closed more made is now_is grows =
    append_cancel_left closed more made
    (subst (λ (w : Option (List Returned)). Grows (Some closed) w made) now_is (subst (λ (w : Option (List Returned)). Grows w now made) is grows))

-- ---- the connections of one worker

module _ (s : Settings) (by : ℕ) (role : Role) where
  as_many : (budget : ℕ) (h : List Entry) (inputs : List (List ℕ)) (reports : List LinkReport) (returns : List Returned) → LinksAt s by role budget h inputs reports returns
      → (length inputs ≡ length reports) × (length returns ≡ length reports)
  as_many budget h [] [] [] links = (refl, refl)
  as_many budget h [] [] (returned ∷ returns) links = absurd links
  as_many budget h [] (report ∷ reports) returns links = absurd links
  as_many budget h (input ∷ inputs) [] returns links = absurd links
  as_many budget h (input ∷ inputs) (report ∷ reports) [] links = absurd links
  as_many budget h (input ∷ inputs) (report ∷ reports) (returned ∷ returns) links =
      let rest = as_many (budget - length report.served) h inputs reports returns links.1 in
      (ap suc rest.0, ap suc rest.1)

  link_at : (budget : ℕ) (h : List Entry) (inputs : List (List ℕ)) (reports : List LinkReport) (returns : List Returned) (n : ℕ) (input : List ℕ) (report : LinkReport) (returned : Returned)
      → LinksAt s by role budget h inputs reports returns → slice_get inputs n ≡ Some input → slice_get reports n ≡ Some report → slice_get returns n ≡ Some returned
      → (limit : ℕ) × LinkAt s by limit role h input report returned
  link_at budget h [] reports returns n input report returned links came told given = absurd (cc came)
  link_at budget h (i ∷ inputs) [] returns n input report returned links came told given = absurd links
  link_at budget h (i ∷ inputs) (r ∷ reports) [] n input report returned links came told given = absurd links
  link_at budget h (i ∷ inputs) (r ∷ reports) (w ∷ returns) zero input report returned links came told given =
      let inputs_same : i ≡ input = cc came in
      let reports_same : r ≡ report = cc told in
      let returns_same : w ≡ returned = cc given in (
        limit_of budget,
        subst (λ (x : List ℕ). LinkAt s by (limit_of budget) role h x report returned) inputs_same
            (subst (λ (x : LinkReport). LinkAt s by (limit_of budget) role h i x returned) reports_same
            (subst (λ (x : Returned). LinkAt s by (limit_of budget) role h i r x) returns_same links.0)),
      )
  link_at budget h (i ∷ inputs) (r ∷ reports) (w ∷ returns) (suc n) input report returned links came told given =
      link_at (budget - length r.served) h inputs reports returns n input report returned links.1 came told given

came_first : (to_come left : Option (List (List ℕ))) (coming inputs : List (List ℕ)) (n : ℕ) (input : List ℕ) → to_come ≡ Some coming → Came to_come left inputs → n < length inputs
    → slice_get coming n ≡ Some input → slice_get inputs n ≡ Some input
came_first to_come None coming inputs n input is came less there = absurd (subst (λ (o : Option (List (List ℕ))). Came o None inputs) is came)
came_first to_come (Some now) coming inputs n input is came less there =
    let split : coming ≡ inputs ++ now = subst (λ (o : Option (List (List ℕ))). Came o (Some now) inputs) is came in
    sym (get_first inputs now n less) ∙ ap (λ (xs : List (List ℕ)). slice_get xs n) (sym split) ∙ there

-- ---- the worker

module _ {settings : Settings} {opening : List Entry} where
  abbrev pub reports_of : WorkerRun settings opening → List LinkReport
  reports_of worker_run = worker_run.reports

  -- a worker of the crew, with what was written on its connection
  record IsWorker (crew : List (WorkerRun settings opening)) (worker number : ℕ) (reports : List LinkReport) (returned : Returned) : Type 0 where
    worker_run : WorkerRun settings opening
    is_worker_run : slice_get crew worker ≡ Some worker_run
    reports_are : worker_run.reports ≡ reports
    given : slice_get (returns_of worker_run) number ≡ Some returned

  every_return : (worker_run : WorkerRun settings opening) → length (returns_of worker_run) ≡ length worker_run.reports
  every_return worker_run =
      (as_many settings worker_run.pass.number worker_run.role 262144 worker_run.pass.seen worker_run.served.works.inputs worker_run.reports worker_run.served.works.returns worker_run.served.works.links).1

  at_worker : (crew : List (WorkerRun settings opening)) (others : List Returned) (worker number : ℕ) (reports : List LinkReport) (report : LinkReport) (returned : Returned)
      → slice_get (map (λ (worker_run : WorkerRun settings opening). worker_run.reports) crew) worker ≡ Some reports → slice_get reports number ≡ Some report
      → slice_get (flat_map returns_of crew ++ others) (place_of (map (λ (worker_run : WorkerRun settings opening). worker_run.reports) crew) worker number) ≡ Some returned
      → IsWorker crew worker number reports returned
  at_worker [] others worker number reports report returned worked told given = absurd (cc worked)
  at_worker (worker_run ∷ crew) others zero number reports report returned worked told given =
      let same : worker_run.reports ≡ reports = cc worked in
      let within = slice_get_within reports number report told in
      let less : number < length (returns_of worker_run) = omega (arith, within, every_return worker_run, ap (λ (xs : List LinkReport). length xs) same) in
      record {
        worker_run = worker_run;
        is_worker_run = refl;
        reports_are = same;
        given =
            sym (get_first (returns_of worker_run) (flat_map returns_of crew ++ others) number less)
            ∙ ap (λ (xs : List Returned). slice_get xs number) (sym (append_assoc (returns_of worker_run) (flat_map returns_of crew) others)) ∙ given;
      }
  at_worker (worker_run ∷ crew) others (suc worker) number reports report returned worked told given =
      let place : ℕ = place_of (map (λ (worker_run : WorkerRun settings opening). worker_run.reports) crew) worker number in
      let rest = at_worker crew others worker number reports report returned worked told
      (sym (get_further (returns_of worker_run) (flat_map returns_of crew ++ others) place)
      ∙ ap (λ (xs : List Returned). slice_get xs (length (returns_of worker_run) + place)) (sym (append_assoc (returns_of worker_run) (flat_map returns_of crew) others))
      ∙ ap (λ (n : ℕ). slice_get ((returns_of worker_run ++ flat_map returns_of crew) ++ others) (n + place)) (every_return worker_run) ∙ given) in
      record { worker_run = rest.worker_run; is_worker_run = rest.is_worker_run; reports_are = rest.reports_are; given = rest.given }

  coming_at : (crew : List (WorkerRun settings opening)) (listeners : List (List (List ℕ))) (worker : ℕ) (worker_run : WorkerRun settings opening) (coming : List (List ℕ))
      → map (λ (worker_run : WorkerRun settings opening). worker_run.to_come) crew ≡ map (λ i. Some i) (take (length (map (λ (worker_run : WorkerRun settings opening). worker_run.to_come) crew)) listeners)
      → slice_get crew worker ≡ Some worker_run → slice_get listeners worker ≡ Some coming → worker_run.to_come ≡ Some coming
  coming_at crew listeners worker worker_run coming are at there =
      known_at (map (λ (worker_run : WorkerRun settings opening). worker_run.to_come) crew) listeners worker worker_run.to_come coming are (mapped crew worker worker_run at) there
    where
      mapped : (crew : List (WorkerRun settings opening)) (worker : ℕ) (worker_run : WorkerRun settings opening) → slice_get crew worker ≡ Some worker_run
          → slice_get (map (λ (worker_run : WorkerRun settings opening). worker_run.to_come) crew) worker ≡ Some worker_run.to_come
      mapped [] worker worker_run at = absurd (cc at)
      mapped (x ∷ crew) zero worker_run at = let same : x ≡ worker_run = cc at in ap (λ (y : WorkerRun settings opening). Some y.to_come) same
      mapped (x ∷ crew) (suc worker) worker_run at = mapped crew worker worker_run at

  -- the worker that served a connection, and its connection
  pub record IsWorkersLink (crew : List (WorkerRun settings opening)) (worker : ℕ) (input : List ℕ) (report : LinkReport) (returned : Returned) : Type 0 where
    pub worker_run : WorkerRun settings opening
    pub is_worker_run : slice_get crew worker ≡ Some worker_run
    pub limit : ℕ
    pub link : LinkAt settings worker_run.pass.number limit worker_run.role worker_run.pass.seen input report returned

  pub worker_in : (crew : List (WorkerRun settings opening)) (net net' : NetSeen) (links : List (List LinkReport)) (others : List Returned) (input output : List ℕ)
      → links ≡ map (λ (worker_run : WorkerRun settings opening). worker_run.reports) crew → HaveLinks net.listener_links (map (λ (worker_run : WorkerRun settings opening). worker_run.to_come) crew)
      → Grows net.written net'.written (flat_map returns_of crew ++ others) → (on : IsServedOn net net' links input output)
      → IsWorkersLink crew on.worker input on.report (output, on.faulted)
  worker_in crew net net' links others input output are have grows on =
      let returns : on.more ≡ flat_map returns_of crew ++ others =
      grown net.written net'.written on.closed on.more (flat_map returns_of crew ++ others) on.closed_are on.more_are grows in
      let worker : IsWorker crew on.worker on.number on.reports (output, on.faulted) =
      at_worker crew others on.worker on.number on.reports on.report (output, on.faulted)
      (subst (λ (ls : List (List LinkReport)). slice_get ls on.worker ≡ Some on.reports) are on.worked) on.reported
      (subst (λ (ls : List (List LinkReport)). slice_get (flat_map returns_of crew ++ others) (place_of ls on.worker on.number) ≡ Some (output, on.faulted)) are
      (subst (λ (more : List Returned). slice_get more (place_of links on.worker on.number) ≡ Some (output, on.faulted)) returns on.given)) in
      let worker_run = worker.worker_run in
      let works = worker_run.served.works in
      let to_come : worker_run.to_come ≡ Some on.coming =
      coming_at crew on.listeners on.worker worker_run on.coming
      (subst (λ (ls : Option (List (List (List ℕ)))). HaveLinks ls (map (λ (worker_run : WorkerRun settings opening). worker_run.to_come) crew)) on.listeners_are have) worker.is_worker_run on.listener in
      let told : slice_get worker_run.reports on.number ≡ Some on.report =
      subst (λ (rs : List LinkReport). slice_get rs on.number ≡ Some on.report) (sym worker.reports_are) on.reported in
      let many = as_many settings worker_run.pass.number worker_run.role 262144 worker_run.pass.seen works.inputs worker_run.reports works.returns works.links in
      let within = slice_get_within worker_run.reports on.number on.report told in
      let less : on.number < length works.inputs = omega (arith, within, many.0) in
      let link = link_at settings worker_run.pass.number worker_run.role 262144 worker_run.pass.seen works.inputs worker_run.reports works.returns on.number input on.report (output, on.faulted) works.links
      (came_first worker_run.to_come worker_run.left on.coming works.inputs on.number input to_come works.came less on.came) told worker.given in
      record { worker_run = worker_run; is_worker_run = worker.is_worker_run; limit = link.0; link = link.1 }
