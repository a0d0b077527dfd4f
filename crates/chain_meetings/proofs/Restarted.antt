-- A run of `serve` that began with the file of an earlier run.
use Rattle.std.proofs.Common.{◌≡◌, ◌≤◌, ◌<◌, ◌-◌, ℕ, zero, suc, Bool, true, false, cond, List, [], ◌∷◌, ◌++◌, length, map, drop, Option, Some, None, unwrap_or, refl, sym, ap, ◌∙◌, subst, inl, inr, append-nil, append_assoc, length-append, arith}
use Rattle.std.proofs.lemmas.Cmp.{nat_list_cmp_total}
use Rattle.std.proofs.lemmas.List.{map-append, take-append-drop, take-append-le}
use Rattle.std.specs.Cmp.{eq_by_cmp_equiv}
use Rattle.std.specs.FinMap as finite
use Rattle.std.specs.List.{AllByRecursion, flat_map, slice_get}
use Rattle.item_model.specs.declared.changes.Edit.{Edit}
use Rattle.item_model.specs.declared.changes.Entry.{Entry}
use Rattle.item_model.specs.declared.changes.Entry.TheVariants.{Edits}
use Rattle.outside_net.specs.Places.{Contents, Returned}
use Rattle.outside_net.specs.Told.{Grows}
use Rattle.share_history.specs.Histories.{batches, revision, up_to}
use Rattle.share_history.specs.Mirror.{mirrored}
use Rattle.share_history.specs.Numbers.{first_revision}
use Rattle.share_history.proofs.EditFacts.{batches-append}
use Rattle.share_replies.specs.Settings.{Settings}
use Rattle.share_server.specs.declared.report.LinkReport.{LinkReport}
use Rattle.share_server.specs.declared.report.Served.{Served}
use Rattle.share_server.specs.Passes.{Rises}
use Rattle.share_server.proofs.InTurn.{rises_wider}
use Rattle.share_workers.specs.declared.worker.WorkerEnd.TheVariants.{FileFault}
use Rattle.share_workers.specs.Works.{all_served}
use Rattle.share_core.specs.Opened.{if_filled, opened_with}
use Rattle.share_core.proofs.Opening.{batches-opened}
use Rattle.edit_file.specs.Standing.{FileStands}
use Rattle.edit_file.proofs.Once.{one_list}
use Rattle.kept_library.specs.Closing.{LeavesAt}
use Rattle.kept_library.specs.Opening.{StandsAt, bytes_at}
use Rattle.mirror_core.specs.Mirrored.{Mirrored}
use Rattle.share_meetings.specs.Mirrors.{HeldBefore}
use Rattle.command_core.specs.ReadRecords.{HasReadAs}
use Rattle.command_core.specs.Seen.{NetSeen, Run}
use Rattle.serve_command.specs.declared.terms.Serving.{Serving}
use Rattle.serve_command.specs.Files.{AreKept, IsKept, IsOpening, LeavesBut}
use Rattle.serve_command.specs.Runs.{HasNoShare, ServeOutcome, ServeEnds, served, unbegun, unopened}
use Rattle.serve_command.specs.Terms.{settings_of}
use Rattle.share_crew.specs.WorkerRuns.{IsPart, WorkerRun, returns_of}
use Rattle.share_crew.specs.Verdicts.{has_end}
use Rattle.share_meetings.specs.Meetings.{IsServedOn}
use Rattle.share_meetings.proofs.Crews.{worker_in}
use Rattle.chain_meetings.specs.Restarts.{GoesOnFrom, IsOfFirst, IsRestart, Keeps, RestartsGoOn, RestartsKeepMirrors, RestartsKeepRevisions}

-- ---- the bytes under a name

put_there : (contents : Contents) (path bytes : List ℕ) → bytes_at (finite.insert contents path bytes) path ≡ bytes
put_there contents path bytes =
    ap (λ (found : Option (List ℕ)). unwrap_or found [])
    (finite.get-insert nat_list_cmp_total contents path bytes path ∙ ap (λ b. cond b (Some bytes) (finite.get contents path)) ((eq_by_cmp_equiv nat_list_cmp_total).refl path))

-- bytes that were put there represent no other batches
left_stands : (path : List ℕ) (bs stood : List (List Edit)) (contents : Contents) (now now' : Option Contents) → LeavesAt path bs (Some contents) now → now' ≡ now → StandsAt now' path stood
    → stood ≡ bs
left_stands path bs stood contents now now' put same stands =
    let put_now : now' ≡ Some (finite.insert contents path put.bytes) = same ∙ put.told in
    let bytes : FileStands (bytes_at (finite.insert contents path put.bytes) path) stood = subst (λ (c : Option Contents). StandsAt c path stood) put_now stands in
    one_list put.bytes stood bs (subst (λ (b : List ℕ). FileStands b stood) (put_there contents path put.bytes) bytes) put.stands

-- so they represent what the file kept
keeps_so : (lost : Bool) (path : List ℕ) (bs stood : List (List Edit)) (contents : Contents) (now now' : Option Contents) → LeavesBut lost path bs (Some contents) now → now' ≡ now
    → StandsAt now' path stood → Keeps lost bs stood
keeps_so false path bs stood contents now now' kept same stands = left_stands path bs stood contents now now' kept same stands
keeps_so true path bs stood contents now now' (earlier, last, is, inl all) same stands = (earlier, last, is, inl (left_stands path earlier stood contents now now' all same stands))
keeps_so true path bs stood contents now now' (earlier, last, is, inr more) same stands =
    (earlier, last, is, inr (more.0, left_stands path (earlier ++ more.0 ∷ []) stood contents now now' more.1 same stands))

-- ---- the requests of a worker

rises_high : (low high : ℕ) (reports : List Served) → Rises low reports high → low ≤ high
rises_high low high [] rises = rises
rises_high low high (s ∷ reports) rises =
    let first = rises.0 in
    let more = rises_high s.point high reports rises.1 in
    omega (arith, first, more)

-- the first of some requests
rises_first : (low high : ℕ) (reports others : List Served) → Rises low (reports ++ others) high → Rises low reports high
rises_first low high [] others rises = rises_high low high others rises
rises_first low high (s ∷ reports) others rises = (rises.0, rises_first s.point high reports others rises.1)

-- and the others
rises_rest : (low high : ℕ) (reports others : List Served) → Rises low (reports ++ others) high → Rises low others high
rises_rest low high [] others rises = rises
rises_rest low high (s ∷ reports) others rises =
    let first = rises.0 in rises_wider s.point low high high others (omega (arith, first)) (omega arith) (rises_rest s.point high reports others rises.1)

-- those of one connection
rises_at : (low high : ℕ) (links : List LinkReport) (n : ℕ) (report : LinkReport) → Rises low (all_served links) high → slice_get links n ≡ Some report → Rises low report.served high
rises_at low high [] n report rises at = absurd (cc)
rises_at low high (r ∷ links) zero report rises at =
    let same : r ≡ report = cc in subst (λ (x : LinkReport). Rises low x.served high) same (rises_first low high r.served (all_served links) rises)
rises_at low high (r ∷ links) (suc n) report rises at = rises_at low high links n report (rises_rest low high r.served (all_served links) rises) at

each_at : {A : Type 0} (P : A → Type 0) (xs : List A) (n : ℕ) (x : A) → AllByRecursion P xs → slice_get xs n ≡ Some x → P x
each_at P [] n x each at = absurd (cc)
each_at P (y ∷ ys) zero x each at = let same : y ≡ x = cc in subst P same each.0
each_at P (y ∷ ys) (suc n) x each at = each_at P ys n x each.1 at

mapped_at : {A B : Type 0} (f : A → B) (xs : List A) (n : ℕ) (x : A) → slice_get xs n ≡ Some x → slice_get (map f xs) n ≡ Some (f x)
mapped_at f [] n x at = absurd (cc)
mapped_at f (y ∷ ys) zero x at = let same : y ≡ x = cc in ap (λ z. Some (f z)) same
mapped_at f (y ∷ ys) (suc n) x at = mapped_at f ys n x at

-- no request of a share's connections was answered before its opening
abbrev ServesSince : (opened h : List Entry) (net net' : NetSeen) (links : List (List LinkReport)) → Type 0
ServesSince opened h net net' links = (input output : List ℕ) → (on : IsServedOn net net' links input output) → Rises (length opened) on.report.served (length h)

serves_since : {settings : Settings} {opened : List Entry} (crew : List (WorkerRun settings opened)) (h : List Entry) (net net' : NetSeen) (links : List (List LinkReport))
    → AllByRecursion (IsPart h) crew → links ≡ map (λ (s : WorkerRun settings opened). s.reports) crew
    → ((input output : List ℕ) → (on : IsServedOn net net' links input output) → (s : WorkerRun settings opened) × (slice_get crew on.worker ≡ Some s)) → ServesSince opened h net net' links
serves_since {settings = settings} {opened = opened} crew h net net' links parts are found input output on =
    let at = found input output on in
    let worker_run : WorkerRun settings opened = at.0 in
    let part : IsPart h worker_run = each_at (λ s. IsPart h s) crew on.worker worker_run parts at.1 in
    let worked : Some worker_run.reports ≡ Some on.reports =
    sym (mapped_at (λ (s : WorkerRun settings opened). s.reports) crew on.worker worker_run at.1) ∙ ap (λ (ls : List (List LinkReport)). slice_get ls on.worker) (sym are) ∙ on.worked in
    let same : worker_run.reports ≡ on.reports = cc in
    let reported : slice_get worker_run.reports on.number ≡ Some on.report = ap (λ (rs : List LinkReport). slice_get rs on.number) same ∙ on.reported in
    let longer : length worker_run.pass.seen ≤ length h =
    (let parts = ap (λ (k : List Entry). length k) part.begins in let both = length-append worker_run.pass.seen part.later in omega (arith, parts, both)) in
    rises_at (length opened) (length h) worker_run.reports on.number on.report
    (rises_wider (length opened) (length opened) (length worker_run.pass.seen) (length h) (all_served worker_run.reports) (omega arith) longer worker_run.served.works.serves.fresh.rises) reported

-- ---- two runs

-- the share of a run with a file
record Ran (path : List ℕ) (told : Run) (left : ServeOutcome) (h : List Entry) : Type 0 where
  lost : Bool
  kept : IsKept path told.before.around.files told.after.around.files h lost
  stood : List (List Edit)
  stands : StandsAt told.before.around.files.contents path stood
  edits : List Edit
  read : HasReadAs edits told.before.input told.after.input
  later : List Entry
  begins : h ≡ opened_with (stood ++ if_filled edits) ++ later
  since : ServesSince (opened_with (stood ++ if_filled edits)) h told.before.around.net told.after.around.net left.links

none_left : {T : Type 0} (left : ServeOutcome) (h : List Entry) → HasNoShare left → left.history ≡ Some h → T
none_left left h none is = let bad : None ≡ Some h = sym none.history ∙ is in absurd (cc)

known_history : (left : ServeOutcome) (g h : List Entry) → left.history ≡ Some g → left.history ≡ Some h → g ≡ h
known_history left g h one other = let same : Some g ≡ Some h = sym one ∙ other in cc

ran : (serving : Serving) (path : List ℕ) (told : Run) (left : ServeOutcome) (h : List Entry) → ServeEnds serving told left → serving.file ≡ Some path → left.history ≡ Some h → Ran path told left h
ran serving path told left h (unopened stop fails unread files tells none) file is = none_left left h none is
ran serving path told left h (unbegun asked faults begun none) file is = none_left left h none is
ran serving path told left h (served edits opened read opens run) file is =
    let lost : Bool = has_end FileFault (map (λ (s : WorkerRun (settings_of serving) opened). s.end) run.crew) in
    let history : run.history ≡ h = known_history left run.history h run.history_is is in
    let kept : IsKept path told.before.around.files told.after.around.files run.history lost =
    subst (λ (f : Option (List ℕ)). AreKept f told.before.around.files told.after.around.files run.history lost) file run.kept_so in
    let began : IsOpening (Some path) told.before.around.files.contents edits opened =
    subst (λ (f : Option (List ℕ)). IsOpening f told.before.around.files.contents edits opened) file opens in
    let since : ServesSince opened run.history told.before.around.net told.after.around.net left.links =
    serves_since run.crew run.history told.before.around.net told.after.around.net left.links run.one.parts run.links
    (λ input output on.
    let at =
    worker_in run.crew told.before.around.net told.after.around.net left.links [] input output run.links run.to_come
    (subst (λ (more : List Returned). Grows told.before.around.net.written told.after.around.net.written more) (sym (append-nil (flat_map returns_of run.crew))) run.written) on in
    (at.worker_run, at.is_worker_run)) in
    record {
      lost = lost;
      kept = subst (λ (k : List Entry). IsKept path told.before.around.files told.after.around.files k lost) history kept;
      stood = began.0;
      stands = began.1;
      edits = edits;
      read = read;
      later = run.one.later;
      begins = sym history ∙ run.one.begins ∙ ap (λ (o : List Entry). o ++ run.one.later) began.2;
      since =
          subst (λ (k : List Entry). ServesSince (opened_with (began.0 ++ if_filled edits)) k told.before.around.net told.after.around.net left.links) history
          (subst (λ (o : List Entry). ServesSince o run.history told.before.around.net told.after.around.net left.links) began.2 since);
    }

module _ (told told' : Run) (h h' : List Entry) (r : IsRestart told told' h h') where
  one_run : Ran r.path told r.left h
  one_run = ran r.first r.path told r.left h r.ends r.with_file r.history_is

  next_run : Ran r.path told' r.left' h'
  next_run = ran r.second r.path told' r.left' h' r.ends' r.same_file r.history_is'

  abbrev goes_on : (a : Ran r.path told r.left h) (b : Ran r.path told' r.left' h') → Keeps a.lost (batches h) b.stood → GoesOnFrom told told' h h'
  goes_on a b keeps =
      record { lost = a.lost; counts = a.kept.counts; kept = b.stood; keeps = keeps; edits = b.edits; read = b.read; later = b.later; begins = b.begins }

  keeps_both : (a : Ran r.path told r.left h) (b : Ran r.path told' r.left' h') → Keeps a.lost (batches h) b.stood
  keeps_both a b =
      keeps_so a.lost r.path (batches h) b.stood r.contents told.after.around.files.contents told'.before.around.files.contents
      (subst (λ (c : Option Contents). LeavesBut a.lost r.path (batches h) c told.after.around.files.contents) r.known a.kept.left) r.found b.stands

pub restarts_go_on : RestartsGoOn
restarts_go_on told told' h h' r =
    let one = one_run told told' h h' r in
    let next = next_run told told' h h' r in
    goes_on told told' h h' r one next (keeps_both told told' h h' r one next)

-- ---- revisions

-- batches that stay have the same revisions
same_front : (bs cs front more others : List (List Edit)) (v : ℕ) → bs ≡ front ++ more → cs ≡ front ++ others → v ≤ revision front → up_to cs v ≡ up_to bs v
same_front bs cs front more others v is are within =
    let few : v - first_revision ≤ length front = omega (arith, within) in
    ap (λ (l : List (List Edit)). up_to l v) are ∙ take-append-le (v - first_revision) front others few
    ∙ sym (ap (λ (l : List (List Edit)). up_to l v) is ∙ take-append-le (v - first_revision) front more few)

-- so do those that a file kept
kept_revisions : (lost : Bool) (bs kept : List (List Edit)) (v : ℕ) → Keeps lost bs kept → v ≤ revision bs → (lost ≡ true → v < revision bs)
    → (up_to kept v ≡ up_to bs v) × (v ≤ revision kept)
kept_revisions false bs kept v keeps within sound = (ap (λ (l : List (List Edit)). up_to l v) keeps, subst (λ (l : List (List Edit)). v ≤ revision l) (sym keeps) within)
kept_revisions true bs kept v (earlier, last, all, inl same) within sound =
    let less : v < revision bs = sound refl in
    let count = ap (λ (l : List (List Edit)). length l) all in
    let parts = length-append earlier (last ∷ []) in
    let below : v ≤ revision earlier = omega (arith, count, parts, less) in
    (same_front bs kept earlier (last ∷ []) [] v all (same ∙ sym (append-nil earlier)) below, subst (λ (l : List (List Edit)). v ≤ revision l) (sym same) below)
kept_revisions true bs kept v (earlier, last, all, inr more) within sound =
    let less : v < revision bs = sound refl in
    let count = ap (λ (l : List (List Edit)). length l) all in
    let parts = length-append earlier (last ∷ []) in
    let below : v ≤ revision earlier = omega (arith, count, parts, less) in
    let longer = ap (λ (l : List (List Edit)). length l) more.1 in
    let others = length-append earlier (more.0 ∷ []) in
    (same_front bs kept earlier (last ∷ []) (more.0 ∷ []) v all more.1 below, omega (arith, longer, others, below))

batches_begin : (kept : List (List Edit)) (edits : List Edit) (later h : List Entry) → h ≡ opened_with (kept ++ if_filled edits) ++ later → batches h ≡ kept ++ (if_filled edits ++ batches later)
batches_begin kept edits later h begins =
    ap batches begins ∙ batches-append (opened_with (kept ++ if_filled edits)) later
    ∙ ap (λ (bs : List (List Edit)). bs ++ batches later) (batches-opened (kept ++ if_filled edits)) ∙ append_assoc kept (if_filled edits) (batches later)

pub restarts_keep_revisions : RestartsKeepRevisions
restarts_keep_revisions told told' h h' v g of =
    let kept = kept_revisions g.lost (batches h) g.kept v g.keeps of.0 of.1 in
    same_front g.kept (batches h') g.kept [] (if_filled g.edits ++ batches g.later) v (sym (append-nil g.kept)) (batches_begin g.kept g.edits g.later h' g.begins) kept.1 ∙ kept.0

-- ---- mirrors

opened-append : (bs cs : List (List Edit)) → opened_with (bs ++ cs) ≡ opened_with bs ++ opened_with cs
opened-append bs cs = map-append (λ batch. Edits 0 batch) bs cs

module _ (told told' : Run) (h h' : List Entry) (r : IsRestart told told' h h') (one : Ran r.path told r.left h) (next : Ran r.path told' r.left' h') where
  holds_on : (m : Mirrored) (v : ℕ) (input output : List ℕ) → v ≤ revision (batches h) → (one.lost ≡ true → v < revision (batches h))
      → m.held ≡ mirrored (up_to (batches h) v) m.target m.query m.meta → (on : IsServedOn told'.before.around.net told'.after.around.net r.left'.links input output) → HeldBefore m h' on.report.served
  holds_on m v input output within sound holds on =
      let kept = kept_revisions one.lost (batches h) next.stood v (keeps_both told told' h h' r one next) within sound in
      let front : List Entry = opened_with (up_to next.stood v) in
      let rest : List (List Edit) = drop (v - first_revision) next.stood ++ if_filled next.edits in
      let splits : next.stood ++ if_filled next.edits ≡ up_to next.stood v ++ rest =
      ap (λ (l : List (List Edit)). l ++ if_filled next.edits) (sym (take-append-drop (v - first_revision) next.stood)) ∙ append_assoc (up_to next.stood v) (drop (v - first_revision) next.stood) (if_filled next.edits) in
      let opened : opened_with (next.stood ++ if_filled next.edits) ≡ front ++ opened_with rest = ap opened_with splits ∙ opened-append (up_to next.stood v) rest in
      let short : length front ≤ length (opened_with (next.stood ++ if_filled next.edits)) =
      (let sizes = ap (λ (k : List Entry). length k) opened in let both = length-append front (opened_with rest) in omega (arith, sizes, both)) in
      record {
        front = front;
        later = opened_with rest ++ next.later;
        begins = next.begins ∙ ap (λ (o : List Entry). o ++ next.later) opened ∙ append_assoc front (opened_with rest) next.later;
        holds = holds ∙ ap (λ (bs : List (List Edit)). mirrored bs m.target m.query m.meta) (sym kept.0 ∙ sym (batches-opened (up_to next.stood v)));
        since =
            rises_wider (length (opened_with (next.stood ++ if_filled next.edits))) (length front) (length h') (length h') on.report.served short (omega arith) (next.since input output on);
      }

  kept_mirrors : (g : GoesOnFrom told told' h h')
      × ((m : Mirrored) (v : ℕ) (input output : List ℕ) → IsOfFirst g v → m.held ≡ mirrored (up_to (batches h) v) m.target m.query m.meta
      → (on : IsServedOn told'.before.around.net told'.after.around.net r.left'.links input output) → HeldBefore m h' on.report.served)
  kept_mirrors =
      (goes_on told told' h h' r one next (keeps_both told told' h h' r one next), λ m v input output of holds on. holds_on m v input output of.0 of.1 holds on)

pub restarts_keep_mirrors : RestartsKeepMirrors
restarts_keep_mirrors told told' h h' r = kept_mirrors told told' h h' r (one_run told told' h h' r) (next_run told told' h h' r)
