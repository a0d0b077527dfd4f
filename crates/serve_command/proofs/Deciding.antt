-- If nothing outside fails, arguments and input decide how a run ends.
use Rattle.std.proofs.Common.{◌≡◌, ◌⊎◌, ◌<◌, ◌≤◌, ◌||◌, ℕ, Bool, true, false, cond, List, [], ◌∷◌, ◌++◌, length, map, Option, Ok, Some, None, IfSome, MatchBool, refl, sym, subst, ap, ◌∙◌, inl, inr, arith}
use Rattle.std.proofs.lemmas.Bool.{false≢true}
use Rattle.std.specs.Prelude.{nat_eq}
use Rattle.item_model.specs.declared.changes.Edit.{Edit}
use Rattle.item_model.specs.declared.changes.Entry.{Entry}
use Rattle.outside_net.specs.Counts.{Rose}
use Rattle.outside_net.specs.Places.{Contents}
use Rattle.share_history.specs.Histories.{batches, edits, revision}
use Rattle.share_history.specs.Limits.{has_few_lists}
use Rattle.share_history.specs.Numbers.{most_edits}
use Rattle.share_replies.specs.Settings.{Settings}
use Rattle.share_core.specs.Opened.{if_filled, LeaveFewLists}
use Rattle.records_import.specs.Records.{BatchReads}
use Rattle.records_import.specs.Table.{table_of}
use Rattle.records_import.proofs.Once.{batch_same, batch_once}
use Rattle.share_server.specs.declared.report.LinkReport.{LinkReport}
use Rattle.share_workers.specs.Works.{all_served}
use Rattle.share_workers.specs.declared.worker.WorkerEnd.{WorkerEnd}
use Rattle.share_workers.specs.declared.worker.WorkerEnd.TheVariants as worker
use Rattle.share_workers.specs.Ends.{EndsWorker}
use Rattle.edit_file.specs.Standing.{BreaksAt, FileStands}
use Rattle.edit_file.proofs.Once.{broken_is_none, one_list}
use Rattle.kept_library.specs.declared.fault.FileFault.{FileFault}
use Rattle.kept_library.specs.declared.fault.FileFault.TheVariants as file
use Rattle.kept_library.specs.Faults.{file_line, file_status}
use Rattle.kept_library.specs.Opening.{CountsFault, StandsAt, StopsOpening, bytes_at}
use Rattle.command_core.proofs.Reading.{read_whole}
use Rattle.command_core.specs.declared.fault.Fault.{Fault}
use Rattle.command_core.specs.declared.fault.Fault.TheVariants as fault
use Rattle.command_core.specs.Answers.{Writes}
use Rattle.command_core.specs.Faults.{memory_line}
use Rattle.command_core.specs.Seen.{FilesSeen, InputSeen, OutputSeen}
use Rattle.command_core.specs.ReadRecords.{records_limit, HasReadAs, IsRefused, LeavesMany, ReadsAs}
use Rattle.serve_command.specs.declared.fault.ServeFault.{ServeFault}
use Rattle.serve_command.specs.declared.fault.ServeFault.TheVariants.{Network, TooLong, Records, TooManyLists}
use Rattle.serve_command.specs.declared.terms.Serving.{Serving}
use Rattle.share_crew.specs.declared.verdict.Verdict.{Verdict}
use Rattle.share_crew.specs.declared.verdict.Verdict.TheVariants.{Done, NetworkFailed, FileFailed, OutOfMemory, Exhausted}
use Rattle.share_crew.specs.Lines.{ended_line}
use Rattle.share_crew.specs.Listeners.{CountsListenerFaults}
use Rattle.share_crew.specs.WorkerRuns.{WorkerRun}
use Rattle.share_crew.specs.Verdicts.{end_number, has_end, verdict_of, verdict_status, with_memory}
use Rattle.share_crew.proofs.Numbers.{contains_head, contains_tail}
use Rattle.serve_command.specs.Faults.{StopsServing}
use Rattle.serve_command.specs.Files.{AreKept}
use Rattle.serve_command.specs.Laws.{IsOpened, IsSpent, RunsAreDecided, StandsForShare}
use Rattle.serve_command.specs.Runs.{first_line, NotAnnounced, WritesErrorLine, WritesStop, WritesEnd, NotBegun, stopped, unkept, unannounced, unopened, unbegun, served}
use Rattle.serve_command.specs.Terms.{settings_of}

-- what was written whole has its status
told_as : (wanted : ℕ) (bytes : List ℕ) (before after : OutputSeen) (status : ℕ) → ¬ (Rose before.faults after.faults) → Writes wanted bytes before after status → status ≡ wanted
told_as wanted bytes before after status steady (inl h) = h.0
told_as wanted bytes before after status steady (inr h) = absurd (steady h.1.rose)

wants : (stop : Fault ServeFault) (before after : OutputSeen) (status : ℕ) → ¬ (Rose before.faults after.faults) → stop ≡ fault.Memory → WritesStop stop before after status → status ≡ 9
wants stop before after status steady is (inr h) = told_as 9 memory_line before after status steady h
wants stop before after status steady is (inl h) = memory_told (subst (λ (s : Fault ServeFault). WritesStop s before after status) is (inl h))
  where
    memory_told : WritesStop fault.Memory before after status → status ≡ 9
    memory_told (inl t) = told_as 9 memory_line before after status steady t
    memory_told (inr t) = told_as 9 memory_line before after status steady t

-- records that are read are not refused; nor are they for their lists, if they leave few
not_refused : (before after : InputSeen) (input : List ℕ) (first : List Edit) (stop : Fault ServeFault) → before.left ≡ Some input → ReadsAs first input → (stop ≡ fault.Own TooManyLists → has_few_lists [] first ≡ true)
    → ¬ (Rose before.faults after.faults) → StopsServing ⊥ before after stop → stop ≡ fault.Memory
not_refused before after input first (fault.Own Network) told reads few steady cause = absurd cause.0
not_refused before after input first (fault.Own TooLong) told reads few steady cause =
    let long : records_limit < length input = subst (λ l. IfSome l (λ i. records_limit < length i)) told cause.said in
    let within : length input ≤ records_limit = reads.within in
    absurd (omega (arith, long, within))
not_refused before after input first (fault.Own (Records error)) told reads few steady cause =
    let refused : IsRefused error input = subst (λ l. IfSome l (IsRefused error)) told cause.said in
    absurd (batch_once (table_of input) first error reads.read refused.refused)
not_refused before after input first (fault.Own TooManyLists) told reads few steady cause =
    let many : LeavesMany input = subst (λ l. IfSome l LeavesMany) told cause.said in
    absurd (false≢true (sym many.many ∙ ap (has_few_lists []) (batch_same (table_of input) many.edits first many.reads.read reads.read) ∙ few refl))
not_refused before after input first fault.Read told reads few steady cause = absurd (steady cause.rose)
not_refused before after input first fault.Memory told reads few steady cause = refl

-- what a known input reads as
read_same : (before after : InputSeen) (input : List ℕ) (first edits : List Edit) → before.left ≡ Some input → ReadsAs first input → HasReadAs edits before after → edits ≡ first
read_same before after input first edits told reads read =
    batch_same (table_of read.bytes) edits first read.of.read (subst (λ i. BatchReads (table_of i) (Ok first)) (read_whole input read.bytes before.left after.left told read.read read.end) reads.read)

-- bytes represent at most one list of batches
stood_once : (contents : Option Contents) (path : List ℕ) (first : List Edit) (stands : StandsForShare contents path first) (before : List (List Edit)) → StandsAt contents path before → stands.stood ≡ before
stood_once contents path first stands before stood =
    one_list (bytes_at stands.told path) stands.stood before stands.stands (subst (λ o. IfSome o (λ c. FileStands (bytes_at c path) before)) stands.is stood)

-- a file that represents a share's batches is not refused
not_kept_out : (files files' : FilesSeen) (path : List ℕ) (first : List Edit) (stop : Fault FileFault) → StandsForShare files.contents path first → ¬ (Rose files.faults files'.faults)
    → StopsOpening files.contents path first stop → CountsFault files.faults files'.faults stop → stop ≡ fault.Memory
not_kept_out files files' path first (fault.Own (file.NotEditFile at)) stands calm stops counts =
    let broken : BreaksAt (bytes_at stands.told path) at = subst (λ o. IfSome o (λ c. BreaksAt (bytes_at c path) at)) stands.is stops in
    absurd (broken_is_none (bytes_at stands.told path) at stands.stood broken stands.stands)
not_kept_out files files' path first (fault.Own file.Failed) stands calm stops counts = absurd (calm counts)
not_kept_out files files' path first (fault.Own file.TooManyEdits) stands calm stops counts =
    let same = stood_once files.contents path first stands stops.before stops.stood in
    let many = stops.many in
    let few : length (edits (stops.before ++ if_filled first)) ≤ most_edits = subst (λ bs. length (edits (bs ++ if_filled first)) ≤ most_edits) same stands.few_edits in
    absurd (omega (arith, many, few))
not_kept_out files files' path first (fault.Own file.TooManyLists) stands calm stops counts =
    let same = stood_once files.contents path first stands stops.before stops.stood in
    let many = stops.many.1 in
    let few = subst (λ bs. LeaveFewLists (bs ++ if_filled first)) same stands.few_lists stops.many.0 in
    absurd (omega (arith, many, few))
not_kept_out files files' path first fault.Read stands calm stops counts = absurd stops
not_kept_out files files' path first fault.Memory stands calm stops counts = refl

file_wants : (stop : Fault FileFault) (before after : OutputSeen) (status : ℕ) → ¬ (Rose before.faults after.faults) → stop ≡ fault.Memory → WritesErrorLine file_line file_status stop before after status → status ≡ 9
file_wants stop before after status steady is tells = memory_told (subst (λ (s : Fault FileFault). WritesErrorLine file_line file_status s before after status) is tells)
  where
    memory_told : WritesErrorLine file_line file_status fault.Memory before after status → status ≡ 9
    memory_told (inl t) = told_as 9 memory_line before after status steady t
    memory_told (inr t) = told_as 9 memory_line before after status steady t

not_announced_as : (line : List ℕ) (before after : OutputSeen) (status : ℕ) → ¬ (Rose before.faults after.faults) → NotAnnounced line before after status → status ≡ 9
not_announced_as line before after status steady (inl t) = told_as 9 memory_line before after status steady t
not_announced_as line before after status steady (inr (inl c)) = absurd (steady c.1.rose)
not_announced_as line before after status steady (inr (inr t)) = told_as 9 _ before after status steady t

few_for : (serving : Serving) (contents : Option Contents) (first : List Edit) → IsOpened serving.file contents first → serving.file ≡ None → has_few_lists [] first ≡ true
few_for serving contents first is none = subst (λ f. IsOpened f contents first) none is

not_begun : (serving : Serving) (before after : InputSeen) (files files' : FilesSeen) (output output' : OutputSeen) (status : ℕ) (input : List ℕ) (first : List Edit) → before.left ≡ Some input → ReadsAs first input
    → IsOpened serving.file files.contents first → ¬ (Rose before.faults after.faults) → ¬ (Rose output.faults output'.faults) → ¬ (Rose files.faults files'.faults)
    → NotBegun serving before after files files' output output' status → status ≡ 9
not_begun serving before after files files' output output' status input first told reads is steady whole calm (stopped stop cause alone same tells) =
    wants stop output output' status whole (not_refused before after input first stop told reads (λ lists. few_for serving files.contents first is (alone lists)) steady cause) tells
not_begun serving before after files files' output output' status input first told reads is steady whole calm (unkept edits path stop read named stops leaves counts asked tells) =
    let same = read_same before after input first edits told reads read in
    file_wants stop output output' status whole
    (not_kept_out files files' path first stop (subst (λ f. IsOpened f files.contents first) named is) calm (subst (λ es. StopsOpening files.contents path es stop) same stops) counts) tells
not_begun serving before after files files' output output' status input first told reads is steady whole calm (unannounced edits opened read opening_is kept tells) =
    not_announced_as (first_line serving opened) output output' status whole tells

-- ---- workers

spent_here : (end : WorkerEnd) → (nat_eq (end_number end) 3) ≡ true → end ≡ worker.Spent
spent_here worker.Running is = absurd (cc)
spent_here worker.Stopped is = absurd (cc)
spent_here worker.NoMoreLinks is = absurd (cc)
spent_here worker.Spent is = refl
spent_here worker.AcceptFault is = absurd (cc)
spent_here worker.Memory is = absurd (cc)
spent_here worker.FileFault is = absurd (cc)

module _ {settings : Settings} {opened : List Entry} where
  spent_worker_run : (worker_run : WorkerRun settings opened) → worker_run.end ≡ worker.Spent → (length worker_run.reports ≡ 65536) ⊎ (length (all_served worker_run.reports) ≡ 262144)
  spent_worker_run worker_run is =
      let ends = subst (λ e. EndsWorker (record { settings = settings; number = worker_run.pass.number; taken_in = []; seen = opened; looks = []; is_over = false }) worker_run.pass worker_run.to_come worker_run.left worker_run.reports e) is worker_run.served.ends in
      ends.2

  spent_at : (worker_run : WorkerRun settings opened) (worker_runs : List (WorkerRun settings opened)) (b : Bool) → nat_eq (end_number worker_run.end) 3 ≡ b
      → (has_end worker.Spent (map (λ (s : WorkerRun settings opened). s.end) worker_runs) ≡ true → IsSpent (map (λ (s : WorkerRun settings opened). s.reports) worker_runs))
      → (b || has_end worker.Spent (map (λ (s : WorkerRun settings opened). s.end) worker_runs)) ≡ true → IsSpent (worker_run.reports ∷ map (λ (s : WorkerRun settings opened). s.reports) worker_runs)
  spent_at worker_run worker_runs true is rest some =
      record { reports = worker_run.reports; stands = contains_head worker_run.reports (map (λ (s : WorkerRun settings opened). s.reports) worker_runs); most = spent_worker_run worker_run (spent_here worker_run.end is) }
  spent_at worker_run worker_runs false is rest some =
      let r = rest some in
      record { reports = r.reports; stands = contains_tail r.reports worker_run.reports (map (λ (s : WorkerRun settings opened). s.reports) worker_runs) r.stands; most = r.most }

  some_spent : (worker_runs : List (WorkerRun settings opened)) → has_end worker.Spent (map (λ (s : WorkerRun settings opened). s.end) worker_runs) ≡ true → IsSpent (map (λ (s : WorkerRun settings opened). s.reports) worker_runs)
  some_spent [] some = absurd (cc)
  some_spent (worker_run ∷ worker_runs) some = spent_at worker_run worker_runs (nat_eq (end_number worker_run.end) 3) refl (some_spent worker_runs) some

-- the status by the workers' ends, if neither the network nor a file failed
by_ends : (ends : List WorkerEnd) (links : List (List LinkReport)) (before after : ℕ) (network file memory spent : Bool) → has_end worker.AcceptFault ends ≡ network → has_end worker.FileFault ends ≡ file
    → has_end worker.Memory ends ≡ memory → has_end worker.Spent ends ≡ spent → ¬ (Rose before after) → CountsListenerFaults before after ends → (has_end worker.FileFault ends ≡ true → ⊥)
    → (has_end worker.Spent ends ≡ true → IsSpent links)
    → (verdict : Verdict) → verdict ≡ cond network NetworkFailed (cond file FileFailed (cond memory OutOfMemory (cond spent Exhausted Done))) → (status : ℕ)
    → (status ≡ verdict_status verdict) ⊎ (status ≡ verdict_status (with_memory verdict)) → (status ≡ 0) ⊎ ((status ≡ 9) ⊎ ((status ≡ 8) × IsSpent links))
by_ends ends links before after true file memory spent n f m s steady counts sound some verdict is status said =
    absurd (steady (subst (λ (b : Bool). MatchBool b (Rose before after) (after ≡ before)) n counts))
by_ends ends links before after false true memory spent n f m s steady counts sound some verdict is status said = absurd (sound f)
by_ends ends links before after false false true spent n f m s steady counts sound some verdict is status (inl said) = inr (inl (said ∙ ap verdict_status is))
by_ends ends links before after false false true spent n f m s steady counts sound some verdict is status (inr said) = inr (inl (said ∙ ap (λ v. verdict_status (with_memory v)) is))
by_ends ends links before after false false false true n f m s steady counts sound some verdict is status (inl said) = inr (inr (said ∙ ap verdict_status is, some s))
by_ends ends links before after false false false true n f m s steady counts sound some verdict is status (inr said) = inr (inl (said ∙ ap (λ v. verdict_status (with_memory v)) is))
by_ends ends links before after false false false false n f m s steady counts sound some verdict is status (inl said) = inl (said ∙ ap verdict_status is)
by_ends ends links before after false false false false n f m s steady counts sound some verdict is status (inr said) = inr (inl (said ∙ ap (λ v. verdict_status (with_memory v)) is))

end_said : (ended : List ℕ) (verdict : Verdict) (before after : OutputSeen) (status : ℕ) → ¬ (Rose before.faults after.faults) → WritesEnd ended verdict before after status
    → (status ≡ verdict_status verdict) ⊎ (status ≡ verdict_status (with_memory verdict))
end_said ended verdict before after status steady (inl h) = inl (told_as (verdict_status verdict) _ before after status steady h)
end_said ended verdict before after status steady (inr h) = inr (told_as (verdict_status (with_memory verdict)) _ before after status steady h)

-- no edit was lost if no error of files was counted
none_lost : (file : Option (List ℕ)) (before after : FilesSeen) (history : List Entry) (lost : Bool) → ¬ (Rose before.faults after.faults) → AreKept file before after history lost → lost ≡ true → ⊥
none_lost None before after history lost calm kept is = false≢true (sym kept.1 ∙ is)
none_lost (Some path) before after history lost calm kept is = calm (subst (λ b. MatchBool b (Rose before.faults after.faults) (after.faults ≡ before.faults)) is kept.counts)

pub runs_are_decided : RunsAreDecided
runs_are_decided serving told left input first (unopened stop fails unread same tells none) known reads is steady whole calm sound = by_stop fails.stops
  where
    by_stop : ((stop ≡ fault.Own Network) × Rose told.before.around.net.faults told.after.around.net.faults) ⊎ ((stop ≡ fault.Memory) × (told.after.around.net.faults ≡ told.before.around.net.faults))
        → (left.status ≡ 0) ⊎ ((left.status ≡ 9) ⊎ ((left.status ≡ 8) × IsSpent left.links))
    by_stop (inl h) = absurd (calm h.1)
    by_stop (inr h) = inr (inl (wants stop told.output_before told.output_after left.status whole h.0 tells))
runs_are_decided serving told left input first (unbegun asked faults not none) known reads is steady whole calm sound =
    inr (inl (not_begun serving told.before.input told.after.input told.before.around.files told.after.around.files told.output_before told.output_after left.status input first known reads is steady whole sound not))
runs_are_decided serving told left input first (served edits opened read opening_is run) known reads is steady whole calm sound =
    let ends = map (λ (s : WorkerRun (settings_of serving) opened). s.end) run.crew in
    by_ends ends left.links told.before.around.net.faults told.after.around.net.faults (has_end worker.AcceptFault ends) (has_end worker.FileFault ends) (has_end worker.Memory ends) (has_end worker.Spent ends) refl refl refl refl calm run.counts
    (none_lost serving.file told.before.around.files told.after.around.files run.history (has_end worker.FileFault ends) sound run.kept_so)
    (λ some. subst IsSpent (sym run.links) (some_spent run.crew some)) (verdict_of ends) refl left.status (end_said (ended_line (revision (batches run.history)) left.links) (verdict_of ends) run.at_line told.output_after left.status
    (subst (λ n. ¬ (Rose n told.output_after.faults)) (sym run.line_written.faultless) whole) run.told)
