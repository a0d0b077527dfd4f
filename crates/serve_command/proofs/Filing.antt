-- What the status of a run says of its file.
use Rattle.std.proofs.Common.{◌≡◌, ◌⊎◌, ◌≤◌, ℕ, Bool, true, false, cond, List, map, Option, None, Some, MatchBool, refl, sym, subst, ◌∙◌, inl, inr, arith}
use Rattle.std.proofs.lemmas.Bool.{false≢true}
use Rattle.item_model.specs.declared.changes.Entry.{Entry}
use Rattle.outside_net.specs.Counts.{Rose}
use Rattle.share_history.specs.Histories.{batches, revision}
use Rattle.share_workers.specs.declared.worker.WorkerEnd.{WorkerEnd}
use Rattle.share_workers.specs.declared.worker.WorkerEnd.TheVariants as worker
use Rattle.kept_library.specs.declared.fault.FileFault.{FileFault}
use Rattle.kept_library.specs.declared.fault.FileFault.TheVariants as file
use Rattle.kept_library.specs.Faults.{file_line, file_status}
use Rattle.kept_library.specs.Opening.{CountsFault}
use Rattle.command_core.specs.declared.fault.Fault.{Fault}
use Rattle.command_core.specs.declared.fault.Fault.TheVariants as fault
use Rattle.command_core.specs.Answers.{Writes}
use Rattle.command_core.specs.Faults.{fault_status}
use Rattle.command_core.specs.Seen.{FilesSeen, InputSeen, OutputSeen}
use Rattle.share_crew.specs.declared.verdict.Verdict.{Verdict}
use Rattle.share_crew.specs.declared.verdict.Verdict.TheVariants.{Done, NetworkFailed, FileFailed, OutOfMemory, Exhausted}
use Rattle.share_crew.specs.Lines.{ended_line}
use Rattle.share_crew.specs.WorkerRuns.{WorkerRun}
use Rattle.share_crew.specs.Verdicts.{has_end, verdict_of, verdict_status, with_memory}
use Rattle.share_crew.proofs.Ending.{none_failed}
use Rattle.serve_command.specs.declared.fault.ServeFault.{ServeFault}
use Rattle.serve_command.specs.declared.fault.ServeFault.TheVariants.{Network, TooLong, Records, TooManyLists}
use Rattle.serve_command.specs.declared.terms.Serving.{Serving}
use Rattle.serve_command.specs.Faults.{serve_status}
use Rattle.serve_command.specs.Files.{AreKept, IsKept, LeavesBut}
use Rattle.serve_command.specs.Laws.{FileFaultsAreCounted, SuccessLeavesTheFile}
use Rattle.serve_command.specs.Runs.{first_line, NotAnnounced, NotBegun, WritesEnd, WritesErrorLine, WritesStop, served, stopped, unannounced, unbegun, unkept, unopened}
use Rattle.serve_command.specs.Terms.{settings_of}
use Rattle.serve_command.proofs.Ending.{done_from}

-- the status is the intended one, or that of an output that failed
error_status : (wanted : ℕ) (bytes : List ℕ) (before after : OutputSeen) (status : ℕ) → Writes wanted bytes before after status → (status ≡ wanted) ⊎ (status ≡ 5)
error_status wanted bytes before after status (inl h) = inl h.0
error_status wanted bytes before after status (inr h) = inr h.0

-- the statuses before a share is served are between 3 and 9, unless a file failed
abbrev IsBetween : ℕ → Type 0
IsBetween status = (3 ≤ status) × (status ≤ 9)

between_told : (wanted : ℕ) (bytes : List ℕ) (before after : OutputSeen) (status : ℕ) → IsBetween wanted → Writes wanted bytes before after status → IsBetween status
between_told wanted bytes before after status within (inl h) = (subst (λ n. 3 ≤ n) (sym h.0) within.0, subst (λ n. n ≤ 9) (sym h.0) within.1)
between_told wanted bytes before after status within (inr h) = (omega (arith, h.0), omega (arith, h.0))

between_nine : IsBetween 9
between_nine = (omega arith, omega arith)

serve_between : (stop : Fault ServeFault) → IsBetween (fault_status serve_status stop)
serve_between (fault.Own Network) = (omega arith, omega arith)
serve_between (fault.Own TooLong) = (omega arith, omega arith)
serve_between (fault.Own (Records error)) = (omega arith, omega arith)
serve_between (fault.Own TooManyLists) = (omega arith, omega arith)
serve_between fault.Read = (omega arith, omega arith)
serve_between fault.Memory = (omega arith, omega arith)

stop_between : (stop : Fault ServeFault) (before after : OutputSeen) (status : ℕ) → WritesStop stop before after status → IsBetween status
stop_between stop before after status (inl t) = between_told (fault_status serve_status stop) _ before after status (serve_between stop) t
stop_between stop before after status (inr t) = between_told 9 _ before after status between_nine t

not_announced_between : (line : List ℕ) (before after : OutputSeen) (status : ℕ) → NotAnnounced line before after status → IsBetween status
not_announced_between line before after status (inl t) = between_told 9 _ before after status between_nine t
not_announced_between line before after status (inr (inl c)) = (omega (arith, c.0), omega (arith, c.0))
not_announced_between line before after status (inr (inr t)) = between_told 9 _ before after status between_nine t

-- a file that is refused has a status of at least 3, and 10 only if an error was counted
file_some : (stop : Fault FileFault) → 3 ≤ fault_status file_status stop
file_some (fault.Own (file.NotEditFile at)) = omega arith
file_some (fault.Own file.Failed) = omega arith
file_some (fault.Own file.TooManyEdits) = omega arith
file_some (fault.Own file.TooManyLists) = omega arith
file_some fault.Read = omega arith
file_some fault.Memory = omega arith

file_ten : (stop : Fault FileFault) (before after : ℕ) → CountsFault before after stop → fault_status file_status stop ≡ 10 → Rose before after
file_ten (fault.Own (file.NotEditFile at)) before after counts is = absurd (let e : 3 ≡ 10 = is in omega arith)
file_ten (fault.Own file.Failed) before after counts is = counts
file_ten (fault.Own file.TooManyEdits) before after counts is = absurd (let e : 8 ≡ 10 = is in omega arith)
file_ten (fault.Own file.TooManyLists) before after counts is = absurd (let e : 8 ≡ 10 = is in omega arith)
file_ten fault.Read before after counts is = absurd (let e : 4 ≡ 10 = is in omega arith)
file_ten fault.Memory before after counts is = absurd (let e : 9 ≡ 10 = is in omega arith)

some_status : (stop : Fault FileFault) (before after : OutputSeen) (status : ℕ) → WritesErrorLine file_line file_status stop before after status → 3 ≤ status
some_status stop before after status (inl (inl h)) = subst (λ n. 3 ≤ n) (sym h.0) (file_some stop)
some_status stop before after status (inl (inr h)) = omega (arith, h.0)
some_status stop before after status (inr (inl h)) = omega (arith, h.0)
some_status stop before after status (inr (inr h)) = omega (arith, h.0)

ten_status : (stop : Fault FileFault) (before after : OutputSeen) (status : ℕ) (n n' : ℕ) → CountsFault n n' stop → WritesErrorLine file_line file_status stop before after status → status ≡ 10 → Rose n n'
ten_status stop before after status n n' counts (inl (inl h)) ten = file_ten stop n n' counts (sym h.0 ∙ ten)
ten_status stop before after status n n' counts (inl (inr h)) ten = absurd (omega (arith, h.0, ten))
ten_status stop before after status n n' counts (inr (inl h)) ten = absurd (omega (arith, h.0, ten))
ten_status stop before after status n n' counts (inr (inr h)) ten = absurd (omega (arith, h.0, ten))

not_begun_some : (serving : Serving) (before after : InputSeen) (files files' : FilesSeen) (output output' : OutputSeen) (status : ℕ) → NotBegun serving before after files files' output output' status → 3 ≤ status
not_begun_some serving before after files files' output output' status (stopped stop cause alone same tells) = (stop_between stop output output' status tells).0
not_begun_some serving before after files files' output output' status (unkept edits path stop read named stops leaves counts asked tells) = some_status stop output output' status tells
not_begun_some serving before after files files' output output' status (unannounced edits opened read is kept tells) = (not_announced_between (first_line serving opened) output output' status tells).0

not_begun_ten : (serving : Serving) (before after : InputSeen) (files files' : FilesSeen) (output output' : OutputSeen) (status : ℕ) → NotBegun serving before after files files' output output' status → status ≡ 10
    → Rose files.faults files'.faults
not_begun_ten serving before after files files' output output' status (stopped stop cause alone same tells) ten =
    let within = (stop_between stop output output' status tells).1 in absurd (omega (arith, within, ten))
not_begun_ten serving before after files files' output output' status (unkept edits path stop read named stops leaves counts asked tells) ten = ten_status stop output output' status files.faults files'.faults counts tells ten
not_begun_ten serving before after files files' output output' status (unannounced edits opened read is kept tells) ten =
    let within = (not_announced_between (first_line serving opened) output output' status tells).1 in absurd (omega (arith, within, ten))

-- ---- a share that was served

none_lost_if_done : (ends : List WorkerEnd) → verdict_of ends ≡ Done → has_end worker.FileFault ends ≡ false
none_lost_if_done ends done =
    (none_failed ends (has_end worker.AcceptFault ends) (has_end worker.FileFault ends) (has_end worker.Memory ends) (has_end worker.Spent ends) refl refl refl refl done).file

left_so : (file : Option (List ℕ)) (path : List ℕ) (before after : FilesSeen) (history : List Entry) (lost : Bool) → file ≡ Some path → AreKept file before after history lost → IsKept path before after history lost
left_so file path before after history lost is kept = subst (λ f. AreKept f before after history lost) is kept

pub success_leaves_the_file : SuccessLeavesTheFile
success_leaves_the_file serving path told left (unopened stop fails unread same tells none) success named =
    let some = (stop_between stop told.output_before told.output_after left.status tells).0 in absurd (omega (arith, some, success))
success_leaves_the_file serving path told left (unbegun asked faults not none) success named =
    let some = not_begun_some serving told.before.input told.after.input told.before.around.files told.after.around.files told.output_before told.output_after left.status not in absurd (omega (arith, some, success))
success_leaves_the_file serving path told left (served edits opened read is run) success named =
    let ends = map (λ (s : WorkerRun (settings_of serving) opened). s.end) run.crew in
    let done : verdict_of ends ≡ Done = done_from (ended_line (revision (batches run.history)) left.links) (verdict_of ends) run.at_line told.output_after left.status success run.told in
    let none : has_end worker.FileFault ends ≡ false = none_lost_if_done ends done in
    let kept = left_so serving.file path told.before.around.files told.after.around.files run.history (has_end worker.FileFault ends) named run.kept_so in record {
      faultless = subst (λ b. MatchBool b (Rose told.before.around.files.faults told.after.around.files.faults) (told.after.around.files.faults ≡ told.before.around.files.faults)) none kept.counts;
      history = run.history;
      history_is = run.history_is;
      left_at = subst (λ b. LeavesBut b path (batches run.history) told.before.around.files.contents told.after.around.files.contents) none kept.left;
    }

-- only a lost edit has the status of a file that failed
ten_by : (verdict : Verdict) → 10 ≡ verdict_status verdict → verdict ≡ FileFailed
ten_by Done is = absurd (let e : 10 ≡ 0 = is in omega arith)
ten_by NetworkFailed is = absurd (let e : 10 ≡ 6 = is in omega arith)
ten_by FileFailed is = refl
ten_by OutOfMemory is = absurd (let e : 10 ≡ 9 = is in omega arith)
ten_by Exhausted is = absurd (let e : 10 ≡ 8 = is in omega arith)

ten_with_memory : (verdict : Verdict) → 10 ≡ verdict_status (with_memory verdict) → verdict ≡ FileFailed
ten_with_memory Done is = absurd (let e : 10 ≡ 9 = is in omega arith)
ten_with_memory NetworkFailed is = absurd (let e : 10 ≡ 6 = is in omega arith)
ten_with_memory FileFailed is = refl
ten_with_memory OutOfMemory is = absurd (let e : 10 ≡ 9 = is in omega arith)
ten_with_memory Exhausted is = absurd (let e : 10 ≡ 9 = is in omega arith)

lost_from : (ended : List ℕ) (verdict : Verdict) (before after : OutputSeen) (status : ℕ) → status ≡ 10 → WritesEnd ended verdict before after status → verdict ≡ FileFailed
lost_from ended verdict before after status is (inl (inl h)) = ten_by verdict (sym is ∙ h.0)
lost_from ended verdict before after status is (inl (inr h)) = absurd (omega (arith, is, h.0))
lost_from ended verdict before after status is (inr (inl h)) = ten_with_memory verdict (sym is ∙ h.0)
lost_from ended verdict before after status is (inr (inr h)) = absurd (omega (arith, is, h.0))

lost_by : (ends : List WorkerEnd) (network file memory spent : Bool) → has_end worker.FileFault ends ≡ file → cond network NetworkFailed (cond file FileFailed (cond memory OutOfMemory (cond spent Exhausted Done))) ≡ FileFailed
    → has_end worker.FileFault ends ≡ true
lost_by ends true file memory spent f is = absurd (cc)
lost_by ends false true memory spent f is = f
lost_by ends false false true spent f is = absurd (cc)
lost_by ends false false false true f is = absurd (cc)
lost_by ends false false false false f is = absurd (cc)

rose_by : (file : Option (List ℕ)) (before after : FilesSeen) (history : List Entry) (lost : Bool) → lost ≡ true → AreKept file before after history lost → Rose before.faults after.faults
rose_by None before after history lost is kept = absurd (false≢true (sym kept.1 ∙ is))
rose_by (Some path) before after history lost is kept = subst (λ b. MatchBool b (Rose before.faults after.faults) (after.faults ≡ before.faults)) is kept.counts

pub file_faults_are_counted : FileFaultsAreCounted
file_faults_are_counted serving told left (unopened stop fails unread same tells none) ten =
    let few = (stop_between stop told.output_before told.output_after left.status tells).1 in absurd (omega (arith, few, ten))
file_faults_are_counted serving told left (unbegun asked faults not none) ten =
    not_begun_ten serving told.before.input told.after.input told.before.around.files told.after.around.files told.output_before told.output_after left.status not ten
file_faults_are_counted serving told left (served edits opened read is run) ten =
    let ends = map (λ (s : WorkerRun (settings_of serving) opened). s.end) run.crew in
    let failed = lost_from (ended_line (revision (batches run.history)) left.links) (verdict_of ends) run.at_line told.output_after left.status ten run.told in
    rose_by serving.file told.before.around.files told.after.around.files run.history (has_end worker.FileFault ends)
    (lost_by ends (has_end worker.AcceptFault ends) (has_end worker.FileFault ends) (has_end worker.Memory ends) (has_end worker.Spent ends) refl failed) run.kept_so
