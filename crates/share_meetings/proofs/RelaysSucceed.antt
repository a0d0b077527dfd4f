-- A run of `relay` that reads a share succeeds, if nothing outside fails.
use Rattle.std.proofs.Common.{◌≡◌, ◌⊎◌, ◌||◌, ℕ, List, [], ◌∷◌, Bool, true, false, cond, true≢false, map, MatchBool, Option, None, Some, refl, sym, ap, ◌∙◌, subst, inl, inr}
use Rattle.std.specs.Prelude.{nat_eq}
use Rattle.outside_net.specs.Counts.{Rose}
use Rattle.command_core.specs.declared.fault.Fault.{Fault}
use Rattle.command_core.specs.declared.fault.Fault.TheVariants.{Own, Memory}
use Rattle.command_core.specs.Answers.{Writes}
use Rattle.command_core.specs.Faults.{fault_status, memory_line}
use Rattle.command_core.specs.Seen.{OutputSeen}
use Rattle.link_commands.specs.Linked.{start_of}
use Rattle.link_commands.proofs.LinkedFacts.{left_is, owed_is}
use Rattle.share_replies.specs.Settings.{Settings}
use Rattle.share_workers.specs.declared.worker.WorkerEnd.{WorkerEnd}
use Rattle.share_workers.specs.declared.worker.WorkerEnd.TheVariants as worker
use Rattle.share_workers.specs.Ends.{is_worker_loss}
use Rattle.share_crew.specs.declared.verdict.Verdict.TheVariants.{Done as AllDone, NetworkFailed, FileFailed, OutOfMemory, Exhausted}
use Rattle.share_crew.specs.WorkerRuns.{WorkerRun}
use Rattle.share_crew.specs.Verdicts.{end_number, has_end, verdict_of}
use Rattle.share_crew.proofs.Players.{ArePlayers}
use Rattle.mirror_client.specs.declared.refusal.FollowError.{FollowError}
use Rattle.relay_share.specs.Ends.{is_fault}
use Rattle.relay_share.specs.declared.report.RelayEnd.{RelayEnd}
use Rattle.relay_share.specs.declared.report.RelayEnd.TheVariants as end
use Rattle.relay_command.specs.Begun.{NotAnnounced}
use Rattle.relay_command.specs.Faults.{crew_fault, end_fault, relay_status, worse_of}
use Rattle.share_meetings.specs.RelayLaws.{MayEnd, MeetsLimit, RunsSucceed, ServedRunsSucceed}
use Rattle.relay_command.specs.Lines.{relaying_line}
use Rattle.relay_command.specs.Places.{StopsOpening}
use Rattle.relay_command.specs.Runs.{HasServed, WritesThenError, WritesEnd, WritesLastError, WritesStop, served, unannounced, unopened}
use Rattle.relay_command.specs.declared.fault.RelayFault.{RelayFault}
use Rattle.relay_command.specs.declared.fault.RelayFault.TheVariants.{Library, Requests}
use Rattle.share_meetings.proofs.ServedRelays.{served_relays_go_on}
use Rattle.relay_command.proofs.Shown.{are_players}

-- ---- what was written

-- if the line was written whole, the status is the wanted one
told_as : (wanted : ℕ) (bytes : List ℕ) (before after : OutputSeen) (status : ℕ) → ¬ (Rose before.faults after.faults) → Writes wanted bytes before after status → status ≡ wanted
told_as wanted bytes before after status steady (inl h) = h.0
told_as wanted bytes before after status steady (inr h) = absurd (steady h.1.rose)

abbrev status_of : Option (Fault RelayFault) → ℕ
status_of None = 0
status_of (Some fault) = fault_status relay_status fault

behind_said : (text : List ℕ) (fault : Option (Fault RelayFault)) (before after : OutputSeen) (status : ℕ) → ¬ (Rose before.faults after.faults)
    → WritesThenError text fault before after status → (status ≡ status_of fault) ⊎ (status ≡ 9)
behind_said text None before after status steady h = inl (told_as 0 text before after status steady h)
behind_said text (Some fault) before after status steady (inl h) = inl (told_as (fault_status relay_status fault) _ before after status steady h)
behind_said text (Some fault) before after status steady (inr h) = inr (told_as 9 _ before after status steady h)

memory_said : (text : List ℕ) (before after : OutputSeen) (status : ℕ) → ¬ (Rose before.faults after.faults) → WritesThenError text (Some Memory) before after status → status ≡ 9
memory_said text before after status steady (inl h) = told_as 9 _ before after status steady h
memory_said text before after status steady (inr h) = told_as 9 _ before after status steady h

-- ---- errors that nothing outside causes

-- an error of memory or of a limit, or none
abbrev IsMild : Type 0 → Option (Fault RelayFault) → Type 0
IsMild Limit fault = (fault ≡ None) ⊎ ((fault ≡ Some Memory) ⊎ (((fault ≡ Some (Own Requests)) ⊎ (fault ≡ Some (Own Library))) × Limit))

abbrev IsFine : Type 0 → ℕ → Type 0
IsFine Limit status = (status ≡ 0) ⊎ ((status ≡ 9) ⊎ ((status ≡ 8) × Limit))

module _ (Limit : Type 0) (lines : List ℕ) (before after : OutputSeen) (status : ℕ) (steady : ¬ (Rose before.faults after.faults)) where
  -- if an allocation for the lines fails
  ruled : (fault : Option (Fault RelayFault)) → worse_of fault (Some Memory) ≡ Some Memory → WritesEnd lines fault before after status → (status ≡ status_of fault) ⊎ (status ≡ 9)
  ruled fault memory (inl h) = behind_said lines fault before after status steady h
  ruled fault memory (inr h) = inr (memory_said [] before after status steady (subst (λ (f : Option (Fault RelayFault)). WritesLastError f before after status) memory h))

  as_told : (wanted : ℕ) → (status ≡ wanted) ⊎ (status ≡ 9) → (status ≡ wanted → IsFine Limit status) → IsFine Limit status
  as_told wanted (inl is) then = then is
  as_told wanted (inr nine) then = inr (inl nine)

  fine : (fault : Option (Fault RelayFault)) → IsMild Limit fault → WritesEnd lines fault before after status → IsFine Limit status
  fine fault (inl none) h =
      as_told 0 (ruled None refl (subst (λ (f : Option (Fault RelayFault)). WritesEnd lines f before after status) none h)) (λ is. inl is)
  fine fault (inr (inl memory)) h =
      as_told 9 (ruled (Some Memory) refl (subst (λ (f : Option (Fault RelayFault)). WritesEnd lines f before after status) memory h)) (λ is. inr (inl is))
  fine fault (inr (inr (inl spent, limit))) h =
      as_told 8 (ruled (Some (Own Requests)) refl (subst (λ (f : Option (Fault RelayFault)). WritesEnd lines f before after status) spent h)) (λ is. inr (inr (is, limit)))
  fine fault (inr (inr (inr full, limit))) h =
      as_told 8 (ruled (Some (Own Library)) refl (subst (λ (f : Option (Fault RelayFault)). WritesEnd lines f before after status) full h)) (λ is. inr (inr (is, limit)))

-- the relay's share was full, or a worker was spent
abbrev HasLimit : RelayEnd → Bool → Type 0
HasLimit e spent = (e ≡ end.Full) ⊎ (spent ≡ true)

-- a relay that reads a share over a connection that did not fail
abbrev IsQuietEnd : RelayEnd → Type 0
IsQuietEnd e = MayEnd e × (is_fault e ≡ false)

unpeered : (error : FollowError) → IsQuietEnd (end.Peer error) → ⊥
unpeered error quiet = let bad : true ≡ false = sym (ap (λ (e : FollowError). is_fault (end.Peer e)) quiet.0) ∙ quiet.1 in true≢false bad

done_crew : (e : RelayEnd) → IsQuietEnd e → IsMild (HasLimit e false) (worse_of None (end_fault e))
done_crew end.Done quiet = inl refl
done_crew (end.Row index) quiet = absurd quiet.0
done_crew end.Full quiet = inr (inr (inr refl, inl refl))
done_crew end.Stopped quiet = inl refl
done_crew (end.Peer error) quiet = absurd (unpeered error quiet)
done_crew end.Memory quiet = inr (inl refl)

spent_crew : (e : RelayEnd) → IsQuietEnd e → IsMild (HasLimit e true) (worse_of (Some (Own Requests)) (end_fault e))
spent_crew end.Done quiet = inr (inr (inl refl, inr refl))
spent_crew (end.Row index) quiet = absurd quiet.0
spent_crew end.Full quiet = inr (inr (inl refl, inr refl))
spent_crew end.Stopped quiet = inr (inr (inl refl, inr refl))
spent_crew (end.Peer error) quiet = absurd (unpeered error quiet)
spent_crew end.Memory quiet = inr (inl refl)

memory_crew : (Limit : Type 0) (e : RelayEnd) → IsQuietEnd e → IsMild Limit (worse_of (Some Memory) (end_fault e))
memory_crew Limit end.Done quiet = inr (inl refl)
memory_crew Limit (end.Row index) quiet = absurd quiet.0
memory_crew Limit end.Full quiet = inr (inl refl)
memory_crew Limit end.Stopped quiet = inr (inl refl)
memory_crew Limit (end.Peer error) quiet = absurd (unpeered error quiet)
memory_crew Limit end.Memory quiet = inr (inl refl)

-- by what the ends of workers say
mild_by : (network file memory spent : Bool) → network ≡ false → file ≡ false → (e : RelayEnd) → IsQuietEnd e
    → IsMild (HasLimit e spent) (worse_of (crew_fault (cond network NetworkFailed (cond file FileFailed (cond memory OutOfMemory (cond spent Exhausted AllDone))))) (end_fault e))
mild_by true file memory spent n f e quiet = absurd (true≢false n)
mild_by false true memory spent n f e quiet = absurd (true≢false f)
mild_by false false true spent n f e quiet = memory_crew (HasLimit e spent) e quiet
mild_by false false false true n f e quiet = spent_crew e quiet
mild_by false false false false n f e quiet = done_crew e quiet

-- ---- workers and counters

not_lost : (e : WorkerEnd) → is_worker_loss e ≡ false → nat_eq (end_number e) 6 ≡ false
not_lost worker.Running is = refl
not_lost worker.Stopped is = refl
not_lost worker.NoMoreLinks is = refl
not_lost worker.Spent is = refl
not_lost worker.AcceptFault is = refl
not_lost worker.Memory is = refl
not_lost worker.FileFault is = absurd (true≢false is)

none_lost : {settings : Settings} (crew : List (WorkerRun settings [])) → ArePlayers crew → has_end worker.FileFault (map (λ worker_run. worker_run.end) crew) ≡ false
none_lost [] are = refl
none_lost {settings = settings} (worker_run ∷ crew) are =
    ap (λ (b : Bool). b || has_end worker.FileFault (map (λ (s : WorkerRun settings []). s.end) crew)) (not_lost worker_run.end are.0.1) ∙ none_lost crew are.1

neither : (a b : Bool) (before after : ℕ) → MatchBool (a || b) (Rose before after) (after ≡ before) → ¬ (Rose before after) → (a ≡ false) × (b ≡ false)
neither true b before after counts steady = absurd (steady counts)
neither false true before after counts steady = absurd (steady counts)
neither false false before after counts steady = (refl, refl)

pub served_runs_succeed : ServedRunsSucceed
served_runs_succeed relaying front net net' output output' left s h bytes r known serves calm steady =
    let ends = map (λ worker_run. worker_run.end) r.crew in
    let e = r.relay.report.end in
    let counted = neither (has_end worker.AcceptFault ends) (is_fault e) net.faults net'.faults r.counts calm in
    let may = served_relays_go_on relaying.upstream relaying.rounds (start_of r.relay.link) r.relay.link.taken _ r.relay.pass r.relay.report s h bytes r.relayed
    (owed_is r.relay.link bytes known) serves in
    let files = none_lost r.crew (are_players relaying.workers r.crew r.roles) in
    let mild = mild_by (has_end worker.AcceptFault ends) (has_end worker.FileFault ends) (has_end worker.Memory ends) (has_end worker.Spent ends) counted.0 files e (may, counted.1) in
    fine (MeetsLimit r) _ r.at_line output' left.status (subst (λ (n : ℕ). ¬ (Rose n output'.faults)) (sym r.line_written.faultless) steady)
    (worse_of (crew_fault (verdict_of ends)) (end_fault e)) mild r.told

-- ---- a whole run

stop_said : (stop : Fault RelayFault) (before after : OutputSeen) (status : ℕ) → ¬ (Rose before.faults after.faults) → stop ≡ Memory → WritesStop stop before after status → status ≡ 9
stop_said stop before after status steady is tells =
    memory_said [] before after status steady (subst (λ (f : Fault RelayFault). WritesStop f before after status) is tells)

not_announced : (line : List ℕ) (before after : OutputSeen) (status : ℕ) → ¬ (Rose before.faults after.faults) → NotAnnounced line before after status → status ≡ 9
not_announced line before after status steady (inl t) = told_as 9 memory_line before after status steady t
not_announced line before after status steady (inr (inl c)) = absurd (steady c.1.rose)
not_announced line before after status steady (inr (inr t)) = told_as 9 _ before after status steady t

pub runs_succeed : RunsSucceed
runs_succeed relaying net net' output output' left s h bytes (unopened stop fails tells none) known serves calm steady = by_stop fails.stops
  where
    by_stop : StopsOpening net.faults net'.faults stop
        → (left.status ≡ 0) ⊎ ((left.status ≡ 9) ⊎ ((left.status ≡ 8) × ((r : HasServed relaying (relaying_line relaying.name) net net' output output' left) × MeetsLimit r)))
    by_stop (inl failed) = absurd (calm failed.1)
    by_stop (inr memory) = inr (inl (stop_said stop output output' left.status steady memory.0 tells))
runs_succeed relaying net net' output output' left s h bytes (unannounced not back none) known serves calm steady =
    inr (inl (not_announced (relaying_line relaying.name) output output' left.status steady not))
runs_succeed relaying net net' output output' left s h bytes (served r) known serves calm steady =
    at (served_runs_succeed relaying (relaying_line relaying.name) net net' output output' left s h bytes r (left_is net.next_input r.relay.link.left bytes known r.input) serves calm steady)
  where
    at : (left.status ≡ 0) ⊎ ((left.status ≡ 9) ⊎ ((left.status ≡ 8) × MeetsLimit r))
        → (left.status ≡ 0) ⊎ ((left.status ≡ 9) ⊎ ((left.status ≡ 8) × ((r : HasServed relaying (relaying_line relaying.name) net net' output output' left) × MeetsLimit r)))
    at (inl zero) = inl zero
    at (inr (inl nine)) = inr (inl nine)
    at (inr (inr limit)) = inr (inr (limit.0, (r, limit.1)))
