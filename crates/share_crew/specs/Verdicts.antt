-- The verdict on workers, by how they ended.
use Rattle.std.specs.Prelude.{ℕ, nat_eq, Bool, List, [], ◌∷◌, ◌++◌, codes, if◌then◌else◌}
use Rattle.std.specs.List.{list_any}
use Rattle.share_workers.specs.declared.worker.WorkerEnd.{WorkerEnd}
use Rattle.share_workers.specs.declared.worker.WorkerEnd.TheVariants as worker
use Rattle.share_crew.specs.declared.verdict.Verdict.{Verdict}
use Rattle.share_crew.specs.declared.verdict.Verdict.TheVariants.{Done, NetworkFailed, FileFailed, OutOfMemory, Exhausted}

abbrev pub end_number : WorkerEnd → ℕ
end_number worker.Running = 0
end_number worker.Stopped = 1
end_number worker.NoMoreLinks = 2
end_number worker.Spent = 3
end_number worker.AcceptFault = 4
end_number worker.Memory = 5
end_number worker.FileFault = 6

-- a worker ended so
abbrev pub has_end : WorkerEnd → List WorkerEnd → Bool
has_end end ends = list_any (λ e. nat_eq (end_number e) (end_number end)) ends

-- a listener that failed counts before a file that failed, then out of memory, then a worker that reached its limit
abbrev pub verdict_of : List WorkerEnd → Verdict
verdict_of ends =
    if has_end worker.AcceptFault ends then NetworkFailed
    else if has_end worker.FileFault ends then FileFailed
    else if has_end worker.Memory ends then OutOfMemory
    else if has_end worker.Spent ends then Exhausted
    else Done

-- .. if an allocation failed besides
abbrev pub with_memory : Verdict → Verdict
with_memory Done = OutOfMemory
with_memory NetworkFailed = NetworkFailed
with_memory FileFailed = FileFailed
with_memory OutOfMemory = OutOfMemory
with_memory Exhausted = OutOfMemory

abbrev pub verdict_status : Verdict → ℕ
verdict_status Done = 0
verdict_status NetworkFailed = 6
verdict_status FileFailed = 10
verdict_status OutOfMemory = 9
verdict_status Exhausted = 8

abbrev pub verdict_line : Verdict → List ℕ
verdict_line Done = []
verdict_line NetworkFailed = codes "network failed" ++ 10 ∷ []
verdict_line FileFailed = codes "file failed" ++ 10 ∷ []
verdict_line OutOfMemory = codes "memory" ++ 10 ∷ []
verdict_line Exhausted = codes "limit: requests" ++ 10 ∷ []
