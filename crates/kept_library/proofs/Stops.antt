-- Why no share was opened: by its file, or by the batches that it has.
use Rattle.std.proofs.Common.{◌≡◌, ◌≢◌, ◌⊎◌, inl, inr, ◌++◌, ℕ, List, [], ◌∷◌, Option, Some, None, IfSome, Result, Ok, Err, IfErr, refl, sym, ap, ◌∙◌, subst}
use Rattle.std.specs.Result.{IsErrAnd}
use Rattle.item_model.specs.declared.changes.Edit.{Edit}
use Rattle.outside_disks.specs.Contents.{Contents}
use Rattle.command_core.specs.declared.fault.Fault.{Fault}
use Rattle.command_core.specs.declared.fault.Fault.TheVariants as fault
use Rattle.edit_file.specs.Standing.{BreaksAt}
use Rattle.edit_file.proofs.Once.{one_list}
use Rattle.edit_file.specs.declared.refusal.FileError.{FileError}
use Rattle.edit_file.specs.declared.refusal.FileError.TheVariants as refusal
use Rattle.share_history.specs.Histories.{batches}
use Rattle.share_replies.specs.Answers.{Shared}
use Rattle.share_replies.specs.Settings.{Settings}
use Rattle.share_core.specs.Opened.{if_filled}
use Rattle.share_core.proofs.Opening.{batches-opened}
use Rattle.kept_library.specs.Faults.{file_fault}
use Rattle.kept_library.specs.Closing.{LeavesAt, PutsBytes, PutsBatches}
use Rattle.kept_library.specs.Opening.{CountsFault, CountsStop, LeavesFirst, LeavesRefused, LeavesStanding, StandsAt, StopsOpening, StopsShare, bytes_at, share_of}
use Rattle.kept_library.specs.declared.fault.FileFault.{FileFault}
use Rattle.kept_library.specs.declared.fault.FileFault.TheVariants.{NotEditFile, Failed, TooManyEdits, TooManyLists}

pub stops_file : (contents : Option Contents) (path : List ℕ) (first : List Edit) (error : FileError)
    → ((at : ℕ) → error ≡ refusal.NotEditFile at → IfSome contents (λ c. BreaksAt (bytes_at c path) at)) → StopsOpening contents path first (file_fault error)
stops_file contents path first (refusal.NotEditFile at) breaks = breaks at refl
stops_file contents path first refusal.Failed breaks = tt
stops_file contents path first refusal.Memory breaks = tt

pub stops_share : (contents : Option Contents) (path : List ℕ) (first : List Edit) (bs : List (List Edit)) (stop : Fault FileFault) → StandsAt contents path bs
    → StopsShare (bs ++ if_filled first) stop → StopsOpening contents path first stop
stops_share contents path first bs (fault.Own (NotEditFile at)) stood stops = absurd stops
stops_share contents path first bs (fault.Own Failed) stood stops = tt
stops_share contents path first bs (fault.Own TooManyEdits) stood stops = record { before = bs; stood = stood; many = stops }
stops_share contents path first bs (fault.Own TooManyLists) stood stops = record { before = bs; stood = stood; many = stops }
stops_share contents path first bs fault.Read stood stops = absurd stops
stops_share contents path first bs fault.Memory stood stops = tt

-- ---- what a refusal leaves

-- the same bytes represent the same batches
same_stands : (before now : Option Contents) (path : List ℕ) → IfSome before (λ c. PutsBytes path (bytes_at c path) c now) → LeavesStanding path before now
same_stands None now path puts bs stands = tt
same_stands (Some c) now path puts bs stands = record { bytes = bytes_at c path; stands = stands; told = puts }

-- bytes represent at most one list of batches
stands_still : (before now : Option Contents) (path : List ℕ) (bs : List (List Edit)) → StandsAt before path bs → LeavesAt path bs before now → LeavesStanding path before now
stands_still None now path bs stood left other stands = tt
stands_still (Some c) now path bs stood left other stands = subst (λ l. PutsBatches path l c now) (one_list (bytes_at c path) bs other stood stands) left

-- a call failed, but not the append
failed_standing : (before now : Option Contents) (path : List ℕ) (first : List Edit) → LeavesStanding path before now → (now ≡ before) ⊎ LeavesFirst path first before now
failed_standing before now path first left = inr (λ bs stood. inl (left bs stood))

-- .. or the append
failed_first : (before now : Option Contents) (path : List ℕ) (first : List Edit) (bs : List (List Edit)) → StandsAt before path bs
    → LeavesAt path bs before now ⊎ LeavesAt path (bs ++ if_filled first) before now → (now ≡ before) ⊎ LeavesFirst path first before now
failed_first None now path first bs stood left = inr (λ other stands. inl tt)
failed_first (Some c) now path first bs stood left =
    inr (λ other stands. subst (λ l. LeavesAt path l (Some c) now ⊎ LeavesAt path (l ++ if_filled first) (Some c) now) (one_list (bytes_at c path) bs other stood stands) left)

pub leaves_file : (before now : Option Contents) (path : List ℕ) (first : List Edit) (error : FileError)
    → (error ≢ refusal.Failed → IfSome before (λ c. PutsBytes path (bytes_at c path) c now)) → LeavesStanding path before now → LeavesRefused before now path first (file_fault error)
leaves_file before now path first (refusal.NotEditFile at) same left = same (λ is. absurd (cc))
leaves_file before now path first refusal.Failed same left = failed_standing before now path first left
leaves_file before now path first refusal.Memory same left = same_stands before now path (same (λ is. absurd (cc)))

pub leaves_share : (before now : Option Contents) (path : List ℕ) (first : List Edit) (bs all : List (List Edit)) (stop : Fault FileFault) → StandsAt before path bs → StopsShare all stop
    → LeavesAt path bs before now ⊎ ((stop ≡ fault.Own Failed) × (LeavesAt path bs before now ⊎ LeavesAt path (bs ++ if_filled first) before now)) → LeavesRefused before now path first stop
leaves_share before now path first bs all (fault.Own (NotEditFile at)) stood stops left = absurd stops
leaves_share before now path first bs all (fault.Own Failed) stood stops (inl left) = failed_first before now path first bs stood (inl left)
leaves_share before now path first bs all (fault.Own Failed) stood stops (inr failed) = failed_first before now path first bs stood failed.1
leaves_share before now path first bs all (fault.Own TooManyEdits) stood stops (inl left) = record { batches = bs; stood = stood; left = left }
leaves_share before now path first bs all (fault.Own TooManyEdits) stood stops (inr failed) = absurd (let is : fault.Own TooManyEdits ≡ fault.Own Failed = failed.0 in cc)
leaves_share before now path first bs all (fault.Own TooManyLists) stood stops (inl left) = record { batches = bs; stood = stood; left = left }
leaves_share before now path first bs all (fault.Own TooManyLists) stood stops (inr failed) = absurd (let is : fault.Own TooManyLists ≡ fault.Own Failed = failed.0 in cc)
leaves_share before now path first bs all fault.Read stood stops left = tt
leaves_share before now path first bs all fault.Memory stood stops (inl left) = stands_still before now path bs stood left
leaves_share before now path first bs all fault.Memory stood stops (inr failed) = absurd (let is : fault.Memory ≡ fault.Own Failed = failed.0 in cc)

-- a refusal that does not come from a call on the file leaves the error counter unchanged
pub counts_nothing : {T : Type 0} (n : ℕ) (r : Result T (Fault FileFault)) → IfErr r (CountsFault n n) → CountsStop n n r
counts_nothing n (Ok x) counted = refl
counts_nothing n (Err stop) counted = counted

-- .. also if it is passed on
pub counts_same : {T : Type 0} (n : ℕ) (r : Result T (Fault FileFault)) (stop : Fault FileFault) → IsErrAnd r (λ e. e ≡ stop) → CountsFault n n stop → CountsStop n n r
counts_same n (Ok x) stop is counted = absurd is
counts_same n (Err e) stop is counted = subst (CountsFault n n) (sym is) counted

-- a share that begins with batches has them in its history
pub batches_of_share : (settings : Settings) (bs : List (List Edit)) (share : Shared) → share ≡ share_of settings bs → batches share.history ≡ bs
batches_of_share settings bs share is = ap (λ (s : Shared). batches s.history) is ∙ batches-opened bs

-- a batch that has edits is the one batch
pub filled_is : (es : List Edit) → es ≢ [] → if_filled es ≡ es ∷ []
filled_is [] some = absurd (some refl)
filled_is (e ∷ es) some = refl
