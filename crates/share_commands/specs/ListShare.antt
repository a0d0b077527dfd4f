-- The command `list`: writes the full listing of a target of the share that is opened with the batch of the input; or
-- reports the first error of: the query, the names, the input's length, its records, how many lists they leave, and the
-- container.
use Rattle.std.specs.Prelude.{◌≡◌, ◌≢◌, ◌<◌, ◌≤◌, ◌⊎◌, ◌++◌, ◌∷◌, [], ℕ, List, length, Option, None, Some, true, false, codes, if◌then◌else◌}
use Rattle.std.specs.Io.KnownBytes.{Consumes, IsAtEnd}
use Rattle.dmap_tags.specs.Spelling.{spelling}
use Rattle.item_model.specs.declared.changes.Edit.{Edit}
use Rattle.item_model.specs.declared.changes.Entry.{Entry}
use Rattle.item_model.specs.declared.refusal.QueryError.TheVariants as query_error
use Rattle.item_model.specs.declared.request.Look.{Look}
use Rattle.item_model.specs.declared.request.Target.{Target}
use Rattle.share_history.specs.Bodies.{full_body}
use Rattle.share_history.specs.Histories.{opening}
use Rattle.share_history.specs.Limits.{has_few_lists}
use Rattle.share_history.specs.Rows.{is_there}
use Rattle.records_import.specs.declared.refusal.RecordError.TheVariants as records
use Rattle.fault_lines.specs.Queries.{query_line}
use Rattle.fault_lines.specs.Records.{records_line}
use Rattle.command_core.specs.declared.fault.Fault.{Fault}
use Rattle.command_core.specs.declared.fault.Fault.TheVariants as fault
use Rattle.command_core.specs.declared.outcome.Outcome.{Outcome}
use Rattle.command_core.specs.Answers.{WritesDone, WritesMemory}
use Rattle.command_core.specs.Seen.{InputSeen, OutputSeen, Seen, ShareSeen, no_share, share_with}
use Rattle.command_core.specs.Causes.{Cause, OfWords, OfInput, StopsBy}
use Rattle.command_core.specs.Meanings.{Meaning, writes_nothing_before, may_read, says_no_more}
use Rattle.share_commands.specs.declared.list.ListFault.{ListFault}
use Rattle.share_commands.specs.declared.list.ListFault.TheVariants.{Query, Meta, TooLong, Records, TooManyLists, NoList}
use Rattle.command_core.specs.declared.records.InputFault.{InputFault}
use Rattle.command_core.specs.declared.records.InputFault.TheVariants as unread
use Rattle.command_core.specs.ReadRecords.{records_limit, ReadsAs, IsRefused, LeavesMany}
use Rattle.share_commands.specs.Looks.{AsksLook, IsAsked, HasRefusal, IsMetaRefused}

-- the listing of a share that is opened with `edits`
abbrev pub listing_bytes : List Edit → Target → Look → List ℕ
listing_bytes edits target look = spelling (full_body (opening edits) target look)

-- the records leave no such container
pub record LacksTarget (target : Target) (input : List ℕ) : Type 0 where
  pub edits : List Edit
  pub reads : ReadsAs edits input
  pub few : has_few_lists [] edits ≡ true
  pub lacks : is_there edits target ≡ false

-- the records are the batch of a share that has the target
pub record IsShare (edits : List Edit) (target : Target) (input : List ℕ) : Type 0 where
  pub reads : ReadsAs edits input
  pub few : has_few_lists [] edits ≡ true
  pub there : is_there edits target ≡ true

-- the input was read to its end, without an error, as the batch with which the share was opened
pub record IsOpened (edits : List Edit) (target : Target) (before after : InputSeen) (share : ShareSeen) : Type 0 where
  pub bytes : List ℕ
  pub read : Consumes before.left after.left bytes
  pub end : IsAtEnd after.left
  pub faultless : after.faults ≡ before.faults
  pub of : IsShare edits target bytes
  pub opened : share ≡ share_with (opening edits)

-- .. and the output is the listing for the texts
pub record IsListed (query meta : Option (List ℕ)) (target : Target) (before after : InputSeen) (share : ShareSeen) (output : List ℕ) : Type 0 where
  pub look : Look
  pub edits : List Edit
  pub asked : AsksLook query meta look
  pub opened : IsOpened edits target before after share
  pub written : output ≡ listing_bytes edits target look

-- how `list` ends once a share is open: it writes the listing or the line of out of memory; the outcome has the history
abbrev pub WritesListing : (history : List Entry) → (listing : List ℕ) → OutputSeen → OutputSeen → Outcome → Type 0
WritesListing history listing before after outcome =
    WritesDone (Some history) listing before after outcome ⊎ WritesMemory (Some history) before after outcome

-- an error leaves no share; if an allocation fails for the listing, the share may be open
abbrev pub ListLeaves : Target → Seen → Seen → Fault ListFault → ShareSeen → Type 0
ListLeaves target before after (fault.Own own) share = share ≡ no_share
ListLeaves target before after fault.Read share = share ≡ no_share
ListLeaves target before after fault.Memory share = (share ≡ no_share) ⊎ ((edits : List Edit) × IsOpened edits target before.input after.input share)

abbrev pub list_line : ListFault → List ℕ
list_line (Query error) = query_line error
list_line Meta = codes "meta: too many names" ++ 10 ∷ []
list_line TooLong = codes "limit: input" ++ 10 ∷ []
list_line (Records error) = records_line error
list_line TooManyLists = codes "limit: library" ++ 10 ∷ []
list_line NoList = codes "list: none" ++ 10 ∷ []

abbrev pub list_status : ListFault → ℕ
list_status (Query error) = 3
list_status Meta = 3
list_status TooLong = 8
list_status (Records error) = 3
list_status TooManyLists = 8
list_status NoList = 3

abbrev pub list_cause : (query meta : Option (List ℕ)) → Target → ListFault → Cause
list_cause query meta target (Query error) = OfWords ((error ≢ query_error.Memory) × HasRefusal query error)
list_cause query meta target Meta = OfWords (IsMetaRefused query meta)
list_cause query meta target TooLong = OfInput (IsAsked query meta) (λ input. records_limit < length input)
list_cause query meta target (Records error) = OfInput (IsAsked query meta × (error ≢ records.Memory)) (IsRefused error)
list_cause query meta target TooManyLists = OfInput (IsAsked query meta) LeavesMany
list_cause query meta target NoList = OfInput (IsAsked query meta) (LacksTarget target)

-- the arguments are read, and the bytes are within the limit
abbrev pub ListReadsOn : (query meta : Option (List ℕ)) → List ℕ → Type 0
ListReadsOn query meta bytes = IsAsked query meta × (length bytes ≤ records_limit)

-- arguments and input with which `list` succeeds
pub record IsListable (query meta : Option (List ℕ)) (target : Target) (input : List ℕ) : Type 0 where
  pub asked : IsAsked query meta
  pub edits : List Edit
  pub of : IsShare edits target input

abbrev pub list_meaning : (query meta : Option (List ℕ)) → Target → Meaning
list_meaning query meta target = record {
  fault = ListFault;
  line = list_line;
  status = list_status;
  cause = list_cause query meta target;
  reads_on = ListReadsOn query meta;
  gives = IsListable query meta target;
  is_done = λ before after share output. IsListed query meta target before.input after.input share output;
  is_begun = λ before after share output. IsListed query meta target before.input after.input share output;
  is_front = writes_nothing_before;
  leaves = ListLeaves target;
  may_want = may_read;
  always = says_no_more;
}

-- why `list` stops before it opens a share; an allocation may fail at any time
abbrev pub StopsListing : (query meta : Option (List ℕ)) → Target → InputSeen → InputSeen → Fault ListFault → Type 0
StopsListing query meta target before after stop = StopsBy (list_cause query meta target) (ListReadsOn query meta) (Unit {0}) before after stop

-- .. before it reads any input, whatever that and the target are
abbrev pub StopsBeforeReading : (query meta : Option (List ℕ)) → Fault ListFault → Type 0
StopsBeforeReading query meta stop = (target : Target) (input : InputSeen) → StopsListing query meta target input input stop

-- .. once its arguments are read
abbrev pub StopsOpening : Target → InputSeen → InputSeen → Fault ListFault → Type 0
StopsOpening target before after stop = (query meta : Option (List ℕ)) → IsAsked query meta → StopsListing query meta target before after stop

-- the error of `list` for one of the input
abbrev pub input_fault : Fault InputFault → Fault ListFault
input_fault (fault.Own unread.TooLong) = fault.Own TooLong
input_fault (fault.Own (unread.Records error)) = fault.Own (Records error)
input_fault fault.Read = fault.Read
input_fault fault.Memory = fault.Memory

-- why the share of a batch is not listed
abbrev pub library_fault : List Edit → Target → Option ListFault
library_fault edits target =
    if has_few_lists [] edits then (if is_there edits target then None else Some NoList) else Some TooManyLists
