-- What the history of a share keeps of an input that `edit` pushed over a connection of the share.
use Rattle.std.specs.Prelude.{◌≡◌, ◌⊎◌, ⊤, ℕ, List, [], ◌∷◌, ◌++◌, Bool, true, false, codes, Ok, Err}
use Rattle.std.specs.List.{AllByRecursion}
use Rattle.item_model.specs.declared.changes.Edit.{Edit}
use Rattle.item_model.specs.declared.changes.Entry.{Entry}
use Rattle.item_model.specs.declared.changes.Entry.TheVariants.{Edits, Stop}
use Rattle.records_import.specs.Records.{BatchReads}
use Rattle.records_import.specs.Table.{table_of}
use Rattle.records_import.specs.declared.refusal.RecordError.{RecordError}
use Rattle.fault_lines.specs.Records.{records_line}
use Rattle.share_history.specs.Histories.{batches, revision}
use Rattle.share_history.specs.Limits.{takes_batch}
use Rattle.share_history.specs.Sessions.{is_stopped}
use Rattle.share_server.specs.declared.report.LinkReport.{LinkReport}
use Rattle.share_server.specs.declared.report.Served.{Served}
use Rattle.share_server.specs.Served.{at_point}
use Rattle.command_core.specs.declared.fault.Fault.{Fault}
use Rattle.command_core.specs.declared.fault.Fault.TheVariants.{Own}
use Rattle.command_core.specs.Endings.{IsCut, IsWritten}
use Rattle.command_core.specs.Faults.{fault_line, fault_status}
use Rattle.command_core.specs.Seen.{IsUnread, Run}
use Rattle.mirror_client.specs.declared.pushing.Pushed.{Pushed}
use Rattle.mirror_client.specs.declared.pushing.Pushed.TheVariants as pushed
use Rattle.link_commands.specs.declared.edit.EditFault.{EditFault}
use Rattle.link_commands.specs.declared.edit.EditFault.TheVariants as edit_fault
use Rattle.link_commands.specs.EditShare.{HasReadAll, edit_line, edit_status, number_line}

-- The only request on the connection added the batch that the bytes read as, and revision `n` is the one that it made.
pub record IsKeptAt (report : LinkReport) (h : List Entry) (bytes : List ℕ) (n : ℕ) : Type 0 where
  pub batch : List Edit
  pub reads : BatchReads (table_of bytes) (Ok batch)
  pub served : Served
  pub only : report.served ≡ served ∷ []
  pub before : List Entry
  pub added : at_point h served ≡ before ++ Edits report.number batch ∷ []
  pub later : List Entry
  pub begins : h ≡ at_point h served ++ later
  pub made : n ≡ revision (batches (at_point h served))

-- The only request on the connection stopped the share.
pub record IsStoppedBy (report : LinkReport) (h : List Entry) : Type 0 where
  pub served : Served
  pub only : report.served ≡ served ∷ []
  pub before : List Entry
  pub added : at_point h served ≡ before ++ Stop report.number ∷ []
  pub later : List Entry
  pub begins : h ≡ at_point h served ++ later

-- No answer on the connection added an entry. An edit that the share could not write to its file has no answer, and the
-- share stops after it.
abbrev pub AddedNothing : LinkReport → Type 0
AddedNothing report = AllByRecursion (λ served. served.added ≡ false) report.served

-- With the batch the share would have been over one of its limits, at a length of its history.
pub record IsFullFor (h : List Entry) (batch : List Edit) : Type 0 where
  pub point : List Entry
  pub later : List Entry
  pub begins : h ≡ point ++ later
  pub full : takes_batch point batch ≡ false

-- What is true of pushed bytes, by what `edit` makes of the reply. If they were refused, nothing was added: with status
-- 400 their records have an error, which the text tells, with 507 the share was full, and with 503 it was stopped.
abbrev pub IsTrueOfEdit : LinkReport → List Entry → List ℕ → Pushed → Type 0
IsTrueOfEdit report h bytes (pushed.Revision n) = IsKeptAt report h bytes n
IsTrueOfEdit report h bytes pushed.Unchanged = BatchReads (table_of bytes) (Ok []) × AddedNothing report
IsTrueOfEdit report h bytes pushed.Stopped = ⊥
IsTrueOfEdit report h bytes (pushed.Refused status text) =
    AddedNothing report
    × (status ≡ 400 → (error : RecordError) × BatchReads (table_of bytes) (Err error) × (text ≡ records_line error))
    × (status ≡ 507 → (batch : List Edit) × BatchReads (table_of bytes) (Ok batch) × IsFullFor h batch)
    × (status ≡ 503 → is_stopped h ≡ true)

-- The same for a stop.
abbrev pub IsTrueOfStop : LinkReport → List Entry → Pushed → Type 0
IsTrueOfStop report h (pushed.Revision n) = ⊥
IsTrueOfStop report h pushed.Unchanged = ⊥
IsTrueOfStop report h pushed.Stopped = IsStoppedBy report h
IsTrueOfStop report h (pushed.Refused status text) = AddedNothing report × (status ≡ 503 → is_stopped h ≡ true)

-- `edit` read its whole input, or for a stop none of it, and this is true of what it pushed.
abbrev pub IsTrue : (stop : Bool) → LinkReport → List Entry → Run → Pushed → Type 0
IsTrue true report h seen made = IsUnread seen.before.input seen.after.input × IsTrueOfStop report h made
IsTrue false report h seen made = (bytes : List ℕ) × HasReadAll seen.before.input seen.after.input bytes × IsTrueOfEdit report h bytes made

-- the line of it, and the status
abbrev pub line_of : Pushed → List ℕ
line_of (pushed.Revision n) = number_line (codes "revision ") n
line_of pushed.Unchanged = codes "unchanged" ++ 10 ∷ []
line_of pushed.Stopped = codes "stopped" ++ 10 ∷ []
line_of (pushed.Refused status text) = edit_line (edit_fault.Refused status text)

abbrev pub status_of : Pushed → ℕ
status_of (pushed.Revision n) = 0
status_of pushed.Unchanged = 0
status_of pushed.Stopped = 0
status_of (pushed.Refused status text) = 7

-- an error of another kind than a refusal by the share
abbrev pub IsOther : Fault EditFault → Type 0
IsOther (Own (edit_fault.Refused status text)) = ⊥
IsOther other = ⊤

-- What `edit` wrote is the line of what the share made of it, which is true, or that of another error; or a prefix of
-- the line, if its output failed.
pub data TellsOf (stop : Bool) (report : LinkReport) (h : List Entry) (seen : Run) (status : ℕ) : Type 0 where
  made : (made : Pushed) → IsTrue stop report h seen made → IsWritten seen.output_before seen.output_after (line_of made)
      → status ≡ status_of made → TellsOf stop report h seen status
  made_cut : (made : Pushed) → IsTrue stop report h seen made → IsCut seen.output_before seen.output_after (line_of made)
      → status ≡ 5 → TellsOf stop report h seen status
  failed : (fault : Fault EditFault) → IsOther fault → IsWritten seen.output_before seen.output_after (fault_line edit_line fault)
      → status ≡ fault_status edit_status fault → TellsOf stop report h seen status
  failed_cut : (fault : Fault EditFault) → IsOther fault → IsCut seen.output_before seen.output_after (fault_line edit_line fault)
      → status ≡ 5 → TellsOf stop report h seen status

-- The answers on the connection added all of what was pushed, once, or nothing.
abbrev pub IsAllOrNothing : (stop : Bool) → LinkReport → List Entry → Run → Type 0
IsAllOrNothing true report h seen = AddedNothing report ⊎ IsStoppedBy report h
IsAllOrNothing false report h seen =
    AddedNothing report ⊎ ((bytes : List ℕ) × (n : ℕ) × HasReadAll seen.before.input seen.after.input bytes × IsKeptAt report h bytes n)

-- `edit` read its whole input and wrote what the share made of it: the revision that the batch made, or that the input
-- has no edits.
pub data Acknowledges (report : LinkReport) (h : List Entry) (seen : Run) : Type 0 where
  kept : (n : ℕ) (bytes : List ℕ) → HasReadAll seen.before.input seen.after.input bytes → IsKeptAt report h bytes n
      → IsWritten seen.output_before seen.output_after (number_line (codes "revision ") n) → Acknowledges report h seen
  unchanged : (bytes : List ℕ) → HasReadAll seen.before.input seen.after.input bytes → BatchReads (table_of bytes) (Ok []) → AddedNothing report
      → IsWritten seen.output_before seen.output_after (codes "unchanged" ++ 10 ∷ []) → Acknowledges report h seen
