-- The command `rehearse`: made-up batches edit a share while mirrors follow it, and a summary is written.
use Rattle.std.specs.Prelude.{◌≡◌, ◌<◌, ◌≤◌, ◌*◌, ◌⊎◌, ◌++◌, ◌∷◌, [], ℕ, List, codes}
use Rattle.item_model.specs.declared.changes.Entry.{Entry}
use Rattle.share_history.specs.Numbers.{most_edits}
use Rattle.rehearsal.specs.Edits.{rehearsed}
use Rattle.rehearsal.specs.Histories.{HasFirst, history_of}
use Rattle.rehearsal.specs.Summary.{summary_text}
use Rattle.command_core.specs.declared.fault.Fault.{Fault}
use Rattle.command_core.specs.declared.fault.Fault.TheVariants as fault
use Rattle.command_core.specs.Seen.{InputSeen, Seen, ShareSeen, no_share, share_with, IsUnread}
use Rattle.command_core.specs.Causes.{Cause, OfWords}
use Rattle.command_core.specs.Meanings.{Meaning, writes_nothing_before, may_not_read, says_no_more}
use Rattle.share_commands.specs.declared.rehearse.RehearseFault.{RehearseFault}
use Rattle.share_commands.specs.declared.rehearse.RehearseFault.TheVariants.{TooMany}

-- the ranges of a rehearsal's numbers: the one that its batches are made from, the count of batches, the edits of each,
-- and the delta window of the share
pub record MayRehearse (number batches size keep : ℕ) : Type 0 where
  pub begins : number ≤ 2147483647
  pub some_batches : 1 ≤ batches
  pub few_batches : batches ≤ 65536
  pub some_edits : 1 ≤ size
  pub few_edits : size ≤ 256
  pub some_kept : 1 ≤ keep
  pub few_kept : keep ≤ 65536

-- the input is unchanged, there are not too many edits, the history of the share has the batches, and the output is
-- their summary
pub record IsRehearsed (number batches size keep : ℕ) (before after : InputSeen) (share : ShareSeen) (output : List ℕ) : Type 0 where
  pub unread : IsUnread before after
  pub within : batches * size ≤ most_edits
  pub opened : share ≡ share_with (history_of (rehearsed number batches size))
  pub written : output ≡ summary_text keep (rehearsed number batches size)

-- there are not too many edits, and the history of the share has the first batches, some or all
pub record HasBegun (number batches size : ℕ) (share : ShareSeen) : Type 0 where
  pub within : batches * size ≤ most_edits
  pub history : List Entry
  pub opened : share ≡ share_with history
  pub has : HasFirst (rehearsed number batches size) history

-- every run opens a share, unless there are too many edits
pub record OpensWithin (number batches size : ℕ) (share : ShareSeen) : Type 0 where
  pub few : batches * size ≤ most_edits → HasBegun number batches size share
  pub many : most_edits < batches * size → share ≡ no_share

-- an error leaves no share; if an allocation fails, the share may be open
abbrev pub RehearseLeaves : (number batches size : ℕ) → Seen → Seen → Fault RehearseFault → ShareSeen → Type 0
RehearseLeaves number batches size before after (fault.Own own) share = share ≡ no_share
RehearseLeaves number batches size before after fault.Read share = share ≡ no_share
RehearseLeaves number batches size before after fault.Memory share = (share ≡ no_share) ⊎ HasBegun number batches size share

abbrev pub rehearse_line : RehearseFault → List ℕ
rehearse_line TooMany = codes "limit: rehearsal" ++ 10 ∷ []

abbrev pub rehearse_status : RehearseFault → ℕ
rehearse_status TooMany = 8

abbrev pub rehearse_cause : (batches size : ℕ) → RehearseFault → Cause
rehearse_cause batches size TooMany = OfWords (most_edits < batches * size)

abbrev pub rehearse_meaning : (number batches size keep : ℕ) → Meaning
rehearse_meaning number batches size keep = record {
  fault = RehearseFault;
  line = rehearse_line;
  status = rehearse_status;
  cause = rehearse_cause batches size;
  reads_on = λ bytes. ⊥;
  gives = λ input. batches * size ≤ most_edits;
  is_done = λ before after share output. IsRehearsed number batches size keep before.input after.input share output;
  is_begun = λ before after share output. IsRehearsed number batches size keep before.input after.input share output;
  is_front = writes_nothing_before;
  leaves = RehearseLeaves number batches size;
  may_want = may_not_read;
  always = says_no_more;
}
