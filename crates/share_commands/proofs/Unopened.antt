-- The causes of `list` if its input is not a batch, or if the share of the batch is not listed.
use Rattle.std.proofs.Common.{◌≡◌, ℕ, Bool, true, false, cond, List, [], Option, None, Some, unwrap_or, refl, sym, subst, ap}
use Rattle.item_model.specs.declared.changes.Edit.{Edit}
use Rattle.item_model.specs.declared.request.Target.{Target}
use Rattle.share_history.specs.Limits.{has_few_lists}
use Rattle.share_history.specs.Rows.{is_there}
use Rattle.command_core.specs.declared.fault.Fault.{Fault}
use Rattle.command_core.specs.declared.fault.Fault.TheVariants.{Own, Read, Memory}
use Rattle.command_core.specs.Seen.{InputSeen}
use Rattle.command_core.specs.Causes.{HasReadOn, StopsBy}
use Rattle.command_core.proofs.Reading.{all_read_on, of_input}
use Rattle.share_commands.specs.declared.list.ListFault.{ListFault}
use Rattle.share_commands.specs.declared.list.ListFault.TheVariants.{TooManyLists, NoList}
use Rattle.command_core.specs.declared.records.InputFault.{InputFault}
use Rattle.command_core.specs.declared.records.InputFault.TheVariants as unread
use Rattle.command_core.specs.ReadRecords.{HasReadAs, IsWithin, LeavesMany, ReadsAs, StopsReading}
use Rattle.share_commands.specs.Looks.{IsAsked}
use Rattle.share_commands.specs.ListShare.{LacksTarget, IsShare, list_cause, ListReadsOn, StopsOpening, input_fault, library_fault}

some_once : {A : Type 0} {x y : A} → Some x ≡ Some y → x ≡ y
some_once {x = x} h = ap (λ o. unwrap_or o x) h

-- once the arguments are read, the command reads the input
asked_on : (query meta : Option (List ℕ)) (before after : InputSeen) → IsAsked query meta → HasReadOn IsWithin before after → HasReadOn (ListReadsOn query meta) before after
asked_on query meta before after asked on = record { front = on.front; last = on.last; read = on.read; short = on.short; on = (asked, on.on) }

-- an input that is not a batch
pub unread_cause : (target : Target) (before after : InputSeen) (stop : Fault InputFault) → StopsReading before after stop → StopsOpening target before after (input_fault stop)
unread_cause target before after (Own unread.TooLong) cause = λ query meta asked. record {
  words = asked;
  said = cause.said;
  faultless = cause.faultless;
  read_on = asked_on query meta before after asked cause.read_on;
}
unread_cause target before after (Own (unread.Records error)) cause = λ query meta asked. record {
  words = (asked, cause.words);
  said = cause.said;
  faultless = cause.faultless;
  read_on = asked_on query meta before after asked cause.read_on;
}
unread_cause target before after Read cause = λ query meta asked. record { bytes = cause.bytes; read = cause.read; on = (asked, cause.on); rose = cause.rose }
unread_cause target before after Memory cause = λ query meta asked. tt

-- a batch whose share is not listed
unlisted_as : (target : Target) (before after : InputSeen) (edits : List Edit) (own : ListFault) → HasReadAs edits before after
    → (few there : Bool) → has_few_lists [] edits ≡ few → is_there edits target ≡ there
    → Some own ≡ cond few (cond there None (Some NoList)) (Some TooManyLists) → StopsOpening target before after (Own own)
unlisted_as target before after edits own read false there few is said = λ query meta asked.
    subst (λ (o : ListFault). StopsBy (list_cause query meta target) (ListReadsOn query meta) (Unit {0}) before after (Own o)) (sym (some_once said))
    (record {
      words = asked;
      said = of_input LeavesMany before.left after.left read.bytes read.read read.end (record { edits = edits; reads = read.of; many = few });
      faultless = read.faultless;
      read_on = all_read_on (ListReadsOn query meta) before after read.bytes read.read (asked, read.of.within);
    })
unlisted_as target before after edits own read true false few is said = λ query meta asked.
    subst (λ (o : ListFault). StopsBy (list_cause query meta target) (ListReadsOn query meta) (Unit {0}) before after (Own o)) (sym (some_once said))
    (record {
      words = asked;
      said = of_input (LacksTarget target) before.left after.left read.bytes read.read read.end (record { edits = edits; reads = read.of; few = few; lacks = is });
      faultless = read.faultless;
      read_on = all_read_on (ListReadsOn query meta) before after read.bytes read.read (asked, read.of.within);
    })
unlisted_as target before after edits own read true true few is said = absurd (cc)

pub library_cause : (target : Target) (before after : InputSeen) (edits : List Edit) (own : ListFault) → HasReadAs edits before after → Some own ≡ library_fault edits target → StopsOpening target before after (Own own)
library_cause target before after edits own read said =
    unlisted_as target before after edits own read (has_few_lists [] edits) (is_there edits target) refl refl said

-- a batch whose share is listed
listed_as : (target : Target) (bytes : List ℕ) (edits : List Edit) → ReadsAs edits bytes → (few there : Bool) → has_few_lists [] edits ≡ few → is_there edits target ≡ there
    → None ≡ cond few (cond there None (Some NoList)) (Some TooManyLists) → IsShare edits target bytes
listed_as target bytes edits reads true true few is said = record { reads = reads; few = few; there = is }
listed_as target bytes edits reads true false few is said = absurd (cc)
listed_as target bytes edits reads false there few is said = absurd (cc)

pub is_share : (target : Target) (bytes : List ℕ) (edits : List Edit) → ReadsAs edits bytes → None ≡ library_fault edits target → IsShare edits target bytes
is_share target bytes edits reads said = listed_as target bytes edits reads (has_few_lists [] edits) (is_there edits target) refl refl said
