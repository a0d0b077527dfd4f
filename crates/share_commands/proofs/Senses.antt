-- The specifications of the commands on a share are sensible: arguments and input have one status, and no error if the
-- command succeeds.
use Rattle.std.proofs.Common.{◌≡◌, ◌≢◌, ◌<◌, ◌≤◌, ◌*◌, ℕ, List, [], Option, Some, None, length, true, false, inl, refl, sym, subst, ap, ◌∙◌, arith}
use Rattle.std.proofs.lemmas.Bool.{false≢true}
use Rattle.item_model.specs.declared.changes.Edit.{Edit}
use Rattle.item_model.specs.declared.query.Query.{Query}
use Rattle.item_model.specs.declared.refusal.QueryError.{QueryError}
use Rattle.item_model.specs.declared.refusal.QueryError.TheVariants as query_error
use Rattle.item_model.specs.declared.request.Target.{Target}
use Rattle.share_history.specs.Limits.{has_few_lists}
use Rattle.share_history.specs.Rows.{is_there}
use Rattle.records_import.specs.Table.{table_of}
use Rattle.records_import.proofs.Once.{batch_same, batch_once}
use Rattle.song_query.proofs.Once.{answers_once}
use Rattle.command_core.specs.declared.fault.Fault.{Fault}
use Rattle.command_core.specs.declared.fault.Fault.TheVariants.{Own, Read, Memory}
use Rattle.command_core.specs.Seen.{Seen, ShareSeen, IsUnread}
use Rattle.command_core.specs.Causes.{HasCause}
use Rattle.command_core.specs.Meanings.{IsCause}
use Rattle.command_core.proofs.Reading.{read_whole}
use Rattle.command_core.proofs.Sensible.{WritesOnce}
use Rattle.share_commands.specs.declared.list.ListFault.{ListFault}
use Rattle.share_commands.specs.declared.list.ListFault.TheVariants.{Query as query_fault, Meta, TooLong, Records, TooManyLists, NoList}
use Rattle.share_commands.specs.declared.rehearse.RehearseFault.{RehearseFault}
use Rattle.share_commands.specs.declared.rehearse.RehearseFault.TheVariants.{TooMany}
use Rattle.share_commands.specs.Looks.{AsksQuery, IsAsked, HasRefusal, IsMetaRefused}
use Rattle.command_core.specs.ReadRecords.{records_limit, ReadsAs, LeavesMany}
use Rattle.share_commands.specs.ListShare.{IsShare, ListLeaves, IsListable, list_status, list_cause, list_meaning}
use Rattle.share_history.specs.Numbers.{most_edits}
use Rattle.share_commands.specs.RehearseShare.{RehearseLeaves, rehearse_status, rehearse_cause, rehearse_meaning}

-- ---- list

-- a text that is read is not refused
read_or_refused : (text : Option (List ℕ)) (asked : Option Query) (error : QueryError) → error ≢ query_error.Memory → AsksQuery text asked → HasRefusal text error → ⊥
read_or_refused None asked error cause reads refused = refused
read_or_refused (Some text) None error cause reads refused = reads
read_or_refused (Some text) (Some asked) error cause reads refused = answers_once text asked error cause reads refused

-- if both texts are read, neither is refused
query_is_read : (query meta : Option (List ℕ)) (error : QueryError) → IsAsked query meta → error ≢ query_error.Memory → HasRefusal query error → ⊥
query_is_read query meta error asked cause refused = read_or_refused query asked.0.query error cause asked.1.query refused

meta_is_read : (query meta : Option (List ℕ)) → IsAsked query meta → IsMetaRefused query meta → ⊥
meta_is_read query meta asked refused = let read = asked.1.meta in let many = refused.many in absurd (cc)

-- an input that is too long has no other error
long_only : (query meta : Option (List ℕ)) (target : Target) (input : List ℕ) (own : ListFault) → IsAsked query meta → records_limit < length input
    → HasCause (list_cause query meta target own) input → list_status own ≡ 8
long_only query meta target input (query_fault error) asked long says = absurd (query_is_read query meta error asked says.0 says.1)
long_only query meta target input Meta asked long says = absurd (meta_is_read query meta asked says)
long_only query meta target input TooLong asked long says = refl
long_only query meta target input (Records error) asked long says = let within = says.1.within in absurd (omega arith)
long_only query meta target input TooManyLists asked long says = refl
long_only query meta target input NoList asked long says = let within = says.1.reads.within in absurd (omega arith)

-- nor has one whose records leave too many lists
few_or_many_lists : (input : List ℕ) (edits others : List Edit) → ReadsAs edits input → ReadsAs others input → has_few_lists [] edits ≡ true → has_few_lists [] others ≡ false → ⊥
few_or_many_lists input edits others reads read few many =
    false≢true (sym many ∙ ap (has_few_lists []) (batch_same (table_of input) others edits read.read reads.read) ∙ few)

many_only : (query meta : Option (List ℕ)) (target : Target) (input : List ℕ) (own : ListFault) → IsAsked query meta → LeavesMany input
    → HasCause (list_cause query meta target own) input → list_status own ≡ 8
many_only query meta target input (query_fault error) asked many says = absurd (query_is_read query meta error asked says.0 says.1)
many_only query meta target input Meta asked many says = absurd (meta_is_read query meta asked says)
many_only query meta target input TooLong asked many says = refl
many_only query meta target input (Records error) asked many says = absurd (batch_once (table_of input) many.edits error many.reads.read says.1.refused)
many_only query meta target input TooManyLists asked many says = refl
many_only query meta target input NoList asked many says =
    let lacks = says.1 in absurd (few_or_many_lists input lacks.edits many.edits lacks.reads many.reads lacks.few many.many)

one_list_status : (query meta : Option (List ℕ)) (target : Target) (input : List ℕ) (one other : ListFault) → HasCause (list_cause query meta target one) input
    → HasCause (list_cause query meta target other) input → list_status one ≡ list_status other
one_list_status query meta target input TooLong other says said = sym (long_only query meta target input other says.0 says.1 said)
one_list_status query meta target input TooManyLists other says said = sym (many_only query meta target input other says.0 says.1 said)
one_list_status query meta target input one TooLong says said = long_only query meta target input one said.0 said.1 says
one_list_status query meta target input one TooManyLists says said = many_only query meta target input one said.0 said.1 says
one_list_status query meta target input one other _ _ = refl

no_list_fault : (query meta : Option (List ℕ)) (target : Target) (input : List ℕ) (own : ListFault) → HasCause (list_cause query meta target own) input → IsListable query meta target input → ⊥
no_list_fault query meta target input (query_fault error) says listable = query_is_read query meta error listable.asked says.0 says.1
no_list_fault query meta target input Meta says listable = meta_is_read query meta listable.asked says
no_list_fault query meta target input TooLong says listable = let within = listable.of.reads.within in let long = says.1 in absurd (omega arith)
no_list_fault query meta target input (Records error) says listable = batch_once (table_of input) listable.edits error listable.of.reads.read says.1.refused
no_list_fault query meta target input TooManyLists says listable =
    let many = says.1 in few_or_many_lists input listable.edits many.edits listable.of.reads many.reads listable.of.few many.many
no_list_fault query meta target input NoList says listable =
    let lacks = says.1 in
    false≢true (sym lacks.lacks ∙ ap (λ es. is_there es target) (batch_same (table_of input) lacks.edits listable.edits lacks.reads.read listable.of.reads.read) ∙ listable.of.there)

-- what another error leaves of a share, out of memory may leave too
leaves_less : (target : Target) (before after : Seen) (fault : Fault ListFault) (share : ShareSeen) → ListLeaves target before after fault share → ListLeaves target before after Memory share
leaves_less target before after (Own own) share h = inl h
leaves_less target before after Read share h = inl h
leaves_less target before after Memory share h = h

none_opened : (target : Target) (before after : Seen) (fault : Fault ListFault) → ListLeaves target before after fault (record { history = None })
none_opened target before after (Own own) = refl
none_opened target before after Read = refl
none_opened target before after Memory = inl refl

pub list_sense : (query meta : Option (List ℕ)) (target : Target) → WritesOnce (list_meaning query meta target)
list_sense query meta target = record {
  sensible = record {
    wants = λ before after fault cause. tt;
    wants_front = λ before after fault front h. h;
    wants_share = leaves_less target;
    idle = λ seen. tt;
    idle_front = λ seen. refl;
    idle_share = λ seen. inl refl;
    idle_always = λ told outcome same t. tt;
    one_status = one_list_status query meta target;
    not_both = no_list_fault query meta target;
    given = λ input before after share output told done. record {
      asked = (done.look, done.asked);
      edits = done.edits;
      of =
          subst (IsShare done.edits target)
          (sym (read_whole input done.opened.bytes before.input.left after.input.left told done.opened.read done.opened.end)) done.opened.of;
    };
  };
  begun = λ before after share output done. done;
  front = λ before after fault. refl;
  unopened = none_opened target;
  always = λ told outcome. tt;
}

-- ---- rehearse

-- however it ends, nothing was read
untouched : (number batches size keep : ℕ) (before after : Seen) (fault : Fault RehearseFault)
    → IsCause (rehearse_meaning number batches size keep) before after fault → IsUnread before.input after.input
untouched number batches size keep before after (Own TooMany) cause = cause.1
untouched number batches size keep before after Read cause = absurd cause.on
untouched number batches size keep before after Memory cause = cause

one_rehearse_status : (one other : RehearseFault) → rehearse_status one ≡ rehearse_status other
one_rehearse_status TooMany TooMany = refl

few_or_many : (batches size : ℕ) (input : List ℕ) (own : RehearseFault) → HasCause (rehearse_cause batches size own) input → batches * size ≤ most_edits → ⊥
few_or_many batches size input TooMany says within = omega (arith, within, says)

-- what another error leaves of a share, out of memory may leave too
begun_less : (number batches size : ℕ) (before after : Seen) (fault : Fault RehearseFault) (share : ShareSeen) → RehearseLeaves number batches size before after fault share
    → RehearseLeaves number batches size before after Memory share
begun_less number batches size before after (Own own) share h = inl h
begun_less number batches size before after Read share h = inl h
begun_less number batches size before after Memory share h = h

none_begun : (number batches size : ℕ) (before after : Seen) (fault : Fault RehearseFault) → RehearseLeaves number batches size before after fault (record { history = None })
none_begun number batches size before after (Own own) = refl
none_begun number batches size before after Read = refl
none_begun number batches size before after Memory = inl refl

pub rehearse_sense : (number batches size keep : ℕ) → WritesOnce (rehearse_meaning number batches size keep)
rehearse_sense number batches size keep = record {
  sensible = record {
    wants = untouched number batches size keep;
    wants_front = λ before after fault front h. h;
    wants_share = begun_less number batches size;
    idle = λ seen. record { left = refl; faults = refl };
    idle_front = λ seen. refl;
    idle_share = λ seen. inl refl;
    idle_always = λ told outcome same t. tt;
    one_status = λ input one other says said. one_rehearse_status one other;
    not_both = few_or_many batches size;
    given = λ input before after share output told done. done.within;
  };
  begun = λ before after share output done. done;
  front = λ before after fault. refl;
  unopened = none_begun number batches size;
  always = λ told outcome. tt;
}
