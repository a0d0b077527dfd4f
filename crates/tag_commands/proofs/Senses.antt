-- What the specifications of the commands on tags have to meet: arguments and an input have one status, and no error if
-- the command is done.
use Rattle.std.proofs.Common.{◌≡◌, ℕ, List, [], Some, Ok, Err, true, false, inl, inr, refl, sym, subst, ap, ◌∙◌, arith}
use Rattle.std.proofs.lemmas.List.{take_all}
use Rattle.dmap_tags.specs.Tree.{Tree}
use Rattle.code_table.specs.declared.reply.CodeError.{CodeError}
use Rattle.code_table.specs.declared.row.CodeRow.{CodeRow}
use Rattle.code_table.specs.Reply.{table_of}
use Rattle.code_table.specs.Standard.{standard_rows}
use Rattle.dmap_show.proofs.Once.{shown_once}
use Rattle.dmap_stream.proofs.OneTag.{one_tag}
use Rattle.dmap_stream.specs.Walk.{Walk, between, inside, broken}
use Rattle.dmap_stream.specs.declared.refusal.StreamError.{StreamError}
use Rattle.command_core.specs.declared.fault.Fault.{Fault}
use Rattle.command_core.specs.declared.fault.Fault.TheVariants.{Own, Read, Memory}
use Rattle.command_core.specs.Seen.{Seen, ShareSeen, IsUnread}
use Rattle.command_core.specs.Causes.{HasCause}
use Rattle.command_core.specs.Meanings.{Meaning, IsCause, leaves_no_share, may_read, says_no_more, writes_nothing_before}
use Rattle.command_core.proofs.Reading.{read_whole}
use Rattle.command_core.proofs.Sensible.{IsSensible, WritesOnce}
use Rattle.tag_commands.specs.declared.tags_fault.TagsFault.{TagsFault}
use Rattle.tag_commands.specs.declared.tags_fault.TagsFault.TheVariants as tags
use Rattle.tag_commands.specs.declared.show_back.TextFault.{TextFault}
use Rattle.tag_commands.specs.declared.show_back.TextFault.TheVariants as text
use Rattle.tag_commands.specs.declared.learn.LearnFault.{LearnFault}
use Rattle.tag_commands.specs.declared.learn.LearnFault.TheVariants as learn
use Rattle.tag_commands.specs.TopTags.{tags_limit, tag_limit, walk_of_tags, IsSound, HasTagFault, IsTooLong, tags_status, tags_cause}
use Rattle.tag_commands.specs.Check.{check_meaning}
use Rattle.tag_commands.specs.Show.{show_meaning}
use Rattle.tag_commands.specs.ShowBack.{ShowsBack, StopsOn, text_status, text_cause, show_back_meaning}
use Rattle.tag_commands.specs.Codes.{codes_meaning}
use Rattle.tag_commands.specs.LearnCodes.{IsReply, StatesNoTable, IsReplyRefused, learn_cause, learn_meaning}
use Rattle.tag_commands.proofs.InStep.{step_idle}
use Rattle.tag_commands.proofs.Showing.{show_nothing}
use Rattle.tag_commands.proofs.Tagged.{tags_walked}

-- ---- commands that read their input, write once, at its end, and open no share

abbrev pub reading : Meaning → Meaning
reading m = record m { is_begun = m.is_done; is_front = writes_nothing_before; leaves = leaves_no_share; may_want = may_read; always = says_no_more }

pub reads_once : (m : Meaning) → ((input : List ℕ) (one other : m.fault) → HasCause (m.cause one) input → HasCause (m.cause other) input → m.status one ≡ m.status other)
    → ((input : List ℕ) (own : m.fault) → HasCause (m.cause own) input → m.gives input → ⊥)
    → ((input : List ℕ) (before after : Seen) (share : ShareSeen) (output : List ℕ) → before.input.left ≡ Some input → m.is_done before after share output → m.gives input)
    → WritesOnce (reading m)
reads_once m one_status not_both given = record {
  sensible = record {
    wants = λ before after fault cause. tt;
    wants_front = λ before after fault front h. h;
    wants_share = λ before after fault share h. h;
    idle = λ seen. tt;
    idle_front = λ seen. refl;
    idle_share = λ seen. refl;
    idle_always = λ told outcome same t. tt;
    one_status = one_status;
    not_both = not_both;
    given = given;
  };
  begun = λ before after share output done. done;
  front = λ before after fault. refl;
  unopened = λ before after fault. refl;
  always = λ told outcome. tt;
}

-- ---- check and show

-- bytes that are too long have no malformed tag in those that are read
long_or_faulty : (input : List ℕ) (error : StreamError) → HasTagFault error input → IsTooLong input → ⊥
long_or_faulty input error (inl shown) too_long = too_long.sound error shown
long_or_faulty input error (inr cut) too_long = let within = cut.within in let long = too_long.long in absurd (omega arith)

one_tags_status : (input : List ℕ) (one other : TagsFault) → HasCause (tags_cause one) input → HasCause (tags_cause other) input → tags_status one ≡ tags_status other
one_tags_status input (tags.Broken error) (tags.Broken more) says said = refl
one_tags_status input (tags.Broken error) tags.TooLong says said = absurd (long_or_faulty input error says.1 said.1)
one_tags_status input tags.TooLong (tags.Broken error) says said = absurd (long_or_faulty input error said.1 says.1)
one_tags_status input tags.TooLong tags.TooLong says said = refl

-- tags end between two of them
ends_between : (input : List ℕ) → IsSound input → (walk_of_tags input).ending ≡ between
ends_between input sound = ap (λ (w : Walk). w.ending) (tags_walked sound.1.0 input sound.1.1)

-- so they have no error
sound_or_faulty : (input : List ℕ) (error : StreamError) → IsSound input → HasTagFault error input → ⊥
sound_or_faulty input error sound (inl shown) =
    let ending : between ≡ broken error =
    sym (ends_between input sound) ∙ ap (λ bytes. (walk_of_tags bytes).ending) (sym (take_all tags_limit input sound.0)) ∙ shown in absurd (cc)
sound_or_faulty input error sound (inr cut) = let ending : between ≡ inside = sym (ends_between input sound) ∙ cut.ending in absurd (cc)

no_tags_fault : (input : List ℕ) (own : TagsFault) → HasCause (tags_cause own) input → IsSound input → ⊥
no_tags_fault input (tags.Broken error) says sound = sound_or_faulty input error sound says.1
no_tags_fault input tags.TooLong says sound = let within = sound.0 in let long = says.1.long in absurd (omega arith)

pub check_sense : WritesOnce check_meaning
check_sense = reads_once check_meaning one_tags_status no_tags_fault (λ input before after share output told done.
    subst IsSound (sym (read_whole input done.input.bytes before.input.left after.input.left told done.input.read done.input.end)) (done.input.within, (done.input.tags, done.input.sound)))

pub show_sense : IsSensible show_meaning
show_sense = record {
  wants = λ before after fault cause. tt;
  wants_front = λ before after fault front h. record { some = h.some; all = tt };
  wants_share = λ before after fault share h. h;
  idle = λ seen. tt;
  idle_front = λ seen. show_nothing seen.input;
  idle_share = λ seen. refl;
  idle_always = step_idle;
  one_status = one_tags_status;
  not_both = no_tags_fault;
  given = λ input before after share output told done.
      subst IsSound (sym (read_whole input done.input.bytes before.input.left after.input.left told done.input.read done.input.end)) (done.input.within, (done.input.tags, done.input.sound));
}

-- ---- show --back

-- a text within the limit is not too long
one_text_status : (input : List ℕ) (one other : TextFault) → HasCause (text_cause one) input → HasCause (text_cause other) input → text_status one ≡ text_status other
one_text_status input (text.Line line) (text.Line more) says said = refl
one_text_status input (text.Line line) text.TooLong says said = let within = says.1.within in let long = said.1 in absurd (omega arith)
one_text_status input text.TooLong (text.Line line) says said = let within = said.1.within in let long = says.1 in absurd (omega arith)
one_text_status input text.TooLong text.TooLong says said = refl

-- a text that shows tags stops on no line
stops_not : (input : List ℕ) (tags : List Tree) (line : ℕ) → ShowsBack tags input → StopsOn line input → ⊥
stops_not input tags line back (inl bad) = let same : true ≡ false = sym back.text ∙ bad.0 in absurd (cc)
stops_not input tags line back (inr bad) = shown_once standard_rows input bad.1.0 tags bad.1.1.1 back.shows

no_text_fault : (input : List ℕ) (own : TextFault) → HasCause (text_cause own) input → ((tags : List Tree) × ShowsBack tags input) → ⊥
no_text_fault input (text.Line line) says back = stops_not input back.0 line back.1 says.1.stops
no_text_fault input text.TooLong says back = let within = back.1.within in let long = says.1 in absurd (omega arith)

pub show_back_sense : WritesOnce show_back_meaning
show_back_sense = reads_once show_back_meaning one_text_status no_text_fault (λ input before after share output told done.
    (done.tags, subst (ShowsBack done.tags) (sym (read_whole input done.bytes before.input.left after.input.left told done.read done.end)) done.back))

-- ---- codes

-- whatever ends it, nothing was read
untouched : (before after : Seen) (fault : Fault ⊥) → IsCause codes_meaning before after fault → IsUnread before.input after.input
untouched before after (Own own) cause = absurd own
untouched before after Read cause = absurd cause.on
untouched before after Memory cause = cause

pub codes_sense : WritesOnce codes_meaning
codes_sense = record {
  sensible = record {
    wants = untouched;
    wants_front = λ before after fault front h. h;
    wants_share = λ before after fault share h. h;
    idle = λ seen. record { left = refl; faults = refl };
    idle_front = λ seen. refl;
    idle_share = λ seen. refl;
    idle_always = λ told outcome same t. tt;
    one_status = λ input one other says said. absurd one;
    not_both = λ input own says gives. absurd own;
    given = λ input before after share output told done. tt;
  };
  begun = λ before after share output done. done;
  front = λ before after fault. refl;
  unopened = λ before after fault. refl;
  always = λ told outcome. tt;
}

-- ---- codes --learn

-- there is no cause to refuse a reply whose only tag is a table and is the whole input
tells_not : (rows : List CodeRow) (error : CodeError) (tag : Tree) (rest : List ℕ) → table_of tag ≡ Ok rows → rest ≡ [] → StatesNoTable error tag rest → ⊥
tells_not rows error tag rest told none (inl bad) = let same : Ok rows ≡ Err error = sym told ∙ bad in absurd (cc)
tells_not rows error tag rest told none (inr bad) = bad.1.0 none

reply_or_refused : (input : List ℕ) (rows : List CodeRow) (error : CodeError) → IsReply rows input → IsReplyRefused error input → ⊥
reply_or_refused input rows error told refused =
    let one = one_tag standard_rows tag_limit told.tag refused.tag [] refused.rest (omega arith) told.whole.accepted told.whole.proper
    refused.whole.accepted refused.whole.proper (sym told.whole.spelled ∙ refused.whole.spelled) in
    tells_not rows error refused.tag refused.rest (ap table_of (sym one.0) ∙ told.told) (sym one.1) refused.refused

no_learn_fault : (input : List ℕ) (own : LearnFault) → HasCause (learn_cause own) input → ((rows : List CodeRow) × IsReply rows input) → ⊥
no_learn_fault input (learn.Broken error) says told = says.1.none told.1.tag [] told.1.whole
no_learn_fault input (learn.Table error) says told = reply_or_refused input told.0 error told.1 says.1

pub learn_sense : WritesOnce learn_meaning
learn_sense = reads_once learn_meaning (λ input one other says said. refl) no_learn_fault (λ input before after share output told done.
    (done.rows, subst (IsReply done.rows) (sym (read_whole input done.bytes before.input.left after.input.left told done.read done.end)) done.reply))
