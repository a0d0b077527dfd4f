-- Arguments that are not a command's: they get the usage text.
use Rattle.std.specs.Prelude.{ℕ, List}
use Rattle.command_core.specs.Causes.{Cause, OfWords}
use Rattle.command_core.specs.Meanings.{Meaning, writes_nothing_before, leaves_no_share, may_not_read, says_no_more}
use Rattle.daapshare_words.specs.Usage.{usage_text}
use Rattle.command_runs.specs.declared.usage.UsageFault.{UsageFault}

abbrev pub usage_line : UsageFault → List ℕ
usage_line own = usage_text

abbrev pub usage_status : UsageFault → ℕ
usage_status own = 2

abbrev pub usage_cause : UsageFault → Cause
usage_cause own = OfWords (Unit {0})

-- nothing is read, and nothing is done
abbrev pub usage_meaning : Meaning
usage_meaning = record {
  fault = UsageFault;
  line = usage_line;
  status = usage_status;
  cause = usage_cause;
  reads_on = λ bytes. ⊥;
  gives = λ input. ⊥;
  is_done = λ before after share output. ⊥;
  is_begun = λ before after share output. ⊥;
  is_front = writes_nothing_before;
  leaves = leaves_no_share;
  may_want = may_not_read;
  always = says_no_more;
}
