-- The command `check`: how many top tags the input's bytes are, or the first error in them.
use Rattle.std.specs.Prelude.{◌≡◌, ◌++◌, ◌∷◌, [], ℕ, List, length, codes, decimal}
use Rattle.dmap_tags.specs.Tree.{Tree}
use Rattle.command_core.specs.Seen.{InputSeen, ShareSeen, no_share}
use Rattle.command_core.specs.Meanings.{Meaning, writes_nothing_before, leaves_no_share, may_read, says_no_more}
use Rattle.tag_commands.specs.declared.tags_fault.TagsFault.{TagsFault}
use Rattle.tag_commands.specs.TopTags.{HasReadTags, IsSound, IsSoundSoFar, tags_line, tags_status, tags_cause}

-- the line that states a number of tags and of bytes
abbrev pub check_line : (tags bytes : ℕ) → List ℕ
check_line tags bytes = codes "ok " ++ decimal tags ++ codes " tags " ++ decimal bytes ++ codes " bytes" ++ 10 ∷ []

abbrev pub check_text : List Tree → List ℕ → List ℕ
check_text tags bytes = check_line (length tags) (length bytes)

-- the input was read to its end, without an error, and is tags, which the output counts
pub record IsChecked (before after : InputSeen) (share : ShareSeen) (output : List ℕ) : Type 0 where
  pub input : HasReadTags before after
  pub unopened : share ≡ no_share
  pub written : output ≡ check_text input.tags input.bytes

abbrev pub check_meaning : Meaning
check_meaning = record {
  fault = TagsFault;
  line = tags_line;
  status = tags_status;
  cause = tags_cause;
  reads_on = IsSoundSoFar;
  gives = IsSound;
  is_done = λ before after share output. IsChecked before.input after.input share output;
  is_begun = λ before after share output. IsChecked before.input after.input share output;
  is_front = writes_nothing_before;
  leaves = leaves_no_share;
  may_want = may_read;
  always = says_no_more;
}
