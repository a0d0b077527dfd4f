-- The command `codes`: the rows of the standard table of content codes, a line each.
use Rattle.std.specs.Prelude.{◌≡◌, ◌∷◌, ◌++◌, [], ℕ, List, flat_map, decimal}
use Rattle.code_table.specs.declared.row.CodeRow.{CodeRow}
use Rattle.code_table.specs.Reply.{type_of}
use Rattle.code_table.specs.Standard.{standard_rows}
use Rattle.dmap_show.specs.Shown.{shown_code}
use Rattle.command_core.specs.Seen.{InputSeen, ShareSeen, no_share, IsUnread}
use Rattle.command_core.specs.Meanings.{Meaning, writes_nothing_before, leaves_no_share, may_not_read, says_no_more}

-- the code as shown text has it, the number of the kind, and the name
abbrev pub code_line : CodeRow → List ℕ
code_line row = shown_code row.code ++ 32 ∷ decimal (type_of row.kind) ++ 32 ∷ row.name ++ 10 ∷ []

abbrev pub code_lines : List CodeRow → List ℕ
code_lines rows = flat_map code_line rows

-- the input is unchanged, and the output is the standard table
pub record IsTable (before after : InputSeen) (share : ShareSeen) (output : List ℕ) : Type 0 where
  pub unread : IsUnread before after
  pub unopened : share ≡ no_share
  pub written : output ≡ code_lines standard_rows

-- it has no error of its own
abbrev pub codes_meaning : Meaning
codes_meaning = record {
  fault = ⊥;
  line = λ own. absurd own;
  status = λ own. absurd own;
  cause = λ own. absurd own;
  reads_on = λ bytes. ⊥;
  gives = λ input. Unit {0};
  is_done = λ before after share output. IsTable before.input after.input share output;
  is_begun = λ before after share output. IsTable before.input after.input share output;
  is_front = writes_nothing_before;
  leaves = leaves_no_share;
  may_want = may_not_read;
  always = says_no_more;
}
