use Rattle.std.proofs.Common.{ℕ, List, sym, subst, ◌∙◌}
use Rattle.std.proofs.lemmas.Str.{is_utf8-from_IsUtf8}
use Rattle.code_table.specs.declared.row.CodeRow.{CodeRow}
use Rattle.dmap_show.specs.TextLines.{Explains}
use Rattle.tag_commands.specs.ShowBack.{IsTextFault}
use Rattle.tag_commands.proofs.Backed.{bad_byte, bad_line}
use Rattle.tag_commands.proofs.show_back.tags_shown.Goals as goal

pub returns-in-Err-clause-refused : goal.returns-in-Err-clause-refused
returns-in-Err-clause-refused c =
    bad_byte c.args.bytes.now c.line_at-line.result c.valid_up_to.result c.in-Err.ensures.cases.0 c.line_at-line.ensures
    (c.valid_up_to.ensures ∙ c.in-Err.ensures.valid_len)

pub returns-in-Ok-read_show-clause-text : goal.returns-in-Ok-read_show-clause-text
returns-in-Ok-read_show-clause-text c = is_utf8-from_IsUtf8 c.args.bytes.now c.in-Ok.ensures.cases.1

pub returns-clause-refused : goal.returns-clause-refused
returns-clause-refused c =
    let text = is_utf8-from_IsUtf8 c.args.bytes.now c.in-Ok.ensures.cases.1 in
    subst (IsTextFault c.args.bytes.now) (sym c.show_fault.ensures)
    (bad_line c.args.bytes.now c.in-Err-read_show.error text
    (subst (λ (bytes : List ℕ). Explains _ bytes c.in-Err-read_show.error) c.in-Ok.ensures.cases.0
    (subst (λ (rows : List CodeRow). Explains rows c.in-Ok.text.now c.in-Err-read_show.error) c.in_ok-table.ensures c.in-Err-read_show.ensures.refused)))
