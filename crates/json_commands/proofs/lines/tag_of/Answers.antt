use Rattle.std.proofs.Common.{rules, ◌≢◌, List, ℕ, inl, inr, subst}
use Rattle.std.proofs.lemmas.Str.{is_utf8-from_IsUtf8}
use Rattle.code_table.specs.declared.row.CodeRow.{CodeRow}
use Rattle.code_table.specs.Standard.{standard_rows}
use Rattle.dmap_json.specs.Faults.{Explains}
use Rattle.dmap_json.specs.Reads.{Reads}
use Rattle.dmap_json.specs.declared.error.JsonError.TheVariants as json
use Rattle.tag_commands.proofs.Backed.{not_utf8}
use Rattle.json_commands.proofs.lines.tag_of.Goals as goal

pub returns-in_default : goal.returns-in_default
returns-in_default c = inl (not_utf8 c.args.line.now c.in_default.ensures.cases.0)

pub returns-in-Ok-from_json : goal.returns-in-Ok-from_json
returns-in-Ok-from_json c = (
  is_utf8-from_IsUtf8 c.args.line.now c.in-Ok.ensures.cases.1,
  subst (λ (bytes : List ℕ). Reads standard_rows bytes c.in-Ok-from_json.tag) c.in-Ok.ensures.cases.0
      (subst (λ (rows : List CodeRow). Reads rows c.in-Ok.text.now c.in-Ok-from_json.tag) c.requires c.in-Ok-from_json.ensures.read),
)

pub returns-in-Err : goal.returns-in-Err
returns-in-Err c =
    let known : c.in-Err.field-0 ≢ json.Memory = search rules in
    inr (
      is_utf8-from_IsUtf8 c.args.line.now c.in-Ok.ensures.cases.1,
      (
        c.in-Err.field-0,
        (
          known,
          subst (λ (bytes : List ℕ). Explains standard_rows bytes c.in-Err.field-0) c.in-Ok.ensures.cases.0
              (subst (λ (rows : List CodeRow). Explains rows c.in-Ok.text.now c.in-Err.field-0) c.requires c.in-Err.ensures.refused),
        ),
      ),
    )
