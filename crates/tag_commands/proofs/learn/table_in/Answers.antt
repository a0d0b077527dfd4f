use Rattle.std.proofs.Common.{◌≡◌, List, true, sym, subst}
use Rattle.code_table.specs.declared.reply.CodeError.TheVariants.{NotReply, Memory}
use Rattle.code_table.specs.declared.row.CodeRow.{CodeRow}
use Rattle.dmap_stream.specs.WholeTag.{is_accepted}
use Rattle.tag_commands.specs.TopTags.{tag_limit}
use Rattle.tag_commands.specs.Learning.{IsRefusal}
use Rattle.tag_commands.proofs.Learned.{front_tag, more_behind, no_table}
use Rattle.tag_commands.proofs.learn.table_in.Goals as goal

pub returns-in-Err-from_reply-clause-refused : goal.returns-in-Err-from_reply-clause-refused
returns-in-Err-from_reply-clause-refused c =
    let found = c.in-Ok.ensures.found in
    let accepted = subst (λ (rows : List CodeRow). is_accepted rows tag_limit c.in-Ok.tag ≡ true) c.in_ok-standard.ensures found.2 in
    subst (IsRefusal c.args.bytes.now) (sym c.table_fault.ensures)
    (no_table c.in-Ok.tag _ c.args.bytes.now c.in-Err-from_reply.error (front_tag c.in-Ok.tag c.in-Ok.len c.args.bytes.now found.1 accepted found.3) c.in-Err-from_reply.ensures)

pub returns-then-len-bytes-clause-refused : goal.returns-then-len-bytes-clause-refused
returns-then-len-bytes-clause-refused c =
    let found = c.in-Ok.ensures.found in
    let accepted = subst (λ (rows : List CodeRow). is_accepted rows tag_limit c.in-Ok.tag ≡ true) c.in_ok-standard.ensures found.2 in
    let known : NotReply ≡ Memory → ⊥ = λ is. absurd (cc) in (
      known,
      more_behind c.in-Ok.tag c.in-Ok.len c.args.bytes.now c.in-Ok-from_reply.table (front_tag c.in-Ok.tag c.in-Ok.len c.args.bytes.now found.1 accepted found.3)
          c.if-len-bytes.true c.in-Ok-from_reply.ensures,
    )
