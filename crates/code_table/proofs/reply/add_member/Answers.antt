use Rattle.std.proofs.Common.{◌≡◌, true, rules}
use Rattle.dmap_tags.specs.Codes.{code, is_code}
use Rattle.dmap_tags.specs.Tree.{tree_code}
use Rattle.code_table.proofs.Tellings.{entry_told}
use Rattle.code_table.proofs.reply.add_member.Goals as goal

pub returns : goal.returns
returns c =
    let is : is_code (tree_code c.args.member.now) (code "mdcl") ≡ true = search rules in
    entry_told c.args.index c.args.table.now c.add_row.new.table c.args.member.now c.add_row.result is
    (rw c.in_ok-entry_row.ensures at c.add_row.ensures)
