use Rattle.std.proofs.Common.{◌≡◌, rules, sym, ap, ◌∙◌}
use Rattle.dmap_tags.specs.Codes.{code}
use Rattle.dmap_tags.specs.Tree.{list, trees_of}
use Rattle.code_table.specs.Reply.{numbered, entry_of, entry_row}
use Rattle.code_table.proofs.ReadsBack.{entry_back}
use Rattle.code_table.proofs.reply.entry.Goals as goal

pub returns-clause-reads_back : goal.returns-clause-reads_back
returns-clause-reads_back c =
    let told : list (code "mdcl") (trees_of c.push-3.new.self) ≡ entry_of c.args.row.now = search rules in
    ap entry_row told ∙ entry_back c.args.row.now (ap numbered (sym c.number_of.ensures.told) ∙ c.number_of.ensures.reads_back)
