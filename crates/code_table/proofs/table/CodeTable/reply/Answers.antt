use Rattle.std.proofs.Common.{◌≡◌, [], take, Ok, sym, ap, subst, ◌∙◌, take_all, arith}
use Rattle.std.proofs.lemmas.List.Elements.{All-more}
use Rattle.std.proofs.lemmas.Grind.{common_steps}
use Rattle.dmap_tags.specs.Tree.{trees_of}
use Rattle.code_table.specs.Rows.{codes_differ}
use Rattle.code_table.specs.Reply.{entry_row, rows_from}
use Rattle.code_table.proofs.ReadsBack.{ReadsBack, table_back}
use Rattle.code_table.proofs.table.CodeTable.reply.Goals as goal

pub loop-row-preserved : goal.loop-row-preserved
loop-row-preserved c =
    let rows = c.rows-rows.result.now in
    let entry = c.in_ok-entry.ensures in
    let read : ReadsBack c.row-item.result = ap entry_row (sym entry.told) ∙ entry.reads_back in
    let each = All-more ReadsBack rows c.loop-row.row-index c.row-item.result c.loop-row-test.true c.loop-row.invariant.1 (subst ReadsBack c.row-item.is read) in
    (grind (arith, common_steps), each)

pub returns-clause-reads_back : goal.returns-clause-reads_back
returns-clause-reads_back c =
    let rows = c.rows-rows.result.now in
    let all : take c.loop-row.row-index rows ≡ rows = take_all _ _ c.loop-row-test.false in
    ap (λ members. rows_from 0 [] (trees_of members)) c.loop-row.invariant.0
    ∙ table_back (take c.loop-row.row-index rows) (ap codes_differ all ∙ c.rows-rows.ensures.differ) c.loop-row.invariant.1
    ∙ ap Ok (all ∙ c.rows-rows.ensures.value)
