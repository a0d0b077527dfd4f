use Rattle.std.proofs.Common.{true, false, sym, ◌∙◌, arith}
use Rattle.share_history.specs.Histories.{opening, batches}
use Rattle.share_commands.proofs.LibraryFacts.{too_many, few_enough}
use Rattle.share_commands.proofs.list.library_fault.Goals as goal

pub returns-then-count-gt-MAX_LISTS : goal.returns-then-count-gt-MAX_LISTS
returns-then-count-gt-MAX_LISTS c = λ edits opened.
    too_many edits c.args.target c.count.result (c.count.ensures (batches (opening edits)) opened.lists) (omega (arith, c.if-count-gt-MAX_LISTS.true))

pub returns-then-is_there : goal.returns-then-is_there
returns-then-is_there c = λ edits opened.
    few_enough edits c.args.target c.count.result true (c.count.ensures (batches (opening edits)) opened.lists) (omega (arith, c.if-count-gt-MAX_LISTS.false))
    (sym c.if-is_there.true ∙ c.is_there.ensures (batches (opening edits)) opened.lists)

pub returns : goal.returns
returns c = λ edits opened.
    few_enough edits c.args.target c.count.result false (c.count.ensures (batches (opening edits)) opened.lists) (omega (arith, c.if-count-gt-MAX_LISTS.false))
    (sym c.if-is_there.false ∙ c.is_there.ensures (batches (opening edits)) opened.lists)
