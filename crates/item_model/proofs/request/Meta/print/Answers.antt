use Rattle.item_model.specs.declared.request.Meta.TheVariants.{Names}
use Rattle.item_model.proofs.ReadsBack.{printed_reads}
use Rattle.item_model.proofs.request.Meta.print.Goals as goal

pub returns-in-Names-clause-reads_back : goal.returns-in-Names-clause-reads_back
returns-in-Names-clause-reads_back c =
    rw c.in-Names.is
    (printed_reads c.print_names.result (Names c.in-Names.properties) (rw c.as_slice.ensures at c.print_names.ensures))
