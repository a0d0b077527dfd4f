use Rattle.std.proofs.Common.{[]}
use Rattle.rehearsal.proofs.CarriedFacts.{by_table, alone}
use Rattle.rehearsal.proofs.carried.read.Goals as goal

pub want_of_memory-requires : goal.want_of_memory-requires
want_of_memory-requires c =
    let t = c.requires.tag.0 in
    let is = c.requires.tag.1 in
    c.in-Err.ensures.only t [] (by_table c.args.table.now t c.args.bytes.now c.requires.table is) is.proper (alone t c.args.bytes.now is)

pub returns-in-Ok : goal.returns-in-Ok
returns-in-Ok c = λ t is. (c.in-Ok.ensures.only t [] (by_table c.args.table.now t c.args.bytes.now c.requires.table is) is.proper (alone t c.args.bytes.now is)).0
