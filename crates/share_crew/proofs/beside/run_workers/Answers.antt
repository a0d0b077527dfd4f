use Rattle.std.proofs.Common.{◌≤◌, length, sym, subst, ap, arith}
use Rattle.std.proofs.lemmas.Slice.Zip.{AllZip-long}
use Rattle.share_crew.proofs.beside.run_workers.Goals as goal

pub run_with_partner-requires-clause-ready : goal.run_with_partner-requires-clause-ready
run_with_partner-requires-clause-ready g c = λ κs bounds k d less. (c.requires.hired k d less).ready

pub run_with_partner-requires-clause-running : goal.run_with_partner-requires-clause-running
run_with_partner-requires-clause-running g c = λ κs bounds k d less. (c.requires.hired k d less).running

pub run_with_partner-requires-clause-unreported : goal.run_with_partner-requires-clause-unreported
run_with_partner-requires-clause-unreported g c = λ κs bounds k d less. (c.requires.hired k d less).unreported

pub gather-requires-clause-room : goal.gather-requires-clause-room
gather-requires-clause-room g c =
    let count = AllZip-long _ _ _ c.run_with_partner.ensures.roles in
    let room = c.requires.room in
    omega (arith, count, room)

pub returns-clause-gathered : goal.returns-clause-gathered
returns-clause-gathered g c = λ settings opening kept start listeners.
    (c.gather.ensures.gathered settings opening kept c.args.begun.room.crew.items start c.requires.hired listeners c.run_with_partner.ensures.served c.run_with_partner.ensures.roles).0

pub returns-clause-closes : goal.returns-clause-closes
returns-clause-closes g c =
    let count = AllZip-long _ _ _ c.run_with_partner.ensures.roles in
    let closes = c.gather.ensures.closes in
    omega (arith, count, closes)

pub returns-clause-links : goal.returns-clause-links
returns-clause-links g c = λ few. c.gather.ensures.links c.args.begun.room.crew.items c.run_with_partner.ensures.served few

pub returns-clause-requests : goal.returns-clause-requests
returns-clause-requests g c = λ few. c.gather.ensures.requests c.args.begun.room.crew.items c.run_with_partner.ensures.served few
