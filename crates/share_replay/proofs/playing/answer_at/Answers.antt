use Rattle.std.proofs.Common.{Option, get_or, ap}
use Rattle.share_replay.specs.Connections.{Connection}
use Rattle.share_replay.proofs.MachineFacts.{part_here, turned_here}
use Rattle.share_replay.proofs.playing.answer_at.Goals as goal

pub returns-clause-stepped : goal.returns-clause-stepped
returns-clause-stepped g c =
    let a = c.args in
    let r = c.answer_one_of in
    turned_here a.share.now.settings a.share.now.history r.new.share.history a.connections.now (g.W.Sink.taken a.sink.now) (g.W.Sink.taken r.new.sink) a.place
    c.index-connections-place.result r.new.slot r.result c.if-place-connections.false r.ensures.answered

pub returns-clause-part : goal.returns-clause-part
returns-clause-part g c =
    let a = c.args in
    let r = c.answer_one_of in
    let slot = get_or a.connections.now a.place c.index-connections-place.result in
    part_here a.share.now.settings a.share.now.history r.new.share.history a.connections.now (g.W.Sink.taken a.sink.now) (g.W.Sink.taken r.new.sink) a.place slot
    r.result c.if-place-connections.false (ap (λ (o : Option Connection). get_or a.connections.now a.place o) c.index-connections-place.is) r.ensures.part
