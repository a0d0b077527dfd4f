use Rattle.std.proofs.Common.{rules, ◌≡◌, ◌<◌, ℕ, List, length, take, min, ◌+◌, ◌-◌, ◌^◌, sym, ap, ◌∙◌, subst}
use Rattle.std.specs.Io.KnownBytes.{Consumes}
use Rattle.share_lock.specs.Passes.{known}
use Rattle.share_server.proofs.Linking.{at_the_end, faulted, pumped_on}
use Rattle.share_server.proofs.Waiting.{keeping_yet}
use Rattle.share_server.specs.Losses.{is_loss}
use Rattle.share_server.proofs.link.reading.pump.Goals as goal

-- the input ended
pub returns-then-n-eq0-clause-pumps : goal.returns-then-n-eq0-clause-pumps
returns-then-n-eq0-clause-pumps g c = λ role start under.
    let none : c.in-Ok.n ≡ 0 = search rules in
    let untouched : g.K.Sink.taken c.read.new.self ≡ g.K.Sink.taken c.args.link.now =
    sym (g.met.K.Link.read_leaves_taken c.read.new.self) ∙ (c.read.ensures.beside ∙ g.met.K.Link.read_leaves_taken c.args.link.now) in
    let room : 0 < length c.read.new.room = search rules in
    at_the_end role c.args.context.now.limit start.pass (known c.args.pass.now) start.left (g.K.Source.left c.args.link.now) (g.K.Source.left c.read.new.self) start.taken
    (g.K.Sink.taken c.args.link.now) (g.K.Sink.taken c.read.new.self) c.args.progress.now.reader c.args.progress.now.served.items c.args.consumed.now under untouched
    (subst (λ (n : ℕ). Consumes (g.K.Source.left c.args.link.now) (g.K.Source.left c.read.new.self) (take n c.read.new.room)) none c.in-Ok.ensures.moved.0)
    (c.in-Ok.ensures.moved.1 none room) c.end_of_input.result (c.end_of_input.ensures.end under.midway.fine)

-- a chunk was read
pub returns-clause-pumps : goal.returns-clause-pumps
returns-clause-pumps g c = λ role start under.
    let untouched : g.K.Sink.taken c.read.new.self ≡ g.K.Sink.taken c.args.link.now =
    sym (g.met.K.Link.read_leaves_taken c.read.new.self) ∙ (c.read.ensures.beside ∙ g.met.K.Link.read_leaves_taken c.args.link.now) in
    let unread : g.K.Source.left c.feed.new.link ≡ g.K.Source.left c.read.new.self =
    sym (g.met.K.Link.write_leaves_left c.feed.new.link) ∙ (c.feed.ensures.beside ∙ g.met.K.Link.write_leaves_left c.read.new.self) in
    let counted : c.saturating_add.result ≡ min (c.args.consumed.now + length c.split_at.result.0.now) (2 ^ 64 - 1) =
    c.saturating_add.ensures ∙ ap (λ (n : ℕ). min (c.args.consumed.now + n) (2 ^ 64 - 1)) (sym c.split_at.ensures.front_len) in
    pumped_on role c.args.context.now.limit start.pass (known c.args.pass.now) (known c.feed.new.pass) start.left (g.K.Source.left c.args.link.now) (g.K.Source.left c.read.new.self)
    (g.K.Source.left c.feed.new.link) start.taken (g.K.Sink.taken c.args.link.now) (g.K.Sink.taken c.read.new.self) (g.K.Sink.taken c.feed.new.link)
    c.args.progress.now.reader c.feed.new.progress.reader c.args.progress.now.served.items c.feed.new.progress.served.items c.args.consumed.now c.saturating_add.result
    c.split_at.result.0.now c.feed.result under
    (subst (λ (bytes : List ℕ). Consumes (g.K.Source.left c.args.link.now) (g.K.Source.left c.read.new.self) bytes) (sym c.split_at.ensures.front) c.in-Ok.ensures.moved.0)
    untouched unread counted (λ bytes midway. c.feed.ensures.feeds role bytes start midway)

-- the read failed
pub returns-in-Err-clause-pumps : goal.returns-in-Err-clause-pumps
returns-in-Err-clause-pumps g c = λ role start under.
    let untouched : g.K.Sink.taken c.read.new.self ≡ g.K.Sink.taken c.args.link.now =
    sym (g.met.K.Link.read_leaves_taken c.read.new.self) ∙ (c.read.ensures.beside ∙ g.met.K.Link.read_leaves_taken c.args.link.now) in
    faulted role c.args.context.now.limit start.pass (known c.args.pass.now) start.left (g.K.Source.left c.args.link.now) (g.K.Source.left c.read.new.self) start.taken
    (g.K.Sink.taken c.args.link.now) (g.K.Sink.taken c.read.new.self) c.args.progress.now.reader c.args.progress.now.served.items c.args.consumed.now under untouched
    c.in-Err.ensures.moved

pub returns-then-n-eq0-clause-keeping : goal.returns-then-n-eq0-clause-keeping
returns-then-n-eq0-clause-keeping g c =
    keeping_yet (g.F.Keeps.keeps c.args.keeper.now) (g.F.Keeps.is_lost c.args.keeper.now) (g.F.Keeps.faults c.args.keeper.now) (known c.args.pass.now)
    (is_loss c.end_of_input.result) c.requires.going c.end_of_input.ensures.goes_on
