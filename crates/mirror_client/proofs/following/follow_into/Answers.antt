use Rattle.std.proofs.Common.{◌∙◌}
use Rattle.mirror_client.specs.Points.{nothing_read, place}
use Rattle.mirror_client.proofs.StageFacts.{followed_by, opened_stops, run_stops, unclosed_by, whole_run}
use Rattle.mirror_client.proofs.following.follow_into.Goals as goal

pub returns-in-Err-clause-stops : goal.returns-in-Err-clause-stops
returns-in-Err-clause-stops g c =
    opened_stops c.args.host.now c.args.mirror.now c.args.rounds (place (g.K.Sink.taken c.args.link.now) (g.K.Source.left c.args.link.now) nothing_read) (g.K.Sink.taken c.open.new.link) c.in-Err.error
    c.in-Err.ensures.stops

pub returns-in-Err-follow_rounds-clause-stops : goal.returns-in-Err-follow_rounds-clause-stops
returns-in-Err-follow_rounds-clause-stops g c =
    run_stops c.args.host.now c.in-Ok.follower.host c.args.mirror.now c.follow_rounds.new.mirror c.args.rounds c.in-Ok.follower.known
    (place (g.K.Sink.taken c.args.link.now) (g.K.Source.left c.args.link.now) nothing_read)
    (place (g.K.Sink.taken c.open.new.link) (g.K.Source.left c.open.new.link) c.in-Ok.follower.ahead) (g.K.Sink.taken c.follow_rounds.new.link)
    c.in-Err-follow_rounds.error c.in-Ok.ensures.opened.0 c.in-Ok.ensures.opened.1 c.in-Err-follow_rounds.ensures.stops

pub returns-in-Ok-follow_rounds-clause-followed : goal.returns-in-Ok-follow_rounds-clause-followed
returns-in-Ok-follow_rounds-clause-followed g c =
    let w = c.in-Ok-follow_rounds.ensures.walks in
    let walked =
    whole_run c.args.host.now c.in-Ok.follower.host c.args.mirror.now c.args.rounds c.in-Ok.follower.known c.follow_rounds.new.follower.known w.0
    (place (g.K.Sink.taken c.args.link.now) (g.K.Source.left c.args.link.now) nothing_read)
    (place (g.K.Sink.taken c.open.new.link) (g.K.Source.left c.open.new.link) c.in-Ok.follower.ahead)
    (place (g.K.Sink.taken c.follow_rounds.new.link) (g.K.Source.left c.follow_rounds.new.link) c.follow_rounds.new.follower.ahead) c.in-Ok.ensures.opened.0
    c.in-Ok.ensures.opened.1 w.4 in
    followed_by c.args.host.now c.follow_rounds.new.follower.host c.args.mirror.now c.follow_rounds.new.mirror c.args.rounds c.follow_rounds.new.follower.known w.0
    (place (g.K.Sink.taken c.args.link.now) (g.K.Source.left c.args.link.now) nothing_read)
    (place (g.K.Sink.taken c.follow_rounds.new.link) (g.K.Source.left c.follow_rounds.new.link) c.follow_rounds.new.follower.ahead) (g.K.Sink.taken c.close.new.link)
    (g.K.Source.left c.close.new.link) c.follow_rounds.new.applied.items c.close.result (c.follow_rounds.ensures.stays ∙ c.in-Ok.ensures.opened.1) w.1 walked
    w.2 w.3 c.close.ensures.exchanged

pub returns-in-Ok-follow_rounds-clause-stops : goal.returns-in-Ok-follow_rounds-clause-stops
returns-in-Ok-follow_rounds-clause-stops g c =
    let w = c.in-Ok-follow_rounds.ensures.walks in
    let walked =
    whole_run c.args.host.now c.in-Ok.follower.host c.args.mirror.now c.args.rounds c.in-Ok.follower.known c.follow_rounds.new.follower.known w.0
    (place (g.K.Sink.taken c.args.link.now) (g.K.Source.left c.args.link.now) nothing_read)
    (place (g.K.Sink.taken c.open.new.link) (g.K.Source.left c.open.new.link) c.in-Ok.follower.ahead)
    (place (g.K.Sink.taken c.follow_rounds.new.link) (g.K.Source.left c.follow_rounds.new.link) c.follow_rounds.new.follower.ahead) c.in-Ok.ensures.opened.0
    c.in-Ok.ensures.opened.1 w.4 in
    unclosed_by c.args.host.now c.follow_rounds.new.follower.host c.args.mirror.now c.follow_rounds.new.mirror c.args.rounds c.follow_rounds.new.follower.known w.0
    (place (g.K.Sink.taken c.args.link.now) (g.K.Source.left c.args.link.now) nothing_read)
    (place (g.K.Sink.taken c.follow_rounds.new.link) (g.K.Source.left c.follow_rounds.new.link) c.follow_rounds.new.follower.ahead) (g.K.Sink.taken c.close.new.link)
    c.close.result (c.follow_rounds.ensures.stays ∙ c.in-Ok.ensures.opened.1) w.1 walked w.2 c.close.ensures.stops
