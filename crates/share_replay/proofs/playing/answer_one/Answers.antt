use Rattle.std.proofs.Common.{◌⊎◌, ◌<◌, ◌≤◌, ℕ, List, Option, ◌∙◌}
use Rattle.share_replay.specs.Machine.{Desk, answers, first_due, most_left, after_answer_at}
use Rattle.share_replay.specs.Played.{IsAt, IsPart}
use Rattle.share_replay.proofs.ResultFacts.{on_err_then}
use Rattle.share_replay.proofs.StepFacts.{part_other, part_there}
use Rattle.share_replay.proofs.playing.answer_one.Goals as goal

pub returns-in-Err-clause-part : goal.returns-in-Err-clause-part
returns-in-Err-clause-part g c =
    part_there c.args.share.now.settings c.args.share.now.history c.answer_at.new.share.history c.args.connections.now (g.W.Sink.taken c.args.sink.now) (g.W.Sink.taken c.answer_at.new.sink)
    c.args.place c.in-Err.ensures.part

pub returns-in-Ok-false-clause-part : goal.returns-in-Ok-false-clause-part
returns-in-Ok-false-clause-part g c =
    let s = c.args.share.now.settings in
    let s1 = c.answer_at.new.share.settings in
    let h = c.args.share.now.history in
    let h1 = c.answer_at.new.share.history in
    let h' = c.answer_first.new.share.history in
    let cs = c.args.connections.now in
    let cs1 = c.answer_at.new.connections in
    let t = g.W.Sink.taken c.args.sink.now in
    let t1 = g.W.Sink.taken c.answer_at.new.sink in
    let t' = g.W.Sink.taken c.answer_first.new.sink in
    let rest = c.in-Ok-false.ensures.rests c.in-Ok-false.field-0-test in
    on_err_then
    ((d : Desk) (start : Option (List ℕ)) → IsAt d h1 cs1 start t1 → IsPart d h' start t' ⊎ ((0 < most_left cs1) × IsPart (after_answer_at s1 (first_due s1 h1 0 cs1) d) h' start t'))
    ((d : Desk) (start : Option (List ℕ)) → IsAt d h cs start t → (k : ℕ) × (k ≤ most_left cs) × IsPart (answers s c.args.place k d) h' start t')
    c.answer_first.result
    (λ part. part_other s s1 h h1 h' cs cs1 t t1 t' c.args.place c.in-Ok-false.ensures.settings rest.0 rest.1 rest.2 (c.in-Ok-false.ensures.due ∙ c.in-Ok-false.field-0-test) part)
    c.answer_first.ensures.part
