use Rattle.json_commands.proofs.Fed.{feeds_fault, feeds_on}
use Rattle.json_commands.proofs.json.feed_some.Goals as goal

pub returns-in-Err : goal.returns-in-Err
returns-in-Err c =
    let fed = c.in-Err.ensures in
    λ all h. feeds_fault all c.args.bytes.now c.args.reader.now c.feed.new.self c.in-Err.error h fed.same.0 fed.same.1 fed.error fed.tells

pub returns : goal.returns
returns c =
    let fed = c.in-Ok.ensures in
    let skipped = c.skip_events.ensures in
    λ all h.
    feeds_on all c.args.bytes.now c.split_at.result.1.now c.args.reader.now c.feed.new.self c.skip_events.new.reader c.in-Ok.taken h c.requires.some c.split_at.ensures.back fed.took.0
    fed.same.0 fed.same.1 fed.error fed.took.1 fed.read skipped.same.0 skipped.same.1.0 skipped.same.1.1 skipped.read skipped.quiet
