-- The line before the line feed.
use Rattle.share_replay.proofs.Texts.{lines_by, shorter_by}
use Rattle.share_replay.proofs.script.split_line.Goals as goal

pub returns-clause-lines : goal.returns-clause-lines
returns-clause-lines c = lines_by (λ r. r.0.now) (λ r. r.1.now) c.args.text.now c.split_once_at.result c.split_once_at.ensures

pub returns-clause-shorter : goal.returns-clause-shorter
returns-clause-shorter c = shorter_by (λ r. r.0.now) (λ r. r.1.now) c.args.text.now c.split_once_at.result c.split_once_at.ensures
