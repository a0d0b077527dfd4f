use Rattle.share_listings.proofs.OnSuccess.{if_ok}
use Rattle.share_listings.proofs.library.plan_range.Goals as goal

pub whole-requires : goal.whole-requires
whole-requires c = record { few = c.requires.few; all = c.requires.all }

pub part-requires : goal.part-requires
part-requires c = record { few = c.requires.few; all = c.requires.all }

pub returns-then-has_all : goal.returns-then-has_all
returns-then-has_all c = if_ok c.whole.result (λ plan told bs stands. told bs c.args.range stands (c.has_all.ensures c.if-has_all.true)) c.whole.ensures

pub returns : goal.returns
returns c = c.part.ensures
