use Rattle.std.proofs.Common.{subst, arith}
use Rattle.share_listings.specs.Memberships.{IsMembership}
use Rattle.share_listings.proofs.OnSuccess.{if_ok}
use Rattle.share_listings.proofs.whole.full.Goals as goal

pub unselected-requires-clause-few : goal.unselected-requires-clause-few
unselected-requires-clause-few g c = let few = c.requires.few in record { bs = few.bs; stands = few.tells.stands; few = few.few }

pub unselected-requires-clause-all : goal.unselected-requires-clause-all
unselected-requires-clause-all g c = let few = c.requires.few in subst (IsMembership c.args.items.now.keep few.bs c.args.target) c.in-Library.is few.tells.members

pub selected-requires : goal.selected-requires
selected-requires g c = record { few = c.requires.few; start = c.requires.start }

pub returns-in-Library : goal.returns-in-Library
returns-in-Library g c = record {
  listing = if_ok c.unselected.result (λ plan told bs tells. told bs tells.stands) c.unselected.ensures;
  cost = λ bs tells. omega arith;
}

pub returns-in_default : goal.returns-in_default
returns-in_default g c = record { listing = c.selected.ensures.listing; cost = c.selected.ensures.cost }
