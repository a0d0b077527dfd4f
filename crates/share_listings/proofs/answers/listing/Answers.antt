use Rattle.std.proofs.Common.{subst}
use Rattle.share_listings.specs.Memberships.{IsMembership}
use Rattle.share_listings.proofs.OnSuccess.{if_ok}
use Rattle.share_listings.proofs.answers.listing.Goals as goal

pub returns-clause-listing : goal.returns-clause-listing
returns-clause-listing g c =
    if_ok c.answer.result
    (λ plan told bs items lists. told bs (record {
      stands = items;
      members = subst (λ keep. IsMembership keep bs c.args.target c.membership_of-membership.result) c.requires.few.keep (c.membership_of-membership.ensures bs lists);
    }))
    c.answer.ensures.listing

pub returns-clause-cost : goal.returns-clause-cost
returns-clause-cost g c = λ bs items lists. c.answer.ensures.cost bs (record {
  stands = items;
  members = subst (λ keep. IsMembership keep bs c.args.target c.membership_of-membership.result) c.requires.few.keep (c.membership_of-membership.ensures bs lists);
})

pub answer-requires : goal.answer-requires
answer-requires g c =
    let few = c.requires.few in
    record {
      few =
          record {
            bs = few.bs;
            tells =
                record {
                  stands = few.of_items;
                  members = subst (λ keep. IsMembership keep few.bs c.args.target c.membership_of-membership.result) few.keep (c.membership_of-membership.ensures few.bs few.of_lists);
                };
            few = few.few;
          };
      start = c.requires.start;
    }
