use Rattle.std.proofs.Common.{subst}
use Rattle.share_listings.specs.Memberships.{IsMembership}
use Rattle.share_listings.proofs.OnSuccess.{if_ok}
use Rattle.share_listings.proofs.answers.full_listing.Goals as goal

pub returns-clause-listing : goal.returns-clause-listing
returns-clause-listing g c =
    if_ok c.full.result
    (λ plan told bs items lists. told bs (record {
      stands = items;
      members = subst (λ keep. IsMembership keep bs c.args.target c.membership_of-membership.result) c.requires.few.keep (c.membership_of-membership.ensures bs lists);
    }))
    c.full.ensures.listing

pub returns-clause-cost : goal.returns-clause-cost
returns-clause-cost g c = λ bs items lists. c.full.ensures.cost bs (record {
  stands = items;
  members = subst (λ keep. IsMembership keep bs c.args.target c.membership_of-membership.result) c.requires.few.keep (c.membership_of-membership.ensures bs lists);
})

pub full-requires : goal.full-requires
full-requires g c =
    let few = c.requires.few in
    record {
      few =
          record {
            bs = few.bs;
            tells =
                record {
                  stands = few.of_items;
                  members = subst (λ keep. IsMembership keep few.bs c.args.target c.membership_of-membership.result) few.keep (c.membership_of-membership.ensures few.bs few.of_lists);
                };
            few = few.few;
          };
      start = c.requires.start;
    }
