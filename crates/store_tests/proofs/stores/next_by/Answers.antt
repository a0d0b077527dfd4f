use Rattle.share_listings.proofs.Samples.{more_in_both}
use Rattle.store_tests.proofs.stores.next_by.Goals as goal

pub returns-clause-few : goal.returns-clause-few
returns-clause-few g c =
    more_in_both c.args.most 6 c.args.edits.now c.args.stores.items c.apply.new.self c.args.stores.lists c.apply-2.new.self c.requires.few c.requires.six c.in_ok-apply.ensures.stands
    c.in_ok-apply-2.ensures.stands c.in_ok-apply.ensures.keep c.in_ok-apply-2.ensures.keep
