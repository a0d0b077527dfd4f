use Rattle.std.proofs.Common.{◌∙◌}
use Rattle.share_history.specs.Histories.{edits}
use Rattle.share_listings.proofs.AnswerFacts.{library_starts}
use Rattle.store_tests.proofs.listings.from_stores.Goals as goal

pub listing-requires-clause-start : goal.listing-requires-clause-start
listing-requires-clause-start g c = λ bs stands.
    library_starts (edits bs) c.args.look.query c.as_slice.result.now (c.as_slice.ensures.value ∙ c.in_ok-ids.ensures bs stands)
