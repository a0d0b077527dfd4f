-- The counter of the call is the one that is made for it.
use Rattle.share_listings.proofs.uncounted.items_listing.Given as goal

abbrev pub ghosts-items_by : goal.ghosts-items_by
ghosts-items_by a = record { name = a.blank.name; parts = a.blank.parts }
