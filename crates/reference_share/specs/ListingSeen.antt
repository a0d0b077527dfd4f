-- A listing of the program, in the terms of the definitions.
use Rattle.reference_share.specs.declared.listings.Listing.{Listing}
use Rattle.share_history.specs.Listings as plain

abbrev pub listing_of : Listing → plain.Listing
listing_of l = record { is_delta = l.is_delta; revision = l.revision; total = l.total; rows = l.rows.items; gone = l.gone.items }
