-- What contracts see of a plan of rows: its target and its listing.
use Rattle.item_model.specs.declared.request.Target.{Target}
use Rattle.share_history.specs.Listings.{Listing}

pub record Planned : Type 0 where
  pub target : Target
  pub listing : Listing
