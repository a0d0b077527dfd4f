-- What a mirror holds after a body: the result of the listing that the body is; or, if it is not one, what it held.
use Rattle.std.specs.Prelude.{ℕ, Option, Some, None, Result, Ok, Err}
use Rattle.std.specs.Option.{option_map_or}
use Rattle.dmap_tags.specs.Tree.{Tree}
use Rattle.item_model.specs.declared.request.Target.{Target}
use Rattle.share_history.specs.Listings.{Listing}
use Rattle.share_history.specs.Mirror.{Held, mirror_after}
use Rattle.mirror_core.specs.Reading.{Told, listing_of, read_tag}

abbrev pub listing_told : Target → Result Told (Option ℕ) → Option Listing
listing_told target (Ok told) = Some (listing_of target told)
listing_told target (Err index) = None

-- the listing of the target that a tag is, for a mirror at revision `base`
abbrev pub listing_in : Target → ℕ → Tree → Option Listing
listing_in target base tag = listing_told target (read_tag target base tag)

abbrev pub after_body : Target → Held → Tree → Held
after_body target held body = option_map_or (mirror_after held) (listing_in target held.revision body) held
