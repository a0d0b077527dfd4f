-- What a relay holds: the library of an upstream listing, and its revision. The libraries after each of several
-- listings, and the batches from each to the next.
use Rattle.std.specs.Prelude.{◌≡◌, ℕ, List, [], ◌∷◌, ◌++◌, Bool, Option, is_none}
use Rattle.std.specs.List.{position_from}
use Rattle.dmap_tags.specs.Tree.{Tree}
use Rattle.item_model.specs.declared.changes.Edit.{Edit}
use Rattle.item_model.specs.declared.changes.Entry.{Entry}
use Rattle.share_history.specs.Histories.{all_edits}
use Rattle.share_history.specs.Listings.{Listing}
use Rattle.share_history.specs.Mirror.{Held, mirror_after}
use Rattle.share_history.specs.Rows.{library}
use Rattle.relayed_rows.specs.ReadRows.{row_of}
use Rattle.relayed_rows.specs.Libraries.{Library, library_in}
use Rattle.relayed_rows.specs.Differences.{difference}

pub record Relaying : Type 0 where
  -- 0 before the first listing
  pub revision : ℕ
  pub library : Library

-- what a relay holds if a mirror holds these tags
abbrev pub relaying_at : Held → Relaying
relaying_at held = record { revision = held.revision; library = library_in held.rows }

abbrev pub is_unread : Tree → Bool
is_unread tag = is_none (row_of tag)

-- the index of the first listed tag that states no row
abbrev pub first_unread : Listing → Option ℕ
first_unread l = position_from (λ tag. is_unread tag.1) 0 l.rows

abbrev pub nothing_held : Held
nothing_held = record { revision = 0; rows = [] }

-- the libraries after each listing
abbrev pub libraries_after : Held → List Listing → List Library
libraries_after held [] = []
libraries_after held (l ∷ ls) = library_in (mirror_after held l).rows ∷ libraries_after (mirror_after held l) ls

abbrev pub relay_of : List Listing → List Library
relay_of listings = libraries_after nothing_held listings

-- a batch before others, unless it has no edits
abbrev pub with_batch : List Edit → List (List Edit) → List (List Edit)
with_batch [] batches = batches
with_batch (e ∷ es) batches = (e ∷ es) ∷ batches

-- the batches from a library to the next, and so on; none between two equal libraries
abbrev pub steps_between : Library → List Library → List (List Edit)
steps_between before [] = []
steps_between before (now ∷ later) = with_batch (difference before now) (steps_between now later)

-- the library of a history is one of some libraries; `ahead` are those after it
pub record StandsAt (libraries : List Library) (h : List Entry) : Type 0 where
  pub passed : List Library
  pub ahead : List Library
  pub are : libraries ≡ passed ++ library (all_edits h) ∷ ahead
