-- A tag is one listing or stuck at one index. A mirror that applies responses holds the share's rows.
use Rattle.std.specs.Prelude.{◌≡◌, ◌++◌, ℕ, List, Option, Some}
use Rattle.dmap_tags.specs.Tree.{Tree}
use Rattle.item_model.specs.declared.changes.Entry.{Entry}
use Rattle.item_model.specs.declared.query.Query.{Query}
use Rattle.item_model.specs.declared.request.Meta.{Meta}
use Rattle.item_model.specs.declared.request.Target.{Target}
use Rattle.share_history.specs.Bodies.{full_body, listing_body}
use Rattle.share_history.specs.Histories.{batches, revision}
use Rattle.share_history.specs.Listings.{Listing}
use Rattle.share_history.specs.Mirror.{Held, mirrored, mirror_look}
use Rattle.mirror_core.specs.After.{after_body, listing_in}
use Rattle.mirror_core.specs.Bodies.{IsListing, IsNoListing}

-- a tag is at most one listing
abbrev pub ListingsAreOne : Type 0
ListingsAreOne =
    (target : Target) (base : ℕ) (a b : Listing) (tag : Tree) → IsListing target base a tag → IsListing target base b tag → a ≡ b

-- a tag that is a listing is stuck nowhere
abbrev pub ListingsAreNotStuck : Type 0
ListingsAreNotStuck =
    (target : Target) (base : ℕ) (listing : Listing) (tag : Tree) (index : Option ℕ) → IsListing target base listing tag → ¬ (IsNoListing target base tag index)

-- a tag is stuck at one index at most
abbrev pub TagsAreStuckOnce : Type 0
TagsAreStuckOnce =
    (target : Target) (base : ℕ) (tag : Tree) (a b : Option ℕ) → IsNoListing target base tag a → IsNoListing target base tag b → a ≡ b

-- the listing read from a tag is the one that the tag is
abbrev pub ListingsAreFound : Type 0
ListingsAreFound =
    (target : Target) (base : ℕ) (listing : Listing) (tag : Tree)
    → (IsListing target base listing tag → listing_in target base tag ≡ Some listing) × (listing_in target base tag ≡ Some listing → IsListing target base listing tag)

-- a mirror that held all rows of a prefix of the history, and requests with its revision, holds all rows of the whole
-- history after the body of the response, a delta or a full listing
abbrev pub MirrorsFollowAnswers : Type 0
MirrorsFollowAnswers =
    (keep : ℕ) (front later : List Entry) (target : Target) (query : Option Query) (meta : Meta)
    → after_body target (mirrored (batches front) target query meta)
    (listing_body keep (front ++ later) target (mirror_look query meta (revision (batches front))))
    ≡ mirrored (batches (front ++ later)) target query meta

-- so does every mirror after a full body, whatever it held
abbrev pub FullBodiesSuffice : Type 0
FullBodiesSuffice =
    (held : Held) (h : List Entry) (target : Target) (query : Option Query) (meta : Meta) (base : ℕ)
    → after_body target held (full_body h target (mirror_look query meta base)) ≡ mirrored (batches h) target query meta
