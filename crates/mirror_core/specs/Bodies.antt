-- The tags that a mirror accepts as listings. Members of a body with one of seven codes must be those of a listing of
-- the target, in its order. Members with other codes are skipped.
use Rattle.std.specs.Prelude.{◌≡◌, ◌<◌, ◌+◌, ℕ, List, [], ◌∷◌, ◌++◌, Bool, true, false, length, map, take, filter, Option, Some, None, All, ◌⊎◌}
use Rattle.std.specs.List.{list_any}
use Rattle.dmap_tags.specs.Codes.{Four, code, is_code}
use Rattle.dmap_tags.specs.Tree.{Tree, Trees, leaf, list, more, trees_of, tree_code, U32}
use Rattle.item_model.specs.declared.request.Target.{Target}
use Rattle.share_history.specs.Listings.{Listing}
use Rattle.share_history.specs.Bodies.{start_tags, body_code, key_code, gone_tags}

-- the codes of a listing's members
abbrev pub listing_codes : List Four
listing_codes = code "mstt" ∷ code "muty" ∷ code "musr" ∷ code "mtco" ∷ code "mrco" ∷ code "mlcl" ∷ code "mudl" ∷ []

abbrev pub is_listings : Tree → Bool
is_listings tag = list_any (λ c. is_code c (tree_code tag)) listing_codes

-- the tag of a row begins with the row's key
pub record IsRow (target : Target) (row : ℕ × Tree) : Type 0 where
  pub rest : Trees
  pub tag : row.1 ≡ list (code "mlit") (more (leaf (key_code target) (U32 row.0)) rest)

-- the members of a listing; the stated number of listed rows is not checked, and a delta needs held rows
pub record AreMembersOf (target : Target) (base : ℕ) (listing : Listing) (members : List Tree) : Type 0 where
  pub listed : ℕ
  pub told : filter is_listings members
      ≡ start_tags listing.is_delta listing.revision listing.total listed
      ++ list (code "mlcl") (trees_of (map (λ row. row.1) listing.rows)) ∷ gone_tags target listing.is_delta listing.gone
  pub rows : All (IsRow target) listing.rows
  pub on_held : listing.is_delta ≡ true → 0 < base
  -- a full listing deletes no keys
  pub full : listing.is_delta ≡ false → listing.gone ≡ []

-- the tag is a listing of the target, for a mirror at revision `base`, or 0 if it holds nothing
pub record IsListing (target : Target) (base : ℕ) (listing : Listing) (tag : Tree) : Type 0 where
  pub members : List Tree
  pub is : tag ≡ list (body_code target) (trees_of members)
  pub read : AreMembersOf target base listing members

-- some listing begins with these members
abbrev pub Begins : Target → ℕ → List Tree → Type 0
Begins target base members = (later : List Tree) × (listing : Listing) × AreMembersOf target base listing (members ++ later)

-- the first member that cannot continue a listing; if the members end too early, the index after the last
pub record IsStuck (target : Target) (base : ℕ) (members : List Tree) (place : ℕ) : Type 0 where
  pub before : Begins target base (take place members)
  pub here : (place < length members × ¬ (Begins target base (take (place + 1) members)))
      ⊎ ((place ≡ length members) × ¬ ((listing : Listing) × AreMembersOf target base listing members))

-- why a tag is not a listing: it is another tag, or it is stuck at a member
abbrev pub IsNoListing : Target → ℕ → Tree → Option ℕ → Type 0
IsNoListing target base tag None = (members : List Tree) → ¬ (tag ≡ list (body_code target) (trees_of members))
IsNoListing target base tag (Some place) = (members : List Tree) × (tag ≡ list (body_code target) (trees_of members)) × IsStuck target base members place
