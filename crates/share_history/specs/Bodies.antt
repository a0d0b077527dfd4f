-- The body of a listing as DAAP sends it: status, kind of update, revision, number of rows, number of listed
-- rows, the rows, and in a delta the deleted keys.
use Rattle.std.specs.Prelude.{ℕ, List, [], ◌∷◌, ◌++◌, Bool, length, map, if◌then◌else◌}
use Rattle.dmap_tags.specs.Codes.{Four, code}
use Rattle.dmap_tags.specs.Tree.{Tree, leaf, list, trees_of, U8, U32}
use Rattle.item_model.specs.declared.changes.Entry.{Entry}
use Rattle.item_model.specs.declared.request.Look.{Look}
use Rattle.item_model.specs.declared.request.Target.{Target}
use Rattle.item_model.specs.declared.request.Target.TheVariants.{Items, Container}
use Rattle.share_history.specs.Histories.{batches}
use Rattle.share_history.specs.Listings.{Listing, full_listing, delta_listing, listing}

-- the tags at the start of every listing
abbrev pub start_tags : (is_delta : Bool) (revision total listed : ℕ) → List Tree
start_tags is_delta revision total listed =
    leaf (code "mstt") (U32 200) ∷ leaf (code "muty") (U8 (if is_delta then 1 else 0)) ∷ leaf (code "musr") (U32 revision)
    ∷ leaf (code "mtco") (U32 total) ∷ leaf (code "mrco") (U32 listed) ∷ []

abbrev pub body_code : Target → Four
body_code Items = code "adbs"
body_code (Container c) = code "apso"

abbrev pub key_code : Target → Four
key_code Items = code "miid"
key_code (Container c) = code "mcti"

-- the keys that a delta deletes; a full listing has no such tag
abbrev pub gone_tags : Target → Bool → List ℕ → List Tree
gone_tags target is_delta gone =
    if is_delta then list (code "mudl") (trees_of (map (λ key. leaf (key_code target) (U32 key)) gone)) ∷ [] else []

abbrev pub body_tree : Target → Listing → Tree
body_tree target l =
    list (body_code target)
    (trees_of
    (start_tags l.is_delta l.revision l.total (length l.rows)
    ++ list (code "mlcl") (trees_of (map (λ row. row.1) l.rows)) ∷ gone_tags target l.is_delta l.gone))

-- the bodies over a history: the full one, the delta since a base, and the one for the base of the look
abbrev pub full_body : List Entry → Target → Look → Tree
full_body h target look = body_tree target (full_listing (batches h) target look)

abbrev pub delta_body : List Entry → Target → Look → ℕ → Tree
delta_body h target look base = body_tree target (delta_listing (batches h) target look base)

abbrev pub listing_body : ℕ → List Entry → Target → Look → Tree
listing_body keep h target look = body_tree target (listing keep (batches h) target look)
