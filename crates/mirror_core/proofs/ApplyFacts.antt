-- What a mirror is after a listing, and why it is left.
use Rattle.std.proofs.Common.{◌≡◌, ℕ, List, [], Bool, true, false, cond, fold, map, Option, sym, ap, ◌∙◌, subst}
use Rattle.dmap_tags.specs.Tree.{Tree}
use Rattle.share_history.specs.Keyed.{put_in, taken_out, IsAscending}
use Rattle.share_history.specs.Listings.{Listing}
use Rattle.share_history.specs.Mirror.{mirror_after}
use Rattle.share_history.proofs.KeyedFacts.{ascending-puts, ascending-outs, sorted-ascending}
use Rattle.mirror_core.specs.After.{after_body}
use Rattle.mirror_core.specs.Mirrored.{Mirrored}
use Rattle.mirror_core.specs.Bodies.{IsListing, IsNoListing}
use Rattle.mirror_core.specs.Reading.{Told, row_of, key_of, listing_of}
use Rattle.mirror_core.proofs.AfterFacts.{after_listing}

-- what holds of a mirror by its parts holds of it as it is seen
pub no_listing_seen : (m n : Mirrored) (tag : Tree) (index : Option ℕ) → m ≡ n → IsNoListing m.target m.held.revision tag index → IsNoListing n.target n.held.revision tag index
no_listing_seen m n tag index same h = subst (λ (k : Mirrored). IsNoListing k.target k.held.revision tag index) same h

pub listing_seen : (m n : Mirrored) (tag : Tree) (listing : Listing) → m ≡ n → IsListing m.target m.held.revision listing tag → IsListing n.target n.held.revision listing tag
listing_seen m n tag listing same h = subst (λ (k : Mirrored). IsListing k.target k.held.revision listing tag) same h

pub ascending-taken : (is_delta : Bool) (held : List (ℕ × Tree)) (gone : List ℕ) (rows new : List (ℕ × Tree)) → IsAscending held
    → (IsAscending held → new ≡ fold put_in (cond is_delta (fold taken_out held gone) []) rows) → IsAscending new
ascending-taken is_delta held gone rows new s h =
    subst IsAscending (sym (h s)) (ascending-puts (cond is_delta (fold taken_out held gone) []) rows (base is_delta))
  where
    base : (d : Bool) → IsAscending (cond d (fold taken_out held gone) [])
    base true = ascending-outs held gone s
    base false = sorted-ascending []

pub mirror_told : (m n : Mirrored) (tag : Tree) (told : Told) (new : List (ℕ × Tree)) → m ≡ n → IsListing m.target m.held.revision (listing_of m.target told) tag
    → IsAscending m.held.rows
    → (IsAscending m.held.rows → new ≡ fold put_in (cond told.is_delta (fold taken_out m.held.rows (map (key_of m.target) told.gone)) []) (map (row_of m.target) told.rows))
    → ◌≡◌ {A = Mirrored} (record { target = m.target; query = m.query; meta = m.meta; held = record { revision = told.revision; rows = new } })
    (record { target = n.target; query = n.query; meta = n.meta; held = after_body n.target n.held tag })
mirror_told m n tag told new same is s h =
    let found : after_body m.target m.held tag ≡ mirror_after m.held (listing_of m.target told) = after_listing m.target m.held (listing_of m.target told) tag is in
    (λ i. record { target = m.target; query = m.query; meta = m.meta; held = record { revision = told.revision; rows = h s i } })
    ∙ (λ i. record { target = m.target; query = m.query; meta = m.meta; held = (sym found) i })
    ∙ (λ i. record { target = (same i).target; query = (same i).query; meta = (same i).meta; held = after_body (same i).target (same i).held tag })
