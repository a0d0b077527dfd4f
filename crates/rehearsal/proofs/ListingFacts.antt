-- The body of a response is a listing that a mirror applies.
use Rattle.std.proofs.Common.{◌≡◌, ◌<◌, ◌≤◌, ℕ, zero, suc, ◌+◌, List, [], ◌∷◌, ◌++◌, Bool, true, false, cond, ◌&&◌, nat_le, length, map, filter, All, refl, sym, ap, subst, ◌∙◌, arith, true≢false, leb-true}
use Rattle.dmap_tags.specs.Codes.{code}
use Rattle.dmap_tags.specs.Tree.{Tree, list, trees_of}
use Rattle.item_model.specs.declared.changes.Edit.{Edit}
use Rattle.item_model.specs.declared.request.Look.{Look}
use Rattle.item_model.specs.declared.request.Meta.TheVariants.{Default}
use Rattle.item_model.specs.declared.request.Range.TheVariants.{All as whole_range}
use Rattle.item_model.specs.declared.request.Target.TheVariants.{Items}
use Rattle.item_store.specs.Store.{Store}
use Rattle.listing_plan.specs.declared.plan.Plan.{Plan}
use Rattle.listing_plan.specs.declared.plan.Plan.TheVariants.{Rows}
use Rattle.listing_plan.specs.Plans.{plan_bytes, IsWritable}
use Rattle.mirror_core.specs.Bodies.{is_listings, IsRow, IsListing}
use Rattle.mirror_core.specs.Mirrored.{Mirrored}
use Rattle.share_history.specs.Mirror.{mirror_look}
use Rattle.share_history.specs.Bodies.{start_tags, gone_tags, body_tree}
use Rattle.share_history.specs.Histories.{revision}
use Rattle.share_history.specs.Kept.{is_kept}
use Rattle.share_history.specs.Listings.{Listing, listing, full_listing, delta_listing}
use Rattle.rehearsal.specs.Carried.{IsCarried}
use Rattle.rehearsal.specs.Shares.{IsShare, MayAsk}
use Rattle.rehearsal.proofs.RowFacts.{AreGood}
use Rattle.rehearsal.proofs.BodyFacts.{IsReadable, body_accepted, body_is_proper, listing_readable}

-- ---- responses as plans

-- a plan of the listing is carried as its body
pub carried_body : (l : Listing) (plan : Plan) → plan ≡ Rows (record { target = Items; listing = l }) → IsReadable l → IsCarried (body_tree Items l) (plan_bytes plan)
carried_body l plan is read = record { spelled = ap plan_bytes is; accepted = body_accepted l read; proper = body_is_proper l read }

pub writable : (l : Listing) (plan : Plan) → plan ≡ Rows (record { target = Items; listing = l }) → IsWritable plan
writable l plan is = subst IsWritable (sym is) refl

pub share_readable : (bs : List (List Edit)) (store : Store) (look : Look) → IsShare bs store → look.meta ≡ Default → look.range ≡ whole_range → IsReadable (listing store.keep bs Items look)
share_readable bs store look share meta whole = listing_readable store.keep bs look meta whole share.made share.few share.early

-- ---- bodies as listings

row_of_good : (rows : List (ℕ × Tree)) → AreGood rows → All (IsRow Items) rows
row_of_good [] good k d lt = absurd (omega arith)
row_of_good (row ∷ rows) good zero d lt = record { rest = good.0.rest; tag = good.0.tag }
row_of_good (row ∷ rows) good (suc k) d lt = row_of_good rows good.1 k d (omega arith)

all_told : (is_delta : Bool) (revision total listed : ℕ) (rows : List Tree) (gone : List ℕ)
    → filter is_listings (start_tags is_delta revision total listed ++ list (code "mlcl") (trees_of rows) ∷ gone_tags Items is_delta gone)
    ≡ start_tags is_delta revision total listed ++ list (code "mlcl") (trees_of rows) ∷ gone_tags Items is_delta gone
all_told true revision total listed rows gone = refl
all_told false revision total listed rows gone = refl

pub listing_marks : (keep : ℕ) (bs : List (List Edit)) (look : Look) → (listing keep bs Items look).is_delta ≡ is_kept keep bs Items look.base
listing_marks keep bs look = by_kept (is_kept keep bs Items look.base)
  where
    by_kept : (b : Bool) → (cond b (delta_listing bs Items look look.base) (full_listing bs Items look)).is_delta ≡ b
    by_kept true = refl
    by_kept false = refl

pub listing_revision : (keep : ℕ) (bs : List (List Edit)) (look : Look) → (listing keep bs Items look).revision ≡ revision bs
listing_revision keep bs look = by_kept (is_kept keep bs Items look.base)
  where
    by_kept : (b : Bool) → (cond b (delta_listing bs Items look look.base) (full_listing bs Items look)).revision ≡ revision bs
    by_kept true = refl
    by_kept false = refl

full_keeps : (keep : ℕ) (bs : List (List Edit)) (look : Look) → (listing keep bs Items look).is_delta ≡ false → (listing keep bs Items look).gone ≡ []
full_keeps keep bs look = by_kept (is_kept keep bs Items look.base)
  where
    by_kept : (b : Bool) → (cond b (delta_listing bs Items look look.base) (full_listing bs Items look)).is_delta ≡ false → (cond b (delta_listing bs Items look look.base) (full_listing bs Items look)).gone ≡ []
    by_kept true h = absurd (true≢false h)
    by_kept false h = refl

first_true : (a b : Bool) → (a && b) ≡ true → a ≡ true
first_true true b h = refl
first_true false b h = h

kept_above : (keep : ℕ) (bs : List (List Edit)) (base : ℕ) → is_kept keep bs Items base ≡ true → 0 < base
kept_above keep bs base h =
    let from : 2 ≤ base = leb-true 2 base (first_true (nat_le 2 base) (nat_le base (revision bs) && (nat_le (revision bs) (base + keep) && true)) h) in
    omega arith

-- the body of a response whose rows begin with their keys is that listing, for a mirror at the look's base
pub body_is_listing : (keep : ℕ) (bs : List (List Edit)) (look : Look) → All (IsRow Items) (listing keep bs Items look).rows
    → IsListing Items look.base (listing keep bs Items look) (body_tree Items (listing keep bs Items look))
body_is_listing keep bs look rows =
    let l : Listing = listing keep bs Items look in
    record {
      members = start_tags l.is_delta l.revision l.total (length l.rows) ++ list (code "mlcl") (trees_of (map (λ row. row.1) l.rows)) ∷ gone_tags Items l.is_delta l.gone;
      is = refl;
      read = record {
        listed = length l.rows;
        told = all_told l.is_delta l.revision l.total (length l.rows) (map (λ row. row.1) l.rows) l.gone;
        rows = rows;
        on_held = λ h. kept_above keep bs look.base (sym (listing_marks keep bs look) ∙ h);
        full = full_keeps keep bs look;
      };
    }

-- so is the body of the response to a look
pub answer_is_listing : (bs : List (List Edit)) (store : Store) (look : Look) → IsShare bs store → look.meta ≡ Default → look.range ≡ whole_range
    → IsListing Items look.base (listing store.keep bs Items look) (body_tree Items (listing store.keep bs Items look))
answer_is_listing bs store look share meta whole =
    body_is_listing store.keep bs look (row_of_good (listing store.keep bs Items look).rows (share_readable bs store look share meta whole).rows)

-- the same of the look of a mirror
pub asked_is : (bs : List (List Edit)) (store : Store) (mirror : Mirrored) (look : Look) (body : Tree) → IsShare bs store → MayAsk bs mirror
    → look ≡ mirror_look mirror.query mirror.meta mirror.held.revision → body ≡ body_tree Items (listing store.keep bs Items look)
    → IsListing mirror.target mirror.held.revision (listing store.keep bs Items (mirror_look mirror.query mirror.meta mirror.held.revision)) body
asked_is bs store mirror look body share asks looks is =
    let asked : Look = mirror_look mirror.query mirror.meta mirror.held.revision in
    let l : Listing = listing store.keep bs Items asked in
    subst (λ t. IsListing t mirror.held.revision l body) (sym asks.target)
    (subst (λ tag. IsListing Items mirror.held.revision l tag) (sym (is ∙ ap (λ k. body_tree Items (listing store.keep bs Items k)) looks)) (answer_is_listing bs store asked share asks.meta refl))

pub not_older : (bs : List (List Edit)) (store : Store) (mirror : Mirrored) → MayAsk bs mirror
    → mirror.held.revision ≤ (listing store.keep bs Items (mirror_look mirror.query mirror.meta mirror.held.revision)).revision
not_older bs store mirror asks = subst (λ n. mirror.held.revision ≤ n) (sym (listing_revision store.keep bs (mirror_look mirror.query mirror.meta mirror.held.revision))) asks.base
