-- A mirror that applies the listings of a share holds what the share has.
use Rattle.std.proofs.Common.{◌≡◌, ℕ, List, [], ◌++◌, fold, refl, ◌∙◌, subst, Option, Some, None}
use Rattle.std.specs.Option.{option_or, option_map}
use Rattle.std.proofs.lemmas.Bool.{cond_both}
use Rattle.dmap_tags.specs.Tree.{Tree}
use Rattle.item_model.specs.declared.item.Row.{Row}
use Rattle.item_model.specs.declared.changes.Edit.{Edit}
use Rattle.item_model.specs.declared.request.Meta.{Meta}
use Rattle.item_model.specs.declared.request.Look.{Look}
use Rattle.item_model.specs.declared.request.Target.{Target}
use Rattle.item_model.specs.Projection.{projection}
use Rattle.share_history.specs.Keyed.{at, put_in, IsAscending}
use Rattle.share_history.specs.Histories.{edits, revision, up_to}
use Rattle.share_history.specs.Rows.{rows}
use Rattle.share_history.specs.Kept.{is_kept}
use Rattle.share_history.specs.Listings.{member_of, shown, shown_rows, shown_after, full_listing, delta_listing, listing}
use Rattle.share_history.specs.Mirror.{mirror_after, mirrored, mirror_look}
use Rattle.share_history.specs.Laws.{MirrorsFollow, MirrorsCatchUp, FullListingsSuffice}
use Rattle.share_history.proofs.KeyedFacts.{same_pairs, sorted-ascending, at-puts, ascending-puts, at-map, ascending-map}
use Rattle.share_history.proofs.EditFacts.{up_to-revision}
use Rattle.share_history.proofs.RowFacts.{ascending-rows}
use Rattle.share_history.proofs.DifferenceFacts.{difference_applied}

-- ---- shown rows

-- what is shown of a row under a key
abbrev pub shown_at : Target → Meta → ℕ → Row → Tree
shown_at t meta k row = projection row (member_of t k) meta

pub at-shown : (t : Target) (meta : Meta) (k : ℕ) (rs : List (ℕ × Row)) → at k (shown_rows t meta rs) ≡ option_map (shown_at t meta k) (at k rs)
at-shown t meta k rs = at-map (shown t meta) (λ _. refl) k rs

pub ascending-shown : (t : Target) (meta : Meta) (rs : List (ℕ × Row)) → IsAscending rs → IsAscending (shown_rows t meta rs)
ascending-shown t meta rs s = ascending-map (shown t meta) (λ _. refl) rs s

pub ascending-after : (bs : List (List Edit)) (t : Target) (look : Look) → IsAscending (shown_after bs t look)
ascending-after bs t look = ascending-shown t look.meta (rows (edits bs) t look.query) (ascending-rows (edits bs) t look.query)

-- ---- full listings

-- ascending rows put into nothing are those rows
puts_alone : (rs : List (ℕ × Tree)) → IsAscending rs → fold put_in [] rs ≡ rs
puts_alone rs s = same_pairs (fold put_in [] rs) rs (ascending-puts [] rs (sorted-ascending [])) s (λ k. at-puts k [] rs s ∙ or_none (at k rs))
  where
    or_none : (o : Option Tree) → option_or o None ≡ o
    or_none None = refl
    or_none (Some x) = refl

pub full_listings_suffice : FullListingsSuffice
full_listings_suffice held bs t q meta base =
    λ i. record { revision = revision bs; rows = puts_alone (shown_rows t meta (rows (edits bs) t q)) (ascending-shown t meta (rows (edits bs) t q) (ascending-rows (edits bs) t q)) i }

-- ---- the law

pub mirrors_follow : MirrorsFollow
mirrors_follow keep bs t q meta base =
    cond_both (is_kept keep bs t base) (delta_listing bs t (mirror_look q meta base) base) (full_listing bs t (mirror_look q meta base))
    (λ l. mirror_after (mirrored (up_to bs base) t q meta) l ≡ mirrored bs t q meta)
    (λ _. λ i. record {
      revision = revision bs;
      rows = difference_applied (shown_after (up_to bs base) t (mirror_look q meta base)) (shown_after bs t (mirror_look q meta base)) (ascending-after (up_to bs base) t (mirror_look q meta base)) (ascending-after bs t (mirror_look q meta base)) i;
    })
    (λ _. full_listings_suffice (mirrored (up_to bs base) t q meta) bs t q meta base)

pub mirrors_catch_up : MirrorsCatchUp
mirrors_catch_up keep bs cs t q meta =
    subst (λ before. mirror_after (mirrored before t q meta) (listing keep (bs ++ cs) t (mirror_look q meta (revision bs))) ≡ mirrored (bs ++ cs) t q meta)
    (up_to-revision bs cs) (mirrors_follow keep (bs ++ cs) t q meta (revision bs))
