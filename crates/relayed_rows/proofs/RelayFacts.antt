-- What a relay holds after changes, and that the batch is the difference.
use Rattle.std.proofs.Common.{◌≡◌, ◌≤◌, ◌<◌, ◌+◌, ◌^◌, ℕ, Bool, true, false, cond, ◌&&◌, List, [], ◌∷◌, fold, filter, map, length, Option, Some, None, is_some, is_none, unwrap_or, nat_cmp, nat_lt, nat_le, Less, refl, sym, ap, subst, ◌∙◌, ltb-true, leb-true, arith}
use Rattle.std.specs.List.{AllByRecursion, All, position_from}
use Rattle.std.specs.Cmp.{ranked}
use Rattle.std.specs.List.Sorted.{IsStrictlySortedBy}
use Rattle.std.specs.Map.{keys_of}
use Rattle.std.specs.Option.{option_and_then, option_or}
use Rattle.std.proofs.lemmas.Bool.{and_parts}
use Rattle.std.proofs.lemmas.List.Elements.{recursion_from_All}
use Rattle.dmap_tags.specs.Tree.{Tree}
use Rattle.item_model.specs.declared.item.Row.{Row}
use Rattle.item_model.specs.declared.request.Target.TheVariants.{Items}
use Rattle.item_model.specs.Valid.{is_id}
use Rattle.share_history.specs.Keyed.{at, put_in, taken_out, IsAscending, AreAscending}
use Rattle.share_history.specs.LastSaid.{only_if}
use Rattle.share_history.specs.Listings.{Listing}
use Rattle.share_history.specs.Mirror.{Held, mirror_after}
use Rattle.share_history.proofs.KeyedFacts.{has, same_pairs, same_keys_same, sorted-ascending, sorted-filter, all-kept, at-puts, ascending-puts, at-outs, ascending-outs, ascending-filter, has-keys_of}
use Rattle.share_history.proofs.DifferenceFacts.{at-passing}
use Rattle.mirror_core.specs.Bodies.{IsRow}
use Rattle.mirror_core.specs.Reading.{Told, key_of, listing_of, row_of as keyed}
use Rattle.relayed_rows.specs.Libraries.{IsLibrary, IsOwn, Library, library_in}
use Rattle.relayed_rows.specs.Differences.{gone_ids, new_rows, drops_and_puts, difference}
use Rattle.relayed_rows.specs.Relays.{first_unread, is_unread}
use Rattle.relayed_rows.specs.Changes.{Change, with_gone, with_row, rows_told, changes_of, rows_in, drops, dropped_ids, made, AreSound}
use Rattle.relayed_rows.proofs.LibraryFacts.{at-values, ascending-values, holds_of_all, all_filtered, own_at, at-library_in, ascending-library_in}
use Rattle.relayed_rows.proofs.DifferenceFacts.{AreOwnAt, new_at, at-new, has-gone, put_or_kept, ascending-new, same_now, valid_ids}
use Rattle.relayed_rows.proofs.ChangeFacts.{Follows, changes_sound, follows_gones, follows_rows, follows_nothing}

-- ---- how many ids there are

above_head : (k : ℕ) (ks : List ℕ) → AllByRecursion (λ j. nat_cmp k j ≡ Less) ks → AllByRecursion (λ j. k + 1 ≤ j) ks
above_head k [] all = tt
above_head k (j ∷ ks) all = let less : k < j = ranked k j Less (sym all.0) in (omega (arith, less), above_head k ks all.1)

counted_up : (low : ℕ) (ks : List ℕ) → AreAscending ks → AllByRecursion (λ k. low ≤ k) ks → AllByRecursion (λ id. is_id id ≡ true) ks → low ≤ 2 ^ 32 → length ks + low ≤ 2 ^ 32
unfolding IsStrictlySortedBy
counted_up low [] s above valid le = omega arith
counted_up low (k ∷ ks) s above valid le =
    let under : k < 2 ^ 32 = ltb-true k (2 ^ 32) (and_parts (nat_le 1 k) (nat_lt k (2 ^ 32)) valid.0).1 in
    let first : low ≤ k = above.0 in
    let rest : length ks + (k + 1) ≤ 2 ^ 32 = counted_up (k + 1) ks s.1 (above_head k ks s.0) valid.1 (omega arith) in
    omega (arith, rest, first)

ids_from_one : (ks : List ℕ) → AllByRecursion (λ id. is_id id ≡ true) ks → AllByRecursion (λ k. 1 ≤ k) ks
ids_from_one [] all = tt
ids_from_one (k ∷ ks) all = (leb-true 1 k (and_parts (nat_le 1 k) (nat_lt k (2 ^ 32)) all.0).0, ids_from_one ks all.1)

-- ids that ascend are fewer than there are numbers of 32 bits
few_ids : (ks : List ℕ) → AreAscending ks → AllByRecursion (λ id. is_id id ≡ true) ks → length ks < 2 ^ 32
few_ids ks s valid = let all : length ks + 1 ≤ 2 ^ 32 = counted_up 1 ks s (ids_from_one ks valid) valid (omega arith) in omega (arith, all)

counted : (rows : Library) → length (keys_of rows) ≡ length rows
counted [] = refl
counted (e ∷ rows) = omega (arith, counted rows)

module _ (held : Library) (cs : List Change) (sound : AreSound held cs) where
  abbrev put : Library
  put = rows_in cs

  at-put_rows : (q : ℕ) → at q put ≡ option_and_then (λ (o : Option Row). o) (at q cs)
  at-put_rows q = at-values (λ (o : Option Row). o) q cs sound.ascends

  pub ascending-put_rows : IsAscending put
  ascending-put_rows = ascending-values (λ (o : Option Row). o) cs sound.ascends

  pub ascending-new_rows : IsAscending (new_rows held put)
  ascending-new_rows = ascending-new held put ascending-put_rows

  -- whether a change drops a held row
  abbrev leaves : Option Row → Option (Option Row) → Bool
  leaves was c = is_some (option_and_then (λ (x : Option Row). only_if (is_none x && is_some was) x) c)

  has-dropped : (q : ℕ) → has q (dropped_ids held cs) ≡ leaves (at q held) (at q cs)
  has-dropped q = has-keys_of q (filter (drops held) cs) ∙ ap is_some (at-passing (drops held) q cs sound.ascends)

  at_one_id : (q : ℕ) (was : Option Row) (c : Option (Option Row)) → AreOwnAt q was → ((row : Row) → c ≡ Some (Some row) → IsOwn (q, row))
      → cond (leaves was c) None (option_or (option_and_then (new_at was) (option_and_then (λ (o : Option Row). o) c)) was) ≡ unwrap_or c was
  at_one_id q was None own new = refl
  at_one_id q None (Some None) own new = refl
  at_one_id q (Some old) (Some None) own new = refl
  at_one_id q was (Some (Some row)) own new = put_or_kept q was row own (new row refl)

  -- each id has what its change says, or else what was held
  pub at-made : (q : ℕ) → at q (made held cs) ≡ unwrap_or (at q cs) (at q held)
  at-made q =
      at-outs q (fold put_in held (new_rows held put)) (dropped_ids held cs) (ascending-puts held (new_rows held put) sound.library.ascends)
      ∙ ap (λ b. cond b None (at q (fold put_in held (new_rows held put)))) (has-dropped q)
      ∙ ap (cond (leaves (at q held) (at q cs)) None)
      (at-puts q held (new_rows held put) ascending-new_rows
      ∙ ap (λ o. option_or o (at q held)) (at-new q held put ascending-put_rows ∙ ap (option_and_then (new_at (at q held))) (at-put_rows q)))
      ∙ at_one_id q (at q held) (at q cs) (λ row h. own_at held q row sound.library h) (λ row h. sound.own q row h)

  made_own : (q : ℕ) (row : Row) (was : Option Row) (c : Option (Option Row)) → AreOwnAt q was → ((r : Row) → c ≡ Some (Some r) → IsOwn (q, r)) → unwrap_or c was ≡ Some row → IsOwn (q, row)
  made_own q row was None own new h = own row h
  made_own q row was (Some None) own new h = absurd (cc)
  made_own q row was (Some (Some r)) own new h = new row (ap Some h)

  pub ascending-made : IsAscending (made held cs)
  ascending-made =
      ascending-outs (fold put_in held (new_rows held put)) (dropped_ids held cs) (ascending-puts held (new_rows held put) sound.library.ascends)

  pub library_made : IsLibrary (made held cs)
  library_made = record {
    ascends = ascending-made;
    rows =
        holds_of_all IsOwn (made held cs) ascending-made
        (λ q row h.
        made_own q row (at q held) (at q cs) (λ r k. own_at held q r sound.library k) (λ r k. sound.own q r k) (sym (at-made q) ∙ h));
  }

  -- ---- the difference

  pub gone_made : dropped_ids held cs ≡ gone_ids held (made held cs)
  gone_made =
      same_keys_same (dropped_ids held cs) (gone_ids held (made held cs)) (ascending-filter (drops held) cs sound.ascends)
      (sorted-filter (λ id. is_none (at id (made held cs))) (keys_of held) sound.library.ascends)
      (λ q.
      has-dropped q ∙ gone_at (at q held) (at q cs) ∙ ap (λ o. is_none o && is_some (at q held)) (sym (at-made q)) ∙ sym (has-gone q held (made held cs)))
    where
      gone_at : (was : Option Row) (c : Option (Option Row)) → leaves was c ≡ (is_none (unwrap_or c was) && is_some was)
      gone_at None None = refl
      gone_at (Some old) None = refl
      gone_at None (Some None) = refl
      gone_at (Some old) (Some None) = refl
      gone_at was (Some (Some row)) = refl

  pub new_made : new_rows held put ≡ new_rows held (made held cs)
  new_made =
      same_pairs (new_rows held put) (new_rows held (made held cs)) ascending-new_rows (ascending-new held (made held cs) ascending-made)
      (λ q.
      at-new q held put ascending-put_rows ∙ ap (option_and_then (new_at (at q held))) (at-put_rows q) ∙ news_at (at q held) (at q cs)
      ∙ ap (option_and_then (new_at (at q held))) (sym (at-made q)) ∙ sym (at-new q held (made held cs) ascending-made))
    where
      news_at : (was : Option Row) (c : Option (Option Row)) → option_and_then (new_at was) (option_and_then (λ (o : Option Row). o) c) ≡ option_and_then (new_at was) (unwrap_or c was)
      news_at was None = sym (same_now was)
      news_at was (Some None) = refl
      news_at was (Some (Some row)) = refl

  pub difference_of_made : drops_and_puts (dropped_ids held cs) (new_rows held put) ≡ difference held (made held cs)
  difference_of_made =
      ap (λ (ids : List ℕ). drops_and_puts ids (new_rows held put)) gone_made ∙ ap (drops_and_puts (gone_ids held (made held cs))) new_made

  -- ---- how many there are

  ids_fit : AllByRecursion (λ id. is_id id ≡ true) (dropped_ids held cs)
  ids_fit =
      subst (AllByRecursion (λ id. is_id id ≡ true)) (sym gone_made)
      (all-kept (λ id. is_id id ≡ true) (λ id. is_none (at id (made held cs))) (keys_of held) (valid_ids held sound.library.rows))

  rows_fit : AllByRecursion (λ id. is_id id ≡ true) (keys_of (new_rows held put))
  rows_fit =
      subst (λ (rows : Library). AllByRecursion (λ id. is_id id ≡ true) (keys_of rows)) (sym new_made)
      (valid_ids (new_rows held (made held cs)) (all_filtered IsOwn _ (made held cs) library_made.rows))

  pub few_dropped : length (dropped_ids held cs) < 2 ^ 32
  few_dropped = few_ids (dropped_ids held cs) (ascending-filter (drops held) cs sound.ascends) ids_fit

  pub few_new : length (new_rows held put) < 2 ^ 32
  few_new = omega (arith, few_ids (keys_of (new_rows held put)) ascending-new_rows rows_fit, counted (new_rows held put))

-- ---- a mirror of the same listing

follows : (d : Bool) (held : Held) (gone : List ℕ) (listed : List Tree) → IsAscending held.rows → position_from is_unread 0 listed ≡ None → AllByRecursion (IsRow Items) (map (keyed Items) listed)
    → Follows (fold put_in (cond d (fold taken_out held.rows gone) []) (map (keyed Items) listed))
    (fold with_row (fold with_gone [] (cond d gone (keys_of (library_in held.rows)))) (rows_told listed)) (library_in held.rows)
follows true held gone listed s none all =
    follows_rows (fold taken_out held.rows gone) (fold with_gone [] gone) (library_in held.rows) 0 listed none all
    (follows_gones held.rows [] (library_in held.rows) gone s (λ q. sym (at-library_in q held.rows s)))
follows false held gone listed s none all =
    follows_rows [] (fold with_gone [] (keys_of (library_in held.rows))) (library_in held.rows) 0 listed none all (follows_nothing (library_in held.rows))

ascending-after : (d : Bool) (tags : List (ℕ × Tree)) (gone : List ℕ) (listed : List (ℕ × Tree)) → IsAscending tags → IsAscending (fold put_in (cond d (fold taken_out tags gone) []) listed)
ascending-after true tags gone listed s = ascending-puts (fold taken_out tags gone) listed (ascending-outs tags gone s)
ascending-after false tags gone listed s = ascending-puts [] listed (sorted-ascending [])

-- a mirror's tags ascend after each listing
pub ascending-mirrored : (held : Held) (l : Listing) → IsAscending held.rows → IsAscending (mirror_after held l).rows
ascending-mirrored held l s = ascending-after l.is_delta held.rows l.gone l.rows s

-- the library after the changes of a listing is that of a mirror's tags after it
pub made_as_mirrored : (held : Held) (told : Told) → IsLibrary (library_in held.rows) → IsAscending held.rows → position_from is_unread 0 told.rows ≡ None
    → All (IsRow Items) (listing_of Items told).rows
    → made (library_in held.rows) (changes_of (library_in held.rows) told) ≡ library_in (mirror_after held (listing_of Items told)).rows
made_as_mirrored held told is s none rows =
    let before : Library = library_in held.rows in
    let cs : List Change = changes_of before told in
    let sound : AreSound before cs = changes_sound before told cs is refl in
    let after : List (ℕ × Tree) = (mirror_after held (listing_of Items told)).rows in
    let t : IsAscending after = ascending-mirrored held (listing_of Items told) s in
    let all : AllByRecursion (IsRow Items) (map (keyed Items) told.rows) = recursion_from_All (IsRow Items) (map (keyed Items) told.rows) rows in
    same_pairs (made before cs) (library_in after) (ascending-made before cs sound) (ascending-library_in after t)
    (λ q.
    at-made before cs sound q ∙ sym (follows told.is_delta held (map (key_of Items) told.gone) told.rows s none all q)
    ∙ sym (at-library_in q after t))

-- and so is what a relay holds, if it held what the mirror's tags stated
pub taken_as_mirrored : (before after : Library) (cs : List Change) (held : Held) (told : Told) → before ≡ library_in held.rows → IsLibrary before
    → cs ≡ changes_of before told → after ≡ made before cs → IsAscending held.rows → position_from is_unread 0 told.rows ≡ None → All (IsRow Items) (listing_of Items told).rows
    → after ≡ library_in (mirror_after held (listing_of Items told)).rows
taken_as_mirrored before after cs held told same is are done s none rows =
    done ∙ ap (made before) are ∙ ap (λ (l : Library). made l (changes_of l told)) same ∙ made_as_mirrored held told (subst IsLibrary same is) s none rows

-- the index of the first unread tag, for tags with keys or without
unread_keyed : (n : ℕ) (listed : List Tree) → position_from (λ tag. is_unread tag.1) n (map (keyed Items) listed) ≡ position_from is_unread n listed
unread_keyed n [] = refl
unread_keyed n (tag ∷ listed) = ap (cond (is_unread tag) (Some n)) (unread_keyed (n + 1) listed)

pub unread_listed : (told : Told) → first_unread (listing_of Items told) ≡ position_from is_unread 0 told.rows
unread_listed told = unread_keyed 0 told.rows
