-- What the difference of two ascending lists of tags has under each key, and that it leads from the one to the other.
use Rattle.std.proofs.Common.{◌≡◌, ◌≢◌, ℕ, Bool, true, false, cond, not, ◌&&◌, List, [], ◌∷◌, filter, fold, refl, sym, ap, ◌∙◌, Option, Some, None, is_some, is_none, nat_cmp, is_eq}
use Rattle.std.specs.Option.{option_or, option_map_or, option_and_then}
use Rattle.std.specs.Map.{keys_of}
use Rattle.std.proofs.lemmas.Map.Keys.{sorted_tail}
use Rattle.std.proofs.lemmas.Bool.{cond_both}
use Rattle.dmap_tags.specs.Tree.{Tree}
use Rattle.dmap_tags.specs.SameTags.{is_same_tag}
use Rattle.dmap_tags.proofs.SameFacts.{one_tag, tag_itself}
use Rattle.share_history.specs.Keyed.{at, put_in, taken_out, IsAscending}
use Rattle.share_history.specs.LastSaid.{only_if}
use Rattle.share_history.specs.Differences.{has_tag, new_tags, gone_keys}
use Rattle.share_history.proofs.KeyedFacts.{has, same_key, past_head, same_pairs, same_keys_same, sorted-ascending, sorted-filter, at-puts, ascending-puts, at-outs, ascending-outs, ascending-filter, has-filter, has-keys_of}

-- ---- a filter of pairs

module _ {X : Type 0} (p : ℕ × X → Bool) where
  abbrev passing : ℕ → X → Option X
  passing key x = only_if (p (key, x)) x

  first_passing : (b : Bool) (q : ℕ) (e : ℕ × X) (rest : Option X) → is_eq (nat_cmp q e.0) ≡ b → (b ≡ true → rest ≡ None)
      → cond (p e) (cond b (Some e.1) rest) rest ≡ cond b (only_if (p (q, e.1)) e.1) rest
  first_passing true q e rest h none =
      ap (λ w. cond (p e) (Some e.1) w) (none refl) ∙ ap (λ k. only_if (p (k, e.1)) e.1) (sym (same_key q e.0 h))
  first_passing false q e rest h none = cond_both (p e) rest rest (λ w. w ≡ rest) (λ _. refl) (λ _. refl)

  -- a filter of ascending pairs keeps under each key the value that passes
  pub at-passing : (q : ℕ) (es : List (ℕ × X)) → IsAscending es → at q (filter p es) ≡ option_and_then (passing q) (at q es)
  at-passing q [] s = refl
  at-passing q (e ∷ es) s =
      let rest = at-passing q es (sorted_tail nat_cmp e.0 (keys_of es) s) in
      first_or_rest (p e) ∙ first_passing (is_eq (nat_cmp q e.0)) q e (at q (filter p es)) refl (λ h. rest ∙ ap (option_and_then (passing q)) (past_head q e es s h))
      ∙ then_rest (is_eq (nat_cmp q e.0)) rest
    where
      first_or_rest : (b : Bool) → at q (cond b (e ∷ filter p es) (filter p es)) ≡ cond b (cond (is_eq (nat_cmp q e.0)) (Some e.1) (at q (filter p es))) (at q (filter p es))
      first_or_rest true = refl
      first_or_rest false = refl

      then_rest : (b : Bool) → at q (filter p es) ≡ option_and_then (passing q) (at q es) → cond b (only_if (p (q, e.1)) e.1) (at q (filter p es)) ≡ option_and_then (passing q) (cond b (Some e.1) (at q es))
      then_rest true rest = refl
      then_rest false rest = rest

-- ---- one key

-- what is new under a key that had this tag
abbrev pub new_at : Option Tree → Tree → Option Tree
new_at was tag = only_if (not (option_map_or (λ old. is_same_tag old tag) was false)) tag

pub at-new : (q : ℕ) (before now : List (ℕ × Tree)) → IsAscending now → at q (new_tags before now) ≡ option_and_then (new_at (at q before)) (at q now)
at-new q before now s = at-passing (λ tag. not (has_tag before tag)) q now s

pub has-gone : (q : ℕ) (before now : List (ℕ × Tree)) → has q (gone_keys before now) ≡ (is_none (at q now) && is_some (at q before))
has-gone q before now = has-filter q (λ key. is_none (at key now)) (keys_of before) ∙ ap (λ b. is_none (at q now) && b) (has-keys_of q before)

at_one_key : (was is : Option Tree) → option_or (option_and_then (new_at was) is) (cond (is_none is && is_some was) None was) ≡ is
at_one_key None None = refl
at_one_key None (Some tag) = refl
at_one_key (Some old) None = refl
at_one_key (Some old) (Some tag) = one_or_new (is_same_tag old tag) refl
  where
    one_or_new : (b : Bool) → is_same_tag old tag ≡ b → option_or (only_if (not b) tag) (Some old) ≡ Some tag
    one_or_new true h = ap Some (one_tag old tag h)
    one_or_new false h = refl

pub ascending-new : (before now : List (ℕ × Tree)) → IsAscending now → IsAscending (new_tags before now)
ascending-new before now s = ascending-filter (λ tag. not (has_tag before tag)) now s

-- the earlier tags without the gone keys and with the new tags are the later ones
pub difference_applied : (before now : List (ℕ × Tree)) → IsAscending before → IsAscending now
    → fold put_in (fold taken_out before (gone_keys before now)) (new_tags before now) ≡ now
difference_applied before now s t =
    same_pairs (fold put_in left_over (new_tags before now)) now (ascending-puts left_over (new_tags before now) (ascending-outs before (gone_keys before now) s)) t
    (λ k.
    at-puts k left_over (new_tags before now) (ascending-new before now t)
    ∙ (λ i. option_or (at-new k before now t i) (at-outs k before (gone_keys before now) s i))
    ∙ ap (λ b. option_or (option_and_then (new_at (at k before)) (at k now)) (cond b None (at k before))) (has-gone k before now)
    ∙ at_one_key (at k before) (at k now))
  where
    left_over : List (ℕ × Tree)
    left_over = fold taken_out before (gone_keys before now)

-- ---- what is the same, and what differs

same_now : (was : Option Tree) → option_and_then (new_at was) was ≡ None
same_now None = refl
same_now (Some tag) = ap (λ b. only_if (not b) tag) (tag_itself tag)

-- a key with the same tag as before has no new one
pub same_not_new : (q : ℕ) (before now : List (ℕ × Tree)) → IsAscending now → at q now ≡ at q before → at q (new_tags before now) ≡ None
same_not_new q before now s h = at-new q before now s ∙ ap (λ was. option_and_then (new_at was) (at q now)) (sym h) ∙ same_now (at q now)

other_now : (was is : Option Tree) → is ≢ was → option_and_then (new_at was) is ≡ is
other_now None None h = refl
other_now None (Some tag) h = refl
other_now (Some old) None h = refl
other_now (Some old) (Some tag) h = one_or_new (is_same_tag old tag) refl
  where
    one_or_new : (b : Bool) → is_same_tag old tag ≡ b → only_if (not b) tag ≡ Some tag
    one_or_new true e = absurd (h (ap Some (sym (one_tag old tag e))))
    one_or_new false e = refl

-- a key with another tag than before, or with its first, has its tag as a new one
pub other_is_new : (q : ℕ) (before now : List (ℕ × Tree)) → IsAscending now → at q now ≢ at q before → at q (new_tags before now) ≡ at q now
other_is_new q before now s h = at-new q before now s ∙ other_now (at q before) (at q now) h

-- nothing differs from itself
pub nothing_new : (tags : List (ℕ × Tree)) → IsAscending tags → new_tags tags tags ≡ []
nothing_new tags s = same_pairs (new_tags tags tags) [] (ascending-new tags tags s) (sorted-ascending []) (λ k. same_not_new k tags tags s refl)

pub none_and_some : {A : Type 0} (o : Option A) → (is_none o && is_some o) ≡ false
none_and_some None = refl
none_and_some (Some x) = refl

pub nothing_gone : (tags : List (ℕ × Tree)) → IsAscending tags → gone_keys tags tags ≡ []
nothing_gone tags s =
    same_keys_same (gone_keys tags tags) [] (sorted-filter (λ key. is_none (at key tags)) (keys_of tags) s) (sorted-ascending [])
    (λ k. has-gone k tags tags ∙ none_and_some (at k tags))
