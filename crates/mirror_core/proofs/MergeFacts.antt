-- Held rows and changes, both ascending by key, merged: the same as making the changes one by one.
use Rattle.std.proofs.Common.{◌≡◌, ℕ, ◌<◌, Bool, true, false, cond, List, [], ◌∷◌, fold, length, refl, sym, ap, ◌∙◌, Option, Some, None, unwrap_or, Less, Equal, Greater, nat_cmp, is_eq, arith}
use Rattle.std.specs.Ordering.{match_ordering, ordering_reverse}
use Rattle.std.specs.Cmp.{nat_cmp_total}
use Rattle.std.specs.List.{AllByRecursion}
use Rattle.std.specs.Map.{keys_of}
use Rattle.std.proofs.lemmas.Map.Lookups.{exact_unsigned}
use Rattle.std.proofs.lemmas.Map.{lookup-none}
use Rattle.std.proofs.lemmas.Map.Keys.{sorted_tail, sorted_head}
use Rattle.std.proofs.lemmas.Map.Entries.{none_below_head}
use Rattle.dmap_tags.specs.Tree.{Tree}
use Rattle.share_history.specs.Keyed.{at, put_in, taken_out, IsAscending}
use Rattle.share_history.proofs.KeyedFacts.{past_head, same_pairs, same_key, at-put, ascending-put, at-out, ascending-out, sorted-ascending, ascending-puts, ascending-outs}
use Rattle.mirror_core.specs.Changes.{Change, with_gone, with_row, changes_of, put_change, changed, past_row, merged, next_order, with_next}

-- ---- one step of the merge

pub less_next : (row : ℕ × Tree) (rest : List Change → List (ℕ × Tree)) (cs : List Change) → next_order row.0 cs ≡ Less → past_row row rest cs ≡ with_next (past_row row rest) cs
less_next row rest [] h = absurd (cc)
less_next row rest (c ∷ cs) h = ap (λ r. match_ordering r (put_change c (past_row row rest cs)) (put_change c (rest cs)) (row ∷ rest (c ∷ cs))) h

pub equal_next : (row : ℕ × Tree) (rest : List Change → List (ℕ × Tree)) (cs : List Change) → next_order row.0 cs ≡ Equal → past_row row rest cs ≡ with_next rest cs
equal_next row rest [] h = absurd (cc)
equal_next row rest (c ∷ cs) h = ap (λ r. match_ordering r (put_change c (past_row row rest cs)) (put_change c (rest cs)) (row ∷ rest (c ∷ cs))) h

pub greater_next : (row : ℕ × Tree) (rest : List Change → List (ℕ × Tree)) (cs : List Change) → next_order row.0 cs ≡ Greater → past_row row rest cs ≡ row ∷ rest cs
greater_next row rest [] h = refl
greater_next row rest (c ∷ cs) h = ap (λ r. match_ordering r (put_change c (past_row row rest cs)) (put_change c (rest cs)) (row ∷ rest (c ∷ cs))) h

pub some_next : (key : ℕ) (cs : List Change) → next_order key cs ≡ Less → 0 < length cs
some_next key [] h = absurd (cc)
some_next key (c ∷ cs) h = omega arith

pub next_changed : (cs : List Change) → with_next changed cs ≡ changed cs
next_changed [] = refl
next_changed (c ∷ cs) = refl

-- ---- changes one by one

abbrev make : List (ℕ × Tree) → Change → List (ℕ × Tree)
make rows (key, None) = taken_out rows key
make rows (key, Some tag) = put_in rows (key, tag)

ascending-make : (c : Change) (rows : List (ℕ × Tree)) → IsAscending rows → IsAscending (make rows c)
ascending-make (key, None) rows s = ascending-out key rows s
ascending-make (key, Some tag) rows s = ascending-put (key, tag) rows s

ascending-made : (rows : List (ℕ × Tree)) (cs : List Change) → IsAscending rows → IsAscending (fold make rows cs)
ascending-made rows [] s = s
ascending-made rows (c ∷ cs) s = ascending-made (make rows c) cs (ascending-make c rows s)

at-make : (q : ℕ) (c : Change) (rows : List (ℕ × Tree)) → IsAscending rows → at q (make rows c) ≡ cond (is_eq (nat_cmp q c.0)) c.1 (at q rows)
at-make q (key, None) rows s = at-out q key rows s
at-make q (key, Some tag) rows s = at-put q (key, tag) rows

-- nothing is under a key that is below all keys
below_none : {X : Type 0} (q : ℕ) (e : ℕ × X) (es : List (ℕ × X)) → IsAscending (e ∷ es) → nat_cmp q e.0 ≡ Less → at q (e ∷ es) ≡ None
below_none q e es s p = lookup-none _ (e ∷ es) (none_below_head nat_cmp_total q e es s p)

one_made : {X : Type 0} (b : Bool) (said : Option X) (later : Option (Option X)) (old : Option X) → (b ≡ true → later ≡ None)
    → unwrap_or later (cond b said old) ≡ unwrap_or (cond b (Some said) later) old
one_made true said later old h = ap (λ l. unwrap_or l said) (h refl)
one_made false said later old h = refl

at-made : (q : ℕ) (rows : List (ℕ × Tree)) (cs : List Change) → IsAscending rows → IsAscending cs → at q (fold make rows cs) ≡ unwrap_or (at q cs) (at q rows)
at-made q rows [] s t = refl
at-made q rows (c ∷ cs) s t =
    at-made q (make rows c) cs (ascending-make c rows s) (sorted_tail nat_cmp c.0 (keys_of cs) t)
    ∙ ap (unwrap_or (at q cs)) (at-make q c rows s)
    ∙ one_made (is_eq (nat_cmp q c.0)) c.1 (at q cs) (at q rows) (past_head q c cs t)

-- the first row stays if all changes have higher keys
make_behind : (row : ℕ × Tree) (c : Change) (rows : List (ℕ × Tree)) → nat_cmp c.0 row.0 ≡ Greater → make (row ∷ rows) c ≡ row ∷ make rows c
make_behind row (key, None) rows p = ap (λ r. cond (is_eq r) rows (row ∷ taken_out rows key)) p
make_behind row (key, Some tag) rows p = ap (λ r. match_ordering r ((key, tag) ∷ row ∷ rows) ((row.0, tag) ∷ rows) (row ∷ put_in rows (key, tag))) p

above : (k : ℕ) (key : ℕ) → nat_cmp k key ≡ Less → nat_cmp key k ≡ Greater
above k key p = nat_cmp_total.antisymm key k ∙ ap ordering_reverse p

made_behind : (row : ℕ × Tree) (cs : List Change) (rows : List (ℕ × Tree)) → AllByRecursion (λ k. nat_cmp row.0 k ≡ Less) (keys_of cs) → fold make (row ∷ rows) cs ≡ row ∷ fold make rows cs
made_behind row [] rows all = refl
made_behind row (c ∷ cs) rows all = ap (λ rs. fold make rs cs) (make_behind row c rows (above row.0 c.0 all.0)) ∙ made_behind row cs (make rows c) all.1

-- a row before all others is put before them, and a key that is before them isn't there
out_below : (key : ℕ) (row : ℕ × Tree) (rows : List (ℕ × Tree)) → IsAscending (row ∷ rows) → nat_cmp key row.0 ≡ Less → taken_out (row ∷ rows) key ≡ row ∷ rows
out_below key row rows s p =
    same_pairs (taken_out (row ∷ rows) key) (row ∷ rows) (ascending-out key (row ∷ rows) s) s
    (λ q. at-out q key (row ∷ rows) s ∙ none_there (is_eq (nat_cmp q key)) (at q (row ∷ rows)) (λ b. ap (λ k. at k (row ∷ rows)) (same_key q key b) ∙ below_none key row rows s p))
  where
    none_there : (b : Bool) (found : Option Tree) → (b ≡ true → found ≡ None) → cond b None found ≡ found
    none_there true found h = sym (h refl)
    none_there false found h = refl

change_below : (c : Change) (cs : List Change) (row : ℕ × Tree) (rows : List (ℕ × Tree)) → IsAscending (row ∷ rows) → IsAscending (c ∷ cs) → nat_cmp c.0 row.0 ≡ Less
    → put_change c (fold make (row ∷ rows) cs) ≡ fold make (make (row ∷ rows) c) cs
change_below (key, None) cs row rows s t p = ap (λ rs. fold make rs cs) (sym (out_below key row rows s p))
change_below (key, Some tag) cs row rows s t p =
    sym (made_behind (key, tag) cs (row ∷ rows) (sorted_head nat_cmp key (keys_of cs) t))
    ∙ ap (λ r. fold make (match_ordering r ((key, tag) ∷ row ∷ rows) ((row.0, tag) ∷ rows) (row ∷ put_in rows (key, tag))) cs) (sym p)

change_at : (c : Change) (cs : List Change) (row : ℕ × Tree) (rows : List (ℕ × Tree)) → IsAscending (c ∷ cs) → nat_cmp c.0 row.0 ≡ Equal
    → put_change c (fold make rows cs) ≡ fold make (make (row ∷ rows) c) cs
change_at (key, None) cs row rows t p = ap (λ r. fold make (cond (is_eq r) rows (row ∷ taken_out rows key)) cs) (sym p)
change_at (key, Some tag) cs row rows t p =
    sym (made_behind (key, tag) cs rows (sorted_head nat_cmp key (keys_of cs) t))
    ∙ ap (λ k. fold make ((k, tag) ∷ rows) cs) (exact_unsigned key row.0 p)
    ∙ ap (λ r. fold make (match_ordering r ((key, tag) ∷ row ∷ rows) ((row.0, tag) ∷ rows) (row ∷ put_in rows (key, tag))) cs) (sym p)

change_alone : (c : Change) (cs : List Change) → IsAscending (c ∷ cs) → put_change c (fold make [] cs) ≡ fold make (make [] c) cs
change_alone (key, None) cs t = refl
change_alone (key, Some tag) cs t = sym (made_behind (key, tag) cs [] (sorted_head nat_cmp key (keys_of cs) t))

changed_made : (cs : List Change) → IsAscending cs → changed cs ≡ fold make [] cs
changed_made [] t = refl
changed_made (c ∷ cs) t = ap (put_change c) (changed_made cs (sorted_tail nat_cmp c.0 (keys_of cs) t)) ∙ change_alone c cs t

all_behind : (row : ℕ × Tree) (c : Change) (cs : List Change) → IsAscending (c ∷ cs) → nat_cmp row.0 c.0 ≡ Less → AllByRecursion (λ k. nat_cmp row.0 k ≡ Less) (keys_of (c ∷ cs))
all_behind row c cs t p = (p, weaker (keys_of cs) (sorted_head nat_cmp c.0 (keys_of cs) t))
  where
    weaker : (ks : List ℕ) → AllByRecursion (λ k. nat_cmp c.0 k ≡ Less) ks → AllByRecursion (λ k. nat_cmp row.0 k ≡ Less) ks
    weaker [] all = tt
    weaker (k ∷ ks) all = (nat_cmp_total.trans row.0 c.0 k p all.0, weaker ks all.1)

past_row_made : (row : ℕ × Tree) (rows : List (ℕ × Tree)) (rest : List Change → List (ℕ × Tree)) → IsAscending (row ∷ rows)
    → ((cs : List Change) → IsAscending cs → rest cs ≡ fold make rows cs)
    → (cs : List Change) → IsAscending cs → past_row row rest cs ≡ fold make (row ∷ rows) cs
past_row_made row rows rest s h [] t = ap (λ rs. row ∷ rs) (h [] t)
past_row_made row rows rest s h (c ∷ cs) t =
    let later = sorted_tail nat_cmp c.0 (keys_of cs) t in
    elim (nat_cmp c.0 row.0) as (λ r. nat_cmp c.0 row.0 ≡ r → match_ordering r (put_change c (past_row row rest cs)) (put_change c (rest cs)) (row ∷ rest (c ∷ cs)) ≡ fold make (row ∷ rows) (c ∷ cs)) [
      | Less ↦ λ p. ap (put_change c) (past_row_made row rows rest s h cs later) ∙ change_below c cs row rows s t p
      | Equal ↦ λ p. ap (put_change c) (h cs later) ∙ change_at c cs row rows t p
      | Greater ↦ λ p. ap (λ rs. row ∷ rs) (h (c ∷ cs) t) ∙ sym (made_behind row (c ∷ cs) rows (all_behind row c cs t (nat_cmp_total.antisymm row.0 c.0 ∙ ap ordering_reverse p)))
    ] refl

merged_made : (rows : List (ℕ × Tree)) (cs : List Change) → IsAscending rows → IsAscending cs → merged rows cs ≡ fold make rows cs
merged_made [] cs s t = changed_made cs t
merged_made (row ∷ rows) cs s t =
    past_row_made row rows (merged rows) s (λ ds u. merged_made rows ds (sorted_tail nat_cmp row.0 (keys_of rows) s) u) cs t

-- ---- the changes of a listing

ascending-gone : (cs : List Change) (gone : List ℕ) → IsAscending cs → IsAscending (fold with_gone cs gone)
ascending-gone cs [] t = t
ascending-gone cs (key ∷ gone) t = ascending-gone (with_gone cs key) gone (ascending-put (key, None) cs t)

ascending-rows : (cs : List Change) (rows : List (ℕ × Tree)) → IsAscending cs → IsAscending (fold with_row cs rows)
ascending-rows cs [] t = t
ascending-rows cs (row ∷ rows) t = ascending-rows (with_row cs row) rows (ascending-put (row.0, Some row.1) cs t)

pub ascending-changes : (gone : List ℕ) (rows : List (ℕ × Tree)) → IsAscending (changes_of gone rows)
ascending-changes gone rows = ascending-rows (fold with_gone [] gone) rows (ascending-gone [] gone (sorted-ascending []))

change_again : {X : Type 0} (b : Bool) (said : Option X) (change : Option (Option X)) (old : Option X)
    → unwrap_or (cond b (Some said) change) old ≡ cond b said (unwrap_or change old)
change_again true said change old = refl
change_again false said change old = refl

-- the changes say what becomes of some rows
abbrev Say : List Change → List (ℕ × Tree) → List (ℕ × Tree) → Type 0
Say cs old new = (q : ℕ) → at q new ≡ unwrap_or (at q cs) (at q old)

say-gone : (old new : List (ℕ × Tree)) (cs : List Change) (gone : List ℕ) → IsAscending new → Say cs old new → Say (fold with_gone cs gone) old (fold taken_out new gone)
say-gone old new cs [] s h = h
say-gone old new cs (key ∷ gone) s h =
    say-gone old (taken_out new key) (with_gone cs key) gone (ascending-out key new s)
    (λ q.
    at-out q key new s ∙ ap (cond (is_eq (nat_cmp q key)) None) (h q) ∙ sym (change_again (is_eq (nat_cmp q key)) None (at q cs) (at q old))
    ∙ ap (λ c. unwrap_or c (at q old)) (sym (at-put q (key, None) cs)))

say-rows : (old new : List (ℕ × Tree)) (cs : List Change) (rows : List (ℕ × Tree)) → Say cs old new → Say (fold with_row cs rows) old (fold put_in new rows)
say-rows old new cs [] h = h
say-rows old new cs (row ∷ rows) h =
    say-rows old (put_in new row) (with_row cs row) rows
    (λ q.
    at-put q row new ∙ ap (cond (is_eq (nat_cmp q row.0)) (Some row.1)) (h q) ∙ sym (change_again (is_eq (nat_cmp q row.0)) (Some row.1) (at q cs) (at q old))
    ∙ ap (λ c. unwrap_or c (at q old)) (sym (at-put q (row.0, Some row.1) cs)))

-- merging the changes of a listing deletes its keys and then puts its rows
pub merged_changes : (held : List (ℕ × Tree)) (gone : List ℕ) (rows : List (ℕ × Tree)) → IsAscending held
    → merged held (changes_of gone rows) ≡ fold put_in (fold taken_out held gone) rows
merged_changes held gone rows s =
    merged_made held (changes_of gone rows) s (ascending-changes gone rows)
    ∙ same_pairs (fold make held (changes_of gone rows)) (fold put_in (fold taken_out held gone) rows)
    (ascending-made held (changes_of gone rows) s) (ascending-puts (fold taken_out held gone) rows (ascending-outs held gone s))
    (λ q.
    at-made q held (changes_of gone rows) s (ascending-changes gone rows)
    ∙ sym (say-rows held (fold taken_out held gone) (fold with_gone [] gone) rows (say-gone held held [] gone s (λ k. refl)) q))

pub nothing_gone : (gone : List ℕ) → fold (taken_out {A = Tree}) [] gone ≡ []
nothing_gone [] = refl
nothing_gone (key ∷ gone) = nothing_gone gone

-- a full listing starts from no rows, and a delta from the held ones
pub rows_taken : (is_delta : Bool) (held : List (ℕ × Tree)) (gone : List ℕ) (rows : List (ℕ × Tree)) → IsAscending held
    → merged (cond is_delta held []) (changes_of gone rows) ≡ fold put_in (cond is_delta (fold taken_out held gone) []) rows
rows_taken true held gone rows s = merged_changes held gone rows s
rows_taken false held gone rows s = merged_changes [] gone rows (sorted-ascending []) ∙ ap (λ rs. fold put_in rs rows) (nothing_gone gone)
