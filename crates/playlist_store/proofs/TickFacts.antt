-- How often rules are evaluated.
use Rattle.std.proofs.Common.{◌≡◌, ◌≤◌, ◌<◌, ◌+◌, ◌⊎◌, inl, inr, ℕ, Bool, true, false, cond, ◌==◌, List, [], ◌∷◌, ◌++◌, length, map, Option, Some, None, refl, sym, ap, subst, ◌∙◌, ⊎_elim, true≢false, eqb-true, nat_cmp, is_eq, arith}
use Rattle.std.specs.Prelude.{nat_lt}
use Rattle.std.specs.Option.{option_map, option_map_or}
use Rattle.std.specs.List.{list_any, sum_by}
use Rattle.std.proofs.lemmas.Bool.{cases_Bool, cases_lt, lt-ltb, le-ltb}
use Rattle.std.proofs.lemmas.List.Sums.{sum_by-cons}
use Rattle.std.proofs.lemmas.Map.Entries.{length-keys_of}
use Rattle.item_model.specs.declared.changes.Edit.{Edit}
use Rattle.share_history.specs.Keyed.{at}
use Rattle.share_history.specs.Histories.{edits}
use Rattle.share_history.specs.LastSaid.{Playlist, Plain, Ruled, list_at, member_at}
use Rattle.share_history.specs.Named.{names_list}
use Rattle.share_history.specs.Rows.{library, lists}
use Rattle.share_history.proofs.KeyedFacts.{same_key, is_eq-cmp, key_itself}
use Rattle.share_history.proofs.EditFacts.{edits_more}
use Rattle.share_history.proofs.RowFacts.{at-lists}
use Rattle.item_store.specs.Stands.{named_items}
use Rattle.playlist_store.specs.declared.kept.ListVersion.{ListVersion}
use Rattle.playlist_store.specs.Words.{head_of}
use Rattle.playlist_store.specs.Tests.{tests_for, tests_of}
use Rattle.playlist_store.specs.Lists.{Lists, top, since_of, has_rule}
use Rattle.playlist_store.specs.Store.{Store}
use Rattle.playlist_store.specs.Stands.{StandsFor}
use Rattle.playlist_store.specs.Changes.{TellsOne, Tells, tested_ids, ticks_in, allowed, puts_rule}
use Rattle.playlist_store.proofs.StandFacts.{since_now, tells_start}

-- the numbers under keys below one
abbrev pub below : ℕ → ℕ × ℕ → ℕ
below reach e = cond (nat_lt e.0 reach) e.1 0

pub sum_more : (most : List (ℕ × ℕ)) (reach c : ℕ) → reach ≤ c → sum_by (below reach) most + allowed c most ≤ sum_by (below (c + 1)) most
sum_more [] reach c le = omega arith
sum_more (e ∷ es) reach c le =
    omega (arith, sum_more es reach c le, one (cases_lt e.0 reach) (cases_Bool (e.0 == c)), sum_by-cons (below reach) e es, sum_by-cons (below (c + 1)) e es, sum_by-cons (λ (e : ℕ × ℕ). cond (e.0 == c) e.1 0) e es)
  where
    one : (e.0 < reach) ⊎ (reach ≤ e.0) → ((e.0 == c) ≡ true) ⊎ ((e.0 == c) ≡ false) → below reach e + cond (e.0 == c) e.1 0 ≤ below (c + 1) e
    one (inl lt) (inl is) = absurd (let same : e.0 ≡ c = eqb-true e.0 c is in let no : ⊥ = omega (arith, lt, same, le) in no)
    one (inl lt) (inr other) =
        let a : below reach e ≡ e.1 = ap (λ b. cond b e.1 0) (lt-ltb e.0 reach lt) in
        let b : cond (e.0 == c) e.1 0 ≡ 0 = ap (λ b. cond b e.1 0) other in
        let d : below (c + 1) e ≡ e.1 = ap (λ b. cond b e.1 0) (lt-ltb e.0 (c + 1) (omega (arith, lt, le))) in
        omega (arith, a, b, d)
    one (inr from) (inl is) =
        let same : e.0 ≡ c = eqb-true e.0 c is in
        let a : below reach e ≡ 0 = ap (λ b. cond b e.1 0) (le-ltb e.0 reach from) in
        let b : cond (e.0 == c) e.1 0 ≡ e.1 = ap (λ b. cond b e.1 0) is in
        let d : below (c + 1) e ≡ e.1 = ap (λ b. cond b e.1 0) (lt-ltb e.0 (c + 1) (omega (arith, same))) in
        omega (arith, a, b, d)
    one (inr from) (inr other) =
        let a : below reach e ≡ 0 = ap (λ b. cond b e.1 0) (le-ltb e.0 reach from) in
        let b : cond (e.0 == c) e.1 0 ≡ 0 = ap (λ b. cond b e.1 0) other in
        omega (arith, a, b)

pub sum_whole : (most : List (ℕ × ℕ)) (reach : ℕ) → sum_by (below reach) most ≤ sum_by (λ e. e.1) most
sum_whole [] reach = omega arith
sum_whole (e ∷ es) reach = omega (arith, sum_whole es reach, one (nat_lt e.0 reach), sum_by-cons (below reach) e es, sum_by-cons (λ (e : ℕ × ℕ). e.1) e es)
  where
    one : (b : Bool) → cond b e.1 0 ≤ e.1
    one true = omega arith
    one false = omega arith

-- a list that is there has its own number
allowed_some : (f : ℕ × Playlist → ℕ) (c : ℕ) (v : Playlist) (ps : List (ℕ × Playlist)) → at c ps ≡ Some v → f (c, v) ≤ allowed c (map (λ p. (p.0, f p)) ps)
allowed_some f c v [] h = absurd (cc)
allowed_some f c v (p ∷ ps) h =
    ⊎_elim
    (λ is.
    let here : c ≡ p.0 = same_key c p.0 is in
    let value : p.1 ≡ v = some_same (sym (ap (λ b. cond b (Some p.1) (at c ps)) is) ∙ h) in
    let number : f (c, v) ≡ f p = ap (λ k. f (k, v)) here ∙ ap (λ w. f (p.0, w)) (sym value) in
    let named : cond (p.0 == c) (f p) 0 ≡ f p = ap (λ b. cond b (f p) 0) (sym (is_eq-cmp c p.0) ∙ is) in
    omega (arith, number, named, more))
    (λ other. omega (arith, more, allowed_some f c v ps (sym (ap (λ b. cond b (Some p.1) (at c ps)) other) ∙ h)))
    (cases_Bool (is_eq (nat_cmp c p.0)))
  where
    more : allowed c (map (λ p. (p.0, f p)) (p ∷ ps)) ≡ cond (p.0 == c) (f p) 0 + allowed c (map (λ p. (p.0, f p)) ps)
    more = sum_by-cons (λ (e : ℕ × ℕ). cond (e.0 == c) e.1 0) (p.0, f p) (map (λ p. (p.0, f p)) ps)

    some_same : {x y : Playlist} → ◌≡◌ {A = Option Playlist} (Some x) (Some y) → x ≡ y
    some_same e = cc

sum_map : (f : ℕ × Playlist → ℕ) (ps : List (ℕ × Playlist)) → sum_by (λ (e : ℕ × ℕ). e.1) (map (λ p. (p.0, f p)) ps) ≡ sum_by f ps
sum_map f [] = refl
sum_map f (p ∷ ps) = sum_by-cons (λ (e : ℕ × ℕ). e.1) (p.0, f p) (map (λ p. (p.0, f p)) ps) ∙ ap (λ n. f p + n) (sum_map f ps) ∙ sym (sum_by-cons f p ps)

rule_of : (l : Option Playlist) → has_rule (option_map head_of l) ≡ true → (p : Playlist) × (l ≡ Some p) × ((es batch : List Edit) (c : ℕ) → tests_for es batch c p ≡ cond (list_any (names_list c) batch) (length (library es)) (length (named_items batch)))
rule_of None h = absurd (true≢false (sym h))
rule_of (Some (Plain name)) h = absurd (true≢false (sym h))
rule_of (Some (Ruled name rule)) h = (Ruled name rule, refl, λ es batch c. refl)

-- the numbers of the lists that are there
abbrev pub most_of : (es batch : List Edit) → List (ℕ × ℕ)
most_of es batch = map (λ p. (p.0, tests_for es batch p.0 p.1)) (lists es)

ticks_few : (n c : ℕ) (es batch : List Edit) (named : Bool) (m : ℕ → Option ℕ) (rule : Bool) (old : Option ListVersion) → list_any (names_list c) batch ≡ named → since_of old < n
    → (x : Option ListVersion) → TellsOne n (list_at es c) m named rule old x → option_map_or (ticks_in n es (named_items batch)) x 0 ≤ allowed c (most_of es batch)
ticks_few n c es batch named m rule old is lt None t = omega arith
ticks_few n c es batch named m rule old is lt (Some k) t =
    ⊎_elim
    (λ ruled.
    let r = rule_of (list_at es c) (ap has_rule (sym t.heads) ∙ ruled) in
    let few = allowed_some (λ p. tests_for es batch p.0 p.1) c r.0 (lists es) (at-lists es c ∙ r.1) in
    let ticks : ticks_in n es (named_items batch) k ≡ length (tested_ids (k.since == n) es (named_items batch)) = ap (λ b. cond b (length (tested_ids (k.since == n) es (named_items batch))) 0) ruled in
    let same : length (tested_ids (k.since == n) es (named_items batch)) ≡ cond (list_any (names_list c) batch) (length (library es)) (length (named_items batch)) = looked named is t.since in
    omega (arith, few, ticks, same, r.2 es batch c))
    (λ none.
    let ticks : ticks_in n es (named_items batch) k ≡ 0 = ap (λ b. cond b (length (tested_ids (k.since == n) es (named_items batch))) 0) none in omega (arith, ticks))
    (cases_Bool (has_rule k.head))
  where
    looked : (b : Bool) → list_any (names_list c) batch ≡ b → k.since ≡ cond b n (since_of old)
        → length (tested_ids (k.since == n) es (named_items batch)) ≡ cond (list_any (names_list c) batch) (length (library es)) (length (named_items batch))
    looked true is since =
        ap (λ x. length (tested_ids x es (named_items batch))) (ap (λ s. s == n) since ∙ sym (is_eq-cmp n n) ∙ key_itself n)
        ∙ length-keys_of (library es) ∙ sym (ap (λ b. cond b (length (library es)) (length (named_items batch))) is)
    looked false is since =
        ap (λ x. length (tested_ids x es (named_items batch)))
        (⊎_elim (λ same. absurd (let e : k.since ≡ n = eqb-true k.since n same in let no : ⊥ = omega (arith, e, since, lt) in no)) (λ other. other) (cases_Bool (k.since == n)))
        ∙ sym (ap (λ b. cond b (length (library es)) (length (named_items batch))) is)

pub batch_ticks : (bs : List (List Edit)) (batch : List Edit) (s : Store) (n : ℕ) → StandsFor bs s → n ≡ s.revision + 1 → (mid : Lists)
    → ((es : List Edit) → Tells n es [] s.lists s.lists → Tells n (es ++ batch) batch s.lists mid)
    → (c : ℕ) → option_map_or (ticks_in n (edits (bs ++ batch ∷ [])) (named_items batch)) (top mid c) 0 ≤ allowed c (most_of (edits (bs ++ batch ∷ [])) batch)
batch_ticks bs batch s n h next mid told c =
    let es : List Edit = edits (bs ++ batch ∷ []) in
    let t : Tells n es batch s.lists mid = subst (λ ds. Tells n ds batch s.lists mid) (sym (edits_more bs batch)) (told (edits bs) (tells_start h n next)) in
    ticks_few n c (edits (bs ++ batch ∷ [])) batch (list_any (names_list c) batch) (member_at (edits (bs ++ batch ∷ [])) c) (list_any puts_rule batch) (top s.lists c) refl
    (omega (arith, since_now h c, next)) (top mid c) (t c)

pub batch_cost : (es batch : List Edit) (before after : ℕ) → after ≤ before + sum_by (λ e. e.1) (most_of es batch) → after ≤ before + tests_of es batch
batch_cost es batch before after h = subst (λ n. after ≤ before + n) (sum_map (λ p. tests_for es batch p.0 p.1) (lists es)) h

-- one list more
pub tick_next : (most : List (ℕ × ℕ)) (reach c before mid after ticks : ℕ) → reach ≤ c → mid ≤ before + sum_by (below reach) most → after ≤ mid + ticks → ticks ≤ allowed c most
    → after ≤ before + sum_by (below (c + 1)) most
tick_next most reach c before mid after ticks le so_far one few = omega (arith, so_far, one, few, sum_more most reach c le)

pub tick_end : (most : List (ℕ × ℕ)) (reach before after : ℕ) → after ≤ before + sum_by (below reach) most → after ≤ before + sum_by (λ e. e.1) most
tick_end most reach before after h = omega (arith, h, sum_whole most reach)
