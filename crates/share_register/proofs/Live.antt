-- Which sessions are live after one entry more.
use Rattle.std.proofs.Common.{◌≡◌, ◌≢◌, ℕ, suc, ◌+◌, ◌-◌, ◌<◌, ◌≤◌, ◌==◌, nat_lt, Bool, true, false, cond, not, ◌&&◌, ◌||◌, List, [], ◌∷◌, ◌++◌, count_by, sym, refl, ap, ◌∙◌, Option, Some, None, arith, eqb-true, eq-eqb, ne_eqb, ltb-true, zero-add}
use Rattle.std.proofs.lemmas.Bool.{and_parts, and_left, ltb-false, le-ltb}
use Rattle.std.proofs.lemmas.List.Folds.{list_any-append}
use Rattle.std.proofs.lemmas.List.Sums.{sum_by-cons, sum_by-append}
use Rattle.std.proofs.lemmas.Option.{none-some}
use Rattle.std.specs.List.{list_any}
use Rattle.std.specs.Option.{option_map_or}
use Rattle.item_model.specs.declared.changes.Edit.{Edit}
use Rattle.item_model.specs.declared.changes.Entry.{Entry}
use Rattle.item_model.specs.declared.changes.Entry.TheVariants.{Edits, Login, Logout, Stop}
use Rattle.share_history.specs.Marks.{is_orderly}
use Rattle.share_history.specs.Sessions.{is_login, is_login_of, logs_out, after_login, is_live}

abbrev pub logins : List Entry → ℕ
logins h = count_by is_login h

-- one more login or none
pub logins_more : (h : List Entry) (e : Entry) → logins (h ++ e ∷ []) ≡ logins h + cond (is_login e) 1 0
logins_more h e =
    let parts : logins (h ++ e ∷ []) ≡ logins h + (0 + cond (is_login e) 1 0) = sum_by-append (λ x. cond (is_login x) 1 0) h (e ∷ []) in
    parts ∙ ap (λ n. logins h + n) (zero-add (cond (is_login e) 1 0))

abbrev extended : List Entry → Option (List Entry) → Option (List Entry) → Option (List Entry)
extended more o d = option_map_or (λ rest. Some (rest ++ more)) o d

after_by : (b : Bool) (id : ℕ) (h more : List Entry) → after_login id (h ++ more) ≡ extended more (after_login id h) (after_login id more)
    → cond b (Some (h ++ more)) (after_login id (h ++ more)) ≡ extended more (cond b (Some h) (after_login id h)) (after_login id more)
after_by true id h more rest = refl
after_by false id h more rest = rest

-- what came after a login, of a longer history
pub after_more : (id : ℕ) (h more : List Entry) → after_login id (h ++ more) ≡ extended more (after_login id h) (after_login id more)
after_more id [] more = refl
after_more id (e ∷ h) more = after_by (is_login_of id e) id h more (after_more id h more)

placed_by : (b : Bool) (n id other : ℕ) (h rest : List Entry) → (other == id) ≡ b → other ≡ n → cond b (Some h) (after_login id h) ≡ Some rest
    → (after_login id h ≡ Some rest → (suc n ≤ id) × (logins rest + id + 1 ≡ suc n + logins h)) → (n ≤ id) × (logins rest + id + 1 ≡ n + (1 + logins h))
placed_by true n id other h rest same first after later =
    let is : other ≡ id = eqb-true other id same in
    let all : logins h ≡ logins rest = ap (λ (o : Option (List Entry)). option_map_or logins o 0) after in
    (omega arith, omega arith)
placed_by false n id other h rest same first after later = let l = later after in let a = l.0 in let b = l.1 in (omega arith, omega arith)

-- the number of logins after that of a session determines its id, if ids are given in order
pub placed : (n id : ℕ) (h rest : List Entry) → is_orderly n h ≡ true → after_login id h ≡ Some rest → (n ≤ id) × (logins rest + id + 1 ≡ n + logins h)
placed n id [] rest orderly after = absurd (none-some rest after)
placed n id (Edits p batch ∷ h) rest orderly after = let l = placed n id h rest orderly after in let a = l.0 in let b = l.1 in
    (omega arith, omega (arith, sum_by-cons (λ x. cond (is_login x) 1 0) (Edits p batch) h))
placed n id (Logout p other ∷ h) rest orderly after = let l = placed n id h rest (and_parts (nat_lt other n) (is_orderly n h) orderly).1 after in let a = l.0 in let b = l.1 in
    (omega arith, omega (arith, sum_by-cons (λ x. cond (is_login x) 1 0) (Logout p other) h))
placed n id (Stop p ∷ h) rest orderly after = let l = placed n id h rest orderly after in let a = l.0 in let b = l.1 in
    (omega arith, omega (arith, sum_by-cons (λ x. cond (is_login x) 1 0) (Stop p) h))
placed n id (Login p other ∷ h) rest orderly after =
    let parts = and_parts (other == n) (is_orderly (suc n) h) orderly in
    let l = placed_by (other == id) n id other h rest refl (eqb-true other n parts.0) after (placed (suc n) id h rest parts.1) in
    let a = l.0 in let b = l.1 in
    (omega arith, omega (arith, sum_by-cons (λ x. cond (is_login x) 1 0) (Login p other) h))

none_or : (o : Option (List Entry)) → ((rest : List Entry) → o ≡ Some rest → ⊥) → o ≡ None
none_or None never = refl
none_or (Some rest) never = absurd (never rest refl)

-- an id above the number of logins has no login
pub not_yet : (id : ℕ) (h : List Entry) → is_orderly 1 h ≡ true → logins h < id → after_login id h ≡ None
not_yet id h orderly above = none_or (after_login id h) (λ rest is. let l = (placed 1 id h rest orderly is).1 in omega arith)

pub never_0 : (h : List Entry) → is_orderly 1 h ≡ true → after_login 0 h ≡ None
never_0 h orderly = none_or (after_login 0 h) (λ rest is. let l = (placed 1 0 h rest orderly is).0 in omega arith)

-- and no logout
pub out_before : (n id : ℕ) (h : List Entry) → is_orderly n h ≡ true → n + logins h ≤ id → list_any (logs_out id) h ≡ false
out_before n id [] orderly above = refl
out_before n id (Edits p batch ∷ h) orderly above = out_before n id h orderly (omega (arith, sum_by-cons (λ x. cond (is_login x) 1 0) (Edits p batch) h))
out_before n id (Stop p ∷ h) orderly above = out_before n id h orderly (omega (arith, sum_by-cons (λ x. cond (is_login x) 1 0) (Stop p) h))
out_before n id (Login p other ∷ h) orderly above =
    out_before (suc n) id h (and_parts (other == n) (is_orderly (suc n) h) orderly).1 (omega (arith, sum_by-cons (λ x. cond (is_login x) 1 0) (Login p other) h))
out_before n id (Logout p other ∷ h) orderly above =
    let parts = and_parts (nat_lt other n) (is_orderly n h) orderly in
    let below = ltb-true other n parts.0 in
    ap (λ b. b || list_any (logs_out id) h) (ne_eqb other id (λ is. omega arith))
    ∙ out_before n id h parts.1 (omega (arith, sum_by-cons (λ x. cond (is_login x) 1 0) (Logout p other) h))

-- ---- liveness after one entry more

abbrev few : List Entry → Bool
few rest = nat_lt (logins rest) 64

or_false : (b : Bool) → (b || false) ≡ b
or_false true = refl
or_false false = refl

-- the parts of the test
live_more : (h : List Entry) (e : Entry) (id : ℕ) → is_live (h ++ e ∷ []) id ≡ (option_map_or few (extended (e ∷ []) (after_login id h) (after_login id (e ∷ []))) false && not (list_any (logs_out id) h || logs_out id e))
live_more h e id = λ i. option_map_or few (after_more id h (e ∷ []) i) false && not ((list_any-append (logs_out id) h (e ∷ []) ∙ ap (λ b. list_any (logs_out id) h || b) (or_false (logs_out id e))) i)

few_same : (o : Option (List Entry)) (e : Entry) → is_login e ≡ false → option_map_or few (extended (e ∷ []) o None) false ≡ option_map_or few o false
few_same None e quiet = refl
few_same (Some rest) e quiet = ap (λ n. nat_lt n 64) (logins_more rest e ∙ ap (λ b. logins rest + cond b 1 0) quiet ∙ (let z : logins rest + 0 ≡ logins rest = omega arith in z))

-- edits and a stop leave the sessions as they were
pub live_edits : (h : List Entry) (p : ℕ) (batch : List Edit) (id : ℕ) → is_live (h ++ Edits p batch ∷ []) id ≡ is_live h id
live_edits h p batch id = live_more h (Edits p batch) id
    ∙ (λ i. few_same (after_login id h) (Edits p batch) refl i && not (or_false (list_any (logs_out id) h) i))

pub live_stop : (h : List Entry) (p id : ℕ) → is_live (h ++ Stop p ∷ []) id ≡ is_live h id
live_stop h p id = live_more h (Stop p) id ∙ (λ i. few_same (after_login id h) (Stop p) refl i && not (or_false (list_any (logs_out id) h) i))

and_not : (a b c : Bool) → (a && not (b || c)) ≡ ((a && not b) && not c)
and_not true true true = refl
and_not true true false = refl
and_not true false true = refl
and_not true false false = refl
and_not false true true = refl
and_not false true false = refl
and_not false false true = refl
and_not false false false = refl

-- a logout ends only its session
pub live_out : (h : List Entry) (p x id : ℕ) → is_live (h ++ Logout p x ∷ []) id ≡ (is_live h id && not (x == id))
live_out h p x id = live_more h (Logout p x) id
    ∙ (ap (λ a. a && not (list_any (logs_out id) h || (x == id))) (few_same (after_login id h) (Logout p x) refl)
    ∙ and_not (option_map_or few (after_login id h) false) (list_any (logs_out id) h) (x == id))

-- a login with the next id is live
pub live_new : (h : List Entry) (p x : ℕ) → is_orderly 1 h ≡ true → x ≡ logins h + 1 → is_live (h ++ Login p x ∷ []) x ≡ true
live_new h p x orderly next = live_more h (Login p x) x
    ∙ (λ i. option_map_or few (extended (Login p x ∷ []) (not_yet x h orderly (omega arith) i) (cond (eq-eqb x x refl i) (Some []) None)) false && not (or_false (out_before 1 x h orderly (omega arith) i) i))

few_others : (o : Option (List Entry)) (p x id : ℕ) → id ≢ x → ((rest : List Entry) → o ≡ Some rest → nat_lt (logins rest + 1) 64 ≡ nat_lt (logins rest) 64)
    → option_map_or few (extended (Login p x ∷ []) o (after_login id (Login p x ∷ []))) false ≡ option_map_or few o false
few_others None p x id other same = ap (λ b. option_map_or few (cond b (Some []) None) false) (ne_eqb x id (λ is. other (sym is)))
few_others (Some rest) p x id other same = ap (λ n. nat_lt n 64) (logins_more rest (Login p x)) ∙ same rest refl

both_less : (a b : ℕ) → (a < 64 → b < 64) → (b < 64 → a < 64) → nat_lt a 64 ≡ nat_lt b 64
both_less a b there back = less_by (nat_lt a 64) (nat_lt b 64) refl refl
  where
    less_by : (c d : Bool) → nat_lt a 64 ≡ c → nat_lt b 64 ≡ d → nat_lt a 64 ≡ nat_lt b 64
    less_by true true e f = e ∙ sym f
    less_by false false e f = e ∙ sym f
    less_by true false e f = absurd (let l = there (ltb-true a 64 e) in let m = ltb-false b 64 f in omega arith)
    less_by false true e f = absurd (let l = back (ltb-true b 64 f) in let m = ltb-false a 64 e in omega arith)

-- it ends the one session that is 64 logins back
pub live_others : (h : List Entry) (p x id : ℕ) → is_orderly 1 h ≡ true → x ≡ logins h + 1 → id ≢ x → id + 64 ≢ x → is_live (h ++ Login p x ∷ []) id ≡ is_live h id
live_others h p x id orderly next other far = live_more h (Login p x) id
    ∙ (λ i. few_others (after_login id h) p x id other (λ rest is. both_less (logins rest + 1) (logins rest)
    (λ l. omega arith)
    (λ l. let at = (placed 1 id h rest orderly is).1 in omega arith)) i && not (or_false (list_any (logs_out id) h) i))

few_gone : (o : Option (List Entry)) (p x id : ℕ) → id ≢ x → ((rest : List Entry) → o ≡ Some rest → 64 ≤ logins rest + 1) → option_map_or few (extended (Login p x ∷ []) o (after_login id (Login p x ∷ []))) false ≡ false
few_gone None p x id other many = ap (λ b. option_map_or few (cond b (Some []) None) false) (ne_eqb x id (λ is. other (sym is)))
few_gone (Some rest) p x id other many = ap (λ n. nat_lt n 64) (logins_more rest (Login p x)) ∙ le-ltb (logins rest + 1) 64 (many rest refl)

pub live_gone : (h : List Entry) (p x id : ℕ) → is_orderly 1 h ≡ true → x ≡ logins h + 1 → id ≡ x - 64 → is_live (h ++ Login p x ∷ []) id ≡ false
live_gone h p x id orderly next is = live_more h (Login p x) id
    ∙ and_left _ _ (few_gone (after_login id h) p x id (λ same. omega arith) (λ rest after. let l = placed 1 id h rest orderly after in let a = l.0 in let b = l.1 in omega arith))
