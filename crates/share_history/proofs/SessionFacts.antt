-- The entries that count for the limit, the order of logins, and last-answered lengths.
use Rattle.std.proofs.Common.{◌≡◌, ◌≤◌, true, nat_lt, arith, ℕ, suc, Bool, false, inl, inr, None, ◌+◌, ◌++◌, ◌==◌, eq-eqb, eqb-true, refl, [], ◌∷◌, sym, ◌∙◌, length, cond, count_by, List, ap, Some}
use Rattle.std.proofs.lemmas.Bool.{and_from, and_parts, cases_Bool}
use Rattle.std.proofs.lemmas.List.Sums.{sum_by-cons}
use Rattle.item_model.specs.declared.changes.Entry.{Entry}
use Rattle.item_model.specs.declared.changes.Entry.TheVariants.{Edits, Login, Logout, Stop}
use Rattle.share_history.specs.Histories.{batches}
use Rattle.share_history.specs.Limits.{is_limited}
use Rattle.share_history.specs.Keyed.{at, put_in}
use Rattle.share_history.specs.Laws.{LoginsStayOrderly, MarksFollowAnswers}
use Rattle.share_history.specs.Marks.{Marks, is_orderly}
use Rattle.share_history.specs.Sessions.{is_login, is_live}
use Rattle.share_history.proofs.KeyedFacts.{at-filter, at-put, is_eq-cmp}

-- each batch counts
pub few_batches : (h : List Entry) → length (batches h) ≤ count_by is_limited h
few_batches [] = omega arith
few_batches (Edits by batch ∷ h) = omega (arith, few_batches h, sum_by-cons (λ x. cond (is_limited x) 1 0) (Edits by batch) h)
few_batches (Login by id ∷ h) = omega (arith, few_batches h, sum_by-cons (λ x. cond (is_limited x) 1 0) (Login by id) h)
few_batches (Logout by id ∷ h) = omega (arith, few_batches h, sum_by-cons (λ x. cond (is_limited x) 1 0) (Logout by id) h)
few_batches (Stop by ∷ h) = omega (arith, few_batches h, sum_by-cons (λ x. cond (is_limited x) 1 0) (Stop by) h)

-- and so does each login
pub few_logins : (h : List Entry) → count_by is_login h ≤ count_by is_limited h
few_logins [] = omega arith
few_logins (Edits by batch ∷ h) = omega (arith, few_logins h, sum_by-cons (λ e. cond (is_limited e) 1 0) (Edits by batch) h, sum_by-cons (λ e. cond (is_login e) 1 0) (Edits by batch) h)
few_logins (Login by id ∷ h) = omega (arith, few_logins h, sum_by-cons (λ e. cond (is_limited e) 1 0) (Login by id) h, sum_by-cons (λ e. cond (is_login e) 1 0) (Login by id) h)
few_logins (Logout by id ∷ h) = omega (arith, few_logins h, sum_by-cons (λ e. cond (is_limited e) 1 0) (Logout by id) h, sum_by-cons (λ e. cond (is_login e) 1 0) (Logout by id) h)
few_logins (Stop by ∷ h) = omega (arith, few_logins h, sum_by-cons (λ e. cond (is_limited e) 1 0) (Stop by) h, sum_by-cons (λ e. cond (is_login e) 1 0) (Stop by) h)

-- a login with the next id keeps the ids in order
orderly_login : (next by id : ℕ) (h : List Entry) → id ≡ count_by is_login h + next → is_orderly next h ≡ true → is_orderly next (h ++ Login by id ∷ []) ≡ true
orderly_login next by id [] e o = and_from _ _ (eq-eqb id next (omega arith)) refl
orderly_login next by id (Edits p batch ∷ h) e o = orderly_login next by id h (omega (arith, sum_by-cons (λ x. cond (is_login x) 1 0) (Edits p batch) h)) o
orderly_login next by id (Login p other ∷ h) e o =
    let parts = and_parts (other == next) (is_orderly (suc next) h) o in
    and_from _ _ parts.0 (orderly_login (suc next) by id h (omega (arith, sum_by-cons (λ x. cond (is_login x) 1 0) (Login p other) h)) parts.1)
orderly_login next by id (Logout p other ∷ h) e o =
    let parts = and_parts (nat_lt other next) (is_orderly next h) o in
    and_from _ _ parts.0 (orderly_login next by id h (omega (arith, sum_by-cons (λ x. cond (is_login x) 1 0) (Logout p other) h)) parts.1)
orderly_login next by id (Stop p ∷ h) e o = orderly_login next by id h (omega (arith, sum_by-cons (λ x. cond (is_login x) 1 0) (Stop p) h)) o

pub logins_stay_orderly : LoginsStayOrderly
logins_stay_orderly h by o = orderly_login 1 by (count_by is_login h + 1) h refl o

-- the last-answered lengths after a response, by whether the session is live
answered_mark : (h : List Entry) (session id : ℕ) (marks : Marks) (live : Bool) → is_live h session ≡ live
    → cond (is_live h id) (at id (cond live (put_in marks (session, length h)) marks)) None ≡ cond (is_live h id) (cond (session == id) (Some (length h)) (at id marks)) None
answered_mark h session id marks true e =
    ap (λ o. cond (is_live h id) o None) (at-put id (session, length h) marks ∙ ap (λ b. cond b (Some (length h)) (at id marks)) (is_eq-cmp id session))
answered_mark h session id marks false e = elim (cases_Bool (session == id)) [
  | inl same ↦ (let gone : is_live h id ≡ false = ap (is_live h) (sym (eqb-true session id same)) ∙ e in rw gone refl)
  | inr other ↦ rw other refl
]

pub marks_follow_answers : MarksFollowAnswers
marks_follow_answers h session id marks =
    at-filter id (is_live h) (cond (is_live h session) (put_in marks (session, length h)) marks)
    ∙ answered_mark h session id marks (is_live h session) refl
