-- Last-answered lengths of live sessions, after one entry more or none.
use Rattle.std.proofs.Common.{◌≡◌, ℕ, suc, ◌+◌, ◌-◌, ◌<◌, ◌≤◌, ◌==◌, nat_lt, Bool, true, false, cond, not, ◌&&◌, List, [], ◌∷◌, ◌++◌, length, sym, refl, ap, ◌∙◌, subst, Option, Some, None, unwrap_or, arith, eq-eqb, ne_eqb, eqb-true, length-append}
use Rattle.std.proofs.lemmas.Bool.{and_parts, and_from}
use Rattle.std.proofs.lemmas.Option.{none-some}
use Rattle.std.proofs.lemmas.List.Sums.{sum_by-cons}
use Rattle.std.specs.Option.{option_map_or, is_some}
use mathlib.Core.Logic.{dite}
use native.Mathlib.Decide.{ℕ_discrete}
use Rattle.item_model.specs.declared.changes.Entry.{Entry}
use Rattle.item_model.specs.declared.changes.Entry.TheVariants.{Edits, Login, Logout, Stop}
use Rattle.share_history.specs.Keyed.{IsAscending, at, put_in, taken_out}
use Rattle.share_history.specs.Marks.{Marks, until_login, marks_after, is_orderly}
use Rattle.share_history.specs.Sessions.{is_login, is_login_of, after_login, is_live}
use Rattle.share_history.proofs.KeyedFacts.{same_pairs, is_eq-cmp, at-put, ascending-put, at-out, ascending-out, ascending-filter}
use Rattle.share_history.proofs.SessionFacts.{marks_follow_answers}
use Rattle.share_register.specs.Registers.{AreMarks}
use Rattle.share_register.proofs.Live.{logins, placed, live_out, live_new, live_others, live_gone}

until_by : (b : Bool) (id : ℕ) (e : Entry) (h more rest : List Entry) → cond b (Some h) (after_login id h) ≡ Some rest → (after_login id h ≡ Some rest → until_login id (h ++ more) ≡ until_login id h)
    → e ∷ cond b [] (until_login id (h ++ more)) ≡ e ∷ cond b [] (until_login id h)
until_by true id e h more rest after same = refl
until_by false id e h more rest after same = ap (λ l. e ∷ l) (same after)

-- later entries do not move the login of a session
until_same : (id : ℕ) (h more rest : List Entry) → after_login id h ≡ Some rest → until_login id (h ++ more) ≡ until_login id h
until_same id [] more rest after = absurd (none-some rest after)
until_same id (e ∷ h) more rest after = until_by (is_login_of id e) id e h more rest after (until_same id h more rest)

short_by : (b : Bool) (xs h : List Entry) → length xs ≤ length h → length (cond b [] xs) ≤ length h
short_by true xs h short = omega arith
short_by false xs h short = short

until_short : (id : ℕ) (h : List Entry) → length (until_login id h) ≤ length h
until_short id [] = omega arith
until_short id (e ∷ h) = omega (arith, short_by (is_login_of id e) (until_login id h) h (until_short id h))

has_login : (o : Option (List Entry)) (p : List Entry → Bool) → option_map_or p o false ≡ true → (rest : List Entry) × (o ≡ Some rest)
has_login None p live = absurd (cc)
has_login (Some rest) p live = (rest, refl)

-- a live session logged in
live_login : (h : List Entry) (id : ℕ) → is_live h id ≡ true → (rest : List Entry) × (after_login id h ≡ Some rest)
live_login h id live = has_login (after_login id h) (λ rest. nat_lt (logins rest) 64) (and_parts _ _ live).0

live_by : (b c : Bool) (p : ℕ) (o : Option ℕ) → (b ≡ true → c ≡ false → is_some o ≡ true) → is_some (cond b (cond c (Some p) o) None) ≡ b
live_by false c p o had = refl
live_by true true p o had = refl
live_by true false p o had = had refl refl

point_by : (b c : Bool) (len p : ℕ) (o : Option ℕ) (G : Type 0) → cond b (cond c (Some len) o) None ≡ Some p → (len ≡ p → G) → (b ≡ true → c ≡ false → o ≡ Some p → G) → G
point_by false c len p o G is now old = absurd (none-some p is)
point_by true true len p o G is now old = now (ap (λ (q : Option ℕ). unwrap_or q 0) is)
point_by true false len p o G is now old = old refl refl is

ascending_by : (b : Bool) (e : ℕ × ℕ) (marks : Marks) → IsAscending marks → IsAscending (cond b (put_in marks e) marks)
ascending_by true e marks asc = ascending-put e marks asc
ascending_by false e marks asc = asc

pub ascending_after : (h : List Entry) (session : ℕ) (marks : Marks) → IsAscending marks → IsAscending (marks_after h session marks)
ascending_after h session marks asc = ascending-filter (λ m. is_live h m.0) (cond (is_live h session) (put_in marks (session, length h)) marks) (ascending_by (is_live h session) (session, length h) marks asc)

-- the last-answered lengths after a response fit the history, if no other session became live
pub marked : (h more : List Entry) (session : ℕ) (marks : Marks) → AreMarks h marks → is_orderly 1 (h ++ more) ≡ true
    → ((id : ℕ) → is_live (h ++ more) id ≡ true → (session == id) ≡ false → is_live h id ≡ true) → AreMarks (h ++ more) (marks_after (h ++ more) session marks)
marked h more session marks m orderly stays = record {
  orderly = orderly;
  ascending = ascending_after (h ++ more) session marks m.ascending;
  live = λ id. ap is_some (marks_follow_answers (h ++ more) session id marks)
      ∙ live_by (is_live (h ++ more) id) (session == id) (length (h ++ more)) (at id marks) (λ live other. m.live id ∙ stays id live other);
  since = λ id p is. point_by (is_live (h ++ more) id) (session == id) (length (h ++ more)) p (at id marks) (length (until_login id (h ++ more)) ≤ p)
      (sym (marks_follow_answers (h ++ more) session id marks) ∙ is)
      (λ now. let short = until_short id (h ++ more) in omega arith)
      (λ live other old. let l = live_login h id (stays id live other) in subst (λ u. length u ≤ p) (sym (until_same id h more l.0 l.1)) (m.since id p old));
  until = λ id p is. point_by (is_live (h ++ more) id) (session == id) (length (h ++ more)) p (at id marks) (p ≤ length (h ++ more))
      (sym (marks_follow_answers (h ++ more) session id marks) ∙ is)
      (λ now. omega arith)
      (λ live other old. let low = m.until id p old in let len = length-append h more in omega arith);
}

-- if the same sessions are live, then their last-answered lengths stay
pub unmarked : (h more : List Entry) (marks : Marks) → AreMarks h marks → is_orderly 1 (h ++ more) ≡ true → ((id : ℕ) → is_live (h ++ more) id ≡ is_live h id) → AreMarks (h ++ more) marks
unmarked h more marks m orderly same = record {
  orderly = orderly;
  ascending = m.ascending;
  live = λ id. m.live id ∙ sym (same id);
  since = λ id p is. let l = live_login h id (sym (m.live id) ∙ ap is_some is) in subst (λ u. length u ≤ p) (sym (until_same id h more l.0 l.1)) (m.since id p is);
  until = λ id p is. let low = m.until id p is in let len = length-append h more in omega arith;
}

some_there : (o : Option ℕ) (l : Bool) → is_some o ≡ l → o ≡ cond l o None
some_there None true is = absurd (cc)
some_there None false is = refl
some_there (Some p) true is = refl
some_there (Some p) false is = absurd (cc)

at_parts : (q k x len : ℕ) (marks : Marks) → IsAscending marks → at q (taken_out (put_in marks (x, len)) k) ≡ cond (k == q) None (cond (x == q) (Some len) (at q marks))
at_parts q k x len marks asc = at-out q k (put_in marks (x, len)) (ascending-put (x, len) marks asc)
    ∙ (λ i. cond (is_eq-cmp q k i) None ((at-put q (x, len) marks ∙ ap (λ b. cond b (Some len) (at q marks)) (is_eq-cmp q x)) i))

-- a login adds the length of its session and removes that of the one that it ends
pub login_marks : (h : List Entry) (p x : ℕ) (marks : Marks) → AreMarks h marks → x ≡ logins h + 1 → taken_out (put_in marks (x, length h + 1)) (x - 64) ≡ marks_after (h ++ Login p x ∷ []) x marks
login_marks h p x marks m next =
    let h' = h ++ Login p x ∷ [] in
    let o : ℕ → Option ℕ = λ q. at q marks in
    let long : length h + 1 ≡ length h' = sym (length-append h (Login p x ∷ [])) in
    same_pairs _ _ (ascending-out (x - 64) _ (ascending-put (x, length h + 1) marks m.ascending)) (ascending_after h' x marks m.ascending)
    (λ q. at_parts q (x - 64) x (length h + 1) marks m.ascending ∙ (dite (ℕ_discrete q x)
    (λ own. (λ i. cond (ne_eqb (x - 64) q (λ is. omega arith) i) None (cond (eq-eqb x q (sym own) i) (Some (long i)) (o q)))
    ∙ sym (λ i. cond ((ap (is_live h') own ∙ live_new h p x m.orderly next) i) (cond (eq-eqb x q (sym own) i) (Some (length h')) (o q)) None))
    (λ other. dite (ℕ_discrete q (x - 64))
    (λ gone. ap (λ b. cond b None (cond (x == q) (Some (length h + 1)) (o q))) (eq-eqb (x - 64) q (sym gone))
    ∙ sym (ap (λ b. cond b (cond (x == q) (Some (length h')) (o q)) None) (live_gone h p x q m.orderly next gone)))
    (λ here. (λ i. cond (ne_eqb (x - 64) q (λ is. here (sym is)) i) None (cond (ne_eqb x q (λ is. other (sym is)) i) (Some (length h + 1)) (o q)))
    ∙ (some_there (o q) (is_live h q) (m.live q)
    ∙ sym (λ i. cond (live_others h p x q m.orderly next other (λ is. here (omega arith)) i) (cond (ne_eqb x q (λ is. other (sym is)) i) (Some (length h')) (o q)) None))))
    ∙ sym (marks_follow_answers h' x q marks)))

out_by : (b l : Bool) (len : ℕ) (o : Option ℕ) → is_some o ≡ l → cond b None o ≡ cond (l && not b) (cond b (Some len) o) None
out_by true true len o is = refl
out_by true false len o is = refl
out_by false true len o is = refl
out_by false false len o is = some_there o false is

-- a logout removes the length of its session
pub logout_marks : (h : List Entry) (p x : ℕ) (marks : Marks) → AreMarks h marks → taken_out marks x ≡ marks_after (h ++ Logout p x ∷ []) x marks
logout_marks h p x marks m =
    let h' = h ++ Logout p x ∷ [] in
    same_pairs _ _ (ascending-out x marks m.ascending) (ascending_after h' x marks m.ascending)
    (λ q. at-out q x marks m.ascending ∙ (ap (λ b. cond b None (at q marks)) (is_eq-cmp q x)
    ∙ (out_by (x == q) (is_live h q) (length h') (at q marks) (m.live q)
    ∙ (sym (ap (λ b. cond b (cond (x == q) (Some (length h')) (at q marks)) None) (live_out h p x q)) ∙ sym (marks_follow_answers h' x q marks)))))

live_mark : (b l : Bool) (len : ℕ) (o : Option ℕ) → is_some o ≡ l → (b ≡ true → l ≡ true) → cond b (Some len) o ≡ cond l (cond b (Some len) o) None
live_mark true true len o is own = refl
live_mark true false len o is own = absurd (let no = own refl in cc)
live_mark false l len o is own = some_there o l is

no_mark : (b l : Bool) (len : ℕ) (o : Option ℕ) → is_some o ≡ l → (b ≡ true → l ≡ false) → o ≡ cond l (cond b (Some len) o) None
no_mark true true len o is own = absurd (let no = own refl in cc)
no_mark true false len o is own = some_there o false is
no_mark false l len o is own = some_there o l is

-- a response to a live session sets its length to the history's
pub touch_marks : (h : List Entry) (x : ℕ) (marks : Marks) → AreMarks h marks → is_live h x ≡ true → put_in marks (x, length h) ≡ marks_after h x marks
touch_marks h x marks m live =
    same_pairs _ _ (ascending-put (x, length h) marks m.ascending) (ascending_after h x marks m.ascending)
    (λ q. at-put q (x, length h) marks ∙ (ap (λ b. cond b (Some (length h)) (at q marks)) (is_eq-cmp q x)
    ∙ (live_mark (x == q) (is_live h q) (length h) (at q marks) (m.live q) (λ own. ap (is_live h) (sym (eqb-true x q own)) ∙ live) ∙ sym (marks_follow_answers h x q marks))))

-- one to a session that is not live moves none
pub pass_marks : (h : List Entry) (x : ℕ) (marks : Marks) → AreMarks h marks → is_live h x ≡ false → marks ≡ marks_after h x marks
pass_marks h x marks m gone =
    same_pairs _ _ m.ascending (ascending_after h x marks m.ascending)
    (λ q. no_mark (x == q) (is_live h q) (length h) (at q marks) (m.live q) (λ own. ap (is_live h) (sym (eqb-true x q own)) ∙ gone) ∙ sym (marks_follow_answers h x q marks))

-- ---- the order of ids

pub orderly_more : (n : ℕ) (h : List Entry) (e : Entry) → is_orderly n h ≡ true → is_orderly (n + logins h) (e ∷ []) ≡ true → is_orderly n (h ++ e ∷ []) ≡ true
orderly_more n [] e o last = subst (λ k. is_orderly k (e ∷ []) ≡ true) (let z : n + 0 ≡ n = omega arith in z) last
orderly_more n (Edits p batch ∷ h) e o last = orderly_more n h e o (subst (λ k. is_orderly (n + k) (e ∷ []) ≡ true) (let z : logins (Edits p batch ∷ h) ≡ logins h = omega (arith, sum_by-cons (λ x. cond (is_login x) 1 0) (Edits p batch) h) in z) last)
orderly_more n (Stop p ∷ h) e o last = orderly_more n h e o (subst (λ k. is_orderly (n + k) (e ∷ []) ≡ true) (let z : logins (Stop p ∷ h) ≡ logins h = omega (arith, sum_by-cons (λ x. cond (is_login x) 1 0) (Stop p) h) in z) last)
orderly_more n (Logout p other ∷ h) e o last =
    let parts = and_parts (nat_lt other n) (is_orderly n h) o in
    and_from _ _ parts.0 (orderly_more n h e parts.1 (subst (λ k. is_orderly (n + k) (e ∷ []) ≡ true) (let z : logins (Logout p other ∷ h) ≡ logins h = omega (arith, sum_by-cons (λ x. cond (is_login x) 1 0) (Logout p other) h) in z) last))
orderly_more n (Login p other ∷ h) e o last =
    let parts = and_parts (other == n) (is_orderly (suc n) h) o in
    and_from _ _ parts.0 (orderly_more (suc n) h e parts.1 (subst (λ k. is_orderly k (e ∷ []) ≡ true) (let z : n + logins (Login p other ∷ h) ≡ suc n + logins h = omega (arith, sum_by-cons (λ x. cond (is_login x) 1 0) (Login p other) h) in z) last))

-- the id of a live session is at most the number of logins
pub live_below : (h : List Entry) (id : ℕ) → is_orderly 1 h ≡ true → is_live h id ≡ true → id < 1 + logins h
live_below h id orderly live = let l = live_login h id live in let b = (placed 1 id h l.0 orderly l.1).1 in omega arith
