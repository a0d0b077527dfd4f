-- What a register keeps still fits its history after each call.
use Rattle.std.proofs.Common.{◌≡◌, ◌≢◌, ℕ, ◌+◌, ◌-◌, ◌<◌, ◌≤◌, Bool, true, false, cond, ◌||◌, List, [], ◌∷◌, ◌++◌, length, count_by, sym, refl, ap, ◌∙◌, subst, arith, eq-eqb, ltb-true, leb-true, length-append, zero-add}
use Rattle.std.proofs.lemmas.Bool.{and_parts, and_from, lt-ltb, true≢false}
use Rattle.std.proofs.lemmas.List.Folds.{list_any-append}
use Rattle.std.proofs.lemmas.List.Sums.{sum_by-append, sum_by-cons}
use mathlib.Core.Logic.{dite}
use native.Mathlib.Decide.{ℕ_discrete}
use Rattle.item_model.specs.declared.changes.Edit.{Edit}
use Rattle.item_model.specs.declared.changes.Entry.{Entry}
use Rattle.item_model.specs.declared.changes.Entry.TheVariants.{Edits, Login, Logout, Stop}
use Rattle.share_history.specs.Histories.{all_edits, batches, edits_in, revision}
use Rattle.share_history.specs.Keyed.{put_in, taken_out}
use Rattle.share_history.specs.Limits.{is_limited, is_below_entry_limit, has_room_for}
use Rattle.share_history.specs.Marks.{Marks, marks_after, is_orderly}
use Rattle.share_history.specs.Numbers.{most_entries, most_edits}
use Rattle.share_history.specs.Sessions.{is_login, is_live, is_stop, is_stopped, next_session}
use Rattle.share_history.proofs.EditFacts.{all_edits_more}
use Rattle.share_history.proofs.SessionFacts.{logins_stay_orderly, few_batches}
use Rattle.share_register.specs.Counts.{AreCounts, IsSound}
use Rattle.share_register.specs.Registers.{AreMarks}
use Rattle.share_register.proofs.Live.{logins_more, live_edits, live_stop, live_out, live_others, live_gone}
use Rattle.share_register.proofs.Marking.{marked, unmarked, login_marks, logout_marks, orderly_more, live_below}

limited_more : (h : List Entry) (e : Entry) → count_by is_limited (h ++ e ∷ []) ≡ count_by is_limited h + cond (is_limited e) 1 0
limited_more h e =
    let parts : count_by is_limited (h ++ e ∷ []) ≡ count_by is_limited h + (0 + cond (is_limited e) 1 0) = sum_by-append (λ x. cond (is_limited x) 1 0) h (e ∷ []) in
    parts ∙ ap (λ n. count_by is_limited h + n) (zero-add (cond (is_limited e) 1 0))

edits_more : (h : List Entry) (e : Entry) → length (all_edits (h ++ e ∷ [])) ≡ length (all_edits h) + length (edits_in e)
edits_more h e = ap length (all_edits_more h e) ∙ length-append (all_edits h) (edits_in e)

or_false : (b : Bool) → (b || false) ≡ b
or_false true = refl
or_false false = refl

or_true : (b : Bool) → (b || true) ≡ true
or_true true = refl
or_true false = refl

stopped_more : (h : List Entry) (e : Entry) → is_stopped (h ++ e ∷ []) ≡ (is_stopped h || is_stop e)
stopped_more h e = list_any-append is_stop h (e ∷ []) ∙ ap (λ b. is_stopped h || b) (or_false (is_stop e))

still_going : (h : List Entry) (e : Entry) → is_stop e ≡ false → is_stopped (h ++ e ∷ []) ≡ is_stopped h
still_going h e goes = stopped_more h e ∙ (ap (λ b. is_stopped h || b) goes ∙ or_false (is_stopped h))

-- the counts after an entry
pub counts_more : (h : List Entry) (e : Entry) (limited edits logins limited' edits' logins' : ℕ) (stopped stopped' : Bool) → AreCounts h limited edits logins stopped
    → limited' ≡ limited + cond (is_limited e) 1 0 → edits' ≡ edits + length (edits_in e) → logins' ≡ logins + cond (is_login e) 1 0 → stopped' ≡ (stopped || is_stop e) → limited' ≤ most_entries → edits' ≤ most_edits
    → AreCounts (h ++ e ∷ []) limited' edits' logins' stopped'
counts_more h e limited edits logins limited' edits' logins' stopped stopped' c p d l s few_p few_d = record {
  limited_are = p ∙ (ap (λ n. n + cond (is_limited e) 1 0) c.limited_are ∙ sym (limited_more h e));
  edits_are = d ∙ (ap (λ n. n + length (edits_in e)) c.edits_are ∙ sym (edits_more h e));
  logins_are = l ∙ (ap (λ n. n + cond (is_login e) 1 0) c.logins_are ∙ sym (logins_more h e));
  stopped_is = s ∙ (ap (λ b. b || is_stop e) c.stopped_is ∙ sym (stopped_more h e));
  few_limited = few_p;
  few_edits = few_d;
}

-- another entry is within the limit
pub below_limit : (h : List Entry) (limited : ℕ) → limited ≡ count_by is_limited h → is_below_entry_limit h ≡ true → limited < most_entries
below_limit h limited is left = let l = ltb-true (count_by is_limited h) most_entries left in omega arith

pub room_left : (h : List Entry) (edits count : ℕ) → edits ≡ length (all_edits h) → has_room_for h count ≡ true → edits + count ≤ most_edits
room_left h edits count is left = let l = leb-true (length (all_edits h) + count) most_edits left in omega arith

pub sound_login : (h : List Entry) (p limited edits logins x spare spare' : ℕ) (stopped : Bool) (marks marks' : Marks) → IsSound h limited edits logins stopped marks spare → is_below_entry_limit h ≡ true → x ≡ logins + 1
    → marks' ≡ taken_out (put_in marks (x, length h + 1)) (x - 64) → length marks' + 1 ≤ spare'
    → IsSound (h ++ Login p x ∷ []) (limited + 1) edits x stopped marks' spare'
sound_login h p limited edits logins x spare spare' stopped marks marks' s left next is room =
    let c = s.counts in
    let m = s.marks_are in
    let id : x ≡ next_session h = next ∙ ap (λ n. n + 1) c.logins_are in
    let less = below_limit h limited c.limited_are left in
    let same : marks' ≡ marks_after (h ++ Login p x ∷ []) x marks = is ∙ login_marks h p x marks m id in
    let orderly : is_orderly 1 (h ++ Login p x ∷ []) ≡ true = subst (λ n. is_orderly 1 (h ++ Login p n ∷ []) ≡ true) (sym id) (logins_stay_orderly h p m.orderly) in record {
      counts = counts_more h (Login p x) limited edits logins (limited + 1) edits x stopped stopped c refl (let z : edits ≡ edits + 0 = omega arith in z) next (sym (or_false stopped)) (omega arith) c.few_edits;
      marks_are = subst (AreMarks (h ++ Login p x ∷ [])) (sym same) (marked h (Login p x ∷ []) x marks m orderly
          (λ q live apart. let other : q ≢ x = λ is. true≢false (sym (eq-eqb x q (sym is)) ∙ apart) in dite (ℕ_discrete (q + 64) x)
          (λ gone. absurd (true≢false (sym live ∙ live_gone h p x q m.orderly id (omega arith))))
          (λ here. sym (live_others h p x q m.orderly id other here) ∙ live)));
      room = λ _. room;
    }

pub sound_logout : (h : List Entry) (p limited edits logins x spare spare' : ℕ) (stopped : Bool) (marks marks' : Marks) → IsSound h limited edits logins stopped marks spare → is_live h x ≡ true
    → marks' ≡ taken_out marks x → length marks' + 1 ≤ spare' → IsSound (h ++ Logout p x ∷ []) limited edits logins stopped marks' spare'
sound_logout h p limited edits logins x spare spare' stopped marks marks' s live is room =
    let c = s.counts in
    let m = s.marks_are in
    let same : marks' ≡ marks_after (h ++ Logout p x ∷ []) x marks = is ∙ logout_marks h p x marks m in
    let given : is_orderly (1 + count_by is_login h) (Logout p x ∷ []) ≡ true = and_from _ _ (lt-ltb x (1 + count_by is_login h) (live_below h x m.orderly live)) refl in record {
      counts = counts_more h (Logout p x) limited edits logins limited edits logins stopped stopped c (let z : limited ≡ limited + 0 = omega arith in z) (let z : edits ≡ edits + 0 = omega arith in z) (let z : logins ≡ logins + 0 = omega arith in z) (sym (or_false stopped)) c.few_limited c.few_edits;
      marks_are = subst (AreMarks (h ++ Logout p x ∷ [])) (sym same) (marked h (Logout p x ∷ []) x marks m (orderly_more 1 h (Logout p x) m.orderly given)
          (λ q still apart. (and_parts _ _ (sym (live_out h p x q) ∙ still)).0));
      room = λ _. room;
    }

pub sound_edit : (h : List Entry) (p limited edits logins spare spare' : ℕ) (stopped : Bool) (marks : Marks) (batch : List Edit) → IsSound h limited edits logins stopped marks spare → is_below_entry_limit h ≡ true → has_room_for h (length batch) ≡ true
    → length marks + 1 ≤ spare' → IsSound (h ++ Edits p batch ∷ []) (limited + 1) (edits + length batch) logins stopped marks spare'
sound_edit h p limited edits logins spare spare' stopped marks batch s left few room =
    let c = s.counts in
    let m = s.marks_are in
    let less = below_limit h limited c.limited_are left in record {
      counts = counts_more h (Edits p batch) limited edits logins (limited + 1) (edits + length batch) logins stopped stopped c refl refl (let z : logins ≡ logins + 0 = omega arith in z) (sym (or_false stopped)) (omega arith) (room_left h edits (length batch) c.edits_are few);
      marks_are = unmarked h (Edits p batch ∷ []) marks m (orderly_more 1 h (Edits p batch) m.orderly refl) (live_edits h p batch);
      room = λ _. room;
    }

pub sound_stop : (h : List Entry) (p limited edits logins spare spare' : ℕ) (stopped : Bool) (marks : Marks) → IsSound h limited edits logins stopped marks spare → IsSound (h ++ Stop p ∷ []) limited edits logins true marks spare'
sound_stop h p limited edits logins spare spare' stopped marks s =
    let c = s.counts in
    let m = s.marks_are in record {
      counts = counts_more h (Stop p) limited edits logins limited edits logins stopped true c (let z : limited ≡ limited + 0 = omega arith in z) (let z : edits ≡ edits + 0 = omega arith in z) (let z : logins ≡ logins + 0 = omega arith in z) (sym (or_true stopped)) c.few_limited c.few_edits;
      marks_are = unmarked h (Stop p ∷ []) marks m (orderly_more 1 h (Stop p) m.orderly refl) (live_stop h p);
      room = λ going. absurd (true≢false (sym (stopped_more h (Stop p) ∙ or_true (is_stopped h)) ∙ going));
    }

at_most_one : (b : Bool) → cond b 1 0 ≤ 1
at_most_one true = omega arith
at_most_one false = omega arith

-- an entry more makes no revision that is too large
pub few_after : (h : List Entry) (e : Entry) (limited edits logins : ℕ) (stopped : Bool) → AreCounts h limited edits logins stopped → revision (batches (h ++ e ∷ [])) < 4294967296
few_after h e limited edits logins stopped c =
    let few = few_batches (h ++ e ∷ []) in
    let more = limited_more h e in
    let one = at_most_one (is_limited e) in
    let is = c.limited_are in
    let most = c.few_limited in
    omega arith

few_logins : (h : List Entry) → count_by is_login h ≤ count_by is_limited h
few_logins [] = omega arith
few_logins (Edits p batch ∷ h) = omega (arith, few_logins h, sum_by-cons (λ x. cond (is_login x) 1 0) (Edits p batch) h, sum_by-cons (λ x. cond (is_limited x) 1 0) (Edits p batch) h)
few_logins (Login p id ∷ h) = omega (arith, few_logins h, sum_by-cons (λ x. cond (is_login x) 1 0) (Login p id) h, sum_by-cons (λ x. cond (is_limited x) 1 0) (Login p id) h)
few_logins (Logout p id ∷ h) = omega (arith, few_logins h, sum_by-cons (λ x. cond (is_login x) 1 0) (Logout p id) h, sum_by-cons (λ x. cond (is_limited x) 1 0) (Logout p id) h)
few_logins (Stop p ∷ h) = omega (arith, few_logins h, sum_by-cons (λ x. cond (is_login x) 1 0) (Stop p) h, sum_by-cons (λ x. cond (is_limited x) 1 0) (Stop p) h)

-- there are few logins
pub next_fits : (h : List Entry) (limited edits logins : ℕ) (stopped : Bool) → AreCounts h limited edits logins stopped → logins + 1 < 4294967296
next_fits h limited edits logins stopped c =
    let few = few_logins h in
    let is = c.limited_are in
    let also = c.logins_are in
    let most = c.few_limited in
    omega arith
