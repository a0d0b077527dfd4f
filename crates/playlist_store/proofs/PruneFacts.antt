-- What pruning leaves.
use Rattle.std.proofs.Common.{◌≡◌, ◌≤◌, inl, inr, ℕ, Bool, true, false, cond, ◌==◌, Option, Some, None, refl, sym, ap, subst, ◌∙◌, ⊎_elim, true≢false, eqb-true, is_eq, arith}
use Rattle.std.specs.Prelude.{nat_lt}
use Rattle.std.proofs.lemmas.Bool.{cases_Bool, le-ltb}
use Rattle.key_versions.specs.Held.{Held, at, value_at}
use Rattle.playlist_store.specs.declared.kept.ListVersion.{ListVersion}
use Rattle.playlist_store.specs.declared.kept.ListHistory.{ListHistory}
use Rattle.playlist_store.specs.Lists.{Lists, top, list_in, head_in, since_of, member_in, near_in, near_cmp}
use Rattle.playlist_store.specs.Changes.{Everywhere, Prunes, PrunesAll, PrunesKept, ForgetsOne, GoneBy, found_of, now_of, is_plain}
use Rattle.playlist_store.proofs.KeptFacts.{on_top, on_found, found_now}
use Rattle.playlist_store.proofs.NearFacts.{same_pair}

pub prunes_same : (low : ℕ) (a b : Option ListVersion) → b ≡ a → Prunes low a b
prunes_same low a b same = record {
  head = ap head_in same;
  since = λ base le. ap (λ o. nat_lt base (since_of o)) same;
  members = λ key base le. inl (ap (λ o. member_in o key base) same);
  near = λ item key base le plain is noted. ap (λ o. near_in o item key) same ∙ noted;
}

pub prunes_then : (low : ℕ) (a b c : Option ListVersion) → Prunes low a b → Prunes low b c → Prunes low a c
prunes_then low a b c p q = record {
  head = q.head ∙ p.head;
  since = λ base le. q.since base le ∙ p.since base le;
  members = λ key base le.
      ⊎_elim
      (λ same. ⊎_elim (λ was. inl (same ∙ was)) (λ gone. inr (same ∙ gone.0, gone.1)) (p.members key base le))
      (λ gone. inr (gone.0, sym p.head ∙ gone.1))
      (q.members key base le);
  near = λ item key base le plain is noted.
      q.near item key base le (ap is_plain p.head ∙ plain)
      (⊎_elim (λ same. same ∙ is) (λ gone. absurd (true≢false (sym (ap is_plain (sym gone.1) ∙ plain)))) (p.members key base le))
      (p.near item key base le plain is noted);
}

pub prunes_all_same : (low before : ℕ) (old : Lists) → PrunesAll low before old old
prunes_all_same low before old = record { now = λ c. prunes_same low (top old c) (top old c) refl; last = λ c. prunes_same low (list_in old c before) (list_in old c before) refl }

pub prunes_all_then : (low before : ℕ) (old mid new : Lists) → PrunesAll low before old mid → PrunesAll low before mid new → PrunesAll low before old new
prunes_all_then low before old mid new p q = record {
  now = λ c. prunes_then low (top old c) (top mid c) (top new c) (p.now c) (q.now c);
  last = λ c. prunes_then low (list_in old c before) (list_in mid c before) (list_in new c before) (p.last c) (q.last c);
}

-- ---- members

pub kept_same : (low : ℕ) (k : ListVersion) → PrunesKept low k k
kept_same low k = record { since = refl; head = refl; members = λ key base le. refl; near = λ item key base le is noted. noted }

pub kept_then : (low : ℕ) (a b c : ListVersion) → PrunesKept low a b → PrunesKept low b c → PrunesKept low a c
kept_then low a b c p q = record {
  since = q.since ∙ p.since;
  head = q.head ∙ p.head;
  members = λ key base le. q.members key base le ∙ p.members key base le;
  near = λ item key base le is noted. q.near item key base le (p.members key base le ∙ is) (p.near item key base le is noted);
}

kept_prunes : (low : ℕ) (a b : ListVersion) → PrunesKept low a b → Prunes low (Some a) (Some b)
kept_prunes low a b p = record {
  head = p.head;
  since = λ base le. ap (nat_lt base) p.since;
  members = λ key base le. inl (p.members key base le);
  near = λ item key base le plain is noted. p.near item key base le is noted;
}

pub everywhere_prunes : (low before : ℕ) (old new : Lists) → Everywhere (PrunesKept low) old new → PrunesAll low before old new
everywhere_prunes low before old new p = record {
  now = λ c. on_top {R = PrunesKept low} (Prunes low) (prunes_same low None None refl) (kept_prunes low) (at c old) (at c new) (p c);
  last = λ c.
      on_found {R = PrunesKept low} (Prunes low) (λ k. prunes_same low k k refl) (λ a b r. r.since) before (λ a b r seen. kept_prunes low a b r) (at c old) (at c new) (p c);
}

-- ---- lists

pub forgets_prunes : (low before id : ℕ) (old new : Lists) → ForgetsOne before (at id old) (at id new) → ((q : ℕ) → (id == q) ≡ false → at q new ≡ at q old) → PrunesAll low before old new
forgets_prunes low before id old new here others = record {
  now = λ c. prunes_same low (top old c) (top new c)
      (⊎_elim (λ is. subst (λ k. top new k ≡ top old k) (eqb-true id c is) (same_now (at id old) (at id new) here)) (λ other. ap now_of (others c other)) (cases_Bool (id == c)));
  last = λ c. prunes_same low (list_in old c before) (list_in new c before)
      (⊎_elim (λ is. subst (λ k. list_in new k before ≡ list_in old k before) (eqb-true id c is) (same_found (at id old) (at id new) here)) (λ other. ap (λ x. found_of x before) (others c other))
      (cases_Bool (id == c)));
}
  where
    same_now : (x y : Option ListHistory) → ForgetsOne before x y → now_of y ≡ now_of x
    same_now None y h = ap now_of h
    same_now (Some l) None h = absurd h
    same_now (Some l) (Some m) h = ap Some h.0

    same_found : (x y : Option ListHistory) → ForgetsOne before x y → found_of y before ≡ found_of x before
    same_found None y h = ap (λ o. found_of o before) h
    same_found (Some l) None h = absurd h
    same_found (Some l) (Some m) h = h.1 before (omega arith)

gone_prunes : (low : ℕ) (x : Option ListVersion) → GoneBy low x → Prunes low x None
gone_prunes low None h = prunes_same low None None refl
gone_prunes low (Some k) h = record {
  head = sym h.0;
  since = λ base le. le-ltb base 0 (omega arith) ∙ sym (le-ltb base k.since (omega (arith, le, h.1)));
  members = λ key base le. inr (refl, h.0);
  near = λ item key base le plain is noted. absurd (true≢false (sym (ap is_plain (sym h.0) ∙ plain)));
}

pub removal_prunes : (low before id : ℕ) (old new : Lists) → low ≤ before → GoneBy low (now_of (at id old)) → ((q : ℕ) → at q new ≡ cond (id == q) None (at q old)) → PrunesAll low before old new
removal_prunes low before id old new le gone out = record {
  now = λ c. ⊎_elim
      (λ is. subst (λ x. Prunes low (top old c) (now_of x)) (sym (out c ∙ ap (λ b. cond b None (at c old)) is)) (subst (λ k. Prunes low (top old k) None) (eqb-true id c is) (gone_prunes low (top old id) gone)))
      (λ other. prunes_same low (top old c) (top new c) (ap now_of (out c ∙ ap (λ b. cond b None (at c old)) other)))
      (cases_Bool (id == c));
  last = λ c. ⊎_elim
      (λ is. subst (λ x. Prunes low (list_in old c before) (found_of x before)) (sym (out c ∙ ap (λ b. cond b None (at c old)) is))
      (subst (λ k. Prunes low (list_in old k before) None) (eqb-true id c is)
      (subst (λ o. Prunes low o None) (sym (found_now (at id old) before (early (top old id) gone))) (gone_prunes low (top old id) gone))))
      (λ other. prunes_same low (list_in old c before) (list_in new c before) (ap (λ x. found_of x before) (out c ∙ ap (λ b. cond b None (at c old)) other)))
      (cases_Bool (id == c));
}
  where
    early : (x : Option ListVersion) → GoneBy low x → since_of x ≤ before
    early None h = omega arith
    early (Some k) h = omega (arith, h.1, le)

-- ---- pairs

-- a pair is removed only if no version of the member has the item
pub pair_stays : (members : Held ℕ) (item key k other base : ℕ) (has was now : Bool) → ((b : ℕ) → value_at members key b ≡ Some item → has ≡ true) → has ≡ false
    → (is_eq (near_cmp (item, key) (other, k)) ≡ false → now ≡ was) → value_at members k base ≡ Some other → was ≡ true → now ≡ true
pair_stays members item key k other base has was now holds none left stands noted =
    ⊎_elim
    (λ same.
    let pair : ◌≡◌ {A = ℕ × ℕ} (item, key) (other, k) = same_pair item key (other, k) same in
    absurd (true≢false (sym (holds base (ap (λ p. value_at members p.1 base) pair ∙ stands ∙ ap (λ p. Some p.0) (sym pair))) ∙ none)))
    (λ apart. left apart ∙ noted)
    (cases_Bool (is_eq (near_cmp (item, key) (other, k))))
