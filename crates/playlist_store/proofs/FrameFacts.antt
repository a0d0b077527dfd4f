-- Edits of a revision leave what they don't name, and what is read before the revision.
use Rattle.std.proofs.Common.{◌≡◌, ◌≤◌, ◌<◌, ◌-◌, ◌⊎◌, inl, inr, ℕ, Bool, true, false, cond, ◌||◌, ◌&&◌, ◌==◌, List, [], ◌∷◌, length, get_or, Option, Some, None, is_some, refl, sym, ap, subst, ◌∙◌, ⊎_elim, true≢false, eqb-true, arith, Ok, Err, zero, suc}
use Rattle.std.specs.Prelude.{Result, OnOk, OnErr, ⊤}
use Rattle.std.specs.List.{list_any}
use Rattle.std.proofs.lemmas.Bool.{cases_Bool}
use Rattle.std.proofs.Math.Bool.{or-false}
use Rattle.item_model.specs.declared.changes.Edit.{Edit}
use Rattle.key_versions.specs.Held.{at, is_among}
use Rattle.share_history.specs.Named.{names_item, names_list, names_member}
use Rattle.share_history.proofs.KeyedFacts.{is_eq-cmp, key_itself}
use Rattle.item_store.specs.Stands.{named_items}
use Rattle.item_store.proofs.BatchFacts.{among_named}
use Rattle.playlist_store.specs.declared.head.ListHead.{ListHead}
use Rattle.playlist_store.specs.declared.kept.ListVersion.{ListVersion}
use Rattle.playlist_store.specs.Lists.{Lists, top, list_in, head_in, since_of, member_in, near_in, has_rule, names_key}
use Rattle.playlist_store.specs.Changes.{Keeps, Frames, Puts, Leaves, LeavesMember, LeavesRule, ChangesOne, Everywhere, is_plain, found_of}
use Rattle.playlist_store.proofs.KeptFacts.{on_top, on_found, found_older, one_of_all}

-- ---- tests over edits

-- an edit that a test finds is found among all
pub found_any : (p : Edit → Bool) (es : List Edit) (i : ℕ) (e : Edit) → i < length es → e ≡ get_or es i e → p e ≡ true → list_any p es ≡ true
found_any p [] i e lt is h = absurd (omega (arith, lt))
found_any p (x ∷ es) zero e lt is h = ap (λ b. b || list_any p es) (ap p (sym is) ∙ h)
found_any p (x ∷ es) (suc i) e lt is h = later (p x) (found_any p es i e (omega (arith, lt)) is h)
  where
    later : (b : Bool) → list_any p es ≡ true → (b || list_any p es) ≡ true
    later true h = refl
    later false h = h

pub not_any : (p : Edit → Bool) (es : List Edit) (i : ℕ) (e : Edit) → i < length es → e ≡ get_or es i e → list_any p es ≡ false → p e ≡ false
not_any p es i e lt is h = ⊎_elim (λ yes. absurd (true≢false (sym (found_any p es i e lt is yes) ∙ h))) (λ no. no) (cases_Bool (p e))

-- ---- what edits leave

pub keeps_same : (n c : ℕ) (batch : List Edit) (a b : Option ListVersion) → b ≡ a → Keeps n c batch a b
keeps_same n c batch a b same = record {
  head = ap head_in same;
  since = ap since_of same;
  near = λ item key is. ap (λ o. near_in o item key) same ∙ is;
  below = λ key base lt. ap (λ o. member_in o key base) same;
  others = λ key base un. ap (λ o. member_in o key base) same;
}

pub keeps_then : (n c : ℕ) (batch : List Edit) (a b d : Option ListVersion) → Keeps n c batch a b → Keeps n c batch b d → Keeps n c batch a d
keeps_then n c batch a b d p q = record {
  head = q.head ∙ p.head;
  since = q.since ∙ p.since;
  near = λ item key is. q.near item key (p.near item key is);
  below = λ key base lt. q.below key base lt ∙ p.below key base lt;
  others = λ key base un. q.others key base (ap (λ h. list_any (names_key h c key) batch) p.head ∙ un) ∙ p.others key base un;
}

pub frames_same : (n : ℕ) (batch : List Edit) (old : Lists) → Frames n batch old old
frames_same n batch old = record {
  last = λ c. keeps_same n c batch (list_in old c (n - 1)) (list_in old c (n - 1)) refl;
  older = λ c v lt lt'. refl;
  rises = λ c. inl refl;
}

pub frames_then : (n : ℕ) (batch : List Edit) (old mid new : Lists) → Frames n batch old mid → Frames n batch mid new → Frames n batch old new
frames_then n batch old mid new p q = record {
  last = λ c. keeps_then n c batch (list_in old c (n - 1)) (list_in mid c (n - 1)) (list_in new c (n - 1)) (p.last c) (q.last c);
  older = λ c v lt lt'.
      q.older c v
      (⊎_elim (λ same. subst (λ s. v < s) (sym same) lt) (λ up. subst (λ s. v < s) (sym up.0) lt') (p.rises c)) lt'
      ∙ p.older c v lt lt';
  rises = λ c. ⊎_elim (λ same. ⊎_elim (λ before. inl (same ∙ before)) (λ up. inr (same ∙ up.0, up.1)) (p.rises c)) (λ up. inr up) (q.rises c);
}

-- what one edit of a batch leaves
pub frames_among : (n : ℕ) (batch : List Edit) (i : ℕ) (e : Edit) (old new : Lists) → i < length batch → e ≡ get_or batch i e → Frames n (e ∷ []) old new → Frames n batch old new
frames_among n batch i e old new lt is p = record {
  last = λ c. let k = p.last c in record {
    head = k.head;
    since = k.since;
    near = k.near;
    below = k.below;
    others = λ key base un.
        k.others key base (or-false _ ∙ not_any (names_key (head_in (list_in old c (n - 1))) c key) batch i e lt is un);
  };
  older = p.older;
  rises = λ c. ⊎_elim (λ same. inl same) (λ up. inr (up.0, found_any (names_list c) batch i e lt is (sym (or-false (names_list c e)) ∙ up.1))) (p.rises c);
}

-- ---- a list that is put or dropped

pub put_frames : {E : Type 0} (n c : ℕ) (e : Edit) (kept : ListVersion) (r : Result ⊤ E) (old new : Lists) → 1 ≤ n → kept.since ≡ n → ((q : ℕ) → names_list q e ≡ (c == q))
    → Puts c kept r old new → Frames n (e ∷ []) old new
put_frames n c e kept r old new some since names p = record {
  last = λ q. keeps_same n q (e ∷ []) (list_in old q (n - 1)) (list_in new q (n - 1)) (p.below q (n - 1) (omega (arith, some, since)));
  older = λ q v lt lt'. p.below q v (subst (λ s. v < s) (sym since) lt');
  rises = λ q. up r q p.put p.left;
}
  where
    up : {E : Type 0} (r : Result ⊤ E) (q : ℕ) → OnOk r ((q : ℕ) → top new q ≡ cond (c == q) (Some kept) (top old q)) → OnErr r ((q : ℕ) → top new q ≡ top old q)
        → (since_of (top new q) ≡ since_of (top old q)) ⊎ ((since_of (top new q) ≡ n) × (list_any (names_list q) (e ∷ []) ≡ true))
    up (Ok x) q put left =
        ⊎_elim
        (λ is. inr (ap since_of (put q ∙ ap (λ b. cond b (Some kept) (top old q)) is) ∙ since, or-false (names_list q e) ∙ names q ∙ is))
        (λ other. inl (ap since_of (put q ∙ ap (λ b. cond b (Some kept) (top old q)) other)))
        (cases_Bool (c == q))
    up (Err x) q put left = inl (ap since_of (left q))

-- ---- a member

leaves_keeps : (n c : ℕ) (batch : List Edit) (picks : ℕ → Bool) (a b : ListVersion) → ((key : ℕ) → list_any (names_key a.head c key) batch ≡ false → picks key ≡ false)
    → Leaves n picks a b → Keeps n c batch (Some a) (Some b)
leaves_keeps n c batch picks a b named p = record {
  head = p.head;
  since = p.since;
  near = p.near;
  below = p.below;
  others = λ key base un. p.others key base (named key un);
}

pub leaves_same : (n : ℕ) (picks : ℕ → Bool) (k : ListVersion) → Leaves n picks k k
leaves_same n picks k = record { since = refl; head = refl; near = λ item key is. is; below = λ key base lt. refl; others = λ key base un. refl }

itself : (c : ℕ) → (c == c) ≡ true
itself c = sym (is_eq-cmp c c) ∙ key_itself c

-- an edit names a member of a plain list if it names its list and its key
member_picked : (h : Option ListHead) (c key k : ℕ) (e : Edit) → ((q k : ℕ) → names_member q k e ≡ ((c == q) && (key == k))) → list_any (names_key h c k) (e ∷ []) ≡ false
    → (is_plain h && (key == k)) ≡ false
member_picked None c key k e names un = refl
member_picked (Some head) c key k e names un = plain (is_some head.rule) (sym (or-false _) ∙ un)
  where
    plain : (b : Bool) → cond b (names_item k e) (names_member c k e) ≡ false → (cond b false true && (key == k)) ≡ false
    plain true un = refl
    plain false un = sym (names c k ∙ ap (λ b. b && (key == k)) (itself c)) ∙ un

pub member_frames : (n c key : ℕ) (e : Edit) (old new : Lists) → ((q k : ℕ) → names_member q k e ≡ ((c == q) && (key == k)))
    → ChangesOne c (LeavesMember n key) old new → Frames n (e ∷ []) old new
member_frames n c key e old new names p =
    let all : Everywhere (LeavesMember n key) old new = one_of_all (λ k. leaves_same n (λ q. is_plain k.head && (key == q)) k) c old new p in
    record {
      last = λ q.
          ⊎_elim
          (λ is. subst (λ q. Keeps n q (e ∷ []) (list_in old q (n - 1)) (list_in new q (n - 1))) (eqb-true c q is)
          (on_found {R = LeavesMember n key} (Keeps n c (e ∷ [])) (λ k. keeps_same n c (e ∷ []) k k refl) (λ a b r. r.since) (n - 1)
          (λ a b r seen. leaves_keeps n c (e ∷ []) (λ k. is_plain a.head && (key == k)) a b (λ k un. member_picked a.head c key k e names un) r)
          (at c old) (at c new) p.here))
          (λ other. keeps_same n q (e ∷ []) (list_in old q (n - 1)) (list_in new q (n - 1)) (ap (λ x. found_of x (n - 1)) (p.others q other)))
          (cases_Bool (c == q));
      older = λ q v lt lt'. found_older {R = LeavesMember n key} (λ a b r. r.since) (at q old) (at q new) v lt (all q);
      rises = λ q. inl (on_top {R = LeavesMember n key} (λ a b. since_of b ≡ since_of a) refl (λ a b r. r.since) (at q old) (at q new) (all q));
    }

-- ---- rules

-- an item that edits don't name is not among those that they name
pub item_unpicked : (h : Option ListHead) (c k : ℕ) (batch : List Edit) → list_any (names_key h c k) batch ≡ false → (has_rule h && is_among k (named_items batch)) ≡ false
item_unpicked None c k batch un = refl
item_unpicked (Some head) c k batch un = ruled (is_some head.rule) refl
  where
    ruled : (b : Bool) → is_some head.rule ≡ b → (b && is_among k (named_items batch)) ≡ false
    ruled true is = among_named k batch ∙ ap (λ b. list_any (λ e. cond b (names_item k e) (names_member c k e)) batch) (sym is) ∙ un
    ruled false is = refl

pub rule_frames : (n : ℕ) (ids : List ℕ) (batch : List Edit) (old new : Lists) → 1 ≤ n → ids ≡ named_items batch → Everywhere (LeavesRule n ids) old new → Frames n batch old new
rule_frames n ids batch old new some are p = record {
  last = λ q.
      on_found {R = LeavesRule n ids} (Keeps n q batch) (λ k. keeps_same n q batch k k refl) (λ a b r. r.since) (n - 1)
      (λ a b r seen. leaves_keeps n q batch (λ k. has_rule a.head && is_among k ids) a b
      (λ k un. ap (λ ids. has_rule a.head && is_among k ids) are ∙ item_unpicked a.head q k batch un) (r.leaves (omega (arith, some, seen))))
      (at q old) (at q new) (p q);
  older = λ q v lt lt'. found_older {R = LeavesRule n ids} (λ a b r. r.since) (at q old) (at q new) v lt (p q);
  rises = λ q. inl (on_top {R = LeavesRule n ids} (λ a b. since_of b ≡ since_of a) refl (λ a b r. r.since) (at q old) (at q new) (p q));
}
