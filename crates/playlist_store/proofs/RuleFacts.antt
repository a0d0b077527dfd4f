-- What checking rules leaves.
use Rattle.std.proofs.Common.{◌≡◌, ◌<◌, ℕ, Bool, true, false, cond, ◌&&◌, ◌==◌, List, [], ◌∷◌, ◌++◌, length, Option, Some, None, refl, sym, ap, subst, ◌∙◌, ⊎_elim, true≢false, eqb-true, arith, Ok, Err}
use Rattle.std.specs.Prelude.{Result, OnOk, nat_le, ⊤}
use Rattle.share_history.specs.Histories.{edits}
use Rattle.share_history.specs.LastSaid.{Playlist, item_at, list_at, member_at}
use Rattle.share_history.specs.Named.{names_list}
use Rattle.item_store.specs.Stands.{named_items}
use Rattle.std.specs.List.{list_any}
use Rattle.std.proofs.lemmas.Bool.{cases_Bool}
use Rattle.playlist_store.specs.declared.kept.ListHistory.{ListHistory}
use Rattle.playlist_store.proofs.StandFacts.{other_number}
use Rattle.playlist_store.specs.Words.{ruled}
use Rattle.item_model.specs.declared.changes.Edit.{Edit}
use Rattle.item_model.specs.declared.query.Query.{Query}
use Rattle.key_versions.specs.Held.{Held, at, value_at, is_among}
use Rattle.playlist_store.specs.declared.kept.ListVersion.{ListVersion}
use Rattle.playlist_store.specs.Lists.{Lists, top, since_of, has_rule}
use Rattle.playlist_store.specs.Changes.{InPlace, ChangesOne, Everywhere, Sets, LeavesRule, TestsRule, TellsOne, Tells, Taken, tested_ids, ruled_in, puts_rule, now_of}
use Rattle.playlist_store.proofs.KeptFacts.{Becomes, became}
use Rattle.playlist_store.proofs.FrameFacts.{leaves_same}

pub rule_leaves_same : (n : ℕ) (ids : List ℕ) (k : ListVersion) → LeavesRule n ids k k
rule_leaves_same n ids k = record {
  since = refl;
  head = refl;
  near = λ item key. refl;
  leaves = λ before. leaves_same n (λ key. has_rule k.head && is_among key ids) k;
}

pub rule_leaves_then : (n : ℕ) (ids : List ℕ) (a b c : ListVersion) → LeavesRule n ids a b → LeavesRule n ids b c → LeavesRule n ids a c
rule_leaves_then n ids a b c p q = record {
  since = q.since ∙ p.since;
  head = q.head ∙ p.head;
  near = λ item key. q.near item key ∙ p.near item key;
  leaves = λ before.
      let s = p.leaves before in
      let t = q.leaves (subst (λ k. k < n) (sym p.since) before) in
      record {
        since = q.since ∙ p.since;
        head = q.head ∙ p.head;
        near = λ item key is. t.near item key (s.near item key is);
        below = λ key base lt. t.below key base lt ∙ s.below key base lt;
        others = λ key base un. t.others key base (ap (λ h. has_rule h && is_among key ids) p.head ∙ un) ∙ s.others key base un;
      };
}

-- what a rule says of one id
pub rule_put : {E : Type 0} (r : Result ⊤ E) (P : List (List Edit) → Type 0) (rule : Query) (n id : ℕ) (item : Option ℕ) (old new : Held ℕ)
    → ((bs : List (List Edit)) → P bs → item ≡ ruled rule id (item_at (edits bs) id))
    → OnOk r ((q base : ℕ) → value_at new q base ≡ cond ((id == q) && nat_le n base) item (value_at old q base))
    → OnOk r ((bs : List (List Edit)) → P bs → (key base : ℕ) → value_at new key base ≡ cond ((id == key) && nat_le n base) (ruled rule key (item_at (edits bs) key)) (value_at old key base))
rule_put (Err x) P rule n id item old new said put = tt
rule_put (Ok x) P rule n id item old new said put = λ bs h key base. put key base ∙ here bs h key base (id == key) refl
  where
    here : (bs : List (List Edit)) → P bs → (key base : ℕ) (b : Bool) → (id == key) ≡ b
        → cond (b && nat_le n base) item (value_at old key base) ≡ cond (b && nat_le n base) (ruled rule key (item_at (edits bs) key)) (value_at old key base)
    here bs h key base true is = ap (λ x. cond (nat_le n base) x (value_at old key base)) (said bs h ∙ ap (λ k. ruled rule k (item_at (edits bs) k)) (eqb-true id key is))
    here bs h key base false is = refl

same_head : (n : ℕ) (picks : ℕ → Bool) (value : ℕ → Option ℕ) (k : ListVersion) → ((key : ℕ) → picks key ≡ false) → Sets n picks value k k
same_head n picks value k none = record {
  since = refl;
  head = refl;
  near = λ item key is. is;
  members = λ key base. sym (ap (λ b. cond (b && nat_le n base) (value key) (value_at k.members key base)) (none key));
}

-- if a batch names no item and puts no rule, there is nothing to evaluate
unlooked : (n : ℕ) (es : List Edit) (list : Option Playlist) (member : ℕ → Option ℕ) (named rule : Bool) (old : Option ListVersion) (x : Option ListHistory) → rule ≡ false → since_of old < n
    → TellsOne n list member named rule old (now_of x) → InPlace (TestsRule n es []) x x
unlooked n es list member named rule old None no_rule early t = refl
unlooked n es list member named rule old (Some l) no_rule early t = (refl, same_head n (λ key. has_rule l.now.head && is_among key (tested_ids (l.now.since == n) es [])) (ruled_in l.now.head es) l.now unpicked)
  where
    unpicked : (key : ℕ) → (has_rule l.now.head && is_among key (tested_ids (l.now.since == n) es [])) ≡ false
    unpicked key =
        ⊎_elim
        (λ ruled.
        ap (λ b. b && is_among key (tested_ids (l.now.since == n) es [])) ruled
        ∙ ap (λ b. is_among key (tested_ids b es []))
        (⊎_elim
        (λ named. absurd (true≢false (sym (t.rules ruled named) ∙ no_rule)))
        (λ un. other_number l.now.since n (let e = t.since ∙ ap (λ b. cond b n (since_of old)) un in omega (arith, e, early)))
        (cases_Bool named)))
        (λ plain. ap (λ b. b && is_among key (tested_ids (l.now.since == n) es [])) plain)
        (cases_Bool (has_rule l.now.head))

pub unlooked_all : (n : ℕ) (es batch : List Edit) (ids : List ℕ) (old mid : Lists) → ids ≡ [] → list_any puts_rule batch ≡ false → ((c : ℕ) → since_of (top old c) < n)
    → Tells n es batch old mid → Everywhere (TestsRule n es ids) mid mid
unlooked_all n es batch ids old mid none no_rule early t c =
    subst (λ ids. InPlace (TestsRule n es ids) (at c mid) (at c mid)) (sym none)
    (unlooked n es (list_at es c) (member_at es c) (list_any (names_list c) batch) (list_any puts_rule batch) (top old c) (at c mid) no_rule (early c) (t c))

pub no_length : {A : Type 0} (xs : List A) → (length xs == 0) ≡ true → xs ≡ []
no_length [] h = refl
no_length (x ∷ xs) h = absurd (let e : length (x ∷ xs) ≡ 0 = eqb-true (length (x ∷ xs)) 0 h in omega (arith, e))

-- a list whose rule was evaluated
pub list_tested : {E : Type 0} (r : Result ⊤ E) (P : List (List Edit) → Type 0) (n : ℕ) (ids : List ℕ) (c : ℕ) (was is : ListVersion) (old new : Lists) → ChangesOne c (Becomes was is) old new
    → OnOk r ((bs : List (List Edit)) → P bs → TestsRule n (edits bs) ids was is)
    → OnOk r ((bs : List (List Edit)) → P bs → ChangesOne c (TestsRule n (edits bs) ids) old new)
list_tested (Err x) P n ids c was is old new one tests = tt
list_tested (Ok x) P n ids c was is old new one tests = λ bs h. became c was is old new one (tests bs h)

-- a batch whose rules were evaluated
pub all_taken : {E : Type 0} (r : Result ⊤ E) (P : List (List Edit) → Type 0) (n : ℕ) (batch : List Edit) (ids : List ℕ) (old mid new : Lists) → ids ≡ named_items batch
    → ((es : List Edit) → Tells n es [] old old → Tells n (es ++ batch) batch old mid)
    → OnOk r ((bs : List (List Edit)) → P bs → Everywhere (TestsRule n (edits bs) ids) mid new)
    → OnOk r ((bs : List (List Edit)) (es : List Edit) → P bs → edits bs ≡ es ++ batch → ((c : ℕ) → since_of (top old c) < n) → Tells n es [] old old → Taken n (edits bs) batch old new)
all_taken (Err x) P n batch ids old mid new are told tests = tt
all_taken (Ok x) P n batch ids old mid new are told tests = λ bs es h is early start. record {
  mid = mid;
  tells = subst (λ ds. Tells n ds batch old mid) (sym is) (told es start);
  tests = subst (λ ids. Everywhere (TestsRule n (edits bs) ids) mid new) are (tests bs h);
}
