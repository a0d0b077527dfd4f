-- What each list is, edit by edit.
use Rattle.std.proofs.Common.{◌≡◌, ◌≤◌, ◌<◌, ◌+◌, ℕ, Bool, true, false, cond, ◌||◌, ◌&&◌, ◌==◌, List, [], ◌∷◌, ◌++◌, length, take, get_or, append_assoc, Option, Some, None, unwrap_or, refl, sym, ap, subst, ◌∙◌, ⊎_elim, true≢false, eqb-true, Ok, Err}
use Rattle.std.specs.Prelude.{Result, OnOk, nat_le, ⊤}
use Rattle.std.specs.Option.{option_map}
use Rattle.std.specs.List.{list_any}
use Rattle.std.proofs.lemmas.Bool.{cases_Bool, le-leb, or_left, or_right}
use Rattle.std.proofs.lemmas.List.{take_more, take_all}
use Rattle.std.proofs.lemmas.List.Folds.{list_any-append}
use Rattle.std.proofs.Math.Bool.{or-false}
use Rattle.item_model.specs.declared.changes.Edit.{Edit}
use Rattle.item_model.specs.declared.changes.Edit.TheVariants.{PutItem, DropItem, PutList, PutRule, DropList, PutMember, DropMember}
use Rattle.item_model.specs.declared.query.Query.{Query}
use Rattle.key_versions.specs.Held.{at, value_at}
use Rattle.share_history.specs.LastSaid.{Playlist, only_if, says_list, says_member, list_at, member_at}
use Rattle.share_history.specs.Named.{names_list}
use Rattle.share_history.proofs.EditFacts.{list_more, member_more}
use Rattle.playlist_store.specs.declared.head.ListHead.{ListHead}
use Rattle.playlist_store.specs.declared.kept.ListVersion.{ListVersion}
use Rattle.playlist_store.specs.Words.{head_of}
use Rattle.playlist_store.specs.Lists.{Lists, top, since_of, near_in, has_rule}
use Rattle.playlist_store.specs.Changes.{TellsOne, Tells, Puts, SetsMember, ChangesOne, InPlace, now_of, is_plain, puts_rule}
use Rattle.playlist_store.proofs.KeptFacts.{on_top}

-- ---- one list

-- equal lists and versions agree alike
tells_same : (n : ℕ) (l l' : Option Playlist) (m m' : ℕ → Option ℕ) (named named' rule rule' : Bool) (old a b : Option ListVersion)
    → l' ≡ l → ((k : ℕ) → m' k ≡ m k) → named' ≡ named → (rule ≡ true → rule' ≡ true) → b ≡ a
    → TellsOne n l m named rule old a → TellsOne n l' m' named' rule' old b
tells_same n l l' m m' named named' rule rule' old a b list member names rules same h =
    subst (λ o. TellsOne n l' m' named' rule' old o) (sym same)
    (record {
      heads = h.heads ∙ ap (option_map head_of) (sym list);
      since = h.since ∙ ap (λ x. cond x n (since_of old)) (sym names);
      plain = λ key base le p. h.plain key base le p ∙ sym (member key);
      fresh = λ key base p is. h.fresh key base p (sym names ∙ is);
      left = λ key base p is. h.left key base p (sym names ∙ is);
      near = λ key item p is. h.near key item p (sym (member key) ∙ is);
      rules = λ p is. rules (h.rules p (sym names ∙ is));
    })

none_some : (item : ℕ) → ◌≡◌ {A = Option ℕ} None (Some item) → ⊥
none_some item h = absurd (cc)

-- a list that was put or dropped
tells_put : (n : ℕ) (l : Option Playlist) (m : ℕ → Option ℕ) (rule : Bool) (old : Option ListVersion) (kept : ListVersion)
    → kept.since ≡ n → kept.head ≡ option_map head_of l → kept.members ≡ [] → ((k : ℕ) → m k ≡ None) → (has_rule kept.head ≡ true → rule ≡ true)
    → TellsOne n l m true rule old (Some kept)
tells_put n l m rule old kept since head members none rules = record {
  heads = head;
  since = since;
  plain = λ key base le p. empty key base ∙ sym (none key);
  fresh = λ key base p is. empty key base;
  left = λ key base p is. absurd (true≢false is);
  near = λ key item p is. absurd (none_some item (sym (none key) ∙ is));
  rules = λ p is. rules p;
}
  where
    empty : (key base : ℕ) → value_at kept.members key base ≡ None
    empty key base = ap (λ held. value_at held key base) members

pub rule_not_plain : (h : Option ListHead) → has_rule h ≡ true → is_plain h ≡ false
rule_not_plain None is = refl
rule_not_plain (Some head) is = ap (λ b. cond b false true) is

chosen : (q : Bool) (x y : Option ℕ) → cond ((true && q) && true) x y ≡ cond q x y
chosen true x y = refl
chosen false x y = refl

unchosen : (p q r : Bool) (x y : Option ℕ) → p ≡ false → cond ((p && q) && r) x y ≡ y
unchosen p q r x y un = ap (λ p. cond ((p && q) && r) x y) un

-- a member that was put or dropped
tells_set : (n : ℕ) (l : Option Playlist) (m m' : ℕ → Option ℕ) (named rule : Bool) (old : Option ListVersion) (key : ℕ) (item : Option ℕ) (a b : ListVersion)
    → ((k : ℕ) → m' k ≡ cond (key == k) item (m k)) → SetsMember n key item a b → TellsOne n l m named rule old (Some a) → TellsOne n l m' named rule old (Some b)
tells_set n l m m' named rule old key item a b says s h = record {
  heads = s.sets.head ∙ h.heads;
  since = s.sets.since ∙ h.since;
  plain = λ k base le p.
      s.sets.members k base
      ∙ ap (λ x. cond ((x && (key == k)) && nat_le n base) item (value_at a.members k base)) (was p)
      ∙ ap (λ x. cond ((true && (key == k)) && x) item (value_at a.members k base)) (le-leb n base le)
      ∙ chosen (key == k) item (value_at a.members k base)
      ∙ ap (cond (key == k) item) (h.plain k base le (was p))
      ∙ sym (says k);
  fresh = λ k base p is. other k base p ∙ h.fresh k base (was p) is;
  left = λ k base p is. other k base p ∙ h.left k base (was p) is;
  near = λ k i p is.
      ⊎_elim
      (λ same. subst (λ q. near_in (Some b) i q ≡ true) (eqb-true key k same) (s.noted i (was p) (sym (says k ∙ ap (λ x. cond x item (m k)) same) ∙ is)))
      (λ differs. s.sets.near i k (h.near k i (was p) (sym (says k ∙ ap (λ x. cond x item (m k)) differs) ∙ is)))
      (cases_Bool (key == k));
  rules = λ p is. h.rules (ap has_rule (sym s.sets.head) ∙ p) is;
}
  where
    was : {x : Bool} → is_plain b.head ≡ x → is_plain a.head ≡ x
    was p = ap is_plain (sym s.sets.head) ∙ p

    other : (k base : ℕ) → is_plain b.head ≡ false → value_at b.members k base ≡ value_at a.members k base
    other k base p = s.sets.members k base ∙ unchosen (is_plain a.head) (key == k) (nat_le n base) item (value_at a.members k base) (was p)

-- only playlists have members to set
tells_unset : (n : ℕ) (l : Option Playlist) (m m' : ℕ → Option ℕ) (named rule : Bool) (old : Option ListVersion) → TellsOne n l m named rule old None → TellsOne n l m' named rule old None
tells_unset n l m m' named rule old h = record {
  heads = h.heads;
  since = h.since;
  plain = λ key base le p. absurd (true≢false (sym p));
  fresh = h.fresh;
  left = h.left;
  near = λ key item p is. absurd (true≢false (sym p));
  rules = h.rules;
}

-- ---- one edit

said : {A : Type 0} (b : Bool) (x y : A) → unwrap_or (only_if b x) y ≡ cond b x y
said true x y = refl
said false x y = refl

or_false : (a b : Bool) → b ≡ false → (a || b) ≡ a
or_false true b h = refl
or_false false b h = h

any_more : (p : Edit → Bool) (es : List Edit) (e : Edit) → list_any p (es ++ e ∷ []) ≡ (list_any p es || p e)
any_more p es e = list_any-append p es (e ∷ []) ∙ ap (λ b. list_any p es || b) (or-false (p e))

module _ (n : ℕ) (all batch : List Edit) (e : Edit) (old mid new : Lists) (h : Tells n all batch old mid) where
  -- what an edit leaves of a list that it does not speak of
  untold : (q : ℕ) → says_list q e ≡ None → ((k : ℕ) → says_member q k e ≡ None) → names_list q e ≡ false → top new q ≡ top mid q
      → TellsOne n (list_at (all ++ e ∷ []) q) (member_at (all ++ e ∷ []) q) (list_any (names_list q) (batch ++ e ∷ [])) (list_any puts_rule (batch ++ e ∷ [])) (top old q) (top new q)
  untold q list member names same =
      tells_same n (list_at all q) (list_at (all ++ e ∷ []) q) (member_at all q) (member_at (all ++ e ∷ []) q)
      (list_any (names_list q) batch) (list_any (names_list q) (batch ++ e ∷ [])) (list_any puts_rule batch) (list_any puts_rule (batch ++ e ∷ []))
      (top old q) (top mid q) (top new q)
      (list_more all e q ∙ ap (λ o. unwrap_or o (list_at all q)) list)
      (λ k. member_more all e q k ∙ ap (λ o. unwrap_or o (member_at all q k)) (member k))
      (any_more (names_list q) batch e ∙ or_false (list_any (names_list q) batch) (names_list q e) names)
      (λ is. any_more puts_rule batch e ∙ or_left (list_any puts_rule batch) (puts_rule e) is)
      same (h q)

  pub tells_none : ((q : ℕ) → says_list q e ≡ None) → ((q k : ℕ) → says_member q k e ≡ None) → ((q : ℕ) → names_list q e ≡ false) → new ≡ mid
      → Tells n (all ++ e ∷ []) (batch ++ e ∷ []) old new
  tells_none list member names same q = untold q (list q) (member q) (names q) (ap (λ ls. top ls q) same)

  pub tells_list : {E : Type 0} (r : Result ⊤ E) (c : ℕ) (kept : ListVersion) (l : Option Playlist) → ((q : ℕ) → says_list q e ≡ only_if (c == q) l)
      → ((q k : ℕ) → says_member q k e ≡ only_if (c == q) None) → ((q : ℕ) → names_list q e ≡ (c == q))
      → kept.since ≡ n → kept.head ≡ option_map head_of l → kept.members ≡ [] → (has_rule kept.head ≡ true → puts_rule e ≡ true)
      → OnOk r ((q : ℕ) → top new q ≡ cond (c == q) (Some kept) (top mid q))
      → OnOk r (Tells n (all ++ e ∷ []) (batch ++ e ∷ []) old new)
  tells_list (Err x) c kept l list member names since head members rules put = tt
  tells_list (Ok x) c kept l list member names since head members rules put = λ q.
      ⊎_elim
      (λ is.
      let lists : list_at (all ++ e ∷ []) q ≡ l = list_more all e q ∙ ap (λ o. unwrap_or o (list_at all q)) (list q) ∙ said (c == q) l (list_at all q) ∙ ap (λ b. cond b l (list_at all q)) is in
      let named : list_any (names_list q) (batch ++ e ∷ []) ≡ true = any_more (names_list q) batch e ∙ or_right (list_any (names_list q) batch) (names_list q e) (names q ∙ is) in
      tells_same n l (list_at (all ++ e ∷ []) q) (member_at (all ++ e ∷ []) q) (member_at (all ++ e ∷ []) q) true (list_any (names_list q) (batch ++ e ∷ []))
      (list_any puts_rule (batch ++ e ∷ [])) (list_any puts_rule (batch ++ e ∷ [])) (top old q) (Some kept) (top new q)
      lists (λ k. refl) named (λ is. is) (put q ∙ ap (λ b. cond b (Some kept) (top mid q)) is)
      (tells_put n l (member_at (all ++ e ∷ []) q) (list_any puts_rule (batch ++ e ∷ [])) (top old q) kept since head members
      (λ k. member_more all e q k ∙ ap (λ o. unwrap_or o (member_at all q k)) (member q k) ∙ said (c == q) None (member_at all q k) ∙ ap (λ b. cond b None (member_at all q k)) is)
      (λ is. any_more puts_rule batch e ∙ or_right (list_any puts_rule batch) (puts_rule e) (rules is))))
      (λ other.
      untold q (list q ∙ ap (λ b. only_if b l) other) (λ k. member q k ∙ ap (λ b. only_if {A = Option ℕ} b None) other) (names q ∙ other)
      (put q ∙ ap (λ b. cond b (Some kept) (top mid q)) other))
      (cases_Bool (c == q))

  pub tells_member : {E : Type 0} (r : Result ⊤ E) (c key : ℕ) (item : Option ℕ) → ((q : ℕ) → says_list q e ≡ None)
      → ((q k : ℕ) → says_member q k e ≡ only_if ((c == q) && (key == k)) item) → ((q : ℕ) → names_list q e ≡ false)
      → OnOk r (ChangesOne c (SetsMember n key item) mid new)
      → OnOk r (Tells n (all ++ e ∷ []) (batch ++ e ∷ []) old new)
  tells_member (Err x) c key item list member names put = tt
  tells_member (Ok x) c key item list member names put = λ q.
      ⊎_elim
      (λ is. here q is)
      (λ other.
      untold q (list q) (λ k. member q k ∙ ap (λ b. only_if (b && (key == k)) item) other) (names q) (ap now_of (put.others q other)))
      (cases_Bool (c == q))
    where
      here : (q : ℕ) → (c == q) ≡ true
          → TellsOne n (list_at (all ++ e ∷ []) q) (member_at (all ++ e ∷ []) q) (list_any (names_list q) (batch ++ e ∷ [])) (list_any puts_rule (batch ++ e ∷ [])) (top old q) (top new q)
      here q is =
          tells_same n (list_at all q) (list_at (all ++ e ∷ []) q) (λ k. cond (key == k) item (member_at all q k)) (member_at (all ++ e ∷ []) q)
          (list_any (names_list q) batch) (list_any (names_list q) (batch ++ e ∷ [])) (list_any puts_rule batch) (list_any puts_rule (batch ++ e ∷ []))
          (top old q) (top new q) (top new q)
          (list_more all e q ∙ ap (λ o. unwrap_or o (list_at all q)) (list q))
          (λ k. member_more all e q k ∙ ap (λ o. unwrap_or o (member_at all q k)) (member q k ∙ ap (λ b. only_if (b && (key == k)) item) is)
          ∙ said (key == k) item (member_at all q k))
          (any_more (names_list q) batch e ∙ or_false (list_any (names_list q) batch) (names_list q e) (names q))
          (λ is. any_more puts_rule batch e ∙ or_left (list_any puts_rule batch) (puts_rule e) is)
          refl
          (on_top {R = SetsMember n key item}
          (λ a b. TellsOne n (list_at all q) (member_at all q) (list_any (names_list q) batch) (list_any puts_rule batch) (top old q) a
          → TellsOne n (list_at all q) (λ k. cond (key == k) item (member_at all q k)) (list_any (names_list q) batch) (list_any puts_rule batch) (top old q) b)
          (λ t. tells_unset n (list_at all q) (member_at all q) (λ k. cond (key == k) item (member_at all q k)) (list_any (names_list q) batch) (list_any puts_rule batch) (top old q) t)
          (λ a b s t. tells_set n (list_at all q) (member_at all q) (λ k. cond (key == k) item (member_at all q k)) (list_any (names_list q) batch) (list_any puts_rule batch) (top old q) key item a b (λ k. refl) s t)
          (at q mid) (at q new) (subst (λ k. InPlace (SetsMember n key item) (at k mid) (at k new)) (eqb-true c q is) put.here) (h q))

-- ---- one edit that may fail

abbrev pub Told : (n : ℕ) (e : Edit) (mid new : Lists) → Type 0
Told n e mid new = (es batch : List Edit) (first : Lists) → Tells n es batch first mid → Tells n (es ++ e ∷ []) (batch ++ e ∷ []) first new

pub put_told : {E : Type 0} (r : Result ⊤ E) (n c : ℕ) (e : Edit) (kept : ListVersion) (l : Option Playlist) (mid new : Lists) → ((q : ℕ) → says_list q e ≡ only_if (c == q) l)
    → ((q k : ℕ) → says_member q k e ≡ only_if (c == q) None) → ((q : ℕ) → names_list q e ≡ (c == q))
    → kept.since ≡ n → kept.head ≡ option_map head_of l → kept.members ≡ [] → (has_rule kept.head ≡ true → puts_rule e ≡ true)
    → Puts c kept r mid new → OnOk r (Told n e mid new)
put_told {E} (Err x) n c e kept l mid new list member names since head members rules p = tt
put_told {E} (Ok x) n c e kept l mid new list member names since head members rules p = λ es batch first h.
    tells_list n es batch e first mid new h {E = E} (Ok x) c kept l list member names since head members rules p.put

pub member_told : {E : Type 0} (r : Result ⊤ E) (n c key : ℕ) (e : Edit) (item : Option ℕ) (mid new : Lists) → ((q : ℕ) → says_list q e ≡ None)
    → ((q k : ℕ) → says_member q k e ≡ only_if ((c == q) && (key == k)) item) → ((q : ℕ) → names_list q e ≡ false)
    → OnOk r (ChangesOne c (SetsMember n key item) mid new) → OnOk r (Told n e mid new)
member_told {E} (Err x) n c key e item mid new list member names p = tt
member_told {E} (Ok x) n c key e item mid new list member names p = λ es batch first h. tells_member n es batch e first mid new h {E = E} (Ok x) c key item list member names p

pub item_told : (n : ℕ) (e : Edit) (mid : Lists) → ((list : ℕ) (name : List ℕ) → e ≡ PutList list name → ⊥) → ((list : ℕ) (name : List ℕ) (rule : Query) → e ≡ PutRule list name rule → ⊥)
    → ((list : ℕ) → e ≡ DropList list → ⊥) → ((list member item : ℕ) → e ≡ PutMember list member item → ⊥) → ((list member : ℕ) → e ≡ DropMember list member → ⊥)
    → Told n e mid mid
item_told n (PutItem row) mid pl pr dl pm dm = λ es batch first h. tells_none n es batch (PutItem row) first mid mid h (λ q. refl) (λ q k. refl) (λ q. refl) refl
item_told n (DropItem id) mid pl pr dl pm dm = λ es batch first h. tells_none n es batch (DropItem id) first mid mid h (λ q. refl) (λ q k. refl) (λ q. refl) refl
item_told n (PutList list name) mid pl pr dl pm dm = absurd (pl list name refl)
item_told n (PutRule list name rule) mid pl pr dl pm dm = absurd (pr list name rule refl)
item_told n (DropList list) mid pl pr dl pm dm = absurd (dl list refl)
item_told n (PutMember list member item) mid pl pr dl pm dm = absurd (pm list member item refl)
item_told n (DropMember list member) mid pl pr dl pm dm = absurd (dm list member refl)

-- the edits that are in are one more
pub told_more : (n : ℕ) (batch : List Edit) (i : ℕ) (e : Edit) (old mid new : Lists) → i < length batch → e ≡ get_or batch i e
    → ((es : List Edit) → Tells n es [] old old → Tells n (es ++ take i batch) (take i batch) old mid) → Told n e mid new
    → (es : List Edit) → Tells n es [] old old → Tells n (es ++ take (i + 1) batch) (take (i + 1) batch) old new
told_more n batch i e old mid new lt is before one es start =
    let next : take (i + 1) batch ≡ take i batch ++ e ∷ [] = take_more batch i e lt ∙ ap (λ x. take i batch ++ x ∷ []) (sym is) in
    subst (λ ds. Tells n ds (take (i + 1) batch) old new) (append_assoc es (take i batch) (e ∷ []) ∙ ap (λ ds. es ++ ds) (sym next))
    (subst (λ ds. Tells n ((es ++ take i batch) ++ e ∷ []) ds old new) (sym next) (one (es ++ take i batch) (take i batch) old (before es start)))

pub told_whole : (n : ℕ) (batch : List Edit) (i : ℕ) (old new : Lists) → length batch ≤ i → ((es : List Edit) → Tells n es [] old old → Tells n (es ++ take i batch) (take i batch) old new)
    → (es : List Edit) → Tells n es [] old old → Tells n (es ++ batch) batch old new
told_whole n batch i old new le told es start = subst (λ ds. Tells n (es ++ ds) ds old new) (take_all i batch le) (told es start)
