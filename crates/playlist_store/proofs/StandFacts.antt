-- What a store represents before and after each of its calls.
use Rattle.std.proofs.Common.{◌≡◌, ◌≤◌, ◌<◌, ◌+◌, ◌-◌, ℕ, Bool, true, false, cond, ◌||◌, ◌&&◌, ◌==◌, List, [], ◌∷◌, ◌++◌, Option, Some, None, is_some, refl, sym, ap, subst, ◌∙◌, ⊎_elim, true≢false, eqb-true, arith}
use Rattle.std.specs.Prelude.{nat_lt}
use Rattle.std.specs.Option.{option_map}
use Rattle.std.specs.List.{list_any}
use Rattle.std.specs.Map.{keys_of}
use Rattle.std.proofs.lemmas.Bool.{cases_Bool, cases_lt, le-leb, le-ltb, lt-ltb}
use Rattle.std.proofs.lemmas.List.Folds.{list_any-append}
use Rattle.std.proofs.Math.Bool.{or-false}
use Rattle.item_model.specs.declared.changes.Edit.{Edit}
use Rattle.item_model.specs.declared.item.Row.{Row}
use Rattle.key_versions.specs.Held.{at, value_at, is_among}
use Rattle.share_history.specs.Histories.{edits, revision, up_to, later}
use Rattle.share_history.specs.LastSaid.{Playlist, Plain, Ruled, item_at, list_at, member_at}
use Rattle.share_history.specs.Named.{names_list}
use Rattle.share_history.specs.Rows.{library}
use Rattle.share_history.proofs.KeyedFacts.{is_eq-cmp, key_itself, has-keys_of}
use Rattle.share_history.proofs.EditFacts.{edits_more, revision_more, item_stays, list_stays, up_to-all, up_to-same}
use Rattle.share_history.proofs.RowFacts.{at-library}
use Rattle.item_store.specs.Stands.{named_items}
use Rattle.item_store.proofs.BatchFacts.{among_named}
use Rattle.item_store.proofs.StandFacts.{has-among}
use Rattle.playlist_store.specs.declared.kept.ListVersion.{ListVersion}
use Rattle.playlist_store.specs.Words.{head_of, ruled, standing}
use Rattle.playlist_store.specs.Lists.{Lists, top, list_in, head_in, since_of, member_in, near_in, has_rule, names_key}
use Rattle.playlist_store.specs.Store.{Store}
use Rattle.playlist_store.specs.Stands.{Shows, StandsFor}
use Rattle.playlist_store.specs.Changes.{TellsOne, Tells, Taken, TestsRule, Frames, is_plain, tested_ids, ruled_in, puts_rule}
use Rattle.playlist_store.proofs.KeptFacts.{on_top, top_found}
use Rattle.playlist_store.proofs.ShowFacts.{later_none, later_more, plain_is, standing_plain, shows_moved, since_shown, left_unnamed}

-- ---- before a batch

module _ {bs : List (List Edit)} {s : Store} (h : StandsFor bs s) where
  pub low_reached : s.low ≤ revision bs
  low_reached = omega (arith, h.reach, h.least, h.revision)

  pub since_now : (c : ℕ) → since_of (top s.lists c) ≤ s.revision
  since_now c = subst (λ n. since_of (top s.lists c) ≤ n) (sym h.revision) (since_shown bs [] s.low (top s.lists) h.now low_reached c)

  -- at the present revision and above members are the present ones
  pub member_now : (c key base : ℕ) → revision bs ≤ base → member_in (top s.lists c) key base ≡ standing (list_at (edits bs) c) (edits bs) c key
  member_now c key base le =
      h.now.members c key base (omega (arith, le, low_reached)) (omega (arith, le, since_shown bs [] s.low (top s.lists) h.now low_reached c))
      (left_unnamed (revision bs) base false refl)
      ∙ ap (λ cs. standing (list_at (edits bs) c) (edits cs) c key) (up_to-all bs base le)

  -- no edit of the next revision is applied yet
  pub tells_start : (n : ℕ) → n ≡ s.revision + 1 → Tells n (edits bs) [] s.lists s.lists
  tells_start n next c = record {
    heads = h.now.heads c;
    since = refl;
    plain = λ key base le p.
        member_now c key base (omega (arith, le, next, h.revision))
        ∙ standing_plain (list_at (edits bs) c) (edits bs) c key (ap is_plain (sym (h.now.heads c)) ∙ p);
    fresh = λ key base p named. absurd (true≢false (sym named));
    left = λ key base p unnamed. refl;
    near = λ key item p is.
        let name = plain_is (list_at (edits bs) c) (ap is_plain (sym (h.now.heads c)) ∙ p) in
        h.now.near c key item name.0 name.1 is;
    rules = λ p named. absurd (true≢false (sym named));
  }

-- ---- after a batch

not_in_library : (es : List Edit) (id : ℕ) → is_among id (keys_of (library es)) ≡ false → item_at es id ≡ None
not_in_library es id h = none (item_at es id) (sym (has-keys_of id (library es) ∙ ap is_some (at-library es id)) ∙ has-among id (keys_of (library es)) ∙ h)
  where
    none : (o : Option Row) → is_some o ≡ false → o ≡ None
    none None h = refl
    none (Some row) h = absurd (true≢false h)

-- what the last of a rule's looks says
pub record Looked (n : ℕ) (es : List Edit) (ids : List ℕ) (old new : Option ListVersion) : Type 0 where
  pub head : head_in new ≡ head_in old
  pub since : since_of new ≡ since_of old
  pub near : (item key : ℕ) → near_in old item key ≡ true → near_in new item key ≡ true
  pub members : (key base : ℕ) → n ≤ base
      → member_in new key base ≡ cond (has_rule (head_in old) && is_among key (tested_ids (since_of old == n) es ids)) (ruled_in (head_in old) es key) (member_in old key base)

pub looked : (n : ℕ) (es : List Edit) (ids : List ℕ) (a b : ListVersion) → TestsRule n es ids a b → Looked n es ids (Some a) (Some b)
looked n es ids a b t = record {
  head = t.head;
  since = t.since;
  near = t.near;
  members = λ key base le.
      t.members key base
      ∙ ap (λ x. cond ((has_rule a.head && is_among key (tested_ids (a.since == n) es ids)) && x) (ruled_in a.head es key) (value_at a.members key base)) (le-leb n base le)
      ∙ and_all (has_rule a.head && is_among key (tested_ids (a.since == n) es ids)) (ruled_in a.head es key) (value_at a.members key base);
}
  where
    and_all : (b : Bool) (x y : Option ℕ) → cond (b && true) x y ≡ cond b x y
    and_all true x y = refl
    and_all false x y = refl

looked_none : (n : ℕ) (es : List Edit) (ids : List ℕ) → Looked n es ids None None
looked_none n es ids = record { head = refl; since = refl; near = λ item key is. is; members = λ key base le. refl }

is_rule : (l : Option Playlist) → has_rule (option_map head_of l) ≡ true → (es : List Edit) (c key : ℕ) → ruled_in (option_map head_of l) es key ≡ standing l es c key
is_rule None h es c key = absurd (true≢false (sym h))
is_rule (Some (Plain name)) h es c key = absurd (true≢false (sym h))
is_rule (Some (Ruled name rule)) h es c key = refl

-- in a smart playlist a key whose item does not exist has no item
no_item_stands : (l : Option Playlist) → is_plain (option_map head_of l) ≡ false → (es : List Edit) (c key : ℕ) → item_at es key ≡ None → standing l es c key ≡ None
no_item_stands None h es c key none = refl
no_item_stands (Some (Plain name)) h es c key none = absurd (true≢false h)
no_item_stands (Some (Ruled name rule)) h es c key none = ap (ruled rule key) none

-- and while the item stays, the item under the key does
item_stands : (l : Option Playlist) → is_plain (option_map head_of l) ≡ false → (es ds : List Edit) (c key : ℕ) → item_at es key ≡ item_at ds key → standing l es c key ≡ standing l ds c key
item_stands None h es ds c key same = refl
item_stands (Some (Plain name)) h es ds c key same = absurd (true≢false h)
item_stands (Some (Ruled name rule)) h es ds c key same = ap (ruled rule key) same

no_rule_stands : (l : Option Playlist) → is_plain (option_map head_of l) ≡ false → has_rule (option_map head_of l) ≡ false → l ≡ None
no_rule_stands None p r = refl
no_rule_stands (Some (Plain name)) p r = absurd (true≢false p)
no_rule_stands (Some (Ruled name rule)) p r = absurd (true≢false r)

same_number : (a b : ℕ) → a ≡ b → (a == b) ≡ true
same_number a b h = ap (λ x. x == b) h ∙ sym (is_eq-cmp b b) ∙ key_itself b

pub other_number : (a b : ℕ) → a < b → (a == b) ≡ false
other_number a b h = ⊎_elim (λ same. absurd (let e : a ≡ b = eqb-true a b same in omega (arith, h, e))) (λ other. other) (cases_Bool (a == b))

module _ (bs : List (List Edit)) (batch : List Edit) (s : Store) (n : ℕ) (new : Lists) (h : StandsFor bs s) (next : n ≡ s.revision + 1)
    (taken : Taken n (edits (bs ++ batch ∷ [])) batch s.lists new) (frames : Frames n batch s.lists new) where
  abbrev all : List (List Edit)
  all = bs ++ batch ∷ []

  abbrev es : List Edit
  es = edits (bs ++ batch ∷ [])

  looks : (c : ℕ) → Looked n es (named_items batch) (top taken.mid c) (top new c)
  looks c = on_top {R = TestsRule n es (named_items batch)} (Looked n es (named_items batch)) (looked_none n es (named_items batch)) (looked n es (named_items batch)) (at c taken.mid) (at c new) (taken.tests c)

  tells : (c : ℕ) → TellsOne n (list_at es c) (member_at es c) (list_any (names_list c) batch) (list_any puts_rule batch) (top s.lists c) (top taken.mid c)
  tells c = taken.tells c

  made : revision all ≡ n
  made = revision_more bs batch ∙ ap (λ k. k + 1) (sym h.revision) ∙ sym next

  heads_new : (c : ℕ) → head_in (top new c) ≡ option_map head_of (list_at es c)
  heads_new c = (looks c).head ∙ (tells c).heads

  since_new : (c : ℕ) → since_of (top new c) ≡ cond (list_any (names_list c) batch) n (since_of (top s.lists c))
  since_new c = (looks c).since ∙ (tells c).since

  since_few : (c : ℕ) → since_of (top new c) ≤ n
  since_few c =
      ⊎_elim
      (λ named. let e = since_new c ∙ ap (λ b. cond b n (since_of (top s.lists c))) named in omega (arith, e))
      (λ unnamed. let e = since_new c ∙ ap (λ b. cond b n (since_of (top s.lists c))) unnamed in omega (arith, e, since_now h c, next))
      (cases_Bool (list_any (names_list c) batch))

  list_left : (c : ℕ) → list_any (names_list c) batch ≡ false → list_at es c ≡ list_at (edits bs) c
  list_left c un = ap (λ ds. list_at ds c) (edits_more bs batch) ∙ list_stays (edits bs) batch c un

  -- what came after a base
  since_all : (c base : ℕ) → s.low ≤ base → list_any (names_list c) (later all base) ≡ nat_lt base (since_of (top new c))
  since_all c base le =
      ⊎_elim
      (λ below.
      ap (list_any (names_list c)) (later_more bs batch base (omega (arith, below, next, h.revision)))
      ∙ list_any-append (names_list c) (later bs base) batch
      ∙ ap (λ b. b || list_any (names_list c) batch) (h.now.since c base le)
      ∙ joined (list_any (names_list c) batch) refl below)
      (λ above.
      ap (list_any (names_list c)) (later_none all base (omega (arith, above, made)))
      ∙ sym (le-ltb base (since_of (top new c)) (omega (arith, above, since_few c))))
      (cases_lt base n)
    where
      joined : (b : Bool) → list_any (names_list c) batch ≡ b → base < n → (nat_lt base (since_of (top s.lists c)) || b) ≡ nat_lt base (since_of (top new c))
      joined true is lt = or_all (nat_lt base (since_of (top s.lists c))) ∙ sym (ap (nat_lt base) (since_new c ∙ ap (λ b. cond b n (since_of (top s.lists c))) is) ∙ lt-ltb base n lt)
        where
          or_all : (b : Bool) → (b || true) ≡ true
          or_all true = refl
          or_all false = refl
      joined false is lt = or-false (nat_lt base (since_of (top s.lists c))) ∙ sym (ap (nat_lt base) (since_new c ∙ ap (λ b. cond b n (since_of (top s.lists c))) is))

  -- members from the batch on, by the kind of the list
  member_plain : (c key base : ℕ) → n ≤ base → is_plain (option_map head_of (list_at es c)) ≡ true → member_in (top new c) key base ≡ standing (list_at es c) es c key
  member_plain c key base le p =
      (looks c).members key base le
      ∙ ap (λ x. cond (x && is_among key (tested_ids (since_of (top taken.mid c) == n) es (named_items batch))) (ruled_in (head_in (top taken.mid c)) es key) (member_in (top taken.mid c) key base)) no_rule
      ∙ (tells c).plain key base le (ap is_plain (tells c).heads ∙ p)
      ∙ sym (standing_plain (list_at es c) es c key p)
    where
      no_rule : has_rule (head_in (top taken.mid c)) ≡ false
      no_rule = ap has_rule (tells c).heads ∙ ap (λ o. has_rule (option_map head_of o)) (plain_is (list_at es c) p).1

  -- if a rule was not evaluated
  member_unlooked : (c key base : ℕ) → n ≤ base → is_plain (option_map head_of (list_at es c)) ≡ false
      → (has_rule (head_in (top taken.mid c)) ≡ true → is_among key (tested_ids (since_of (top taken.mid c) == n) es (named_items batch)) ≡ false)
      → member_in (top taken.mid c) key base ≡ standing (list_at es c) es c key
  member_unlooked c key base le p unlooked =
      ⊎_elim
      (λ named.
      (tells c).fresh key base (ap is_plain (tells c).heads ∙ p) named
      ∙ sym (⊎_elim
      (λ rule.
      no_item_stands (list_at es c) p es c key
      (not_in_library es key (sym (ap (λ b. is_among key (tested_ids b es (named_items batch))) (same_number (since_of (top taken.mid c)) n ((tells c).since ∙ ap (λ b. cond b n (since_of (top s.lists c))) named))) ∙ unlooked rule)))
      (λ none. ap (λ o. standing o es c key) (no_rule_stands (list_at es c) p (sym (ap has_rule (tells c).heads) ∙ none)))
      (cases_Bool (has_rule (head_in (top taken.mid c))))))
      (λ un.
      let before : is_plain (option_map head_of (list_at (edits bs) c)) ≡ false = ap (λ o. is_plain (option_map head_of o)) (sym (list_left c un)) ∙ p in
      (tells c).left key base (ap is_plain (tells c).heads ∙ p) un
      ∙ member_now h c key base (omega (arith, le, next, h.revision))
      ∙ ⊎_elim
      (λ rule.
      let old : since_of (top taken.mid c) ≡ since_of (top s.lists c) = (tells c).since ∙ ap (λ b. cond b n (since_of (top s.lists c))) un in
      let away : is_among key (named_items batch) ≡ false =
      sym (ap (λ b. is_among key (tested_ids b es (named_items batch))) (other_number (since_of (top taken.mid c)) n (omega (arith, old, since_now h c, next)))) ∙ unlooked rule in
      item_stands (list_at (edits bs) c) before (edits bs) es c key
      (sym (ap (λ ds. item_at ds key) (edits_more bs batch) ∙ item_stays (edits bs) batch key (sym (among_named key batch) ∙ away))))
      (λ none.
      let gone : list_at (edits bs) c ≡ None = no_rule_stands (list_at (edits bs) c) before (ap (λ o. has_rule (option_map head_of o)) (sym (list_left c un)) ∙ sym (ap has_rule (tells c).heads) ∙ none) in
      ap (λ o. standing o (edits bs) c key) gone ∙ sym (ap (λ o. standing o es c key) gone))
      (cases_Bool (has_rule (head_in (top taken.mid c))))
      ∙ ap (λ o. standing o es c key) (sym (list_left c un)))
      (cases_Bool (list_any (names_list c) batch))

  member_ruled : (c key base : ℕ) → n ≤ base → is_plain (option_map head_of (list_at es c)) ≡ false → member_in (top new c) key base ≡ standing (list_at es c) es c key
  member_ruled c key base le p =
      (looks c).members key base le
      ∙ looked_at (has_rule (head_in (top taken.mid c))) (is_among key (tested_ids (since_of (top taken.mid c) == n) es (named_items batch))) refl refl
    where
      looked_at : (a b : Bool) → has_rule (head_in (top taken.mid c)) ≡ a → is_among key (tested_ids (since_of (top taken.mid c) == n) es (named_items batch)) ≡ b
          → cond (a && b) (ruled_in (head_in (top taken.mid c)) es key) (member_in (top taken.mid c) key base) ≡ standing (list_at es c) es c key
      looked_at true true is among = ap (λ o. ruled_in o es key) (tells c).heads ∙ is_rule (list_at es c) (sym (ap has_rule (tells c).heads) ∙ is) es c key
      looked_at true false is among = member_unlooked c key base le p (λ _. among)
      looked_at false b is among = member_unlooked c key base le p (λ rule. absurd (true≢false (sym rule ∙ is)))

  -- members before the batch
  member_old : (c key base : ℕ) → s.low ≤ base → base < n → since_of (top new c) ≤ base → member_in (top new c) key base ≡ standing (list_at es c) (edits (up_to all base)) c key
  member_old c key base low lt put =
      let un : list_any (names_list c) batch ≡ false = unnamed (list_any (names_list c) batch) refl in
      let last : n - 1 ≡ s.revision = omega (arith, next) in
      let same : since_of (top new c) ≡ since_of (top s.lists c) = since_new c ∙ ap (λ b. cond b n (since_of (top s.lists c))) un in
      let here : list_in new c (n - 1) ≡ top new c = top_found new c (n - 1) (omega (arith, put, lt)) in
      let there : list_in s.lists c (n - 1) ≡ top s.lists c = top_found s.lists c (n - 1) (omega (arith, since_now h c, last)) in
      ap (λ o. member_in o key base) (sym here)
      ∙ (frames.last c).below key base lt
      ∙ ap (λ o. member_in o key base) there
      ∙ h.now.members c key base low (omega (arith, put, same)) (left_unnamed (revision bs) base false refl)
      ∙ ap (λ o. standing o (edits (up_to bs base)) c key) (sym (list_left c un))
      ∙ ap (λ cs. standing (list_at es c) (edits cs) c key) (sym (up_to-same bs (batch ∷ []) base (omega (arith, lt, next, h.revision))))
    where
      unnamed : (b : Bool) → list_any (names_list c) batch ≡ b → b ≡ false
      unnamed true is = let e : since_of (top new c) ≡ n = since_new c ∙ ap (λ b. cond b n (since_of (top s.lists c))) is in absurd (let no : ⊥ = omega (arith, e, put, lt) in no)
      unnamed false is = refl

  pub shows_now : Shows all [] s.low (top new)
  shows_now = record {
    heads = heads_new;
    since = since_all;
    members = λ c key base low put left.
        ⊎_elim
        (λ below. member_old c key base low below put)
        (λ above.
        ⊎_elim (λ p. member_plain c key base above p) (λ p. member_ruled c key base above p) (cases_Bool (is_plain (option_map head_of (list_at es c))))
        ∙ ap (λ cs. standing (list_at es c) (edits cs) c key) (sym (up_to-all all base (omega (arith, above, made)))))
        (cases_lt base n);
    near = λ c key item name is member.
        (looks c).near item key
        ((tells c).near key item (ap is_plain (tells c).heads ∙ ap (λ o. is_plain (option_map head_of o)) is) member);
  }

  pub shows_before : Shows bs batch s.low (λ c. list_in new c (n - 1))
  shows_before =
      let last : n - 1 ≡ s.revision = omega (arith, next) in
      let there : (c : ℕ) → list_in s.lists c (n - 1) ≡ top s.lists c = λ c. top_found s.lists c (n - 1) (omega (arith, since_now h c, last)) in
      shows_moved bs [] batch s.low (top s.lists) (λ c. list_in new c (n - 1)) h.now
      (λ c. (frames.last c).head ∙ ap head_in (there c))
      (λ c. (frames.last c).since ∙ ap since_of (there c))
      (λ c item key is. (frames.last c).near item key (ap (λ o. near_in o item key) (there c) ∙ is))
      (λ c key base low put left. record {
        from = base;
        same =
            ⊎_elim
            (λ below. (frames.last c).below key base below)
            (λ above. (frames.last c).others key base
            (sym (ap (λ x. x && list_any (names_key (head_in (list_in s.lists c (n - 1))) c key) batch) (lt-ltb (revision bs) base (omega (arith, above, next, h.revision))))
            ∙ ap (λ o. nat_lt (revision bs) base && list_any (names_key (head_in o) c key) batch) (there c) ∙ left))
            (cases_lt base n)
            ∙ ap (λ o. member_in o key base) (there c);
        reached = low;
        since = put;
        left = left_unnamed (revision bs) base false refl;
        until = refl;
      })
