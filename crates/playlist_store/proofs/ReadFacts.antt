-- What a store that represents some batches returns.
use Rattle.std.proofs.Common.{◌≡◌, ◌≤◌, ◌<◌, ◌-◌, ◌+◌, ◌^◌, ◌==◌, ◌&&◌, ◌||◌, not, ℕ, Bool, true, false, cond, List, [], ◌∷◌, ◌++◌, length, drop, filter, fold, map, flat_map, Option, Some, None, is_some, refl, sym, ap, subst, ◌∙◌, ⊎_elim, true≢false, arith, nat_cmp, Ok, Err}
use Rattle.std.specs.Prelude.{Result, IfOk, nat_le, nat_lt}
use Rattle.std.specs.Option.{option_map, option_and_then}
use Rattle.std.specs.List.{list_any}
use Rattle.std.specs.Map.{keys_of}
use Rattle.std.specs.Cmp.{nat_cmp_total}
use Rattle.std.proofs.lemmas.Bool.{and_parts, le-leb, le-ltb, ltb-false, leb-true, lt-leb, lt-ltb, cases_lt}
use Rattle.std.proofs.lemmas.Cmp.{eq_by_cmp_equiv}
use Rattle.std.proofs.lemmas.List.{drop_all}
use Rattle.std.proofs.lemmas.Map.Keys.{IsDistinct-from_sorted}
use Rattle.std.proofs.lemmas.Map.Entries.{option_filter, lookup-filter-values}
use Rattle.std.proofs.Math.Bool.{and-false}
use Rattle.item_model.specs.declared.query.Query.{Query}
use Rattle.item_model.specs.declared.changes.Edit.{Edit}
use Rattle.item_model.specs.declared.request.Target.TheVariants.{Items, Container}
use Rattle.item_store.specs.Store as items_store
use Rattle.item_store.specs.Stands as items_stand
use Rattle.item_store.specs.Stands.{floor_of, items_in}
use Rattle.key_versions.specs.declared.version.Version.{Version}
use Rattle.key_versions.specs.Found.{found, value_in, newest_value}
use Rattle.key_versions.specs.Held.{versions_at}
use Rattle.key_versions.proofs.FoundFacts.{found_first}
use Rattle.share_history.specs.Numbers.{first_revision, base_list}
use Rattle.share_history.specs.Keyed.{at, AreAscending, ascending}
use Rattle.share_history.specs.Histories.{revision, edits, up_to, later}
use Rattle.share_history.specs.LastSaid.{Playlist, Plain, Ruled, list_at}
use Rattle.share_history.specs.Named.{names_list}
use Rattle.share_history.specs.Rows.{rows, lists}
use Rattle.share_history.specs.Kept.{is_kept, touched}
use Rattle.share_history.proofs.KeyedFacts.{has-keys_of, ascending-filter, same_keys_same, sorted-ascending, has-ascending}
use Rattle.share_history.proofs.RowFacts.{ascending-lists}
use Rattle.share_history.proofs.EditFacts.{up_to-all}
use Rattle.share_history.proofs.ValidFacts.{few_lists}
use Rattle.playlist_store.specs.declared.head.ListHead.{ListHead}
use Rattle.playlist_store.specs.declared.kept.ListVersion.{ListVersion}
use Rattle.playlist_store.specs.declared.kept.ListHistory.{ListHistory}
use Rattle.playlist_store.specs.Words.{head_of, standing}
use Rattle.playlist_store.specs.Names.{names_of, members_in}
use Rattle.playlist_store.specs.Lists.{top, has_rule, head_in, since_of, member_in, near_in}
use Rattle.playlist_store.specs.Store.{Store}
use Rattle.playlist_store.specs.Stands.{StandsFor}
use Rattle.playlist_store.specs.Reads.{is_key, is_member, is_near, is_item_of, is_touched_by, with_list, is_of_list}
use Rattle.playlist_store.proofs.MemberFacts.{by_id}
use Rattle.playlist_store.proofs.CountFacts.{list_ids_are, counted_ids, list_ids_after, same_ids}
use Rattle.playlist_store.proofs.SinceFacts.{named_later, touched_ruled, touched_none, touched_plain}
use Rattle.playlist_store.proofs.NearFacts.{small_member, near_found, touched_together}

-- ---- at the present revision

nothing_later : (bs : List (List Edit)) (v : ℕ) → revision bs ≤ v → later bs v ≡ []
nothing_later bs v h = ap edits (drop_all (v - first_revision) bs (omega (arith, h)))

module _ {bs : List (List Edit)} {s : Store} (h : StandsFor bs s) where
  low_reached : s.low ≤ s.revision
  low_reached = omega (arith, h.reach, h.revision)

  -- no list came after the present revision
  since_past : (c : ℕ) → since_of (top s.lists c) ≤ s.revision
  since_past c =
      ltb-false s.revision (since_of (top s.lists c))
      (sym (h.now.since c s.revision low_reached) ∙ ap (list_any (names_list c)) (nothing_later bs s.revision (omega (arith, h.revision))))

  -- the item under a key at present
  pub stands_now : (c key base : ℕ) → s.revision ≤ base → member_in (top s.lists c) key base ≡ standing (list_at (edits bs) c) (edits bs) c key
  stands_now c key base le =
      h.now.members c key base (omega (arith, le, low_reached)) (omega (arith, le, since_past c)) (and-false (nat_lt (revision bs) base))
      ∙ ap (λ cs. standing (list_at (edits bs) c) (edits cs) c key) (up_to-all bs base (omega (arith, le, h.revision)))

  -- and the one at a base after the list's last put
  pub stood_then : (c key base : ℕ) → s.low ≤ base → since_of (top s.lists c) ≤ base → base ≤ s.revision
      → member_in (top s.lists c) key base ≡ standing (list_at (edits bs) c) (edits (up_to bs base)) c key
  stood_then c key base from since to =
      h.now.members c key base from since (and-false (nat_lt (revision bs) base))

-- the newest value is the one at some revision, and at each later one
newest_seen : {T : Type 0} (vs : List (Version T)) → (from : ℕ) × ((base : ℕ) → from ≤ base → value_in vs base ≡ newest_value vs)
newest_seen [] = (0, λ base le. refl)
newest_seen (v ∷ vs) = (v.revision, λ base le. ap (option_and_then (λ w. w.value)) (found_first v vs base le))

pub newest_stands : {bs : List (List Edit)} {s : Store} → StandsFor bs s → (c key : ℕ) (kept : ListVersion) → top s.lists c ≡ Some kept
    → newest_value (versions_at key kept.members) ≡ standing (list_at (edits bs) c) (edits bs) c key
newest_stands {bs} {s} h c key kept is =
    let seen = newest_seen (versions_at key kept.members) in
    sym (seen.1 (seen.0 + s.revision) (omega arith)) ∙ ap (λ k. member_in k key (seen.0 + s.revision)) (sym is) ∙ stands_now h c key (seen.0 + s.revision) (omega arith)

-- ---- which lists are there

some_mapped : {A B : Type 0} (f : A → B) (o : Option A) → is_some (option_map f o) ≡ is_some o
some_mapped f None = refl
some_mapped f (Some x) = refl

-- nothing of a list that was never put, or was dropped
pub no_list : (es : List Edit) (c : ℕ) → option_map head_of (list_at es c) ≡ None → list_at es c ≡ None
no_list es c is = by_list (list_at es c) is
  where
    by_list : (o : Option Playlist) → option_map head_of o ≡ None → o ≡ None
    by_list None e = refl
    by_list (Some x) e = absurd (true≢false (ap is_some e))

pub ids_listed : {bs : List (List Edit)} {s : Store} → StandsFor bs s → AreAscending (keys_of s.lists)
    → keys_of (filter (λ e. is_some e.1.now.head) s.lists) ≡ keys_of (lists (edits bs))
ids_listed {bs} {s} h sorted =
    list_ids_are (edits bs) (keys_of (filter (λ e. is_some e.1.now.head) s.lists)) (ascending-filter (λ e. is_some e.1.now.head) s.lists sorted)
    (λ c. has-keys_of c (filter (λ e. is_some e.1.now.head) s.lists)
    ∙ ap is_some (lookup-filter-values (eq_by_cmp_equiv nat_cmp_total) (λ list. is_some list.now.head) c s.lists (IsDistinct-from_sorted nat_cmp (keys_of s.lists) sorted))
    ∙ filled (at c s.lists) ∙ ap is_some (h.now.heads c) ∙ some_mapped head_of (list_at (edits bs) c))
  where
    filled_one : (list : ListHistory) (b : Bool) → is_some list.now.head ≡ b → is_some (cond b (Some list) None) ≡ is_some list.now.head
    filled_one list true is = sym is
    filled_one list false is = sym is

    filled : (found : Option ListHistory) → is_some (option_filter (λ list. is_some list.now.head) found) ≡ is_some (head_in (option_map (λ list. list.now) found))
    filled None = refl
    filled (Some list) = filled_one list (is_some list.now.head) refl

pub lists_told : {X E : Type 0} (items : X → List ℕ) (r : Result X E) {s now : Store} → s ≡ now
    → IfOk r (λ v. items v ≡ keys_of (filter (λ e. is_some e.1.now.head) s.lists)) → IfOk r (λ _. AreAscending (keys_of s.lists))
    → IfOk r (λ v. (bs : List (List Edit)) → StandsFor bs now → items v ≡ keys_of (lists (edits bs)))
lists_told items (Ok v) same ids sorted = λ bs h. ids ∙ ids_listed (subst (StandsFor bs) (sym same) h) sorted
lists_told items (Err e) same ids sorted = tt

pub count_told : {s now : Store} → s ≡ now → (count : ℕ) → (length (filter (λ e. is_some e.1.now.head) s.lists) < 2 ^ 32 → count ≡ length (filter (λ e. is_some e.1.now.head) s.lists))
    → AreAscending (keys_of s.lists) → (bs : List (List Edit)) → StandsFor bs now → count ≡ length (lists (edits bs))
count_told {s} {now} same count is sorted bs h =
    let stands : StandsFor bs s = subst (StandsFor bs) (sym same) h in
    let counted : length (filter (λ e. is_some e.1.now.head) s.lists) ≡ length (lists (edits bs)) =
    sym (lengths (filter (λ e. is_some e.1.now.head) s.lists)) ∙ counted_ids (edits bs) (keys_of (filter (λ e. is_some e.1.now.head) s.lists)) (ids_listed stands sorted) in
    is (omega (arith, counted, few_lists (edits bs) stands.valid)) ∙ counted
  where
    lengths : {A : Type 0} (es : List (ℕ × A)) → length (keys_of es) ≡ length es
    lengths [] = refl
    lengths (e ∷ es) = omega (arith, lengths es)

-- the same after more edits, which changed the ids as a set
pub count_after_told : {s now : Store} → s ≡ now → (more : List Edit) (count : ℕ) (ids : List ℕ) → ids ≡ keys_of (filter (λ e. is_some e.1.now.head) s.lists) → AreAscending (keys_of s.lists)
    → count ≡ length (fold with_list (ascending ids) more) → (bs : List (List Edit)) → StandsFor bs now → count ≡ length (lists (edits bs ++ more))
count_after_told {s} {now} same more count ids is sorted counted bs h =
    let stands : StandsFor bs s = subst (StandsFor bs) (sym same) h in
    let listed : ids ≡ keys_of (lists (edits bs)) = is ∙ ids_listed stands sorted in
    counted
    ∙ ap (λ ks. length (fold with_list ks more))
    (ap ascending listed ∙ same_keys_same (ascending (keys_of (lists (edits bs)))) (keys_of (lists (edits bs))) (sorted-ascending (keys_of (lists (edits bs)))) (ascending-lists (edits bs))
    (λ c. has-ascending c (keys_of (lists (edits bs)))))
    ∙ counted_ids (edits bs ++ more) (fold with_list (keys_of (lists (edits bs))) more) (list_ids_after (edits bs) more)

-- or after some that put and drop none
pub count_same : {now : Store} (more : List Edit) (count : ℕ) → list_any is_of_list more ≡ false → ((bs : List (List Edit)) → StandsFor bs now → count ≡ length (lists (edits bs)))
    → (bs : List (List Edit)) → StandsFor bs now → count ≡ length (lists (edits bs ++ more))
count_same more count quiet is bs h =
    is bs h ∙ sym (counted_ids (edits bs) (keys_of (lists (edits bs))) refl) ∙ ap length (sym (same_ids (keys_of (lists (edits bs))) more quiet) ∙ list_ids_after (edits bs) more)
    ∙ counted_ids (edits bs ++ more) (keys_of (lists (edits bs ++ more))) refl

-- ---- bases in the delta window

kept_test : (a b c d e : Bool) → (a ≡ true → b ≡ true → c ≡ true → d ≡ e) → (a && (b && (c && d))) ≡ (a && (b && (c && e)))
kept_test true true true d e h = h refl refl refl
kept_test true true false d e h = refl
kept_test true false c d e h = refl
kept_test false b c d e h = refl

within : (keep revision base low : ℕ) → low ≤ floor_of keep revision → nat_le first_revision base ≡ true → nat_le revision (base + keep) ≡ true → low ≤ base
within keep revision base low reach from to = omega (arith, reach, leb-true first_revision base from, leb-true revision (base + keep) to)

since_test : (base since : ℕ) → not (nat_lt base since) ≡ nat_le since base
since_test base since =
    ⊎_elim (λ lt. ap not (lt-ltb base since lt) ∙ sym (lt-leb since base lt)) (λ le. ap not (le-ltb base since le) ∙ sym (le-leb since base le)) (cases_lt base since)

pub kept_told : {bs : List (List Edit)} {s : Store} → StandsFor bs s → (c base : ℕ)
    → (nat_le first_revision base && (nat_le base s.revision && (nat_le s.revision (base + s.keep) && ((c == base_list) || nat_le (since_of (top s.lists c)) base))))
    ≡ is_kept s.keep bs (Container c) base
kept_told {bs} {s} h c base =
    kept_test (nat_le first_revision base) (nat_le base s.revision) (nat_le s.revision (base + s.keep)) _ _
    (λ from to back. ap (λ b. (c == base_list) || b)
    (sym (ap not (h.now.since c base (within s.keep s.revision base s.low h.reach from back)) ∙ since_test base (since_of (top s.lists c)))))
    ∙ ap (λ v. nat_le first_revision base && (nat_le base v && (nat_le v (base + s.keep) && ((c == base_list) || not (list_any (names_list c) (later bs base)))))) h.revision

pub kept_is : {s now : Store} → s ≡ now → (r : Bool) (c base since : ℕ) → since ≡ since_of (top s.lists c)
    → r ≡ (nat_le first_revision base && (nat_le base s.revision && (nat_le s.revision (base + s.keep) && ((c == base_list) || nat_le since base))))
    → (bs : List (List Edit)) → StandsFor bs now → r ≡ is_kept now.keep bs (Container c) base
kept_is {s} {now} same r c base since is tested bs h =
    tested
    ∙ ap (λ v. nat_le first_revision base && (nat_le base s.revision && (nat_le s.revision (base + s.keep) && ((c == base_list) || nat_le v base)))) is
    ∙ kept_told (subst (StandsFor bs) (sym same) h) c base ∙ ap (λ t. is_kept t.keep bs (Container c) base) same

-- what follows from a base in the delta window
pub kept_parts : {bs : List (List Edit)} {s : Store} → StandsFor bs s → (c base : ℕ) → (c == base_list) ≡ false → is_kept s.keep bs (Container c) base ≡ true
    → (s.low ≤ base) × ((since_of (top s.lists c) ≤ base) × (base ≤ s.revision))
kept_parts {bs} {s} h c base other kept =
    let first = and_parts (nat_le first_revision base) _ (kept_told h c base ∙ kept) in
    let second = and_parts (nat_le base s.revision) _ first.1 in
    let third = and_parts (nat_le s.revision (base + s.keep)) _ second.1 in (
      within s.keep s.revision base s.low h.reach first.0 third.0,
      (leb-true (since_of (top s.lists c)) base (sym (ap (λ b. b || nat_le (since_of (top s.lists c)) base) other) ∙ third.1), leb-true base s.revision second.0),
    )

pub member_told : {bs : List (List Edit)} {s : Store} → StandsFor bs s → (c key base : ℕ) → (c == base_list) ≡ false → is_kept s.keep bs (Container c) base ≡ true
    → member_in (top s.lists c) key base ≡ standing (list_at (edits bs) c) (edits (up_to bs base)) c key
member_told h c key base other kept = let parts = kept_parts h c base other kept in stood_then h c key base parts.0 parts.1.0 parts.1.1

-- ---- touched keys

-- a list with a rule, and one without
pub rule_list : (found : Option Playlist) (head : ListHead) → option_map head_of found ≡ Some head → is_some head.rule ≡ true
    → (name : List ℕ) × (rule : Query) × (found ≡ Some (Ruled name rule))
rule_list None head is some = absurd (true≢false (sym (ap is_some is)))
rule_list (Some (Plain name)) head is some =
    absurd (true≢false (sym some ∙ ap has_rule (sym is)))
rule_list (Some (Ruled name rule)) head is some = (name, rule, refl)

pub plain_list : (found : Option Playlist) (head : ListHead) → option_map head_of found ≡ Some head → is_some head.rule ≡ false
    → (name : List ℕ) × (found ≡ Some (Plain name))
plain_list None head is none = absurd (true≢false (sym (ap is_some is)))
plain_list (Some (Plain name)) head is none = (name, refl)
plain_list (Some (Ruled name rule)) head is none =
    absurd (true≢false (ap has_rule is ∙ none))

pub plain_touched : {bs : List (List Edit)} {s : Store} → StandsFor bs s → (c base : ℕ) (kept : ListVersion) (head : ListHead) (ks : List ℕ)
    → (c == base_list) ≡ false → s.low ≤ base → top s.lists c ≡ Some kept → kept.head ≡ Some head → is_some head.rule ≡ false → AreAscending ks
    → ((q : ℕ) → is_key q ks ≡ list_any (is_touched_by kept c q) (drop (base - s.low) s.named))
    → ks ≡ touched bs (Container c) base
plain_touched {bs} {s} h c base kept head ks other from is has_head no_rule sorted each =
    let found = plain_list (list_at (edits bs) c) head (sym (h.now.heads c) ∙ ap head_in is ∙ has_head) no_rule in
    let now : (key : ℕ) → newest_value (versions_at key kept.members) ≡ standing (list_at (edits bs) c) (edits bs) c key = λ key. newest_stands h c key kept is in
    touched_plain bs c base other found.0 (λ item key. is_near kept.near.keys item key) (λ key. newest_value (versions_at key kept.members)) ks found.1 sorted
    (λ key. now key ∙ ap (λ l. standing l (edits bs) c key) found.1)
    (λ key item stands. near_found kept.near.keys item key (small_member (edits bs) c key item h.valid stands)
    (ap (λ k. near_in k item key) (sym is) ∙ h.now.near c key item found.0 found.1 stands))
    (λ q. each q ∙ touched_together kept c q (drop (base - s.low) s.named)
    ∙ ap (λ ms. list_any (is_member c q) ms || list_any (is_item_of kept q) (flat_map (λ n. n.items) (drop (base - s.low) s.named)))
    (named_later names_of (λ n. n.members) members_in (λ b. refl) bs s.named s.low base h.named h.least from)
    ∙ ap (λ ids. list_any (is_member c q) (flat_map members_in (later bs base)) || list_any (is_item_of kept q) ids)
    (named_later names_of (λ n. n.items) items_in (λ b. refl) bs s.named s.low base h.named h.least from))

pub plain_told : {X E : Type 0} (listed : X → List ℕ) (r : Result X E) {s now : Store} → s ≡ now → (items : items_store.Store) (c base passed : ℕ) (kept : ListVersion) (head : ListHead)
    → (c == base_list) ≡ false → floor_of now.keep now.revision ≤ base → top s.lists c ≡ Some kept → kept.head ≡ Some head → is_some head.rule ≡ false → passed ≡ base - s.low
    → IfOk r (λ v. AreAscending (listed v)) → IfOk r (λ v. (q : ℕ) → is_key q (listed v) ≡ list_any (is_touched_by kept c q) (drop passed s.named))
    → IfOk r (λ v. (bs : List (List Edit)) → StandsFor bs now → items_stand.StandsFor bs items → listed v ≡ touched bs (Container c) base)
plain_told listed (Err e) same items c base passed kept head other from is has_head no_rule is_passed sorted each = tt
plain_told listed (Ok v) {s} {now} same items c base passed kept head other from is has_head no_rule is_passed sorted each = λ bs h stands.
    let here : StandsFor bs s = subst (StandsFor bs) (sym same) h in
    plain_touched here c base kept head (listed v) other (reached here same base from) is has_head no_rule sorted
    (λ q. each q ∙ ap (λ n. list_any (is_touched_by kept c q) (drop n s.named)) is_passed)
  where
    reached : {bs : List (List Edit)} {s now : Store} → StandsFor bs s → s ≡ now → (base : ℕ) → floor_of now.keep now.revision ≤ base → s.low ≤ base
    reached h same base from = omega (arith, h.reach, from, ap (λ s. s.keep) same, ap (λ s. s.revision) same)

pub ruled_told : {X E : Type 0} (listed : X → List ℕ) (r : Result X E) {s now : Store} → s ≡ now → (items : items_store.Store) (c base : ℕ) (kept : ListVersion) (head : ListHead)
    → (c == base_list) ≡ false → top s.lists c ≡ Some kept → kept.head ≡ Some head → is_some head.rule ≡ true
    → IfOk r (λ v. (bs : List (List Edit)) → items_stand.StandsFor bs items → listed v ≡ touched bs Items base)
    → IfOk r (λ v. (bs : List (List Edit)) → StandsFor bs now → items_stand.StandsFor bs items → listed v ≡ touched bs (Container c) base)
ruled_told listed (Err e) same items c base kept head other is has_head rule told = tt
ruled_told listed (Ok v) {s} same items c base kept head other is has_head rule told = λ bs h stands.
    let here : StandsFor bs s = subst (StandsFor bs) (sym same) h in
    let found = rule_list (list_at (edits bs) c) head (sym (here.now.heads c) ∙ ap head_in is ∙ has_head) rule in
    told bs stands ∙ touched_ruled bs c base other found.0 found.1 found.2

pub none_told : {s now : Store} → s ≡ now → (items : items_store.Store) (c base : ℕ) (keys : List ℕ) → (c == base_list) ≡ false → head_in (top s.lists c) ≡ None → keys ≡ []
    → (bs : List (List Edit)) → StandsFor bs now → items_stand.StandsFor bs items → keys ≡ touched bs (Container c) base
none_told {s} same items c base keys other is none bs h stands =
    let here : StandsFor bs s = subst (StandsFor bs) (sym same) h in
    none ∙ touched_none bs c base other (no_list (edits bs) c (sym (here.now.heads c) ∙ is))

-- ---- members

some_list : (o : Option Playlist) {A : Type 0} (x : A) → is_some (option_map head_of o) ≡ true → Some x ≡ option_map (λ _. x) o
some_list None x is = absurd (true≢false (sym is))
some_list (Some l) x is = refl

pub members_told : {s now : Store} → s ≡ now → (items : items_store.Store) (c : ℕ) (kept : ListVersion) (found : List (ℕ × ℕ))
    → (c == base_list) ≡ false → top s.lists c ≡ Some kept → is_some kept.head ≡ true
    → ((bs : List (List Edit)) (c : ℕ) → items_stand.StandsFor bs items → (c == base_list) ≡ false
    → ((key : ℕ) → newest_value (versions_at key kept.members) ≡ standing (list_at (edits bs) c) (edits bs) c key)
    → found ≡ map by_id (rows (edits bs) (Container c) None))
    → (bs : List (List Edit)) → StandsFor bs now → items_stand.StandsFor bs items
    → Some found ≡ option_map (λ _. map by_id (rows (edits bs) (Container c) None)) (list_at (edits bs) c)
members_told {s} same items c kept found other is has_head told bs h stands =
    let here : StandsFor bs s = subst (StandsFor bs) (sym same) h in
    ap Some (told bs c stands other (λ key. newest_stands here c key kept is))
    ∙ some_list (list_at (edits bs) c) (map by_id (rows (edits bs) (Container c) None)) (ap is_some (sym (here.now.heads c) ∙ ap head_in is) ∙ has_head)

pub no_members_told : {s now : Store} → s ≡ now → (items : items_store.Store) (c : ℕ) → head_in (top s.lists c) ≡ None
    → (bs : List (List Edit)) → StandsFor bs now → items_stand.StandsFor bs items
    → None ≡ option_map (λ _. map by_id (rows (edits bs) (Container c) None)) (list_at (edits bs) c)
no_members_told {s} same items c is bs h stands =
    let here : StandsFor bs s = subst (StandsFor bs) (sym same) h in
    ap (option_map (λ _. map by_id (rows (edits bs) (Container c) None))) (sym (no_list (edits bs) c (sym (here.now.heads c) ∙ is)))
