-- A batch that is applied, one of which a part is applied and reverted, and the last one when it is reverted.
use Rattle.std.proofs.Common.{◌≡◌, ◌≤◌, ◌<◌, ◌+◌, ◌-◌, ◌⊎◌, inl, inr, ℕ, Bool, true, false, cond, ◌||◌, ◌&&◌, ◌==◌, List, [], ◌∷◌, ◌++◌, length, drop, map, Option, Some, None, is_some, min, refl, sym, ap, subst, ◌∙◌, ⊎_elim, true≢false, arith}
use Rattle.std.specs.Prelude.{nat_lt}
use Rattle.std.specs.List.{list_any}
use Rattle.std.proofs.lemmas.Bool.{cases_Bool, cases_lt}
use Rattle.std.proofs.lemmas.List.{drop-append-le, drop-drop, drop-map, map-append, length-take}
use Rattle.std.proofs.lemmas.List.Folds.{list_any-append}
use Rattle.std.proofs.lemmas.List.Elements.{All-append}
use Rattle.std.proofs.Math.Nat.{min-le_right, min-le_left, le-min}
use Rattle.std.proofs.Math.Bool.{or-false}
use Rattle.item_model.specs.declared.changes.Edit.{Edit}
use Rattle.item_model.specs.declared.changes.Edit.TheVariants.{PutItem, DropItem, PutList, PutRule, DropList, PutMember, DropMember}
use Rattle.item_model.specs.Valid.{IsValid, AreValid}
use Rattle.key_versions.specs.Held.{at, is_among}
use Rattle.share_history.specs.Numbers.{first_revision}
use Rattle.share_history.specs.Histories.{edits, revision, up_to, later}
use Rattle.share_history.specs.Named.{names_item, names_list, names_member, lists_in, named_lists}
use Rattle.share_history.proofs.EditFacts.{edits_more, revision_more, up_to-revision, first_false, second_false}
use Rattle.share_history.proofs.ValidFacts.{valid_front}
use Rattle.item_store.specs.Stands.{floor_of, named_items}
use Rattle.item_store.proofs.BatchFacts.{among_named}
use Rattle.playlist_store.specs.declared.head.ListHead.{ListHead}
use Rattle.playlist_store.specs.declared.kept.ListVersion.{ListVersion}
use Rattle.playlist_store.specs.declared.kept.ListHistory.{ListHistory}
use Rattle.playlist_store.specs.Names.{Names, members_in, named_members, names_of}
use Rattle.playlist_store.specs.Lists.{Lists, top, list_in, head_in, since_of, member_in, near_in, has_rule, names_key}
use Rattle.playlist_store.specs.Store.{Store}
use Rattle.playlist_store.specs.Stands.{Shows, StandsFor, IsUnchanged}
use Rattle.playlist_store.specs.Changes.{InPlace, Keeps, Frames, Taken, TakesBack, StepsBack, ReturnsNamed, PrunesAll, now_of, is_member_among}
use Rattle.playlist_store.proofs.KeptFacts.{found_older, top_found, list_since}
use Rattle.playlist_store.proofs.ShowFacts.{up_to_least, later_more, later_none, Source, shows_moved, since_by, left_at_once, left_unnamed, left_below, shows_pruned}
use Rattle.playlist_store.proofs.StandFacts.{low_reached, since_now, shows_now, shows_before}

-- ---- what a batch names

among_lists_one : (c : ℕ) (e : Edit) → is_among c (lists_in e) ≡ names_list c e
among_lists_one c (PutItem row) = refl
among_lists_one c (DropItem id) = refl
among_lists_one c (PutList list name) = or-false (list == c)
among_lists_one c (PutRule list name rule) = or-false (list == c)
among_lists_one c (DropList list) = or-false (list == c)
among_lists_one c (PutMember list member item) = refl
among_lists_one c (DropMember list member) = refl

among_lists : (c : ℕ) (es : List Edit) → is_among c (named_lists es) ≡ list_any (names_list c) es
among_lists c [] = refl
among_lists c (e ∷ es) =
    list_any-append (λ k. k == c) (lists_in e) (named_lists es) ∙ ap (λ b. b || is_among c (named_lists es)) (among_lists_one c e) ∙ ap (λ b. names_list c e || b) (among_lists c es)

among_members_one : (c key : ℕ) (e : Edit) → is_member_among c key (members_in e) ≡ names_member c key e
among_members_one c key (PutItem row) = refl
among_members_one c key (DropItem id) = refl
among_members_one c key (PutList list name) = refl
among_members_one c key (PutRule list name rule) = refl
among_members_one c key (DropList list) = refl
among_members_one c key (PutMember list member item) = or-false ((list == c) && (member == key))
among_members_one c key (DropMember list member) = or-false ((list == c) && (member == key))

among_members : (c key : ℕ) (es : List Edit) → is_member_among c key (named_members es) ≡ list_any (names_member c key) es
among_members c key [] = refl
among_members c key (e ∷ es) =
    list_any-append (λ m. (m.0 == c) && (m.1 == key)) (members_in e) (named_members es)
    ∙ ap (λ b. b || is_member_among c key (named_members es)) (among_members_one c key e) ∙ ap (λ b. names_member c key e || b) (among_members c key es)

none_any : (es : List Edit) → list_any (λ _. false) es ≡ false
none_any [] = refl
none_any (e ∷ es) = none_any es

-- whether a batch takes a key back in a list
abbrev pub picked : ℕ → List Edit → Option ListHead → ℕ → Bool
picked c batch head key = is_member_among c key (named_members batch) || (has_rule head && is_among key (named_items batch))

-- a key that is not taken back is not named
unpicked : (c : ℕ) (batch : List Edit) (head : Option ListHead) (key : ℕ) → picked c batch head key ≡ false → list_any (names_key head c key) batch ≡ false
unpicked c batch None key h = none_any batch
unpicked c batch (Some head) key h = kind (is_some head.rule) refl
  where
    kind : (b : Bool) → is_some head.rule ≡ b → list_any (λ e. cond (is_some head.rule) (names_item key e) (names_member c key e)) batch ≡ false
    kind true is =
        ap (λ b. list_any (λ e. cond b (names_item key e) (names_member c key e)) batch) is
        ∙ sym (among_named key batch)
        ∙ sym (ap (λ b. b && is_among key (named_items batch)) is)
        ∙ second_false (is_member_among c key (named_members batch)) (is_some head.rule && is_among key (named_items batch)) h
    kind false is =
        ap (λ b. list_any (λ e. cond b (names_item key e) (names_member c key e)) batch) is
        ∙ sym (among_members c key batch)
        ∙ first_false (is_member_among c key (named_members batch)) (is_some head.rule && is_among key (named_items batch)) h

-- ---- what is taken back of one list

-- all but the values of picked keys is as it was
pub record Restored (n : ℕ) (picks : ℕ → Bool) (old new : Option ListVersion) : Type 0 where
  pub head : head_in new ≡ head_in old
  pub since : since_of new ≡ since_of old
  pub near : (item key : ℕ) → near_in new item key ≡ near_in old item key
  pub members : (key base : ℕ) → member_in new key base ≡ member_in old key (cond (picks key) (min base (n - 1)) base)

restored : (n c : ℕ) (batch : List Edit) (x y : Option ListHistory) → InPlace (ReturnsNamed n (names_of batch) c) x y → Restored n (picked c batch (head_in (now_of x))) (now_of x) (now_of y)
restored n c batch None y p = subst (λ w. Restored n (picked c batch None) None (now_of w)) (sym p) (record { head = refl; since = refl; near = λ item key. refl; members = λ key base. refl })
restored n c batch (Some l) None p = absurd p
restored n c batch (Some l) (Some m) p = record { head = p.1.head; since = p.1.since; near = p.1.near; members = p.1.members }

module _ (n : ℕ) (batch : List Edit) (old new : Lists) (back : TakesBack n (names_of batch) old new) (some : 1 ≤ n) where
  -- the newest after taking back is what was there before the revision
  taken_top : (c : ℕ) → (list_any (names_list c) batch ≡ false → since_of (top old c) < n) → (since_of (top back.mid c) < n) × (top back.mid c ≡ list_in old c (n - 1))
  taken_top c early =
      let few : since_of (top back.mid c) < n =
      ⊎_elim
      (λ named. back.pops.popped c named)
      (λ un. subst (λ x. since_of (now_of x) < n) (sym (back.pops.others c un)) (early (sym (among_lists c batch) ∙ un)))
      (cases_Bool (is_among c (named_lists batch))) in
      (few, sym (top_found back.mid c (n - 1) (omega (arith, few))) ∙ back.pops.below c (n - 1) (omega (arith, some)))

  restored_top : (c : ℕ) → (list_any (names_list c) batch ≡ false → since_of (top old c) < n) → Restored n (picked c batch (head_in (list_in old c (n - 1)))) (list_in old c (n - 1)) (top new c)
  restored_top c early =
      subst (λ o. Restored n (picked c batch (head_in o)) o (top new c)) (taken_top c early).1 (restored n c batch (at c back.mid) (at c new) (back.returns c))

-- ---- the last batch that is taken back

later_one : (bs : List (List Edit)) (batch : List Edit) (v : ℕ) → v ≡ revision bs → later (bs ++ batch ∷ []) v ≡ batch
later_one bs batch v is = later_more bs batch v (omega (arith, is)) ∙ ap (λ es. es ++ batch) (later_none bs v (omega (arith, is)))

up_to_one : (bs : List (List Edit)) (batch : List Edit) (v : ℕ) → v ≡ revision bs → up_to (bs ++ batch ∷ []) v ≡ bs
up_to_one bs batch v is = ap (up_to (bs ++ batch ∷ [])) is ∙ up_to-revision bs (batch ∷ [])

pub undone : (bs : List (List Edit)) (batch : List Edit) (s : Store) (n : ℕ) (named : List Names) (new : Lists)
    → StandsFor (bs ++ batch ∷ []) s → s.can_undo ≡ true → n ≡ s.revision - 1
    → ((front : List Names) (names : Names) → s.named ≡ front ++ names ∷ [] → named ≡ front)
    → (1 ≤ s.revision → (front : List Names) (names : Names) → s.named ≡ front ++ names ∷ [] → TakesBack s.revision names s.lists new)
    → StandsFor bs (record { keep = s.keep; revision = n; low = s.low; can_undo = false; named = named; lists = new })
undone bs batch s n named new h can last lists taken =
    let was : s.revision - 1 ≡ revision bs = omega (arith, h.revision, revision_more bs batch) in
    let some : 1 ≤ s.revision = omega (arith, h.revision) in
    let low : s.low ≤ revision bs = omega (arith, h.undo can, was, h.least) in
    let front : List Names = map names_of (drop (s.low - first_revision) bs) in
    let parts : s.named ≡ front ++ names_of batch ∷ [] =
    h.named ∙ ap (map names_of) (drop-append-le (s.low - first_revision) bs (batch ∷ []) (omega (arith, low)))
    ∙ map-append names_of (drop (s.low - first_revision) bs) (batch ∷ []) in
    let back : TakesBack s.revision (names_of batch) s.lists new = taken some front (names_of batch) parts in
    let before : Shows bs batch s.low (λ c. list_in s.lists c (s.revision - 1)) =
    subst (λ cs. Shows cs batch s.low (λ c. list_in s.lists c (s.revision - 1))) (up_to_one bs batch (s.revision - 1) was)
    (subst (λ es. Shows (up_to (bs ++ batch ∷ []) (s.revision - 1)) es s.low (λ c. list_in s.lists c (s.revision - 1))) (later_one bs batch (s.revision - 1) was) (h.before can)) in
    let early : (c : ℕ) → list_any (names_list c) batch ≡ false → since_of (top s.lists c) < s.revision = λ c un.
    let e = since_by (bs ++ batch ∷ []) [] s.low (top s.lists) h.now c (s.revision - 1) (omega (arith, low, was)) (ap (list_any (names_list c)) (later_one bs batch (s.revision - 1) was) ∙ un) in
    omega (arith, e, some) in
    let top_back : (c : ℕ) → Restored s.revision (picked c batch (head_in (list_in s.lists c (s.revision - 1)))) (list_in s.lists c (s.revision - 1)) (top new c) = λ c.
    restored_top s.revision batch s.lists new back some c (early c) in
    record {
      revision = last ∙ was;
      valid = valid_front (edits bs) batch (subst AreValid (edits_more bs batch) h.valid);
      now =
          shows_moved bs batch [] s.low (λ c. list_in s.lists c (s.revision - 1)) (top new) before (λ c. (top_back c).head) (λ c. (top_back c).since)
          (λ c item key is. (top_back c).near item key ∙ is)
          (λ c key base le put left.
          source c key base le put (picked c batch (head_in (list_in s.lists c (s.revision - 1))) key) refl low was ((top_back c).members key base));
      named = lists front (names_of batch) parts;
      least = h.least;
      reach = omega (arith, h.undo can, last);
      undo = λ no. absurd (true≢false (sym no));
      before = λ no. absurd (true≢false (sym no));
    }
  where
    source : (c key base : ℕ) → s.low ≤ base → since_of (list_in s.lists c (s.revision - 1)) ≤ base → (b : Bool) → picked c batch (head_in (list_in s.lists c (s.revision - 1))) key ≡ b
        → s.low ≤ revision bs → s.revision - 1 ≡ revision bs
        → member_in (top new c) key base ≡ member_in (list_in s.lists c (s.revision - 1)) key (cond (picked c batch (head_in (list_in s.lists c (s.revision - 1))) key) (min base (s.revision - 1)) base)
        → Source bs batch s.low c key base (top new c) (list_in s.lists c (s.revision - 1))
    source c key base le put true is low was member = record {
      from = min base (s.revision - 1);
      same = member ∙ ap (λ b. member_in (list_in s.lists c (s.revision - 1)) key (cond b (min base (s.revision - 1)) base)) is;
      reached = le-min le (omega (arith, low, was));
      since = le-min put (list_since s.lists c (s.revision - 1));
      left = left_at_once (revision bs) (min base (s.revision - 1)) (list_any (names_key (head_in (list_in s.lists c (s.revision - 1))) c key) batch) (omega (arith, min-le_right base (s.revision - 1), was));
      until = up_to_least bs base (s.revision - 1) (omega (arith, was));
    }
    source c key base le put false is low was member = record {
      from = base;
      same = member ∙ ap (λ b. member_in (list_in s.lists c (s.revision - 1)) key (cond b (min base (s.revision - 1)) base)) is;
      reached = le;
      since = put;
      left = left_unnamed (revision bs) base (list_any (names_key (head_in (list_in s.lists c (s.revision - 1))) c key) batch) (unpicked c batch (head_in (list_in s.lists c (s.revision - 1))) key is);
      until = refl;
    }

-- ---- a part that is applied and reverted

-- what is read is what was, or what was before the revision
pub record Undone (n : ℕ) (old new : Option ListVersion) : Type 0 where
  pub head : head_in new ≡ head_in old
  pub since : since_of new ≡ since_of old
  pub near : (item key : ℕ) → near_in old item key ≡ true → near_in new item key ≡ true
  pub members : (key base : ℕ) → (member_in new key base ≡ member_in old key base) ⊎ (member_in new key base ≡ member_in old key (min base (n - 1)))

undone_same : (n : ℕ) (a b : Option ListVersion) → b ≡ a → Undone n a b
undone_same n a b same = record {
  head = ap head_in same;
  since = ap since_of same;
  near = λ item key is. ap (λ o. near_in o item key) same ∙ is;
  members = λ key base. inl (ap (λ o. member_in o key base) same);
}

module _ (n : ℕ) (batch : List Edit) (old new : Lists) (step : StepsBack n batch old new) (some : 1 ≤ n) (few : (c : ℕ) → since_of (top old c) < n) where
  last_old : (c : ℕ) → list_in old c (n - 1) ≡ top old c
  last_old c = top_found old c (n - 1) (omega (arith, few c))

  early : (c : ℕ) → list_any (names_list c) batch ≡ false → since_of (top step.mid c) < n
  early c un =
      ⊎_elim
      (λ same. subst (λ k. k < n) (sym same) (few c))
      (λ up. absurd (true≢false (sym up.1 ∙ un)))
      (step.frames.rises c)

  back_top : (c : ℕ) → Restored n (picked c batch (head_in (list_in step.mid c (n - 1)))) (list_in step.mid c (n - 1)) (top new c)
  back_top c = restored_top n batch step.mid new step.back some c (early c)

  -- what edits left, and what was then reverted
  undone_by : (c : ℕ) (a b d : Option ListVersion) → Keeps n c batch a b → Restored n (picked c batch (head_in b)) b d → Undone n a d
  undone_by c a b d k r = record {
    head = r.head ∙ k.head;
    since = r.since ∙ k.since;
    near = λ item key is. r.near item key ∙ k.near item key is;
    members = λ key base. either key base (picked c batch (head_in b) key) refl;
  }
    where
      either : (key base : ℕ) (x : Bool) → picked c batch (head_in b) key ≡ x → (member_in d key base ≡ member_in a key base) ⊎ (member_in d key base ≡ member_in a key (min base (n - 1)))
      either key base true is =
          inr (r.members key base ∙ ap (λ x. member_in b key (cond x (min base (n - 1)) base)) is ∙ k.below key (min base (n - 1)) (omega (arith, some, min-le_right base (n - 1))))
      either key base false is =
          inl (r.members key base ∙ ap (λ x. member_in b key (cond x (min base (n - 1)) base)) is
          ∙ k.others key base (ap (λ h. list_any (names_key h c key) batch) (sym k.head) ∙ unpicked c batch (head_in b) key is))

  pub undone_top : (c : ℕ) → Undone n (top old c) (top new c)
  undone_top c =
      subst (λ o. Undone n o (top new c)) (last_old c)
      (undone_by c (list_in old c (n - 1)) (list_in step.mid c (n - 1)) (top new c) (step.frames.last c) (back_top c))

  pub undone_found : (c v : ℕ) → v < n → Undone n (list_in old c v) (list_in new c v)
  undone_found c v lt =
      ⊎_elim
      (λ older.
      let rest : list_in new c v ≡ list_in step.back.mid c v =
      found_older {R = ReturnsNamed n (names_of batch) c} (λ a b r. r.since) (at c step.back.mid) (at c new) v
      (subst (λ k. v < k) (sym (ap since_of (taken_top n batch step.mid new step.back some c (early c)).1 ∙ (step.frames.last c).since ∙ ap since_of (last_old c))) older)
      (step.back.returns c) in
      undone_same n (list_in old c v) (list_in new c v) (rest ∙ step.back.pops.below c v lt ∙ step.frames.older c v older lt))
      (λ newest.
      subst (λ o. Undone n o (list_in new c v)) (sym (top_found old c v newest))
      (subst (λ o. Undone n (top old c) o) (sym (top_found new c v (subst (λ k. k ≤ v) (sym (undone_top c).since) newest))) (undone_top c)))
      (cases_lt v (since_of (top old c)))

moved_back : (bs : List (List Edit)) (more : List Edit) (low n c key base : ℕ) (a b : Option ListVersion) → low ≤ base → low ≤ n - 1 → revision bs ≤ n - 1 → since_of a ≤ base → since_of a ≤ n - 1
    → (nat_lt (revision bs) base && list_any (names_key (head_in a) c key) more) ≡ false
    → (member_in b key base ≡ member_in a key base) ⊎ (member_in b key base ≡ member_in a key (min base (n - 1))) → Source bs more low c key base b a
moved_back bs more low n c key base a b le low_few few put put_few left (inl same) = record { from = base; same = same; reached = le; since = put; left = left; until = refl }
moved_back bs more low n c key base a b le low_few few put put_few left (inr same) = record {
  from = min base (n - 1);
  same = same;
  reached = le-min le low_few;
  since = le-min put put_few;
  left = left_below (revision bs) base (min base (n - 1)) (list_any (names_key (head_in a) c key) more) (min-le_left base (n - 1)) left;
  until = up_to_least bs base (n - 1) few;
}

pub left_alone : (s : Store) (n : ℕ) (batch : List Edit) (named : List Names) (new : Lists) → n ≡ s.revision + 1 → named ≡ s.named → (new ≡ s.lists) ⊎ StepsBack n batch s.lists new
    → IsUnchanged s (record { keep = s.keep; revision = s.revision; low = s.low; can_undo = s.can_undo; named = named; lists = new })
left_alone s n batch named new next lists (inl same) = record {
  keep = refl;
  revision = refl;
  undo = refl;
  stands = λ bs h.
      subst (λ ls. StandsFor bs (record { keep = s.keep; revision = s.revision; low = s.low; can_undo = s.can_undo; named = named; lists = ls })) (sym same)
      (subst (λ ns. StandsFor bs (record { keep = s.keep; revision = s.revision; low = s.low; can_undo = s.can_undo; named = ns; lists = s.lists })) (sym lists) h);
}
left_alone s n batch named new next lists (inr step) = record {
  keep = refl;
  revision = refl;
  undo = refl;
  stands = λ bs h.
      let last : n - 1 ≡ s.revision = omega (arith, next) in
      let some : 1 ≤ n = omega (arith, next) in
      let few : (c : ℕ) → since_of (top s.lists c) < n = λ c. let e = since_now h c in omega (arith, e, next) in
      let low : s.low ≤ n - 1 = omega (arith, low_reached h, h.revision, last) in
      record {
        revision = h.revision;
        valid = h.valid;
        now =
            shows_moved bs [] [] s.low (top s.lists) (top new) h.now (λ c. (undone_top n batch s.lists new step some few c).head) (λ c. (undone_top n batch s.lists new step some few c).since)
            (λ c item key is. (undone_top n batch s.lists new step some few c).near item key is)
            (λ c key base le put left.
            moved_back bs [] s.low n c key base (top s.lists c) (top new c) le low (omega (arith, h.revision, last)) put (let e = few c in omega (arith, e, some)) left
            ((undone_top n batch s.lists new step some few c).members key base));
        named = lists ∙ h.named;
        least = h.least;
        reach = h.reach;
        undo = h.undo;
        before = λ can.
            let v : ℕ = s.revision - 1 in
            shows_moved (up_to bs (s.revision - 1)) (later bs (s.revision - 1)) (later bs (s.revision - 1)) s.low (λ c. list_in s.lists c (s.revision - 1)) (λ c. list_in new c (s.revision - 1)) (h.before can)
            (λ c. (undone_found n batch s.lists new step some few c (s.revision - 1) (omega (arith, next))).head)
            (λ c. (undone_found n batch s.lists new step some few c (s.revision - 1) (omega (arith, next))).since)
            (λ c item key is. (undone_found n batch s.lists new step some few c (s.revision - 1) (omega (arith, next))).near item key is)
            (λ c key base le put left.
            moved_back (up_to bs (s.revision - 1)) (later bs (s.revision - 1)) s.low n c key base (list_in s.lists c (s.revision - 1)) (list_in new c (s.revision - 1)) le low
            (few_up_to bs (s.revision - 1) (n - 1) (omega (arith, h.revision, last))) put
            (let e = list_since s.lists c (s.revision - 1) in omega (arith, e, last)) left
            ((undone_found n batch s.lists new step some few c (s.revision - 1) (omega (arith, next))).members key base));
      };
}
  where
    few_up_to : (bs : List (List Edit)) (v w : ℕ) → revision bs ≤ w → revision (up_to bs v) ≤ w
    few_up_to bs v w le = let e = length-take (v - first_revision) bs in omega (arith, e, le, min-le_right (v - first_revision) (length bs))

pub not_applied : {s now : Store} → s ≡ now → (n : ℕ) (batch : List Edit) (named : List Names) (new : Lists) → n ≡ now.revision + 1 → named ≡ s.named
    → (new ≡ s.lists) ⊎ StepsBack n batch s.lists new
    → IsUnchanged now (record { keep = s.keep; revision = s.revision; low = s.low; can_undo = s.can_undo; named = named; lists = new })
not_applied {s} same n batch named new next lists step =
    subst (λ old. IsUnchanged old (record { keep = s.keep; revision = s.revision; low = s.low; can_undo = s.can_undo; named = named; lists = new }))
    same (left_alone s n batch named new (next ∙ ap (λ t. t.revision + 1) (sym same)) lists step)

-- ---- a batch that is applied

pub applied : (bs : List (List Edit)) (batch : List Edit) (s : Store) (n low : ℕ) (named : List Names) (mid new : Lists)
    → StandsFor bs s → AreValid batch → n ≡ s.revision + 1 → low ≡ floor_of s.keep s.revision
    → named ≡ drop (low - s.low) (s.named ++ names_of batch ∷ [])
    → Taken n (edits (bs ++ batch ∷ [])) batch s.lists mid → Frames n batch s.lists mid → (low ≤ s.revision → PrunesAll low s.revision mid new)
    → StandsFor (bs ++ batch ∷ []) (record { keep = s.keep; revision = n; low = low; can_undo = true; named = named; lists = new })
applied bs batch s n low named mid new h valid next floor names taken frames pruned =
    let all : List (List Edit) = bs ++ batch ∷ [] in
    let made : n ≡ revision all = omega (arith, next, h.revision, revision_more bs batch) in
    let last : n - 1 ≡ s.revision = omega (arith, next) in
    let up : s.low ≤ low = omega (arith, floor, h.reach) in
    let few : low ≤ s.revision = omega (arith, floor, h.revision) in
    let p : PrunesAll low (n - 1) mid new = subst (λ v. PrunesAll low v mid new) (sym last) (pruned few) in
    record {
      revision = made;
      valid = subst AreValid (sym (edits_more bs batch)) (All-append IsValid (edits bs) batch h.valid valid);
      now = shows_pruned (bs ++ batch ∷ []) [] s.low low (top mid) (top new) up (omega (arith, few, next, made)) (shows_now bs batch s n mid h next taken frames) p.now;
      named =
          names
          ∙ ap (λ ls. drop (low - s.low) (ls ++ names_of batch ∷ [])) h.named
          ∙ ap (drop (low - s.low)) (sym (map-append names_of (drop (s.low - first_revision) bs) (batch ∷ [])))
          ∙ drop-map names_of (low - s.low) (drop (s.low - first_revision) bs ++ batch ∷ [])
          ∙ ap (λ cs. map names_of (drop (low - s.low) cs)) (sym (drop-append-le (s.low - first_revision) bs (batch ∷ []) (omega (arith, low_reached h, h.revision))))
          ∙ ap (map names_of) (drop-drop (low - s.low) (s.low - first_revision) all)
          ∙ ap (λ k. map names_of (drop k all))
          (let same : s.low - first_revision + (low - s.low) ≡ low - first_revision = omega (arith, h.least, up) in same);
      least = omega (arith, floor);
      reach = omega (arith, floor, next);
      undo = λ _. omega (arith, floor, next);
      before = λ _.
          subst (λ es. Shows (up_to (bs ++ batch ∷ []) (n - 1)) es low (λ c. list_in new c (n - 1))) (sym (later_one bs batch (n - 1) (omega (arith, last, h.revision))))
          (subst (λ cs. Shows cs batch low (λ c. list_in new c (n - 1))) (sym (up_to_one bs batch (n - 1) (omega (arith, last, h.revision))))
          (shows_pruned bs batch s.low low (λ c. list_in mid c (n - 1)) (λ c. list_in new c (n - 1)) up (omega (arith, few, h.revision))
          (shows_before bs batch s n mid h next taken frames) p.last));
    }
