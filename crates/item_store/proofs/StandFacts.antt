-- Which batches a store represents before and after each of its calls.
use Rattle.std.proofs.Common.{◌≡◌, ◌≤◌, ◌<◌, ◌+◌, ◌-◌, ◌⊎◌, ℕ, true, false, cond, ◌||◌, ◌==◌, List, [], ◌∷◌, ◌++◌, length, drop, map, flat_map, min, Option, Some, None, is_some, unwrap_or, refl, sym, ap, subst, ◌∙◌, ⊎_elim, true≢false, arith, Ok, Err}
use Rattle.std.specs.Prelude.{Result, IfOk}
use Rattle.std.specs.List.{list_any}
use Rattle.std.specs.Map.{keys_of}
use Rattle.std.proofs.lemmas.Bool.{cases_Bool, cases_lt}
use Rattle.std.proofs.lemmas.List.{drop-append-le, drop-drop, drop-map, map-append}
use Rattle.std.proofs.lemmas.List.Folds.{flat_map-map}
use Rattle.std.proofs.lemmas.Grind.{flat_map-append}
use Rattle.std.proofs.Math.Nat.{min-le_right, min-eq_left, le-min}
use Rattle.item_model.specs.declared.changes.Edit.{Edit}
use Rattle.item_model.specs.declared.request.Target.TheVariants.{Items}
use Rattle.item_model.specs.Valid.{AreValid}
use Rattle.share_history.specs.Numbers.{first_revision}
use Rattle.share_history.specs.Keyed.{at, ascending, IsAscending}
use Rattle.share_history.specs.Histories.{edits, revision, up_to, later}
use Rattle.share_history.specs.Named.{names_item}
use Rattle.share_history.specs.LastSaid.{last_said, says_item, item_at}
use Rattle.share_history.specs.Rows.{library}
use Rattle.share_history.specs.Kept.{touched}
use Rattle.share_history.proofs.KeyedFacts.{has, is_eq-cmp, sorted-ascending, has-ascending}
use Rattle.share_history.proofs.EditFacts.{edits_more, revision_more, up_to-revision, item_stays, up_to-all, up_to-same, said_on}
use Rattle.share_history.proofs.RowFacts.{ids_are, library_is, at-library}
use Rattle.share_history.proofs.OwnFacts.{item_id}
use Rattle.share_history.proofs.TouchFacts.{touched_are}
use Rattle.share_history.proofs.ValidFacts.{valid_front}
use Rattle.row_sheets.specs.Changes.{changed}
use Rattle.item_store.specs.Store.{Store}
use Rattle.item_store.specs.Stands.{floor_of, items_in, named_items, StandsFor, IsUnchanged}
use Rattle.key_versions.specs.Found.{newest_value}
use Rattle.key_versions.specs.Held.{Held, versions_at, value_at, is_among, AreKeys}
use Rattle.item_model.specs.declared.item.Row.{Row}
use Rattle.item_store.specs.Changes.{AreItems}
use Rattle.item_store.proofs.ItemFacts.{newest_item}
use Rattle.item_store.proofs.BatchFacts.{among_named}

module _ {bs : List (List Edit)} {s : Store} (h : StandsFor bs s) where
  low_reached : s.low ≤ s.revision
  low_reached = omega (arith, h.reach, h.revision)

  -- from the last revision on the rows are the items
  row_last : (id base : ℕ) → s.revision ≤ base → value_at s.versions id base ≡ item_at (edits bs) id
  row_last id base le =
      h.rows id base (omega (arith, le, low_reached)) ∙ ap (λ cs. item_at (edits cs) id) (up_to-all bs base (omega (arith, le, h.revision)))

  pub items_now : (n : ℕ) → n ≡ s.revision + 1 → AreItems n (edits bs) s.versions s.count
  items_now n next = record {
    valid = h.valid;
    rows = λ id base le. row_last id base (omega (arith, le, next));
    counted = h.count;
  }

  pub newest_now : (id : ℕ) → newest_value (versions_at id s.versions) ≡ item_at (edits bs) id
  newest_now id = newest_item (s.revision + 1) (edits bs) s.versions s.count (items_now (s.revision + 1) refl) id

-- ---- ids

pub ids_told : {X E : Type 0} (items : X → List ℕ) (r : Result X E) {s now : Store} → s ≡ now
    → IfOk r (λ v. AreKeys s.versions (items v))
    → IfOk r (λ v. (bs : List (List Edit)) → StandsFor bs now → items v ≡ keys_of (library (edits bs)))
ids_told items (Ok v) same keys = λ bs h.
    ids_are (edits bs) (items v) keys.ascending (λ q. keys.each q ∙ ap is_some (newest_now (subst (StandsFor bs) (sym same) h) q))
ids_told items (Err e) same keys = tt

-- ---- what an id had at a revision

pub item_then : {bs : List (List Edit)} {s : Store} → StandsFor bs s → (id base : ℕ) → floor_of s.keep s.revision ≤ base
    → value_at s.versions id base ≡ item_at (edits (up_to bs base)) id
item_then h id base from = h.rows id base (omega (arith, from, h.reach))

-- ---- changed ids

pub has-among : (q : ℕ) (ids : List ℕ) → has q ids ≡ is_among q ids
has-among q [] = refl
has-among q (id ∷ ids) = ap (λ b. b || has q ids) (is_eq-cmp q id) ∙ ap (λ b. (id == q) || b) (has-among q ids)

named_edits : (bs : List (List Edit)) → flat_map named_items bs ≡ named_items (edits bs)
named_edits [] = refl
named_edits (b ∷ bs) = ap (λ ids. named_items b ++ ids) (named_edits bs) ∙ sym (flat_map-append items_in b (edits bs))

named_after : {X : Type 0} (items : X → List ℕ) (lists : List X) (bs : List (List Edit)) (low base : ℕ) → map items lists ≡ map named_items (drop (low - first_revision) bs)
    → first_revision ≤ low → low ≤ base → flat_map items (drop (base - low) lists) ≡ named_items (later bs base)
named_after items lists bs low base named least le =
    sym (flat_map-map (λ ids. ids) items (drop (base - low) lists))
    ∙ ap (flat_map (λ ids. ids)) (sym (drop-map items (base - low) lists) ∙ ap (drop (base - low)) named ∙ drop-map named_items (base - low) (drop (low - first_revision) bs))
    ∙ flat_map-map (λ ids. ids) named_items (drop (base - low) (drop (low - first_revision) bs))
    ∙ ap (flat_map named_items)
    (drop-drop (base - low) (low - first_revision) bs
    ∙ ap (λ n. drop n bs) (let all : low - first_revision + (base - low) ≡ base - first_revision = omega (arith, least, le) in all))
    ∙ named_edits (drop (base - first_revision) bs)

pub changed_told : {X L E : Type 0} (items : X → List ℕ) (lists : List X) (listed : L → List ℕ) (r : Result L E) (base passed : ℕ) (keys : List ℕ) {s now : Store} → s ≡ now
    → s.named ≡ map items lists
    → passed ≡ base - s.low
    → floor_of now.keep now.revision ≤ base
    → keys ≡ ascending (flat_map items (drop passed lists))
    → IfOk r (λ v. listed v ≡ keys)
    → IfOk r (λ v. (bs : List (List Edit)) → StandsFor bs now → listed v ≡ touched bs Items base)
changed_told items lists listed (Err e) base passed keys same named from kept is listing = tt
changed_told items lists listed (Ok v) base passed keys {s} {now} same named from kept is listing = λ bs h.
    let stands : StandsFor bs s = subst (StandsFor bs) (sym same) h in
    let reached : s.low ≤ base = omega (arith, stands.reach, kept, ap (λ s. s.keep) same, ap (λ s. s.revision) same) in
    let names : flat_map items (drop passed lists) ≡ named_items (later bs base) =
    ap (λ n. flat_map items (drop n lists)) from ∙ named_after items lists bs s.low base (sym named ∙ stands.named) stands.least reached in
    listing ∙ is ∙ ap ascending names
    ∙ touched_are bs Items base (ascending (named_items (later bs base))) (sorted-ascending (named_items (later bs base)))
    (λ k. has-ascending k (named_items (later bs base)) ∙ has-among k (named_items (later bs base)) ∙ among_named k (later bs base))

-- ---- apply

-- the rows after a batch are those before it, except where the batch has a change
pub present_more : (bs : List (List Edit)) (batch : List Edit) (old new : List (ℕ × Row)) (changes : List (ℕ × Option Row))
    → old ≡ library (edits bs) → ((id : ℕ) → at id changes ≡ last_said (says_item id) batch)
    → IsAscending new → ((id : ℕ) → at id new ≡ changed changes old id) → new ≡ library (edits (bs ++ batch ∷ []))
present_more bs batch old new changes was said ascends each =
    library_is (edits (bs ++ batch ∷ [])) new ascends
    (λ id. each id ∙ (λ i. unwrap_or (said id i) (at id (was i))) ∙ ap (unwrap_or (last_said (says_item id) batch)) (at-library (edits bs) id)
    ∙ sym (said_on (says_item id) (edits bs) batch None) ∙ ap (λ es. item_at es id) (sym (edits_more bs batch)))

-- a row that is said of an id has it
pub said_own : (id : ℕ) (row : Row) (es : List Edit) → last_said (says_item id) es ≡ Some (Some row) → row.id ≡ id
said_own id row es is = item_id es id row (ap (λ said. unwrap_or said None) is)

-- the batches up to the revision before the last are those before it
up_to_last : (bs : List (List Edit)) (batch : List Edit) (n : ℕ) → n ≡ revision bs + 1 → up_to (bs ++ batch ∷ []) (n - 1) ≡ bs
up_to_last bs batch n next = ap (up_to (bs ++ batch ∷ [])) (let last : n - 1 ≡ revision bs = omega (arith, next) in last) ∙ up_to-revision bs (batch ∷ [])

pub applied : (bs : List (List Edit)) (batch : List Edit) (s : Store) (n low count : ℕ) (named : List (List ℕ)) (mid new : Held Row) (present before_it : List (ℕ × Row))
    → StandsFor bs s → AreValid batch → n ≡ s.revision + 1 → low ≡ floor_of s.keep s.revision
    → named ≡ drop (low - s.low) (s.named ++ named_items batch ∷ [])
    → ((es : List Edit) → AreItems n es s.versions s.count → AreItems n (es ++ batch) mid count)
    → ((q base : ℕ) → base < n → value_at mid q base ≡ value_at s.versions q base)
    → ((q base : ℕ) → low ≤ base → value_at new q base ≡ value_at mid q base)
    → present ≡ library (edits (bs ++ batch ∷ [])) → before_it ≡ s.present
    → StandsFor (bs ++ batch ∷ []) (record { keep = s.keep; revision = n; low = low; can_undo = true; count = count; count_before = s.count; named = named; versions = new; present = present; before = before_it })
applied bs batch s n low count named mid new present before_it h valid next floor lists items before pruned all_now all_before =
    let all : List (List Edit) = bs ++ batch ∷ [] in
    let made : n ≡ revision all = omega (arith, next, h.revision, revision_more bs batch) in
    let now : AreItems n (edits bs ++ batch) mid count = items (edits bs) (items_now h n next) in
    record {
      revision = made;
      valid = subst AreValid (sym (edits_more bs batch)) now.valid;
      rows = λ q base le.
          pruned q base le
          ∙ ⊎_elim
          (λ below. before q base below ∙ h.rows q base (omega (arith, le, floor, h.reach))
          ∙ ap (λ cs. item_at (edits cs) q) (sym (up_to-same bs (batch ∷ []) base (omega (arith, below, next, h.revision)))))
          (λ above. now.rows q base above ∙ ap (λ es. item_at es q) (sym (edits_more bs batch))
          ∙ ap (λ cs. item_at (edits cs) q) (sym (up_to-all all base (omega (arith, above, made)))))
          (cases_lt base n);
      count = now.counted ∙ ap (λ es. length (library es)) (sym (edits_more bs batch));
      named =
          lists
          ∙ ap (λ ls. drop (low - s.low) (ls ++ named_items batch ∷ [])) h.named
          ∙ ap (drop (low - s.low)) (sym (map-append named_items (drop (s.low - first_revision) bs) (batch ∷ [])))
          ∙ drop-map named_items (low - s.low) (drop (s.low - first_revision) bs ++ batch ∷ [])
          ∙ ap (λ cs. map named_items (drop (low - s.low) cs)) (sym (drop-append-le (s.low - first_revision) bs (batch ∷ []) (omega (arith, low_reached h, h.revision))))
          ∙ ap (map named_items) (drop-drop (low - s.low) (s.low - first_revision) all)
          ∙ ap (λ k. map named_items (drop k all))
          (let same : s.low - first_revision + (low - s.low) ≡ low - first_revision = omega (arith, h.least, floor, h.reach) in same);
      least = omega (arith, floor);
      reach = omega (arith, floor, next);
      undo = λ _. omega (arith, floor, next);
      count_before = λ _. h.count ∙ ap (λ cs. length (library (edits cs))) (sym (up_to_last bs batch n (next ∙ ap (λ v. v + 1) h.revision)));
      present = all_now;
      before = λ _. all_before ∙ h.present ∙ ap (λ cs. library (edits cs)) (sym (up_to_last bs batch n (next ∙ ap (λ v. v + 1) h.revision)));
    }

up_to_least : (bs : List (List Edit)) (base v : ℕ) → v ≡ revision bs → up_to bs (min base v) ≡ up_to bs base
up_to_least bs base v is =
    ⊎_elim
    (λ below. ap (up_to bs) (min-eq_left (let le : base ≤ v = omega (arith, below) in le)))
    (λ above. up_to-all bs (min base v) (omega (arith, is, le-min {k = v} {a = base} {b = v} above (omega arith))) ∙ sym (up_to-all bs base (omega (arith, is, above))))
    (cases_lt base v)

left_same : (s : Store) (n : ℕ) (named : List (List ℕ)) (new : Held Row) → n ≡ s.revision + 1 → named ≡ s.named
    → (1 ≤ n → (q base : ℕ) → (value_at new q base ≡ value_at s.versions q base) ⊎ (value_at new q base ≡ value_at s.versions q (min base (n - 1))))
    → IsUnchanged s (record { keep = s.keep; revision = s.revision; low = s.low; can_undo = s.can_undo; count = s.count; count_before = s.count_before; named = named; versions = new; present = s.present; before = s.before })
left_same s n named new next lists rows = record {
  keep = refl;
  revision = refl;
  undo = refl;
  stands = λ bs h. record {
    revision = h.revision;
    valid = h.valid;
    rows = λ q base le.
        ⊎_elim
        (λ same. same ∙ h.rows q base le)
        (λ below. below
        ∙ h.rows q (min base (n - 1)) (le-min le (omega (arith, low_reached h, next)))
        ∙ ap (λ cs. item_at (edits cs) q) (up_to_least bs base (n - 1) (omega (arith, next, h.revision))))
        (rows (omega (arith, next)) q base);
    count = h.count;
    named = lists ∙ h.named;
    least = h.least;
    reach = h.reach;
    undo = h.undo;
    count_before = h.count_before;
    present = h.present;
    before = h.before;
  };
}

pub not_applied : {s now : Store} → s ≡ now → (n : ℕ) (named : List (List ℕ)) (new : Held Row) → n ≡ now.revision + 1 → named ≡ s.named
    → (1 ≤ n → (q base : ℕ) → (value_at new q base ≡ value_at s.versions q base) ⊎ (value_at new q base ≡ value_at s.versions q (min base (n - 1))))
    → IsUnchanged now (record { keep = s.keep; revision = s.revision; low = s.low; can_undo = s.can_undo; count = s.count; count_before = s.count_before; named = named; versions = new; present = s.present; before = s.before })
not_applied {s} same n named new next lists rows =
    subst (λ old. IsUnchanged old (record { keep = s.keep; revision = s.revision; low = s.low; can_undo = s.can_undo; count = s.count; count_before = s.count_before; named = named; versions = new; present = s.present; before = s.before }))
    same (left_same s n named new (next ∙ ap (λ t. t.revision + 1) (sym same)) lists rows)

-- ---- undo

row_before : (bs : List (List Edit)) (batch : List Edit) (q base : ℕ) → list_any (names_item q) batch ≡ false → item_at (edits (up_to (bs ++ batch ∷ []) base)) q ≡ item_at (edits (up_to bs base)) q
row_before bs batch q base unnamed =
    ⊎_elim
    (λ below. ap (λ cs. item_at (edits cs) q) (up_to-same bs (batch ∷ []) base (omega (arith, below))))
    (λ above. ap (λ cs. item_at (edits cs) q) (up_to-all (bs ++ batch ∷ []) base (omega (arith, above, revision_more bs batch)))
    ∙ ap (λ es. item_at es q) (edits_more bs batch) ∙ item_stays (edits bs) batch q unnamed
    ∙ ap (λ cs. item_at (edits cs) q) (sym (up_to-all bs base (omega (arith, above)))))
    (cases_lt base (revision bs + 1))

pub undone : (bs : List (List Edit)) (batch : List Edit) (s : Store) (n : ℕ) (named : List (List ℕ)) (new : Held Row) (present none : List (ℕ × Row))
    → StandsFor (bs ++ batch ∷ []) s → s.can_undo ≡ true → n ≡ s.revision - 1
    → ((front : List (List ℕ)) (ids : List ℕ) → s.named ≡ front ++ ids ∷ [] → named ≡ front)
    → (1 ≤ s.revision → (front : List (List ℕ)) (ids : List ℕ) → s.named ≡ front ++ ids ∷ []
    → (q base : ℕ) → value_at new q base ≡ value_at s.versions q (cond (is_among q ids) (min base (s.revision - 1)) base))
    → present ≡ s.before
    → StandsFor bs (record { keep = s.keep; revision = n; low = s.low; can_undo = false; count = s.count_before; count_before = s.count_before; named = named; versions = new; present = present; before = none })
undone bs batch s n named new present none h can last lists rows all_now =
    let was : s.revision - 1 ≡ revision bs = omega (arith, h.revision, revision_more bs batch) in
    let low : s.low ≤ revision bs = omega (arith, h.undo can, was) in
    let front : List (List ℕ) = map named_items (drop (s.low - first_revision) bs) in
    let parts : s.named ≡ front ++ named_items batch ∷ [] =
    h.named ∙ ap (map named_items) (drop-append-le (s.low - first_revision) bs (batch ∷ []) (omega (arith, low)))
    ∙ map-append named_items (drop (s.low - first_revision) bs) (batch ∷ []) in
    let back = rows (omega (arith, h.revision)) front (named_items batch) parts in
    record {
      revision = last ∙ was;
      valid = valid_front (edits bs) batch (subst AreValid (edits_more bs batch) h.valid);
      rows = λ q base le.
          back q base
          ∙ ⊎_elim
          (λ among. ap (λ b. value_at s.versions q (cond b (min base (s.revision - 1)) base)) among
          ∙ h.rows q (min base (s.revision - 1)) (le-min le (omega (arith, low, was)))
          ∙ ap (λ cs. item_at (edits cs) q)
          (up_to-same bs (batch ∷ []) (min base (s.revision - 1)) (omega (arith, was, min-le_right base (s.revision - 1)))
          ∙ up_to_least bs base (s.revision - 1) was))
          (λ unnamed. ap (λ b. value_at s.versions q (cond b (min base (s.revision - 1)) base)) unnamed
          ∙ h.rows q base le ∙ row_before bs batch q base (sym (among_named q batch) ∙ unnamed))
          (cases_Bool (is_among q (named_items batch)));
      count = h.count_before can ∙ ap (λ cs. length (library (edits cs))) (up_to_last bs batch s.revision (h.revision ∙ revision_more bs batch));
      named = lists front (named_items batch) parts;
      least = h.least;
      reach = omega (arith, h.undo can, last);
      undo = λ e. absurd (true≢false (sym e));
      count_before = λ e. absurd (true≢false (sym e));
      present = all_now ∙ h.before can ∙ ap (λ cs. library (edits cs)) (up_to_last bs batch s.revision (h.revision ∙ revision_more bs batch));
      before = λ e. absurd (true≢false (sym e));
    }
