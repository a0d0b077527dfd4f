-- What is left of a history, of keys and of rows when a loop has passed one more.
use Rattle.std.proofs.Common.{◌≡◌, ℕ, zero, suc, ◌-◌, arith, length-append, ◌+◌, ◌<◌, drop, take, length, get_or, Bool, true, false, ◌||◌, List, [], ◌∷◌, ◌++◌, flat_map, refl, sym, ap, ◌∙◌, nat_cmp, append-nil, ◌≤◌, cond, map, filter, append_assoc, fold, Bor}
use Rattle.std.specs.List.{list_any}
use Rattle.std.proofs.lemmas.List.Folds.{list_any-append}
use Rattle.std.proofs.lemmas.Grind.{flat_map-append}
use Rattle.item_model.specs.declared.item.Row.{Row}
use Rattle.item_model.specs.declared.changes.Edit.{Edit}
use Rattle.item_model.specs.declared.changes.Entry.{Entry}
use Rattle.item_model.specs.declared.changes.Entry.TheVariants.{Edits, Login, Logout, Stop}
use Rattle.share_history.specs.Histories.{edits, batches, edits_in, all_edits, until_edits}
use Rattle.std.proofs.lemmas.List.{drop_all, take_all, take_more}
use Rattle.std.specs.Ordering.{nat_cmp}
use Rattle.std.specs.BTreeSet.{insert_key}
use Rattle.std.specs.Map.{keys_of}
use Rattle.share_history.specs.Keyed.{ascending}
use Rattle.reference_share.specs.RowSeen.{row_of}
use Rattle.share_history.proofs.EditFacts.{drop_more, batches-append}
use Rattle.reference_share.proofs.SaidFacts.{all_edits-cons}
use Rattle.share_history.proofs.FoldFacts.{fold-append}

-- how many revisions the entries make that are left
pub revisions_left : (h : List Entry) (i : ℕ) (e : Entry) → i < length h → e ≡ get_or h i e
    → length (batches (drop i h)) ≡ length (batches (e ∷ [])) + length (batches (drop (i + 1) h))
revisions_left h i e lt is =
    ap (λ xs. length (batches xs)) (drop_more h i e lt is) ∙ ap length (batches-append (e ∷ []) (drop (i + 1) h))
    ∙ length-append (batches (e ∷ [])) (batches (drop (i + 1) h))

pub folded_entries_left : (put : List ℕ → ℕ → List ℕ) (keys : Edit → List ℕ) (h : List Entry) (i : ℕ) (e : Entry) (set : List ℕ) → i < length h → e ≡ get_or h i e
    → fold put (fold put set (flat_map keys (edits_in e))) (flat_map keys (all_edits (drop (i + 1) h))) ≡ fold put set (flat_map keys (all_edits (drop i h)))
folded_entries_left put keys h i e set lt is =
    sym
    (ap (λ xs. fold put set (flat_map keys (all_edits xs))) (drop_more h i e lt is)
    ∙ ap (λ es. fold put set (flat_map keys es)) (all_edits-cons e (drop (i + 1) h))
    ∙ ap (fold put set) (flat_map-append keys (edits_in e) (all_edits (drop (i + 1) h)))
    ∙ fold-append put set (flat_map keys (edits_in e)) (flat_map keys (all_edits (drop (i + 1) h))))

-- whether one of the remaining edits passes a test
pub any_left : {A : Type 0} (p : A → Bool) (xs : List A) (i : ℕ) (x : A) → i < length xs → x ≡ get_or xs i x → list_any p (drop i xs) ≡ (p x || list_any p (drop (i + 1) xs))
any_left p xs i x lt is = ap (list_any p) (drop_more xs i x lt is)

pub any_entries_left : (p : Edit → Bool) (h : List Entry) (i : ℕ) (e : Entry) → i < length h → e ≡ get_or h i e
    → list_any p (all_edits (drop i h)) ≡ (list_any p (edits_in e) || list_any p (all_edits (drop (i + 1) h)))
any_entries_left p h i e lt is =
    ap (λ xs. list_any p (all_edits xs)) (drop_more h i e lt is) ∙ ap (list_any p) (all_edits-cons e (drop (i + 1) h)) ∙ list_any-append p (edits_in e) (all_edits (drop (i + 1) h))

-- the batches after one entry, which is skipped if it is a batch
passed_one : (n : ℕ) (e : Entry) (h : List Entry) → 0 < n → drop n (batches (e ∷ h)) ≡ drop (n - length (batches (e ∷ []))) (batches h)
passed_one zero e h lt = absurd (omega arith)
passed_one (suc n) (Edits by batch) h lt = ap (λ m. drop m (batches h)) (let same : n ≡ suc n - 1 = omega arith in same)
passed_one (suc n) (Login by id) h lt = ap (λ m. drop m (batches h)) (let same : suc n ≡ suc n - 0 = omega arith in same)
passed_one (suc n) (Logout by id) h lt = ap (λ m. drop m (batches h)) (let same : suc n ≡ suc n - 0 = omega arith in same)
passed_one (suc n) (Stop by) h lt = ap (λ m. drop m (batches h)) (let same : suc n ≡ suc n - 0 = omega arith in same)

pub batches_left : (n : ℕ) (h : List Entry) (i : ℕ) (e : Entry) → 0 < n → i < length h → e ≡ get_or h i e
    → drop (n - length (batches (e ∷ []))) (batches (drop (i + 1) h)) ≡ drop n (batches (drop i h))
batches_left n h i e pos lt is = sym (ap (λ xs. drop n (batches xs)) (drop_more h i e lt is) ∙ passed_one n e (drop (i + 1) h) pos)

kept_or_not : {A : Type 0} (b : Bool) (done : List A) (x : A) (rest : List A) → (done ++ cond b (x ∷ []) []) ++ rest ≡ done ++ cond b (x ∷ rest) rest
kept_or_not true done x rest = append_assoc done (x ∷ []) rest
kept_or_not false done x rest = ap (λ ys. ys ++ rest) (append-nil done)

-- one more value, kept if it passes a test, before those of the remaining items
pub filtered_by_next : {A B : Type 0} (f : A → B) (p : B → Bool) (done : List B) (xs : List A) (i : ℕ) (x : A) → i < length xs → x ≡ get_or xs i x
    → (done ++ cond (p (f x)) (f x ∷ []) []) ++ filter p (map f (drop (i + 1) xs)) ≡ done ++ filter p (map f (drop i xs))
filtered_by_next f p done xs i x lt is =
    kept_or_not (p (f x)) done (f x) (filter p (map f (drop (i + 1) xs))) ∙ ap (λ left. done ++ filter p (map f left)) (sym (drop_more xs i x lt is))

-- the same of rows, of which one more is tested by its key
pub filtered_key_next : (p : ℕ → Bool) (done : List ℕ) (rs : List (ℕ × Bor Row)) (i : ℕ) (r : ℕ × Bor Row) → i < length rs → r ≡ get_or rs i r
    → (done ++ cond (p r.0) (r.0 ∷ []) []) ++ filter p (keys_of (map row_of (drop (i + 1) rs))) ≡ done ++ filter p (keys_of (map row_of (drop i rs)))
filtered_key_next p done rs i r lt is =
    kept_or_not (p r.0) done r.0 (filter p (keys_of (map row_of (drop (i + 1) rs)))) ∙ ap (λ left. done ++ filter p (keys_of (map row_of left))) (sym (drop_more rs i r lt is))

-- how many edits the entries bring that are left
pub edits_left : (h : List Entry) (i : ℕ) (e : Entry) → i < length h → e ≡ get_or h i e → length (all_edits (drop i h)) ≡ length (edits_in e) + length (all_edits (drop (i + 1) h))
edits_left h i e lt is =
    ap (λ xs. length (all_edits xs)) (drop_more h i e lt is) ∙ ap length (all_edits-cons e (drop (i + 1) h)) ∙ length-append (edits_in e) (all_edits (drop (i + 1) h))

-- the history up to the n-th batch begins with its first entry
until_first : (n : ℕ) (e : Entry) (h : List Entry) → 0 < n → until_edits n (e ∷ h) ≡ e ∷ until_edits (n - length (batches (e ∷ []))) h
until_first zero e h pos = absurd (omega arith)
until_first (suc n) (Edits by batch) h pos = ap (λ m. Edits by batch ∷ until_edits m h) (let same : n ≡ suc n - 1 = omega arith in same)
until_first (suc n) (Login by id) h pos = ap (λ m. Login by id ∷ until_edits m h) (let same : suc n ≡ suc n - 0 = omega arith in same)
until_first (suc n) (Logout by id) h pos = ap (λ m. Logout by id ∷ until_edits m h) (let same : suc n ≡ suc n - 0 = omega arith in same)
until_first (suc n) (Stop by) h pos = ap (λ m. Stop by ∷ until_edits m h) (let same : suc n ≡ suc n - 0 = omega arith in same)

pub until_left : (n : ℕ) (h : List Entry) (i : ℕ) (e : Entry) → 0 < n → i < length h → e ≡ get_or h i e
    → take (i + 1) h ++ until_edits (n - length (batches (e ∷ []))) (drop (i + 1) h) ≡ take i h ++ until_edits n (drop i h)
until_left n h i e pos lt is =
    ap (λ front. front ++ until_edits (n - length (batches (e ∷ []))) (drop (i + 1) h)) (take_more h i e lt ∙ ap (λ x. take i h ++ x ∷ []) (sym is))
    ∙ append_assoc (take i h) (e ∷ []) (until_edits (n - length (batches (e ∷ []))) (drop (i + 1) h))
    ∙ ap (λ rest. take i h ++ rest) (sym (ap (until_edits n) (drop_more h i e lt is) ∙ until_first n e (drop (i + 1) h) pos))

until_nothing : (n : ℕ) → until_edits n [] ≡ []
until_nothing zero = refl
until_nothing (suc n) = refl

-- at the end, everything is skipped
pub until_end : (n : ℕ) (h : List Entry) (i : ℕ) → length h ≤ i → take i h ++ until_edits n (drop i h) ≡ h
until_end n h i over =
    ap (λ rest. take i h ++ until_edits n rest) (drop_all i h over) ∙ ap (λ rest. take i h ++ rest) (until_nothing n) ∙ append-nil (take i h) ∙ take_all i h over

-- the keys of more edits are inserted after those of the others
pub keys_on : (keys : Edit → List ℕ) (es ds : List Edit) → fold (insert_key nat_cmp) (ascending (flat_map keys es)) (flat_map keys ds) ≡ ascending (flat_map keys (es ++ ds))
keys_on keys es ds = sym (ap ascending (flat_map-append keys es ds) ∙ fold-append (insert_key nat_cmp) [] (flat_map keys es) (flat_map keys ds))
