-- The last edit that speaks: what edits that do not name a key leave as it was.
use Rattle.std.proofs.Common.{◌≡◌, ℕ, zero, suc, ◌-◌, arith, take-append-drop, add-one, drop-cons, length-append, ◌+◌, ◌<◌, ◌≤◌, drop, take, length, get_or, Bool, true, false, ◌||◌, ◌&&◌, ◌==◌, List, [], ◌∷◌, ◌++◌, flat_map, refl, sym, ap, ◌∙◌, Option, Some, None, unwrap_or, nat_cmp, append-nil}
use Rattle.std.specs.BTreeMap.{is_at}
use Rattle.std.specs.Option.{option_or}
use Rattle.std.specs.List.{list_any}
use Rattle.std.proofs.lemmas.Bool.{or_from, or_parts}
use Rattle.std.proofs.lemmas.List.{take_all}
use Rattle.std.proofs.lemmas.List.Folds.{list_any-append}
use Rattle.std.proofs.lemmas.Grind.{flat_map-append}
use Rattle.std.proofs.Math.Seq.{take-append_seam, take-append-le}
use Rattle.share_history.specs.Numbers.{first_revision}
use Rattle.item_model.specs.declared.item.Row.{Row}
use Rattle.item_model.specs.declared.changes.Edit.{Edit}
use Rattle.item_model.specs.declared.changes.Entry.{Entry}
use Rattle.item_model.specs.declared.changes.Entry.TheVariants.{Edits, Login, Logout, Stop}
use Rattle.item_model.specs.declared.changes.Edit.TheVariants.{PutItem, DropItem, PutList, PutRule, DropList, PutMember, DropMember}
use Rattle.share_history.specs.LastSaid.{last_said, only_if, says_item, says_list, says_member, item_at, list_at, member_at, Playlist, Plain, Ruled}
use Rattle.share_history.specs.Named.{names_item, names_list, names_member, keys_in, named_keys, lists_in, named_lists}
use Rattle.share_history.specs.Histories.{edits, batches, edits_in, all_edits, revision, up_to, later, until_edits, at_revision, opening}
use Rattle.share_history.proofs.KeyedFacts.{has, is_eq-cmp}

-- ---- tests

pub first_false : (a b : Bool) → (a || b) ≡ false → a ≡ false
first_false a b h = (or_parts a b h).0

pub second_false : (a b : Bool) → (a || b) ≡ false → b ≡ false
second_false a b h = (or_parts a b h).1

pub both_false : (a b : Bool) → a ≡ false → b ≡ false → (a || b) ≡ false
both_false a b p q = or_from a b p q

pub and_second_false : (a b : Bool) → b ≡ false → (a && b) ≡ false
and_second_false true b h = h
and_second_false false b h = refl

-- a key among joined keys
pub has-append : (k : ℕ) (ks js : List ℕ) → has k (ks ++ js) ≡ (has k ks || has k js)
has-append k ks js = list_any-append (is_at (nat_cmp k)) ks js

-- the only key of an edit is another
pub other_key : (k key : ℕ) → has k (key ∷ []) ≡ false → (key == k) ≡ false
other_key k key h = sym (is_eq-cmp k key) ∙ first_false _ false h

-- ---- what the last edit says

pub last_said-append : {A : Type 0} (says : Edit → Option A) (es ds : List Edit) → last_said says (es ++ ds) ≡ option_or (last_said says ds) (last_said says es)
last_said-append says [] ds = or_none (last_said says ds)
  where
    or_none : {A : Type 0} (o : Option A) → o ≡ option_or o None
    or_none None = refl
    or_none (Some x) = refl
last_said-append says (e ∷ es) ds = ap (λ o. option_or o (says e)) (last_said-append says es ds) ∙ or_or (last_said says ds) (last_said says es) (says e)
  where
    or_or : {A : Type 0} (a b c : Option A) → option_or (option_or a b) c ≡ option_or a (option_or b c)
    or_or None b c = refl
    or_or (Some x) b c = refl

-- what is said before and after one edit, and before and after more
pub told_on : {A : Type 0} (later now : Option A) (before : A) → unwrap_or (option_or later now) before ≡ unwrap_or later (unwrap_or now before)
told_on None now before = refl
told_on (Some x) now before = refl

pub said_on : {A : Type 0} (says : Edit → Option A) (es ds : List Edit) (before : A)
    → unwrap_or (last_said says (es ++ ds)) before ≡ unwrap_or (last_said says ds) (unwrap_or (last_said says es) before)
said_on says es ds before = ap (λ o. unwrap_or o before) (last_said-append says es ds) ∙ told_on (last_said says ds) (last_said says es) before

-- the last of more edits is the one more, if it speaks
said_more : {A : Type 0} (says : Edit → Option (Option A)) (es : List Edit) (e : Edit) → unwrap_or (last_said says (es ++ e ∷ [])) None ≡ unwrap_or (says e) (unwrap_or (last_said says es) None)
said_more says es e = said_on says es (e ∷ []) None

pub item_more : (es : List Edit) (e : Edit) (id : ℕ) → item_at (es ++ e ∷ []) id ≡ unwrap_or (says_item id e) (item_at es id)
item_more es e id = said_more (says_item id) es e

pub list_more : (es : List Edit) (e : Edit) (c : ℕ) → list_at (es ++ e ∷ []) c ≡ unwrap_or (says_list c e) (list_at es c)
list_more es e c = said_more (says_list c) es e

pub member_more : (es : List Edit) (e : Edit) (c m : ℕ) → member_at (es ++ e ∷ []) c m ≡ unwrap_or (says_member c m e) (member_at es c m)
member_more es e c m = said_more (says_member c m) es e

-- edits of which none speaks say nothing
pub silent : {A : Type 0} (says : Edit → Option A) (names : Edit → Bool) → ((e : Edit) → names e ≡ false → says e ≡ None) → (es : List Edit) → list_any names es ≡ false → last_said says es ≡ None
silent says names quiet [] h = refl
silent says names quiet (e ∷ es) h =
    ap (λ o. option_or o (says e)) (silent says names quiet es (second_false (names e) (list_any names es) h)) ∙ quiet e (first_false (names e) (list_any names es) h)

-- and leave what was said before them
pub stays : {A : Type 0} (says : Edit → Option (Option A)) (es ds : List Edit) → last_said says ds ≡ None → unwrap_or (last_said says (es ++ ds)) None ≡ unwrap_or (last_said says es) None
stays says es ds h = ap (λ o. unwrap_or o None) (last_said-append says es ds ∙ ap (λ o. option_or o (last_said says es)) h)

quiet_item : (id : ℕ) (e : Edit) → names_item id e ≡ false → says_item id e ≡ None
quiet_item id (PutItem row) h = ap (λ b. only_if b (Some row)) h
quiet_item id (DropItem dropped) h = ap (λ b. only_if {A = Option Row} b None) h
quiet_item id (PutList list name) h = refl
quiet_item id (PutRule list name rule) h = refl
quiet_item id (DropList list) h = refl
quiet_item id (PutMember list member item) h = refl
quiet_item id (DropMember list member) h = refl

quiet_list : (c : ℕ) (e : Edit) → names_list c e ≡ false → says_list c e ≡ None
quiet_list c (PutItem row) h = refl
quiet_list c (DropItem id) h = refl
quiet_list c (PutList list name) h = ap (λ b. only_if b (Some (Plain name))) h
quiet_list c (PutRule list name rule) h = ap (λ b. only_if b (Some (Ruled name rule))) h
quiet_list c (DropList list) h = ap (λ b. only_if {A = Option Playlist} b None) h
quiet_list c (PutMember list member item) h = refl
quiet_list c (DropMember list member) h = refl

quiet_member : (c m : ℕ) (e : Edit) → (names_list c e || names_member c m e) ≡ false → says_member c m e ≡ None
quiet_member c m (PutItem row) h = refl
quiet_member c m (DropItem id) h = refl
quiet_member c m (PutList list name) h = ap (λ b. only_if {A = Option ℕ} b None) (first_false _ false h)
quiet_member c m (PutRule list name rule) h = ap (λ b. only_if {A = Option ℕ} b None) (first_false _ false h)
quiet_member c m (DropList list) h = ap (λ b. only_if {A = Option ℕ} b None) (first_false _ false h)
quiet_member c m (PutMember list member item) h = ap (λ b. only_if b (Some item)) h
quiet_member c m (DropMember list member) h = ap (λ b. only_if {A = Option ℕ} b None) h

any_or : (p q : Edit → Bool) (es : List Edit) → list_any p es ≡ false → list_any q es ≡ false → list_any (λ e. p e || q e) es ≡ false
any_or p q [] h k = refl
any_or p q (e ∷ es) h k =
    both_false (p e || q e) (list_any (λ d. p d || q d) es)
    (both_false (p e) (q e) (first_false (p e) (list_any p es) h) (first_false (q e) (list_any q es) k))
    (any_or p q es (second_false (p e) (list_any p es) h) (second_false (q e) (list_any q es) k))

-- an item, a list and a member stay as they are under edits that do not name them
pub item_stays : (es ds : List Edit) (id : ℕ) → list_any (names_item id) ds ≡ false → item_at (es ++ ds) id ≡ item_at es id
item_stays es ds id h = stays (says_item id) es ds (silent (says_item id) (names_item id) (quiet_item id) ds h)

pub list_stays : (es ds : List Edit) (c : ℕ) → list_any (names_list c) ds ≡ false → list_at (es ++ ds) c ≡ list_at es c
list_stays es ds c h = stays (says_list c) es ds (silent (says_list c) (names_list c) (quiet_list c) ds h)

pub member_stays : (es ds : List Edit) (c m : ℕ) → list_any (names_list c) ds ≡ false → list_any (names_member c m) ds ≡ false → member_at (es ++ ds) c m ≡ member_at es c m
member_stays es ds c m h k =
    stays (says_member c m) es ds (silent (says_member c m) (λ e. names_list c e || names_member c m e) (quiet_member c m) ds (any_or (names_list c) (names_member c m) ds h k))

-- ---- keys that no edit names

pub said_none : {A : Type 0} (last said : Option (Option A)) → unwrap_or last None ≡ None → unwrap_or said None ≡ None → unwrap_or (option_or last said) None ≡ None
said_none None said p q = q
said_none (Some x) said p q = p

unsaid : {A : Type 0} (says : Edit → Option (Option A)) (keys : Edit → List ℕ) (k : ℕ) → ((e : Edit) → has k (keys e) ≡ false → unwrap_or (says e) None ≡ None)
    → (es : List Edit) → has k (flat_map keys es) ≡ false → unwrap_or (last_said says es) None ≡ None
unsaid says keys k quiet [] h = refl
unsaid says keys k quiet (e ∷ es) h =
    let parts = sym (has-append k (keys e) (flat_map keys es)) ∙ h in
    said_none (last_said says es) (says e) (unsaid says keys k quiet es (second_false (has k (keys e)) (has k (flat_map keys es)) parts))
    (quiet e (first_false (has k (keys e)) (has k (flat_map keys es)) parts))

nothing_either_way : {A : Type 0} (b : Bool) → unwrap_or (only_if {A = Option A} b None) None ≡ None
nothing_either_way true = refl
nothing_either_way false = refl

no_item_of : (k : ℕ) (e : Edit) → has k (keys_in e) ≡ false → unwrap_or (says_item k e) None ≡ None
no_item_of k (PutItem row) h = ap (λ b. unwrap_or (only_if b (Some row)) None) (other_key k row.id h)
no_item_of k (DropItem id) h = nothing_either_way (id == k)
no_item_of k (PutList list name) h = refl
no_item_of k (PutRule list name rule) h = refl
no_item_of k (DropList list) h = refl
no_item_of k (PutMember list member item) h = refl
no_item_of k (DropMember list member) h = refl

no_member_of : (c k : ℕ) (e : Edit) → has k (keys_in e) ≡ false → unwrap_or (says_member c k e) None ≡ None
no_member_of c k (PutItem row) h = refl
no_member_of c k (DropItem id) h = refl
no_member_of c k (PutList list name) h = nothing_either_way (list == c)
no_member_of c k (PutRule list name rule) h = nothing_either_way (list == c)
no_member_of c k (DropList list) h = nothing_either_way (list == c)
no_member_of c k (PutMember list member item) h = ap (λ b. unwrap_or (only_if b (Some item)) None) (and_second_false (list == c) (member == k) (other_key k member h))
no_member_of c k (DropMember list member) h = nothing_either_way ((list == c) && (member == k))

no_list_of : (c : ℕ) (e : Edit) → has c (lists_in e) ≡ false → unwrap_or (says_list c e) None ≡ None
no_list_of c (PutItem row) h = refl
no_list_of c (DropItem id) h = refl
no_list_of c (PutList list name) h = ap (λ b. unwrap_or (only_if b (Some (Plain name))) None) (other_key c list h)
no_list_of c (PutRule list name rule) h = ap (λ b. unwrap_or (only_if b (Some (Ruled name rule))) None) (other_key c list h)
no_list_of c (DropList list) h = nothing_either_way (list == c)
no_list_of c (PutMember list member item) h = refl
no_list_of c (DropMember list member) h = refl

pub item_unnamed : (es : List Edit) (k : ℕ) → has k (named_keys es) ≡ false → item_at es k ≡ None
item_unnamed es k h = unsaid (says_item k) keys_in k (no_item_of k) es h

pub member_unnamed : (es : List Edit) (c k : ℕ) → has k (named_keys es) ≡ false → member_at es c k ≡ None
member_unnamed es c k h = unsaid (says_member c k) keys_in k (no_member_of c k) es h

pub list_unnamed : (es : List Edit) (c : ℕ) → has c (named_lists es) ≡ false → list_at es c ≡ None
list_unnamed es c h = unsaid (says_list c) lists_in c (no_list_of c) es h

-- ---- a history that a batch opens

-- has the edits of the batch
pub edits-opening : (es : List Edit) → edits (batches (opening es)) ≡ es
edits-opening [] = refl
edits-opening (e ∷ es) = append-nil (e ∷ es)

-- the items from position `i` on are the one at `i` and those after it
pub drop_more : {A : Type 0} (xs : List A) (i : ℕ) (x : A) → i < length xs → x ≡ get_or xs i x → drop i xs ≡ x ∷ drop (i + 1) xs
drop_more xs i x lt is = drop-cons xs i x lt ∙ ap (λ y. y ∷ drop (suc i) xs) (sym is) ∙ ap (λ n. x ∷ drop n xs) (sym (add-one i))

-- ---- histories entry by entry

pub batches-append : (h later : List Entry) → batches (h ++ later) ≡ batches h ++ batches later
batches-append [] later = refl
batches-append (Edits by batch ∷ h) later = ap (λ bs. batch ∷ bs) (batches-append h later)
batches-append (Login by id ∷ h) later = batches-append h later
batches-append (Logout by id ∷ h) later = batches-append h later
batches-append (Stop by ∷ h) later = batches-append h later

edits-entry : (e : Entry) → edits (batches (e ∷ [])) ≡ edits_in e
edits-entry (Edits by batch) = append-nil batch
edits-entry (Login by id) = refl
edits-entry (Logout by id) = refl
edits-entry (Stop by) = refl

pub all_edits-append : (h later : List Entry) → all_edits (h ++ later) ≡ all_edits h ++ all_edits later
all_edits-append h later = ap edits (batches-append h later) ∙ flat_map-append (λ b. b) (batches h) (batches later)

-- one more entry adds its edits
pub all_edits_more : (h : List Entry) (e : Entry) → all_edits (h ++ e ∷ []) ≡ all_edits h ++ edits_in e
all_edits_more h e = all_edits-append h (e ∷ []) ∙ ap (λ es. all_edits h ++ es) (edits-entry e)

-- ---- revisions

-- the edits up to a revision and those after it are all edits
pub edits-split : (bs : List (List Edit)) (v : ℕ) → edits bs ≡ edits (up_to bs v) ++ later bs v
edits-split bs v = ap edits (sym (take-append-drop (v - first_revision) bs)) ∙ flat_map-append (λ b. b) (up_to bs v) (drop (v - first_revision) bs)

-- the batches up to the revision that they make are they
pub up_to-revision : (bs cs : List (List Edit)) → up_to (bs ++ cs) (revision bs) ≡ bs
up_to-revision bs cs =
    let e : length bs + first_revision - first_revision ≡ length bs = omega arith in ap (λ n. take n (bs ++ cs)) e ∙ take-append_seam bs cs

-- the batches up to a revision at or above the present one are all batches
pub up_to-all : (bs : List (List Edit)) (v : ℕ) → revision bs ≤ v → up_to bs v ≡ bs
up_to-all bs v h = take_all (v - first_revision) bs (omega (arith, h))

pub up_to-now : (bs : List (List Edit)) → up_to bs (revision bs) ≡ bs
up_to-now bs = up_to-all bs (revision bs) (omega arith)

-- later batches do not change those up to a revision
pub up_to-same : (bs cs : List (List Edit)) (v : ℕ) → v ≤ revision bs → up_to (bs ++ cs) v ≡ up_to bs v
up_to-same bs cs v h = take-append-le (v - first_revision) bs cs (omega (arith, h))

-- one more batch makes one more revision
pub revision_more : (bs : List (List Edit)) (b : List Edit) → revision (bs ++ b ∷ []) ≡ revision bs + 1
revision_more bs b = let e = length-append bs (b ∷ []) in omega (arith, e)

pub edits_more : (bs : List (List Edit)) (b : List Edit) → edits (bs ++ b ∷ []) ≡ edits bs ++ b
edits_more bs b = flat_map-append (λ es. es) bs (b ∷ []) ∙ ap (λ es. edits bs ++ es) (append-nil b)

-- the batches of the history at a revision are those up to the revision
batches-until : (n : ℕ) (h : List Entry) → batches (until_edits n h) ≡ take n (batches h)
batches-until zero h = refl
batches-until (suc n) [] = refl
batches-until (suc n) (Edits by batch ∷ h) = ap (λ bs. batch ∷ bs) (batches-until n h)
batches-until (suc n) (Login by id ∷ h) = batches-until (suc n) h
batches-until (suc n) (Logout by id ∷ h) = batches-until (suc n) h
batches-until (suc n) (Stop by ∷ h) = batches-until (suc n) h

pub batches-at_revision : (h : List Entry) (v : ℕ) → batches (at_revision h v) ≡ up_to (batches h) v
batches-at_revision h v = batches-until (v - first_revision) h
