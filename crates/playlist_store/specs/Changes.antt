-- How edits, rules, reverting and pruning change the lists.
use Rattle.std.specs.Prelude.{◌≡◌, ◌≤◌, ◌<◌, ℕ, ◌-◌, List, ◌∷◌, ◌==◌, Bool, true, false, ◌&&◌, ◌||◌, ◌⊎◌, Option, Some, None, is_some, min, nat_le, nat_lt, length, Result, OnOk, OnErr, ⊤, if◌then◌else◌}
use Rattle.std.specs.Option.{option_map, option_and_then}
use Rattle.std.specs.List.{list_any, find, sum_by}
use Rattle.std.specs.Map.{keys_of}
use Rattle.item_model.specs.declared.changes.Edit.{Edit}
use Rattle.item_model.specs.declared.changes.Edit.TheVariants.{PutItem, DropItem, PutList, PutRule, DropList, PutMember, DropMember}
use Rattle.item_model.specs.declared.query.Query.{Query}
use Rattle.key_versions.specs.Held.{at, value_at, is_among}
use Rattle.share_history.specs.LastSaid.{Playlist, item_at, list_at, member_at}
use Rattle.share_history.specs.Named.{names_list}
use Rattle.share_history.specs.Rows.{library}
use Rattle.item_store.specs.Stands.{named_items}
use Rattle.playlist_store.specs.declared.head.ListHead.{ListHead}
use Rattle.playlist_store.specs.declared.kept.ListVersion.{ListVersion}
use Rattle.playlist_store.specs.declared.kept.ListHistory.{ListHistory}
use Rattle.playlist_store.specs.Words.{head_of, ruled}
use Rattle.playlist_store.specs.Names.{Names, names_of}
use Rattle.playlist_store.specs.Lists.{Lists, top, list_in, head_in, since_of, member_in, near_in, has_rule, names_key}

-- the version of a list at a revision
abbrev pub found_in : ListHistory → ℕ → Option ListVersion
found_in list v = find (λ kept. nat_le kept.since v) (list.now ∷ list.older.items)

-- whether a member of a list is among some (list, member) pairs
abbrev pub is_member_among : ℕ → ℕ → List (ℕ × ℕ) → Bool
is_member_among c key members = list_any (λ m. (m.0 == c) && (m.1 == key)) members

abbrev pub is_plain : Option ListHead → Bool
is_plain None = false
is_plain (Some head) = if is_some head.rule then false else true

abbrev pub puts_rule : Edit → Bool
puts_rule (PutItem row) = false
puts_rule (DropItem id) = false
puts_rule (PutList list name) = false
puts_rule (PutRule list name rule) = true
puts_rule (DropList list) = false
puts_rule (PutMember list member item) = false
puts_rule (DropMember list member) = false

-- ---- one list that remains

-- from revision `n` on the picked keys have other values; what the list is stays
pub record Sets (n : ℕ) (picks : ℕ → Bool) (value : ℕ → Option ℕ) (old new : ListVersion) : Type 0 where
  pub since : new.since ≡ old.since
  pub head : new.head ≡ old.head
  pub near : (item key : ℕ) → near_in (Some old) item key ≡ true → near_in (Some new) item key ≡ true
  pub members : (key base : ℕ) → value_at new.members key base ≡ (if picks key && nat_le n base then value key else value_at old.members key base)

-- only the picked keys may have other values, from revision `n` on
pub record Leaves (n : ℕ) (picks : ℕ → Bool) (old new : ListVersion) : Type 0 where
  pub since : new.since ≡ old.since
  pub head : new.head ≡ old.head
  pub near : (item key : ℕ) → near_in (Some old) item key ≡ true → near_in (Some new) item key ≡ true
  pub below : (key base : ℕ) → base < n → value_at new.members key base ≡ value_at old.members key base
  pub others : (key base : ℕ) → picks key ≡ false → value_at new.members key base ≡ value_at old.members key base

-- the picked keys read as before revision `n`
pub record Returns (n : ℕ) (picks : ℕ → Bool) (old new : ListVersion) : Type 0 where
  pub since : new.since ≡ old.since
  pub head : new.head ≡ old.head
  pub near : (item key : ℕ) → near_in (Some new) item key ≡ near_in (Some old) item key
  pub members : (key base : ℕ) → value_at new.members key base ≡ value_at old.members key (if picks key then min base (n - 1) else base)

-- the newest version of a list changes, and the earlier ones stay
abbrev pub InPlace : (ListVersion → ListVersion → Type 0) → Option ListHistory → Option ListHistory → Type 0
InPlace R None new = new ≡ None
InPlace R (Some old) None = ⊥
InPlace R (Some old) (Some new) = (new.older.items ≡ old.older.items) × R old.now new.now

-- and no other list changes
pub record ChangesOne (c : ℕ) (R : ListVersion → ListVersion → Type 0) (old new : Lists) : Type 0 where
  pub here : InPlace R (at c old) (at c new)
  pub others : (q : ℕ) → (c == q) ≡ false → at q new ≡ at q old

-- each list may change in its newest version
abbrev pub Everywhere : (ListVersion → ListVersion → Type 0) → Lists → Lists → Type 0
Everywhere R old new = (c : ℕ) → InPlace R (at c old) (at c new)

-- the same with the list's id
abbrev pub ReturnsAt : (ℕ → ListVersion → ListVersion → Type 0) → Lists → Lists → Type 0
ReturnsAt R old new = (c : ℕ) → InPlace (R c) (at c old) (at c new)

-- the newest version of list `c` is `kept`, and what is read before its revision stays
pub record Puts {E : Type 0} (c : ℕ) (kept : ListVersion) (result : Result ⊤ E) (old new : Lists) : Type 0 where
  pub put : OnOk result ((q : ℕ) → top new q ≡ (if c == q then Some kept else top old q))
  pub left : OnErr result ((q : ℕ) → top new q ≡ top old q)
  pub below : (q v : ℕ) → v < kept.since → list_in new q v ≡ list_in old q v

-- a member of a playlist has another item from revision `n` on, and is in the index by item
pub record SetsMember (n key : ℕ) (item : Option ℕ) (old new : ListVersion) : Type 0 where
  pub sets : Sets n (λ k. is_plain old.head && (key == k)) (λ _. item) old new
  pub noted : (other : ℕ) → is_plain old.head ≡ true → item ≡ Some other → near_in (Some new) other key ≡ true

abbrev pub LeavesMember : ℕ → ℕ → ListVersion → ListVersion → Type 0
LeavesMember n key old new = Leaves n (λ k. is_plain old.head && (key == k)) old new

-- ---- a batch

-- edits of revision `n` leave what they do not name, and what is read before `n`
pub record Keeps (n c : ℕ) (batch : List Edit) (old new : Option ListVersion) : Type 0 where
  pub head : head_in new ≡ head_in old
  pub since : since_of new ≡ since_of old
  pub near : (item key : ℕ) → near_in old item key ≡ true → near_in new item key ≡ true
  pub below : (key base : ℕ) → base < n → member_in new key base ≡ member_in old key base
  pub others : (key base : ℕ) → list_any (names_key (head_in old) c key) batch ≡ false → member_in new key base ≡ member_in old key base

pub record Frames (n : ℕ) (batch : List Edit) (old new : Lists) : Type 0 where
  pub last : (c : ℕ) → Keeps n c batch (list_in old c (n - 1)) (list_in new c (n - 1))
  pub older : (c u : ℕ) → u < since_of (top old c) → u < n → list_in new c u ≡ list_in old c u
  pub rises : (c : ℕ) → (since_of (top new c) ≡ since_of (top old c)) ⊎ ((since_of (top new c) ≡ n) × (list_any (names_list c) batch ≡ true))

-- one list in the course of a batch that makes revision `n`, before rules are evaluated: what it is, its members if
-- it is a playlist, whether the batch named it, and whether the batch put a smart playlist
pub record TellsOne (n : ℕ) (list : Option Playlist) (member : ℕ → Option ℕ) (named rule : Bool) (old new : Option ListVersion) : Type 0 where
  pub heads : head_in new ≡ option_map head_of list
  pub since : since_of new ≡ (if named then n else since_of old)
  pub plain : (key base : ℕ) → n ≤ base → is_plain (head_in new) ≡ true → member_in new key base ≡ member key
  pub fresh : (key base : ℕ) → is_plain (head_in new) ≡ false → named ≡ true → member_in new key base ≡ None
  pub left : (key base : ℕ) → is_plain (head_in new) ≡ false → named ≡ false → member_in new key base ≡ member_in old key base
  pub near : (key item : ℕ) → is_plain (head_in new) ≡ true → member key ≡ Some item → near_in new item key ≡ true
  pub rules : has_rule (head_in new) ≡ true → named ≡ true → rule ≡ true

-- the same of each list after all edits `all`, of which `batch` are those of revision `n`
abbrev pub Tells : (n : ℕ) (all batch : List Edit) (old new : Lists) → Type 0
Tells n all batch old new =
    (c : ℕ) → TellsOne n (list_at all c) (member_at all c) (list_any (names_list c) batch) (list_any puts_rule batch) (top old c) (top new c)

-- ---- rules

-- the ids of the items on which a list's rule is evaluated
abbrev pub tested_ids : (is_new : Bool) (es : List Edit) (ids : List ℕ) → List ℕ
tested_ids is_new es ids = if is_new then keys_of (library es) else ids

abbrev pub ruled_by : Option Query → List Edit → ℕ → Option ℕ
ruled_by None es key = None
ruled_by (Some rule) es key = ruled rule key (item_at es key)

-- the result of a list's rule for an item
abbrev pub ruled_in : Option ListHead → List Edit → ℕ → Option ℕ
ruled_in None es key = None
ruled_in (Some head) es key = ruled_by head.rule es key

abbrev pub TestsRule : ℕ → List Edit → List ℕ → ListVersion → ListVersion → Type 0
TestsRule n es ids old new = Sets n (λ key. has_rule old.head && is_among key (tested_ids (old.since == n) es ids)) (ruled_in old.head es) old new

-- what evaluating rules may change, even when it fails
pub record LeavesRule (n : ℕ) (ids : List ℕ) (old new : ListVersion) : Type 0 where
  pub since : new.since ≡ old.since
  pub head : new.head ≡ old.head
  pub near : (item key : ℕ) → near_in (Some new) item key ≡ near_in (Some old) item key
  pub leaves : old.since < n → Leaves n (λ key. has_rule old.head && is_among key ids) old new

-- the lists after the edits of a batch, and then after its rules
pub record Taken (n : ℕ) (all batch : List Edit) (old new : Lists) : Type 0 where
  pub mid : Lists
  pub tells : Tells n all batch old mid
  pub tests : Everywhere (TestsRule n all (named_items batch)) mid new

-- how often a list's rule is evaluated
abbrev pub ticks_in : ℕ → List Edit → List ℕ → ListVersion → ℕ
ticks_in n es ids kept = if has_rule kept.head then length (tested_ids (kept.since == n) es ids) else 0

-- the sum of the numbers under key `c`
abbrev pub allowed : ℕ → List (ℕ × ℕ) → ℕ
allowed c most = sum_by (λ e. if e.0 == c then e.1 else 0) most

-- ---- reverting

-- the versions from revision `n` on are gone
abbrev pub PopsOne : ℕ → Option ListHistory → Option ListHistory → Type 0
PopsOne n old None = (v : ℕ) → v < n → option_and_then (λ list. found_in list v) old ≡ None
PopsOne n old (Some new) = ((v : ℕ) → v < n → option_and_then (λ list. found_in list v) old ≡ found_in new v) × (new.now.since < n)

pub record Pops (n : ℕ) (ids : List ℕ) (old new : Lists) : Type 0 where
  pub below : (c v : ℕ) → v < n → list_in new c v ≡ list_in old c v
  pub popped : (c : ℕ) → is_among c ids ≡ true → since_of (top new c) < n
  pub others : (c : ℕ) → is_among c ids ≡ false → at c new ≡ at c old

abbrev pub ReturnsKey : ℕ → ℕ → ListVersion → ListVersion → Type 0
ReturnsKey n key old new = Returns n (λ k. key == k) old new

abbrev pub ReturnsMembers : ℕ → List (ℕ × ℕ) → ℕ → ListVersion → ListVersion → Type 0
ReturnsMembers n members c old new = Returns n (λ key. is_member_among c key members) old new

abbrev pub ReturnsItems : ℕ → List ℕ → ListVersion → ListVersion → Type 0
ReturnsItems n items old new = Returns n (λ key. has_rule old.head && is_among key items) old new

-- everything that a batch names reads as before its revision
abbrev pub ReturnsNamed : ℕ → Names → ℕ → ListVersion → ListVersion → Type 0
ReturnsNamed n names c old new = Returns n (λ key. is_member_among c key names.members || (has_rule old.head && is_among key names.items)) old new

pub record TakesBack (n : ℕ) (names : Names) (old new : Lists) : Type 0 where
  pub mid : Lists
  pub pops : Pops n names.lists old mid
  pub returns : ReturnsAt (ReturnsNamed n names) mid new

-- a part of a batch is applied and reverted
pub record StepsBack (n : ℕ) (batch : List Edit) (old new : Lists) : Type 0 where
  pub mid : Lists
  pub frames : Frames n batch old mid
  pub back : TakesBack n (names_of batch) mid new

-- ---- pruning

abbrev pub now_of : Option ListHistory → Option ListVersion
now_of list = option_map (λ l. l.now) list

abbrev pub found_of : Option ListHistory → ℕ → Option ListVersion
found_of list v = option_and_then (λ l. found_in l v) list

-- from revision `low` on all reads stay; a list that was dropped by then may be gone
pub record Prunes (low : ℕ) (old new : Option ListVersion) : Type 0 where
  pub head : head_in new ≡ head_in old
  pub since : (base : ℕ) → low ≤ base → nat_lt base (since_of new) ≡ nat_lt base (since_of old)
  pub members : (key base : ℕ) → low ≤ base → (member_in new key base ≡ member_in old key base) ⊎ ((member_in new key base ≡ None) × (head_in old ≡ None))
  pub near : (item key base : ℕ) → low ≤ base → is_plain (head_in old) ≡ true → member_in old key base ≡ Some item → near_in old item key ≡ true → near_in new item key ≡ true

-- at the present revision, and at the one before the last batch
pub record PrunesAll (low before : ℕ) (old new : Lists) : Type 0 where
  pub now : (c : ℕ) → Prunes low (top old c) (top new c)
  pub last : (c : ℕ) → Prunes low (list_in old c before) (list_in new c before)

pub record PrunesKept (low : ℕ) (old new : ListVersion) : Type 0 where
  pub since : new.since ≡ old.since
  pub head : new.head ≡ old.head
  pub members : (key base : ℕ) → low ≤ base → value_at new.members key base ≡ value_at old.members key base
  pub near : (item key base : ℕ) → low ≤ base → value_at old.members key base ≡ Some item → near_in (Some old) item key ≡ true → near_in (Some new) item key ≡ true

-- a list that does not exist or was dropped at `low` or before
abbrev pub GoneBy : ℕ → Option ListVersion → Type 0
GoneBy low None = ⊤
GoneBy low (Some kept) = (kept.head ≡ None) × (kept.since ≤ low)

-- versions that no revision from `before` on reads may be gone
abbrev pub ForgetsOne : ℕ → Option ListHistory → Option ListHistory → Type 0
ForgetsOne before None new = new ≡ None
ForgetsOne before (Some old) None = ⊥
ForgetsOne before (Some old) (Some new) = (new.now ≡ old.now) × ((v : ℕ) → before ≤ v → found_in new v ≡ found_in old v)
