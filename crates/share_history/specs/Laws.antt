-- Laws that follow from the definitions, proved for all histories.
use Rattle.std.specs.Prelude.{◌≡◌, ◌≢◌, ◌<◌, ◌⊎◌, ℕ, List, [], ◌∷◌, ◌++◌, Bool, true, false, ◌==◌, ◌&&◌, Option, Some, None, is_some, is_none, length, option_and_then, if◌then◌else◌}
use Rattle.std.specs.Ordering.{nat_cmp}
use Rattle.std.specs.BTreeMap.{is_at}
use Rattle.std.specs.List.{list_any}
use Rattle.dmap_tags.specs.Tree as tree
use Rattle.dmap_tags.specs.Tree.{Tree, more, tree_list, leaf, U32}
use Rattle.item_model.specs.declared.query.Query.{Query}
use Rattle.item_model.specs.declared.changes.Edit.{Edit}
use Rattle.item_model.specs.declared.changes.Edit.TheVariants.{PutItem, DropItem, PutList, PutRule, DropList, PutMember, DropMember}
use Rattle.item_model.specs.declared.changes.Entry.{Entry}
use Rattle.item_model.specs.declared.changes.Entry.TheVariants.{Login}
use Rattle.item_model.specs.declared.request.Meta.{Meta}
use Rattle.item_model.specs.declared.request.Look.{Look}
use Rattle.item_model.specs.declared.request.Target.{Target}
use Rattle.item_model.specs.declared.request.Target.TheVariants.{Container}
use Rattle.share_history.specs.Numbers.{first_revision, base_list}
use Rattle.share_history.specs.Keyed.{IsAscending, at}
use Rattle.share_history.specs.Histories.{at_revision, batches, edits, later, revision, up_to, opening}
use Rattle.share_history.specs.LastSaid.{Playlist, Plain, Ruled, item_at, list_at, member_at}
use Rattle.share_history.specs.Named.{names_list, names_member}
use Rattle.share_history.specs.Rows.{if_selected, row_at, rows, library, is_there}
use Rattle.share_history.specs.Kept.{is_kept, touches}
use Rattle.share_history.specs.Listings.{Listing, shown_after, delta_listing, full_listing, listing}
use Rattle.share_history.specs.Bodies.{body_tree}
use Rattle.share_history.specs.Sessions.{is_live, next_session}
use Rattle.share_history.specs.Marks.{Marks, is_orderly, marks_after}
use Rattle.share_history.specs.Mirror.{Held, mirror_after, mirrored, mirror_look}

-- the library ascends by id, with each id once
abbrev pub LibraryAscends : Type 0
LibraryAscends = (es : List Edit) → IsAscending (library es)

-- a share opened with a batch has the batch's edits
abbrev pub OpensWithTheBatch : Type 0
OpensWithTheBatch = (es : List Edit) → edits (batches (opening es)) ≡ es

-- the batches of the history at a revision are those up to the revision
abbrev pub BatchesMakeRevisions : Type 0
BatchesMakeRevisions = (h : List Entry) (v : ℕ) → batches (at_revision h v) ≡ up_to (batches h) v

-- right after a put or a drop of a list none of its members exists
abbrev pub ListsBeginWithoutMembers : Type 0
ListsBeginWithoutMembers = (es : List Edit) (e : Edit) (c m : ℕ) → names_list c e ≡ true → member_at (es ++ e ∷ []) c m ≡ None

-- a playlist has no rows right after its put, and a list none right after its drop
abbrev pub ListsBeginEmpty : Type 0
ListsBeginEmpty =
    (es : List Edit) (c : ℕ) (name : List ℕ) (query : Option Query) → (c == base_list) ≡ false
    → (rows (es ++ PutList c name ∷ []) (Container c) query ≡ []) × (rows (es ++ DropList c ∷ []) (Container c) query ≡ [])

abbrev pub is_plain : Option Playlist → Bool
is_plain None = false
is_plain (Some (Plain name)) = true
is_plain (Some (Ruled name rule)) = false

abbrev pub puts_member : ℕ → ℕ → Edit → Bool
puts_member c m (PutItem row) = false
puts_member c m (DropItem id) = false
puts_member c m (PutList list name) = false
puts_member c m (PutRule list name rule) = false
puts_member c m (DropList list) = false
puts_member c m (PutMember list member item) = names_member c m (PutMember list member item)
puts_member c m (DropMember list member) = false

-- a member that is put while no playlist has that id does not exist, whatever follows, until it is put again
abbrev pub MembersNeedAList : Type 0
MembersNeedAList =
    (es ds : List Edit) (c m item : ℕ) → is_plain (list_at es c) ≡ false → list_any (puts_member c m) ds ≡ false
    → is_plain (list_at (es ++ PutMember c m item ∷ ds) c) ≡ true → member_at (es ++ PutMember c m item ∷ ds) c m ≡ None

-- while no edit names a playlist or a member of it, the member's row follows its item: it disappears with the item
-- and comes back with it
abbrev pub MembersFollowTheirItems : Type 0
MembersFollowTheirItems =
    (es ds : List Edit) (c m item : ℕ) (name : List ℕ) (query : Option Query) → (c == base_list) ≡ false
    → list_at es c ≡ Some (Plain name) → member_at es c m ≡ Some item
    → list_any (names_list c) ds ≡ false → list_any (names_member c m) ds ≡ false
    → row_at (es ++ ds) (Container c) query m ≡ option_and_then (if_selected query) (item_at (es ++ ds) item)

-- a base below the first revision or above the present one is outside the delta window
abbrev pub BasesArePast : Type 0
BasesArePast =
    (keep : ℕ) (bs : List (List Edit)) (target : Target) (base : ℕ) → (base < first_revision) ⊎ (revision bs < base) → is_kept keep bs target base ≡ false

-- a revision from before its list existed is outside the delta window
abbrev pub NewTargetsAreNotKept : Type 0
NewTargetsAreNotKept =
    (keep : ℕ) (bs later : List (List Edit)) (target : Target) → is_there (edits bs) target ≡ false → is_there (edits (bs ++ later)) target ≡ true
    → is_kept keep (bs ++ later) target (revision bs) ≡ false

-- a delta from the present revision lists nothing and deletes nothing
abbrev pub NothingChangedSinceNow : Type 0
NothingChangedSinceNow =
    (bs : List (List Edit)) (target : Target) (look : Look) → ((delta_listing bs target look (revision bs)).rows ≡ []) × ((delta_listing bs target look (revision bs)).gone ≡ [])

-- what a request shows under a key after some batches
abbrev pub shown_under : List (List Edit) → Target → Look → ℕ → Option Tree
shown_under bs target look key = at key (shown_after bs target look)

-- under each key a delta lists what is shown at present if that differs from what was shown at the base, else nothing
abbrev pub DeltasListNews : Type 0
DeltasListNews =
    (bs : List (List Edit)) (target : Target) (look : Look) (base key : ℕ)
    → (shown_under bs target look key ≡ shown_under (up_to bs base) target look key → at key (delta_listing bs target look base).rows ≡ None)
    × (shown_under bs target look key ≢ shown_under (up_to bs base) target look key → at key (delta_listing bs target look base).rows ≡ shown_under bs target look key)

-- a delta deletes exactly the keys that showed something at the base and show nothing at present
abbrev pub DeltasDeleteWhatIsGone : Type 0
DeltasDeleteWhatIsGone =
    (bs : List (List Edit)) (target : Target) (look : Look) (base key : ℕ)
    → list_any (is_at (nat_cmp key)) (delta_listing bs target look base).gone ≡ (is_some (shown_under (up_to bs base) target look key) && is_none (shown_under bs target look key))

-- a key that no edit touched since a base in the delta window shows what it showed then
abbrev pub UntouchedStayShown : Type 0
UntouchedStayShown =
    (keep : ℕ) (bs : List (List Edit)) (target : Target) (look : Look) (base key : ℕ)
    → is_kept keep bs target base ≡ true → touches (edits bs) target (later bs base) key ≡ false
    → shown_under bs target look key ≡ shown_under (up_to bs base) target look key

-- whether the row count in a body is the number of rows in its list
abbrev pub tells_its_rows : Tree → Bool
tells_its_rows (tree.list _ (more status (more kind (more revision (more total (more (leaf _ (U32 n)) (more (tree.list _ members) rest))))))) = n == length (tree_list members)
tells_its_rows _ = false

-- in the body of every listing the fifth tag is the number of rows in the sixth
abbrev pub BodiesTellTheirRows : Type 0
BodiesTellTheirRows = (target : Target) (l : Listing) → tells_its_rows (body_tree target l) ≡ true

-- a mirror that held the share's rows at its base holds the share's present rows after the response, whether or not the
-- base is in the delta window
abbrev pub MirrorsFollow : Type 0
MirrorsFollow =
    (keep : ℕ) (bs : List (List Edit)) (target : Target) (query : Option Query) (meta : Meta) (base : ℕ)
    → mirror_after (mirrored (up_to bs base) target query meta) (listing keep bs target (mirror_look query meta base)) ≡ mirrored bs target query meta

-- the same from the revision of the mirror's last response
abbrev pub MirrorsCatchUp : Type 0
MirrorsCatchUp =
    (keep : ℕ) (bs later : List (List Edit)) (target : Target) (query : Option Query) (meta : Meta)
    → mirror_after (mirrored bs target query meta) (listing keep (bs ++ later) target (mirror_look query meta (revision bs))) ≡ mirrored (bs ++ later) target query meta

-- after a full listing every mirror holds what it should, whatever it held
abbrev pub FullListingsSuffice : Type 0
FullListingsSuffice =
    (held : Held) (bs : List (List Edit)) (target : Target) (query : Option Query) (meta : Meta) (base : ℕ)
    → mirror_after held (full_listing bs target (mirror_look query meta base)) ≡ mirrored bs target query meta

-- a login with the next id keeps the ids in order
abbrev pub LoginsStayOrderly : Type 0
LoginsStayOrderly = (h : List Entry) (by : ℕ) → is_orderly 1 h ≡ true → is_orderly 1 (h ++ Login by (next_session h) ∷ []) ≡ true

-- after a response to a live session its last-answered length is the history's length; other live sessions keep
-- theirs, and no other session has one
abbrev pub MarksFollowAnswers : Type 0
MarksFollowAnswers =
    (h : List Entry) (session id : ℕ) (marks : Marks)
    → at id (marks_after h session marks) ≡ (if is_live h id then (if session == id then Some (length h) else at id marks) else None)
