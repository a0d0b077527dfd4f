-- The entries of containers: what they are, that they are short, and how many there are.
use Rattle.std.proofs.Common.{◌≡◌, ◌≤◌, ◌<◌, ◌+◌, ℕ, Bool, true, false, cond, ◌==◌, get_or, drop, List, [], ◌∷◌, ◌++◌, length, map, Option, Some, None, is_some, unwrap_or, IfSome, All, zero, suc, refl, sym, ap, ◌∙◌, subst, append-nil, true≢false, length-append, arith, nat_le, eqb-true, flat_map}
use Rattle.std.specs.List.{AllByRecursion, cons_option}
use Rattle.std.specs.Prelude.{filter_map}
use Rattle.std.specs.Map.{keys_of}
use Rattle.std.specs.Option.{option_map, option_map_or, option_or, option_to_list}
use Rattle.std.proofs.lemmas.Bool.{and_parts, leb-true}
use Rattle.std.proofs.lemmas.List.Elements.{All-cons}
use Rattle.std.proofs.lemmas.List.{length-map}
use Rattle.std.proofs.lemmas.Option.{none-some}
use Rattle.dmap_tags.specs.Codes.{code}
use Rattle.dmap_tags.specs.Tree.{Tree, leaf, trees_of, U8, U32, Text}
use Rattle.dmap_tags.specs.Spelling.{spelling, spellings}
use Rattle.item_model.specs.declared.changes.Edit.{Edit}
use Rattle.item_model.specs.declared.changes.Edit.TheVariants.{PutItem, DropItem, PutList, PutRule, DropList, PutMember, DropMember}
use Rattle.item_model.specs.declared.request.Target.TheVariants.{Container}
use Rattle.item_model.specs.Valid.{IsValid, AreValid, is_list_id}
use Rattle.share_history.specs.Databases.{entry_tag, database_tag, container_tag, container_tags, list_tag}
use Rattle.share_history.specs.Keyed.{ascending, pairs_at}
use Rattle.share_history.specs.LastSaid.{Playlist, Plain, Ruled, last_said, says_list, list_at, only_if}
use Rattle.share_history.specs.Named.{named_lists}
use Rattle.share_history.specs.Rows.{rows, library, lists}
use Rattle.share_history.proofs.EditFacts.{drop_more}
use Rattle.share_history.proofs.FoldFacts.{found_next}
use Rattle.share_history.proofs.RowFacts.{length-rows}
use Rattle.item_model.specs.declared.item.Row.{Row}
use Rattle.playlist_store.specs.declared.head.ListHead.{ListHead}
use Rattle.listing_plan.proofs.Spelled.{spellings_append, framed_length, more_length}
use Rattle.playlist_store.specs.declared.head.Member.{Member}
use Rattle.playlist_store.specs.Words.{head_of, pair_of}
use Rattle.share_core.specs.Short.{IsShort, AreShort}
use Rattle.share_core.specs.Entries.{entry_with, entry_at}

-- ---- names

abbrev pub name_of : Playlist → List ℕ
name_of (Plain name) = name
name_of (Ruled name rule) = name

-- a list that is said to be there has a short name
abbrev IsNamed : Option Playlist → Type 0
IsNamed None = Unit {0}
IsNamed (Some found) = length (name_of found) ≤ 255

abbrev SaysName : Option (Option Playlist) → Type 0
SaysName None = Unit {0}
SaysName (Some found) = IsNamed found

if_said : (b : Bool) (found : Option Playlist) → IsNamed found → SaysName (only_if b found)
if_said true found h = h
if_said false found h = tt

said_name : (c : ℕ) (e : Edit) → IsValid e → SaysName (says_list c e)
said_name c (PutItem row) valid = tt
said_name c (DropItem id) valid = tt
said_name c (PutList list name) valid = if_said (list == c) (Some (Plain name)) (leb-true _ _ (and_parts _ _ valid).1)
said_name c (PutRule list name rule) valid = if_said (list == c) (Some (Ruled name rule)) (leb-true _ _ (and_parts _ _ (and_parts _ _ valid).1).0)
said_name c (DropList list) valid = if_said (list == c) None tt
said_name c (PutMember list member item) valid = tt
said_name c (DropMember list member) valid = tt

later_name : (later now : Option (Option Playlist)) → SaysName later → SaysName now → SaysName (option_or later now)
later_name None now h k = k
later_name (Some found) now h k = h

last_name : (c : ℕ) (es : List Edit) → AreValid es → SaysName (last_said (says_list c) es)
last_name c [] valid = tt
last_name c (e ∷ es) valid =
    later_name (last_said (says_list c) es) (says_list c e) (last_name c es (λ k d lt. valid (suc k) d (omega (arith, lt)))) (said_name c e (valid zero e (omega arith)))

found_name : (content : Option (Option Playlist)) → SaysName content → IsNamed (unwrap_or content None)
found_name None h = tt
found_name (Some found) h = h

short_name : (es : List Edit) (c : ℕ) → AreValid es → IsNamed (list_at es c)
short_name es c valid = found_name (last_said (says_list c) es) (last_name c es valid)

-- ---- entries are short

two_marks : (id : ℕ) (name : List ℕ) (mark : List Tree) (count : ℕ) → length name ≤ 255 → length (spellings (trees_of mark)) ≤ 9
    → IsShort (entry_tag (leaf (code "miid") (U32 id) ∷ leaf (code "minm") (Text name) ∷ (mark ++ leaf (code "mimc") (U32 count) ∷ [])))
two_marks id name mark count short few =
    let last : List Tree = leaf (code "mimc") (U32 count) ∷ [] in
    let named : List Tree = leaf (code "minm") (Text name) ∷ (mark ++ last) in
    omega (
      arith,
      framed_length (code "mlit") (spellings (trees_of (leaf (code "miid") (U32 id) ∷ named))),
      more_length (leaf (code "miid") (U32 id)) (trees_of named),
      more_length (leaf (code "minm") (Text name)) (trees_of (mark ++ last)),
      framed_length (code "minm") name,
      ap length (spellings_append mark last),
      length-append (spellings (trees_of mark)) (spellings (trees_of last)),
      short,
      few,
    )

list_short : (es : List Edit) (id : ℕ) (found : Playlist) → IsNamed (Some found) → IsShort (list_tag es (id, found))
list_short es id (Plain name) short = two_marks id name [] (length (rows es (Container id) None)) short (omega arith)
list_short es id (Ruled name rule) short = two_marks id name (leaf (code "aeSP") (U8 1) ∷ []) (length (rows es (Container id) None)) short (omega arith)

lists_short : (es : List Edit) (ids : List ℕ) → AreValid es → AreShort (map (list_tag es) (pairs_at (list_at es) ids))
lists_short es [] valid = tt
lists_short es (id ∷ ids) valid =
    (elim (list_at es id) as (λ (o : Option Playlist). IsNamed o → AreShort (map (list_tag es) (cons_option (option_map (λ found. (id, found)) o) (pairs_at (list_at es) ids)))) [
      | None ↦ λ named. lists_short es ids valid
      | Some found ↦ λ named. (list_short es id found named, lists_short es ids valid)
    ]) (short_name es id valid)

pub containers_short : (name : List ℕ) (es : List Edit) (tags : List Tree) → tags ≡ container_tags name es → AreValid es → length name ≤ 255 → AreShort tags
containers_short name es tags is valid short =
    subst AreShort (sym is)
    (two_marks 1 name (leaf (code "abpl") (U8 1) ∷ []) (length (rows es (Container 1) None)) short (omega arith), lists_short es (ascending (named_lists es)) valid)

pub databases_short : (name : List ℕ) (es : List Edit) (items containers : ℕ) → length name ≤ 255
    → IsShort (entry_tag (leaf (code "miid") (U32 1) ∷ leaf (code "minm") (Text name) ∷ leaf (code "mimc") (U32 items) ∷ leaf (code "mctc") (U32 containers) ∷ []))
databases_short name es items containers short =
    let last : List Tree = leaf (code "mimc") (U32 items) ∷ leaf (code "mctc") (U32 containers) ∷ [] in
    let named : List Tree = leaf (code "minm") (Text name) ∷ last in
    omega (
      arith,
      framed_length (code "mlit") (spellings (trees_of (leaf (code "miid") (U32 1) ∷ named))),
      more_length (leaf (code "miid") (U32 1)) (trees_of named),
      more_length (leaf (code "minm") (Text name)) (trees_of last),
      framed_length (code "minm") name,
      short,
    )

-- ---- the entries of the lists that are there

entries_by : (es : List Edit) (ids : List ℕ) → filter_map (entry_at es) (keys_of (pairs_at (list_at es) ids)) ≡ map (list_tag es) (pairs_at (list_at es) ids)
entries_by es [] = refl
entries_by es (id ∷ ids) =
    (elim (list_at es id) as (λ (o : Option Playlist). list_at es id ≡ o
    → filter_map (entry_at es) (keys_of (cons_option (option_map (λ found. (id, found)) o) (pairs_at (list_at es) ids)))
    ≡ map (list_tag es) (cons_option (option_map (λ found. (id, found)) o) (pairs_at (list_at es) ids))) [
      | None ↦ λ is. entries_by es ids
      | Some found ↦ λ is.
          ap (λ o. cons_option (option_map (λ one. list_tag es (id, one)) o) (filter_map (entry_at es) (keys_of (pairs_at (list_at es) ids)))) is
          ∙ ap (λ tags. list_tag es (id, found) ∷ tags) (entries_by es ids)
    ]) refl

pub entries_are : (es : List Edit) → filter_map (entry_at es) (keys_of (lists es)) ≡ map (list_tag es) (lists es)
entries_are es = entries_by es (ascending (named_lists es))

-- the entry of a list that exists
pub entry_told : (es : List Edit) (id : ℕ) (head : ListHead) (count : ℕ) (found : Option Playlist) → list_at es id ≡ found → Some head ≡ option_map head_of found
    → (is_some (list_at es id) ≡ true → count ≡ length (rows es (Container id) None)) → Some (entry_with id head count) ≡ entry_at es id
entry_told es id head count None is told counted = absurd (cc)
entry_told es id head count (Some (Plain name)) is told counted =
    (λ i. Some (entry_with id (head_is i) (counted (ap is_some is) i))) ∙ sym (ap (option_map (λ list. list_tag es (id, list))) is)
  where
    head_is : head ≡ head_of (Plain name)
    head_is = ap (λ o. unwrap_or o head) told
entry_told es id head count (Some (Ruled name rule)) is told counted =
    (λ i. Some (entry_with id (head_is i) (counted (ap is_some is) i))) ∙ sym (ap (option_map (λ list. list_tag es (id, list))) is)
  where
    head_is : head ≡ head_of (Ruled name rule)
    head_is = ap (λ o. unwrap_or o head) told

pub no_entry : (es : List Edit) (id : ℕ) (found : Option Playlist) → list_at es id ≡ found → None ≡ option_map head_of found → entry_at es id ≡ None
no_entry es id None is told = ap (option_map (λ list. list_tag es (id, list))) is
no_entry es id (Some found) is told = absurd (none-some (head_of found) told)

-- ---- container 1 is not a list

not_one : (n : ℕ) (b : Bool) → (n == 1) ≡ b → is_list_id n ≡ true → b ≡ false
not_one n true is id = absurd (omega (arith, eqb-true n 1 is, leb-true 2 n (and_parts _ _ id).0))
not_one n false is id = refl

-- a valid edit says nothing of container 1
says_nothing : (e : Edit) → IsValid e → says_list 1 e ≡ None
says_nothing (PutItem row) valid = refl
says_nothing (DropItem id) valid = refl
says_nothing (PutList list name) valid = ap (λ b. only_if b (Some (Plain name))) (not_one list (list == 1) refl (and_parts _ _ valid).0)
says_nothing (PutRule list name rule) valid = ap (λ b. only_if b (Some (Ruled name rule))) (not_one list (list == 1) refl (and_parts _ _ valid).0)
says_nothing (DropList list) valid = ap (λ b. only_if {A = Option Playlist} b None) (not_one list (list == 1) refl valid)
says_nothing (PutMember list member item) valid = refl
says_nothing (DropMember list member) valid = refl

nothing_said : (es : List Edit) → AreValid es → last_said (says_list 1) es ≡ None
nothing_said [] valid = refl
nothing_said (e ∷ es) valid =
    ap (λ o. option_or o (says_list 1 e)) (nothing_said es (λ k d lt. valid (suc k) d (omega (arith, lt)))) ∙ says_nothing e (valid zero e (omega arith))

pub base_is_no_list : (es : List Edit) (id : ℕ) → AreValid es → id ≡ 1 → entry_at es id ≡ None
base_is_no_list es id valid is =
    ap (entry_at es) is ∙ ap (λ o. option_map (λ list. list_tag es (1, list)) (unwrap_or o None)) (nothing_said es valid)

-- ---- how many rows a list has

-- a list has at most as many members as there are edits
pub members_counted : {X : Type 0} (items : X → List Member) (es : List Edit) (id : ℕ) (found : Option X) (o : Option Playlist)
    → option_map (λ members. map pair_of (items members)) found ≡ option_map (λ _. map (λ row. (row.0, row.1.id)) (rows es (Container id) None)) o
    → option_map_or (λ members. length (items members)) found 0 ≤ length es
members_counted items es id None o told = omega arith
members_counted items es id (Some members) None told = absurd (cc)
members_counted items es id (Some members) (Some list) told =
    let same : map pair_of (items members) ≡ map (λ row. (row.0, row.1.id)) (rows es (Container id) None) = ap (λ (found : Option (List (ℕ × ℕ))). unwrap_or found []) told in
    omega (arith, ap length same, length-map (items members) pair_of, length-map {B = ℕ × ℕ} (rows es (Container id) None) (λ (row : ℕ × Row). (row.0, row.1.id)), length-rows es (Container id) None)

pub members_are : {X : Type 0} (items : X → List Member) (es : List Edit) (id : ℕ) (found : Option X) (o : Option Playlist)
    → option_map (λ members. map pair_of (items members)) found ≡ option_map (λ _. map (λ row. (row.0, row.1.id)) (rows es (Container id) None)) o
    → is_some o ≡ true → option_map_or (λ members. length (items members)) found 0 ≡ length (rows es (Container id) None)
members_are items es id found None told there = absurd (true≢false (sym there))
members_are items es id None (Some list) told there = absurd (cc)
members_are items es id (Some members) (Some list) told there =
    let same : map pair_of (items members) ≡ map (λ row. (row.0, row.1.id)) (rows es (Container id) None) = ap (λ (found : Option (List (ℕ × ℕ))). unwrap_or found []) told in
    omega (arith, ap length same, length-map (items members) pair_of, length-map {B = ℕ × ℕ} (rows es (Container id) None) (λ (row : ℕ × Row). (row.0, row.1.id)))

-- ---- the loop over lists

-- container 1 comes first
pub entries_begin : (es : List Edit) (name : List ℕ) (tags old : List Tree) (first : Tree) (ids : List ℕ) → tags ≡ old ++ first ∷ [] → old ≡ []
    → first ≡ container_tag 1 name (leaf (code "abpl") (U8 1) ∷ []) es → ids ≡ keys_of (lists es) → tags ++ filter_map (entry_at es) ids ≡ container_tags name es
entries_begin es name tags old first ids pushed none base are =
    ap (λ ts. ts ++ filter_map (entry_at es) ids) (pushed ∙ (λ i. none i ++ base i ∷ []))
    ∙ ap (λ ts. container_tag 1 name (leaf (code "abpl") (U8 1) ∷ []) es ∷ ts) (ap (filter_map (entry_at es)) are ∙ entries_are es)

pub entries_left : (es : List Edit) (tags new : List Tree) (ids : List ℕ) (i id : ℕ) → i < length ids → id ≡ get_or ids i id → new ≡ tags ++ option_to_list (entry_at es id)
    → new ++ filter_map (entry_at es) (drop (i + 1) ids) ≡ tags ++ filter_map (entry_at es) (drop i ids)
entries_left es tags new ids i id lt is pushed =
    ap (λ ts. ts ++ filter_map (entry_at es) (drop (i + 1) ids)) pushed ∙ found_next tags (entry_at es id) (filter_map (entry_at es) (drop (i + 1) ids))
    ∙ ap (λ ks. tags ++ filter_map (entry_at es) ks) (sym (drop_more ids i id lt is))

-- container 1 and the lists
pub few_containers : (name : List ℕ) (es : List Edit) (tags : List Tree) → tags ≡ container_tags name es → length tags ≡ length (lists es) + 1
few_containers name es tags is = omega (arith, ap length is, length-map (lists es) (list_tag es))

gone : (ids : List ℕ) (i : ℕ) → length ids ≤ i → drop i ids ≡ []
gone [] zero h = refl
gone [] (suc i) h = refl
gone (id ∷ ids) zero h = absurd (omega (arith, h))
gone (id ∷ ids) (suc i) h = gone ids i (omega (arith, h))

pub entries_end : (es : List Edit) (tags target : List Tree) (ids : List ℕ) (i : ℕ) → length ids ≤ i → tags ++ filter_map (entry_at es) (drop i ids) ≡ target → tags ≡ target
entries_end es tags target ids i all is = sym (append-nil tags) ∙ ap (λ ks. tags ++ filter_map (entry_at es) ks) (sym (gone ids i all)) ∙ is
