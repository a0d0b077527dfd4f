-- What was touched since a base, key by key, from the members and the items that the later batches name.
use Rattle.std.proofs.Common.{◌≡◌, ◌≤◌, ◌-◌, ◌+◌, ◌==◌, ◌&&◌, ◌||◌, ℕ, Bool, true, false, cond, List, [], ◌∷◌, ◌++◌, map, flat_map, drop, Option, Some, None, refl, sym, ap, ◌∙◌, arith, eqb-true, filter}
use Rattle.std.specs.List.{list_any}
use Rattle.std.proofs.lemmas.List.{drop-drop, drop-map}
use Rattle.std.proofs.lemmas.List.Folds.{list_any-append, flat_map-map}
use Rattle.std.proofs.lemmas.Grind.{flat_map-append}
use Rattle.std.proofs.Math.Bool.{or-false}
use Rattle.item_model.specs.declared.query.Query.{Query}
use Rattle.item_model.specs.declared.changes.Edit.{Edit}
use Rattle.item_model.specs.declared.changes.Edit.TheVariants.{PutItem, DropItem, PutList, PutRule, DropList, PutMember, DropMember}
use Rattle.item_model.specs.declared.request.Target.TheVariants.{Items, Container}
use Rattle.share_history.specs.Numbers.{first_revision, base_list}
use Rattle.share_history.specs.Keyed.{AreAscending, ascending}
use Rattle.share_history.specs.Histories.{edits, later}
use Rattle.share_history.specs.LastSaid.{Playlist, Plain, Ruled, list_at, member_at}
use Rattle.share_history.specs.Named.{names_item, names_member, named_keys}
use Rattle.share_history.specs.Kept.{names_its_item, touches_in, touches, touched}
use Rattle.share_history.proofs.KeyedFacts.{has}
use Rattle.share_history.proofs.TouchFacts.{touched_are}
use Rattle.item_store.specs.Stands.{named_items}
use Rattle.item_store.proofs.BatchFacts.{among_named}
use Rattle.key_versions.specs.Held.{is_among}
use Rattle.playlist_store.specs.Names.{members_in}
use Rattle.playlist_store.specs.Reads.{is_member, has_item}

-- ---- what the batches after a base name

-- what some batches name in turn is what their edits name
named_edits : {X : Type 0} (said : Edit → List X) (bs : List (List Edit)) → flat_map (λ b. flat_map said b) bs ≡ flat_map said (edits bs)
named_edits said [] = refl
named_edits said (b ∷ bs) = ap (λ xs. flat_map said b ++ xs) (named_edits said bs) ∙ sym (flat_map-append said b (edits bs))

-- of what the batches from `low` on name, the part after a base is what the edits after it name
pub named_later : {N X : Type 0} (names_of : List Edit → N) (part : N → List X) (said : Edit → List X) → ((b : List Edit) → part (names_of b) ≡ flat_map said b)
    → (bs : List (List Edit)) (named : List N) (low base : ℕ) → named ≡ map names_of (drop (low - first_revision) bs) → first_revision ≤ low → low ≤ base
    → flat_map part (drop (base - low) named) ≡ flat_map said (later bs base)
named_later names_of part said each bs named low base is least le =
    ap (λ ns. flat_map part (drop (base - low) ns)) is
    ∙ ap (flat_map part)
    (drop-map names_of (base - low) (drop (low - first_revision) bs)
    ∙ ap (map names_of)
    (drop-drop (base - low) (low - first_revision) bs
    ∙ ap (λ n. drop n bs) (let all : low - first_revision + (base - low) ≡ base - first_revision = omega (arith, least, le) in all)))
    ∙ flat_map-map part names_of (drop (base - first_revision) bs)
    ∙ ap (λ f. flat_map f (drop (base - first_revision) bs)) (λ i b. each b i)
    ∙ named_edits said (drop (base - first_revision) bs)

-- ---- members

one_member : (c k : ℕ) (e : Edit) → list_any (is_member c k) (members_in e) ≡ names_member c k e
one_member c k (PutItem row) = refl
one_member c k (DropItem id) = refl
one_member c k (PutList list name) = refl
one_member c k (PutRule list name rule) = refl
one_member c k (DropList list) = refl
one_member c k (PutMember list member item) = or-false ((list == c) && (member == k))
one_member c k (DropMember list member) = or-false ((list == c) && (member == k))

pub members_named : (c k : ℕ) (es : List Edit) → list_any (is_member c k) (flat_map members_in es) ≡ list_any (names_member c k) es
members_named c k [] = refl
members_named c k (e ∷ es) =
    list_any-append (is_member c k) (members_in e) (flat_map members_in es)
    ∙ ap (λ b. b || list_any (is_member c k) (flat_map members_in es)) (one_member c k e) ∙ ap (λ b. names_member c k e || b) (members_named c k es)

-- ---- items of members

near_item : (near : ℕ → Bool) (own item : ℕ) (b : Bool) → (item == own) ≡ b → near own ≡ true → (near item && b) ≡ b
near_item near own item true is known = ap (λ n. n && true) (ap near (eqb-true item own is) ∙ known)
near_item near own item false is known = never (near item)
  where
    never : (a : Bool) → (a && false) ≡ false
    never true = refl
    never false = refl

no_item : (near : ℕ → Bool) (items : List ℕ) → list_any (λ item. near item && false) items ≡ false
no_item near [] = refl
no_item near (item ∷ items) = never (near item) (no_item near items)
  where
    never : (a : Bool) {b : Bool} → b ≡ false → ((a && false) || b) ≡ false
    never true h = h
    never false h = h

near_items : (near : ℕ → Bool) (own : ℕ) (items : List ℕ) → near own ≡ true → list_any (λ item. near item && (item == own)) items ≡ is_among own items
near_items near own [] known = refl
near_items near own (item ∷ items) known =
    ap (λ b. b || list_any (λ item. near item && (item == own)) items) (near_item near own item (item == own) refl known)
    ∙ ap (λ b. (item == own) || b) (near_items near own items known)

-- some edit names the member's item, if the index has the member under it
pub items_named : (near : ℕ → Bool) (found : Option ℕ) (es : List Edit) → ((item : ℕ) → found ≡ Some item → near item ≡ true)
    → list_any (λ item. near item && has_item found item) (named_items es) ≡ names_its_item found es
items_named near None es known = no_item near (named_items es)
items_named near (Some own) es known = near_items near own (named_items es) (known own refl) ∙ among_named own es

-- ---- the touched keys of a list

module _ (bs : List (List Edit)) (c base : ℕ) (other : (c == base_list) ≡ false) where
  touches_listed : (list : Option Playlist) → list_at (edits bs) c ≡ list → (k : ℕ) → touches (edits bs) (Container c) (later bs base) k ≡ touches_in list (edits bs) c (later bs base) k
  touches_listed list is k =
      ap (λ b. cond b (list_any (names_item k) (later bs base)) (touches_in (list_at (edits bs) c) (edits bs) c (later bs base) k)) other
      ∙ ap (λ l. touches_in l (edits bs) c (later bs base) k) is

  -- those of a rule list are the items
  pub touched_ruled : (name : List ℕ) (rule : Query) → list_at (edits bs) c ≡ Some (Ruled name rule) → touched bs Items base ≡ touched bs (Container c) base
  touched_ruled name rule is = ap (λ test. filter test (ascending (named_keys (edits bs)))) (λ i k. sym (touches_listed (Some (Ruled name rule)) is k) i)

  no_keys : (ks : List ℕ) → filter (λ k. false) ks ≡ []
  no_keys [] = refl
  no_keys (k ∷ ks) = no_keys ks

  -- a list that does not exist has no touched keys
  pub touched_none : list_at (edits bs) c ≡ None → [] ≡ touched bs (Container c) base
  touched_none is = sym (ap (λ test. filter test (ascending (named_keys (edits bs)))) (λ i k. touches_listed None is k i) ∙ no_keys (ascending (named_keys (edits bs))))

  -- those of a plain list are the members that are named, and those whose items are
  pub touched_plain : (name : List ℕ) (near : ℕ → ℕ → Bool) (stands : ℕ → Option ℕ) (ks : List ℕ) → list_at (edits bs) c ≡ Some (Plain name) → AreAscending ks
      → ((k : ℕ) → stands k ≡ member_at (edits bs) c k)
      → ((k item : ℕ) → member_at (edits bs) c k ≡ Some item → near item k ≡ true)
      → ((k : ℕ) → has k ks ≡ (list_any (is_member c k) (flat_map members_in (later bs base)) || list_any (λ item. near item k && has_item (stands k) item) (named_items (later bs base))))
      → ks ≡ touched bs (Container c) base
  touched_plain name near stands ks is sorted now known each =
      touched_are bs (Container c) base ks sorted
      (λ k. each k
      ∙ ap (λ b. b || list_any (λ item. near item k && has_item (stands k) item) (named_items (later bs base))) (members_named c k (later bs base))
      ∙ ap (λ b. list_any (names_member c k) (later bs base) || b)
      (ap (λ found. list_any (λ item. near item k && has_item found item) (named_items (later bs base))) (now k)
      ∙ items_named (λ item. near item k) (member_at (edits bs) c k) (later bs base) (λ item e. known k item e))
      ∙ sym (touches_listed (Some (Plain name)) is k))
