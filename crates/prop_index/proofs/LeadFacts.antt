-- What stands under a text after changes that lead from one library to another.
use Rattle.std.proofs.Common.{◌≡◌, ◌≢◌, ℕ, Bool, true, false, not, cond, ◌&&◌, ◌||◌, ◌==◌, eqb-true, eq-eqb, true≢false, List, [], ◌∷◌, Option, Some, None, option_copied, refl, sym, ap, ap₂, ◌∙◌, subst, ⊎_elim, nat_cmp, is_eq, Less, Equal}
use Rattle.std.specs.Option.{option_map_or}
use Rattle.std.specs.List.{list_any, AllByRecursion}
use Rattle.std.specs.Map.{keys_of}
use Rattle.std.specs.List.Sorted.{IsStrictlySortedBy}
use Rattle.std.specs.Str.{bytes_eq}
use Rattle.std.specs.Cmp.{nat_cmp_total}
use Rattle.std.proofs.lemmas.Bool.{cases_Bool, false_from_ne_true}
use Rattle.std.proofs.lemmas.Cmp.{tied_itself}
use Rattle.std.proofs.lemmas.Slice.Eq.{bytes_eq-Decides}
use Rattle.item_model.specs.declared.item.Row.{Row}
use Rattle.item_model.specs.declared.request.Browse.{Browse}
use Rattle.share_history.specs.Keyed.{at, IsAscending}
use Rattle.share_history.proofs.KeyedFacts.{is_eq-cmp}
use Rattle.share_history.specs.BrowseListings.{is_filled}
use Rattle.prop_index.specs.declared.changes.Turn.{Turn}
use Rattle.prop_index.specs.Forms.{Form, finds, HasTexts}
use Rattle.prop_index.specs.Turns.{TurnsAs, TurnTo}
use Rattle.prop_index.specs.Keys.{key_or_none, HasTextsIfAny, HaveTexts, old_key, new_key, brings, leaves, gives_back}

-- ---- one turn for each id

not_less : (x y : ℕ) → x ≡ y → nat_cmp x y ≢ Less
not_less x y e h = apart (sym (tied_itself nat_cmp_total x) ∙ ap (nat_cmp x) e ∙ h)
  where
    apart : Equal ≢ Less
    apart p = (cc)

abbrev IsOfId : ℕ → (ℕ × Turn → Bool) → Type 0
IsOfId id p = (turn : ℕ × Turn) → p turn ≡ true → (id == turn.0) ≡ true

none_past : (p : ℕ × Turn → Bool) (id : ℕ) (turns : List (ℕ × Turn)) → IsOfId id p
    → AllByRecursion (λ y. nat_cmp id y ≡ Less) (keys_of turns) → list_any p turns ≡ false
none_past p id [] only all = refl
none_past p id (t ∷ turns) only all =
    ap (λ b. b || list_any p turns) (false_from_ne_true (p t) (λ h. not_less id t.0 (eqb-true id t.0 (only t h)) all.0))
    ∙ none_past p id turns only all.1

or_nothing : (b c : Bool) → c ≡ false → (b || c) ≡ b
or_nothing true c h = refl
or_nothing false c h = h

swapped : (q k : ℕ) → (q == k) ≡ is_eq (nat_cmp q k)
swapped q k =
    ⊎_elim
    (λ (h : (q == k) ≡ true). h ∙ sym (is_eq-cmp q k ∙ eq-eqb k q (sym (eqb-true q k h))))
    (λ (h : (q == k) ≡ false). h ∙ sym (is_eq-cmp q k ∙ false_from_ne_true (k == q) (λ e. true≢false (sym (eq-eqb q k (sym (eqb-true k q e))) ∙ h))))
    (cases_Bool (q == k))

-- of turns with ascending ids, one passes a test of the id only if the one of the id does
pub any_at : (p : ℕ × Turn → Bool) (id : ℕ) (turns : List (ℕ × Turn)) → IsOfId id p → IsAscending turns
    → list_any p turns ≡ option_map_or (λ turn. p (id, turn)) (at id turns) false
unfolding IsStrictlySortedBy
any_at p id [] only rising = refl
any_at p id (t ∷ turns) only rising =
    ⊎_elim
    (λ (h : (id == t.0) ≡ true).
    let same : t.0 ≡ id = sym (eqb-true id t.0 h) in
    or_nothing (p t) (list_any p turns) (none_past p id turns only (subst (λ k. AllByRecursion (λ y. nat_cmp k y ≡ Less) (keys_of turns)) same rising.0))
    ∙ ap (λ k. p (k, t.1)) same ∙ sym (ap (option_by t) (sym (swapped id t.0) ∙ h)))
    (λ (h : (id == t.0) ≡ false).
    ap (λ b. b || list_any p turns) (false_from_ne_true (p t) (λ e. true≢false (sym (only t e) ∙ h)))
    ∙ any_at p id turns only rising.1 ∙ sym (ap (option_by t) (sym (swapped id t.0) ∙ h)))
    (cases_Bool (id == t.0))
  where
    option_by : ℕ × Turn → Bool → Bool
    option_by t b = option_map_or (λ turn. p (id, turn)) (cond b (Some t.1) (at id turns)) false

-- what all turns have, the one of an id has
pub all_at : (P : Turn → Type 0) (id : ℕ) (turns : List (ℕ × Turn)) (turn : Turn) → AllByRecursion (λ t. P t.1) turns → at id turns ≡ Some turn → P turn
all_at P id [] turn all is = absurd (cc)
all_at P id (t ∷ turns) turn all is =
    elim (is_eq (nat_cmp id t.0)) as (λ b. cond b (Some t.1) (at id turns) ≡ Some turn → P turn) [
      | true ↦ λ is. subst P (some_same t.1 turn is) all.0
      | false ↦ λ is. all_at P id turns turn all.1 is
    ] is
  where
    some_same : (x y : Turn) → Some x ≡ Some y → x ≡ y
    some_same x y p = (cc)

-- ---- the texts of a row

-- a row is found by a text that is one of its keys
pub found_key : (form : Form) (browse : Browse) (text : List ℕ) (row : Option Row)
    → option_map_or (finds form browse text) row false ≡ (is_filled text && bytes_eq (key_or_none form browse row) text)
found_key form browse [] None = refl
found_key form browse (b ∷ text) None = refl
found_key form browse text (Some row) = refl

filled_alike : (key text : List ℕ) (is_id : Bool) → is_id ≡ true → (is_filled key && (bytes_eq key text && is_id)) ≡ (is_filled text && bytes_eq key text)
filled_alike key text is_id h =
    ⊎_elim
    (λ (e : bytes_eq key text ≡ true).
    ap (λ b. is_filled key && (b && is_id)) e ∙ ap (λ b. is_filled key && b) h ∙ ap (λ t. is_filled t && true) ((bytes_eq-Decides key text).0 e)
    ∙ ap (λ b. is_filled text && b) (sym e))
    (λ (e : bytes_eq key text ≡ false).
    ap (λ b. is_filled key && (b && is_id)) e ∙ none_of (is_filled key) ∙ sym (none_of (is_filled text)) ∙ ap (λ b. is_filled text && b) (sym e))
    (cases_Bool (bytes_eq key text))
  where
    none_of : (b : Bool) → (b && false) ≡ false
    none_of true = refl
    none_of false = refl

-- ---- put and settled, or put in part and taken back

settled : (filled old new : Bool) → (((filled && old) || (filled && new)) && not (old && not new)) ≡ (filled && new)
settled true true true = refl
settled true true false = refl
settled true false true = refl
settled true false false = refl
settled false old new = refl

taken_back : (filled old new now : Bool) → ((filled && old) ≡ true → now ≡ true) → (now ≡ true → ((filled && old) || (filled && new)) ≡ true)
    → (now && not (new && not old)) ≡ (filled && old)
taken_back true true true now kept only = ap (λ b. b && true) (kept refl)
taken_back true true false now kept only = ap (λ b. b && true) (kept refl)
taken_back true false true true kept only = refl
taken_back true false true false kept only = refl
taken_back true false false true kept only = absurd (true≢false (sym (only refl)))
taken_back true false false false kept only = refl
taken_back false old new true kept only = absurd (true≢false (sym (only refl)))
taken_back false old new false kept only = refl

stays : (before : Bool) → ((before || false) && not false) ≡ before
stays true = refl
stays false = refl

stays_back : (before now : Bool) → (before ≡ true → now ≡ true) → (now ≡ true → (before || false) ≡ true) → (now && not false) ≡ before
stays_back true now kept only = ap (λ b. b && true) (kept refl)
stays_back false true kept only = absurd (true≢false (sym (only refl)))
stays_back false false kept only = refl

-- one turn of many is settled
pub settled_one : (held gone kept rest : Bool) → ((held && (not gone || kept)) && not rest) ≡ (held && not ((gone && not kept) || rest))
settled_one false gone kept rest = refl
settled_one true false kept rest = refl
settled_one true true true rest = refl
settled_one true true false rest = refl

-- ---- the whole index

its_id : (b c : Bool) → (b && c) ≡ true → c ≡ true
its_id true c h = h
its_id false c h = absurd (true≢false (sym h))

first_of_both : (b c : Bool) → (b && c) ≡ true → b ≡ true
first_of_both true c h = refl
first_of_both false c h = h

same_id : (id : ℕ) → (id == id) ≡ true
same_id id = eq-eqb id id refl

module _ (rows later : List (ℕ × Row)) (turns : List (ℕ × Turn)) (leads : TurnTo rows later turns) (browse : Browse) (form : Form) (text : List ℕ) (id : ℕ) where
  abbrev by_key : List ℕ → Bool
  by_key key = bytes_eq key text

  -- whether the text is the id's key in some rows
  abbrev keyed : List (ℕ × Row) → Bool
  keyed rs = by_key (key_or_none form browse (at id rs))

  brings_at : list_any (brings browse form text id) turns ≡ option_map_or (λ turn. brings browse form text id (id, turn)) (at id turns) false
  brings_at =
      any_at (brings browse form text id) id turns
      (λ t h. its_id (by_key (new_key form browse t.1)) (id == t.0) (its_id (is_filled (new_key form browse t.1)) _ h)) leads.ascending

  leaves_at : list_any (leaves browse form text id) turns ≡ option_map_or (λ turn. leaves browse form text id (id, turn)) (at id turns) false
  leaves_at =
      any_at (leaves browse form text id) id turns
      (λ t h. its_id (by_key (old_key form browse t.1)) (id == t.0) (first_of_both _ (not (by_key (new_key form browse t.1))) h)) leads.ascending

  gives_back_at : list_any (gives_back browse form text id) turns ≡ option_map_or (λ turn. gives_back browse form text id (id, turn)) (at id turns) false
  gives_back_at =
      any_at (gives_back browse form text id) id turns
      (λ t h. its_id (by_key (new_key form browse t.1)) (id == t.0) (first_of_both _ (not (by_key (old_key form browse t.1))) h)) leads.ascending

  abbrev found_in : List (ℕ × Row) → Bool
  found_in rs = option_map_or (finds form browse text) (at id rs) false

  -- the tests of the id's turn, with the rows' keys for those of the turn
  module _ (turn : Turn) (is : at id turns ≡ Some turn) where
    turned : TurnsAs (Some turn) (at id rows) (at id later)
    turned = subst (λ o. TurnsAs o (at id rows) (at id later)) is (leads.each id)

    old_is : by_key (old_key form browse turn) ≡ keyed rows
    old_is = ap (λ row. by_key (key_or_none form browse row)) (sym turned.0)

    new_is : by_key (new_key form browse turn) ≡ keyed later
    new_is = ap (λ row. by_key (key_or_none form browse row)) (sym turned.1)

    brings_is : brings browse form text id (id, turn) ≡ (is_filled text && keyed later)
    brings_is = filled_alike (new_key form browse turn) text (id == id) (same_id id) ∙ ap (λ b. is_filled text && b) new_is

    apart : (old new : Bool) → ((old && (id == id)) && not new) ≡ (old && not new)
    apart old new = ap (λ b. (old && b) && not new) (same_id id) ∙ ap (λ b. b && not new) (and_true old)
      where
        and_true : (b : Bool) → (b && true) ≡ b
        and_true true = refl
        and_true false = refl

    leaves_is : leaves browse form text id (id, turn) ≡ (keyed rows && not (keyed later))
    leaves_is = apart _ _ ∙ ap₂ (λ b c. b && not c) old_is new_is

    gives_back_is : gives_back browse form text id (id, turn) ≡ (keyed later && not (keyed rows))
    gives_back_is = apart _ _ ∙ ap₂ (λ b c. b && not c) new_is old_is

  -- what was put and settled is found by the later rows
  pub found_later : (before between now : Bool) → before ≡ found_in rows → between ≡ (before || list_any (brings browse form text id) turns)
      → now ≡ (between && not (list_any (leaves browse form text id) turns)) → now ≡ found_in later
  found_later before between now was put settled_now =
      settled_now ∙ ap (λ b. b && not (list_any (leaves browse form text id) turns)) put
      ∙ ap₂ (λ b c. (before || b) && not c) brings_at leaves_at
      ∙ elim (at id turns) as (λ o. at id turns ≡ o → ((before || option_map_or (λ turn. brings browse form text id (id, turn)) o false) && not (option_map_or (λ turn. leaves browse form text id (id, turn)) o false)) ≡ found_in later) [
        | None ↦ λ is. stays before ∙ was ∙ sym (ap (λ r. option_map_or (finds form browse text) r false) (subst (λ o. TurnsAs o (at id rows) (at id later)) is (leads.each id)))
        | Some turn ↦ λ is.
            ap (λ b. (b || brings browse form text id (id, turn)) && not (leaves browse form text id (id, turn))) (was ∙ found_key form browse text (at id rows))
            ∙ ap₂ (λ b c. ((is_filled text && keyed rows) || b) && not c) (brings_is turn is) (leaves_is turn is)
            ∙ settled (is_filled text) (keyed rows) (keyed later)
            ∙ sym (found_key form browse text (at id later))
      ] refl

  -- what was put in part and taken back is found by the rows before
  pub found_before : (before between now : Bool) → before ≡ found_in rows → (before ≡ true → between ≡ true)
      → (between ≡ true → (before || list_any (brings browse form text id) turns) ≡ true)
      → now ≡ (between && not (list_any (gives_back browse form text id) turns)) → now ≡ found_in rows
  found_before before between now was kept only back =
      back ∙ ap (λ b. between && not b) gives_back_at
      ∙ elim (at id turns) as (λ o. at id turns ≡ o → (between && not (option_map_or (λ turn. gives_back browse form text id (id, turn)) o false)) ≡ found_in rows) [
        | None ↦ λ is.
            stays_back before between kept
            (λ h. ap (λ b. before || b) (sym (brings_at ∙ ap (λ o. option_map_or (λ turn. brings browse form text id (id, turn)) o false) is)) ∙ only h)
            ∙ was
        | Some turn ↦ λ is.
            let o = is_filled text && keyed rows in
            let was_old : before ≡ o = was ∙ found_key form browse text (at id rows) in
            ap (λ b. between && not b) (gives_back_is turn is)
            ∙ taken_back (is_filled text) (keyed rows) (keyed later) between
            (λ h. kept (was_old ∙ h))
            (λ h. sym (ap (λ b. b || list_any (brings browse form text id) turns) was_old
            ∙ ap (λ b. o || b) (brings_at ∙ ap (λ p. option_map_or (λ turn. brings browse form text id (id, turn)) p false) is ∙ brings_is turn is)) ∙ only h)
            ∙ sym (found_key form browse text (at id rows))
      ] refl

-- the later rows have their texts as texts
pub later_texts : (rows later : List (ℕ × Row)) (turns : List (ℕ × Turn)) → TurnTo rows later turns → HaveTexts turns
    → ((id : ℕ) (row : Row) → at id rows ≡ Some row → HasTexts row) → (id : ℕ) (row : Row) → at id later ≡ Some row → HasTexts row
later_texts rows later turns leads have texts id row is =
    elim (at id turns) as (λ o. at id turns ≡ o → TurnsAs o (at id rows) (at id later) → HasTexts row) [
      | None ↦ λ none turned. texts id row (sym turned ∙ is)
      | Some turn ↦ λ some turned.
          subst HasTextsIfAny (sym turned.1 ∙ is) (all_at (λ turn. HasTextsIfAny (option_copied turn.new)) id turns turn have some)
    ] refl (leads.each id)
