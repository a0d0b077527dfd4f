-- What a share keeps fits the history that a call leaves.
use Rattle.std.proofs.Common.{◌≡◌, ◌≤◌, ◌<◌, ◌+◌, ◌&&◌, ℕ, true, List, [], ◌∷◌, ◌++◌, length, sym, ap, ◌∙◌, subst, append-nil, length-append, arith}
use Rattle.std.proofs.lemmas.Bool.{and_from, and_parts, le-leb, leb-true, ltb-true}
use Rattle.item_model.specs.declared.changes.Edit.{Edit}
use Rattle.item_model.specs.declared.changes.Entry.{Entry}
use Rattle.item_model.specs.declared.changes.Entry.TheVariants.{Edits}
use Rattle.share_history.specs.Histories.{batches, edits, all_edits, revision}
use Rattle.share_history.specs.Limits.{is_below_entry_limit, has_room_for, has_few_lists, takes_batch}
use Rattle.share_history.specs.Rows as rows
use Rattle.share_history.specs.Whole.{AreWhole, IsWhole}
use Rattle.share_history.proofs.EditFacts.{batches-append, edits_more}
use Rattle.share_history.proofs.SessionFacts.{few_batches}
use Rattle.share_history.proofs.WholeFacts.{whole_batch, whole_begin}
use Rattle.share_replies.specs.Settings.{Settings}
use Rattle.share_core.specs.declared.stores.Stores.{Stores}
use Rattle.share_core.specs.Held.{StandFor, AreHeld, IsSound}

pub sound_on : (s : Settings) (h h' : List Entry) (stores : Stores) → h' ≡ h → IsSound s h stores → IsSound s h' stores
sound_on s h h' stores same sound = subst (λ (l : List Entry). IsSound s l stores) (sym same) sound

-- the stores depend only on batches
held_by : (h h' : List Entry) (stores : Stores) → batches h' ≡ batches h → AreHeld h stores → AreHeld h' stores
held_by h h' stores same held = record {
  stand = subst (λ (bs : List (List Edit)). StandFor bs stores) (sym same) held.stand;
  few_edits = subst (λ (bs : List (List Edit)). length (edits bs) ≤ 262144) (sym same) held.few_edits;
  few_lists = subst (λ (bs : List (List Edit)). length (rows.lists (edits bs)) ≤ 1024) (sym same) held.few_lists;
}

-- an entry that brings no edits
pub sound_quiet : (s : Settings) (h h' : List Entry) (e : Entry) (stores : Stores) → h' ≡ h ++ e ∷ [] → batches (e ∷ []) ≡ [] → IsWhole (h ++ e ∷ []) → IsSound s h stores
    → IsSound s h' stores
sound_quiet s h h' e stores longer quiet whole sound = record {
  whole = subst IsWhole (sym longer) whole;
  held = held_by h h' stores (ap batches longer ∙ batches-append h (e ∷ []) ∙ ap (λ bs. batches h ++ bs) quiet ∙ append-nil (batches h)) sound.held;
  items_keep = sound.items_keep;
  lists_keep = sound.lists_keep;
  short_name = sound.short_name;
}

pub batches_more : (h : List Entry) (by : ℕ) (batch : List Edit) → batches (h ++ Edits by batch ∷ []) ≡ batches h ++ batch ∷ []
batches_more h by batch = batches-append h (Edits by batch ∷ [])

held_more : (h h' : List Entry) (batch : List Edit) (stores stores' : Stores) → batches h' ≡ batches h ++ batch ∷ [] → takes_batch h batch ≡ true
    → StandFor (batches h ++ batch ∷ []) stores' → AreHeld h' stores'
held_more h h' batch stores stores' longer takes stand =
    let limits = (and_parts (is_below_entry_limit h) (has_room_for h (length batch) && has_few_lists h batch) takes).1 in
    let both = and_parts (has_room_for h (length batch)) (has_few_lists h batch) limits in
    let all : edits (batches h') ≡ all_edits h ++ batch = ap edits longer ∙ edits_more (batches h) batch in record {
      stand = subst (λ (bs : List (List Edit)). StandFor bs stores') (sym longer) stand;
      few_edits = omega (arith, ap length all, length-append (all_edits h) batch, leb-true (length (all_edits h) + length batch) 262144 both.0);
      few_lists = subst (λ (es : List Edit). length (rows.lists es) ≤ 1024) (sym all) (leb-true (length (rows.lists (all_edits h ++ batch))) 1024 both.1);
    }

-- a batch within all limits
pub sound_edit : (s : Settings) (h h' : List Entry) (by : ℕ) (batch : List Edit) (stores stores' : Stores) → h' ≡ h ++ Edits by batch ∷ [] → takes_batch h batch ≡ true
    → AreWhole batch → StandFor (batches h ++ batch ∷ []) stores' → stores'.items.keep ≡ stores.items.keep → stores'.lists.keep ≡ stores.lists.keep
    → IsSound s h stores → IsSound s h' stores'
sound_edit s h h' by batch stores stores' longer takes brought stand items lists sound = record {
  whole = subst IsWhole (sym longer) (whole_batch h by batch takes brought sound.whole);
  held = held_more h h' batch stores stores' (ap batches longer ∙ batches_more h by batch) takes stand;
  items_keep = items ∙ sound.items_keep;
  lists_keep = lists ∙ sound.lists_keep;
  short_name = sound.short_name;
}

-- stores that applied nothing represent the same as before
pub sound_left : (s : Settings) (h : List Entry) (stores stores' : Stores) → ((bs : List (List Edit)) → StandFor bs stores → StandFor bs stores')
    → stores'.items.keep ≡ stores.items.keep → stores'.lists.keep ≡ stores.lists.keep → IsSound s h stores → IsSound s h stores'
sound_left s h stores stores' left items lists sound = record {
  whole = sound.whole;
  held = record { stand = left (batches h) sound.held.stand; few_edits = sound.held.few_edits; few_lists = sound.held.few_lists };
  items_keep = items ∙ sound.items_keep;
  lists_keep = lists ∙ sound.lists_keep;
  short_name = sound.short_name;
}

-- ---- the beginning

pub sound_empty : (s : Settings) (h : List Entry) (stores : Stores) → h ≡ [] → StandFor [] stores → stores.items.keep ≡ s.keep → stores.lists.keep ≡ s.keep → length s.name ≤ 255 → IsSound s h stores
sound_empty s h stores none stand items_keep lists_keep short = sound_on s [] h stores none (record {
  held = record { stand = stand; few_edits = omega arith; few_lists = omega arith };
  whole = whole_begin;
  items_keep = items_keep;
  lists_keep = lists_keep;
  short_name = short;
})

-- a batch within all limits is taken
pub taken : (h : List Entry) (batch : List Edit) → is_below_entry_limit h ≡ true → has_room_for h (length batch) ≡ true → has_few_lists h batch ≡ true → takes_batch h batch ≡ true
taken h batch place room few = and_from (is_below_entry_limit h) (has_room_for h (length batch) && has_few_lists h batch) place (and_from (has_room_for h (length batch)) (has_few_lists h batch) room few)

-- the lists that are counted after the edits of a batch are those that it leaves
pub few_lists_by : (h : List Entry) (batch es : List Edit) (count : ℕ) → es ≡ batch → count ≡ length (rows.lists (edits (batches h) ++ es)) → count ≤ 1024 → has_few_lists h batch ≡ true
few_lists_by h batch es count same counted few =
    le-leb _ _ (let now = counted ∙ ap (λ l. length (rows.lists (all_edits h ++ l))) same in omega (arith, now, few))

-- a history below the entry limit has few revisions
pub few_next_at : (h : List Entry) → is_below_entry_limit h ≡ true → revision (batches h) + 1 < 4294967296
few_next_at h place = omega (arith, few_batches h, ltb-true _ _ place)

-- so has one that takes a batch
pub few_next : (h : List Entry) (batch : List Edit) → takes_batch h batch ≡ true → revision (batches h) + 1 < 4294967296
few_next h batch takes = few_next_at h (and_parts (is_below_entry_limit h) (has_room_for h (length batch) && has_few_lists h batch) takes).0
