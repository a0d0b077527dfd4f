-- Stores of a few batches, for tests.
use Rattle.std.proofs.Common.{◌≤◌, ◌+◌, ◌++◌, ℕ, List, [], ◌∷◌, length, length-append, ◌≡◌, ap, sym, ◌∙◌, arith}
use Rattle.std.proofs.lemmas.Grind.{flat_map-append}
use Rattle.item_model.specs.declared.changes.Edit.{Edit}
use Rattle.item_store.specs.Store.{Store}
use Rattle.item_store.specs.Stands.{StandsFor}
use Rattle.share_history.specs.Histories.{edits}
use Rattle.playlist_store.specs.Stands as lists_stand
use Rattle.playlist_store.specs.Store as lists_kept
use Rattle.share_listings.specs.Answers.{HasEdits, HaveEdits, HaveFew}

pub none_yet : (store : Store) → StandsFor [] store → HasEdits 0 store
none_yet store stands = record { bs = []; stands = stands; few = omega arith }

-- a batch more
pub more_edits : (most more : ℕ) (batch : List Edit) (old new : Store) → HasEdits most old → length batch ≤ more
    → ((bs : List (List Edit)) → StandsFor bs old → StandsFor (bs ++ batch ∷ []) new) → HasEdits (most + more) new
more_edits most more batch old new had short stands = record {
  bs = had.bs ++ batch ∷ [];
  stands = stands had.bs had.stands;
  few = omega (arith, ap length (flat_map-append (λ (b : List Edit). b) had.bs (batch ∷ [])), length-append (edits had.bs) (batch ++ []), length-append batch [], had.few, short);
}

-- the same of both stores
pub none_in_both : (items : Store) (lists : lists_kept.Store) → StandsFor [] items → lists_stand.StandsFor [] lists → lists.keep ≡ items.keep → HaveEdits 0 items lists
none_in_both items lists i l same = record { bs = []; of_items = i; of_lists = l; few = omega arith; keep = same }

pub more_in_both : (most more : ℕ) (batch : List Edit) (items items' : Store) (lists lists' : lists_kept.Store) → HaveEdits most items lists → length batch ≤ more
    → ((bs : List (List Edit)) → StandsFor bs items → StandsFor (bs ++ batch ∷ []) items')
    → ((bs : List (List Edit)) → lists_stand.StandsFor bs lists → StandsFor (bs ++ batch ∷ []) items' → lists_stand.StandsFor (bs ++ batch ∷ []) lists')
    → items'.keep ≡ items.keep → lists'.keep ≡ lists.keep → HaveEdits (most + more) items' lists'
more_in_both most more batch items items' lists lists' had short i l same same' =
    let grown = i had.bs had.of_items in
    record {
      bs = had.bs ++ batch ∷ [];
      of_items = grown;
      of_lists = l had.bs had.of_lists grown;
      few = omega (arith, ap length (flat_map-append (λ (b : List Edit). b) had.bs (batch ∷ [])), length-append (edits had.bs) (batch ++ []), length-append batch [], had.few, short);
      keep = same' ∙ had.keep ∙ sym same;
    }

pub still_few_in_both : (most : ℕ) (items : Store) (lists : lists_kept.Store) → HaveEdits most items lists → most ≤ 262144 → HaveFew items lists
still_few_in_both most items lists had h = record { bs = had.bs; of_items = had.of_items; of_lists = had.of_lists; few = omega (arith, had.few, h); keep = had.keep }
