-- The batches of a rehearsal: their edits are valid and few.
use Rattle.std.proofs.Common.{◌≡◌, ◌<◌, ◌≤◌, ◌^◌, ℕ, zero, suc, ◌+◌, ◌*◌, ◌%◌, ◌==◌, ◌&&◌, nat_le, nat_lt, List, [], ◌∷◌, ◌++◌, Bool, true, false, cond, map, take, length, refl, sym, ap, subst, ◌∙◌, arith, length-append, le-leb, lt-ltb}
use Rattle.std.specs.List.{range_with_len}
use Rattle.std.proofs.lemmas.List.FromFn.{length-map-range_with_len, take-map-range_with_len, map-range_with_len_more}
use Rattle.item_model.specs.declared.changes.Edit.{Edit}
use Rattle.item_model.specs.declared.changes.Edit.TheVariants.{PutItem, DropItem}
use Rattle.item_model.specs.declared.changes.Entry.TheVariants.{Edits}
use Rattle.item_model.specs.Valid.{AreValid, is_id, is_valid}
use Rattle.share_history.specs.Histories.{batches, edits}
use Rattle.rehearsal.specs.Draws.{next, drawn, draw, state}
use Rattle.rehearsal.specs.Edits.{row_by, edit_by, edit_at, edits_from, rehearsed}
use Rattle.rehearsal.proofs.DrawFacts.{state_more}
use Rattle.rehearsal.specs.Histories.{history_of}
use Rattle.rehearsal.specs.Made.{IsMade, AreMade}

-- ---- made edits

small_draw : (number n : ℕ) → draw number (n + 1) < 65536
small_draw number n = subst (λ x. drawn x < 65536) (sym (state_more number n)) (below (state number n))
  where
    below : (x : ℕ) → drawn (next x) < 65536
    below x = omega arith

second_draw : (number place : ℕ) → draw number (3 * place + 2) < 65536
second_draw number place =
    let two : 3 * place + 1 + 1 ≡ 3 * place + 2 = omega arith in
    subst (λ n. draw number n < 65536) two (small_draw number (3 * place + 1))

made_at : (number place : ℕ) → IsMade (edit_at number place)
made_at number place =
    by_draws (draw number (3 * place + 1)) (draw number (3 * place + 2)) (draw number (3 * place + 3)) (second_draw number place)
  where
    by_draws : (a b c : ℕ) → b < 65536 → IsMade (edit_by a b c)
    by_draws a b c small = record { id = 1 + a % 4096; b = b; c = c; is = refl; from = omega arith; to = omega arith; named = small }

made_range : (number place size : ℕ) → AreMade (edits_from number place size)
made_range number place zero = tt
made_range number place (suc size) = (made_at number place, made_range number (place + 1) size)

made_append : (xs ys : List Edit) → AreMade xs → AreMade ys → AreMade (xs ++ ys)
made_append [] ys h k = k
made_append (x ∷ xs) ys h k = (h.0, made_append xs ys h.1 k)

made_batches : (number size from count : ℕ) → AreMade (edits (map (λ n. edits_from number (n * size) size) (range_with_len from count)))
made_batches number size from zero = tt
made_batches number size from (suc count) =
    made_append (edits_from number (from * size) size) (edits (map (λ n. edits_from number (n * size) size) (range_with_len (from + 1) count))) (made_range number (from * size) size) (made_batches number size (from + 1) count)

pub rehearsed_made : (number count size : ℕ) → AreMade (edits (rehearsed number count size))
rehearsed_made number count size = made_batches number size 0 count

-- ---- how many there are

count_batches : (number size from count : ℕ) → length (edits (map (λ n. edits_from number (n * size) size) (range_with_len from count))) ≡ count * size
count_batches number size from zero = zero_times size
  where
    zero_times : (n : ℕ) → 0 ≡ 0 * n
    zero_times n = omega arith
count_batches number size from (suc count) =
    length-append (edits_from number (from * size) size) (edits (map (λ n. edits_from number (n * size) size) (range_with_len (from + 1) count)))
    ∙ (λ i. length-map-range_with_len (edit_at number) (from * size) size i + count_batches number size (from + 1) count i)
    ∙ one_more size count
  where
    one_more : (n k : ℕ) → n + k * n ≡ suc k * n
    one_more n k = omega arith

pub rehearsed_edits : (number count size : ℕ) → length (edits (rehearsed number count size)) ≡ count * size
rehearsed_edits number count size = count_batches number size 0 count

pub rehearsed_batches : (number count size : ℕ) → length (rehearsed number count size) ≡ count
rehearsed_batches number count size = length-map-range_with_len (λ n. edits_from number (n * size) size) 0 count

pub rehearsed_more : (number count size : ℕ) → rehearsed number (count + 1) size ≡ rehearsed number count size ++ edits_from number (count * size) size ∷ []
rehearsed_more number count size = map-range_with_len_more (λ n. edits_from number (n * size) size) 0 count count zero_add
  where
    zero_add : 0 + count ≡ count
    zero_add = omega arith

pub rehearsed_front : (number batches size count : ℕ) → count ≤ batches → take count (rehearsed number batches size) ≡ rehearsed number count size
rehearsed_front number batches size count h = take-map-range_with_len (λ n. edits_from number (n * size) size) 0 batches count h

-- ---- they are valid

made_valid : (e : Edit) → IsMade e → is_valid e ≡ true
made_valid e made = subst (λ edit. is_valid edit ≡ true) (sym made.is) (by_test (made.b % 4 == 0))
  where
    fit : is_id made.id ≡ true
    fit = both (nat_le 1 made.id) (nat_lt made.id (2 ^ 32)) (le-leb 1 made.id made.from) (lt-ltb made.id (2 ^ 32) (omega (arith, made.to)))
      where
        both : (a b : Bool) → a ≡ true → b ≡ true → (a && b) ≡ true
        both true b h k = k
        both false b h k = h

    by_test : (t : Bool) → is_valid (cond t (DropItem made.id) (PutItem (row_by made.id made.b made.c))) ≡ true
    by_test true = fit
    by_test false = fit

all_valid : (es : List Edit) → AreMade es → AreValid es
all_valid [] made k d lt = absurd (omega arith)
all_valid (e ∷ es) made zero d lt = made_valid e made.0
all_valid (e ∷ es) made (suc k) d lt = all_valid es made.1 k d (omega arith)

pub batch_valid : (number place size : ℕ) → AreValid (edits_from number place size)
batch_valid number place size = all_valid (edits_from number place size) (made_range number place size)

-- ---- the history

pub batches_again : (bs : List (List Edit)) → batches (history_of bs) ≡ bs
batches_again [] = refl
batches_again (b ∷ bs) = ap (λ l. b ∷ l) (batches_again bs)

pub history_more : (bs : List (List Edit)) (b : List Edit) → history_of (bs ++ b ∷ []) ≡ history_of bs ++ Edits 0 b ∷ []
history_more [] b = refl
history_more (x ∷ bs) b = ap (λ l. Edits 0 x ∷ l) (history_more bs b)
