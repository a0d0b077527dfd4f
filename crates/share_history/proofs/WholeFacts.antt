-- Whole histories: a history stays whole with an entry within the limits, and each prefix of a whole history is
-- whole.
use Rattle.std.proofs.Common.{◌≡◌, ◌≤◌, ◌+◌, ◌&&◌, ℕ, List, [], ◌∷◌, ◌++◌, Bool, true, length, count_by, cond, refl, sym, ap, subst, arith, length-append}
use Rattle.std.specs.List.{AllByRecursion}
use Rattle.std.proofs.lemmas.Bool.{and_parts, leb-true, ltb-true}
use Rattle.std.proofs.lemmas.List.Elements.{All-head, All-tail}
use Rattle.std.proofs.lemmas.List.Sums.{sum_by-append, sum_by_push}
use Rattle.item_model.specs.declared.changes.Edit.{Edit}
use Rattle.item_model.specs.declared.changes.Entry.{Entry}
use Rattle.item_model.specs.declared.changes.Entry.TheVariants.{Edits, Login, Logout, Stop}
use Rattle.item_model.specs.Valid.{AreValid, IsValid, is_valid}
use Rattle.share_history.specs.Histories.{all_edits, edits_in}
use Rattle.share_history.specs.Limits.{has_few_lists, is_below_entry_limit, has_room_for, takes_batch, is_limited}
use Rattle.share_history.specs.Whole.{AreWhole, IsWhole, PutsWhole}
use Rattle.share_history.proofs.EditFacts.{all_edits-append, all_edits_more}

-- ---- lists by recursion

pub each_both : {A : Type 0} (P : A → Type 0) (xs ys : List A) → AllByRecursion P xs → AllByRecursion P ys → AllByRecursion P (xs ++ ys)
each_both P [] ys h k = k
each_both P (x ∷ xs) ys h k = (h.0, each_both P xs ys h.1 k)

pub each_front : {A : Type 0} (P : A → Type 0) (xs ys : List A) → AllByRecursion P (xs ++ ys) → AllByRecursion P xs
each_front P [] ys h = tt
each_front P (x ∷ xs) ys h = (h.0, each_front P xs ys h.1)

-- ---- edits

-- valid edits whose rows are whole are whole
pub edits_whole : (es : List Edit) → AreValid es → AllByRecursion PutsWhole es → AreWhole es
edits_whole [] valid puts = tt
edits_whole (e ∷ es) valid puts = ((All-head IsValid e es valid, puts.0), edits_whole es (All-tail IsValid e es valid) puts.1)

-- ---- entries

pub whole_begin : IsWhole []
whole_begin = record { edits = tt; few_edits = omega arith; few_entries = omega arith }

whole_more : (h : List Entry) (e : Entry) → IsWhole h → AreWhole (edits_in e) → length (all_edits h) + length (edits_in e) ≤ 262144
    → count_by is_limited h + cond (is_limited e) 1 0 ≤ 1048576 → IsWhole (h ++ e ∷ [])
whole_more h e whole brought few places = record {
  edits = subst AreWhole (sym (all_edits_more h e)) (each_both (λ d. (is_valid d ≡ true) × PutsWhole d) (all_edits h) (edits_in e) whole.edits brought);
  few_edits = omega (arith, few, ap length (all_edits_more h e), length-append (all_edits h) (edits_in e));
  few_entries = omega (arith, places, sum_by_push (λ x. cond (is_limited x) 1 0) h e);
}

pub whole_login : (h : List Entry) (by id : ℕ) → is_below_entry_limit h ≡ true → IsWhole h → IsWhole (h ++ Login by id ∷ [])
whole_login h by id place whole =
    let few = whole.few_edits in
    let places = ltb-true (count_by is_limited h) 1048576 place in
    whole_more h (Login by id) whole tt (omega (arith, few)) (omega (arith, places))

pub whole_logout : (h : List Entry) (by id : ℕ) → IsWhole h → IsWhole (h ++ Logout by id ∷ [])
whole_logout h by id whole =
    let few = whole.few_edits in
    let places = whole.few_entries in
    whole_more h (Logout by id) whole tt (omega (arith, few)) (omega (arith, places))

pub whole_stop : (h : List Entry) (by : ℕ) → IsWhole h → IsWhole (h ++ Stop by ∷ [])
whole_stop h by whole =
    let few = whole.few_edits in
    let places = whole.few_entries in
    whole_more h (Stop by) whole tt (omega (arith, few)) (omega (arith, places))

-- a batch within all limits
pub whole_batch : (h : List Entry) (by : ℕ) (batch : List Edit) → takes_batch h batch ≡ true → AreWhole batch → IsWhole h → IsWhole (h ++ Edits by batch ∷ [])
whole_batch h by batch takes brought whole =
    let parts = and_parts (is_below_entry_limit h) (has_room_for h (length batch) && has_few_lists h batch) takes in
    let room = and_parts (has_room_for h (length batch)) (has_few_lists h batch) parts.1 in
    let places = ltb-true (count_by is_limited h) 1048576 parts.0 in
    whole_more h (Edits by batch) whole brought (leb-true (length (all_edits h) + length batch) 262144 room.0) (omega (arith, places))

-- ---- prefixes

-- each prefix of a whole history is whole
pub point_whole : (h later : List Entry) → IsWhole (h ++ later) → IsWhole h
point_whole h later whole =
    let all = all_edits-append h later in
    record {
      edits = each_front (λ e. (is_valid e ≡ true) × PutsWhole e) (all_edits h) (all_edits later) (subst AreWhole all whole.edits);
      few_edits = let few = whole.few_edits in omega (arith, few, ap length all, length-append (all_edits h) (all_edits later));
      few_entries = let few = whole.few_entries in omega (arith, few, sum_by-append (λ x. cond (is_limited x) 1 0) h later);
    }
