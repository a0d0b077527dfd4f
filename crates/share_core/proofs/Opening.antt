-- A share that is opened with batches, one by one.
use Rattle.std.proofs.Common.{◌≡◌, ◌≢◌, ◌≤◌, ◌<◌, ◌+◌, ℕ, zero, suc, Bool, true, false, List, [], ◌∷◌, ◌++◌, length, get_or, take, drop, nat_le, count_by, cond, refl, sym, ap, ◌∙◌, subst, append-nil, append_assoc, length-append, arith}
use Rattle.std.specs.Prelude.{All}
use Rattle.std.proofs.Math.Seq.{take-append_seam}
use Rattle.std.proofs.lemmas.Bool.{leb-true, leb-false, le-leb, lt-leb, lt-ltb}
use Rattle.std.proofs.lemmas.Grind.{flat_map-append}
use Rattle.std.proofs.lemmas.List.{take-append-le, take_all}
use Rattle.std.proofs.lemmas.List.Elements.{All-nil, All-cons, All-head, All-tail, All-take}
use Rattle.std.proofs.lemmas.List.Sums.{sum_by-cons}
use Rattle.item_model.specs.declared.changes.Edit.{Edit}
use Rattle.item_model.specs.declared.changes.Entry.TheVariants.{Edits}
use Rattle.share_history.specs.Histories.{batches, edits, opening}
use Rattle.share_history.specs.Limits.{is_below_entry_limit, has_room_for, has_few_lists, is_limited}
use Rattle.share_history.specs.Rows.{lists}
use Rattle.share_history.specs.Sessions.{is_stopped}
use Rattle.share_history.proofs.EditFacts.{edits_more, drop_more}
use Rattle.share_replies.specs.Laws.{maker}
use Rattle.share_core.specs.Opened.{opened_with, if_filled, LeaveFewLists, LeaveManyLists}

-- ---- the history

pub batches-opened : (bs : List (List Edit)) → batches (opened_with bs) ≡ bs
batches-opened [] = refl
batches-opened (b ∷ bs) = ap (λ l. b ∷ l) (batches-opened bs)

pub opened-more : (bs : List (List Edit)) (b : List Edit) → opened_with (bs ++ b ∷ []) ≡ opened_with bs ++ Edits 0 b ∷ []
opened-more [] b = refl
opened-more (a ∷ bs) b = ap (λ l. Edits 0 a ∷ l) (opened-more bs b)

pub opened-filled : (es : List Edit) → opened_with (if_filled es) ≡ opening es
opened-filled [] = refl
opened-filled (e ∷ es) = refl

pub opened_by_first : (bs : List (List Edit)) → All (λ e. maker e ≡ 0) (opened_with bs)
opened_by_first [] = All-nil (λ e. maker e ≡ 0)
opened_by_first (b ∷ bs) = All-cons (λ e. maker e ≡ 0) (Edits 0 b) (opened_with bs) refl (opened_by_first bs)

pub opened_goes_on : (bs : List (List Edit)) → is_stopped (opened_with bs) ≡ false
opened_goes_on [] = refl
opened_goes_on (b ∷ bs) = opened_goes_on bs

-- ---- how many batches and edits there are

has_some : (b : List Edit) → b ≢ [] → 0 < length b
has_some [] filled = absurd (filled refl)
has_some (e ∷ es) filled = omega arith

few_filled : (bs : List (List Edit)) → All (λ batch. batch ≢ []) bs → length bs ≤ length (edits bs)
few_filled [] filled = omega arith
few_filled (b ∷ bs) filled =
    let some = has_some b (All-head (λ batch. batch ≢ []) b bs filled) in
    let rest = few_filled bs (All-tail (λ batch. batch ≢ []) b bs filled) in
    omega (arith, some, rest, length-append b (edits bs))

limited_opened : (bs : List (List Edit)) → count_by is_limited (opened_with bs) ≡ length bs
limited_opened [] = refl
limited_opened (b ∷ bs) = omega (arith, limited_opened bs, sum_by-cons (λ x. cond (is_limited x) 1 0) (Edits 0 b) (opened_with bs))

-- the loop over batches
pub edits_left : (bs : List (List Edit)) (i : ℕ) (b : List Edit) → i < length bs → b ≡ get_or bs i b → length (edits (drop i bs)) ≡ length b + length (edits (drop (i + 1) bs))
edits_left bs i b lt is = ap (λ l. length (edits l)) (drop_more bs i b lt is) ∙ length-append b (edits (drop (i + 1) bs))

-- those of some batches, and of the next
edits_until : (done : List (List Edit)) (b : List Edit) (rest : List (List Edit)) → length (edits done) + length b ≤ length (edits (done ++ b ∷ rest))
edits_until done b rest =
    let whole = ap length (flat_map-append (λ es. es) done (b ∷ rest)) in
    omega (arith, whole, length-append (edits done) (edits (b ∷ rest)), length-append b (edits rest))

module _ (done : List (List Edit)) (b : List Edit) (rest all : List (List Edit)) (are : done ++ b ∷ rest ≡ all) (few : length (edits all) ≤ 262144) where
  within : length (edits done) + length b ≤ 262144
  within = let here = edits_until done b rest in let same = ap (λ bs. length (edits bs)) are in omega (arith, here, same, few)

  pub opens_below_limit : All (λ batch. batch ≢ []) all → is_below_entry_limit (opened_with done) ≡ true
  opens_below_limit filled = lt-ltb _ _ (
      let front = subst (All (λ batch. batch ≢ [])) (take-append_seam done (b ∷ rest)) (All-take (λ batch. batch ≢ []) (length done) (done ++ b ∷ rest) (subst (All (λ batch. batch ≢ [])) (sym are) filled)) in
      let count = few_filled done front in let places = limited_opened done in let inside = within in omega (arith, count, places, inside))

  pub opens_room : has_room_for (opened_with done) (length b) ≡ true
  opens_room = le-leb _ _ (let same = ap (λ bs. length (edits bs)) (batches-opened done) in let inside = within in omega (arith, same, inside))

-- ---- how many lists they leave

take_none : (n : ℕ) → take {A = List Edit} n [] ≡ []
take_none zero = refl
take_none (suc n) = refl

pub few_none : LeaveFewLists []
few_none n = subst (λ (bs : List (List Edit)). length (lists (edits bs)) ≤ 1024) (sym (take_none n)) (omega arith)

-- the edits of some batches and of the next
next_edits : (done : List (List Edit)) (b : List Edit) → edits (done ++ b ∷ []) ≡ edits (batches (opened_with done)) ++ b
next_edits done b = edits_more done b ∙ ap (λ bs. edits bs ++ b) (sym (batches-opened done))

pub few_more : (done : List (List Edit)) (b : List Edit) → LeaveFewLists done → has_few_lists (opened_with done) b ≡ true → LeaveFewLists (done ++ b ∷ [])
few_more done b few takes n = by_case (nat_le n (length done)) refl
  where
    by_case : (c : Bool) → nat_le n (length done) ≡ c → length (lists (edits (take n (done ++ b ∷ [])))) ≤ 1024
    by_case true e = subst (λ (bs : List (List Edit)). length (lists (edits bs)) ≤ 1024) (sym (take-append-le n done (b ∷ []) (leb-true _ _ e))) (few n)
    by_case false e =
        let past = leb-false _ _ e in
        let whole = take_all n (done ++ b ∷ []) (omega (arith, past, length-append done (b ∷ []))) in
        subst (λ (es : List Edit). length (lists es) ≤ 1024) (sym (ap edits whole ∙ next_edits done b)) (leb-true _ _ takes)

pub many_until : (done : List (List Edit)) (b : List Edit) (rest all : List (List Edit)) → done ++ b ∷ rest ≡ all → has_few_lists (opened_with done) b ≡ false → LeaveManyLists all
many_until done b rest all are refused = (
  length (done ++ b ∷ []),
  subst (λ (es : List Edit). 1024 < length (lists es)) (sym (ap edits (ap (take (length (done ++ b ∷ []))) (sym are ∙ sym (append_assoc done (b ∷ []) rest)) ∙ take-append_seam (done ++ b ∷ []) rest) ∙ next_edits done b))
      (leb-false _ _ refused),
)

-- ---- one batch, if it has edits

pub few_of_one : (es : List Edit) → LeaveFewLists (if_filled es) → has_few_lists [] es ≡ true
few_of_one [] few = refl
few_of_one (e ∷ es) few = le-leb _ _ (subst (λ (l : List Edit). length (lists l) ≤ 1024) (append-nil (e ∷ es)) (few (suc zero)))

pub many_of_one : (es : List Edit) → LeaveManyLists (if_filled es) → has_few_lists [] es ≡ false
many_of_one [] (n, many) = absurd (omega (arith, subst (λ (bs : List (List Edit)). 1024 < length (lists (edits bs))) (take_none n) many))
many_of_one (e ∷ es) (zero, many) = absurd (omega (arith, many))
many_of_one (e ∷ es) (suc n, many) =
    lt-leb _ _ (subst (λ (l : List Edit). 1024 < length (lists l)) (ap (λ bs. edits ((e ∷ es) ∷ bs)) (take_none n) ∙ append-nil (e ∷ es)) many)

pub filled_of_one : (es : List Edit) → All (λ batch. batch ≢ []) (if_filled es)
filled_of_one [] = All-nil (λ batch. batch ≢ [])
filled_of_one (e ∷ es) = All-cons (λ batch. batch ≢ []) (e ∷ es) [] (λ is. absurd (cc)) (All-nil (λ batch. batch ≢ []))

pub all_of_one : (P : List Edit → Type 0) (es : List Edit) → P es → All P (if_filled es)
all_of_one P [] p = All-nil P
all_of_one P (e ∷ es) p = All-cons P (e ∷ es) [] p (All-nil P)

pub edits_of_one : (es : List Edit) → edits (if_filled es) ≡ es
edits_of_one [] = refl
edits_of_one (e ∷ es) = append-nil (e ∷ es)
