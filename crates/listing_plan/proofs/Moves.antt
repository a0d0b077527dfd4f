-- Bytes that are pushed one after the other, onto a page and from it to a sink.
use Rattle.std.proofs.Common.{◌≡◌, ◌≤◌, ◌+◌, ◌++◌, ℕ, List, [], Option, Result, Ok, Err, length, refl, sym, ap, subst, ◌∙◌, append_assoc, append-nil, length-append, arith}
use Rattle.std.proofs.lemmas.List.{take-append-le, take-take, length-take-le}
use Rattle.std.proofs.Math.Seq.{take-append-add, take-append_seam}
use Rattle.std.proofs.KnownBytes.{Appends-nil, Appends-trans}
use Rattle.std.specs.Io.KnownBytes.{Appends}
use Rattle.std.specs.Prelude.{take, IsErr, OnOk, OnErr}
use Rattle.outside_net.specs.Counts.{CountsFaults, Rose}
use Rattle.outside_net.specs.Told.{AppendsPrefix}
use Rattle.outside_net.specs.Faults.{Failed}
use Rattle.listing_plan.specs.Pages.{Moved, Pushes}

-- bytes were put after the first ones
pub filled : (room bytes rest : List ℕ) (n m : ℕ) → n ≤ length room → m ≡ n + length bytes → take m (take n room ++ (bytes ++ rest)) ≡ take n room ++ bytes
filled room bytes rest n m h e =
    let count : n + length bytes ≡ length (take n room) + length bytes = ap (λ k. k + length bytes) (sym (length-take-le n room h)) in
    ap (λ k. take k (take n room ++ (bytes ++ rest))) (e ∙ count)
    ∙ take-append-add (take n room) (bytes ++ rest) (length bytes) ∙ ap (λ xs. take n room ++ xs) (take-append_seam bytes rest)

-- and so are the first of them
pub filled_first : (room bytes copied rest : List ℕ) (n m k : ℕ) → n ≤ length room → copied ≡ take m bytes → k ≤ m → m ≤ length bytes → take (n + k) (take n room ++ (copied ++ rest)) ≡ take n room ++ take k bytes
filled_first room bytes copied rest n m k h e few many =
    let count : n + k ≡ length (take n room) + k = ap (λ j. j + k) (sym (length-take-le n room h)) in
    let within : k ≤ length copied = omega (arith, few, ap length e, length-take-le m bytes many) in
    ap (λ j. take j (take n room ++ (copied ++ rest))) count
    ∙ take-append-add (take n room) (copied ++ rest) k
    ∙ ap (λ xs. take n room ++ xs) (take-append-le k copied rest within ∙ ap (take k) e ∙ take-take k m bytes few)

-- what stands on the page moved nothing to the sink
pub moved_put : (bytes : List ℕ) (told : Option (List ℕ)) (page page' : List ℕ) → page' ≡ page ++ bytes → Moved bytes told told page page'
moved_put bytes told page page' h = record { front = []; taken = Appends-nil told; parts = sym h }

pub moved_none : (told : Option (List ℕ)) (page : List ℕ) → Moved [] told told page page
moved_none told page = moved_put [] told page page (sym (append-nil page))

-- bytes, and more behind them
pub moved_then : (a b : List ℕ) (t0 t1 t2 : Option (List ℕ)) (p0 p1 p2 : List ℕ) → Moved a t0 t1 p0 p1 → Moved b t1 t2 p1 p2 → Moved (a ++ b) t0 t2 p0 p2
moved_then a b t0 t1 t2 p0 p1 p2 first next = record {
  front = first.front ++ next.front;
  taken = Appends-trans t0 t1 t2 first.front next.front first.taken next.taken;
  parts =
      sym (append_assoc p0 a b) ∙ ap (λ xs. xs ++ b) first.parts ∙ append_assoc first.front p1 b ∙ ap (λ xs. first.front ++ xs) next.parts
      ∙ sym (append_assoc first.front next.front p2);
}

-- a prefix of what comes after was taken
pub cut_then : (a b : List ℕ) (t0 t1 t2 : Option (List ℕ)) (p0 p1 : List ℕ) → Moved a t0 t1 p0 p1 → AppendsPrefix t1 t2 (p1 ++ b) → AppendsPrefix t0 t2 (p0 ++ (a ++ b))
cut_then a b t0 t1 t2 p0 p1 first (n, within, cut) =
    let all : p0 ++ (a ++ b) ≡ first.front ++ (p1 ++ b) =
    sym (append_assoc p0 a b) ∙ ap (λ xs. xs ++ b) first.parts ∙ append_assoc first.front p1 b in
    let front : take (length first.front + n) (p0 ++ (a ++ b)) ≡ first.front ++ take n (p1 ++ b) =
    ap (take (length first.front + n)) all ∙ take-append-add first.front (p1 ++ b) n in (
      length first.front + n,
      omega (arith, within, ap length all, length-append first.front (p1 ++ b)),
      subst (Appends t0 t2) (sym front) (Appends-trans t0 t1 t2 first.front (take n (p1 ++ b)) first.taken cut),
    )

-- a prefix of some bytes is one of more
pub cut_more : (xs ys : List ℕ) (t0 t1 : Option (List ℕ)) → AppendsPrefix t0 t1 xs → AppendsPrefix t0 t1 (xs ++ ys)
cut_more xs ys t0 t1 (n, within, cut) =
    (n, omega (arith, within, length-append xs ys), subst (Appends t0 t1) (sym (take-append-le n xs ys within)) cut)

cut_less : (p a b : List ℕ) (t0 t1 : Option (List ℕ)) → AppendsPrefix t0 t1 (p ++ a) → AppendsPrefix t0 t1 (p ++ (a ++ b))
cut_less p a b t0 t1 cut = subst (AppendsPrefix t0 t1) (append_assoc p a b) (cut_more (p ++ a) b t0 t1 cut)

-- what was pushed, and what was pushed behind it or not
pub pushes_then : (a b : List ℕ) (r : Result Unit Failed) (t0 t1 t2 : Option (List ℕ)) (p0 p1 p2 : List ℕ) (f0 f1 f2 : ℕ) → Pushes a (Ok tt) t0 t1 p0 p1 f0 f1 → Pushes b r t1 t2 p1 p2 f1 f2 → Pushes (a ++ b) r t0 t2 p0 p2 f0 f2
pushes_then a b (Ok u) t0 t1 t2 p0 p1 p2 f0 f1 f2 first next = record {
  ok = moved_then a b t0 t1 t2 p0 p1 p2 first.ok next.ok;
  err = tt;
  count = next.count ∙ first.count;
  failed = tt;
}
pushes_then a b (Err e) t0 t1 t2 p0 p1 p2 f0 f1 f2 first next = record {
  ok = tt;
  err = cut_then a b t0 t1 t2 p0 p1 first.ok next.err;
  count = tt;
  failed = subst (λ f. Rose f f2) first.count next.failed;
}

-- what could not be pushed, with more that was to come behind it
pub pushes_cut : (a b : List ℕ) (e : Failed) (r : Result Unit Failed) (t0 t1 : Option (List ℕ)) (p0 p1 p2 : List ℕ) (f0 f1 : ℕ) → IsErr r → Pushes a (Err e) t0 t1 p0 p1 f0 f1 → Pushes (a ++ b) r t0 t1 p0 p2 f0 f1
pushes_cut a b e (Ok u) t0 t1 p0 p1 p2 f0 f1 h first = absurd (cc)
pushes_cut a b e (Err d) t0 t1 p0 p1 p2 f0 f1 h first = record { ok = tt; err = cut_less p0 a b t0 t1 first.err; count = tt; failed = first.failed }

-- room was made on the page, and bytes were put on it
pub pushes_put : (bytes : List ℕ) (t0 t1 : Option (List ℕ)) (p0 p1 p2 : List ℕ) (f0 f1 : ℕ) → Pushes [] (Ok tt) t0 t1 p0 p1 f0 f1 → p2 ≡ p1 ++ bytes → Pushes bytes (Ok tt) t0 t1 p0 p2 f0 f1
pushes_put bytes t0 t1 p0 p1 p2 f0 f1 first put =
    pushes_then [] bytes (Ok tt) t0 t1 t1 p0 p1 p2 f0 f1 f1 first (record { ok = moved_put bytes t1 p1 p2 put; err = tt; count = refl; failed = tt })

-- no room could be made
pub pushes_none : (bytes : List ℕ) (e : Failed) (r : Result Unit Failed) (t0 t1 : Option (List ℕ)) (p0 p1 p2 : List ℕ) (f0 f1 : ℕ) → IsErr r → Pushes [] (Err e) t0 t1 p0 p1 f0 f1 → Pushes bytes r t0 t1 p0 p2 f0 f1
pushes_none = pushes_cut []

-- the page was written
pub pushes_flushed : (bytes page : List ℕ) (t0 t1 : Option (List ℕ)) (f0 f1 : ℕ) → bytes ≡ page → Appends t0 t1 bytes → f1 ≡ f0 → Pushes [] (Ok tt) t0 t1 page [] f0 f1
pushes_flushed bytes page t0 t1 f0 f1 e all count = record { ok = record { front = page; taken = subst (Appends t0 t1) e all; parts = refl }; err = tt; count = count; failed = tt }

-- the page could not be written
pub pushes_kept : (bytes page page' : List ℕ) (r : Result Unit Failed) (t0 t1 : Option (List ℕ)) (f0 f1 : ℕ) → IsErr r → bytes ≡ page → AppendsPrefix t0 t1 bytes → Rose f0 f1 → Pushes [] r t0 t1 page page' f0 f1
pushes_kept bytes page page' (Ok u) t0 t1 f0 f1 h e part rose = absurd (cc)
pushes_kept bytes page page' (Err d) t0 t1 f0 f1 h e part rose = record { ok = tt; err = subst (AppendsPrefix t0 t1) (e ∙ sym (append-nil page)) part; count = tt; failed = rose }

-- of some pieces that are pushed in turn, those are left
pub record Left (rest all : List ℕ) (told now : Option (List ℕ)) (page page' : List ℕ) (faults faults' : ℕ) : Type 0 where
  pub done : List ℕ
  pub whole : all ≡ done ++ rest
  pub moved : Moved done told now page page'
  pub count : faults' ≡ faults

pub all_left : (all : List ℕ) (told : Option (List ℕ)) (page : List ℕ) (faults : ℕ) → Left all all told told page page faults faults
all_left all told page faults = record { done = []; whole = refl; moved = moved_none told page; count = refl }

-- one piece was pushed, and the others are left
pub less_left : (a rest all : List ℕ) (t0 t1 t2 : Option (List ℕ)) (p0 p1 p2 : List ℕ) (f0 f1 f2 : ℕ) → Left (a ++ rest) all t0 t1 p0 p1 f0 f1 → Pushes a (Ok tt) t1 t2 p1 p2 f1 f2 → Left rest all t0 t2 p0 p2 f0 f2
less_left a rest all t0 t1 t2 p0 p1 p2 f0 f1 f2 left push = record {
  done = left.done ++ a;
  whole = left.whole ∙ sym (append_assoc left.done a rest);
  moved = moved_then left.done a t0 t1 t2 p0 p1 p2 left.moved push.ok;
  count = push.count ∙ left.count;
}

-- none is left
pub none_left : (all : List ℕ) (t0 t1 : Option (List ℕ)) (p0 p1 : List ℕ) (f0 f1 : ℕ) → Left [] all t0 t1 p0 p1 f0 f1 → Pushes all (Ok tt) t0 t1 p0 p1 f0 f1
none_left all t0 t1 p0 p1 f0 f1 left = record {
  ok = subst (λ xs. Moved xs t0 t1 p0 p1) (sym (left.whole ∙ append-nil left.done)) left.moved;
  err = tt;
  count = left.count;
  failed = tt;
}

-- one of those that were left could not be pushed
pub cut_left : (a rest all : List ℕ) (e : Failed) (r : Result Unit Failed) (t0 t1 t2 : Option (List ℕ)) (p0 p1 p2 p3 : List ℕ) (f0 f1 f2 : ℕ) → IsErr r → Left (a ++ rest) all t0 t1 p0 p1 f0 f1 → Pushes a (Err e) t1 t2 p1 p2 f1 f2 → Pushes all r t0 t2 p0 p3 f0 f2
cut_left a rest all e (Ok u) t0 t1 t2 p0 p1 p2 p3 f0 f1 f2 h left push = absurd (cc)
cut_left a rest all e (Err d) t0 t1 t2 p0 p1 p2 p3 f0 f1 f2 h left push = record {
  ok = tt;
  err = subst (λ xs. AppendsPrefix t0 t2 (p0 ++ xs)) (sym left.whole) (cut_then left.done (a ++ rest) t0 t1 t2 p0 p1 left.moved (cut_less p1 a rest t1 t2 push.err));
  count = tt;
  failed = subst (λ f. Rose f f2) left.count push.failed;
}

-- bytes went past an empty page
pub pushes_past : (bytes : List ℕ) (r : Result Unit Failed) (t0 t1 : Option (List ℕ)) (page : List ℕ) (f0 f1 : ℕ) → page ≡ [] → OnOk r (Appends t0 t1 bytes) → OnErr r (AppendsPrefix t0 t1 bytes) → CountsFaults f0 f1 r → Pushes bytes r t0 t1 page page f0 f1
pushes_past bytes (Ok u) t0 t1 page f0 f1 e all part count = record {
  ok = record { front = bytes; taken = all; parts = ap (λ p. p ++ bytes) e ∙ sym (append-nil bytes) ∙ ap (λ p. bytes ++ p) (sym e) };
  err = tt;
  count = count;
  failed = tt;
}
pushes_past bytes (Err d) t0 t1 page f0 f1 e all part count = record {
  ok = tt;
  err = subst (λ p. AppendsPrefix t0 t1 (p ++ bytes)) (sym e) part;
  count = tt;
  failed = count;
}

-- all was pushed, and the page was handed on: all was written
pub all_written : (bytes rest : List ℕ) (r : Result Unit Failed) (t0 t1 t2 : Option (List ℕ)) (p0 p1 p2 : List ℕ) (f0 f1 f2 : ℕ) → p0 ++ rest ≡ bytes → Pushes rest (Ok tt) t0 t1 p0 p1 f0 f1 → Pushes [] r t1 t2 p1 p2 f1 f2 → OnOk r (p2 ≡ []) → OnOk r (Appends t0 t2 bytes)
all_written bytes rest (Ok u) t0 t1 t2 p0 p1 p2 f0 f1 f2 whole push flush empty =
    let both = moved_then rest [] t0 t1 t2 p0 p1 p2 push.ok flush.ok in
    let front : both.front ≡ bytes =
    sym (append-nil both.front) ∙ ap (λ xs. both.front ++ xs) (sym empty) ∙ sym both.parts ∙ ap (λ xs. p0 ++ xs) (append-nil rest) ∙ whole in
    subst (Appends t0 t2) front both.taken
all_written bytes rest (Err e) t0 t1 t2 p0 p1 p2 f0 f1 f2 whole push flush empty = tt

-- the page could not be handed on: a part was written
pub part_written : (bytes rest : List ℕ) (r : Result Unit Failed) (t0 t1 t2 : Option (List ℕ)) (p0 p1 p2 : List ℕ) (f0 f1 f2 : ℕ) → p0 ++ rest ≡ bytes → Pushes rest (Ok tt) t0 t1 p0 p1 f0 f1 → Pushes [] r t1 t2 p1 p2 f1 f2 → OnErr r (AppendsPrefix t0 t2 bytes)
part_written bytes rest (Ok u) t0 t1 t2 p0 p1 p2 f0 f1 f2 whole push flush = tt
part_written bytes rest (Err e) t0 t1 t2 p0 p1 p2 f0 f1 f2 whole push flush =
    subst (AppendsPrefix t0 t2) (ap (λ xs. p0 ++ xs) (append-nil rest) ∙ whole) (cut_then rest [] t0 t1 t2 p0 p1 push.ok flush.err)
