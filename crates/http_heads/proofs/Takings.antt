-- What a gatherer buffers after a further chunk, over plain variables.
use Rattle.std.proofs.Common.{◌≡◌, ℕ, ◌+◌, ◌-◌, ◌<◌, ◌≤◌, min, List, [], ◌∷◌, ◌++◌, length, take, drop, get_or, true, nat_lt, Some, None, Result, Ok, Err, IfOk, refl, sym, ap, ap₂, ◌∙◌, subst, inl, inr, arith, append_assoc, append-nil, length-append, take-add}
use Rattle.std.proofs.lemmas.Bool.{cases_Bool, cond-true, cond-false, ltb-true, ltb-false}
use Rattle.std.proofs.lemmas.List.{take_more, take_all, take-take, take-append-drop, length-take-le, length-take, length-drop}
use Rattle.http_heads.specs.declared.gathering.Phase.{Phase}
use Rattle.http_heads.specs.declared.gathering.Phase.TheVariants.{Body, Whole}
use Rattle.http_heads.specs.declared.kind.Kind.{Kind}
use Rattle.http_heads.specs.declared.refusal.HeadError.{HeadError}
use Rattle.http_heads.specs.declared.refusal.HeadError.TheVariants.{HeadTooLarge}
use Rattle.http_heads.specs.declared.scanning.Scan.{Scan}
use Rattle.http_heads.specs.Frames.{IsFramed}
use Rattle.http_heads.specs.Gathering.{Gathered, kept, is_whole, Stands, IsAt, TakesSome, IsStopped, Takes, phase_behind}
use Rattle.http_heads.specs.Heads.{Tells}
use Rattle.http_heads.specs.Limits.{head_limit}
use Rattle.http_heads.specs.Messages.{HasHead, Message}
use Rattle.http_heads.specs.Scanning.{start, after, after_byte}
use Rattle.http_heads.proofs.Frames.{framed_end, no_frame}
use Rattle.http_heads.proofs.Scans.{after_both}

pub at_phase : (g : Gathered) (phase : Phase) → IsAt g → g.phase ≡ phase → Stands g.kind g.message phase
at_phase g phase h e = subst (λ (p : Phase). Stands g.kind g.message p) e h

-- the phase after a part of the body says what is then buffered
pub stands_behind : (kind : Kind) (m : Message) (told : ℕ) → HasHead kind m.head told → length m.body ≤ told → Stands kind m (phase_behind told (length m.body))
stands_behind kind m told h few = elim (cases_Bool (nat_lt (length m.body) told)) [
  | inl short ↦
      subst (Stands kind m) (sym (cond-true (nat_lt (length m.body) told) (Body told) Whole short)) (h, ltb-true (length m.body) told short)
  | inr whole ↦
      let all : told ≡ length m.body = omega (arith, ltb-false (length m.body) told whole) in
      subst (Stands kind m) (sym (cond-false (nat_lt (length m.body) told) (Body told) Whole whole)) (subst (HasHead kind m.head) all h)
]

whole_behind : (told len : ℕ) → told ≤ len → is_whole (phase_behind told len) ≡ true
whole_behind told len h = elim (cases_Bool (nat_lt len told)) [
  | inl short ↦ let less : len < told = ltb-true len told short in absurd (omega arith)
  | inr whole ↦ ap is_whole (cond-false (nat_lt len told) (Body told) Whole whole)
]

-- a part of the body
pub took_body : (old new : Gathered) (piece : List ℕ) (told n : ℕ) → HasHead old.kind old.message.head told → length old.message.body ≤ told
    → n ≡ min (told - length old.message.body) (length piece) → new.kind ≡ old.kind → new.message.head ≡ old.message.head
    → new.message.body ≡ old.message.body ++ take n piece → new.phase ≡ phase_behind told (length new.message.body) → TakesSome old piece new n
took_body old new piece told n h few is kind head body phase =
    let within : n ≤ length piece = omega arith in
    let len : length new.message.body ≡ length old.message.body + n =
    ap length body ∙ length-append old.message.body (take n piece) ∙ ap (λ k. length old.message.body + k) (length-take-le n piece within) in
    record {
      within = within;
      kept = ap₂ (λ a b. a ++ b) head body ∙ sym (append_assoc old.message.head old.message.body (take n piece));
      stands =
          subst (Stands new.kind new.message) (sym phase)
          (stands_behind new.kind new.message told
          (subst (λ (k : Kind). HasHead k new.message.head told) (sym kind) (subst (λ (b : List ℕ). HasHead old.kind b told) (sym head) h))
          (omega arith));
      all = λ less. ap is_whole phase ∙ whole_behind told (length new.message.body) (omega arith);
    }

-- as many bytes as a head may have, with no end
pub head_too_large : (old new : Gathered) (piece : List ℕ) (scan : Scan) → old.message.body ≡ [] → new.message.head ≡ old.message.head ++ piece
    → new.message.body ≡ old.message.body → length new.message.head ≡ head_limit → after start (old.message.head ++ piece) ≡ Some scan
    → IsStopped old piece new HeadTooLarge
head_too_large old new piece scan none head body len goes =
    let whole : kept new ≡ old.message.head ++ piece = ap₂ (λ a b. a ++ b) head (body ∙ none) ∙ append-nil (old.message.head ++ piece) in
    let before : kept old ≡ old.message.head = ap (λ b. old.message.head ++ b) none ∙ append-nil old.message.head in
    record {
      more = [];
      spelled = ap (λ b. b ++ piece) before ∙ sym whole ∙ sym (append-nil (kept new));
      longer = omega (arith, ap length before, ap length whole, length-append old.message.head piece);
      refused = inr (
        refl,
        ap length whole ∙ ap length (sym head) ∙ len,
        no_frame (kept new) scan (ap (after start) whole ∙ goes),
      );
    }

-- the head's end is found among the first bytes of the chunk
pub ended : (head piece sought : List ℕ) (room n : ℕ) (scan last : Scan) → after start head ≡ Some scan → sought ≡ take room piece → 0 < n
    → n ≤ length sought → after scan (take (n - 1) sought) ≡ Some last → after_byte last (get_or sought (n - 1) 0) ≡ None
    → IsFramed (head ++ take n piece) last.full
ended head piece sought room n scan last goes is some within front end =
    let m = n - 1 in
    let inside : m < length sought = omega arith in
    let next : m + 1 ≡ n = omega arith in
    let room_fits : n ≤ room = let bound : length sought ≤ room = omega (arith, ap length is, length_take room piece) in omega arith in
    let pieces : take n piece ≡ take m sought ++ get_or sought m 0 ∷ [] =
    sym (take-take n room piece room_fits) ∙ ap (take n) (sym is) ∙ ap (λ k. take k sought) (sym next) ∙ take_more sought m 0 inside in
    subst (λ (bytes : List ℕ). IsFramed bytes last.full)
    (append_assoc head (take m sought) (get_or sought m 0 ∷ []) ∙ ap (λ r. head ++ r) (sym pieces))
    (framed_end (head ++ take m sought) last (get_or sought m 0) (after_both start scan head (take m sought) goes ∙ front) end)
  where
    length_take : (k : ℕ) (xs : List ℕ) → length (take k xs) ≤ k
    length_take k xs = omega (arith, length-take k xs)

-- the bytes after the scanned ones follow the refused ones
pub went_on : (old : Gathered) (piece sought : List ℕ) (room : ℕ) (new : Gathered) (result : Result ℕ HeadError) → sought ≡ take room piece
    → room ≡ min (head_limit - length old.message.head) (length piece) → length old.message.head < head_limit → old.message.body ≡ []
    → IfOk result (λ n. (n ≡ length sought) × (length (kept new) < head_limit)) → Takes old sought new result → Takes old piece new result
went_on old piece sought room new (Ok n) is room_is short none all h =
    let len : length sought ≡ room = ap length is ∙ length-take-le room piece (omega arith) in
    let count : n ≡ room = all.0 ∙ len in
    let front : take n sought ≡ sought = take_all n sought (omega arith) in
    let total : length (kept new) ≡ length old.message.head + room =
    ap length h.kept ∙ length-append (kept old) (take n sought)
    ∙ ap₂ (λ a b. a + b) (ap (λ b. length (old.message.head ++ b)) none ∙ ap length (append-nil old.message.head)) (ap length front ∙ len) in
    let whole : room ≡ length piece = omega arith in
    record {
      within = omega arith;
      kept = h.kept ∙ ap (λ b. kept old ++ b) (front ∙ is ∙ ap (λ k. take k piece) (sym count));
      stands = h.stands;
      all = λ less. absurd (omega arith);
    }
went_on old piece sought room new (Err e) is room_is short none all h =
    λ other.
    let stopped = h other in
    record {
      more = stopped.more ++ drop room piece;
      spelled =
          ap (λ b. kept old ++ b) (sym (take-append-drop room piece) ∙ ap (λ b. b ++ drop room piece) (sym is))
          ∙ sym (append_assoc (kept old) sought (drop room piece)) ∙ ap (λ b. b ++ drop room piece) stopped.spelled
          ∙ append_assoc (kept new) stopped.more (drop room piece);
      longer = stopped.longer;
      refused = stopped.refused;
    }

-- a framed head that is refused, and the rest of the chunk after it
pub refused_head : (old new : Gathered) (piece : List ℕ) (n lines : ℕ) (e : HeadError) → n ≤ length piece → old.message.body ≡ []
    → IsFramed (old.message.head ++ take n piece) lines → length (old.message.head ++ take n piece) ≤ head_limit
    → new.message.head ≡ old.message.head ++ take n piece → new.message.body ≡ old.message.body → Tells old.kind new.message.head lines (Err e)
    → IsStopped old piece new e
refused_head old new piece n lines e within none framed short head body tells =
    let whole : kept new ≡ old.message.head ++ take n piece = ap₂ (λ a b. a ++ b) head (body ∙ none) ∙ append-nil (old.message.head ++ take n piece) in
    let before : kept old ≡ old.message.head = ap (λ b. old.message.head ++ b) none ∙ append-nil old.message.head in
    let same : kept new ≡ new.message.head = whole ∙ sym head in
    record {
      more = drop n piece;
      spelled =
          ap₂ (λ a b. a ++ b) before (sym (take-append-drop n piece)) ∙ sym (append_assoc old.message.head (take n piece) (drop n piece))
          ∙ ap (λ b. b ++ drop n piece) (sym whole);
      longer = omega (arith, ap length before, ap length whole, length-append old.message.head (take n piece));
      refused = inl (
        lines,
        subst (λ (b : List ℕ). IsFramed b lines) (sym whole) framed,
        (let bound : length (kept new) ≤ head_limit = omega (arith, ap length whole) in bound),
        subst (λ (b : List ℕ). Tells old.kind b lines (Err e)) (sym same) tells,
      );
    }

-- the head, and then a part of the body
pub took_both : (old mid new : Gathered) (piece : List ℕ) (n m : ℕ) → n ≤ length piece → old.message.body ≡ []
    → mid.message.head ≡ old.message.head ++ take n piece → mid.message.body ≡ old.message.body → TakesSome mid (drop n piece) new m
    → TakesSome old piece new (n + m)
took_both old mid new piece n m within none head body h =
    let rest : length (drop n piece) + n ≡ length piece = omega (arith, length-drop n piece) in
    let inner : m ≤ length (drop n piece) = h.within in
    record {
      within = omega arith;
      kept =
          h.kept
          ∙ ap (λ b. b ++ take m (drop n piece)) (ap₂ (λ a b. a ++ b) head (body ∙ none) ∙ append-nil (old.message.head ++ take n piece)
          ∙ ap (λ b. b ++ take n piece) (sym (ap (λ b. old.message.head ++ b) none ∙ append-nil old.message.head)))
          ∙ append_assoc (kept old) (take n piece) (take m (drop n piece)) ∙ ap (λ b. kept old ++ b) (sym (take_both n m piece));
      stands = h.stands;
      all = λ less. h.all (omega arith);
    }
  where
    take_both : (a b : ℕ) (xs : List ℕ) → take (a + b) xs ≡ take a xs ++ take b (drop a xs)
    take_both a b xs = take-add a b xs
