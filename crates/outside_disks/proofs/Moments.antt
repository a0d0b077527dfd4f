-- One call more: what a crash since an earlier time might have left.
use Rattle.std.proofs.Common.{◌≡◌, ◌⊎◌, ◌≤◌, ℕ, List, [], ◌∷◌, ◌++◌, length, drop, length-append, inl, inr, sym, ap, subst, ◌∙◌, arith}
use Rattle.std.proofs.lemmas.List.{drop-append-le}
use Rattle.outside_disks.specs.declared.memory.stand.Stand.{Stand}
use Rattle.outside_disks.specs.declared.memory.disk.DiskCall.{DiskCall}
use Rattle.outside_disks.specs.Disks.{Elapses}
use Rattle.outside_disks.specs.MemDisk.{IsImage}
use Rattle.outside_disks.specs.Calls.{StoodAmong, StoodSince, AddsCall}

-- before a call or the one after it
split : (calls : List DiskCall) (call : DiskCall) (image : List ℕ) → StoodAmong (calls ++ call ∷ []) image
    → StoodAmong calls image ⊎ IsImage call.before.value image
split [] call image (inl stood) = inr stood
split [] call image (inr none) = absurd none
split (first ∷ calls) call image (inl stood) = inl (inl stood)
split (first ∷ calls) call image (inr among) = elim (split calls call image among) [ inl left ↦ inl (inr left) | inr right ↦ inr right ]

-- before one of the first calls
join_first : (calls : List DiskCall) (call : DiskCall) (image : List ℕ) → StoodAmong calls image → StoodAmong (calls ++ call ∷ []) image
join_first [] call image none = absurd none
join_first (first ∷ calls) call image (inl stood) = inl stood
join_first (first ∷ calls) call image (inr among) = inr (join_first calls call image among)

-- before the last call
join_last : (calls : List DiskCall) (call : DiskCall) (image : List ℕ) → IsImage call.before.value image → StoodAmong (calls ++ call ∷ []) image
join_last [] call image stood = inl stood
join_last (first ∷ calls) call image stood = inr (join_last calls call image stood)

-- the calls since a time, with one more after them
since_more : (found : Stand) (before after : List DiskCall) (adds : AddsCall found before after) (time : ℕ) → time ≤ length before
    → drop time after ≡ drop time before ++ adds.0 ∷ []
since_more found before after adds time within = ap (drop time) adds.2 ∙ drop-append-le time before (adds.0 ∷ []) within

nothing_else : (found now : Stand) (before after : List DiskCall) (adds : AddsCall found before after) (time : ℕ) (image : List ℕ)
    → time ≤ length before → StoodSince now after time image → StoodSince found before time image ⊎ IsImage now image
nothing_else found now before after adds time image within (inl stood) = inr stood
nothing_else found now before after adds time image within (inr among) =
    elim (split (drop time before) adds.0 image
    (subst (λ calls. StoodAmong calls image) (since_more found before after adds time within) among)) [
      | inl earlier ↦ inl (inr earlier)
      | inr last ↦ inl (inl (subst (λ stand. IsImage stand image) adds.1 last))
    ]

keeps : (found now : Stand) (before after : List DiskCall) (adds : AddsCall found before after) (time : ℕ) (image : List ℕ)
    → time ≤ length before → StoodSince found before time image → StoodSince now after time image
keeps found now before after adds time image within (inl stood) = inr
    (subst (λ calls. StoodAmong calls image) (sym (since_more found before after adds time within))
    (join_last (drop time before) adds.0 image (subst (λ stand. IsImage stand image) (sym adds.1) stood)))
keeps found now before after adds time image within (inr among) = inr
    (subst (λ calls. StoodAmong calls image) (sym (since_more found before after adds time within))
    (join_first (drop time before) adds.0 image among))

-- a call was recorded, whatever it then did
pub elapses : (found now : Stand) (before after : List DiskCall) → AddsCall found before after
    → Elapses (length before) (length after) (StoodSince found before) (StoodSince now after) (IsImage now)
elapses found now before after adds = record {
  later = omega (arith, ap length adds.2, length-append before (adds.0 ∷ []));
  nothing_else = nothing_else found now before after adds;
  keeps = keeps found now before after adds;
}
