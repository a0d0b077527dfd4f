-- Bytes that move in chunks: into a buffer, and from one to the next.
use Rattle.std.proofs.Common.{◌≡◌, ℕ, ◌+◌, ◌≤◌, List, ◌++◌, length, take, drop, length-append, arith, sym, ap, subst, ◌∙◌}
use Rattle.std.specs.Prelude.{Option}
use Rattle.std.proofs.lemmas.List.{take-append-drop, take_at, drop-drop, length-take-le}
use Rattle.std.proofs.Math.Seq.{take-add}
use Rattle.std.proofs.KnownBytes.{Appends-trans, Consumes-trans}
use Rattle.std.specs.Io.KnownBytes.{Appends, Consumes}
use Rattle.outside_net.specs.Reading.{ConsumesUpTo}

-- the bytes that were copied to the start of a buffer, and then those that are left, are what was left before
pub moved_front : (bytes copied rest : List ℕ) (given n : ℕ) → n ≤ length (drop given bytes) → copied ≡ take n (drop given bytes)
    → drop given bytes ≡ take n (copied ++ rest) ++ drop (given + n) bytes
moved_front bytes copied rest given n within is =
    let front : take n (copied ++ rest) ≡ copied = take_at copied rest n (ap length is ∙ length-take-le n (drop given bytes) within) in
    sym (take-append-drop n (drop given bytes)) ∙ ap (λ xs. xs ++ drop n (drop given bytes)) (sym (front ∙ is))
    ∙ ap (λ xs. take n (copied ++ rest) ++ xs) (drop-drop n given bytes)

-- the first `n` bytes were written, and then `m` of those after them: the first `n + m` were written
pub Appends-next : (before mid now : Option (List ℕ)) (bytes rest : List ℕ) (n m : ℕ) → rest ≡ drop n bytes
    → Appends before mid (take n bytes) → Appends mid now (take m rest) → Appends before now (take (n + m) bytes)
Appends-next before mid now bytes rest n m is first next =
    subst (Appends before now) (sym (take-add n m bytes))
    (Appends-trans before mid now _ _ first (subst (λ xs. Appends mid now (take m xs)) is next))

-- at most `most` bytes were read, and then at most `piece` more
pub ConsumesUpTo-next : (before mid now : Option (List ℕ)) (held more : List ℕ) (most piece : ℕ) → length held ≤ most → length more ≤ piece
    → Consumes before mid held → Consumes mid now more → ConsumesUpTo (most + piece) before now
ConsumesUpTo-next before mid now held more most piece within short first next =
    (held ++ more, Consumes-trans before mid now held more first next, omega (arith, within, short, length-append held more))
