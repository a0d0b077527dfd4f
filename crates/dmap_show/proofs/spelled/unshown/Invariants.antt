use Rattle.std.proofs.Common.{◌≡◌, ◌++◌, ℕ, List, length, flat_map}
use Rattle.dmap_show.specs.Readable.{AreBytes}
use Rattle.dmap_show.specs.Parts.{piece}
use Rattle.dmap_show.proofs.spelled.unshown.Given as goal

-- if the text shows some bytes, those read so far are a prefix of them, and what is left shows the others
abbrev pub invariant-loop-byte : goal.invariant-loop-byte
invariant-loop-byte l =
    (all : List ℕ) → AreBytes all → l.fn.shown ≡ flat_map (piece l.form) all
    → (others : List ℕ) × (AreBytes others × ((all ≡ l.bytes.items ++ others) × (l.left ≡ flat_map (piece l.form) others)))

abbrev pub decreases-loop-byte : goal.decreases-loop-byte
decreases-loop-byte l = length l.left
