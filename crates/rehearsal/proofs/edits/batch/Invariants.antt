use Rattle.std.proofs.Common.{◌≡◌, ℕ, ◌+◌, ◌*◌}
use Rattle.rehearsal.specs.Draws.{state}
use Rattle.rehearsal.specs.Edits.{edits_from}
use Rattle.rehearsal.proofs.edits.batch.Given as goal

abbrev pub invariant-loop-made : goal.invariant-loop-made
invariant-loop-made l =
    (number place : ℕ) → l.fn.draws.state ≡ state number (3 * place)
    → (l.draws.state ≡ state number (3 * (place + l.made))) × (l.edits ≡ edits_from number place l.made)
