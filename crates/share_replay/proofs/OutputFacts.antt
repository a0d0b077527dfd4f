-- What the machine writes is only added to.
use Rattle.std.proofs.Common.{◌≡◌, ◌≤◌, ◌∷◌, ◌++◌, ◌+◌, ℕ, zero, suc, List, [], take, fold, slice_get, Option, Some, None, refl, sym, ap, ◌∙◌, subst, append_assoc, append-nil, arith, inl, inr}
use Rattle.std.proofs.lemmas.Bool.{cases_lt}
use Rattle.share_replies.specs.Settings.{Settings}
use Rattle.share_replay.specs.Connections.{Connection}
use Rattle.share_replay.specs.Ends.{end_line}
use Rattle.share_replay.specs.Laws.{OutputsGoOn}
use Rattle.share_replay.specs.Machine.{Desk, answers, begin, after_delivery, connection_at, last_lines, line_place, most_left, number_of, output_of, after_line, after_answer_at, told_at_once, turn_of, turn_place, with_turn}
use Rattle.share_replay.specs.Played.{broken_in, most_answers}
use Rattle.share_replay.specs.Turns.{Due, due_on, turn_for}
use Rattle.share_replay.specs.declared.delivery.Delivery.{Delivery}

Begins : List ℕ → List ℕ → Type 0
Begins front all = (more : List ℕ) × (all ≡ front ++ more)

itself : (bytes : List ℕ) → Begins bytes bytes
unfolding Begins
itself bytes = ([], sym (append-nil bytes))

added : (bytes more : List ℕ) → Begins bytes (bytes ++ more)
unfolding Begins
added bytes more = (more, refl)

behind : (a b c : List ℕ) → Begins a b → Begins b c → Begins a c
unfolding Begins
behind a b c one two = (one.0 ++ two.0, two.1 ∙ (ap (λ (x : List ℕ). x ++ two.0) one.1 ∙ append_assoc a one.0 two.0))

with_begins : (place : ℕ) (d : Desk) (c : Connection) (due : Option Due) → Begins d.output (with_turn place d c due).output
with_begins place d c None = itself d.output
with_begins place d c (Some due) = added d.output (turn_for (place + 1) d.history c due).written

turn_begins : (s : Settings) (d : Desk) (place : ℕ) (c : Option Connection) → Begins d.output (turn_of s d place c).output
turn_begins s d place None = itself d.output
turn_begins s d place (Some c) = with_begins place d c (due_on s d.history c)

step_begins : (s : Settings) (o : Option ℕ) (d : Desk) → Begins d.output (after_answer_at s o d).output
step_begins s None d = itself d.output
step_begins s (Some place) d = turn_begins s d place (connection_at d.connections place)

answers_begin : (s : Settings) (place k : ℕ) (d : Desk) (n : ℕ) → k ≤ n → Begins (answers s place k d).output (answers s place n d).output
answers_begin s place k d zero within =
    let same : k ≡ zero = omega (arith, within) in
    subst (λ (m : ℕ). Begins (answers s place m d).output (answers s place zero d).output) (sym same) (itself (answers s place zero d).output)
answers_begin s place k d (suc n) within = elim (cases_lt n k) [
  | inl less ↦ let same : k ≡ suc n = omega (arith, within, less) in
      subst (λ (m : ℕ). Begins (answers s place m d).output (answers s place (suc n) d).output) (sym same) (itself (answers s place (suc n) d).output)
  | inr more ↦
      behind (answers s place k d).output (answers s place n d).output (answers s place (suc n) d).output (answers_begin s place k d n more)
      (step_begins s (turn_place s (answers s place n d).history place (answers s place n d).connections) (answers s place n d))
]

line_begins : (s : Settings) (d : Desk) (line : Delivery) → Begins d.output (after_line s d line).output
line_begins s d line =
    behind d.output (after_delivery line d).output (after_line s d line).output
    (added d.output (end_line (number_of line) (told_at_once line (connection_at d.connections (line_place line)))))
    (answers_begin s (line_place line) 0 (after_delivery line d) (most_left (after_delivery line d).connections) (omega arith))

lines_begin : (s : Settings) (lines : List Delivery) (d : Desk) → Begins d.output (output_of (fold (after_line s) d lines))
lines_begin s [] d = added d.output (last_lines 1 d.connections)
lines_begin s (line ∷ lines) d =
    behind d.output (after_line s d line).output (output_of (fold (after_line s) (after_line s d line) lines)) (line_begins s d line) (lines_begin s lines (after_line s d line))

runs_on : (s : Settings) (lines : List Delivery) (d : Desk) (line answered : ℕ)
    → answered ≤ most_answers (fold (after_line s) d (take line lines)) (slice_get lines line)
    → Begins (broken_in s (fold (after_line s) d (take line lines)) (slice_get lines line) answered).output (output_of (fold (after_line s) d lines))
runs_on s [] d zero answered few = itself (output_of d)
runs_on s [] d (suc line) answered few = itself (output_of d)
runs_on s (x ∷ lines) d zero answered few =
    behind (answers s (line_place x) answered (after_delivery x d)).output (after_line s d x).output (output_of (fold (after_line s) (after_line s d x) lines))
    (answers_begin s (line_place x) answered (after_delivery x d) (most_left (after_delivery x d).connections) few) (lines_begin s lines (after_line s d x))
runs_on s (x ∷ lines) d (suc line) answered few = runs_on s lines (after_line s d x) line answered few

pub outputs_go_on : OutputsGoOn
unfolding Begins
outputs_go_on s h lines line answered few = runs_on s lines (begin h) line answered few
