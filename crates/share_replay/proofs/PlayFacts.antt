-- The laws of the machine.
use Rattle.std.proofs.Common.{◌≡◌, ℕ, zero, suc, ◌+◌, List, [], ◌∷◌, ◌++◌, refl, sym, ap, ◌∙◌, Bool, true, false, cond, ◌||◌, Option, Some, None, append_assoc, append-nil}
use Rattle.std.specs.List.{fold}
use Rattle.std.specs.Option.{option_to_list}
use Rattle.item_model.specs.declared.changes.Entry.{Entry}
use Rattle.share_replies.specs.Settings.{Settings}
use Rattle.share_replies.specs.Added.{adds}
use Rattle.share_replay.specs.Connections.{Connection, reading_on, next_ask, end_of_input, ended_by, shut}
use Rattle.share_replay.specs.Machine.{Desk, connection_at, turn_place, with_turn, turn_of, after_answer_at, after_answer, answers, most_left, line_place, after_delivery, after_line, begin}
use Rattle.share_replay.specs.Turns.{Due, Answers, Refuses, due_next, due_on, turn_for}
use Rattle.share_replay.specs.declared.delivery.Delivery.{Delivery}
use Rattle.share_replay.specs.Laws.{NothingIsPlayed, HistoriesGoOn, EndedConnectionsRest}

pub nothing_is_played : NothingIsPlayed
nothing_is_played s h = (refl, refl)

-- ---- histories that grow

Goes : List Entry → List Entry → Type 0
Goes h k = (more : List Entry) × (k ≡ h ++ more)

goes_none : (h : List Entry) → Goes h h
unfolding Goes
goes_none h = ([], sym (append-nil h))

goes_then : (h k l : List Entry) → Goes h k → Goes k l → Goes h l
unfolding Goes
goes_then h k l one two = (one.0 ++ two.0, two.1 ∙ (ap (λ (x : List Entry). x ++ two.0) one.1 ∙ append_assoc h one.0 two.0))

turn_goes : (number : ℕ) (h : List Entry) (c : Connection) (due : Due) → Goes h (turn_for number h c due).history
unfolding Goes
turn_goes number h c (Answers ask reply) = (option_to_list (adds h number ask.want), refl)
turn_goes number h c (Refuses error) = ([], sym (append-nil h))

with_goes : (place : ℕ) (d : Desk) (c : Connection) (due : Option Due) → Goes d.history (with_turn place d c due).history
with_goes place d c None = goes_none d.history
with_goes place d c (Some due) = turn_goes (place + 1) d.history c due

turn_of_goes : (s : Settings) (d : Desk) (place : ℕ) (c : Option Connection) → Goes d.history (turn_of s d place c).history
turn_of_goes s d place None = goes_none d.history
turn_of_goes s d place (Some c) = with_goes place d c (due_on s d.history c)

step_goes : (s : Settings) (o : Option ℕ) (d : Desk) → Goes d.history (after_answer_at s o d).history
step_goes s None d = goes_none d.history
step_goes s (Some place) d = turn_of_goes s d place (connection_at d.connections place)

answers_go : (s : Settings) (place n : ℕ) (d : Desk) → Goes d.history (answers s place n d).history
answers_go s place zero d = goes_none d.history
answers_go s place (suc n) d =
    goes_then d.history (answers s place n d).history (after_answer s place (answers s place n d)).history (answers_go s place n d)
    (step_goes s (turn_place s (answers s place n d).history place (answers s place n d).connections) (answers s place n d))

played_goes : (s : Settings) (d : Desk) (line : Delivery) → Goes d.history (after_line s d line).history
played_goes s d line = answers_go s (line_place line) (most_left (after_delivery line d).connections) (after_delivery line d)

lines_go : (s : Settings) (lines : List Delivery) (d : Desk) → Goes d.history (fold (after_line s) d lines).history
lines_go s [] d = goes_none d.history
lines_go s (line ∷ lines) d =
    goes_then d.history (after_line s d line).history (fold (after_line s) (after_line s d line) lines).history (played_goes s d line) (lines_go s lines (after_line s d line))

pub histories_go_on : HistoriesGoOn
unfolding Goes
histories_go_on s h lines = lines_go s lines (begin h)

-- ---- connections that have ended

or_ended : (b : Bool) → (b || true) ≡ true
or_ended true = refl
or_ended false = refl

pub ended_connections_rest : EndedConnectionsRest
ended_connections_rest s h c bytes is =
    let both : (c.is_closed || c.is_ended) ≡ true = ap (λ b. c.is_closed || b) is ∙ or_ended c.is_closed in (
      ap (λ b. cond b None (due_next s h (next_ask c) (reading_on c).fault)) is,
      ap (λ b. cond b c (record c { bytes = c.bytes ++ bytes })) both,
      ap (λ b. cond b c (ended_by (end_of_input (shut c)) (shut c))) both,
      ap (λ b. cond b None (end_of_input (shut c))) both,
    )
