-- Two runs of the program that met on a connection.
use Rattle.std.proofs.Common.{◌≡◌, ◌⊎◌, ◌≤◌, ◌&&◌, ℕ, true, List, [], ◌∷◌, length, nat_le, Option, Some, None, IfSome, All, inl, inr, ap, arith}
use Rattle.std.specs.Char.{is_ascii_graphic}
use Rattle.std.specs.List.{list_all}
use Rattle.std.proofs.lemmas.Bool.{and_parts, leb-true}
use Rattle.std.proofs.lemmas.List.Elements.{All-cons, All-nil}
use Rattle.http_client.specs.Requests.{HasListNumber, IsHost}
use Rattle.command_core.specs.Seen.{Seen, Run}
use Rattle.share_meetings.specs.Meetings.{IsMade}
use Rattle.share_meetings.proofs.Endings.{not_unwritten}
use Rattle.share_meetings.proofs.Shares.{relays_serve_a_share, runs_serve_a_share}
use Rattle.share_meetings.proofs.Showing.{follow_shows_any_share}
use Rattle.daapshare_words.specs.Follow.{AreFollowWords}
use Rattle.daapshare_words.specs.Numbers.{IsWithin}
use Rattle.daapshare_words.specs.Texts.{is_place}
use Rattle.daapshare_words.specs.Words.{IsNetRanged}
use Rattle.daapshare_words.specs.declared.command.NetCommand.{NetCommand}
use Rattle.daapshare_words.specs.declared.command.NetCommand.TheVariants.{Follow}
use Rattle.relay_command.specs.Terms as relay
use Rattle.serve_command.specs.Terms.{settings_of}
use Rattle.command_runs.specs.declared.outcome.Outcome.{Outcome}
use Rattle.command_runs.specs.Laws.{RunsShowTheRelay, RunsShowTheShare}
use Rattle.command_runs.specs.Left.{crew_of, serve_outcome_of}
use Rattle.command_runs.specs.Table.{IsIdle, IsNetRun, relaying_of, serving_of, target_of}

-- ---- what the words say

all_graphic : (word : List ℕ) → list_all is_ascii_graphic word ≡ true → All (λ b. (33 ≤ b) × (b ≤ 126)) word
all_graphic [] shows = All-nil (λ b. (33 ≤ b) × (b ≤ 126))
all_graphic (b ∷ word) shows =
    let both = and_parts (is_ascii_graphic b) (list_all is_ascii_graphic word) shows in
    let bounds = and_parts (nat_le 33 b) (nat_le b 126) both.0 in
    All-cons (λ b. (33 ≤ b) × (b ≤ 126)) b word (leb-true 33 b bounds.0, leb-true b 126 bounds.1) (all_graphic word both.1)

pub place_is_host : (word : List ℕ) → is_place word ≡ true → IsHost word
place_is_host word is =
    let both = and_parts (nat_le 1 (length word)) (nat_le (length word) 255 && list_all is_ascii_graphic word) is in
    let rest = and_parts (nat_le (length word) 255) (list_all is_ascii_graphic word) both.1 in
    let some : 1 ≤ length word = leb-true 1 (length word) both.0 in
    record { some = omega (arith, some); short = leb-true (length word) 255 rest.0; shows = all_graphic word rest.1 }

list_is_number : (list : Option ℕ) → IfSome list (IsWithin 1 4294967295) → HasListNumber (target_of list)
list_is_number None within = tt
list_is_number (Some id) within = let most = within.1 in omega (arith, most)

-- a run that made a connection had read them
pub made_ranged : (command : NetCommand) (told : Run) (outcome : Outcome) (sent owed : List ℕ) → IsNetRun command told outcome
    → IsMade told.before.around.net told.after.around.net sent owed → IsNetRanged command
made_ranged command told outcome sent owed run made = by_ranged run.ranged
  where
    by_ranged : IsNetRanged command ⊎ IsIdle told outcome → IsNetRanged command
    by_ranged (inl ranged) = ranged
    by_ranged (inr idle) =
        absurd (not_unwritten told.before.around.net told.after.around.net sent owed made (ap (λ (s : Seen). s.around.net.written) idle.same))

-- ---- the laws

pub runs_show_the_share : RunsShowTheShare
runs_show_the_share w told served history v seen followed serves is follows meets =
    let ranged : AreFollowWords v = made_ranged (Follow v) seen followed meets.sent meets.owed follows meets.made in
    follow_shows_any_share (settings_of (serving_of w)) history meets.served.report meets.input meets.output v.place v.rounds v.query v.meta (target_of v.list) seen followed.status
    meets.sent meets.owed meets.lost meets.dropped
    (runs_serve_a_share (serving_of w) told (serve_outcome_of served) history meets.input meets.output serves.ends is meets.served)
    follows.ends.1.ends meets.made meets.reached meets.answered ranged.rounds.0 (place_is_host v.place ranged.place) (list_is_number v.list ranged.list) ranged.query

pub runs_show_the_relay : RunsShowTheRelay
runs_show_the_relay w told relayed history v seen followed relays is follows meets =
    let ranged : AreFollowWords v = made_ranged (Follow v) seen followed meets.sent meets.owed follows meets.made in
    follow_shows_any_share (relay.settings_of (relaying_of w)) history meets.served.report meets.input meets.output v.place v.rounds v.query v.meta (target_of v.list) seen followed.status
    meets.sent meets.owed meets.lost meets.dropped
    (relays_serve_a_share (relaying_of w) told.before.around.net told.after.around.net told.output_before told.output_after (crew_of relayed) history meets.input meets.output relays.ends.ends is meets.served)
    follows.ends.1.ends meets.made meets.reached meets.answered ranged.rounds.0 (place_is_host v.place ranged.place) (list_is_number v.list ranged.list) ranged.query
