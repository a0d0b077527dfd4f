-- How a run of `follow` ends.
use Rattle.std.proofs.Common.{◌≡◌, ◌⊎◌, ◌++◌, ◌∷◌, ℕ, List, [], Option, None, Result, Ok, Err, IfErr, OnOk, MatchResult, refl, sym, ◌∙◌, subst, inl, inr}
use Rattle.outside_net.specs.Counts.{Rose}
use Rattle.outside_net.specs.Told.{Grows}
use Rattle.item_model.specs.declared.request.Target.{Target}
use Rattle.mirror_core.specs.declared.mirror.Applied.{Applied}
use Rattle.mirror_core.specs.Mirrored.{Mirrored}
use Rattle.command_core.specs.declared.fault.Fault.{Fault}
use Rattle.command_core.specs.declared.fault.Fault.TheVariants.{Own, Read, Memory as want}
use Rattle.command_core.specs.declared.outcome.Outcome.{Outcome}
use Rattle.command_core.specs.Answers.{WritesError, WritesMemory}
use Rattle.command_core.specs.Endings.{Done, OutputCut, Refused as refused_ending, LineCut, IsWritten}
use Rattle.command_core.specs.Faults.{fault_status}
use Rattle.command_core.specs.Seen.{OutputSeen, Seen, Run, IsUnread}
use Rattle.mirror_client.specs.declared.refusal.FollowError.{FollowError}
use Rattle.mirror_client.specs.declared.refusal.FollowError.TheVariants.{Refused, BadReply, Ended, Listing, Codes, LinkFault, Memory}
use Rattle.link_commands.specs.declared.follow.FollowFault.{FollowFault}
use Rattle.link_commands.specs.declared.follow.FollowFault.TheVariants.{Query, Meta, Unreached, Link}
use Rattle.link_commands.specs.declared.rounds.Stop.{Stop}
use Rattle.link_commands.specs.declared.rounds.Stop.TheVariants.{Output, Link as link_stop}
use Rattle.link_commands.specs.Ended.{WritesRows, WritesStop}
use Rattle.link_commands.specs.FollowShare.{HasFollowed, IsFollowBegun, IsFollowDone, IsLinkedFor, IsUnlinked, MayWant, StopsFollowBy, StopsFollowing, follow_line, follow_meaning, follow_status, link_fault}
use Rattle.link_commands.specs.Linked.{IsUnreached, IsUntouched, LinkSeen}
use Rattle.link_commands.specs.LookFaults.{IsLookFault}
use Rattle.link_commands.specs.Looks.{AsksMirror}
use Rattle.link_commands.specs.Meanings.{IsCutBehind, IsLinkAnswered, KeepsNet, LinkEnds}
use Rattle.link_commands.specs.RoundLines.{round_lines, shown_rows}
use Rattle.link_commands.specs.Rounds.{EndsRounds}
use Rattle.link_commands.proofs.EndedFacts.{Promised, by_cut, by_fault, by_idle, by_memory, by_output, untouched}
use Rattle.command_core.proofs.Appending.{none_written}
use Rattle.link_commands.proofs.FollowDecided.{follow_decided, follow_refused}
use Rattle.link_commands.proofs.LinkedFacts.{link_rose}
use Rattle.link_commands.proofs.PushFacts.{link_fails, link_is}

-- ---- the network

follow_fails : (fault : Fault FollowFault) → fault_status follow_status fault ≡ 0 → ⊥
follow_fails (Own (Query error)) h = absurd (cc)
follow_fails (Own Meta) h = absurd (cc)
follow_fails (Own Unreached) h = absurd (cc)
follow_fails (Own (Link e)) h = link_fails e h
follow_fails Read h = absurd (cc)
follow_fails want h = absurd (cc)

abbrev Asked : List ℕ → Run → Type 0
Asked host told = (told.after.around.net ≡ told.before.around.net) ⊎ Grows told.before.around.net.asked told.after.around.net.asked ((host, 0) ∷ [])

want_asked : (host : List ℕ) (rounds : ℕ) (query meta : Option (List ℕ)) (target : Target) (told : Run) (front : List ℕ)
    → MayWant host rounds query meta target told.before told.after front → Asked host told
want_asked host rounds query meta target told front (inl u) = inl u.0.net
want_asked host rounds query meta target told front (inr (inl u)) = inr u.0.unreached.asked
want_asked host rounds query meta target told front (inr (inr (inl s))) = inr s.1.for.linked.asked
want_asked host rounds query meta target told front (inr (inr (inr f))) = inr f.4.linked.asked

stop_asked : (host : List ℕ) (rounds : ℕ) (query meta : Option (List ℕ)) (target : Target) (told : Run) (fault : Fault FollowFault) (front : List ℕ)
    → StopsFollowBy host rounds query meta target told.before told.after fault front → Asked host told
stop_asked host rounds query meta target told (Own (Query error)) front s = inl s.2.net
stop_asked host rounds query meta target told (Own Meta) front s = inl s.2.net
stop_asked host rounds query meta target told (Own Unreached) front s = inr s.0.unreached.asked
stop_asked host rounds query meta target told (Own (Link e)) front s = inr s.1.for.linked.asked
stop_asked host rounds query meta target told Read front s = absurd s
stop_asked host rounds query meta target told want front s = want_asked host rounds query meta target told front s

stop_rose : (host : List ℕ) (rounds : ℕ) (query meta : Option (List ℕ)) (target : Target) (told : Run) (fault : Fault FollowFault) (front : List ℕ)
    → StopsFollowBy host rounds query meta target told.before told.after fault front → fault_status follow_status fault ≡ 6
    → Rose told.before.around.net.faults told.after.around.net.faults
stop_rose host rounds query meta target told (Own (Query error)) front s h = absurd (cc)
stop_rose host rounds query meta target told (Own Meta) front s h = absurd (cc)
stop_rose host rounds query meta target told (Own Unreached) front s h = s.0.unreached.rose
stop_rose host rounds query meta target told (Own (Link e)) front s h =
    let x : StopsFollowing host rounds query meta target told.before told.after LinkFault front =
    subst (λ (f : FollowError). StopsFollowing host rounds query meta target told.before told.after f front) (link_is e h) s.1 in
    link_rose host told.before.around.net told.after.around.net x.link x.for.linked x.stops.count
stop_rose host rounds query meta target told Read front s h = absurd s
stop_rose host rounds query meta target told want front s h = absurd (cc)

begun_asked : (host : List ℕ) (rounds : ℕ) (query meta : Option (List ℕ)) (target : Target) (told : Run) (front last : List ℕ)
    → IsFollowBegun host rounds query meta target told.before told.after front last → Asked host told
begun_asked host rounds query meta target told front last (inl d) = inr d.0.for.linked.asked
begun_asked host rounds query meta target told front last (inr b) = inr b.2.linked.asked

keeps_net : (host : List ℕ) (rounds : ℕ) (query meta : Option (List ℕ)) (target : Target) (told : Run) (status : ℕ) → LinkEnds (follow_meaning host rounds query meta target) told status
    → KeepsNet host told status
keeps_net host rounds query meta target told status (Done output, s, (done, w)) = record {
  asked = inr done.for.linked.asked;
  rose = λ six. let bad : 0 ≡ 6 = sym s ∙ six in absurd (cc);
  faultless = λ zero. done.for.linked.count.faultless done.followed.faultless;
}
keeps_net host rounds query meta target told status (OutputCut output, s, c) = record {
  asked = begun_asked host rounds query meta target told c.front c.last c.begun;
  rose = λ six. let bad : 5 ≡ 6 = sym s ∙ six in absurd (cc);
  faultless = λ zero. let bad : 5 ≡ 0 = sym s ∙ zero in absurd (cc);
}
keeps_net host rounds query meta target told status (refused_ending front fault, s, (stops, w)) = record {
  asked = stop_asked host rounds query meta target told fault front stops;
  rose = λ six. stop_rose host rounds query meta target told fault front stops (sym s ∙ six);
  faultless = λ zero. absurd (follow_fails fault (sym s ∙ zero));
}
keeps_net host rounds query meta target told status (LineCut front fault, s, (stops, w)) = record {
  asked = stop_asked host rounds query meta target told fault front stops;
  rose = λ six. let bad : 5 ≡ 6 = sym s ∙ six in absurd (cc);
  faultless = λ zero. let bad : 5 ≡ 0 = sym s ∙ zero in absurd (cc);
}

-- what is promised of every run
pub follow_promised : (host : List ℕ) (rounds : ℕ) (query meta : Option (List ℕ)) (target : Target) → Promised (follow_meaning host rounds query meta target)
follow_promised host rounds query meta target told status ends = record {
  net = keeps_net host rounds query meta target told status ends;
  refused = follow_refused host rounds query meta target told status ends;
  decided = follow_decided host rounds query meta target told status ends;
}

-- ---- before there is a connection

-- the texts were refused
pub look_stops : (host : List ℕ) (rounds : ℕ) (query meta : Option (List ℕ)) (target : Target) (before after : Seen) (fault : Fault FollowFault) → IsUntouched before after
    → IsLookFault query meta fault → StopsFollowBy host rounds query meta target before after fault []
look_stops host rounds query meta target before after (Own (Query error)) u h = (h.0, h.1, u, refl)
look_stops host rounds query meta target before after (Own Meta) u h = (h.0, h.1, u, refl)
look_stops host rounds query meta target before after (Own Unreached) u h = absurd h
look_stops host rounds query meta target before after (Own (Link e)) u h = absurd h
look_stops host rounds query meta target before after Read u h = absurd h
look_stops host rounds query meta target before after want u h = inl (u, refl)

-- ---- after the rounds

link_stops : (host : List ℕ) (rounds : ℕ) (query meta : Option (List ℕ)) (target : Target) (before after : Seen) (e : FollowError) (front : List ℕ)
    → StopsFollowing host rounds query meta target before after e front → StopsFollowBy host rounds query meta target before after (link_fault e) front
link_stops host rounds query meta target before after (Refused status) front x = (λ bad. absurd (cc), x)
link_stops host rounds query meta target before after (BadReply at) front x = (λ bad. absurd (cc), x)
link_stops host rounds query meta target before after (Ended at) front x = (λ bad. absurd (cc), x)
link_stops host rounds query meta target before after (Listing error) front x = (λ bad. absurd (cc), x)
link_stops host rounds query meta target before after (Codes error) front x = (λ bad. absurd (cc), x)
link_stops host rounds query meta target before after LinkFault front x = (λ bad. absurd (cc), x)
link_stops host rounds query meta target before after Memory front x = inr (inr (inl (Memory, x)))

-- all rounds were followed, and the rows are shown
rows_end : (host : List ℕ) (rounds : ℕ) (query meta : Option (List ℕ)) (target : Target) (told : Run) (mid : OutputSeen) (outcome : Outcome) (m now : Mirrored) (link : LinkSeen)
    (applied : List Applied) → IsLinkedFor host query meta target told.before told.after m link → HasFollowed host m rounds link applied now
    → IsWritten told.output_before mid (round_lines applied) → WritesRows now.held.rows mid told.output_after outcome
    → IsLinkAnswered (follow_meaning host rounds query meta target) told outcome
rows_end host rounds query meta target told mid outcome m now link applied for followed lines (inl rows) =
    let done : IsFollowDone host rounds query meta target told.before told.after (round_lines applied ++ shown_rows now.held.rows) =
    record { m = m; link = link; for = for; applied = applied; now = now; followed = followed; written = refl } in
    by_output (follow_meaning host rounds query meta target) (follow_promised host rounds query meta target) told mid outcome (round_lines applied) (shown_rows now.held.rows) done
    (inl (done, refl)) lines rows
rows_end host rounds query meta target told mid outcome m now link applied for followed lines (inr memory) =
    by_memory (follow_meaning host rounds query meta target) (follow_promised host rounds query meta target) told mid outcome (round_lines applied)
    (inr (inr (inr (m, now, link, applied, for, followed, refl)))) lines memory

pub finished : {A : Type 0} (host : List ℕ) (rounds : ℕ) (query meta : Option (List ℕ)) (target : Target) (told : Run) (mid : OutputSeen) (outcome : Outcome) (m now : Mirrored)
    (link : LinkSeen) (end : Result A Stop) → IsLinkedFor host query meta target told.before told.after m link
    → OnOk end ((applied : List Applied) × HasFollowed host m rounds link applied now × IsWritten told.output_before mid (round_lines applied))
    → IfErr end (λ stop. EndsRounds host m rounds link told.output_before mid stop)
    → MatchResult end (λ a. WritesRows now.held.rows mid told.output_after outcome) (λ stop. WritesStop stop mid told.output_after outcome)
    → IsLinkAnswered (follow_meaning host rounds query meta target) told outcome
finished host rounds query meta target told mid outcome m now link (Ok a) for done stops t =
    rows_end host rounds query meta target told mid outcome m now link done.0 for done.1 done.2 t
finished host rounds query meta target told mid outcome m now link (Err Output) for done stops t =
    by_cut (follow_meaning host rounds query meta target) (follow_promised host rounds query meta target) told outcome stops.front stops.line
    (inr (m, link, for, stops.has, stops.faultless)) t.unopened t.status
    (subst (λ (o : OutputSeen). IsCutBehind told.output_before o stops.front stops.line) (sym t.untold) stops.cut)
finished host rounds query meta target told mid outcome m now link (Err (link_stop e)) for done stops t =
    let x : StopsFollowing host rounds query meta target told.before told.after e stops.lines = record { m = m; link = link; for = for; stops = stops.stops } in
    by_fault (follow_meaning host rounds query meta target) (follow_promised host rounds query meta target) told mid outcome stops.lines (link_fault e)
    (link_stops host rounds query meta target told.before told.after e stops.lines x) (inr (inr (inl (e, x)))) stops.written t

-- out of memory before anything was done
pub follow_idle : (host : List ℕ) (rounds : ℕ) (query meta : Option (List ℕ)) (target : Target) (told : Run) (outcome : Outcome) → told.after ≡ told.before
    → WritesMemory None told.output_before told.output_after outcome → IsLinkAnswered (follow_meaning host rounds query meta target) told outcome
follow_idle host rounds query meta target told outcome same t =
    by_idle (follow_meaning host rounds query meta target) (follow_promised host rounds query meta target) told outcome (inl (untouched told.before told.after same, refl)) t

-- the texts were refused
pub look_ends : (host : List ℕ) (rounds : ℕ) (query meta : Option (List ℕ)) (target : Target) (told : Run) (outcome : Outcome) (fault : Fault FollowFault) → told.after ≡ told.before
    → IsLookFault query meta fault → WritesError follow_line follow_status fault told.output_before told.output_after outcome
    → IsLinkAnswered (follow_meaning host rounds query meta target) told outcome
look_ends host rounds query meta target told outcome fault same refused t =
    let u = untouched told.before told.after same in
    by_fault (follow_meaning host rounds query meta target) (follow_promised host rounds query meta target) told told.output_before outcome [] fault
    (look_stops host rounds query meta target told.before told.after fault u refused) (inl (u, refl)) (none_written told.output_before) t

-- no connection was made
pub unlinked_ends : (host : List ℕ) (rounds : ℕ) (query meta : Option (List ℕ)) (target : Target) (told : Run) (outcome : Outcome) (m : Mirrored) → AsksMirror query meta target m
    → IsUnread told.before.input told.after.input → IsUnreached host told.before.around.net told.after.around.net
    → WritesError follow_line follow_status (Own Unreached) told.output_before told.output_after outcome → IsLinkAnswered (follow_meaning host rounds query meta target) told outcome
unlinked_ends host rounds query meta target told outcome m asks unread unreached t =
    let u : IsUnlinked host query meta target told.before told.after = record { m = m; asks = asks; unread = unread; unreached = unreached } in
    by_fault (follow_meaning host rounds query meta target) (follow_promised host rounds query meta target) told told.output_before outcome [] (Own Unreached) (u, refl) (inr (inl (u, refl)))
    (none_written told.output_before) t
