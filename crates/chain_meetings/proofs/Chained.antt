-- A relay on a connection of a share, and chains of relays.
use Rattle.std.proofs.Common.{◌≡◌, ℕ, Bool, List, [], ◌∷◌, ◌++◌, length, map, Option, Some, None, IfSome, codes, option_map, refl, sym, ap, ◌∙◌, subst, inl, length-append, arith}
use Rattle.std.proofs.lemmas.List.{append_cancel_left}
use Rattle.std.specs.Prelude.{nat_lt}
use Rattle.std.specs.List.{AllByRecursion, flat_map}
use Rattle.item_model.specs.declared.changes.Entry.{Entry}
use Rattle.item_model.specs.declared.request.Meta.TheVariants.{All}
use Rattle.item_model.specs.declared.request.Target.TheVariants.{Items}
use Rattle.outside_net.specs.Places.{Returned}
use Rattle.outside_net.specs.Told.{BeginsEmpty, Grows, GrowsByTold}
use Rattle.share_history.specs.Histories.{batches}
use Rattle.share_history.specs.Listings.{Listing}
use Rattle.share_history.specs.Whole.{IsWhole}
use Rattle.share_history.proofs.WholeFacts.{point_whole}
use Rattle.share_replies.specs.Settings.{Settings}
use Rattle.share_server.specs.declared.report.LinkReport.{LinkReport}
use Rattle.http_client.specs.Requests.{IsHost}
use Rattle.mirror_client.specs.Exchanges.{requests}
use Rattle.mirror_client.specs.Laws.{AreAnswers}
use Rattle.mirror_client.specs.Stages.{listings_in}
use Rattle.share_meetings.specs.ServedRuns.{Rise}
use Rattle.relayed_rows.specs.Libraries.{IsLibrary}
use Rattle.relayed_rows.specs.Relays.{relay_of, steps_between}
use Rattle.relay_share.specs.Rounds.{followed}
use Rattle.relay_share.proofs.ShareLibraries.{libraries_are_the_shares}
use Rattle.share_meetings.specs.Mirrors.{CanBeAsked}
use Rattle.share_meetings.proofs.Meeting.{walkers_hold_the_share, written_before}
use Rattle.share_meetings.proofs.Prefixes.{last_begins, rise_falls}
use Rattle.command_core.specs.Seen.{NetSeen, OutputSeen}
use Rattle.link_commands.specs.Linked.{LinkSeen, start_of}
use Rattle.link_commands.proofs.LinkedFacts.{owed_is}
use Rattle.share_crew.specs.declared.outcome.Outcome.{Outcome}
use Rattle.share_crew.specs.WorkerRuns.{returns_of}
use Rattle.relay_command.specs.declared.terms.Relaying.{Relaying}
use Rattle.relay_command.specs.Lines.{relaying_line}
use Rattle.relay_command.specs.Runs.{HasNoShare, HasServed, RelayEnds}
use Rattle.relay_command.specs.Runs as relay
use Rattle.relay_command.specs.Terms as relay_terms
use Rattle.relay_command.proofs.Shown.{runs_show_what_they_read}
use Rattle.serve_command.specs.Terms.{settings_of}
use Rattle.share_meetings.specs.Meetings.{IsMade}
use Rattle.share_meetings.specs.Shares.{IsOfShare}
use Rattle.share_meetings.proofs.Shares.{relays_serve_a_share, runs_serve_a_share}
use Rattle.chain_meetings.specs.Chains.{ChainsShowInOrder, MeetsAShare, RelaysStepThrough, itself, one_more, relayed, served}
use Rattle.chain_meetings.specs.Orders.{StepsThrough, library_at}
use Rattle.chain_meetings.proofs.Ordered.{orders_compose, shows_itself, steps_show_in_order}

-- ---- the connection of a share

-- a client's connection that a share served
record Met (h : List Entry) (client client' : NetSeen) : Type 0 where
  settings : Settings
  report : LinkReport
  input : List ℕ
  output : List ℕ
  of : IsOfShare settings h report input output
  sent : List ℕ
  owed : List ℕ
  made : IsMade client client' sent owed
  lost : List ℕ
  reached : sent ≡ input ++ lost
  dropped : List ℕ
  answered : output ≡ owed ++ dropped

met : (h : List Entry) (client client' : NetSeen) → MeetsAShare h client client' → Met h client client'
met h client client' (served serving told left ends is meets) = record {
  settings = settings_of serving;
  report = meets.served.report;
  input = meets.input;
  output = meets.output;
  of = runs_serve_a_share serving told left h meets.input meets.output ends is meets.served;
  sent = meets.sent;
  owed = meets.owed;
  made = meets.made;
  lost = meets.lost;
  reached = meets.reached;
  dropped = meets.dropped;
  answered = meets.answered;
}
met h client client' (relayed relaying net net' output output' left ends is meets) = record {
  settings = relay_terms.settings_of relaying;
  report = meets.served.report;
  input = meets.input;
  output = meets.output;
  of = relays_serve_a_share relaying net net' output output' left h meets.input meets.output ends is meets.served;
  sent = meets.sent;
  owed = meets.owed;
  made = meets.made;
  lost = meets.lost;
  reached = meets.reached;
  dropped = meets.dropped;
  answered = meets.answered;
}

-- ---- the connection of a relay

last_same : {A : Type 0} (xs ys : List A) (x y : A) → xs ++ x ∷ [] ≡ ys ++ y ∷ [] → x ≡ y
last_same [] [] x y is = cc
last_same [] (b ∷ ys) x y is = absurd (let count = ap length is in let more = length-append ys (y ∷ []) in omega (arith, count, more))
last_same (a ∷ xs) [] x y is = absurd (let count = ap length is in let more = length-append xs (x ∷ []) in omega (arith, count, more))
last_same (a ∷ xs) (b ∷ ys) x y is = last_same xs ys x y (let rest : xs ++ x ∷ [] ≡ ys ++ y ∷ [] = cc in rest)

-- the connection that was closed last wrote what the network tells of it
taken_is : (taken : Option (List ℕ)) (before after : Option (List Returned)) (more others closed : List Returned) (sent : List ℕ) (faulted fault : Bool)
    → GrowsByTold before after (option_map (λ bytes. more ++ (bytes, fault) ∷ []) taken) → before ≡ Some closed → after ≡ Some (closed ++ (others ++ (sent, faulted) ∷ []))
    → taken ≡ Some sent
taken_is None before after more others closed sent faulted fault grows was is =
    let bad : None ≡ Some (closed ++ (others ++ (sent, faulted) ∷ [])) = sym grows ∙ is in absurd (cc)
taken_is (Some bytes) before after more others closed sent faulted fault grows was is =
    let grown : closed ++ (others ++ (sent, faulted) ∷ []) ≡ closed ++ (more ++ (bytes, fault) ∷ []) =
    subst (λ (b : Option (List Returned)). Grows b (Some (closed ++ (others ++ (sent, faulted) ∷ []))) (more ++ (bytes, fault) ∷ [])) was
    (subst (λ (a : Option (List Returned)). Grows before a (more ++ (bytes, fault) ∷ [])) is grows) in
    let tails : others ++ (sent, faulted) ∷ [] ≡ more ++ (bytes, fault) ∷ [] = append_cancel_left closed _ _ grown in
    sym (ap (λ (r : Returned). Some r.0) (last_same others more (sent, faulted) (bytes, fault) tails))

-- ---- libraries

relay_can_be_asked : (host : List ℕ) → IsHost host → CanBeAsked host followed
relay_can_be_asked host host_is = record { host_is = host_is; list = tt; proper = tt; text = tt; short = tt; named = (codes "all", refl) }

-- the libraries that listings leave are those at the lengths of the history at which the share answered
libraries_at : (keep : ℕ) (points : List (List Entry)) (listings : List Listing) (h : List Entry) → IsWhole h → Rise points h → AreAnswers keep Items None All 0 points listings
    → relay_of listings ≡ map library_at points
libraries_at keep [] [] h whole rise are = refl
libraries_at keep [] (l ∷ ls) h whole rise are = absurd are
libraries_at keep (p ∷ points) listings h whole rise are =
    let begins = last_begins p points h rise in
    libraries_are_the_shares keep p points listings (point_whole _ begins.0 (subst IsWhole begins.1 whole)) (rise_falls p points h rise) are

-- ---- a relay of a share

module _ (up down : List Entry) (relaying : Relaying) (net net' : NetSeen) (output output' : OutputSeen) (left : Outcome) (host_is : IsHost relaying.upstream) where
  stepped : (x : Met up net net') (r : HasServed relaying (relaying_line relaying.name) net net' output output' left) → r.history ≡ down → StepsThrough up down
  stepped x r same =
      let made : IsMade net net' x.sent x.owed = x.made in
      let link : LinkSeen = r.relay.link in
      let begun : link.begun ≡ Some [] = subst (λ (w : Option (List Returned)). BeginsEmpty w link.begun) made.closed_are r.begun in
      let owed : link.left ≡ Some x.owed = subst (λ (o : Option (List ℕ)). IfSome o (λ input. link.left ≡ Some input)) made.next r.input in
      let taken : link.taken ≡ Some x.sent =
      taken_is link.taken net.written net'.written (flat_map returns_of r.crew) made.others made.closed x.sent made.faulted (nat_lt 0 link.faults) r.written made.closed_are made.written in
      let shown = runs_show_what_they_read relaying (relaying_line relaying.name) net net' output output' left r in
      let w = shown.0 in
      let split = written_before link.begun w.there.taken link.taken (requests w.walks.exchanges) w.part x.sent begun taken w.walks.went.written w.written in
      let of : IsOfShare x.settings up x.report x.input x.output = x.of in
      let held =
      walkers_hold_the_share relaying.upstream followed relaying.rounds (start_of link) w.stage w.there x.settings x.report.number of.limit of.role of.seen of.later
      (requests w.walks.exchanges) w.part x.input x.lost x.output x.owed x.dropped w.walks of.link (inl refl) (relay_can_be_asked relaying.upstream host_is)
      (point_whole of.seen of.later (subst IsWhole of.begins of.whole)) begun split.0 (owed_is link x.owed owed) (sym split.1 ∙ x.reached) x.answered in
      let rise : Rise held.points up = subst (Rise held.points) (sym of.begins) held.rise in
      let libraries : relay_of (listings_in w.stage) ≡ map library_at held.points =
      libraries_at x.settings.keep held.points (listings_in w.stage) up of.whole rise held.answers in
      record {
        points = held.points;
        rise = rise;
        libraries = subst (AllByRecursion IsLibrary) libraries w.libraries;
        steps = ap batches (sym same) ∙ shown.1 ∙ ap (steps_between []) libraries;
      }

  stepped_through : Met up net net' → RelayEnds relaying net net' output output' left → left.history ≡ Some down → StepsThrough up down
  stepped_through x (relay.unopened stop fails tells none) is = absurd (let same = none.history in cc)
  stepped_through x (relay.unannounced said back none) is = absurd (let same = none.history in cc)
  stepped_through x (relay.served r) is = stepped x r (let both : Some r.history ≡ Some down = sym r.history_is ∙ is in cc)

pub relays_step_through : RelaysStepThrough
relays_step_through up down r =
    stepped_through up down r.relaying r.net r.net' r.output r.output' r.left r.host_is (met up r.net r.net' r.meets) r.ends r.history_is

-- ---- chains

pub chains_show_in_order : ChainsShowInOrder
chains_show_in_order up down itself = shows_itself up
chains_show_in_order up down (one_more middle below before r) =
    orders_compose up middle below (chains_show_in_order up middle before) (steps_show_in_order middle below (relays_step_through middle below r))
