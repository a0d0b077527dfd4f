-- However a run of `edit` ends, the share has all of what it pushed, or nothing.
use Rattle.std.proofs.Common.{◌≡◌, ◌≤◌, ◌⊎◌, ◌==◌, ℕ, Bool, true, false, cond, is_some, List, [], ◌∷◌, ◌++◌, take, drop, length, Option, Some, None, Result, Ok, Err, refl, sym, ap, ◌∙◌, subst, inl, inr, append_assoc, append-nil, length-append, true≢false, arith}
use Rattle.std.proofs.lemmas.List.{take-append-drop}
use Rattle.std.specs.Io.KnownBytes.{Appends}
use Rattle.std.specs.Option.{option_to_list}
use Rattle.std.specs.Prelude.{MatchBool}
use Rattle.item_model.specs.declared.changes.Edit.{Edit}
use Rattle.item_model.specs.declared.changes.Entry.{Entry}
use Rattle.item_model.specs.declared.changes.Entry.TheVariants.{Edits, Stop}
use Rattle.outside_net.specs.Places.{Returned}
use Rattle.outside_net.specs.Told.{AppendsPrefix}
use Rattle.records_import.specs.declared.refusal.RecordError.{RecordError}
use Rattle.http_front.specs.Readings.{Joins}
use Rattle.http_front.specs.Wants.{BodyReads}
use Rattle.http_front.proofs.ReadingLaws.{joins_stay}
use Rattle.http_client.specs.Requests.{IsHost}
use Rattle.share_asks.specs.declared.ask.Role.{Role}
use Rattle.share_asks.specs.declared.ask.Role.TheVariants as role
use Rattle.share_asks.specs.declared.ask.Want.{Want}
use Rattle.share_history.specs.Histories.{batches, revision}
use Rattle.share_replies.specs.Added.{adds}
use Rattle.share_replies.specs.Replies.{refusal}
use Rattle.share_replies.specs.Settings.{Settings}
use Rattle.share_server.specs.declared.report.LinkReport.{LinkReport}
use Rattle.share_server.specs.declared.report.Served.{Served}
use Rattle.share_server.specs.Served.{IsGivenUp, IsReplied, IsServed, added_part, answered_on, at_point}
use Rattle.command_core.specs.declared.fault.Fault.{Fault}
use Rattle.command_core.specs.declared.fault.Fault.TheVariants.{Memory, Own, Read}
use Rattle.command_core.specs.Endings.{Done, Ending, LineCut, OutputCut, Refused}
use Rattle.command_core.specs.Seen.{NetSeen}
use Rattle.mirror_client.specs.declared.pushing.Pushed.{Pushed}
use Rattle.mirror_client.specs.Pushes.{UnexpectedPush, push_text}
use Rattle.share_meetings.proofs.Answering.{ReadsAs}
use Rattle.link_commands.specs.declared.edit.EditFault.{EditFault}
use Rattle.link_commands.specs.declared.edit.EditFault.TheVariants as edit_fault
use Rattle.link_commands.specs.EditShare.{HasBody, HasPushed, IsEditDone, IsUnsent, StopsEdit, StopsSending, edit_meaning}
use Rattle.link_commands.specs.Linked.{LinkSeen, start_of}
use Rattle.link_commands.specs.Meanings.{EndsAs}
use Rattle.link_commands.proofs.LinkedFacts.{written_part}
use Rattle.share_meetings.specs.Meetings.{IsMade}
use Rattle.share_meetings.specs.Shares.{IsOfShare}
use Rattle.edit_meetings.specs.EditMeetings.{EditsAreAllOrNothing}
use Rattle.edit_meetings.specs.Kept.{AddedNothing, IsAllOrNothing, IsKeptAt, IsStoppedBy}
use Rattle.edit_meetings.proofs.MetEdits.{edit_back, only_report, quiet_report, reads_as, same_point, stop_back}
use Rattle.edit_meetings.proofs.OneExchange.{IsLinkOf, all_written, link_of}
use Rattle.edit_meetings.proofs.OneReply.{AreQuiet, none_served, nothing_joins, served_one}
use Rattle.edit_meetings.proofs.PushBack.{edit_want, stop_want}
use Rattle.edit_meetings.proofs.Refusals.{answered_front, never, nothing}

-- ---- what a request added

-- nothing, or the entry that the answer adds
abbrev Added : (by : ℕ) (h : List Entry) (w : Want) (v : Served) → Type 0
Added by h w v =
    (v.added ≡ false)
    ⊎ ((e : Entry) × (adds (answered_on v.added (at_point h v)) by w ≡ Some e) × (at_point h v ≡ answered_on v.added (at_point h v) ++ e ∷ []))

by_adds : (by : ℕ) (h : List Entry) (w : Want) (v : Served) (found : Option Entry) → adds (answered_on v.added (at_point h v)) by w ≡ found
    → v.added ≡ is_some (adds (answered_on v.added (at_point h v)) by w) → added_part v.added (at_point h v) ≡ option_to_list (adds (answered_on v.added (at_point h v)) by w) → Added by h w v
by_adds by h w v None is added adds_it = inl (added ∙ ap (λ (o : Option Entry). is_some o) is)
by_adds by h w v (Some e) is added adds_it =
    inr (e, is, answered_front v.added (at_point h v) ∙ ap (λ (x : List Entry). answered_on v.added (at_point h v) ++ x) (adds_it ∙ ap (λ (o : Option Entry). option_to_list o) is))

what_added : (s : Settings) (by : ℕ) (h : List Entry) (w : Want) (v : Served) → IsServed s by h w v → Added by h w v
what_added s by h w v served = by_status (v.status == 500) served.how
  where
    by_status : (b : Bool) → MatchBool b (IsGivenUp v) (IsReplied s by (at_point h v) w v) → Added by h w v
    by_status true how = inl how.added
    by_status false how = by_adds by h w v (adds (answered_on v.added (at_point h v)) by w) refl how.added how.adds_it

never_some : (b : Bool) (e : Entry) → cond b nothing None ≡ Some e → ⊥
never_some b e is = true≢false (sym (ap (λ (o : Option Entry). is_some o) is) ∙ never b)

picked : (b : Bool) (made e : Entry) → cond b nothing (Some made) ≡ Some e → made ≡ e
picked true made e is = absurd (cc)
picked false made e is = cc

-- an edit adds only the batch that its bytes read as
batch_added : (p : List Entry) (by : ℕ) (bytes : List ℕ) (r : Role) (read : Result (List Edit) RecordError) (e : Entry) → BodyReads bytes read → adds p by (edit_want r read) ≡ Some e
    → (batch : List Edit) × BodyReads bytes (Ok batch) × (e ≡ Edits by batch)
batch_added p by bytes role.Listen read e reads is = absurd (never_some (is_some (refusal p (edit_want role.Listen read))) e is)
batch_added p by bytes role.Edit (Err error) e reads is = absurd (never_some (is_some (refusal p (edit_want role.Edit (Err error)))) e is)
batch_added p by bytes role.Edit (Ok []) e reads is = absurd (never_some (is_some (refusal p (edit_want role.Edit (Ok [])))) e is)
batch_added p by bytes role.Edit (Ok (d ∷ ds)) e reads is =
    (d ∷ ds, reads, sym (picked (is_some (refusal p (edit_want role.Edit (Ok (d ∷ ds))))) (Edits by (d ∷ ds)) e is))

stop_added : (p : List Entry) (by : ℕ) (r : Role) (e : Entry) → adds p by (stop_want r) ≡ Some e → e ≡ Stop by
stop_added p by role.Listen e is = absurd (never_some (is_some (refusal p (stop_want role.Listen))) e is)
stop_added p by role.Edit e is = sym (picked (is_some (refusal p (stop_want role.Edit))) (Stop by) e is)

-- ---- the one request

module _ (s : Settings) (h : List Entry) (report : LinkReport) (input output : List ℕ) (o : IsOfShare s h report input output) where
  unread : input ≡ [] → AddedNothing report
  unread none =
      let joins : Joins o.role [] o.link.asks o.link.rest = subst (λ (bytes : List ℕ). Joins o.role bytes o.link.asks o.link.rest) none o.link.joins in
      let served : o.link.served ≡ [] = none_served s report.number o.seen o.link.asks o.link.served (nothing_joins o.role o.link.asks o.link.rest joins) o.link.are_served in
      quiet_report s h report input output o (subst AreQuiet (sym served) tt)

  one_of : (text lost : List ℕ) (w : Want) → text ≡ input ++ lost → ReadsAs o.role text w
      → (o.link.served ≡ []) ⊎ ((v : Served) × (o.link.served ≡ v ∷ []) × IsServed s report.number o.seen w v)
  one_of text lost w reached back =
      served_one s report.number o.role o.seen text (o.link.rest ++ lost) w o.link.asks o.link.served back
      (subst (λ (bytes : List ℕ). Joins o.role bytes o.link.asks (o.link.rest ++ lost)) (sym reached ∙ sym (append-nil text)) (joins_stay o.role input lost o.link.asks o.link.rest o.link.joins))
      o.link.are_served

  edit_once : (host bytes lost : List ℕ) → IsHost host → length bytes ≤ 4194304 → push_text (Some bytes) host ≡ input ++ lost → AddedNothing report ⊎ ((n : ℕ) × IsKeptAt report h bytes n)
  edit_once host bytes lost is_host small reached =
      by_one (one_of (push_text (Some bytes) host) lost (edit_want o.role (reads_as bytes).0) reached (edit_back o.role host bytes is_host small))
    where
      by_added : (v : Served) → o.link.served ≡ v ∷ [] → v.point ≤ length o.seen → Added report.number o.seen (edit_want o.role (reads_as bytes).0) v → AddedNothing report ⊎ ((n : ℕ) × IsKeptAt report h bytes n)
      by_added v only within (inl none) = inl (quiet_report s h report input output o (subst AreQuiet (sym only) (none, tt)))
      by_added v only within (inr (e, is, grows)) =
          let p : List Entry = answered_on v.added (at_point o.seen v) in
          let found = batch_added p report.number bytes o.role (reads_as bytes).0 e (reads_as bytes).1 is in
          inr (
            revision (batches (at_point h v)),
            record {
              batch = found.0;
              reads = found.1;
              served = v;
              only = only_report s h report input output o v only;
              before = p;
              added = same_point s h report input output o v within ∙ grows ∙ ap (λ (x : Entry). answered_on v.added (at_point o.seen v) ++ x ∷ []) found.2;
              later = drop v.point h;
              begins = sym (take-append-drop v.point h);
              made = refl;
            },
          )

      by_one : (o.link.served ≡ []) ⊎ ((v : Served) × (o.link.served ≡ v ∷ []) × IsServed s report.number o.seen (edit_want o.role (reads_as bytes).0) v)
          → AddedNothing report ⊎ ((n : ℕ) × IsKeptAt report h bytes n)
      by_one (inl none) = inl (quiet_report s h report input output o (subst AreQuiet (sym none) tt))
      by_one (inr (v, only, served)) = by_added v only served.within (what_added s report.number o.seen (edit_want o.role (reads_as bytes).0) v served)

  stop_once : (host lost : List ℕ) → IsHost host → push_text None host ≡ input ++ lost → AddedNothing report ⊎ IsStoppedBy report h
  stop_once host lost is_host reached = by_one (one_of (push_text None host) lost (stop_want o.role) reached (stop_back o.role host is_host))
    where
      by_added : (v : Served) → o.link.served ≡ v ∷ [] → v.point ≤ length o.seen → Added report.number o.seen (stop_want o.role) v → AddedNothing report ⊎ IsStoppedBy report h
      by_added v only within (inl none) = inl (quiet_report s h report input output o (subst AreQuiet (sym only) (none, tt)))
      by_added v only within (inr (e, is, grows)) =
          let p : List Entry = answered_on v.added (at_point o.seen v) in
          inr (record {
            served = v;
            only = only_report s h report input output o v only;
            before = p;
            added = same_point s h report input output o v within ∙ grows
                ∙ ap (λ (x : Entry). answered_on v.added (at_point o.seen v) ++ x ∷ []) (stop_added p report.number o.role e is);
            later = drop v.point h;
            begins = sym (take-append-drop v.point h);
          })

      by_one : (o.link.served ≡ []) ⊎ ((v : Served) × (o.link.served ≡ v ∷ []) × IsServed s report.number o.seen (stop_want o.role) v) → AddedNothing report ⊎ IsStoppedBy report h
      by_one (inl none) = inl (quiet_report s h report input output o (subst AreQuiet (sym none) tt))
      by_one (inr (v, only, served)) = by_added v only served.within (what_added s report.number o.seen (stop_want o.role) v served)

-- ---- the run

not_longer : (closed others : List Returned) (x : Returned) → closed ≡ closed ++ (others ++ x ∷ []) → ⊥
not_longer closed others x e =
    omega (arith, ap (λ (l : List Returned). length l) e, length-append closed (others ++ x ∷ []), length-append others (x ∷ []))

some_lists : (a b : List Returned) → ◌≡◌ {A = Option (List Returned)} (Some a) (Some b) → a ≡ b
some_lists a b e = cc

-- a run that made no connection is not of this one
not_made : (before after : NetSeen) (sent owed : List ℕ) → IsMade before after sent owed → after.written ≡ before.written → ⊥
not_made before after sent owed made same =
    not_longer made.closed made.others (sent, made.faulted)
    (some_lists made.closed (made.closed ++ (made.others ++ (sent, made.faulted) ∷ [])) (sym made.closed_are ∙ sym same ∙ made.written))

some_bytes : (a b : List ℕ) → ◌≡◌ {A = Option (List ℕ)} (Some a) (Some b) → a ≡ b
some_bytes a b e = cc

none_sent : (link : LinkSeen) (sent owed input lost : List ℕ) → IsLinkOf link sent owed → IsUnsent link → sent ≡ input ++ lost → input ≡ []
none_sent link sent owed input lost known unsent reached =
    no_front input lost (sym (some_bytes sent [] (sym known.taken ∙ unsent.unsent ∙ known.begun)) ∙ reached)
  where
    no_front : (xs ys : List ℕ) → [] ≡ xs ++ ys → xs ≡ []
    no_front [] ys e = refl
    no_front (x ∷ xs) ys e = absurd (cc)

-- what was sent in part leads to the whole
part_reached : (link : LinkSeen) (text sent owed input lost : List ℕ) → IsLinkOf link sent owed → AppendsPrefix link.begun link.taken text → sent ≡ input ++ lost
    → (more : List ℕ) × (text ≡ input ++ more)
part_reached link text sent owed input lost known part reached =
    let same : sent ≡ take part.0 text = all_written link.begun link.taken (take part.0 text) sent known.begun known.taken part.2 in (
      lost ++ drop part.0 text,
      sym (take-append-drop part.0 text) ∙ ap (λ (x : List ℕ). x ++ drop part.0 text) (sym same ∙ reached) ∙ append_assoc input lost (drop part.0 text),
    )

whole_reached : (host : List ℕ) (body : Option (List ℕ)) (link : LinkSeen) (result : Pushed) (sent owed input lost : List ℕ) → IsLinkOf link sent owed → HasPushed host body link result
    → sent ≡ input ++ lost → push_text body host ≡ input ++ lost
whole_reached host body link result sent owed input lost known x reached =
    let written : sent ≡ push_text body host ++ [] =
    all_written link.begun link.taken (push_text body host ++ []) sent known.begun known.taken
    (subst (λ (t : Option (List ℕ)). Appends link.begun t (push_text body host ++ [])) x.written x.exchanged.went.written) in
    sym (append-nil (push_text body host)) ∙ sym written ∙ reached

pub edits_are_all_or_nothing : EditsAreAllOrNothing
edits_are_all_or_nothing s h report input output host stop seen status sent owed lost o ends was_made reached is_host = by_ending ends.0 ends.2
  where
    quiet : (stop : Bool) → AddedNothing report → IsAllOrNothing stop report h seen
    quiet true none = inl none
    quiet false none = inl none

    by_body : (stop : Bool) (body : Option (List ℕ)) (more : List ℕ) → HasBody stop seen.before.input seen.after.input body → push_text body host ≡ input ++ more → IsAllOrNothing stop report h seen
    by_body true None more has whole = stop_once s h report input output o host more is_host whole
    by_body true (Some bytes) more has whole = absurd has
    by_body false None more has whole = absurd has
    by_body false (Some bytes) more has whole = by_once (edit_once s h report input output o host bytes more is_host has.within whole)
      where
        by_once : AddedNothing report ⊎ ((n : ℕ) × IsKeptAt report h bytes n) → IsAllOrNothing false report h seen
        by_once (inl none) = inl none
        by_once (inr (n, kept)) = inr (bytes, n, has, kept)

    by_part : (link : LinkSeen) (body : Option (List ℕ)) → IsLinkOf link sent owed → HasBody stop seen.before.input seen.after.input body → AppendsPrefix link.begun link.taken (push_text body host)
        → IsAllOrNothing stop report h seen
    by_part link body known has part =
        let whole = part_reached link (push_text body host) sent owed input lost known part reached in
        by_body stop body whole.0 has whole.1

    by_unsent : (link : LinkSeen) → IsLinkOf link sent owed → IsUnsent link → IsAllOrNothing stop report h seen
    by_unsent link known unsent = quiet stop (unread s h report input output o (none_sent link sent owed input lost known unsent reached))

    by_sending : (link : LinkSeen) (fault : Fault EditFault) → IsLinkOf link sent owed → StopsSending host stop seen.before.input seen.after.input link fault → IsAllOrNothing stop report h seen
    by_sending link (Own edit_fault.TooLong) known stops = by_unsent link known stops.1
    by_sending link (Own edit_fault.Unreached) known stops = absurd stops
    by_sending link (Own (edit_fault.Refused st text)) known stops =
        by_body stop stops.0 lost stops.1 (whole_reached host stops.0 link _ sent owed input lost known stops.2 reached)
    by_sending link (Own (edit_fault.Link e)) known stops =
        by_part link stops.1.0 known stops.1.1
        (written_part (push_text stops.1.0 host) (UnexpectedPush stops.1.0) (start_of link) link.taken e stops.1.2.stops)
    by_sending link Read known stops = by_unsent link known stops.2
    by_sending link Memory known (inl idle) = by_unsent link known idle.1
    by_sending link Memory known (inr part) = by_part link part.0 known part.1 part.2

    by_stops : (fault : Fault EditFault) → StopsEdit host stop seen.before seen.after fault → IsAllOrNothing stop report h seen
    by_stops fault (inl idle) =
        absurd (not_made seen.before.around.net seen.after.around.net sent owed was_made (ap (λ (n : NetSeen). n.written) idle.0.net))
    by_stops fault (inr (inl unlinked)) = absurd (not_made seen.before.around.net seen.after.around.net sent owed was_made unlinked.unreached.written)
    by_stops fault (inr (inr linked)) =
        by_sending linked.link fault (link_of host seen.before.around.net seen.after.around.net linked.link sent owed linked.linked was_made) linked.stops

    by_sent : (link : LinkSeen) (body : Option (List ℕ)) (result : Pushed) → IsLinkOf link sent owed → HasBody stop seen.before.input seen.after.input body → HasPushed host body link result
        → IsAllOrNothing stop report h seen
    by_sent link body result known has x = by_body stop body lost has (whole_reached host body link result sent owed input lost known x reached)

    by_ending : (ending : Ending EditFault) → EndsAs (edit_meaning host stop) seen ending → IsAllOrNothing stop report h seen
    by_ending (Done text) happens =
        let done = happens.0 in
        by_sent done.link done.sent.0 done.made (link_of host seen.before.around.net seen.after.around.net done.link sent owed done.linked was_made) done.sent.1 done.sent.2
    by_ending (OutputCut text) happens =
        let done : IsEditDone host stop seen.before seen.after happens.last = happens.begun.0 in
        by_sent done.link done.sent.0 done.made (link_of host seen.before.around.net seen.after.around.net done.link sent owed done.linked was_made) done.sent.1 done.sent.2
    by_ending (Refused front fault) happens = by_stops fault happens.0.0
    by_ending (LineCut front fault) happens = by_stops fault happens.0.0
