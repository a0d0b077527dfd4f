-- What a run of `edit` over a connection of a share tells of it.
use Rattle.std.proofs.Common.{◌≡◌, ◌≢◌, ◌≤◌, ◌⊎◌, ℕ, Bool, true, false, List, [], ◌∷◌, ◌++◌, take, drop, length, is_some, Option, Some, None, Result, Ok, Err, refl, sym, ap, ◌∙◌, subst, inl, inr, append_assoc, arith}
use Rattle.std.proofs.lemmas.List.{take-append-drop, take-append-le}
use Rattle.std.specs.Prelude.{codes}
use Rattle.item_model.specs.declared.changes.Edit.{Edit}
use Rattle.item_model.specs.declared.changes.Entry.{Entry}
use Rattle.records_import.specs.Records.{BatchReads}
use Rattle.records_import.specs.Table.{table_of}
use Rattle.records_import.specs.declared.refusal.RecordError.{RecordError}
use Rattle.records_import.specs.declared.refusal.RecordError.TheVariants as record_fault
use Rattle.records_import.proofs.Decided.{batch_for}
use Rattle.fault_lines.specs.Records.{records_line}
use Rattle.http_heads.specs.Limits.{reply_limit}
use Rattle.http_heads.specs.Messages.{print_message}
use Rattle.http_front.specs.Wants.{BodyReads}
use Rattle.http_client.specs.Replies.{Reply}
use Rattle.http_client.specs.Requests.{IsHost, message_text}
use Rattle.share_asks.specs.declared.ask.Role.{Role}
use Rattle.share_asks.specs.declared.ask.Role.TheVariants as role
use Rattle.share_asks.specs.declared.ask.Verb.TheVariants.{Post}
use Rattle.share_history.specs.Histories.{batches, revision}
use Rattle.share_history.specs.Sessions.{is_stopped}
use Rattle.share_history.specs.Whole.{IsWhole}
use Rattle.share_history.proofs.WholeFacts.{point_whole}
use Rattle.share_replies.specs.Added.{adds}
use Rattle.share_replies.specs.Replies.{Line, Reply as share_reply}
use Rattle.share_replies.specs.Settings.{Settings}
use Rattle.share_server.specs.declared.report.LinkReport.{LinkReport}
use Rattle.share_server.specs.declared.report.Served.{Served}
use Rattle.share_server.specs.Served.{added_part, answered_on, at_point}
use Rattle.command_core.specs.declared.fault.Fault.{Fault}
use Rattle.command_core.specs.declared.fault.Fault.TheVariants.{Memory, Own, Read}
use Rattle.command_core.specs.Endings.{Done, Ending, IsCut, IsWritten, LineCut, OutputCut, Refused}
use Rattle.command_core.proofs.Appending.{cut_more}
use Rattle.command_core.specs.Faults.{fault_line, fault_status}
use Rattle.command_core.specs.Seen.{Run}
use Rattle.mirror_client.specs.declared.pushing.Pushed.{Pushed}
use Rattle.mirror_client.specs.declared.pushing.Pushed.TheVariants as pushed
use Rattle.mirror_client.specs.Pushes.{push_text}
use Rattle.share_meetings.proofs.Answering.{ReadsAs}
use Rattle.link_commands.specs.declared.edit.EditFault.{EditFault}
use Rattle.link_commands.specs.declared.edit.EditFault.TheVariants as edit_fault
use Rattle.link_commands.specs.EditShare.{HasBody, HasPushed, IsEditDone, StopsEdit, edit_line, edit_meaning, edit_status, push_line}
use Rattle.link_commands.specs.Linked.{LinkSeen}
use Rattle.link_commands.specs.Meanings.{EndsAs, IsCutBehind, ending_status}
use Rattle.link_commands.proofs.PushFacts.{link_fails}
use Rattle.share_meetings.specs.Shares.{IsOfShare}
use Rattle.edit_meetings.specs.EditMeetings.{EditMeetsTheShare, EditTellsOfTheShare}
use Rattle.edit_meetings.specs.Kept.{Acknowledges, AddedNothing, IsFullFor, IsKeptAt, IsTrue, IsTrueOfEdit, IsTrueOfStop, TellsOf, failed, failed_cut, kept, line_of, made, made_cut, status_of, unchanged}
use Rattle.edit_meetings.proofs.KeptEdits.{Keeps, kept_by, line_told, none_by, stopped_by}
use Rattle.edit_meetings.proofs.LinesRead.{record_line_short}
use Rattle.edit_meetings.proofs.OneExchange.{IsLinkOf, answer_of, link_of}
use Rattle.edit_meetings.proofs.OneReply.{AreQuiet, HasFailure, HasReply}
use Rattle.edit_meetings.proofs.PushBack.{edit_reads, edit_want, stop_reads, stop_want}
use Rattle.edit_meetings.proofs.Refusals.{SaysOfEdit, SaysOfStop, answered_front, edit_quiet, edit_says, stop_quiet, stop_says, stopped_on}

-- ---- what is pushed

edit_text : (bytes host : List ℕ) → push_text (Some bytes) host ≡ message_text Post (codes "/edit") host bytes
unfolding push_text
edit_text bytes host = refl

stop_text : (host : List ℕ) → push_text None host ≡ message_text Post (codes "/stop") host []
unfolding push_text
stop_text host = refl

-- what the bytes read as is decided
pub reads_as : (bytes : List ℕ) → (read : Result (List Edit) RecordError) × BodyReads bytes read
reads_as bytes = by_answer (batch_for (table_of bytes))
  where
    by_answer : (answer : Result (List Edit) RecordError) × (answer ≢ Err record_fault.Memory) × BatchReads (table_of bytes) answer → (read : Result (List Edit) RecordError) × BodyReads bytes read
    by_answer (Ok edits, other, reads) = (Ok edits, reads)
    by_answer (Err error, other, reads) = (Err error, ((λ (e : error ≡ record_fault.Memory). other (ap (λ (x : RecordError). Err x) e)), reads))

pub edit_back : (r : Role) (host bytes : List ℕ) → IsHost host → length bytes ≤ 4194304 → ReadsAs r (push_text (Some bytes) host) (edit_want r (reads_as bytes).0)
edit_back r host bytes is_host small =
    subst (λ (t : List ℕ). ReadsAs r t (edit_want r (reads_as bytes).0)) (sym (edit_text bytes host)) (edit_reads r host bytes (reads_as bytes).0 is_host small (reads_as bytes).1)

pub stop_back : (r : Role) (host : List ℕ) → IsHost host → ReadsAs r (push_text None host) (stop_want r)
stop_back r host is_host = subst (λ (t : List ℕ). ReadsAs r t (stop_want r)) (sym (stop_text host)) (stop_reads r host is_host)

-- ---- what is true of it

module _ (s : Settings) (h : List Entry) (report : LinkReport) (input output : List ℕ) (o : IsOfShare s h report input output) where
  seen_whole : IsWhole o.seen
  seen_whole = point_whole o.seen o.later (subst IsWhole o.begins o.whole)

  -- the history at a request is one of the whole
  pub same_point : (v : Served) → v.point ≤ length o.seen → at_point h v ≡ at_point o.seen v
  same_point v within = ap (take v.point) o.begins ∙ take-append-le v.point o.seen o.later within

  pub only_report : (v : Served) → o.link.served ≡ v ∷ [] → report.served ≡ v ∷ []
  only_report v only = sym o.reported ∙ only

  pub quiet_report : AreQuiet o.link.served → AddedNothing report
  quiet_report quiet = subst AreQuiet o.reported quiet

  -- of a request that added nothing
  quiet_one : (v : Served) (found : Option Entry) → o.link.served ≡ v ∷ [] → v.added ≡ is_some found → is_some found ≡ false → AddedNothing report
  quiet_one v found only added none = quiet_report (subst AreQuiet (sym only) (added ∙ none, tt))

  kept_at : (n : ℕ) (bytes : List ℕ) → Keeps report.number o.seen o.link.served bytes n → IsKeptAt report h bytes n
  kept_at n bytes k = record {
    batch = k.batch;
    reads = k.reads;
    served = k.one;
    only = only_report k.one k.only;
    before = k.before;
    added = same_point k.one k.within ∙ k.added;
    later = drop k.one.point h;
    begins = sym (take-append-drop k.one.point h);
    made = k.made ∙ ap (λ (p : List Entry). revision (batches p)) (sym (same_point k.one k.within));
  }

  -- so is the one that an answer was computed from
  front_of : (v : Served) → (later : List Entry) × (h ≡ answered_on v.added (at_point o.seen v) ++ later)
  front_of v =
      let p : List Entry = at_point o.seen v in (
        added_part v.added p ++ (drop v.point o.seen ++ o.later),
        o.begins
            ∙ ap (λ (x : List Entry). x ++ o.later)
            (sym (take-append-drop v.point o.seen) ∙ ap (λ (x : List Entry). x ++ drop v.point o.seen) (answered_front v.added (at_point o.seen v)))
            ∙ append_assoc (answered_on v.added p ++ added_part v.added p) (drop v.point o.seen) o.later
            ∙ append_assoc (answered_on v.added p) (added_part v.added p) (drop v.point o.seen ++ o.later),
      )

  was_stopped : (v : Served) → is_stopped (answered_on v.added (at_point o.seen v)) ≡ true → is_stopped h ≡ true
  was_stopped v is =
      let front = front_of v in
      subst (λ (x : List Entry). is_stopped x ≡ true) (sym front.1) (stopped_on (answered_on v.added (at_point o.seen v)) front.0 is)

  -- ---- of a refused edit

  abbrev HasCause : (bytes : List ℕ) (status : ℕ) (text : List ℕ) → Type 0
  HasCause bytes status text =
      (status ≡ 400 → (error : RecordError) × BatchReads (table_of bytes) (Err error) × (text ≡ records_line error))
      × (status ≡ 507 → (batch : List Edit) × BatchReads (table_of bytes) (Ok batch) × IsFullFor h batch)
      × (status ≡ 503 → is_stopped h ≡ true)

  refused_so : (bytes : List ℕ) (v : Served) (status : ℕ) (text : List ℕ) (reply : share_reply) (r : Role) (read : Result (List Edit) RecordError) → status ≡ reply.status → BodyReads bytes read
      → ((line : List ℕ) → reply.status ≡ 400 → reply.body ≡ Line line → length line ≤ reply_limit → text ≡ line)
      → ((is_stopped (answered_on v.added (at_point o.seen v)) ≡ true) × (reply.status ≡ 503)) ⊎ SaysOfEdit (answered_on v.added (at_point o.seen v)) r read reply
      → HasCause bytes status text
  refused_so bytes v status text reply r read same reads told (inl stopped) = (
    (λ e. absurd (omega (arith, e, same, stopped.1))),
    (λ e. absurd (omega (arith, e, same, stopped.1))),
    (λ e. was_stopped v stopped.0),
  )
  refused_so bytes v status text reply role.Listen read same reads told (inr none) =
      ((λ e. absurd (omega (arith, e, same, none))), (λ e. absurd (omega (arith, e, same, none))), (λ e. absurd (omega (arith, e, same, none))))
  refused_so bytes v status text reply role.Edit (Err error) same reads told (inr bad) = (
    (λ e. (error, reads.1, told (records_line error) bad.0 bad.1 (record_line_short error))),
    (λ e. absurd (omega (arith, e, same, bad.0))),
    (λ e. absurd (omega (arith, e, same, bad.0))),
  )
  refused_so bytes v status text reply role.Edit (Ok []) same reads told (inr none) =
      ((λ e. absurd (omega (arith, e, same, none))), (λ e. absurd (omega (arith, e, same, none))), (λ e. absurd (omega (arith, e, same, none))))
  refused_so bytes v status text reply role.Edit (Ok (e ∷ es)) same reads told (inr (inl full)) =
      let front = front_of v in (
        (λ is. absurd (omega (arith, is, same, full.1))),
        (λ is. (e ∷ es, reads, record { point = answered_on v.added (at_point o.seen v); later = front.0; begins = front.1; full = full.0 })),
        (λ is. absurd (omega (arith, is, same, full.1))),
      )
  refused_so bytes v status text reply role.Edit (Ok (e ∷ es)) same reads told (inr (inr success)) =
      ((λ is. absurd (omega (arith, is, same, success))), (λ is. absurd (omega (arith, is, same, success))), (λ is. absurd (omega (arith, is, same, success))))

  -- ---- of an edit

  edit_quiet_so : (bytes : List ℕ) {text : List ℕ} {answer : Reply} (reply : HasReply s report.number o.seen o.link.served (edit_want o.role (reads_as bytes).0) text answer)
      → reply.how.reply.status ≢ 200 → AddedNothing report
  edit_quiet_so bytes reply other =
      quiet_one reply.one (adds (answered_on reply.one.added (at_point o.seen reply.one)) report.number (edit_want o.role (reads_as bytes).0)) reply.only reply.how.added
      (edit_quiet s report.number (answered_on reply.one.added (at_point o.seen reply.one)) o.role (reads_as bytes).0 reply.how.reply reply.how.replies other)

  edit_true : (host bytes : List ℕ) (link : LinkSeen) (result : Pushed) (x : HasPushed host (Some bytes) link result) (more : List ℕ)
      → HasReply s report.number o.seen o.link.served (edit_want o.role (reads_as bytes).0) (print_message x.exchanged.message ++ more) x.answer
      ⊎ HasFailure o.link.served (print_message x.exchanged.message ++ more) x.answer → IsTrueOfEdit report h bytes result
  edit_true host bytes link (pushed.Revision n) x more (inl reply) =
      kept_at n bytes
      (kept_by s report.number o.seen o.link.served bytes (print_message x.exchanged.message ++ more) x.exchanged.message x.answer more seen_whole refl x.exchanged.went.answered.0
      o.role (reads_as bytes).0 n (reads_as bytes).1 reply x.is)
  edit_true host bytes link (pushed.Revision n) x more (inr failure) = absurd (omega (arith, failure.status, x.is.1.0))
  edit_true host bytes link pushed.Unchanged x more (inl reply) = (
    none_by s report.number o.seen o.link.served bytes (print_message x.exchanged.message ++ more) x.exchanged.message x.answer more seen_whole refl x.exchanged.went.answered.0
        o.role (reads_as bytes).0 (reads_as bytes).1 reply x.is,
    edit_quiet_so bytes reply (λ e. absurd (omega (arith, e, reply.status, x.is))),
  )
  edit_true host bytes link pushed.Unchanged x more (inr failure) = absurd (omega (arith, failure.status, x.is))
  edit_true host bytes link pushed.Stopped x more reply = absurd x.is
  edit_true host bytes link (pushed.Refused status text) x more (inl reply) =
      let same : status ≡ reply.how.reply.status = x.is.0.0 ∙ reply.status in
      let told : (line : List ℕ) → reply.how.reply.status ≡ 400 → reply.how.reply.body ≡ Line line → length line ≤ reply_limit → text ≡ line =
      λ line got body short. x.is.0.1
      ∙ line_told s report.number o.seen o.link.served (edit_want o.role (reads_as bytes).0) (print_message x.exchanged.message ++ more) x.answer reply x.exchanged.message more line refl
      x.exchanged.went.answered.0 got body short in
      let cause = refused_so bytes reply.one status text reply.how.reply o.role (reads_as bytes).0 (x.is.0.0 ∙ reply.status) (reads_as bytes).1 told
      (edit_says s (answered_on reply.one.added (at_point o.seen reply.one)) o.role (reads_as bytes).0 reply.how.reply reply.how.replies) in
      (edit_quiet_so bytes reply (λ e. x.is.1 (same ∙ e)), cause.0, cause.1, cause.2)
  edit_true host bytes link (pushed.Refused status text) x more (inr failure) =
      let same : status ≡ x.answer.0 = x.is.0.0 in
      let five : x.answer.0 ≡ 500 = failure.status in
      (quiet_report failure.quiet, (λ e. absurd (omega (arith, e, same, five))), (λ e. absurd (omega (arith, e, same, five))), (λ e. absurd (omega (arith, e, same, five))))

  -- ---- of a stop

  stop_refused : (v : Served) (status got : ℕ) (r : Role) → status ≡ got
      → ((is_stopped (answered_on v.added (at_point o.seen v)) ≡ true) × (got ≡ 503)) ⊎ SaysOfStop r got → status ≡ 503 → is_stopped h ≡ true
  stop_refused v status got r same (inl stopped) e = was_stopped v stopped.0
  stop_refused v status got role.Listen same (inr none) e = absurd (omega (arith, e, same, none))
  stop_refused v status got role.Edit same (inr done) e = absurd (omega (arith, e, same, done))

  stop_true : (host : List ℕ) (link : LinkSeen) (result : Pushed) (x : HasPushed host None link result) (more : List ℕ)
      → HasReply s report.number o.seen o.link.served (stop_want o.role) (print_message x.exchanged.message ++ more) x.answer
      ⊎ HasFailure o.link.served (print_message x.exchanged.message ++ more) x.answer → IsTrueOfStop report h result
  stop_true host link (pushed.Revision n) x more reply = absurd x.is
  stop_true host link pushed.Unchanged x more reply = absurd x.is
  stop_true host link pushed.Stopped x more (inl reply) = record {
    served = reply.one;
    only = only_report reply.one reply.only;
    before = answered_on reply.one.added (at_point o.seen reply.one);
    added = same_point reply.one reply.within
        ∙ stopped_by s report.number o.seen o.link.served [] (print_message x.exchanged.message ++ more) x.exchanged.message x.answer more seen_whole refl x.exchanged.went.answered.0
        o.role reply x.is;
    later = drop reply.one.point h;
    begins = sym (take-append-drop reply.one.point h);
  }
  stop_true host link pushed.Stopped x more (inr failure) = absurd (omega (arith, failure.status, x.is))
  stop_true host link (pushed.Refused status text) x more (inl reply) =
      let same : status ≡ reply.how.reply.status = x.is.0.0 ∙ reply.status in (
        quiet_one reply.one (adds (answered_on reply.one.added (at_point o.seen reply.one)) report.number (stop_want o.role)) reply.only reply.how.added
            (stop_quiet s report.number (answered_on reply.one.added (at_point o.seen reply.one)) o.role reply.how.reply reply.how.replies (λ e. x.is.1 (same ∙ e))),
        stop_refused reply.one status reply.how.reply.status o.role (x.is.0.0 ∙ reply.status)
            (stop_says s (answered_on reply.one.added (at_point o.seen reply.one)) o.role reply.how.reply reply.how.replies),
      )
  stop_true host link (pushed.Refused status text) x more (inr failure) =
      let same : status ≡ x.answer.0 = x.is.0.0 in
      let five : x.answer.0 ≡ 500 = failure.status in
      (quiet_report failure.quiet, (λ e. absurd (omega (arith, e, same, five))))

-- ---- the run

line_is : (result : Pushed) (text : List ℕ) → push_line result ≡ Ok text → (text ≡ line_of result) × (status_of result ≡ 0)
line_is (pushed.Revision n) text told = (sym (ok_line (line_of (pushed.Revision n)) text told), refl)
  where
    ok_line : (a b : List ℕ) → ◌≡◌ {A = Result (List ℕ) EditFault} (Ok a) (Ok b) → a ≡ b
    ok_line a b e = cc
line_is pushed.Unchanged text told = (sym (ok_line (line_of pushed.Unchanged) text told), refl)
  where
    ok_line : (a b : List ℕ) → ◌≡◌ {A = Result (List ℕ) EditFault} (Ok a) (Ok b) → a ≡ b
    ok_line a b e = cc
line_is pushed.Stopped text told = (sym (ok_line (line_of pushed.Stopped) text told), refl)
  where
    ok_line : (a b : List ℕ) → ◌≡◌ {A = Result (List ℕ) EditFault} (Ok a) (Ok b) → a ≡ b
    ok_line a b e = cc
line_is (pushed.Refused status text') text told = absurd (cc)

pub edit_tells_of_the_share : EditTellsOfTheShare
edit_tells_of_the_share s h report input output host stop seen status sent owed lost dropped o ends was_made reached answered is_host = by_ending ends.0 ends.1 ends.2
  where
    by_body : (stop : Bool) (body : Option (List ℕ)) (link : LinkSeen) (result : Pushed) → HasBody stop seen.before.input seen.after.input body → IsLinkOf link sent owed
        → HasPushed host body link result → IsTrue stop report h seen result
    by_body true None link result has known x =
        let a = answer_of s h report input output host None link sent owed lost dropped (stop_want o.role) result o known reached answered (stop_back o.role host is_host) x in
        (has, stop_true s h report input output o host link result x a.more a.is)
    by_body true (Some bytes) link result has known x = absurd has
    by_body false None link result has known x = absurd has
    by_body false (Some bytes) link result has known x =
        let a = answer_of s h report input output host (Some bytes) link sent owed lost dropped (edit_want o.role (reads_as bytes).0) result o known reached answered
        (edit_back o.role host bytes is_host has.within) x in
        (bytes, has, edit_true s h report input output o host bytes link result x a.more a.is)

    by_done : (text : List ℕ) (done : IsEditDone host stop seen.before seen.after text) → IsTrue stop report h seen done.made
    by_done text done =
        by_body stop done.sent.0 done.link done.made done.sent.1 (link_of host seen.before.around.net seen.after.around.net done.link sent owed done.linked was_made) done.sent.2

    by_stops : (st : ℕ) (text : List ℕ) → StopsEdit host stop seen.before seen.after (Own (edit_fault.Refused st text)) → IsTrue stop report h seen (pushed.Refused st text)
    by_stops st text (inl idle) = absurd (cc)
    by_stops st text (inr (inl unlinked)) = by_cause unlinked.is
      where
        by_cause : (◌≡◌ {A = Fault EditFault} (Own (edit_fault.Refused st text)) (Own edit_fault.Unreached)) ⊎ (◌≡◌ {A = Fault EditFault} (Own (edit_fault.Refused st text)) Memory)
            → IsTrue stop report h seen (pushed.Refused st text)
        by_cause (inl e) = absurd (cc)
        by_cause (inr e) = absurd (cc)
    by_stops st text (inr (inr linked)) =
        by_body stop linked.stops.0 linked.link (pushed.Refused st text) linked.stops.1
        (link_of host seen.before.around.net seen.after.around.net linked.link sent owed linked.linked was_made) linked.stops.2

    written_behind : (front line : List ℕ) → front ≡ [] → IsWritten seen.output_before seen.output_after (front ++ line) → IsWritten seen.output_before seen.output_after line
    written_behind front line none written = subst (λ (f : List ℕ). IsWritten seen.output_before seen.output_after (f ++ line)) none written

    cut_behind : (front line : List ℕ) → front ≡ [] → IsCutBehind seen.output_before seen.output_after front line → IsCut seen.output_before seen.output_after line
    cut_behind front line none cut =
        subst (λ (f : List ℕ). IsCut seen.output_before seen.output_after (f ++ line)) none (cut_more seen.output_before cut.at_cut seen.output_after front line cut.written cut.cut)

    by_fault : (front : List ℕ) (fault : Fault EditFault) → status ≡ fault_status edit_status fault → StopsEdit host stop seen.before seen.after fault → front ≡ []
        → IsWritten seen.output_before seen.output_after (front ++ fault_line edit_line fault) → TellsOf stop report h seen status
    by_fault front (Own (edit_fault.Refused st text)) is stops none written = made (pushed.Refused st text) (by_stops st text stops) (written_behind front _ none written) is
    by_fault front (Own edit_fault.TooLong) is stops none written = failed (Own edit_fault.TooLong) tt (written_behind front _ none written) is
    by_fault front (Own edit_fault.Unreached) is stops none written = failed (Own edit_fault.Unreached) tt (written_behind front _ none written) is
    by_fault front (Own (edit_fault.Link e)) is stops none written = failed (Own (edit_fault.Link e)) tt (written_behind front _ none written) is
    by_fault front Read is stops none written = failed Read tt (written_behind front _ none written) is
    by_fault front Memory is stops none written = failed Memory tt (written_behind front _ none written) is

    by_cut : (front : List ℕ) (fault : Fault EditFault) → status ≡ 5 → StopsEdit host stop seen.before seen.after fault → front ≡ []
        → IsCutBehind seen.output_before seen.output_after front (fault_line edit_line fault) → TellsOf stop report h seen status
    by_cut front (Own (edit_fault.Refused st text)) is stops none written = made_cut (pushed.Refused st text) (by_stops st text stops) (cut_behind front _ none written) is
    by_cut front (Own edit_fault.TooLong) is stops none written = failed_cut (Own edit_fault.TooLong) tt (cut_behind front _ none written) is
    by_cut front (Own edit_fault.Unreached) is stops none written = failed_cut (Own edit_fault.Unreached) tt (cut_behind front _ none written) is
    by_cut front (Own (edit_fault.Link e)) is stops none written = failed_cut (Own (edit_fault.Link e)) tt (cut_behind front _ none written) is
    by_cut front Read is stops none written = failed_cut Read tt (cut_behind front _ none written) is
    by_cut front Memory is stops none written = failed_cut Memory tt (cut_behind front _ none written) is

    by_ending : (ending : Ending EditFault) → status ≡ ending_status (edit_meaning host stop) ending → EndsAs (edit_meaning host stop) seen ending → TellsOf stop report h seen status
    by_ending (Done text) is happens =
        let line = line_is happens.0.made text happens.0.told in
        made happens.0.made (by_done text happens.0) (subst (λ (t : List ℕ). IsWritten seen.output_before seen.output_after t) line.0 happens.1) (is ∙ sym line.1)
    by_ending (OutputCut text) is happens =
        let done : IsEditDone host stop seen.before seen.after happens.last = happens.begun.0 in
        let line = line_is done.made happens.last done.told in
        made_cut done.made (by_done happens.last done)
        (subst (λ (t : List ℕ). IsCut seen.output_before seen.output_after t) line.0 (cut_behind happens.front happens.last happens.begun.1 happens.cut)) is
    by_ending (Refused front fault) is happens = by_fault front fault is happens.0.0 happens.0.1 happens.1
    by_ending (LineCut front fault) is happens = by_cut front fault is happens.0.0 happens.0.1 happens.1

-- ---- a run that succeeded

edit_fails : (fault : Fault EditFault) → fault_status edit_status fault ≡ 0 → ⊥
edit_fails (Own edit_fault.TooLong) h = absurd (cc)
edit_fails (Own edit_fault.Unreached) h = absurd (cc)
edit_fails (Own (edit_fault.Refused status text)) h = absurd (cc)
edit_fails (Own (edit_fault.Link e)) h = link_fails e h
edit_fails Read h = absurd (cc)
edit_fails Memory h = absurd (cc)

acknowledged : (report : LinkReport) (h : List Entry) (seen : Run) (result : Pushed) → IsTrue false report h seen result
    → IsWritten seen.output_before seen.output_after (line_of result) → status_of result ≡ 0 → Acknowledges report h seen
acknowledged report h seen (pushed.Revision n) is written zero = kept n is.0 is.1 is.2 written
acknowledged report h seen pushed.Unchanged is written zero = unchanged is.0 is.1 is.2.0 is.2.1 written
acknowledged report h seen pushed.Stopped is written zero = absurd is.2
acknowledged report h seen (pushed.Refused status text) is written zero = absurd (cc)

no_cut : (status : ℕ) → status ≡ 0 → status ≡ 5 → ⊥
no_cut status zero five = absurd (omega (arith, zero, five))

pub edit_meets_the_share : EditMeetsTheShare
edit_meets_the_share s h report input output host seen status sent owed lost dropped o ends zero was_made reached answered is_host =
    by_end (edit_tells_of_the_share s h report input output host false seen status sent owed lost dropped o ends was_made reached answered is_host)
  where
    by_end : TellsOf false report h seen status → Acknowledges report h seen
    by_end (made result is written same) = acknowledged report h seen result is written (sym same ∙ zero)
    by_end (made_cut result is written same) = absurd (no_cut status zero same)
    by_end (failed fault other written same) = absurd (edit_fails fault (sym same ∙ zero))
    by_end (failed_cut fault other written same) = absurd (no_cut status zero same)
