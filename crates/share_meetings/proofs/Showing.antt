-- However a run of `follow` over a connection of a share ended, it wrote the text of revisions of the share.
use Rattle.std.proofs.Common.{◌≡◌, ◌≤◌, ℕ, ◌+◌, List, [], ◌∷◌, ◌++◌, take, length, Option, IfSome, IsUtf8, refl, sym, ap, ◌∙◌, subst, inl, inr, append-nil, length-append, arith}
use Rattle.std.proofs.lemmas.List.{append_cancel_left}
use Rattle.item_model.specs.declared.changes.Entry.{Entry}
use Rattle.item_model.specs.declared.request.Target.{Target}
use Rattle.share_history.specs.Histories.{batches, revision, up_to}
use Rattle.share_history.specs.Listings.{Listing}
use Rattle.share_history.specs.Whole.{IsWhole}
use Rattle.share_history.proofs.WholeFacts.{point_whole}
use Rattle.share_replies.specs.Settings.{Settings}
use Rattle.share_server.specs.declared.report.LinkReport.{LinkReport}
use Rattle.share_server.specs.declared.report.Served.{Served}
use Rattle.share_server.specs.Passes.{Rises}
use Rattle.http_client.specs.Requests.{HasListNumber, IsHost}
use Rattle.mirror_core.specs.declared.mirror.Applied.{Applied}
use Rattle.mirror_core.specs.Mirrored.{Mirrored}
use Rattle.mirror_client.specs.declared.refusal.FollowError.{FollowError}
use Rattle.mirror_client.specs.Exchanges.{requests}
use Rattle.mirror_client.specs.Laws.{AreAnswers}
use Rattle.mirror_client.specs.Stages.{listings_in}
use Rattle.mirror_client.specs.Steps.{with_listings}
use Rattle.command_core.specs.declared.fault.Fault.{Fault}
use Rattle.command_core.specs.declared.fault.Fault.TheVariants as fault
use Rattle.command_core.specs.Endings.{Done, Ending, IsWritten, LineCut, OutputCut, Refused}
use Rattle.command_core.specs.Faults.{fault_line, fault_status}
use Rattle.command_core.specs.Seen.{NetSeen, Run}
use Rattle.link_commands.specs.declared.follow.FollowFault.{FollowFault}
use Rattle.link_commands.specs.declared.follow.FollowFault.TheVariants.{Query, Meta, Unreached, Link}
use Rattle.link_commands.specs.FollowShare.{HasRounds, IsFollowBegun, IsFollowDone, IsLinkedFor, MayWant, StopsFollowBy, StopsFollowing, follow_line, follow_meaning, follow_status, lines_of}
use Rattle.link_commands.specs.Linked.{LinkSeen, start_of}
use Rattle.link_commands.specs.Looks.{AsksMirror}
use Rattle.link_commands.specs.Meanings.{EndsAs, IsCutBehind, ending_status}
use Rattle.link_commands.specs.RoundLines.{round_lines, shown_rows}
use Rattle.link_commands.proofs.LinkedFacts.{owed_is}
use Rattle.share_meetings.specs.ServedRuns.{Rise}
use Rattle.share_meetings.specs.Mirrors.{AreBehindLogin, AreListed, AreNew, HoldsLast, HoldsTheShare}
use Rattle.share_meetings.proofs.Meeting.{walkers_hold_the_share, written_before}
use Rattle.share_meetings.proofs.Prefixes.{rise_short}
use Rattle.share_meetings.specs.Laws.{FollowShowsAnyShare}
use Rattle.share_meetings.specs.Meetings.{IsMade}
use Rattle.share_meetings.specs.Shares.{IsOfShare}
use Rattle.share_meetings.specs.Shown.{AreAfterLogin, AreRising, Shows, ShowsAsked, Wrote, all, cut_line, cut_rows, refused, refused_cut}
use Rattle.share_meetings.specs.Texts.{follow_text, last_of, line_at, lines_at, rows_text}
use Rattle.share_meetings.proofs.AskedMirrors.{asked_mirrors_can_be_asked}
use Rattle.share_meetings.proofs.Endings.{HasCome, IsKnown, faults_fail, few_walked, followed_come, known, not_unwritten, rounds_come, stopped_come}
use Rattle.share_meetings.proofs.Lines.{lines_more, lines_shown, rows_shown}
use Rattle.share_meetings.proofs.Points.{AreAnsweredAt, AreAnswersTo, after_login, answered_at, answered_behind, answers_before, answers_front, as_many, behind_front, each_told, last_there, listed_front, new_front, revisions_more, revisions_of, rise_front, rising}

module _ (s : Settings) (h : List Entry) (report : LinkReport) (m : Mirrored) where
  -- these listings are the share's at these revisions, with their lines
  record AreShown (told : List Listing) (revisions : List ℕ) : Type 0 where
    rises : AreRising 0 (revision (batches h)) revisions
    fresh : AreAfterLogin report h revisions
    answered : AreAnsweredAt report h 2 revisions
    many : length revisions ≡ length told
    lines : lines_of m told ≡ lines_at s.keep m.target m.query m.meta (batches h) 0 revisions

  shown_at : (points : List (List Entry)) (told : List Listing) → m.held.revision ≡ 0 → Rise points h → AreListed h report.served 2 points → AreBehindLogin report.number h report.served points
      → AreNew points → AreAnswers s.keep m.target m.query m.meta m.held.revision points told → AreShown told (revisions_of points)
  shown_at points told zero rise listed behind new are = record {
    rises = rising h points rise new;
    fresh = after_login report h points behind;
    answered = answered_at report h 2 points listed;
    many = as_many points ∙ each_told s.keep m.target m.query m.meta m.held.revision points told are;
    lines =
        lines_shown s.keep m.target m.query m.meta h points told m.held rise
        (subst (λ (base : ℕ). AreAnswers s.keep m.target m.query m.meta base points told) zero are);
  }

  -- the first of the listings that a mirror applied
  first_shown : (now : Mirrored) (told others ls : List Listing) → m.held.revision ≡ 0 → HoldsTheShare s report.number h report.served m ls now → ls ≡ told ++ others
      → (revisions : List ℕ) × AreShown told revisions
  first_shown now told others ls zero holds split = (
    revisions_of (take (length told) holds.points),
    shown_at (take (length told) holds.points) told zero (rise_front (length told) holds.points h holds.rise)
        (listed_front h report.served 2 (length told) holds.points holds.listed) (behind_front report h (length told) holds.points holds.behind) (new_front (length told) holds.points holds.new)
        (answers_front s.keep m.target m.query m.meta m.held.revision holds.points told others
        (subst (λ (xs : List Listing). AreAnswers s.keep m.target m.query m.meta m.held.revision holds.points xs) split holds.answers)),
  )

  -- all of them, and the rows behind their lines
  all_shown : (now : Mirrored) (ls : List Listing) → m.held.revision ≡ 0 → 1 ≤ length ls → HoldsTheShare s report.number h report.served m ls now
      → (revisions : List ℕ) × AreShown ls revisions × (lines_of m ls ++ shown_rows now.held.rows ≡ follow_text s.keep m.target m.query m.meta (batches h) revisions)
  all_shown now ls zero positive holds =
      let are = shown_at holds.points ls zero holds.rise holds.listed holds.behind holds.new holds.answers in (
        revisions_of holds.points,
        are,
        ap (λ (text : List ℕ). text ++ shown_rows now.held.rows) are.lines
            ∙ ap (λ (rows : List ℕ). lines_at s.keep m.target m.query m.meta (batches h) 0 (revisions_of holds.points) ++ rows) (by_points holds.points holds.rise holds.answers holds.holds),
      )
    where
      by_points : (points : List (List Entry)) → Rise points h → AreAnswers s.keep m.target m.query m.meta m.held.revision points ls → HoldsLast m points now
          → shown_rows now.held.rows ≡ rows_text m.target m.query m.meta (batches h) (revisions_of points)
      by_points [] rise are last =
          absurd (let many = each_told s.keep m.target m.query m.meta m.held.revision [] ls are in omega (arith, many, positive))
      by_points (p ∷ points) rise are last = rows_shown s.keep m.target m.query m.meta h p points now.held rise last

  -- all but the last of the listings, and the line of the last
  record IsLastShown (ls : List Listing) (l : Listing) (front line : List ℕ) : Type 0 where
    earlier : List ℕ
    v : ℕ
    are : AreShown (ls ++ l ∷ []) (earlier ++ v ∷ [])
    front_is : front ≡ lines_at s.keep m.target m.query m.meta (batches h) 0 earlier
    line_is : line ≡ line_at s.keep m.target m.query m.meta (last_of 0 earlier) (up_to (batches h) v)

  last_shown : (now : Mirrored) (ls : List Listing) (l : Listing) (front line : List ℕ) → m.held.revision ≡ 0 → HoldsTheShare s report.number h report.served m (ls ++ l ∷ []) now
      → front ≡ lines_of m ls → front ++ line ≡ lines_of m (ls ++ l ∷ []) → IsLastShown ls l front line
  last_shown now ls l front line zero holds front_is all_is = record {
    earlier = revisions_of x.earlier;
    v = revision (batches x.last);
    are = are;
    front_is = front_lines;
    line_is = append_cancel_left (lines_at s.keep m.target m.query m.meta (batches h) 0 (revisions_of x.earlier)) line
        (line_at s.keep m.target m.query m.meta (last_of 0 (revisions_of x.earlier)) (up_to (batches h) (revision (batches x.last))))
        (ap (λ (text : List ℕ). text ++ line) (sym front_lines) ∙ all_is ∙ are.lines
        ∙ lines_more s.keep m.target m.query m.meta h 0 (revisions_of x.earlier) (revision (batches x.last)));
  }
    where
      x : AreAnswersTo s.keep m.target m.query m.meta m.held.revision holds.points ls
      x = answers_before s.keep m.target m.query m.meta m.held.revision holds.points ls l holds.answers

      rise : Rise (x.earlier ++ x.last ∷ []) h
      rise = subst (λ (points : List (List Entry)). Rise points h) x.are_points holds.rise

      are : AreShown (ls ++ l ∷ []) (revisions_of x.earlier ++ revision (batches x.last) ∷ [])
      are = subst (λ (vs : List ℕ). AreShown (ls ++ l ∷ []) vs) (ap revisions_of x.are_points ∙ revisions_more x.earlier x.last)
          (shown_at holds.points (ls ++ l ∷ []) zero holds.rise holds.listed holds.behind holds.new holds.answers)

      front_lines : front ≡ lines_at s.keep m.target m.query m.meta (batches h) 0 (revisions_of x.earlier)
      front_lines = front_is
          ∙ lines_shown s.keep m.target m.query m.meta h x.earlier ls m.held (rise_short x.earlier x.last h h (last_there x.earlier x.last h rise) rise)
          (subst (λ (base : ℕ). AreAnswers s.keep m.target m.query m.meta base x.earlier ls) zero x.answers)

module _ (s : Settings) (h : List Entry) (report : LinkReport) (input output : List ℕ) (of : IsOfShare s h report input output)
    (host : List ℕ) (rounds : ℕ) (query meta : Option (List ℕ)) (target : Target) (seen : Run) (sent owed lost dropped : List ℕ)
    (made : IsMade seen.before.around.net seen.after.around.net sent owed) (reached : sent ≡ input ++ lost) (answered : output ≡ owed ++ dropped)
    (some : 1 ≤ rounds) (host_is : IsHost host) (list : HasListNumber target) (utf8 : IfSome query IsUtf8) where
  abbrev Showing : ℕ → Type 0
  Showing status = ShowsAsked s.keep report h rounds target query meta seen.output_before seen.output_after status

  shown_for : (m : Mirrored) (asks : AsksMirror query meta target m) (status : ℕ)
      → Shows s.keep report h rounds m.target m.query m.meta seen.output_before seen.output_after status → Showing status
  shown_for m asks status shows = record {
    asked = asks.asked;
    shown = asks.shown;
    query_is = asks.query_is;
    meta_is = asks.meta_is;
    shows = subst (λ (k : Mirrored). Shows s.keep report h rounds k.target k.query k.meta seen.output_before seen.output_after status) asks.is shows;
  }

  -- ---- what the mirror held

  module _ (m : Mirrored) (link : LinkSeen) (for : IsLinkedFor host query meta target seen.before seen.after m link) where
    zero : m.held.revision ≡ 0
    zero = ap (λ (k : Mirrored). k.held.revision) for.asks.is

    held_there : (come : HasCome host m rounds link) → HoldsTheShare s report.number h report.served m (listings_in come.stage) (with_listings m (listings_in come.stage))
    held_there come =
        let is : IsKnown link sent owed = known host seen.before.around.net seen.after.around.net sent owed link made for.linked in
        let split = written_before link.begun come.there.taken link.taken (requests come.walks.exchanges) come.part sent is.begun is.taken come.walks.went.written come.written in
        let whole : IsWhole of.seen = point_whole of.seen of.later (subst IsWhole of.begins of.whole) in
        let holds = walkers_hold_the_share host m rounds (start_of link) come.stage come.there s report.number of.limit of.role of.seen of.later (requests come.walks.exchanges) come.part
        input lost output owed dropped come.walks of.link (inl (ap (λ (k : Mirrored). k.held.revision) for.asks.is))
        (asked_mirrors_can_be_asked query meta target m host for.asks host_is list utf8) whole is.begun split.0 (owed_is link owed is.left) (sym split.1 ∙ reached) answered in
        subst (λ (k : List Entry). HoldsTheShare s report.number k report.served m (listings_in come.stage) (with_listings m (listings_in come.stage))) (sym of.begins)
        (subst (λ (served : List Served). HoldsTheShare s report.number (of.seen ++ of.later) served m (listings_in come.stage) (with_listings m (listings_in come.stage))) of.reported holds)

  -- ---- what was written

  by_wrote : (m : Mirrored) (asks : AsksMirror query meta target m) (told : List Listing) (revisions : List ℕ) → AreShown s h report m told revisions → length told ≤ rounds
      → (status : ℕ)
      → Wrote s.keep rounds m.target m.query m.meta (batches h) revisions seen.output_before seen.output_after status
      → (status ≡ 0 → length told ≡ rounds) → Showing status
  by_wrote m asks told revisions are few status wrote each =
      let many = are.many in
      let two : 2 ≡ 1 + 1 = omega arith in
      shown_for m asks status (record {
        revisions = revisions;
        rising = are.rises;
        fresh = are.fresh;
        answered = answered_behind report h (length of.seen) 1 revisions
            (subst (λ (served : List Served). Rises 0 served (length of.seen)) of.reported of.link.rises)
            (subst (λ (n : ℕ). AreAnsweredAt report h n revisions) two are.answered);
        few = omega (arith, few, many);
        wrote = wrote;
        all_rounds = λ e. many ∙ each e;
      })

  -- all rounds were followed, and this is the text of them, which begins with their lines
  record IsWholeText (text front : List ℕ) : Type 0 where
    m : Mirrored
    asks : AsksMirror query meta target m
    listings : List Listing
    each : length listings ≡ rounds
    revisions : List ℕ
    are : AreShown s h report m listings revisions
    front_is : front ≡ lines_at s.keep m.target m.query m.meta (batches h) 0 revisions
    is : text ≡ follow_text s.keep m.target m.query m.meta (batches h) revisions

  done_text : (text : List ℕ) → (d : IsFollowDone host rounds query meta target seen.before seen.after text) → IsWholeText text (round_lines d.applied)
  done_text text d =
      let f = d.followed.followed in
      let each = f.one_each in
      let shown = all_shown s h report d.m (with_listings d.m f.listings) f.listings (zero d.m d.link d.for) (omega (arith, each, some))
      (held_there d.m d.link d.for (followed_come host d.m rounds d.link d.applied d.now f)) in
      record {
        m = d.m;
        asks = d.for.asks;
        listings = f.listings;
        each = each;
        revisions = shown.0;
        are = shown.1;
        front_is = ap round_lines f.told ∙ shown.1.lines;
        is =
            d.written
            ∙ ap (λ (applied : List Applied). round_lines applied ++ shown_rows d.now.held.rows) f.told
            ∙ ap (λ (now : Mirrored). lines_of d.m f.listings ++ shown_rows now.held.rows) f.holds ∙ shown.2;
      }

  whole_so : (text front : List ℕ) → IsWholeText text front → IsWritten seen.output_before seen.output_after text → Showing 0
  whole_so text front x w =
      let each = x.each in
      let many = x.are.many in
      by_wrote x.m x.asks x.listings x.revisions x.are (omega (arith, each)) 0 (all (many ∙ each) (subst (λ (bs : List ℕ). IsWritten seen.output_before seen.output_after bs) x.is w)) (λ e. each)

  -- the output failed in the rows
  rows_cut_so : (front rows : List ℕ) → IsWholeText (front ++ rows) front → IsCutBehind seen.output_before seen.output_after front rows → Showing 5
  rows_cut_so front rows x c =
      let each = x.each in
      let lines : List ℕ = lines_at s.keep x.m.target x.m.query x.m.meta (batches h) 0 x.revisions in
      let rows_are : rows ≡ rows_text x.m.target x.m.query x.m.meta (batches h) x.revisions =
      append_cancel_left (lines_at s.keep x.m.target x.m.query x.m.meta (batches h) 0 x.revisions) rows (rows_text x.m.target x.m.query x.m.meta (batches h) x.revisions)
      (ap (λ (text : List ℕ). text ++ rows) (sym x.front_is) ∙ x.is) in
      by_wrote x.m x.asks x.listings x.revisions x.are (omega (arith, each)) 5
      (cut_rows (x.are.many ∙ each)
      (subst (λ (bs : List ℕ). IsCutBehind seen.output_before seen.output_after bs (rows_text x.m.target x.m.query x.m.meta (batches h) x.revisions)) x.front_is
      (subst (λ (bs : List ℕ). IsCutBehind seen.output_before seen.output_after front bs) rows_are c))) (λ e. each)

  -- the output failed in the line of a round
  line_cut_so : (m : Mirrored) (link : LinkSeen) (for : IsLinkedFor host query meta target seen.before seen.after m link) (front line : List ℕ) → HasRounds host m rounds link front line
      → IsCutBehind seen.output_before seen.output_after front line → Showing 5
  line_cut_so m link for front line r c =
      let come = rounds_come host m rounds link front line r in
      let x = last_shown s h report m (with_listings m (r.earlier ++ r.last ∷ [])) r.earlier r.last front line (zero m link for) (held_there m link for come) r.lines r.all_lines in
      by_wrote m for.asks (r.earlier ++ r.last ∷ []) (x.earlier ++ x.v ∷ []) x.are (few_walked host m rounds (start_of link) r.there come.stage some r.walks) 5
      (cut_line x.earlier x.v refl
      (subst (λ (bs : List ℕ). IsCutBehind seen.output_before seen.output_after bs (line_at s.keep m.target m.query m.meta (last_of 0 x.earlier) (up_to (batches h) x.v))) x.front_is
      (subst (λ (bs : List ℕ). IsCutBehind seen.output_before seen.output_after front bs) x.line_is c))) (λ e. absurd (omega (arith, e)))

  cut_so : (front last : List ℕ) → IsFollowBegun host rounds query meta target seen.before seen.after front last → IsCutBehind seen.output_before seen.output_after front last → Showing 5
  cut_so front last (inl d) c = rows_cut_so front last (subst (λ (bs : List ℕ). IsWholeText (front ++ last) bs) (sym d.1) (done_text (front ++ last) d.0)) c
  cut_so front last (inr b) c = line_cut_so b.0 b.1 b.2 front last b.3 c

  -- ---- before an error

  -- the lines of the first of the listings
  record AreFirstLines (front : List ℕ) : Type 0 where
    m : Mirrored
    asks : AsksMirror query meta target m
    told : List Listing
    few : length told ≤ rounds
    revisions : List ℕ
    are : AreShown s h report m told revisions
    is : front ≡ lines_of m told

  stopped_lines : (e : FollowError) (front : List ℕ) → StopsFollowing host rounds query meta target seen.before seen.after e front → AreFirstLines front
  stopped_lines e front x =
      let lines = x.stops.lines in
      let come = stopped_come host x.m rounds x.link e x.stops.now x.stops.stops in
      let few = few_walked host x.m rounds (start_of x.link) come.there come.stage some come.walks in
      let shown = first_shown s h report x.m (with_listings x.m (listings_in come.stage)) lines.told lines.others (listings_in come.stage) (zero x.m x.link x.for)
      (held_there x.m x.link x.for come) lines.split in
      record {
        m = x.m;
        asks = x.for.asks;
        told = lines.told;
        few = omega (arith, few, ap (λ (ls : List Listing). length ls) lines.split, length-append lines.told lines.others);
        revisions = shown.0;
        are = shown.1;
        is = lines.lines;
      }

  unmade : {A : Type 0} → seen.after.around.net.written ≡ seen.before.around.net.written → A
  unmade same = absurd (not_unwritten seen.before.around.net seen.after.around.net sent owed made same)

  wanted_lines : (front : List ℕ) → MayWant host rounds query meta target seen.before seen.after front → AreFirstLines front
  wanted_lines front (inl x) = unmade (ap (λ (n : NetSeen). n.written) x.0.net)
  wanted_lines front (inr (inl x)) = unmade x.0.unreached.written
  wanted_lines front (inr (inr (inl x))) = stopped_lines x.0 front x.1
  wanted_lines front (inr (inr (inr x))) =
      let f = x.5.followed in
      let each = f.one_each in
      let shown = first_shown s h report x.0 (with_listings x.0 f.listings) f.listings [] f.listings (zero x.0 x.2 x.4) (held_there x.0 x.2 x.4 (followed_come host x.0 rounds x.2 x.3 x.1 f))
      (sym (append-nil f.listings)) in
      record {
        m = x.0;
        asks = x.4.asks;
        told = f.listings;
        few = omega (arith, each);
        revisions = shown.0;
        are = shown.1;
        is = x.6 ∙ ap round_lines f.told;
      }

  lines_before : (f : Fault FollowFault) (front : List ℕ) → StopsFollowBy host rounds query meta target seen.before seen.after f front → AreFirstLines front
  lines_before (fault.Own (Query error)) front stops = unmade (ap (λ (n : NetSeen). n.written) stops.2.net)
  lines_before (fault.Own Meta) front stops = unmade (ap (λ (n : NetSeen). n.written) stops.2.net)
  lines_before (fault.Own Unreached) front stops = unmade stops.0.unreached.written
  lines_before (fault.Own (Link error)) front stops = stopped_lines error front stops.1
  lines_before fault.Read front stops = absurd stops
  lines_before fault.Memory front stops = wanted_lines front stops

  refused_so : (f : Fault FollowFault) (front : List ℕ) → AreFirstLines front → IsWritten seen.output_before seen.output_after (front ++ fault_line follow_line f)
      → Showing (fault_status follow_status f)
  refused_so f front x w =
      by_wrote x.m x.asks x.told x.revisions x.are x.few (fault_status follow_status f)
      (refused f (subst (λ (bs : List ℕ). IsWritten seen.output_before seen.output_after (bs ++ fault_line follow_line f)) (x.is ∙ x.are.lines) w)) (λ e. absurd (faults_fail f e))

  refused_cut_so : (f : Fault FollowFault) (front : List ℕ) → AreFirstLines front → IsCutBehind seen.output_before seen.output_after front (fault_line follow_line f) → Showing 5
  refused_cut_so f front x c =
      by_wrote x.m x.asks x.told x.revisions x.are x.few 5
      (refused_cut f (subst (λ (bs : List ℕ). IsCutBehind seen.output_before seen.output_after bs (fault_line follow_line f)) (x.is ∙ x.are.lines) c)) (λ e. absurd (omega (arith, e)))

  -- ---- all ends

  happens : (ending : Ending FollowFault) → EndsAs (follow_meaning host rounds query meta target) seen ending
      → Showing (ending_status (follow_meaning host rounds query meta target) ending)
  happens (Done text) x = whole_so text (round_lines x.0.applied) (done_text text x.0) x.1
  happens (OutputCut text) x = cut_so x.front x.last x.begun x.cut
  happens (Refused front f) x = refused_so f front (lines_before f front x.0) x.1
  happens (LineCut front f) x = refused_cut_so f front (lines_before f front x.0) x.1

pub follow_shows_any_share : FollowShowsAnyShare
follow_shows_any_share s h report input output host rounds query meta target seen status sent owed lost dropped of ends made reached answered some host_is list utf8 =
    subst (λ (n : ℕ). ShowsAsked s.keep report h rounds target query meta seen.output_before seen.output_after n) (sym ends.1)
    (happens s h report input output of host rounds query meta target seen sent owed lost dropped made reached answered some host_is list utf8 ends.0 ends.2)
