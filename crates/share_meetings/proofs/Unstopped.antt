-- A client whose requests were all answered with success stops at none of the replies.
use Rattle.std.proofs.Common.{◌≡◌, ◌⊎◌, ◌==◌, ◌+◌, ℕ, List, [], ◌∷◌, ◌++◌, take, Bool, true, false, cond, is_some, length, Option, Some, None, refl, sym, ap, ◌∙◌, subst, inl, inr, append_assoc, append-nil, arith}
use Rattle.std.specs.Prelude.{MatchBool}
use Rattle.dmap_tags.specs.Codes.{code}
use Rattle.dmap_tags.specs.Spelling.{spelling}
use Rattle.code_table.specs.declared.row.CodeRow.{CodeRow}
use Rattle.code_table.specs.Reply.{table_reply}
use Rattle.code_table.specs.Standard.{standard_rows}
use Rattle.item_model.specs.declared.changes.Entry.{Entry}
use Rattle.http_front.specs.Readings.{Joins, Reading, reading}
use Rattle.http_front.proofs.ReadingLaws.{first_ask, one_reading, reading_of_joined}
use Rattle.http_client.specs.Replies.{Reply}
use Rattle.http_client.specs.Requests.{request_text}
use Rattle.reply_bytes.specs.ReplyBytes.{failure_bytes}
use Rattle.share_asks.specs.declared.ask.Ask.{Ask}
use Rattle.share_asks.specs.declared.ask.Role.{Role}
use Rattle.share_asks.specs.declared.ask.Want.{Want}
use Rattle.share_asks.specs.declared.ask.Want.TheVariants as want
use Rattle.share_history.specs.Bodies.{listing_body}
use Rattle.share_history.specs.Histories.{batches, revision}
use Rattle.share_history.specs.Listings.{Listing}
use Rattle.share_history.specs.Mirror.{mirror_look}
use Rattle.share_history.specs.Sessions.{next_session}
use Rattle.share_replies.specs.Replies.{Answer, Body, answer_to, success}
use Rattle.share_replies.specs.Settings.{Settings}
use Rattle.share_replies.specs.SmallBodies.{login_body, revision_body}
use Rattle.share_server.specs.declared.report.Served.{Served}
use Rattle.share_server.specs.Passes.{Rises}
use Rattle.share_server.specs.Replies.{answer_bytes, due as due_end, replies_from}
use Rattle.share_server.specs.Served.{AreServed, IsGivenUp, IsReplied, IsServed, answered_on, at_point}
use Rattle.mirror_core.specs.Mirrored.{Mirrored}
use Rattle.mirror_client.specs.declared.refusal.FollowError.{FollowError}
use Rattle.mirror_client.specs.Exchanges.{messages, requests}
use Rattle.mirror_client.specs.Points.{Point}
use Rattle.mirror_client.specs.Stages.{Asking, Begun, Closed, Holding, Learned, Stage, UnexpectedAfter, UnexpectedIn, behind_round, due}
use Rattle.mirror_client.specs.Steps.{Known, UnexpectedEnd, UnexpectedListing, UnexpectedTable, held_after, with_listings}
use Rattle.mirror_client.specs.Stopping.{Stops}
use Rattle.mirror_client.specs.Tellings.{UnexpectedNumber}
use Rattle.share_meetings.specs.ServedRuns.{Serves, due_status}
use Rattle.share_history.specs.Whole.{IsWhole}
use Rattle.link_commands.proofs.FirstReply.{Begins, IsOutside, left_owed, owed_split, stops_outside}
use Rattle.share_meetings.proofs.Completes.{end_due, listing_due, number_due, table_due}
use Rattle.share_meetings.proofs.FilterShown.{login_tag, revision_tag}
use Rattle.share_meetings.proofs.Successes.{good_status, success_is}
use Rattle.share_meetings.specs.MirrorLaws.{FollowersAreNotStopped}
use Rattle.share_meetings.specs.Links.{IsSuccess}
use Rattle.share_meetings.specs.Mirrors.{CanBeAsked}
use Rattle.share_meetings.proofs.Answering.{ReadsBack, Says, open_ask}
use Rattle.share_meetings.proofs.Asking.{codes_back, codes_say, login_back, login_says, logout_back, logout_says, rows_back, rows_say, update_back, update_says}
use Rattle.share_meetings.proofs.Meeting.{written_before}
use Rattle.share_meetings.proofs.Prefixes.{IsPrefix, answered_between, prefix_both, prefix_revision, prefix_taken, prefix_whole}
use Rattle.share_meetings.proofs.Sends.{IsComplete, Left, link_sends_all}
use Rattle.share_meetings.proofs.Standing.{Stands, base_word, walk}

-- ---- the reply to the last request

-- the request's success has the expected status
abbrev IsDue : Settings → Want → Type 0
IsDue s w = (p : List Entry) → due_status w ≡ (success s p w).0

-- the bytes begin with a reply at a length of the history
record NextBegins (h : List Entry) (low : ℕ) (says : List Entry → Reply) (bytes : List ℕ) : Type 0 where
  point : List Entry
  whole : IsWhole point
  above : IsPrefix (take low h) point
  rest : List ℕ
  begins : Begins bytes rest (says point)

not_failed : (v : Served) → IsSuccess v → (v.status == 500) ≡ false
not_failed v (inl e) = rw e refl
not_failed v (inr e) = rw e refl

-- of a request that was answered with success
serves_so : (s : Settings) (by : ℕ) (h : List Entry) (w : Want) (v : Served) (last : Bool) (bytes rest : List ℕ) → IsServed s by h w v → IsSuccess v → IsDue s w
    → bytes ≡ cond (v.status == 500) (failure_bytes last) (answer_bytes (answer_to s (answered_on v.added (at_point h v)) w) last) ++ rest
    → Serves s w (answered_on v.added (at_point h v)) bytes rest
serves_so s by h w v last bytes rest is_served granted is_due whole = by_status (v.status == 500) (not_failed v granted) is_served.how whole
  where
    by_status : (b : Bool) → b ≡ false → MatchBool b (IsGivenUp v) (IsReplied s by (at_point h v) w v)
        → bytes ≡ cond b (failure_bytes last) (answer_bytes (answer_to s (answered_on v.added (at_point h v)) w) last) ++ rest
        → Serves s w (answered_on v.added (at_point h v)) bytes rest
    by_status true bad how whole = absurd (cc bad)
    by_status false is how whole = record {
      reply = how.reply;
      last = last;
      answers = how.replies;
      succeeds =
          ap (λ (t : ℕ × Body). t.0)
          (success_is s (answered_on v.added (at_point h v)) w how.reply how.replies
          (good_status how.reply.status how.reply.body (subst (λ (n : ℕ). (n ≡ 200) ⊎ (n ≡ 204)) how.status granted)))
          ∙ sym (is_due (answered_on v.added (at_point h v)));
      spelled = whole ∙ ap (λ (a : Answer). answer_bytes a last ++ rest) how.replies;
    }

module _ (s : Settings) (by limit : ℕ) (role : Role) (h : List Entry) (reports : List Served) (low n : ℕ) (host : List ℕ) (w : Want) (says : List Entry → Reply) (input bytes : List ℕ) where
  next_begins : IsWhole h → ReadsBack role host w → Says s w says → IsDue s w → request_text w host ≡ input → Left s by limit role h reports true low n input bytes
      → NextBegins h low says bytes
  next_begins whole back tells is_due same x =
      by_first x.asks x.served (subst (λ (text : List ℕ). Joins role text x.asks x.rest) (sym same ∙ sym (append-nil (request_text w host))) x.joins) x.are_served x.rises x.whole (x.complete refl)
    where
      behind : (ask : Ask) (asks : List Ask) (v : Served) (served : List Served) → ask ≡ open_ask role w → AreServed s by h (ask ∷ asks) (v ∷ served)
          → Rises low (v ∷ served) (length h) → bytes ≡ replies_from s limit h n (ask ∷ asks) (v ∷ served) ++ x.tail → IsSuccess v → NextBegins h low says bytes
      behind ask asks v served same are rises is_all granted =
          let wants : ask.want ≡ w = ap (λ (a : Ask). a.want) same in
          let last : Bool = is_some (due_end limit n ask (at_point h v)) in
          let first : List ℕ = cond (v.status == 500) (failure_bytes last) (answer_bytes (answer_to s (answered_on v.added (at_point h v)) ask.want) last) in
          let rest : List ℕ = replies_from s limit h (n + 1) asks served ++ x.tail in
          let serves = subst (λ (u : Want). Serves s u (answered_on v.added (at_point h v)) bytes rest) wants
          (serves_so s by h ask.want v last bytes rest are.0 granted (subst (λ (u : Want). IsDue s u) (sym wants) is_due)
          (is_all ∙ append_assoc first (replies_from s limit h (n + 1) asks served) x.tail)) in
          let between = answered_between h low v.point v.added rises.0 are.0.within in
          let point_whole = prefix_whole (answered_on v.added (at_point h v)) h
          (prefix_both (answered_on v.added (at_point h v)) (take v.point h) h between.1 (prefix_taken v.point h)) whole in
          record {
            point = answered_on v.added (at_point h v);
            whole = point_whole;
            above = between.0;
            rest = rest;
            begins = tells (answered_on v.added (at_point h v)) bytes rest point_whole serves;
          }

      -- the request is not one of no requests
      none : Joins role (request_text w host ++ []) [] [] → ⊥
      none joins =
          let read = reading_of_joined role (request_text w host) [] (subst (λ (text : List ℕ). Joins role text [] []) (append-nil (request_text w host)) joins) in
          let same : (open_ask role w ∷ []) ≡ [] =
          ap (λ (r : Reading). r.asks) (one_reading role (request_text w host) (reading (open_ask role w ∷ []) [] None) (reading [] [] None) back read) in
          absurd (cc)

      by_first : (asks : List Ask) (served : List Served) → Joins role (request_text w host ++ []) asks x.rest → AreServed s by h asks served → Rises low served (length h)
          → bytes ≡ replies_from s limit h n asks served ++ x.tail → IsComplete x.rest x.tail served → NextBegins h low says bytes
      by_first [] [] joins are rises is_all complete = absurd (none (subst (λ (rest : List ℕ). Joins role (request_text w host ++ []) [] rest) complete.0 joins))
      by_first [] (v ∷ served) joins are rises is_all complete = absurd are
      by_first (ask ∷ asks) [] joins are rises is_all complete = absurd are
      by_first (ask ∷ asks) (v ∷ served) joins are rises is_all complete =
          let first = first_ask role (request_text w host) [] (open_ask role w) ask asks x.rest back joins in
          behind ask asks v served first.0 are rises is_all complete.2.0

-- ---- in each stage

module _ (host : List ℕ) (m : Mirrored) (rounds : ℕ) (s : Settings) (by limit : ℕ) (role : Role) (h : List Entry) (reports : List Served) (whole : IsWhole h) (can : CanBeAsked host m)
    (request bytes : List ℕ) (p : Point) (taken : Option (List ℕ)) (e : FollowError) (owed : p.owed ≡ Some bytes) where
  from_begun : Stands host m rounds s by limit role h reports [] true Begun request bytes → due host m rounds Begun ≡ Some request → Stops request (UnexpectedIn m rounds Begun) p taken e → IsOutside e
  from_begun st is_due stops =
      let same : request_text want.Codes host ≡ request = cc in
      let next = next_begins s by limit role h reports st.low st.n host want.Codes (λ p. (200, spelling (table_reply standard_rows))) request bytes whole
      (codes_back role host can.host_is) (codes_say s) (λ p. refl) same st.left in
      stops_outside request UnexpectedTable p taken e bytes next.rest (200, spelling (table_reply standard_rows)) owed next.begins (λ used u. table_due used e u) stops

  from_learned : (rows : List CodeRow) → Stands host m rounds s by limit role h reports [] true (Learned rows) request bytes → due host m rounds (Learned rows) ≡ Some request
      → Stops request (UnexpectedIn m rounds (Learned rows)) p taken e → IsOutside e
  from_learned rows st is_due stops =
      let same : request_text want.Login host ≡ request = cc in
      let next = next_begins s by limit role h reports st.low st.n host want.Login (λ p. (200, spelling (login_body (next_session p)))) request bytes whole
      (login_back role host can.host_is) (login_says s) (λ p. refl) same st.left in
      stops_outside request (UnexpectedNumber (code "mlid") rows) p taken e bytes next.rest (200, spelling (login_body (next_session next.point))) owed next.begins
      (λ used u. number_due (code "mlid") rows (login_body (next_session next.point)) (next_session next.point) used e st.knows (login_tag next.point next.whole) refl u) stops

  from_asking : (k : Known) (ls : List Listing) → Stands host m rounds s by limit role h reports [] true (Asking k ls) request bytes → due host m rounds (Asking k ls) ≡ Some request
      → Stops request (UnexpectedIn m rounds (Asking k ls)) p taken e → IsOutside e
  from_asking k ls st is_due stops =
      let same : request_text (want.Rows k.session m.target (mirror_look m.query m.meta (held_after m.held ls).revision)) host ≡ request = cc in
      let next = next_begins s by limit role h reports st.low st.n host (want.Rows k.session m.target (mirror_look m.query m.meta (held_after m.held ls).revision))
      (λ p. (200, spelling (listing_body s.keep p m.target (mirror_look m.query m.meta (held_after m.held ls).revision)))) request bytes whole
      (rows_back role host m k.session (held_after m.held ls).revision can st.knows.session (base_word host m rounds s by limit role h reports [] true whole st.low k ls st.knows))
      (rows_say s k.session m.target m.query m.meta (held_after m.held ls).revision) (λ p. refl) same st.left in
      let before = st.knows.earlier in
      stops_outside request (UnexpectedListing k.rows (with_listings m ls)) p taken e bytes next.rest
      (200, spelling (listing_body s.keep next.point m.target (mirror_look m.query m.meta (held_after m.held ls).revision))) owed next.begins
      (λ used u. listing_due s.keep k.rows (with_listings m ls) next.point used e st.knows.standard
      (omega (arith, before, prefix_revision (take st.low h) next.point next.above)) next.whole u) stops

  from_holding : (k : Known) (ls : List Listing) (last : Bool) → Stands host m rounds s by limit role h reports [] true (Holding k ls) request bytes
      → Some (request_text (behind_round last k (with_listings m ls)) host) ≡ Some request → Stops request (UnexpectedAfter last k) p taken e → IsOutside e
  from_holding k ls true st is_due stops =
      let same : request_text (want.Logout k.session) host ≡ request = cc in
      let next = next_begins s by limit role h reports st.low st.n host (want.Logout k.session) (λ p. (204, [])) request bytes whole
      (logout_back role host k.session can.host_is st.knows.session) (logout_says s k.session) (λ p. refl) same st.left in
      stops_outside request UnexpectedEnd p taken e bytes next.rest (204, []) owed next.begins (λ used u. end_due used e u) stops
  from_holding k ls false st is_due stops =
      let same : request_text (want.Update k.session (held_after m.held ls).revision) host ≡ request = cc in
      let next = next_begins s by limit role h reports st.low st.n host (want.Update k.session (held_after m.held ls).revision) (λ p. (200, spelling (revision_body (revision (batches p)))))
      request bytes whole
      (update_back role host k.session (held_after m.held ls).revision can.host_is st.knows.session (base_word host m rounds s by limit role h reports [] true whole st.low k ls st.knows))
      (update_says s k.session (held_after m.held ls).revision) (λ p. refl) same st.left in
      stops_outside request (UnexpectedNumber (code "musr") k.rows) p taken e bytes next.rest (200, spelling (revision_body (revision (batches next.point)))) owed next.begins
      (λ used u. number_due (code "musr") k.rows (revision_body (revision (batches next.point))) (revision (batches next.point)) used e st.knows.standard
      (revision_tag next.point next.whole) refl u) stops

  from_stage : (t : Stage) → Stands host m rounds s by limit role h reports [] true t request bytes → due host m rounds t ≡ Some request → Stops request (UnexpectedIn m rounds t) p taken e → IsOutside e
  from_stage Begun st is_due stops = from_begun st is_due stops
  from_stage (Learned rows) st is_due stops = from_learned rows st is_due stops
  from_stage (Asking k ls) st is_due stops = from_asking k ls st is_due stops
  from_stage (Holding k ls) st is_due stops = from_holding k ls (length ls == rounds) st is_due stops
  from_stage (Closed k ls) st is_due stops = absurd (cc is_due)

pub followers_are_not_stopped : FollowersAreNotStopped
followers_are_not_stopped host m rounds p taken e now s by limit role h input output x written zero can whole nothing is owed answered =
    let split = written_before p.taken x.there.taken taken (requests x.walks.exchanges) x.request input nothing is x.walks.went.written written in
    let left = subst (λ (bs : List ℕ). Left s by limit role h answered.served true 0 1 bs output) split.1 (link_sends_all s by limit role h input output answered) in
    let read = owed_split p.owed x.there.owed output (messages x.walks.exchanges) owed x.walks.went.read in
    let begun : Stands host m rounds s by limit role h answered.served [] true Begun (requests x.walks.exchanges ++ x.request) output =
    record {
      low = 0;
      n = 1;
      left = left;
      count = refl;
      knows = tt;
      least = omega (arith, zero);
      points = [];
      rise = (([], refl), ((h, refl), tt));
      listed = tt;
      behind = tt;
      new = tt;
      has_new = tt;
      answers = tt;
      base = refl;
    } in
    from_stage host m rounds s by limit role h answered.served whole can x.request read.0 x.there taken e
    (left_owed p.owed x.there.owed output (messages x.walks.exchanges) owed x.walks.went.read) x.stage
    (walk host m rounds s by limit role h answered.served [] true whole can Begun x.stage x.walks.exchanges x.request output read.0 begun x.walks.path x.walks.went.answered read.1)
    x.is_due x.stops
