-- The state between a client that follows a listing and its server, in each of the client's stages.
use Rattle.std.proofs.Common.{◌≡◌, ◌≢◌, ◌≤◌, ◌<◌, ◌⊎◌, ◌+◌, ◌*◌, ◌==◌, ℕ, List, [], ◌∷◌, ◌++◌, take, length, Bool, true, false, Some, refl, sym, ap, ◌∙◌, subst, inl, inr, append_assoc, append-nil, length-append, arith}
use Rattle.std.specs.List.{slice_get}
use Rattle.std.proofs.lemmas.Bool.{cases_order, eqb-false}
use Rattle.std.specs.Prelude.{⊤}
use Rattle.dmap_tags.specs.Spelling.{spelling}
use Rattle.code_table.specs.declared.row.CodeRow.{CodeRow}
use Rattle.code_table.specs.Reply.{table_reply}
use Rattle.code_table.specs.Standard.{standard_rows}
use Rattle.item_model.specs.declared.changes.Entry.{Entry}
use Rattle.http_heads.specs.Messages.{print_message}
use Rattle.http_client.specs.Replies.{IsReply, Reply}
use Rattle.http_client.specs.Requests.{IsWord, request_text}
use Rattle.share_asks.specs.declared.ask.Role.{Role}
use Rattle.share_asks.specs.declared.ask.Want.{Want}
use Rattle.share_asks.specs.declared.ask.Want.TheVariants as want
use Rattle.share_history.specs.Bodies.{listing_body}
use Rattle.share_history.specs.Histories.{batches, revision}
use Rattle.share_history.specs.Listings.{Listing, listing}
use Rattle.share_history.specs.Mirror.{Held, mirror_look}
use Rattle.share_history.specs.Sessions.{next_session}
use Rattle.share_history.proofs.DeltaFacts.{listing_revision}
use Rattle.share_replies.specs.Settings.{Settings}
use Rattle.share_replies.specs.SmallBodies.{login_body, revision_body}
use Rattle.share_server.specs.declared.report.Served.{Served}
use Rattle.share_server.specs.Served.{at_point}
use Rattle.mirror_core.specs.Mirrored.{Mirrored}
use Rattle.mirror_client.specs.Exchanges.{AreAnswered, Exchange, messages, requests}
use Rattle.mirror_client.specs.Laws.{AreAnswers}
use Rattle.mirror_client.specs.Stages.{Asking, Begun, Closed, Holding, Leads, LeadsOn, Learned, Path, Stage, behind_round, due, listings_in}
use Rattle.mirror_client.specs.Steps.{Known, held_after, with_listings}
use Rattle.mirror_client.proofs.ServedFacts.{told_listing}
use Rattle.mirror_client.proofs.StageFacts.{held_more}
use Rattle.share_meetings.specs.ServedRuns.{Rise}
use Rattle.share_history.specs.Whole.{IsWhole}
use Rattle.share_meetings.proofs.BodiesRead.{listing_body_read, small_revision}
use Rattle.link_commands.proofs.FirstReply.{split_on}
use Rattle.share_meetings.proofs.FilterShown.{learned, tells}
use Rattle.share_meetings.specs.Mirrors.{AreBehindLogin, AreListed, AreNew, CanBeAsked, IsBehindLogin, IsListed}
use Rattle.share_meetings.proofs.Answering.{Answered, answered}
use Rattle.share_meetings.proofs.Asking.{codes_back, codes_say, login_back, login_says, logout_back, logout_says, rows_back, rows_say, told_session, update_back, update_says}
use Rattle.share_meetings.proofs.Prefixes.{IsPrefix, answers_more, as_many_points, last_base, last_base_more, listed_more, prefix_both, prefix_revision, prefix_taken, prefix_whole, rise_more, rise_on}
use Rattle.share_meetings.proofs.Sends.{Left}

-- ---- histories behind a login, each at a higher revision than the one before

behind_further : (by : ℕ) (h : List Entry) (reports : List Served) (p q : List Entry) → IsPrefix p q → IsBehindLogin by h reports p → IsBehindLogin by h reports q
behind_further by h reports p q a b = record {
  login = b.login;
  is_report = b.is_report;
  within = b.within;
  added = b.added;
  session = b.session;
  before = b.before;
  entered = b.entered;
  since = b.since ++ a.0;
  begins = a.1 ∙ ap (λ (x : List Entry). x ++ a.0) b.begins ∙ append_assoc (at_point h b.login) b.since a.0;
}

behind_more : (by : ℕ) (h : List Entry) (reports : List Served) (points : List (List Entry)) (p : List Entry) → AreBehindLogin by h reports points → IsBehindLogin by h reports p
    → AreBehindLogin by h reports (points ++ p ∷ [])
behind_more by h reports [] p are is = is
behind_more by h reports (q ∷ points) p are is = are

-- the last of these histories, if there is one, is at a lower revision than `p`
abbrev IsNewer : List (List Entry) → List Entry → Type 0
IsNewer [] p = ⊤
IsNewer (q ∷ points) p = last_base (revision (batches q)) points < revision (batches p)

newer_so : (points : List (List Entry)) (p : List Entry) (base n : ℕ) → n ≡ last_base base points → n < revision (batches p) → IsNewer points p
newer_so [] p base n is less = tt
newer_so (q ∷ points) p base n is less = omega (arith, is, less)

newer_further : (points : List (List Entry)) (p q : List Entry) → IsPrefix p q → IsNewer points p → IsNewer points q
newer_further [] p q a newer = tt
newer_further (x ∷ points) p q a newer = omega (arith, newer, prefix_revision p q a)

new_more : (points : List (List Entry)) (p : List Entry) → AreNew points → IsNewer points p → AreNew (points ++ p ∷ [])
new_more [] p new newer = tt
new_more (x ∷ []) p new newer = (newer, tt)
new_more (x ∷ y ∷ points) p new newer = (new.0, new_more (y ∷ points) p new.1 newer)

above_another : (n low at now : ℕ) → n ≤ low → low ≤ at → at ≤ now → n ≢ at → n < now
above_another n low at now a b c another = by_order (cases_order n at)
  where
    by_order : (n ≡ at) ⊎ ((n < at) ⊎ (at < n)) → n < now
    by_order (inl same) = absurd (another same)
    by_order (inr (inl less)) = omega (arith, less, c)
    by_order (inr (inr less)) = absurd (omega (arith, less, a, b))

none_told : (keep : ℕ) (m : Mirrored) (base : ℕ) (points : List (List Entry)) → AreAnswers keep m.target m.query m.meta base points [] → points ≡ []
none_told keep m base [] are = refl
none_told keep m base (p ∷ points) are = absurd are

-- ---- what stands in each stage

module _ (host : List ℕ) (m : Mirrored) (rounds : ℕ) (s : Settings) (by limit : ℕ) (role : Role) (h : List Entry) (reports : List Served) (start : List Entry) (all : Bool) where
  -- a client that is in reads by the standard table, and its session and what it holds are the share's
  pub record KnowsShare (low : ℕ) (k : Known) (ls : List Listing) : Type 0 where
    pub standard : k.rows ≡ standard_rows
    pub session : IsWord k.session
    pub earlier : (held_after m.held ls).revision ≤ revision (batches (take low h))
    pub login : IsBehindLogin by h reports (take low h)

  abbrev pub Knows : ℕ → Stage → Type 0
  Knows low Begun = ⊤
  Knows low (Learned rows) = rows ≡ standard_rows
  Knows low (Asking k ls) = KnowsShare low k ls
  Knows low (Holding k ls) = KnowsShare low k ls
  Knows low (Closed k ls) = ⊤

  -- before another listing the share has a new revision
  abbrev HasNew : ℕ → Stage → List (List Entry) → Type 0
  HasNew low Begun points = ⊤
  HasNew low (Learned rows) points = ⊤
  HasNew low (Asking k ls) points = IsNewer points (take low h)
  HasNew low (Holding k ls) points = ⊤
  HasNew low (Closed k ls) points = ⊤

  -- the number of the next request, counted from 1: the table, the login, and for each listing its request and an update
  abbrev Counts : ℕ → Stage → Type 0
  Counts n Begun = n ≡ 1
  Counts n (Learned rows) = n ≡ 2
  Counts n (Asking k ls) = n ≡ 2 * length ls + 3
  Counts n (Holding k ls) = n ≡ 2 * length ls + 2
  Counts n (Closed k ls) = ⊤

  -- What is still to come on the connection, what the client knows, and the history lengths at which its listings
  -- were answered, from that on at which it began.
  pub record Stands (t : Stage) (input bytes : List ℕ) : Type 0 where
    pub low : ℕ
    pub n : ℕ
    pub left : Left s by limit role h reports all low n input bytes
    pub count : Counts n t
    pub knows : Knows low t
    pub least : m.held.revision ≤ revision (batches (take low h))
    pub points : List (List Entry)
    pub rise : Rise (start ∷ (points ++ take low h ∷ [])) h
    pub listed : AreListed h reports 2 points
    pub behind : AreBehindLogin by h reports points
    pub new : AreNew points
    pub has_new : HasNew low t points
    pub answers : AreAnswers s.keep m.target m.query m.meta m.held.revision points (listings_in t)
    pub base : (held_after m.held (listings_in t)).revision ≡ last_base m.held.revision points

  -- ---- a step further

  further : (low n : ℕ) (w : Want) (says : List Entry → Reply) (answer : Reply) (input more : List ℕ) → (a : Answered s by limit role h reports all low n w says answer input more)
      → IsPrefix (take low h) (take a.one.point h)
  further low n w says answer input more a = prefix_both (take low h) a.point (take a.one.point h) a.above a.below

  -- an answer without a listing
  stands_on : (t u : Stage) (before bytes : List ℕ) (st : Stands t before bytes) (w : Want) (says : List Entry → Reply) (answer : Reply) (input more : List ℕ)
      → (a : Answered s by limit role h reports all st.low st.n w says answer input more) → listings_in u ≡ listings_in t → Counts (st.n + 1) u → Knows a.one.point u
      → HasNew a.one.point u st.points → Stands u input more
  stands_on t u before bytes st w says answer input more a same count knows has_new = record {
    low = a.one.point;
    n = st.n + 1;
    left = a.left;
    count = count;
    knows = knows;
    least =
        let least = st.least in
        omega (arith, least, prefix_revision (take st.low h) (take a.one.point h) (further st.low st.n w says answer input more a));
    points = st.points;
    listed = st.listed;
    rise = rise_on (start ∷ st.points) (take st.low h) (take a.one.point h) h (further st.low st.n w says answer input more a) (prefix_taken a.one.point h) st.rise;
    behind = st.behind;
    new = st.new;
    has_new = has_new;
    answers = subst (λ (ls : List Listing). AreAnswers s.keep m.target m.query m.meta m.held.revision st.points ls) (sym same) st.answers;
    base = ap (λ (ls : List Listing). (held_after m.held ls).revision) same ∙ st.base;
  }

  -- what the mirror holds is of no later history
  still_earlier : (low n : ℕ) (k : Known) (ls : List Listing) (w : Want) (says : List Entry → Reply) (answer : Reply) (input more : List ℕ)
      → (a : Answered s by limit role h reports all low n w says answer input more) → KnowsShare low k ls → KnowsShare a.one.point k ls
  still_earlier low n k ls w says answer input more a knows = record {
    standard = knows.standard;
    session = knows.session;
    earlier =
        let before = knows.earlier in
        omega (arith, before, prefix_revision (take low h) (take a.one.point h) (further low n w says answer input more a));
    login = behind_further by h reports (take low h) (take a.one.point h) (further low n w says answer input more a) knows.login;
  }

  -- the held revision has 32 bits
  pub base_word : IsWhole h → (low : ℕ) (k : Known) (ls : List Listing) → KnowsShare low k ls → IsWord (held_after m.held ls).revision
  base_word whole low k ls knows =
      let before = knows.earlier in omega (arith, before, small_revision (take low h) (prefix_whole (take low h) h (prefix_taken low h) whole))

  module _ (whole : IsWhole h) (can : CanBeAsked host m) where
    from_begun : (u : Stage) (x : Exchange) (input bytes more : List ℕ) → Stands Begun (x.request ++ input) bytes → IsReply x.message x.answer
        → bytes ≡ print_message x.message ++ more → due host m rounds Begun ≡ Some x.request → Leads m rounds Begun x.answer u → Stands u input more
    from_begun u x input bytes more st is split asked leads =
        let request : request_text want.Codes host ≡ x.request = cc in
        let a = answered s by limit role h reports all st.low st.n (request_text want.Codes host) want.Codes (λ p. (200, spelling (table_reply standard_rows))) x.message x.answer input bytes more whole
        (codes_back role host can.host_is) (codes_say s) (subst (λ (r : List ℕ). Left s by limit role h reports all st.low st.n (r ++ input) bytes) (sym request) st.left)
        is split (inl leads.1.1.0) leads.1.1.0 in
        let count = st.count in
        subst (λ (t : Stage). Stands t input more) (sym leads.2)
        (stands_on Begun (Learned leads.0) (x.request ++ input) bytes st want.Codes (λ p. (200, spelling (table_reply standard_rows))) x.answer input more a refl
        (omega (arith, count))
        (learned x.answer leads.0 a.is leads.1) tt)

    from_learned : (rows : List CodeRow) (u : Stage) (x : Exchange) (input bytes more : List ℕ) → Stands (Learned rows) (x.request ++ input) bytes → IsReply x.message x.answer
        → bytes ≡ print_message x.message ++ more → due host m rounds (Learned rows) ≡ Some x.request → Leads m rounds (Learned rows) x.answer u → Stands u input more
    from_learned rows u x input bytes more st is split asked leads =
        let request : request_text want.Login host ≡ x.request = cc in
        let a = answered s by limit role h reports all st.low st.n (request_text want.Login host) want.Login (λ p. (200, spelling (login_body (next_session p)))) x.message x.answer input bytes more whole
        (login_back role host can.host_is) (login_says s) (subst (λ (r : List ℕ). Left s by limit role h reports all st.low st.n (r ++ input) bytes) (sym request) st.left)
        is split (inl leads.1.1.0) leads.1.1.0 in
        let count = st.count in
        let least = st.least in
        subst (λ (t : Stage). Stands t input more) (sym leads.2)
        (stands_on (Learned rows) (Asking (record { session = leads.0; rows = rows }) []) (x.request ++ input) bytes st want.Login (λ p. (200, spelling (login_body (next_session p)))) x.answer
        input more a refl
        (omega (arith, count))
        (record {
          standard = st.knows;
          session = told_session rows x.answer leads.0 a.point st.knows a.whole a.is leads.1;
          earlier = omega (
            arith,
            least,
            prefix_revision (take st.low h) (take a.one.point h)
                (further st.low st.n want.Login (λ p. (200, spelling (login_body (next_session p)))) x.answer input more a),
          );
          login = record {
            login = a.one;
            is_report = a.is_report;
            within = a.within;
            added = a.goes.adds;
            session = next_session a.point;
            before = a.point;
            entered = a.goes.grows;
            since = [];
            begins = sym (append-nil (take a.one.point h));
          };
        })
        (subst (λ (points : List (List Entry)). IsNewer points (take a.one.point h)) (sym (none_told s.keep m m.held.revision st.points st.answers)) tt))

    -- the listing that was applied is the share's at one more history
    from_asking : (k : Known) (ls : List Listing) (u : Stage) (x : Exchange) (input bytes more : List ℕ) → Stands (Asking k ls) (x.request ++ input) bytes → IsReply x.message x.answer
        → bytes ≡ print_message x.message ++ more → due host m rounds (Asking k ls) ≡ Some x.request → Leads m rounds (Asking k ls) x.answer u → Stands u input more
    from_asking k ls u x input bytes more st is split asked leads =
        subst (λ (t : Stage). Stands t input more) (sym leads.2)
        (record {
          low = a.one.point;
          n = st.n + 1;
          left = a.left;
          count = (let count = st.count in omega (arith, count, length-append ls (leads.0 ∷ [])));
          knows = record {
            standard = st.knows.standard;
            session = st.knows.session;
            earlier = omega (arith, held, prefix_revision a.point (take a.one.point h) a.below);
            login = behind_further by h reports (take st.low h) (take a.one.point h) (prefix_both (take st.low h) a.point (take a.one.point h) a.above a.below) st.knows.login;
          };
          least =
              let least = st.least in
              omega (arith, least, prefix_revision (take st.low h) (take a.one.point h) (prefix_both (take st.low h) a.point (take a.one.point h) a.above a.below));
          points = st.points ++ a.point ∷ [];
          listed = listed_more h reports 2 st.points a.point st.listed is_listed;
          rise =
              rise_more (start ∷ st.points) a.point (take a.one.point h) h a.below (prefix_taken a.one.point h)
              (rise_on (start ∷ st.points) (take st.low h) a.point h a.above (prefix_both a.point (take a.one.point h) h a.below (prefix_taken a.one.point h)) st.rise);
          behind = behind_more by h reports st.points a.point st.behind (behind_further by h reports (take st.low h) a.point a.above st.knows.login);
          new = new_more st.points a.point st.new (newer_further st.points (take st.low h) a.point a.above st.has_new);
          has_new = tt;
          answers =
              answers_more s.keep m.target m.query m.meta m.held.revision st.points ls a.point leads.0 st.answers
              (told ∙ ap (λ (b : ℕ). listing s.keep (batches a.point) m.target (mirror_look m.query m.meta b)) st.base);
          base = held ∙ sym (last_base_more m.held.revision st.points a.point);
        })
      where
        request : request_text (want.Rows k.session m.target (mirror_look m.query m.meta (held_after m.held ls).revision)) host ≡ x.request
        request = cc

        a : Answered s by limit role h reports all st.low st.n (want.Rows k.session m.target (mirror_look m.query m.meta (held_after m.held ls).revision))
            (λ p. (200, spelling (listing_body s.keep p m.target (mirror_look m.query m.meta (held_after m.held ls).revision)))) x.answer input more
        a = answered s by limit role h reports all st.low st.n (request_text (want.Rows k.session m.target (mirror_look m.query m.meta (held_after m.held ls).revision)) host)
            (want.Rows k.session m.target (mirror_look m.query m.meta (held_after m.held ls).revision))
            (λ p. (200, spelling (listing_body s.keep p m.target (mirror_look m.query m.meta (held_after m.held ls).revision)))) x.message x.answer input bytes more whole
            (rows_back role host m k.session (held_after m.held ls).revision can st.knows.session (base_word whole st.low k ls st.knows))
            (rows_say s k.session m.target m.query m.meta (held_after m.held ls).revision)
            (subst (λ (r : List ℕ). Left s by limit role h reports all st.low st.n (r ++ input) bytes) (sym request) st.left) is split (inl leads.1.told.0) leads.1.told.0

        -- the request adds nothing, so it is answered at the history that it leaves
        is_listed : IsListed h reports (2 + 2 * length st.points) a.point
        is_listed = record {
          one = a.one;
          is_there =
              (let counted = a.count in
              let count = st.count in
              let many = as_many_points s.keep m.target m.query m.meta m.held.revision st.points ls st.answers in
              let same : a.number ≡ 2 + 2 * length st.points = omega (arith, counted, count, many) in
              subst (λ (n : ℕ). slice_get reports n ≡ Some a.one) same a.is_there);
          within = a.within;
          point_is = sym (a.goes.grows ∙ append-nil a.point);
        }

        told : leads.0 ≡ listing s.keep (batches a.point) m.target (mirror_look m.query m.meta (held_after m.held ls).revision)
        told = told_listing s.keep k.rows (with_listings m ls) x.answer leads.0 a.point leads.1
            (tells k.rows x.answer (listing_body s.keep a.point m.target (mirror_look m.query m.meta (held_after m.held ls).revision)) st.knows.standard a.is
            (listing_body_read s.keep a.point m.target m.query m.meta (held_after m.held ls).revision a.whole))

        held : (held_after m.held (ls ++ leads.0 ∷ [])).revision ≡ revision (batches a.point)
        held = ap (λ (x : Held). x.revision) (held_more m.held ls leads.0) ∙ ap (λ (l : Listing). l.revision) told
            ∙ listing_revision s.keep (batches a.point) m.target (mirror_look m.query m.meta (held_after m.held ls).revision)

    -- an update is answered at another revision than the one that the mirror holds
    from_holding : (k : Known) (ls : List Listing) (u : Stage) (x : Exchange) (input bytes more : List ℕ) (last : Bool) → Stands (Holding k ls) (x.request ++ input) bytes
        → IsReply x.message x.answer → bytes ≡ print_message x.message ++ more → Some (request_text (behind_round last k (with_listings m ls)) host) ≡ Some x.request
        → LeadsOn last k ls x.answer u → Stands u input more
    from_holding k ls u x input bytes more true st is split asked leads =
        let request : request_text (want.Logout k.session) host ≡ x.request = cc in
        let a = answered s by limit role h reports all st.low st.n (request_text (want.Logout k.session) host) (want.Logout k.session) (λ p. (204, [])) x.message x.answer input bytes more whole
        (logout_back role host k.session can.host_is st.knows.session) (logout_says s k.session)
        (subst (λ (r : List ℕ). Left s by limit role h reports all st.low st.n (r ++ input) bytes) (sym request) st.left) is split (inr leads.0) leads.0 in
        subst (λ (t : Stage). Stands t input more) (sym leads.1)
        (stands_on (Holding k ls) (Closed k ls) (x.request ++ input) bytes st (want.Logout k.session) (λ p. (204, [])) x.answer input more a refl tt tt tt)
    from_holding k ls u x input bytes more false st is split asked leads =
        let request : request_text (want.Update k.session (held_after m.held ls).revision) host ≡ x.request = cc in
        let a = answered s by limit role h reports all st.low st.n (request_text (want.Update k.session (held_after m.held ls).revision) host) (want.Update k.session (held_after m.held ls).revision)
        (λ p. (200, spelling (revision_body (revision (batches p)))))
        x.message x.answer input bytes more whole (update_back role host k.session (held_after m.held ls).revision can.host_is st.knows.session (base_word whole st.low k ls st.knows))
        (update_says s k.session (held_after m.held ls).revision)
        (subst (λ (r : List ℕ). Left s by limit role h reports all st.low st.n (r ++ input) bytes) (sym request) st.left) is split (inl leads.0.1.1.0) leads.0.1.1.0 in
        let count = st.count in
        let earlier = st.knows.earlier in
        let another : (held_after m.held ls).revision ≢ revision (batches a.point) = eqb-false (held_after m.held ls).revision (revision (batches a.point)) a.goes.replied in
        let less : (held_after m.held ls).revision < revision (batches (take a.one.point h)) =
        above_another (held_after m.held ls).revision (revision (batches (take st.low h))) (revision (batches a.point)) (revision (batches (take a.one.point h))) earlier
        (prefix_revision (take st.low h) a.point a.above) (prefix_revision a.point (take a.one.point h) a.below) another in
        subst (λ (t : Stage). Stands t input more) (sym leads.1)
        (stands_on (Holding k ls) (Asking k ls) (x.request ++ input) bytes st (want.Update k.session (held_after m.held ls).revision) (λ p. (200, spelling (revision_body (revision (batches p)))))
        x.answer input more a refl
        (omega (arith, count))
        (still_earlier st.low st.n k ls (want.Update k.session (held_after m.held ls).revision) (λ p. (200, spelling (revision_body (revision (batches p))))) x.answer input more a st.knows)
        (newer_so st.points (take a.one.point h) m.held.revision (held_after m.held ls).revision st.base less))

    step : (t u : Stage) (x : Exchange) (input bytes more : List ℕ) → Stands t (x.request ++ input) bytes → IsReply x.message x.answer → bytes ≡ print_message x.message ++ more
        → due host m rounds t ≡ Some x.request → Leads m rounds t x.answer u → Stands u input more
    step Begun u x input bytes more st is split asked leads = from_begun u x input bytes more st is split asked leads
    step (Learned rows) u x input bytes more st is split asked leads = from_learned rows u x input bytes more st is split asked leads
    step (Asking k ls) u x input bytes more st is split asked leads = from_asking k ls u x input bytes more st is split asked leads
    step (Holding k ls) u x input bytes more st is split asked leads = from_holding k ls u x input bytes more (length ls == rounds) st is split asked leads
    step (Closed k ls) u x input bytes more st is split asked leads = absurd leads

    -- ---- all steps to a stage

    pub walk : (t u : Stage) (xs : List Exchange) (input bytes more : List ℕ) → Stands t (requests xs ++ input) bytes → Path host m rounds t xs u → AreAnswered xs
        → bytes ≡ messages xs ++ more → Stands u input more
    walk t u [] input bytes more st path are same = subst (λ (v : Stage). Stands v input more) (sym path) (subst (λ (bs : List ℕ). Stands t input bs) same st)
    walk t u (x ∷ xs) input bytes more st path are same =
        walk path.1.0 u xs input (messages xs ++ more) more
        (step t path.1.0 x (requests xs ++ input) bytes (messages xs ++ more)
        (subst (λ (bs : List ℕ). Stands t bs bytes) (append_assoc x.request (requests xs) input) st) are.0 (split_on x xs bytes more same) path.0 path.1.1)
        path.1.2 are.1 refl
