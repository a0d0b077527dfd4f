-- A client that follows a share stops at nothing that the share sends.
use Rattle.std.proofs.Common.{◌≡◌, ◌⊎◌, ◌≤◌, ◌+◌, ℕ, suc, ◌==◌, List, [], ◌∷◌, ◌++◌, length, Bool, true, false, Option, Some, None, Result, Ok, Err, refl, sym, ap, ◌∙◌, subst, inl, inr, append_assoc, length-append, eq-eqb, is_ok, true≢false, arith}
use Rattle.std.specs.List.{AllByRecursion}
use Rattle.std.proofs.lemmas.Bool.{ne_eqb}
use Rattle.dmap_tags.specs.Codes.{Four, code}
use Rattle.dmap_tags.specs.Spelling.{spelling}
use Rattle.dmap_tags.specs.Tree.{Tree}
use Rattle.code_table.specs.declared.reply.CodeError.{CodeError}
use Rattle.code_table.specs.declared.row.CodeRow.{CodeRow}
use Rattle.code_table.specs.Reply.{table_of, table_reply}
use Rattle.code_table.specs.Standard.{standard_rows}
use Rattle.item_model.specs.declared.changes.Edit.{Edit}
use Rattle.item_model.specs.declared.changes.Entry.{Entry}
use Rattle.share_history.specs.Bodies.{listing_body}
use Rattle.share_history.specs.Histories.{batches, revision}
use Rattle.share_history.specs.Listings.{Listing, listing}
use Rattle.share_history.specs.Mirror.{Held, mirror_look}
use Rattle.share_history.specs.Sessions.{next_session}
use Rattle.share_history.proofs.EditFacts.{batches-append}
use Rattle.share_history.proofs.DeltaFacts.{listing_revision}
use Rattle.share_history.proofs.WholeFacts.{each_both}
use Rattle.share_asks.specs.declared.ask.Want.TheVariants as want
use Rattle.share_replies.specs.Settings.{Settings}
use Rattle.share_replies.specs.SmallBodies.{login_body, revision_body}
use Rattle.http_heads.specs.Messages.{print_message}
use Rattle.http_client.specs.Replies.{IsReply, Reply}
use Rattle.mirror_core.specs.Bodies.{IsListing, IsNoListing}
use Rattle.mirror_core.specs.declared.mirror.MirrorError.{MirrorError}
use Rattle.mirror_core.specs.declared.mirror.MirrorError.TheVariants as mirror
use Rattle.mirror_core.specs.Mirrored.{Mirrored}
use Rattle.mirror_core.proofs.AfterFacts.{answer_is_listing}
use Rattle.mirror_core.proofs.LawFacts.{listings_are_not_stuck, listings_are_one}
use Rattle.mirror_client.specs.declared.refusal.FollowError.{FollowError}
use Rattle.mirror_client.specs.declared.refusal.FollowError.TheVariants.{Refused, BadReply, Ended, Listing as not_taken, Codes, LinkFault, Memory}
use Rattle.mirror_client.specs.Exchanges.{AreAnswered, Exchange, messages}
use Rattle.mirror_client.specs.Points.{Point}
use Rattle.mirror_client.specs.Stages.{Asking, Begun, Closed, Holding, Leads, LeadsOn, Learned, Path, Stage, UnexpectedAfter, UnexpectedIn, Walks, due, listings_in}
use Rattle.mirror_client.specs.Steps.{IsRefusedBy, Known, TellsListing, UnexpectedEnd, UnexpectedListing, UnexpectedTable, held_after, with_listings}
use Rattle.mirror_client.specs.Stopping.{Stops}
use Rattle.mirror_client.specs.Tellings.{IsTag, Tells, UnexpectedNumber, number_told}
use Rattle.mirror_client.proofs.StageFacts.{held_more}
use Rattle.mirror_client.proofs.TellingFacts.{tags_once}
use Rattle.share_meetings.specs.FollowerLaws.{ServedRunsGoOn}
use Rattle.share_meetings.specs.ServedRuns.{Rise, Round, Serves, ServesRounds, ServesRun, asked_behind, points_of}
use Rattle.share_history.specs.Whole.{IsWhole}
use Rattle.share_meetings.proofs.BodiesRead.{listing_body_read}
use Rattle.link_commands.proofs.FirstReply.{Begins, IsOutside, answer_is, left_owed, owed_split, split_on, stops_outside}
use Rattle.share_meetings.proofs.FilterShown.{each_whole, few, learned, listing_is, listing_same, login_tag, revision_tag, standard_back, table_tag, tells}
use Rattle.share_meetings.proofs.Successes.{empty_served, tag_served}

-- ---- what is still to come

-- no listing is older than the one before
abbrev AreLater : ℕ → List Round → Type 0
AreLater base [] = Unit {0}
AreLater base (r ∷ rs) = (base ≤ revision (batches r.0)) × AreLater (revision (batches r.0)) rs

record IsAsked (s : Settings) (m : Mirrored) (rounds session : ℕ) (k : Known) (ls : List Listing) (bytes : List ℕ) : Type 0 where
  r : Round
  rs : List Round
  standard : k.rows ≡ standard_rows
  serves : ServesRounds s session m.target m.query m.meta (held_after m.held ls).revision (r ∷ rs) bytes
  whole : AllByRecursion IsWhole (points_of (r ∷ rs))
  later : AreLater (held_after m.held ls).revision (r ∷ rs)
  count : length ls + suc (length rs) ≡ rounds

record IsBehind (s : Settings) (m : Mirrored) (rounds session : ℕ) (k : Known) (ls : List Listing) (bytes : List ℕ) : Type 0 where
  point : List Entry
  rs : List Round
  rest : List ℕ
  standard : k.rows ≡ standard_rows
  asked : Serves s (asked_behind session (held_after m.held ls).revision rs) point bytes rest
  serves : ServesRounds s session m.target m.query m.meta (held_after m.held ls).revision rs rest
  point_whole : IsWhole point
  whole : AllByRecursion IsWhole (points_of rs)
  later : AreLater (held_after m.held ls).revision rs
  count : length ls + length rs ≡ rounds

record IsEntering (s : Settings) (m : Mirrored) (rounds : ℕ) (rows : List CodeRow) (bytes : List ℕ) : Type 0 where
  standard : rows ≡ standard_rows
  login : List Entry
  rest : List ℕ
  entered : Serves s want.Login login bytes rest
  login_whole : IsWhole login
  after : (k : Known) → k.rows ≡ standard_rows → IsAsked s m rounds (next_session login) k [] rest

record IsBegun (s : Settings) (m : Mirrored) (rounds : ℕ) (bytes : List ℕ) : Type 0 where
  table : List Entry
  rest : List ℕ
  told : Serves s want.Codes table bytes rest
  after : (rows : List CodeRow) → rows ≡ standard_rows → IsEntering s m rounds rows rest

abbrev IsReady : Settings → Mirrored → ℕ → Stage → List ℕ → Type 0
IsReady s m rounds Begun bytes = IsBegun s m rounds bytes
IsReady s m rounds (Learned rows) bytes = IsEntering s m rounds rows bytes
IsReady s m rounds (Asking k ls) bytes = (session : ℕ) × IsAsked s m rounds session k ls bytes
IsReady s m rounds (Holding k ls) bytes = (session : ℕ) × IsBehind s m rounds session k ls bytes
IsReady s m rounds (Closed k ls) bytes = Unit {0}

-- ---- what is answered

table_begins : (s : Settings) (m : Mirrored) (rounds : ℕ) (bytes : List ℕ) (b : IsBegun s m rounds bytes) → Begins bytes b.rest (200, spelling (table_reply standard_rows))
table_begins s m rounds bytes b =
    tag_served s want.Codes b.table bytes b.rest (table_reply standard_rows) b.told refl (few standard_rows (table_reply standard_rows) table_tag)

login_begins : (s : Settings) (m : Mirrored) (rounds : ℕ) (rows : List CodeRow) (bytes : List ℕ) (b : IsEntering s m rounds rows bytes)
    → Begins bytes b.rest (200, spelling (login_body (next_session b.login)))
login_begins s m rounds rows bytes b =
    tag_served s want.Login b.login bytes b.rest (login_body (next_session b.login)) b.entered refl
    (few standard_rows (login_body (next_session b.login)) (login_tag b.login b.login_whole))

listing_tag : (s : Settings) (m : Mirrored) (rounds session : ℕ) (k : Known) (ls : List Listing) (bytes : List ℕ) → IsAsked s m rounds session k ls bytes → Tree
listing_tag s m rounds session k ls bytes b = listing_body s.keep b.r.0 m.target (mirror_look m.query m.meta (held_after m.held ls).revision)

listing_begins : (s : Settings) (m : Mirrored) (rounds session : ℕ) (k : Known) (ls : List Listing) (bytes : List ℕ) (b : IsAsked s m rounds session k ls bytes)
    → Begins bytes b.serves.0 (200, spelling (listing_tag s m rounds session k ls bytes b))
unfolding listing_tag
listing_begins s m rounds session k ls bytes b =
    let tag : Tree = listing_body s.keep b.r.0 m.target (mirror_look m.query m.meta (held_after m.held ls).revision) in
    tag_served s (want.Rows session m.target (mirror_look m.query m.meta (held_after m.held ls).revision)) b.r.0 bytes b.serves.0 tag b.serves.2 refl
    (few standard_rows tag (listing_body_read s.keep b.r.0 m.target m.query m.meta (held_after m.held ls).revision b.whole.0))

-- ---- a step further

asked_on : (s : Settings) (m : Mirrored) (rounds session : ℕ) (k : Known) (ls : List Listing) (l : Listing) (bytes more : List ℕ) (answer : Reply) (b : IsAsked s m rounds session k ls bytes)
    → answer ≡ (200, spelling (listing_tag s m rounds session k ls bytes b)) → more ≡ b.serves.0 → TellsListing k.rows (with_listings m ls) answer l
    → IsBehind s m rounds session k (ls ++ l ∷ []) more
unfolding listing_tag
asked_on s m rounds session k ls l bytes more answer b is rest tells = record {
  point = b.r.1;
  rs = b.rs;
  rest = b.serves.1;
  standard = b.standard;
  asked = subst (λ (v : ℕ). Serves s (asked_behind session v b.rs) b.r.1 more b.serves.1) (sym held)
      (subst (λ (bs : List ℕ). Serves s (asked_behind session (revision (batches b.r.0)) b.rs) b.r.1 bs b.serves.1) (sym rest) b.serves.3);
  serves = subst (λ (v : ℕ). ServesRounds s session m.target m.query m.meta v b.rs b.serves.1) (sym held) b.serves.4;
  point_whole = b.whole.1.0;
  whole = b.whole.1.1;
  later = subst (λ (v : ℕ). AreLater v b.rs) (sym held) b.later.1;
  count = let n = b.count in omega (arith, n, length-append ls (l ∷ []));
}
  where
    tag : Tree
    tag = listing_body s.keep b.r.0 m.target (mirror_look m.query m.meta (held_after m.held ls).revision)

    held : (held_after m.held (ls ++ l ∷ [])).revision ≡ revision (batches b.r.0)
    held = ap (λ (h : Held). h.revision) (held_more m.held ls l)
        ∙ listing_is s.keep k.rows (with_listings m ls) answer l b.r.0 tells
        (subst (λ (rows : List CodeRow). Tells rows answer tag) (sym b.standard)
        (subst (λ (a : Reply). Tells standard_rows a tag) (sym is)
        (refl, listing_body_read s.keep b.r.0 m.target m.query m.meta (held_after m.held ls).revision b.whole.0)))

-- after a round the client requests the logout if it was the last, otherwise the next revision
behind_count : (s : Settings) (m : Mirrored) (rounds session : ℕ) (k : Known) (ls : List Listing) (bytes : List ℕ) (rs : List Round) → length ls + length rs ≡ rounds
    → (last : Bool) → (length ls == rounds) ≡ last → ((last ≡ true) × (rs ≡ [])) ⊎ ((last ≡ false) × ((r : Round) × (others : List Round) × (rs ≡ r ∷ others)))
behind_count s m rounds session k ls bytes [] count last is = inl (sym is ∙ eq-eqb (length ls) rounds (omega (arith, count)), refl)
behind_count s m rounds session k ls bytes (r ∷ rs) count last is =
    inr (sym is ∙ ne_eqb (length ls) rounds (λ (e : length ls ≡ rounds). omega (arith, count, e)), (r, rs, refl))

behind_on : (s : Settings) (m : Mirrored) (rounds session : ℕ) (k : Known) (ls : List Listing) (next : Stage) (bytes more : List ℕ) (answer : Reply)
    (b : IsBehind s m rounds session k ls bytes) (last : Bool) → (length ls == rounds) ≡ last → more ≡ b.rest → LeadsOn last k ls answer next
    → IsReady s m rounds next more
behind_on s m rounds session k ls next bytes more answer b true is rest leads = subst (λ (t : Stage). IsReady s m rounds t more) (sym leads.1) tt
behind_on s m rounds session k ls next bytes more answer b false is rest leads =
    subst (λ (t : Stage). IsReady s m rounds t more) (sym leads.1) (subst (λ (bs : List ℕ). IsReady s m rounds (Asking k ls) bs) (sym rest) (session, again b.rs refl))
  where
    again : (rs : List Round) → b.rs ≡ rs → IsAsked s m rounds session k ls b.rest
    again [] none =
        let all : (length ls == rounds) ≡ true = eq-eqb (length ls) rounds (let n = b.count in omega (arith, n, ap length none)) in
        let bad : true ≡ false = sym all ∙ is in absurd (cc)
    again (r ∷ rs) some = record {
      r = r;
      rs = rs;
      standard = b.standard;
      serves = subst (λ (x : List Round). ServesRounds s session m.target m.query m.meta (held_after m.held ls).revision x b.rest) some b.serves;
      whole = subst (λ (x : List Round). AllByRecursion IsWhole (points_of x)) some b.whole;
      later = subst (λ (x : List Round). AreLater (held_after m.held ls).revision x) some b.later;
      count = let n = b.count in omega (arith, n, ap length some);
    }

behind_rest : (s : Settings) (m : Mirrored) (rounds session : ℕ) (k : Known) (ls : List Listing) (bytes more : List ℕ) (x : Exchange) (b : IsBehind s m rounds session k ls bytes)
    → IsReply x.message x.answer → bytes ≡ print_message x.message ++ more → more ≡ b.rest
behind_rest s m rounds session k ls bytes more x b is split = by_rounds b.rs b.asked
  where
    by_rounds : (rs : List Round) → Serves s (asked_behind session (held_after m.held ls).revision rs) b.point bytes b.rest → more ≡ b.rest
    by_rounds [] asked = (answer_is x.message x.answer (204, []) bytes more b.rest is split (empty_served s (want.Logout session) b.point bytes b.rest asked refl)).1
    by_rounds (r ∷ rs) asked =
        let body : Tree = revision_body (revision (batches b.point)) in
        (answer_is x.message x.answer (200, spelling body) bytes more b.rest is split
        (tag_served s (want.Update session (held_after m.held ls).revision) b.point bytes b.rest body asked refl (few standard_rows body (revision_tag b.point b.point_whole)))).1

step_on : (host : List ℕ) (s : Settings) (m : Mirrored) (rounds : ℕ) (stage next : Stage) (x : Exchange) (bytes more : List ℕ) → m.held.revision ≡ 0
    → IsReady s m rounds stage bytes → IsReply x.message x.answer → bytes ≡ print_message x.message ++ more → Leads m rounds stage x.answer next → IsReady s m rounds next more
step_on host s m rounds Begun next x bytes more zero b is split leads =
    let a = answer_is x.message x.answer (200, spelling (table_reply standard_rows)) bytes more b.rest is split (table_begins s m rounds bytes b) in
    subst (λ (t : Stage). IsReady s m rounds t more) (sym leads.2)
    (subst (λ (bs : List ℕ). IsEntering s m rounds leads.0 bs) (sym a.1) (b.after leads.0 (learned x.answer leads.0 a.0 leads.1)))
step_on host s m rounds (Learned rows) next x bytes more zero b is split leads =
    let a = answer_is x.message x.answer (200, spelling (login_body (next_session b.login))) bytes more b.rest is split (login_begins s m rounds rows bytes b) in
    let k : Known = record { session = leads.0; rows = rows } in
    subst (λ (t : Stage). IsReady s m rounds t more) (sym leads.2)
    (subst (λ (bs : List ℕ). IsReady s m rounds (Asking k []) bs) (sym a.1) (next_session b.login, b.after k b.standard))
step_on host s m rounds (Asking k ls) next x bytes more zero b is split leads =
    let a = answer_is x.message x.answer (200, spelling (listing_tag s m rounds b.0 k ls bytes b.1)) bytes more b.1.serves.0 is split (listing_begins s m rounds b.0 k ls bytes b.1) in
    subst (λ (t : Stage). IsReady s m rounds t more) (sym leads.2) (b.0, asked_on s m rounds b.0 k ls leads.0 bytes more x.answer b.1 a.0 a.1 leads.1)
step_on host s m rounds (Holding k ls) next x bytes more zero b is split leads =
    behind_on s m rounds b.0 k ls next bytes more x.answer b.1 (length ls == rounds) refl (behind_rest s m rounds b.0 k ls bytes more x b.1 is split) leads
step_on host s m rounds (Closed k ls) next x bytes more zero b is split leads = absurd leads

walk_ready : (host : List ℕ) (s : Settings) (m : Mirrored) (rounds : ℕ) (stage last : Stage) (xs : List Exchange) (bytes more : List ℕ) → m.held.revision ≡ 0
    → IsReady s m rounds stage bytes → Path host m rounds stage xs last → AreAnswered xs → bytes ≡ messages xs ++ more → IsReady s m rounds last more
walk_ready host s m rounds stage last [] bytes more zero b path are same =
    subst (λ (t : Stage). IsReady s m rounds t more) (sym path) (subst (λ (bs : List ℕ). IsReady s m rounds stage bs) same b)
walk_ready host s m rounds stage last (x ∷ xs) bytes more zero b path are same =
    walk_ready host s m rounds path.1.0 last xs (messages xs ++ more) more zero
    (step_on host s m rounds stage path.1.0 x bytes (messages xs ++ more) zero b are.0 (split_on x xs bytes more same) path.1.1) path.1.2 are.1 refl

-- ---- nothing stops it

not_both : (r : Result (List CodeRow) CodeError) (e : CodeError) (rows : List CodeRow) → r ≡ Err e → r ≡ Ok rows → ⊥
not_both r e rows h k = true≢false (sym (ap is_ok k) ∙ ap is_ok h)

pub table_due : (used : ℕ) (e : FollowError) → UnexpectedTable used (200, spelling (table_reply standard_rows)) e → IsOutside e
table_due used (Refused status) h = absurd (h.1 refl)
table_due used (BadReply at) h = absurd (h.1 (table_reply standard_rows) table_tag)
table_due used (Ended at) h = absurd h
table_due used (not_taken error) h = absurd h
table_due used (Codes error) h =
    let same = tags_once standard_rows (spelling (table_reply standard_rows)) h.0 (table_reply standard_rows) h.1.1 table_tag in
    absurd (not_both (table_of h.0) error standard_rows h.2.1 (ap table_of same ∙ standard_back))
table_due used LinkFault h = inl refl
table_due used Memory h = inr refl

pub number_due : (c : Four) (rows : List CodeRow) (tag : Tree) (n used : ℕ) (e : FollowError) → rows ≡ standard_rows → IsTag standard_rows (spelling tag) tag → number_told c tag ≡ Some n
    → UnexpectedNumber c rows used (200, spelling tag) e → IsOutside e
number_due c rows tag n used (Refused status) standard is told h = absurd (h.1 refl)
number_due c rows tag n used (BadReply at) standard is told h =
    let none : number_told c tag ≡ None = h.1 tag (subst (λ (r : List CodeRow). IsTag r (spelling tag) tag) (sym standard) is) in
    let bad : Some n ≡ None = sym told ∙ none in absurd (cc)
number_due c rows tag n used (Ended at) standard is told h = absurd h
number_due c rows tag n used (not_taken error) standard is told h = absurd h
number_due c rows tag n used (Codes error) standard is told h = absurd h
number_due c rows tag n used LinkFault standard is told h = inl refl
number_due c rows tag n used Memory standard is told h = inr refl

pub end_due : (used : ℕ) (e : FollowError) → UnexpectedEnd used (204, []) e → IsOutside e
end_due used (Refused status) h = absurd (h.1 refl)
end_due used (BadReply at) h = absurd h
end_due used (Ended at) h = absurd h
end_due used (not_taken error) h = absurd h
end_due used (Codes error) h = absurd h
end_due used LinkFault h = inl refl
end_due used Memory h = inr refl

taken_due : (keep : ℕ) (m : Mirrored) (h : List Entry) (tag : Tree) (error : MirrorError) → m.held.revision ≤ revision (batches h)
    → tag ≡ listing_body keep h m.target (mirror_look m.query m.meta m.held.revision) → IsRefusedBy m tag error → ⊥
taken_due keep m h tag (mirror.NotListing index) later is refused =
    listings_are_not_stuck m.target m.held.revision (listing keep (batches h) m.target (mirror_look m.query m.meta m.held.revision))
    (listing_body keep h m.target (mirror_look m.query m.meta m.held.revision)) index
    (answer_is_listing keep (batches h) m.target m.query m.meta m.held.revision)
    (subst (λ (t : Tree). IsNoListing m.target m.held.revision t index) is refused)
taken_due keep m h tag (mirror.Backwards held told) later is refused =
    let same = listings_are_one m.target m.held.revision refused.0 (listing keep (batches h) m.target (mirror_look m.query m.meta m.held.revision))
    (listing_body keep h m.target (mirror_look m.query m.meta m.held.revision))
    (subst (λ (t : Tree). IsListing m.target m.held.revision refused.0 t) is refused.1)
    (answer_is_listing keep (batches h) m.target m.query m.meta m.held.revision) in
    let v : refused.0.revision ≡ revision (batches h) = ap (λ (l : Listing). l.revision) same ∙ listing_revision keep (batches h) m.target (mirror_look m.query m.meta m.held.revision) in
    omega (arith, later, v, refused.2, refused.3, refused.4)
taken_due keep m h tag mirror.Memory later is refused = refused

pub listing_due : (keep : ℕ) (rows : List CodeRow) (m : Mirrored) (h : List Entry) (used : ℕ) (e : FollowError) → rows ≡ standard_rows → m.held.revision ≤ revision (batches h) → IsWhole h
    → UnexpectedListing rows m used (200, spelling (listing_body keep h m.target (mirror_look m.query m.meta m.held.revision))) e → IsOutside e
listing_due keep rows m h used (Refused status) standard later whole x = absurd (x.1 refl)
listing_due keep rows m h used (BadReply at) standard later whole x =
    let tag : Tree = listing_body keep h m.target (mirror_look m.query m.meta m.held.revision) in
    absurd (x.1 tag (subst (λ (r : List CodeRow). IsTag r (spelling tag) tag) (sym standard) (listing_body_read keep h m.target m.query m.meta m.held.revision whole)))
listing_due keep rows m h used (Ended at) standard later whole x = absurd x
listing_due keep rows m h used (not_taken error) standard later whole x =
    let tag : Tree = listing_body keep h m.target (mirror_look m.query m.meta m.held.revision) in
    let same = tags_once rows (spelling tag) x.0 tag x.1.1 (subst (λ (r : List CodeRow). IsTag r (spelling tag) tag) (sym standard) (listing_body_read keep h m.target m.query m.meta m.held.revision whole)) in
    absurd (taken_due keep m h x.0 error later same x.2)
listing_due keep rows m h used (Codes error) standard later whole x = absurd x
listing_due keep rows m h used LinkFault standard later whole x = inl refl
listing_due keep rows m h used Memory standard later whole x = inr refl

behind_stops : (s : Settings) (m : Mirrored) (rounds session : ℕ) (k : Known) (ls : List Listing) (request : List ℕ) (p : Point) (taken : Option (List ℕ)) (e : FollowError) (bytes : List ℕ)
    (b : IsBehind s m rounds session k ls bytes) → p.owed ≡ Some bytes → Stops request (UnexpectedAfter (length ls == rounds) k) p taken e → IsOutside e
behind_stops s m rounds session k ls request p taken e bytes b owed stops = by_rounds b.rs b.asked b.count
  where
    by_rounds : (rs : List Round) → Serves s (asked_behind session (held_after m.held ls).revision rs) b.point bytes b.rest → length ls + length rs ≡ rounds → IsOutside e
    by_rounds [] asked count =
        let last : (length ls == rounds) ≡ true = eq-eqb (length ls) rounds (omega (arith, count)) in
        stops_outside request UnexpectedEnd p taken e bytes b.rest (204, []) owed (empty_served s (want.Logout session) b.point bytes b.rest asked refl) (λ used h. end_due used e h)
        (subst (λ (x : Bool). Stops request (UnexpectedAfter x k) p taken e) last stops)
    by_rounds (r ∷ rs) asked count =
        let more : (length ls == rounds) ≡ false = ne_eqb (length ls) rounds (λ (same : length ls ≡ rounds). omega (arith, count, same)) in
        let body : Tree = revision_body (revision (batches b.point)) in
        let read = revision_tag b.point b.point_whole in
        stops_outside request (UnexpectedNumber (code "musr") k.rows) p taken e bytes b.rest (200, spelling body) owed
        (tag_served s (want.Update session (held_after m.held ls).revision) b.point bytes b.rest body asked refl (few standard_rows body read))
        (λ used h. number_due (code "musr") k.rows body (revision (batches b.point)) used e b.standard read refl h)
        (subst (λ (x : Bool). Stops request (UnexpectedAfter x k) p taken e) more stops)

stage_stops : (host : List ℕ) (s : Settings) (m : Mirrored) (rounds : ℕ) (stage : Stage) (request : List ℕ) (p : Point) (taken : Option (List ℕ)) (e : FollowError) (bytes : List ℕ)
    → IsReady s m rounds stage bytes → p.owed ≡ Some bytes → due host m rounds stage ≡ Some request → Stops request (UnexpectedIn m rounds stage) p taken e → IsOutside e
unfolding listing_tag
stage_stops host s m rounds Begun request p taken e bytes b owed due stops =
    stops_outside request UnexpectedTable p taken e bytes b.rest (200, spelling (table_reply standard_rows)) owed (table_begins s m rounds bytes b) (λ used h. table_due used e h) stops
stage_stops host s m rounds (Learned rows) request p taken e bytes b owed due stops =
    let body : Tree = login_body (next_session b.login) in
    stops_outside request (UnexpectedNumber (code "mlid") rows) p taken e bytes b.rest (200, spelling body) owed (login_begins s m rounds rows bytes b)
    (λ used h. number_due (code "mlid") rows body (next_session b.login) used e b.standard (login_tag b.login b.login_whole) refl h) stops
stage_stops host s m rounds (Asking k ls) request p taken e bytes b owed due stops =
    stops_outside request (UnexpectedListing k.rows (with_listings m ls)) p taken e bytes b.1.serves.0 (200, spelling (listing_tag s m rounds b.0 k ls bytes b.1)) owed
    (listing_begins s m rounds b.0 k ls bytes b.1) (λ used h. listing_due s.keep k.rows (with_listings m ls) b.1.r.0 used e b.1.standard b.1.later.0 b.1.whole.0 h) stops
stage_stops host s m rounds (Holding k ls) request p taken e bytes b owed due stops =
    behind_stops s m rounds b.0 k ls request p taken e bytes b.1 owed stops
stage_stops host s m rounds (Closed k ls) request p taken e bytes b owed due stops = absurd (cc)

-- ---- from the beginning

later_points : (base : ℕ) (r : Round) (rs : List Round) (h : List Entry) → base ≤ revision (batches r.0) → Rise (points_of (r ∷ rs)) h → AreLater base (r ∷ rs)
later_points base r [] h from rise = (from, tt)
later_points base r (q ∷ rs) h from rise = (from, later_points (revision (batches r.0)) q rs h next rise.1.1)
  where
    longer : q.0 ≡ r.0 ++ (rise.0.0 ++ rise.1.0.0)
    longer = rise.1.0.1 ∙ ap (λ (x : List Entry). x ++ rise.1.0.0) rise.0.1 ∙ append_assoc r.0 rise.0.0 rise.1.0.0

    next : revision (batches r.0) ≤ revision (batches q.0)
    next = omega (
      arith,
      ap (λ (x : List Entry). length (batches x)) longer,
      ap (λ (bs : List (List Edit)). length bs) (batches-append r.0 (rise.0.0 ++ rise.1.0.0)),
      length-append (batches r.0) (batches (rise.0.0 ++ rise.1.0.0)),
    )

run_ready : (s : Settings) (m : Mirrored) (rounds : ℕ) (h : List Entry) (bytes : List ℕ) (run : ServesRun s m.target m.query m.meta h bytes) → m.held.revision ≡ 0 → IsWhole h
    → length (run.first ∷ run.others) ≡ rounds → IsBegun s m rounds bytes
run_ready s m rounds h bytes run zero whole count =
    let points = each_whole (run.table ∷ run.login ∷ points_of (run.first ∷ run.others)) h run.rise whole in record {
      table = run.table;
      rest = run.behind_table;
      told = run.told;
      after = λ rows standard. record {
        standard = standard;
        login = run.login;
        rest = run.behind_login;
        entered = run.entered;
        login_whole = points.1.0;
        after = λ k known. record {
          r = run.first;
          rs = run.others;
          standard = known;
          serves = subst (λ (v : ℕ). ServesRounds s (next_session run.login) m.target m.query m.meta v (run.first ∷ run.others) run.behind_login) (sym zero) run.rounds;
          whole = points.1.1;
          later = later_points m.held.revision run.first run.others h (omega (arith, zero)) run.rise.1.1;
          count = omega (arith, count);
        };
      };
    }

pub served_runs_go_on : ServedRunsGoOn
served_runs_go_on host m rounds p taken e now s h bytes x zero whole owed run count =
    let split = owed_split p.owed x.there.owed bytes (messages x.walks.exchanges) owed x.walks.went.read in
    let ready = walk_ready host s m rounds Begun x.stage x.walks.exchanges bytes split.0 zero (run_ready s m rounds h bytes run zero whole count) x.walks.path x.walks.went.answered split.1 in
    stage_stops host s m rounds x.stage x.request x.there taken e split.0 ready (left_owed p.owed x.there.owed bytes (messages x.walks.exchanges) owed x.walks.went.read) x.is_due x.stops

-- ---- what it reads

-- a listing of the share at a length of its history
pub record IsTheShares (s : Settings) (m : Mirrored) (l : Listing) : Type 0 where
  pub point : List Entry
  pub base : ℕ
  pub whole : IsWhole point
  pub is : l ≡ listing s.keep (batches point) m.target (mirror_look m.query m.meta base)

abbrev AreTheShares : Settings → Mirrored → Stage → Type 0
AreTheShares s m stage = AllByRecursion (IsTheShares s m) (listings_in stage)

asked_listing : (s : Settings) (m : Mirrored) (rounds session : ℕ) (k : Known) (ls : List Listing) (l : Listing) (bytes : List ℕ) (answer : Reply)
    (b : IsAsked s m rounds session k ls bytes) → answer ≡ (200, spelling (listing_tag s m rounds session k ls bytes b)) → TellsListing k.rows (with_listings m ls) answer l
    → IsTheShares s m l
unfolding listing_tag
asked_listing s m rounds session k ls l bytes answer b is told =
    let base : ℕ = (held_after m.held ls).revision in
    let tag : Tree = listing_body s.keep b.r.0 m.target (mirror_look m.query m.meta base) in record {
      point = b.r.0;
      base = base;
      whole = b.whole.0;
      is = listing_same s.keep k.rows (with_listings m ls) answer l b.r.0 told
          (tells k.rows answer tag b.standard is (listing_body_read s.keep b.r.0 m.target m.query m.meta base b.whole.0));
    }

listings_on : (s : Settings) (m : Mirrored) (rounds : ℕ) (stage next : Stage) (x : Exchange) (bytes more : List ℕ) → IsReady s m rounds stage bytes → IsReply x.message x.answer
    → bytes ≡ print_message x.message ++ more → Leads m rounds stage x.answer next → AreTheShares s m stage → AreTheShares s m next
listings_on s m rounds Begun next x bytes more b is split leads all = subst (AreTheShares s m) (sym leads.2) tt
listings_on s m rounds (Learned rows) next x bytes more b is split leads all = subst (AreTheShares s m) (sym leads.2) tt
listings_on s m rounds (Asking k ls) next x bytes more b is split leads all =
    let a = answer_is x.message x.answer (200, spelling (listing_tag s m rounds b.0 k ls bytes b.1)) bytes more b.1.serves.0 is split (listing_begins s m rounds b.0 k ls bytes b.1) in
    subst (AreTheShares s m) (sym leads.2)
    (each_both (IsTheShares s m) ls (leads.0 ∷ []) all (asked_listing s m rounds b.0 k ls leads.0 bytes x.answer b.1 a.0 leads.1, tt))
listings_on s m rounds (Holding k ls) next x bytes more b is split leads all = behind (length ls == rounds) leads
  where
    behind : (last : Bool) → LeadsOn last k ls x.answer next → AreTheShares s m next
    behind true on = subst (AreTheShares s m) (sym on.1) all
    behind false on = subst (AreTheShares s m) (sym on.1) all
listings_on s m rounds (Closed k ls) next x bytes more b is split leads all = absurd leads

walk_listings : (host : List ℕ) (s : Settings) (m : Mirrored) (rounds : ℕ) (stage last : Stage) (xs : List Exchange) (bytes more : List ℕ) → m.held.revision ≡ 0
    → IsReady s m rounds stage bytes → Path host m rounds stage xs last → AreAnswered xs → bytes ≡ messages xs ++ more → AreTheShares s m stage → AreTheShares s m last
walk_listings host s m rounds stage last [] bytes more zero b path are same all = subst (AreTheShares s m) (sym path) all
walk_listings host s m rounds stage last (x ∷ xs) bytes more zero b path are same all =
    let split = split_on x xs bytes more same in
    walk_listings host s m rounds path.1.0 last xs (messages xs ++ more) more zero
    (step_on host s m rounds stage path.1.0 x bytes (messages xs ++ more) zero b are.0 split path.1.1) path.1.2 are.1 refl
    (listings_on s m rounds stage path.1.0 x bytes (messages xs ++ more) b are.0 split path.1.1 all)

-- each listing that a client read from such bytes is the share's
pub listings_are_the_shares : (host : List ℕ) (m : Mirrored) (rounds : ℕ) (p : Point) (stage : Stage) (there : Point) (s : Settings) (h : List Entry) (bytes : List ℕ)
    → Walks host m rounds Begun p stage there → m.held.revision ≡ 0 → IsWhole h → p.owed ≡ Some bytes → (run : ServesRun s m.target m.query m.meta h bytes)
    → length (run.first ∷ run.others) ≡ rounds → AllByRecursion (IsTheShares s m) (listings_in stage)
listings_are_the_shares host m rounds p stage there s h bytes walks zero whole owed run count =
    let split = owed_split p.owed there.owed bytes (messages walks.exchanges) owed walks.went.read in
    walk_listings host s m rounds Begun stage walks.exchanges bytes split.0 zero (run_ready s m rounds h bytes run zero whole count) walks.path walks.went.answered split.1 tt
