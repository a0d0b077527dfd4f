-- A reply and the entry that it adds are the whole answer.
use Rattle.std.proofs.Common.{◌≡◌, ◌<◌, ◌≤◌, ℕ, eq-eqb, arith, Bool, true, false, cond, not, ◌&&◌, ◌==◌, List, [], ◌∷◌, ◌++◌, length, refl, sym, ap, ◌∙◌, subst, append-nil, true≢false, ne_eqb, Option, Some, None, is_some, unwrap_or, Ok, Err}
use Rattle.std.specs.Option.{option_or, option_map_or, option_to_list}
use Rattle.item_model.specs.declared.changes.Edit.{Edit}
use Rattle.item_model.specs.declared.changes.Entry.{Entry}
use Rattle.item_model.specs.declared.changes.Entry.TheVariants as entry
use Rattle.share_history.specs.Histories.{batches, revision}
use Rattle.share_history.specs.LastSaid.{only_if}
use Rattle.share_history.specs.Limits.{is_below_entry_limit, takes_batch}
use Rattle.share_history.specs.Marks.{marks_after, until_login}
use Rattle.share_history.specs.Sessions.{is_live, is_stopped, next_session}
use Rattle.fault_lines.specs.Records.{records_line}
use Rattle.records_import.specs.declared.refusal.RecordError.{RecordError}
use Rattle.share_asks.specs.declared.ask.Want.{Want}
use Rattle.share_asks.specs.declared.ask.Want.TheVariants.{ServerInfo, Codes, Login, Logout, Update, Databases, Rows, Lists, Values, Edit as Change, Stop, Bad}
use Rattle.share_replies.specs.Settings.{Settings}
use Rattle.share_replies.specs.SmallBodies.{login_body, revision_body}
use Rattle.share_replies.specs.Replies as replies
use Rattle.share_replies.specs.Replies.{Body, Nothing, Line, Tagged, Answer, Replies, Holds, needed, request_fault, lacks_session, refusal, success, session_of, answer_to}
use Rattle.share_replies.specs.Added.{adds, after, made_by}
use Rattle.share_replies.specs.Answers.{Shared, mark_of, told, left}
use Rattle.share_replies.proofs.ReplyFacts.{stopped_shares_refuse, others_are_forbidden}
use Rattle.share_core.specs.declared.answer.Answer.TheVariants as answer
use Rattle.share_core.specs.declared.answer.Reply.{Reply}
use Rattle.share_core.specs.declared.answer.ReplyContent.{ReplyContent}
use Rattle.share_core.specs.Contents.{IsContent}
use Rattle.share_core.specs.Told.{IsReply, IsTold, IsAnswer}
use Rattle.share_core.specs.Steps.{reply_of, IsRead, HasGrown, IsBetween}
use Rattle.share_core.specs.Wants.{is_read}

-- a reply that adds nothing is the answer if the share replies this and adds nothing
pub read_answer : (old new : Shared) (by : ℕ) (want : Want) (content : ℕ × Body) (id : ℕ) (r : Reply)
    → answer_to old.settings old.history want ≡ Replies (reply_of content id) → adds old.history by want ≡ None → IsRead content id old new r
    → IsAnswer old new by want (answer.Reply r)
read_answer old new by want content id r is none read =
    let same : old.history ≡ after old.history by want = sym (ap (λ o. old.history ++ option_to_list o) none ∙ append-nil old.history) in record {
      told =
          subst (λ a. IsTold (told old by want a) (answer.Reply r)) (sym is)
          (subst (λ (h : List Entry). IsReply (reply_of content id) (length h) (mark_of old.marks id) (is_some (adds old.history by want)) r) same
          (subst (λ (o : Option Entry). IsReply (reply_of content id) (length old.history) (mark_of old.marks id) (is_some o) r) (sym none) read.reply));
      share =
          read.share ∙ (λ i. record { settings = old.settings; history = same i; marks = marks_after (same i) id old.marks }) ∙ ap (left old by want) (sym is);
    }

pub grown_answer : (old new : Shared) (by : ℕ) (want : Want) (content : ℕ × Body) (id : ℕ) (e : Entry) (r : Reply)
    → answer_to old.settings old.history want ≡ Replies (reply_of content id) → adds old.history by want ≡ Some e → HasGrown content id e old new r
    → IsAnswer old new by want (answer.Reply r)
grown_answer old new by want content id e r is some grown =
    let same : old.history ++ e ∷ [] ≡ after old.history by want = ap (λ o. old.history ++ option_to_list o) (sym some) in record {
      told =
          subst (λ a. IsTold (told old by want a) (answer.Reply r)) (sym is)
          (subst (λ (h : List Entry). IsReply (reply_of content id) (length h) (mark_of old.marks id) (is_some (adds old.history by want)) r) same
          (subst (λ (o : Option Entry). IsReply (reply_of content id) (length (old.history ++ e ∷ [])) (mark_of old.marks id) (is_some o) r) (sym some) grown.reply));
      share =
          grown.share ∙ (λ i. record { settings = old.settings; history = same i; marks = marks_after (same i) id old.marks }) ∙ ap (left old by want) (sym is);
    }

-- a pending operation changes nothing
pub held_answer : (old : Shared) (by : ℕ) (want : Want) (now point : ℕ) → answer_to old.settings old.history want ≡ Holds
    → now ≡ revision (batches old.history) → point ≡ length old.history → IsAnswer old old by want (answer.Wait now point)
held_answer old by want now point is at_revision at_end = record {
  told = subst (λ a. IsTold (told old by want a) (answer.Wait now point)) (sym is) (at_revision, at_end);
  share = ap (left old by want) (sym is);
}

-- ---- refusals of a share as a whole, and of a session

pub stopped_answer : (old new : Shared) (by : ℕ) (want : Want) (r : Reply) → is_stopped old.history ≡ true → IsRead (503, Nothing) 0 old new r
    → IsAnswer old new by want (answer.Reply r)
stopped_answer old new by want r stopped read =
    let is = stopped_shares_refuse old.settings old.history by want stopped in read_answer old new by want (503, Nothing) 0 r is.0 is.1 read

dead_session : (h : List Entry) (o : Option ℕ) → option_map_or (λ id. not (is_live h id)) o false ≡ true → (id : ℕ) × ((o ≡ Some id) × (is_live h id ≡ false))
dead_session h None lacks = absurd (true≢false (sym lacks))
dead_session h (Some id) lacks = (id, (refl, not_true (is_live h id) lacks))
  where
    not_true : (b : Bool) → not b ≡ true → b ≡ false
    not_true true h = absurd (true≢false (sym h))
    not_true false h = refl

or_there : (o : Option (ℕ × Body)) (told : ℕ × Body) → is_some (option_or o (Some told)) ≡ true
or_there None told = refl
or_there (Some first) told = refl

nothing_added : (h : List Entry) (by : ℕ) (want : Want) → is_stopped h ≡ false → lacks_session h want ≡ true → adds h by want ≡ None
nothing_added h by want going lacks =
    let refused : is_some (refusal h want) ≡ true = rw (going, lacks) (or_there (request_fault want) (403, Nothing)) in
    ap (λ b. cond {A = Option Entry} b None (made_by by h want)) refused

pub lacking_answer : (old new : Shared) (by : ℕ) (want : Want) (r : Reply) → is_stopped old.history ≡ false → lacks_session old.history want ≡ true
    → IsRead (403, Nothing) 0 old new r → IsAnswer old new by want (answer.Reply r)
lacking_answer old new by want r going lacks read =
    let dead = dead_session old.history (needed want) lacks in
    read_answer old new by want (403, Nothing) 0 r (others_are_forbidden old.settings old.history want dead.0 going dead.1.0 dead.1.1)
    (nothing_added old.history by want going lacks) read

-- ---- logins and logouts

no_session : (b : Bool) (n : ℕ) → cond (b && false) n 0 ≡ 0
no_session true n = refl
no_session false n = refl

login_told : (s : Settings) (h : List Entry) (told : ℕ × Body) → is_stopped h ≡ false → is_below_entry_limit h ≡ false → answer_to s h Login ≡ Replies (reply_of (507, Nothing) 0)
login_told s h told going full =
    let refused : refusal h Login ≡ Some (507, Nothing) = rw (going, full) refl in
    let nobody : session_of h Login ≡ 0 = ap (λ b. cond (not (is_stopped h) && b) (next_session h) 0) full ∙ no_session (not (is_stopped h)) (next_session h) in
    ap (λ found. option_map_or (replies.reply_with h Login) found (replies.reply_with h Login (success s h Login))) refused ∙ ap (λ n. Replies (reply_of (507, Nothing) n)) nobody

pub login_refused : (old new : Shared) (by : ℕ) (r : Reply) → is_stopped old.history ≡ false → is_below_entry_limit old.history ≡ false → IsRead (507, Nothing) 0 old new r
    → IsAnswer old new by Login (answer.Reply r)
login_refused old new by r going full read =
    read_answer old new by Login (507, Nothing) 0 r (login_told old.settings old.history (507, Nothing) going full) (rw (going, full) refl) read

pub login_answer : (old new : Shared) (by : ℕ) (r : Reply) → is_stopped old.history ≡ false → is_below_entry_limit old.history ≡ true
    → HasGrown (200, Tagged (login_body (next_session old.history))) (next_session old.history) (entry.Login by (next_session old.history)) old new r
    → IsAnswer old new by Login (answer.Reply r)
login_answer old new by r going place grown =
    grown_answer old new by Login (200, Tagged (login_body (next_session old.history))) (next_session old.history) (entry.Login by (next_session old.history)) r
    (rw (going, place) refl) (rw (going, place) refl) grown

pub logout_answer : (old new : Shared) (by session : ℕ) (r : Reply) → is_stopped old.history ≡ false → is_live old.history session ≡ true
    → HasGrown (204, Nothing) session (entry.Logout by session) old new r → IsAnswer old new by (Logout session) (answer.Reply r)
logout_answer old new by session r going live grown =
    grown_answer old new by (Logout session) (204, Nothing) session (entry.Logout by session) r (rw (going, live) refl) (rw (going, live) refl) grown

-- ---- updates

pub update_waits : (old : Shared) (by session number now point : ℕ) → is_stopped old.history ≡ false → is_live old.history session ≡ true
    → number ≡ now → now ≡ revision (batches old.history) → point ≡ length old.history → IsAnswer old old by (Update session number) (answer.Wait now point)
update_waits old by session number now point going live same at_revision at_end =
    held_answer old by (Update session number) now point (rw (going, live) (ap (λ b. cond b Holds (Replies (reply_of (200, Tagged (revision_body (revision (batches old.history)))) session))) present)) at_revision at_end
  where
    present : (number == revision (batches old.history)) ≡ true
    present = eq-eqb number (revision (batches old.history)) (same ∙ at_revision)

pub update_answer : (old new : Shared) (by session number : ℕ) (r : Reply) → is_stopped old.history ≡ false → is_live old.history session ≡ true
    → (number == revision (batches old.history)) ≡ false → IsRead (200, Tagged (revision_body (revision (batches old.history)))) session old new r
    → IsAnswer old new by (Update session number) (answer.Reply r)
update_answer old new by session number r going live other read =
    read_answer old new by (Update session number) (200, Tagged (revision_body (revision (batches old.history)))) session r
    (rw (going, live, other) refl) (rw (going, live) refl) read

-- ---- edits and the stop

pub records_answer : (old new : Shared) (by : ℕ) (error : RecordError) (r : Reply) → is_stopped old.history ≡ false
    → IsRead (400, Line (records_line error)) 0 old new r → IsAnswer old new by (Change (Err error)) (answer.Reply r)
records_answer old new by error r going read =
    read_answer old new by (Change (Err error)) (400, Line (records_line error)) 0 r (rw going refl) (rw going refl) read

pub no_edits : (old new : Shared) (by : ℕ) (batch : List Edit) (r : Reply) → is_stopped old.history ≡ false → batch ≡ [] → IsRead (204, Nothing) 0 old new r
    → IsAnswer old new by (Change (Ok batch)) (answer.Reply r)
no_edits old new by batch r going none read =
    subst (λ (es : List Edit). IsAnswer old new by (Change (Ok es)) (answer.Reply r)) (sym none)
    (read_answer old new by (Change (Ok [])) (204, Nothing) 0 r (rw going refl) (rw going refl) read)

pub edits_refused : (old new : Shared) (by : ℕ) (batch : List Edit) (r : Reply) → is_stopped old.history ≡ false → 0 < length batch
    → takes_batch old.history batch ≡ false → IsRead (507, Nothing) 0 old new r → IsAnswer old new by (Change (Ok batch)) (answer.Reply r)
edits_refused old new by [] r going some full read = absurd (omega (arith, some))
edits_refused old new by (e ∷ es) r going some full read =
    read_answer old new by (Change (Ok (e ∷ es))) (507, Nothing) 0 r (rw (going, full) refl) (rw (going, full) refl) read

pub edits_answer : (old new : Shared) (by : ℕ) (batch : List Edit) (r : Reply) → is_stopped old.history ≡ false → 0 < length batch
    → takes_batch old.history batch ≡ true
    → HasGrown (200, Tagged (revision_body (revision (batches old.history ++ batch ∷ [])))) 0 (entry.Edits by batch) old new r
    → IsAnswer old new by (Change (Ok batch)) (answer.Reply r)
edits_answer old new by [] r going some takes grown = absurd (omega (arith, some))
edits_answer old new by (e ∷ es) r going some takes grown =
    grown_answer old new by (Change (Ok (e ∷ es))) (200, Tagged (revision_body (revision (batches old.history ++ (e ∷ es) ∷ [])))) 0 (entry.Edits by (e ∷ es)) r
    (rw (going, takes) refl) (rw (going, takes) refl) grown

pub stop_answer : (old new : Shared) (by : ℕ) (r : Reply) → is_stopped old.history ≡ false
    → HasGrown (204, Nothing) 0 (entry.Stop by) old new r → IsAnswer old new by Stop (answer.Reply r)
stop_answer old new by r going grown = grown_answer old new by Stop (204, Nothing) 0 (entry.Stop by) r (rw going refl) (rw going refl) grown

-- ---- what is only read

live_on : (h : List Entry) (id : ℕ) → not (is_live h id) ≡ false → is_live h id ≡ true
live_on h id lacks = by_case (is_live h id) lacks
  where
    by_case : (b : Bool) → not b ≡ false → b ≡ true
    by_case true h = refl
    by_case false h = absurd (true≢false h)

-- the session of a reply is the one that the operation needs
read_session : (h : List Entry) (want : Want) → is_read want ≡ true → is_stopped h ≡ false → lacks_session h want ≡ false → session_of h want ≡ unwrap_or (needed want) 0
read_session h ServerInfo read going lacks = refl
read_session h Codes read going lacks = refl
read_session h Login read going lacks = absurd (true≢false (sym read))
read_session h (Logout session) read going lacks = absurd (true≢false (sym read))
read_session h (Update session number) read going lacks = absurd (true≢false (sym read))
read_session h (Databases session) read going lacks = rw (going, live_on h session lacks) refl
read_session h (Rows session target look) read going lacks = rw (going, live_on h session lacks) refl
read_session h (Lists session) read going lacks = rw (going, live_on h session lacks) refl
read_session h (Values session browse query) read going lacks = rw (going, live_on h session lacks) refl
read_session h (Change body) read going lacks = absurd (true≢false (sym read))
read_session h Stop read going lacks = absurd (true≢false (sym read))
read_session h (Bad fault) read going lacks = refl

or_success : (o : Option (ℕ × Body)) (f : ℕ × Body → Answer) (told : ℕ × Body) → option_map_or f o (f told) ≡ f (unwrap_or o told)
or_success None f told = refl
or_success (Some first) f told = refl

read_reply : (s : Settings) (h : List Entry) (want : Want) → is_read want ≡ true
    → answer_to s h want ≡ replies.reply_with h want (unwrap_or (refusal h want) (success s h want))
read_reply s h ServerInfo read = or_success (refusal h ServerInfo) (replies.reply_with h ServerInfo) (success s h ServerInfo)
read_reply s h Codes read = or_success (refusal h Codes) (replies.reply_with h Codes) (success s h Codes)
read_reply s h Login read = absurd (true≢false (sym read))
read_reply s h (Logout session) read = absurd (true≢false (sym read))
read_reply s h (Update session number) read = absurd (true≢false (sym read))
read_reply s h (Databases session) read = or_success (refusal h (Databases session)) (replies.reply_with h (Databases session)) (success s h (Databases session))
read_reply s h (Rows session target look) read = or_success (refusal h (Rows session target look)) (replies.reply_with h (Rows session target look)) (success s h (Rows session target look))
read_reply s h (Lists session) read = or_success (refusal h (Lists session)) (replies.reply_with h (Lists session)) (success s h (Lists session))
read_reply s h (Values session browse query) read = or_success (refusal h (Values session browse query)) (replies.reply_with h (Values session browse query)) (success s h (Values session browse query))
read_reply s h (Change body) read = absurd (true≢false (sym read))
read_reply s h Stop read = absurd (true≢false (sym read))
read_reply s h (Bad fault) read = or_success (refusal h (Bad fault)) (replies.reply_with h (Bad fault)) (success s h (Bad fault))

none_made : (by : ℕ) (h : List Entry) (want : Want) → is_read want ≡ true → made_by by h want ≡ None
none_made by h ServerInfo read = refl
none_made by h Codes read = refl
none_made by h Login read = absurd (true≢false (sym read))
none_made by h (Logout session) read = absurd (true≢false (sym read))
none_made by h (Update session number) read = absurd (true≢false (sym read))
none_made by h (Databases session) read = refl
none_made by h (Rows session target look) read = refl
none_made by h (Lists session) read = refl
none_made by h (Values session browse query) read = refl
none_made by h (Change body) read = absurd (true≢false (sym read))
none_made by h Stop read = absurd (true≢false (sym read))
none_made by h (Bad fault) read = refl

none_either : (b : Bool) (made : Option Entry) → made ≡ None → cond b None made ≡ None
none_either true made none = refl
none_either false made none = none

pub look_answer : (old new : Shared) (by : ℕ) (want : Want) (id : ℕ) (r : Reply) → is_read want ≡ true → is_stopped old.history ≡ false → lacks_session old.history want ≡ false
    → id ≡ unwrap_or (needed want) 0
    → IsRead (unwrap_or (refusal old.history want) (success old.settings old.history want)) id old new r → IsAnswer old new by want (answer.Reply r)
look_answer old new by want id r kind going lacks same read =
    let content = unwrap_or (refusal old.history want) (success old.settings old.history want) in
    read_answer old new by want content id r
    (read_reply old.settings old.history want kind
    ∙ ap (λ n. Replies (reply_of content n)) (read_session old.history want kind going lacks ∙ sym same))
    (none_either (is_some (refusal old.history want)) (made_by by old.history want) (none_made by old.history want kind)) read

-- ---- what calls on the register leave

-- the share whose parts these are
abbrev pub shared : Settings → List Entry → List (ℕ × ℕ) → Shared
shared settings h marks = record { settings = settings; history = h; marks = marks }

pub read_is : (s : Settings) (h h' : List Entry) (marks marks' : List (ℕ × ℕ)) (content : ReplyContent) (id : ℕ) (r : Reply) (told : ℕ × Body)
    → h' ≡ h → marks' ≡ marks_after h id marks → r ≡ record { content = content; point = length h; session = id; seen = mark_of marks id; added = false } → IsContent told content
    → IsRead told id (shared s h marks) (shared s h' marks') r
read_is s h h' marks marks' content id r told same moved is fits = record {
  reply = record {
    content = subst (λ (x : Reply). IsContent told x.content) (sym is) fits;
    session = ap (λ (x : Reply). x.session) is;
    point = ap (λ (x : Reply). x.point) is;
    seen = ap (λ (x : Reply). x.seen) is;
    added = ap (λ (x : Reply). x.added) is;
  };
  share = λ i. shared s (same i) (moved i);
}

pub grown_is : (s : Settings) (h h' : List Entry) (marks marks' : List (ℕ × ℕ)) (e : Entry) (content : ReplyContent) (id seen : ℕ) (r : Reply) (told : ℕ × Body)
    → h' ≡ h ++ e ∷ [] → marks' ≡ marks_after h' id marks → seen ≡ mark_of marks id
    → r ≡ record { content = content; point = length h'; session = id; seen = seen; added = true } → IsContent told content
    → HasGrown told id e (shared s h marks) (shared s h' marks') r
grown_is s h h' marks marks' e content id seen r told longer moved mark is fits = record {
  reply = record {
    content = subst (λ (x : Reply). IsContent told x.content) (sym is) fits;
    session = ap (λ (x : Reply). x.session) is;
    point = ap (λ (x : Reply). x.point) is ∙ ap length longer;
    seen = ap (λ (x : Reply). x.seen) is ∙ mark;
    added = ap (λ (x : Reply). x.added) is;
  };
  share = λ i. shared s (longer i) ((moved ∙ ap (λ (l : List Entry). marks_after l id marks) longer) i);
}

pub nothing_in : (batch : List Edit) → length batch ≡ 0 → batch ≡ []
nothing_in [] none = refl
nothing_in (e ∷ es) none = absurd (omega (arith, none))

pub between : (h : List Entry) (r : Reply) (content : ReplyContent) (point id seen : ℕ) (added : Bool)
    → r ≡ record { content = content; point = point; session = id; seen = seen; added = added } → seen ≤ length h → (is_live h id ≡ true → length (until_login id h) ≤ seen) → IsBetween h r
between h r content point id seen added is below above = record {
  until = subst (λ (x : Reply). x.seen ≤ length h) (sym is) below;
  since = subst (λ (x : Reply). is_live h x.session ≡ true → length (until_login x.session h) ≤ x.seen) (sym is) above;
}
