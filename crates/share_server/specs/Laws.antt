-- Theorems about all histories and requests.
use Rattle.std.specs.Prelude.{◌≡◌, ◌⊎◌, ◌≤◌, ◌<◌, ℕ, List, [], ◌∷◌, ◌++◌, length, Bool, true, false, ◌==◌, Option}
use Rattle.std.specs.List.{list_any}
use Rattle.item_model.specs.declared.changes.Entry.{Entry}
use Rattle.share_asks.specs.declared.ask.Ask.{Ask}
use Rattle.share_asks.specs.declared.ask.Role.{Role}
use Rattle.share_asks.specs.declared.ask.Role.TheVariants.{Listen}
use Rattle.share_asks.specs.declared.ask.Want.{Want}
use Rattle.share_asks.specs.declared.ask.Want.TheVariants.{Login}
use Rattle.share_history.specs.Sessions.{is_stop, is_live}
use Rattle.http_front.specs.Readings.{Joins}
use Rattle.share_lock.specs.Histories.{NoneOf}
use Rattle.share_lock.specs.Known.{after_turn}
use Rattle.share_replies.specs.Settings.{Settings}
use Rattle.share_replies.specs.Replies.{Reply, Replies, answer_to}
use Rattle.share_replies.specs.Laws.{is_edit, maker}
use Rattle.reply_bytes.specs.ReplyBytes.{reply_bytes}
use Rattle.share_server.specs.declared.report.Served.{Served}
use Rattle.share_server.specs.declared.report.LinkEnd.{LinkEnd}
use Rattle.share_server.specs.Served.{at_point, answered_on, IsServed, AreServed, added_entries}
use Rattle.share_server.specs.Replies.{GoOn, replies_from, served_bytes}
use Rattle.share_server.specs.Passes.{Pass, Serves}
use Rattle.share_server.specs.Ends.{EndsInside, EndsAtEnd}
use Rattle.share_server.specs.Links.{Completes, LinkEnded}

-- Later entries change nothing that was reported or written.
pub record Stays (settings : Settings) (by limit : ℕ) (h more : List Entry) (n : ℕ) (asks : List Ask) (served : List Served) : Type 0 where
  pub served_too : AreServed settings by (h ++ more) asks served
  pub entries : added_entries (h ++ more) served ≡ added_entries h served
  pub bytes : replies_from settings limit (h ++ more) n asks served ≡ replies_from settings limit h n asks served
  pub goes_on : GoOn limit h n asks served → GoOn limit (h ++ more) n asks served

abbrev pub LaterEntriesChangeNothing : Type 0
LaterEntriesChangeNothing =
    (settings : Settings) (by limit : ℕ) (h more : List Entry) (n : ℕ) (asks : List Ask) (served : List Served) → AreServed settings by h asks served
    → Stays settings by limit h more n asks served

-- A handle that served `asks` and then `more_asks` served all of them.
abbrev pub ServesInTurn : Type 0
ServesInTurn =
    (k k' k'' : Pass) (asks more_asks : List Ask) (served more_served : List Served) → Serves k k' asks served
    → Serves k' k'' more_asks more_served → Serves k k'' (asks ++ more_asks) (served ++ more_served)

-- A turn in which the handle added nothing served nothing.
abbrev pub QuietTurnsServeNothing : Type 0
QuietTurnsServeNothing =
    (k : Pass) (more : List Entry) → NoneOf maker (k.number ∷ []) more → Serves k (after_turn k (k.seen ++ more)) [] []

-- A served request has the bytes of the share's reply to it, or of the failure.
abbrev pub ServedBytesAreReplies : Type 0
ServedBytesAreReplies =
    (settings : Settings) (by : ℕ) (h : List Entry) (ask : Ask) (s : Served) (last : Bool) → IsServed settings by h ask.want s → (s.status == 500) ≡ false
    → (reply : Reply) × (answer_to settings (answered_on s.added (at_point h s)) ask.want ≡ Replies reply)
    × (served_bytes settings (at_point h s) ask s last ≡ reply_bytes reply last)

-- A session that was answered was live before, unless this request logged it in.
abbrev pub SessionsAreLive : Type 0
SessionsAreLive =
    (settings : Settings) (by : ℕ) (h : List Entry) (want : Want) (s : Served) → IsServed settings by h want s → 0 < s.session
    → (want ≡ Login) ⊎ (is_live (answered_on s.added (at_point h s)) s.session ≡ true)

-- An end inside the bytes of a connection is also an end if bytes or entries follow.
abbrev pub EndsStay : Type 0
EndsStay =
    (role : Role) (bytes more : List ℕ) (settings : Settings) (by limit : ℕ) (h later : List Entry) (asks : List Ask) (served : List Served) (rest output : List ℕ) (end : LinkEnd)
    → AreServed settings by h asks served → EndsInside role bytes settings limit h asks served rest output end
    → EndsInside role (bytes ++ more) settings limit (h ++ later) asks served (rest ++ more) output end

-- If no request closes the connection, its end is decided by input, limit and stop, unless something outside or an
-- allocation fails.
abbrev pub EndsAreDecided : Type 0
EndsAreDecided =
    (role : Role) (input : List ℕ) (settings : Settings) (limit : ℕ) (h : List Entry) (asks : List Ask) (served : List Served) (rest output : List ℕ) (end : LinkEnd)
    → Joins role input asks rest
    → EndsInside role input settings limit h asks served rest output end ⊎ EndsAtEnd role input settings limit h asks served rest output end
    → Completes role input limit h asks served end

-- No connection is served more requests than its limit.
abbrev pub NoneBeyondTheLimit : Type 0
NoneBeyondTheLimit =
    (role : Role) (limit : ℕ) (k k' : Pass) (left taken taken' : Option (List ℕ)) (served : List Served) (end : LinkEnd)
    → LinkEnded role limit k k' left taken taken' served end → length served ≤ limit

-- The requests of players edit nothing and stop nothing.
abbrev pub PlayersChangeNothing : Type 0
PlayersChangeNothing =
    (input : List ℕ) (asks : List Ask) (rest : List ℕ) (settings : Settings) (by : ℕ) (h : List Entry) (served : List Served) → Joins Listen input asks rest
    → AreServed settings by h asks served
    → (list_any is_edit (added_entries h served) ≡ false) × (list_any is_stop (added_entries h served) ≡ false)
