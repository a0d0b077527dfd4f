-- Whatever comes later in a history changes nothing of what was served.
use Rattle.std.proofs.Common.{◌≡◌, ◌≤◌, ◌<◌, ℕ, ◌+◌, List, [], ◌∷◌, ◌++◌, length, refl, sym, ap, ◌∙◌, subst, true, cond, ◌==◌, is_some, MatchBool, arith}
use Rattle.std.proofs.lemmas.List.{take-append-le, length-append}
use Rattle.item_model.specs.declared.changes.Entry.{Entry}
use Rattle.share_asks.specs.declared.ask.Ask.{Ask}
use Rattle.share_asks.specs.declared.ask.Want.{Want}
use Rattle.share_history.specs.Sessions.{is_live}
use Rattle.share_history.specs.Marks.{until_login}
use Rattle.share_replies.specs.Settings.{Settings}
use Rattle.share_replies.specs.Replies.{answer_to}
use Rattle.reply_bytes.specs.ReplyBytes.{failure_bytes}
use Rattle.share_server.specs.declared.report.Served.{Served}
use Rattle.share_server.specs.Served.{at_point, answered_on, added_part, IsGivenUp, IsReplied, IsServed, AreServed, added_entries}
use Rattle.share_server.specs.Replies.{due, replies_from, served_bytes, answer_bytes}
use Rattle.share_server.specs.Passes.{IsMarked, AreMarked}
use Rattle.share_server.specs.Laws.{Stays, LaterEntriesChangeNothing, ServedBytesAreReplies}

-- the history up to a length that is within it is the same
pub same_point : (h more : List Entry) (s : Served) → s.point ≤ length h → at_point (h ++ more) s ≡ at_point h s
same_point h more s within = take-append-le s.point h more within

longer_length : (h more : List Entry) (n : ℕ) → n ≤ length h → n ≤ length (h ++ more)
longer_length h more n within = let e : length (h ++ more) ≡ length h + length more = length-append h more in omega arith

pub served_longer : (settings : Settings) (by : ℕ) (h more : List Entry) (want : Want) (s : Served) → IsServed settings by h want s
    → IsServed settings by (h ++ more) want s
served_longer settings by h more want s is = record {
  within = longer_length h more s.point is.within;
  how = subst (λ p. MatchBool (s.status == 500) (IsGivenUp s) (IsReplied settings by p want s)) (sym (same_point h more s is.within)) is.how;
}

pub stays : (settings : Settings) (by limit : ℕ) (h more : List Entry) (n : ℕ) (asks : List Ask) (served : List Served) → AreServed settings by h asks served
    → Stays settings by limit h more n asks served
stays settings by limit h more n [] [] are = record { served_too = are; entries = refl; bytes = refl; goes_on = λ on. on }
stays settings by limit h more n [] (s ∷ served) are = absurd are
stays settings by limit h more n (ask ∷ asks) [] are = absurd are
stays settings by limit h more n (ask ∷ asks) (s ∷ served) are =
    let same : at_point (h ++ more) s ≡ at_point h s = same_point h more s are.0.within in
    let rest : Stays settings by limit h more (n + 1) asks served = stays settings by limit h more (n + 1) asks served are.1 in
    record {
      served_too = (served_longer settings by h more ask.want s are.0, rest.served_too);
      entries = ap (λ p. added_part s.added p ++ added_entries (h ++ more) served) same ∙ ap (λ es. added_part s.added (at_point h s) ++ es) rest.entries;
      bytes = ap (λ p. served_bytes settings p ask s (is_some (due limit n ask p)) ++ replies_from settings limit (h ++ more) (n + 1) asks served) same
          ∙ ap (λ bs. served_bytes settings (at_point h s) ask s (is_some (due limit n ask (at_point h s))) ++ bs) rest.bytes;
      goes_on = λ on. (ap (due limit n ask) same ∙ on.0, rest.goes_on on.1);
    }

pub later_entries_change_nothing : LaterEntriesChangeNothing
later_entries_change_nothing = stays

-- ---- last-answered lengths

pub marked_longer : (h more : List Entry) (s : Served) → s.point ≤ length h → IsMarked h s → IsMarked (h ++ more) s
marked_longer h more s within is = record {
  within = is.within;
  late = subst (λ p. 0 < s.session → is_live (answered_on s.added p) s.session ≡ true → length (until_login s.session (answered_on s.added p)) ≤ s.seen) (sym (same_point h more s within)) is.late;
}

pub are_marked_longer : (settings : Settings) (by : ℕ) (h more : List Entry) (asks : List Ask) (served : List Served) → AreServed settings by h asks served → AreMarked h served
    → AreMarked (h ++ more) served
are_marked_longer settings by h more [] [] are marked = marked
are_marked_longer settings by h more [] (s ∷ served) are marked = absurd are
are_marked_longer settings by h more (ask ∷ asks) [] are marked = absurd are
are_marked_longer settings by h more (ask ∷ asks) (s ∷ served) are marked =
    (marked_longer h more s are.0.within marked.0, are_marked_longer settings by h more asks served are.1 marked.1)

-- ---- the bytes of one request

pub served_bytes_are_replies : ServedBytesAreReplies
served_bytes_are_replies settings by h ask s last is answered =
    let replied : IsReplied settings by (at_point h s) ask.want s =
    subst (λ b. MatchBool b (IsGivenUp s) (IsReplied settings by (at_point h s) ask.want s)) answered is.how in (
      replied.reply,
      replied.replies,
      ap (λ b. cond b (failure_bytes last) (answer_bytes (answer_to settings (answered_on s.added (at_point h s)) ask.want) last)) answered
          ∙ ap (λ a. answer_bytes a last) replied.replies,
    )
