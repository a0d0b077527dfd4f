-- A request that was served, by the history of its share. Its report depends only on the history at its length, so
-- later entries change nothing.
use Rattle.std.specs.Prelude.{◌≡◌, ◌≤◌, ℕ, ◌-◌, List, [], ◌∷◌, ◌++◌, length, take, drop, Bool, false, ◌==◌, is_some, MatchBool, if◌then◌else◌}
use Rattle.std.specs.Option.{option_to_list}
use Rattle.item_model.specs.declared.changes.Entry.{Entry}
use Rattle.share_asks.specs.declared.ask.Ask.{Ask}
use Rattle.share_asks.specs.declared.ask.Want.{Want}
use Rattle.share_replies.specs.Settings.{Settings}
use Rattle.share_replies.specs.Replies.{Reply, Replies, answer_to}
use Rattle.share_replies.specs.Added.{adds}
use Rattle.share_server.specs.declared.report.Served.{Served}

-- The history at the length of a request.
abbrev pub at_point : List Entry → Served → List Entry
at_point h s = take s.point h

-- The history that an answer was computed from: the one at its length, without the entry that it added.
abbrev pub answered_on : Bool → List Entry → List Entry
answered_on added p = if added then take (length p - 1) p else p

-- What an answer added: the last entry at its length, or nothing.
abbrev pub added_part : Bool → List Entry → List Entry
added_part added p = if added then drop (length p - 1) p else []

-- An allocation failed: the request has no session, and added nothing.
pub record IsGivenUp (s : Served) : Type 0 where
  pub session : s.session ≡ 0
  pub seen : s.seen ≡ 0
  pub added : s.added ≡ false

-- The request got the share's reply on the history that it was answered on, and added what that adds.
pub record IsReplied (settings : Settings) (by : ℕ) (p : List Entry) (want : Want) (s : Served) : Type 0 where
  pub reply : Reply
  pub replies : answer_to settings (answered_on s.added p) want ≡ Replies reply
  pub status : s.status ≡ reply.status
  pub session : s.session ≡ reply.session
  pub adds_it : added_part s.added p ≡ option_to_list (adds (answered_on s.added p) by want)
  pub added : s.added ≡ is_some (adds (answered_on s.added p) by want)

-- The status 500 reports a failed allocation; every other status is the share's.
pub record IsServed (settings : Settings) (by : ℕ) (h : List Entry) (want : Want) (s : Served) : Type 0 where
  pub within : s.point ≤ length h
  pub how : MatchBool (s.status == 500) (IsGivenUp s) (IsReplied settings by (at_point h s) want s)

-- Handle `by` served each request, in order.
abbrev pub AreServed : Settings → ℕ → List Entry → List Ask → List Served → Type 0
AreServed settings by h [] [] = Unit {0}
AreServed settings by h [] (s ∷ served) = ⊥
AreServed settings by h (ask ∷ asks) [] = ⊥
AreServed settings by h (ask ∷ asks) (s ∷ served) = IsServed settings by h ask.want s × AreServed settings by h asks served

-- The entries that were added, in order.
abbrev pub added_entries : List Entry → List Served → List Entry
added_entries h [] = []
added_entries h (s ∷ served) = added_part s.added (at_point h s) ++ added_entries h served
