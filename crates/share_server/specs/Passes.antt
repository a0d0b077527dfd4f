-- What a handle has seen since it began to serve requests.
use Rattle.std.specs.Prelude.{◌≡◌, ◌⊎◌, ◌≤◌, ◌<◌, ℕ, ◌+◌, List, [], ◌∷◌, ◌++◌, length, true, if◌then◌else◌}
use Rattle.item_model.specs.declared.changes.Entry.{Entry}
use Rattle.share_asks.specs.declared.ask.Ask.{Ask}
use Rattle.share_history.specs.Sessions.{is_live}
use Rattle.share_history.specs.Marks.{until_login}
use Rattle.share_lock.specs.Histories.{entries_of}
use Rattle.share_lock.specs.Known.{Known}
use Rattle.share_replies.specs.Settings.{Settings}
use Rattle.share_replies.specs.Laws.{maker}
use Rattle.share_server.specs.declared.report.Served.{Served}
use Rattle.share_server.specs.Served.{at_point, answered_on, AreServed, added_entries}

-- What contracts know of a handle of a share's lock.
abbrev pub Pass : Type 0
Pass = Known Entry Settings

-- History lengths never decrease from `low` to `high`, and increase at each entry that was added.
abbrev pub Rises : ℕ → List Served → ℕ → Type 0
Rises low [] high = low ≤ high
Rises low (s ∷ served) high = (low + (if s.added then 1 else 0) ≤ s.point) × Rises s.point served high

-- Each history length is that of a turn, in order.
abbrev pub StandAmong : List Served → List ℕ → Type 0
StandAmong [] looks = Unit {0}
StandAmong (s ∷ served) [] = ⊥
StandAmong (s ∷ served) (look ∷ looks) = ((s.point ≡ look) × StandAmong served looks) ⊎ StandAmong (s ∷ served) looks

-- Its session was answered before at a length that does not exceed its own. If the session was live, that length is
-- at or after its login.
pub record IsMarked (h : List Entry) (s : Served) : Type 0 where
  pub within : s.seen ≤ s.point
  pub late : 0 < s.session → is_live (answered_on s.added (at_point h s)) s.session ≡ true
      → length (until_login s.session (answered_on s.added (at_point h s))) ≤ s.seen

abbrev pub AreMarked : List Entry → List Served → Type 0
AreMarked h [] = Unit {0}
AreMarked h (s ∷ served) = IsMarked h s × AreMarked h served

-- No request was answered at a history length below what its handle had seen, or below that of the request before it.
pub record Fresh (k k' : Pass) (served : List Served) : Type 0 where
  pub more : List Entry
  pub grows : k'.seen ≡ k.seen ++ more
  pub looks : List ℕ
  pub looked : k'.looks ≡ k.looks ++ looks
  pub rises : Rises (length k.seen) served (length k'.seen)
  pub among : StandAmong served looks
  pub marked : AreMarked k'.seen served

-- The handle served `asks`: only what it saw changed, and the entries of its number are those before and the added
-- ones.
pub record Serves (k k' : Pass) (asks : List Ask) (served : List Served) : Type 0 where
  pub fresh : Fresh k k' served
  pub stays : k' ≡ record k { seen = k'.seen; looks = k'.looks }
  pub are_served : AreServed k.settings k.number k'.seen asks served
  pub own : entries_of maker k.number k'.seen ≡ entries_of maker k.number k.seen ++ added_entries k'.seen served
