-- The connections that a worker served, and the bytes written on each, by the history that its lock handle has seen.
use Rattle.std.specs.Prelude.{◌≡◌, ◌⊎◌, ℕ, ◌-◌, List, [], ◌∷◌, ◌++◌, length, ⊤, Bool, true, false, Option, Some, None}
use Rattle.std.specs.List.{flat_map, list_any}
use Rattle.item_model.specs.declared.changes.Edit.{Edit}
use Rattle.item_model.specs.declared.changes.Entry.{Entry}
use Rattle.outside_net.specs.Places.{Returned}
use Rattle.outside_net.specs.Told.{Grows}
use Rattle.share_asks.specs.declared.ask.Ask.{Ask}
use Rattle.share_asks.specs.declared.ask.Role.{Role}
use Rattle.share_asks.specs.declared.ask.Role.TheVariants.{Listen}
use Rattle.http_front.specs.Readings.{Joins}
use Rattle.share_lock.specs.Histories.{NoneOf}
use Rattle.share_lock.specs.Known.{after_turn}
use Rattle.share_replies.specs.Settings.{Settings}
use Rattle.share_replies.specs.Laws.{maker}
use Rattle.share_server.specs.declared.report.Served.{Served}
use Rattle.share_server.specs.declared.report.LinkReport.{LinkReport}
use Rattle.share_server.specs.declared.report.LinkEnd.TheVariants.{Spent}
use Rattle.share_server.specs.Served.{AreServed}
use Rattle.share_server.specs.Losses.{is_loss, ServesBut, Unacknowledged}
use Rattle.share_server.specs.Passes.{Pass, Rises}
use Rattle.share_server.specs.Ends.{EndsInside, EndsAtEnd}
use Rattle.share_server.specs.Serving.{is_fault, limit_of}

-- the requests of all connections, in order
abbrev pub all_served : List LinkReport → List Served
all_served reports = flat_map (λ report. report.served) reports

-- whether a connection ended because its edit could not be kept
abbrev pub loses_any : List LinkReport → Bool
loses_any reports = list_any (λ report. is_loss report.end) reports

-- what was added to the history and acknowledged by no reply: an edit that could not be kept, and the stop after it
abbrev pub IsLostBy : Pass → Pass → List Served → Bool → List Entry → Type 0
IsLostBy k k' served false lost = lost ≡ []
IsLostBy k k' served true lost = (batch : List Edit) × Unacknowledged k k' served batch lost

-- one connection, by its input, its report, and what its listener knows of it: the bytes written on it, and whether it
-- failed. The first requests of the input were served, in order and at history lengths that rise at each entry that was
-- added, the bytes are their replies, and the connection ended so
pub record LinkAt (settings : Settings) (by limit : ℕ) (role : Role) (h : List Entry) (input : List ℕ) (report : LinkReport) (returned : Returned) : Type 0 where
  pub at_once : limit ≡ 0 → (report.served ≡ []) × (report.end ≡ Spent)
  pub number : report.number ≡ by
  pub asks : List Ask
  pub rest : List ℕ
  pub joins : Joins role input asks rest
  pub are_served : AreServed settings by h asks report.served
  pub rises : Rises 0 report.served (length h)
  pub how : EndsInside role input settings limit h asks report.served rest returned.0 report.end
      ⊎ EndsAtEnd role input settings limit h asks report.served rest returned.0 report.end
  pub faulted : returned.1 ≡ is_fault report.end
  -- only an editor can lose an edit
  pub unlost : role ≡ Listen → is_loss report.end ≡ false

-- connection after connection, each with what the earlier ones left of the budget
abbrev pub LinksAt : Settings → ℕ → Role → ℕ → List Entry → List (List ℕ) → List LinkReport → List Returned → Type 0
LinksAt settings by role budget h [] [] [] = Unit {0}
LinksAt settings by role budget h [] [] (returned ∷ returns) = ⊥
LinksAt settings by role budget h [] (report ∷ reports) returns = ⊥
LinksAt settings by role budget h (input ∷ inputs) [] returns = ⊥
LinksAt settings by role budget h (input ∷ inputs) (report ∷ reports) [] = ⊥
LinksAt settings by role budget h (input ∷ inputs) (report ∷ reports) (returned ∷ returns) =
    LinkAt settings by (limit_of budget) role h input report returned
    × LinksAt settings by role (budget - length report.served) h inputs reports returns

-- the connections that came are the first of those that were to come, if these are known
abbrev pub Came : Option (List (List ℕ)) → Option (List (List ℕ)) → List (List ℕ) → Type 0
Came None now inputs = ⊤
Came (Some before) None inputs = ⊥
Came (Some before) (Some now) inputs = before ≡ inputs ++ now

-- no further connection is to come, if these are known
abbrev pub IsOver : Option (List (List ℕ)) → Option (List (List ℕ)) → Type 0
IsOver None now = ⊤
IsOver (Some before) now = now ≡ Some []

-- a turn of a lock handle that added no entry of its own
pub record Syncs (k k' : Pass) : Type 0 where
  pub more : List Entry
  pub none : NoneOf maker (k.number ∷ []) more
  pub after : k' ≡ after_turn k (k.seen ++ more)

-- requests were served, but no reply acknowledges these entries, and then such a turn was taken
pub record ServesThenSyncs (k k' : Pass) (served : List Served) (lost : List Entry) : Type 0 where
  pub asks : List Ask
  pub before : Pass
  pub serves : ServesBut k before asks served lost
  pub syncs : Syncs before k'

-- the lock handle after these connections: it took such a turn after the last
abbrev pub SyncsAfterLast : Pass → Pass → List LinkReport → List Entry → Type 0
SyncsAfterLast k k' [] lost = k' ≡ k
SyncsAfterLast k k' (report ∷ reports) lost = ServesThenSyncs k k' (all_served (report ∷ reports)) lost

-- what a worker did: the connections that it accepted, the bytes written on them, and what its lock handle has seen
pub record Works (role : Role) (k k' : Pass) (coming coming' : Option (List (List ℕ))) (written written' : Option (List Returned)) (reports : List LinkReport) : Type 0 where
  pub inputs : List (List ℕ)
  pub came : Came coming coming' inputs
  pub returns : List Returned
  pub given_back : Grows written written' returns
  pub links : LinksAt k.settings k.number role 262144 k'.seen inputs reports returns
  pub asks : List Ask
  pub lost : List Entry
  pub serves : ServesBut k k' asks (all_served reports) lost
  pub loses : IsLostBy k k' (all_served reports) (loses_any reports) lost
  pub syncs : SyncsAfterLast k k' reports lost
