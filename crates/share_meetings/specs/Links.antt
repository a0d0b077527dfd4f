-- What a server leaves on a connection, by the history of its share.
use Rattle.std.specs.Prelude.{◌≡◌, ◌⊎◌, ⊤, ℕ, List, [], ◌∷◌, length}
use Rattle.std.specs.List.{AllByRecursion}
use Rattle.item_model.specs.declared.changes.Entry.{Entry}
use Rattle.outside_net.specs.Places.{Returned}
use Rattle.share_asks.specs.declared.ask.Ask.{Ask}
use Rattle.share_asks.specs.declared.ask.Role.{Role}
use Rattle.share_replies.specs.Settings.{Settings}
use Rattle.http_front.specs.Readings.{Joins}
use Rattle.share_server.specs.declared.report.Served.{Served}
use Rattle.share_server.specs.declared.report.LinkEnd.{LinkEnd}
use Rattle.share_server.specs.Served.{AreServed}
use Rattle.share_server.specs.Passes.{Rises}
use Rattle.share_server.specs.Replies.{replies}
use Rattle.share_server.specs.Ends.{EndsInside, EndsAtEnd}

-- The first requests of the input were served, in order, at lengths of one history that never decrease. The output
-- has their replies, as far as the end of the connection says.
pub record ServedLink (s : Settings) (by limit : ℕ) (role : Role) (h : List Entry) (input output : List ℕ) : Type 0 where
  pub asks : List Ask
  pub rest : List ℕ
  pub served : List Served
  pub end : LinkEnd
  pub joins : Joins role input asks rest
  pub are_served : AreServed s by h asks served
  pub rises : Rises 0 served (length h)
  pub how : EndsInside role input s limit h asks served rest output end ⊎ EndsAtEnd role input s limit h asks served rest output end

-- It was answered with success.
abbrev pub IsSuccess : Served → Type 0
IsSuccess v = (v.status ≡ 200) ⊎ (v.status ≡ 204)

-- The input is requests and nothing else, each was answered with success, and the output is all of their replies.
pub record AnsweredAll (s : Settings) (by limit : ℕ) (role : Role) (h : List Entry) (input output : List ℕ) : Type 0 where
  pub asks : List Ask
  pub served : List Served
  pub joins : Joins role input asks []
  pub are_served : AreServed s by h asks served
  pub rises : Rises 0 served (length h)
  pub granted : AllByRecursion IsSuccess served
  pub written : output ≡ replies s limit h asks served

-- Connections of one worker, each with its input and with what its listener knows of it, whose first part is the
-- output.
abbrev pub AreServedLinks : Settings → ℕ → Role → List Entry → List (List ℕ) → List Returned → Type 0
AreServedLinks s by role h [] [] = ⊤
AreServedLinks s by role h [] (returned ∷ returns) = ⊥
AreServedLinks s by role h (input ∷ inputs) [] = ⊥
AreServedLinks s by role h (input ∷ inputs) (returned ∷ returns) =
    ((limit : ℕ) × ServedLink s by limit role h input returned.0) × AreServedLinks s by role h inputs returns

-- it is one of these reports
abbrev pub IsReport : Served → List Served → Type 0
IsReport v [] = ⊥
IsReport v (first ∷ rest) = (v ≡ first) ⊎ IsReport v rest
