-- Chains of relays: the first relay reads a share, and each other one reads the relay before it.
use Rattle.std.specs.Prelude.{◌≡◌, ◌≤◌, ⊤, ℕ, List, [], ◌∷◌, map, Option, Some}
use Rattle.dmap_tags.specs.Tree.{Tree}
use Rattle.item_model.specs.declared.changes.Entry.{Entry}
use Rattle.item_model.specs.declared.query.Query.{Query}
use Rattle.item_model.specs.declared.request.Meta.{Meta}
use Rattle.item_model.specs.declared.request.Target.TheVariants.{Items}
use Rattle.share_history.specs.Histories.{batches, revision, up_to}
use Rattle.share_history.specs.Mirror.{mirrored}
use Rattle.http_client.specs.Requests.{IsHost}
use Rattle.command_core.specs.Seen.{NetSeen, OutputSeen, Run}
use Rattle.share_crew.specs.declared.outcome.Outcome.{Outcome}
use Rattle.relay_command.specs.declared.terms.Relaying.{Relaying}
use Rattle.relay_command.specs.Runs.{RelayEnds}
use Rattle.serve_command.specs.declared.terms.Serving.{Serving}
use Rattle.serve_command.specs.Runs.{ServeOutcome, ServeEnds}
use Rattle.share_meetings.specs.Meetings.{Meets}
use Rattle.share_meetings.specs.Shown.{AreRising}
use Rattle.share_meetings.specs.Texts.{rows_text}
use Rattle.chain_meetings.specs.Orders.{ShowsInOrder, StepsThrough}

-- A run of `serve` or of `relay` left the history `h`, and one of the connections that it served is the one that a
-- client made.
pub data MeetsAShare (h : List Entry) (client client' : NetSeen) : Type 0 where
  served : (serving : Serving) (told : Run) (left : ServeOutcome) → ServeEnds serving told left → left.history ≡ Some h
      → Meets told.before.around.net told.after.around.net left.links client client' → MeetsAShare h client client'
  relayed : (relaying : Relaying) (net net' : NetSeen) (output output' : OutputSeen) (left : Outcome) → RelayEnds relaying net net' output output' left → left.history ≡ Some h
      → Meets net net' left.links client client' → MeetsAShare h client client'

-- A run of `relay` left the history `down`, and its connection met a share with the history `up`. The connection may
-- have broken, and both runs may have ended in any way.
pub record IsRelay (up down : List Entry) : Type 0 where
  pub relaying : Relaying
  pub net : NetSeen
  pub net' : NetSeen
  pub output : OutputSeen
  pub output' : OutputSeen
  pub left : Outcome
  pub ends : RelayEnds relaying net net' output output' left
  pub history_is : left.history ≡ Some down
  pub host_is : IsHost relaying.upstream
  pub meets : MeetsAShare up net net'

-- Some relays, or none, lead from the share with the history `up` to the one with the history `down`.
pub data IsBehind (up : List Entry) : List Entry → Type 0 where
  itself : IsBehind up up
  one_more : (middle down : List Entry) → IsBehind up middle → IsRelay middle down → IsBehind up down

-- ---- laws

-- However a relay ended, the batches that it left are the steps between libraries that its upstream had, in order.
abbrev pub RelaysStepThrough : Type 0
RelaysStepThrough = (up down : List Entry) → IsRelay up down → StepsThrough up down

-- What the players of the last relay see are libraries that the first share had, in order.
abbrev pub ChainsShowInOrder : Type 0
ChainsShowInOrder = (up down : List Entry) → IsBehind up down → ShowsInOrder up down

-- no revision is below the one before, and none above the last
abbrev pub AreAscending : (base last : ℕ) → List ℕ → Type 0
AreAscending base last [] = ⊤
AreAscending base last (v ∷ vs) = (base ≤ v) × (v ≤ last) × AreAscending v last vs

-- the rows of a mirror of items at a revision
abbrev pub item_rows : Option Query → Meta → List Entry → ℕ → List (ℕ × Tree)
item_rows query meta h v = (mirrored (up_to (batches h) v) Items query meta).rows

-- For any revisions of the last relay at which a mirror of items looks, in order, the first share has revisions, in
-- order, with the same rows.
abbrev pub ChainsShowRows : Type 0
ChainsShowRows =
    (up down : List Entry) (query : Option Query) (meta : Meta) (revisions : List ℕ) → IsBehind up down → AreAscending 0 (revision (batches down)) revisions
    → (firsts : List ℕ) × AreAscending 0 (revision (batches up)) firsts × (map (item_rows query meta down) revisions ≡ map (item_rows query meta up) firsts)

-- So the rows that `follow` writes of the last relay, at its end, are those of the first share at one of its revisions.
-- Up to 2 these have no batches, so there are no rows.
abbrev pub FollowersShowTheFirst : Type 0
FollowersShowTheFirst =
    (up down : List Entry) (query : Option Query) (meta : Meta) (revisions : List ℕ) → IsBehind up down → AreRising 0 (revision (batches down)) revisions
    → (firsts : List ℕ) × AreAscending 0 (revision (batches up)) firsts × (rows_text Items query meta (batches down) revisions ≡ rows_text Items query meta (batches up) firsts)
