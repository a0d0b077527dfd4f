-- Chains of runs of `relay`: the first one reads a run of `serve` or `relay`, and each other one the relay before it. The
-- premises are what is told: the runs, and the bytes of the connections.
use Rattle.std.specs.Prelude.{◌≡◌, ℕ, List, Option, Some}
use Rattle.item_model.specs.declared.changes.Entry.{Entry}
use Rattle.item_model.specs.declared.query.Query.{Query}
use Rattle.item_model.specs.declared.request.Meta.{Meta}
use Rattle.item_model.specs.declared.request.Target.TheVariants.{Items}
use Rattle.share_history.specs.Histories.{batches, revision}
use Rattle.command_core.specs.Seen.{NetSeen, Run}
use Rattle.share_meetings.specs.Meetings.{Meets}
use Rattle.share_meetings.specs.Shown.{AreRising}
use Rattle.share_meetings.specs.Texts.{rows_text}
use Rattle.chain_meetings.specs.Chains.{AreAscending}
use Rattle.chain_meetings.specs.Orders.{ShowsInOrder}
use Rattle.daapshare_words.specs.declared.command.Command.TheVariants.{Net}
use Rattle.daapshare_words.specs.declared.command.NetCommand.TheVariants.{Relay, Serve}
use Rattle.daapshare_words.specs.declared.relay.RelayWords.{RelayWords}
use Rattle.daapshare_words.specs.declared.serve.ServeWords.{ServeWords}
use Rattle.command_runs.specs.declared.outcome.Outcome.{Outcome}
use Rattle.command_runs.specs.Table.{IsRun}

-- A run of `serve` or `relay` left the history, and served the connection that a client made.
pub data IsReadBy (h : List Entry) (client client' : NetSeen) : Type 0 where
  of_serve : (w : ServeWords) (told : Run) (served : Outcome) → IsRun (Some (Net (Serve w))) told served → served.history ≡ Some h
      → Meets told.before.around.net told.after.around.net served.links client client' → IsReadBy h client client'
  of_relay : (w : RelayWords) (told : Run) (relayed : Outcome) → IsRun (Some (Net (Relay w))) told relayed → relayed.history ≡ Some h
      → Meets told.before.around.net told.after.around.net relayed.links client client' → IsReadBy h client client'

-- A run of `relay` left the history `down`, and its connection met a share with the history `up`. The connection may
-- have broken, and both runs may have ended in any way.
pub record IsRelayOf (up down : List Entry) : Type 0 where
  pub words : RelayWords
  pub told : Run
  pub relayed : Outcome
  pub run : IsRun (Some (Net (Relay words))) told relayed
  pub history_is : relayed.history ≡ Some down
  pub reads : IsReadBy up told.before.around.net told.after.around.net

-- Some relays, or none, lead from the share with the history `up` to the one with the history `down`.
pub data IsChain (up : List Entry) : List Entry → Type 0 where
  itself : IsChain up up
  one_more : (middle down : List Entry) → IsChain up middle → IsRelayOf middle down → IsChain up down

-- For any lengths of the last relay's history at which its players look, in order, the first share had lengths of its
-- history, in order, with the same libraries.
abbrev pub RunsShowInOrder : Type 0
RunsShowInOrder = (up down : List Entry) → IsChain up down → ShowsInOrder up down

-- The rows that `follow` writes of the last relay, at its end, are those of the first share at one of its revisions.
abbrev pub RunsShowTheFirst : Type 0
RunsShowTheFirst =
    (up down : List Entry) (query : Option Query) (meta : Meta) (revisions : List ℕ) → IsChain up down → AreRising 0 (revision (batches down)) revisions
    → (firsts : List ℕ) × AreAscending 0 (revision (batches up)) firsts × (rows_text Items query meta (batches down) revisions ≡ rows_text Items query meta (batches up) firsts)
