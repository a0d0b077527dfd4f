-- How many evaluations of queries and rules an answer makes. Each call of `matches` increases the counter by one.
use Rattle.std.specs.Prelude.{ℕ, List, [], ◌∷◌, ◌++◌, Option, Some, None, Ok, Err, length}
use Rattle.item_model.specs.declared.query.Query.{Query}
use Rattle.item_model.specs.declared.changes.Edit.{Edit}
use Rattle.item_model.specs.declared.changes.Entry.{Entry}
use Rattle.item_model.specs.declared.request.Look.{Look}
use Rattle.item_model.specs.declared.request.Target.{Target}
use Rattle.item_model.specs.declared.request.Target.TheVariants.{Items}
use Rattle.item_model.specs.QuerySeen.{tree_of}
use Rattle.share_history.specs.Histories.{batches, all_edits}
use Rattle.share_history.specs.Rows.{library}
use Rattle.prop_index.specs.Candidates.{candidates_in}
use Rattle.playlist_store.specs.Tests.{tests_of}
use Rattle.share_listings.specs.Answers.{most_ticks, looked_at}
use Rattle.share_asks.specs.declared.ask.Want.{Want}
use Rattle.share_asks.specs.declared.ask.Want.TheVariants.{ServerInfo, Codes, Login, Logout, Update, Databases, Rows, Lists, Values, Edit as Change, Stop, Bad}

-- The candidates of a query.
abbrev pub starts : List Edit → Option Query → Option (List ℕ)
starts es None = None
starts es (Some query) = candidates_in (tree_of query) (library es)

-- A listing: four for each touched key if the base is in the window; otherwise one for each row or candidate.
abbrev pub row_ticks : ℕ → List Entry → Target → Look → ℕ
row_ticks keep h target look = most_ticks keep (batches h) target look.base (starts (all_edits h) look.query)

-- Values: one for each item or candidate, and 0 without a query.
abbrev pub value_ticks : List Edit → Option Query → ℕ
value_ticks es None = 0
value_ticks es (Some query) = looked_at es Items (starts es (Some query))

abbrev pub want_ticks : ℕ → List Entry → Want → ℕ
want_ticks keep h ServerInfo = 0
want_ticks keep h Codes = 0
want_ticks keep h Login = 0
want_ticks keep h (Logout session) = 0
want_ticks keep h (Update session number) = 0
want_ticks keep h (Databases session) = 0
want_ticks keep h (Rows session target look) = row_ticks keep h target look
want_ticks keep h (Lists session) = 0
want_ticks keep h (Values session browse query) = value_ticks (all_edits h) query
-- An edit, for each list with a rule: one for each item of the library if the batch names the list, otherwise one for
-- each item that the batch names.
want_ticks keep h (Change (Ok batch)) = tests_of (all_edits h ++ batch) batch
want_ticks keep h (Change (Err error)) = 0
want_ticks keep h Stop = 0
want_ticks keep h (Bad fault) = 0
