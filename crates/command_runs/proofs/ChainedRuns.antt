-- Chains of runs of the program.
use Rattle.std.proofs.Common.{List}
use Rattle.item_model.specs.declared.changes.Entry.{Entry}
use Rattle.command_core.specs.Seen.{NetSeen}
use Rattle.chain_meetings.specs.Chains as chain
use Rattle.chain_meetings.proofs.Chained.{chains_show_in_order}
use Rattle.chain_meetings.proofs.RowsBehind.{followers_show_the_first}
use Rattle.daapshare_words.specs.Relay.{AreRelayWords}
use Rattle.daapshare_words.specs.declared.command.NetCommand.TheVariants.{Relay}
use Rattle.command_runs.specs.Chains.{IsChain, IsReadBy, IsRelayOf, RunsShowInOrder, RunsShowTheFirst, itself, of_relay, of_serve, one_more}
use Rattle.command_runs.specs.Left.{crew_of, serve_outcome_of}
use Rattle.command_runs.specs.Table.{relaying_of, serving_of}
use Rattle.command_runs.proofs.MetRuns.{made_ranged, place_is_host}

met_by : (h : List Entry) (client client' : NetSeen) → IsReadBy h client client' → chain.MeetsAShare h client client'
met_by h client client' (of_serve w told served run is meets) = chain.served (serving_of w) told (serve_outcome_of served) run.ends is meets
met_by h client client' (of_relay w told relayed run is meets) =
    chain.relayed (relaying_of w) told.before.around.net told.after.around.net told.output_before told.output_after (crew_of relayed) run.ends.ends is meets

-- a relay that read a share had read its arguments
relay_ranged : (up down : List Entry) (r : IsRelayOf up down) → IsReadBy up r.told.before.around.net r.told.after.around.net → AreRelayWords r.words
relay_ranged up down r (of_serve w told served run is meets) = made_ranged (Relay r.words) r.told r.relayed meets.sent meets.owed r.run meets.made
relay_ranged up down r (of_relay w told relayed run is meets) = made_ranged (Relay r.words) r.told r.relayed meets.sent meets.owed r.run meets.made

relay_in : (up down : List Entry) → IsRelayOf up down → chain.IsRelay up down
relay_in up down r = record {
  relaying = relaying_of r.words;
  net = r.told.before.around.net;
  net' = r.told.after.around.net;
  output = r.told.output_before;
  output' = r.told.output_after;
  left = crew_of r.relayed;
  ends = r.run.ends.ends;
  history_is = r.history_is;
  host_is = place_is_host r.words.upstream (relay_ranged up down r r.reads).upstream;
  meets = met_by up r.told.before.around.net r.told.after.around.net r.reads;
}

chain_of : (up down : List Entry) → IsChain up down → chain.IsBehind up down
chain_of up down itself = chain.itself
chain_of up down (one_more middle below before r) = chain.one_more middle below (chain_of up middle before) (relay_in middle below r)

pub runs_show_in_order : RunsShowInOrder
runs_show_in_order up down runs = chains_show_in_order up down (chain_of up down runs)

pub runs_show_the_first : RunsShowTheFirst
runs_show_the_first up down query meta revisions runs rising = followers_show_the_first up down query meta revisions (chain_of up down runs) rising
