use Rattle.std.proofs.Common.{◌≡◌, List}
use Rattle.item_model.specs.declared.changes.Edit.{Edit}
use Rattle.edit_file.specs.Files.{HasBatches, disk_of, is_broken, place_of}
use Rattle.command_core.specs.Seen.{NetSeen, OutputSeen, net_seen, output_seen}
use Rattle.serve_command.specs.Files.{HasKept}
use Rattle.serve_command.specs.KeptFiles.{IsKeptIn}
use Rattle.serve_command.specs.Outcomes.{outcome_of}
use Rattle.serve_command.proofs.Returning.{ends_so}
use Rattle.serve_command.proofs.records.serve_kept.Goals as goal

pub returns-clause-ends : goal.returns-clause-ends
returns-clause-ends g c = λ start at.
    let old : OutputSeen = output_seen (g.W.Sink.taken c.args.output.now) (g.W.Faulted.faults c.args.output.now) in
    let new : OutputSeen = output_seen (g.W.Sink.taken c.serve_share-outcome.new.output) (g.W.Faulted.faults c.serve_share-outcome.new.output) in
    let net = c.serve_share-outcome.new.net in
    let now : NetSeen = net_seen (g.N.Net.asked net) (g.N.Net.written net) (g.N.Net.listener_links net) (g.N.Net.next_input net) (g.N.Faulted.faults net) in
    let file = c.args.file in
    let file' = c.serve_share-outcome.result.1.file in
    let faults = g.D.Faulted.faults (disk_of g.D.Disk file) in
    let keeps : List (List Edit) → Type 0 = λ bs. HasBatches g.D.Disk file bs × (place_of g.D.Disk file ≡ g.P.Placed.place) in
    let keeps' : List (List Edit) → Type 0 = λ bs. HasBatches g.D.Disk file' bs × (place_of g.D.Disk file' ≡ g.P.Placed.place) in
    ends_so c.args.serving.now c.args.share.history
    (HasKept c.args.serving.now.editors keeps keeps' (is_broken g.D.Disk file') faults (g.D.Faulted.faults (disk_of g.D.Disk file')) c.args.share.history)
    (IsKeptIn g.D.Disk g.P.Placed.place faults file') start now old new (outcome_of c.serve_share-outcome.result.0)
    (λ h lost k. record {
      is_broken_so = k.is_lost;
      counts = k.counts;
      keeps = k.kept c.requires.one (c.requires.keeps, c.requires.place);
    })
    (c.serve_share-outcome.ensures.ends start at)
