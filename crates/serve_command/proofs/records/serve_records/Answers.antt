use Rattle.std.proofs.Common.{◌≡◌, ◌++◌, ◌∷◌, [], List, ℕ, Err, None, Some, IfSome, refl, sym, subst, ap, ◌∙◌}
use Rattle.std.specs.Prelude.{All}
use Rattle.outside_net.specs.Counts.{RisesWith}
use Rattle.outside_net.specs.Told.{Grows}
use Rattle.share_core.specs.Opened.{if_filled}
use Rattle.share_core.specs.declared.share.OpenError.{OpenError}
use Rattle.share_history.specs.Histories.{batches}
use Rattle.share_replies.specs.Answers.{Shared}
use Rattle.share_replies.specs.Laws.{maker}
use Rattle.edit_file.specs.Files.{HasBatches, disk_of, place_of}
use Rattle.command_core.specs.Seen.{FilesSeen, NetSeen, OutputSeen, files_seen, net_seen, output_seen}
use Rattle.serve_command.specs.Faults.{StopsServing}
use Rattle.serve_command.specs.Files.{AreKept, IsOpening, LeavesBut}
use Rattle.serve_command.specs.KeptFiles.{IsKeptIn}
use Rattle.serve_command.specs.Outcomes.{outcome_of}
use Rattle.serve_command.specs.Runs.{stopped, unbegun, unkept}
use Rattle.serve_command.proofs.Beginning.{opened_made, opening_made}
use Rattle.serve_command.proofs.Inputs.{open_cause}
use Rattle.serve_command.proofs.Returning.{asked_still, counts_back, ends_so, faultless_still, left_back, run_ends}
use Rattle.serve_command.proofs.records.serve_records.Goals as goal

-- ---- a share without a file

pub serve_share-requires-clause-opening : goal.serve_share-requires-clause-opening
serve_share-requires-clause-opening g c = λ κs bounds. subst (λ (s : Shared). All (λ e. maker e ≡ 0) s.history) (sym c.in-Ok.ensures.opened) (opening_made c.args.first)

pub returns-in-Ok-clause-ends : goal.returns-in-Ok-clause-ends
returns-in-Ok-clause-ends g c = λ before after start read at.
    let files : FilesSeen = files_seen (g.F.Files.asked c.args.files.now) (g.F.Files.contents c.args.files.now) (g.F.Faulted.faults c.args.files.now) in
    let after_net = c.serve_share.new.net in
    let now : NetSeen = net_seen (g.N.Net.asked after_net) (g.N.Net.written after_net) (g.N.Net.listener_links after_net) (g.N.Net.next_input after_net) (g.N.Faulted.faults after_net) in
    let old : OutputSeen = output_seen (g.W.Sink.taken c.args.output.now) (g.W.Faulted.faults c.args.output.now) in
    let new : OutputSeen = output_seen (g.W.Sink.taken c.serve_share.new.output) (g.W.Faulted.faults c.serve_share.new.output) in
    let serving = c.args.serving.now in
    let history = c.in-Ok.share.history in
    let unfiled : serving.file ≡ None = c.in-None.is in
    let opening_is : IsOpening serving.file files.contents c.args.first history =
    subst (λ f. IsOpening f files.contents c.args.first history) (sym unfiled) (ap (λ (s : Shared). s.history) c.in-Ok.ensures.opened, c.in-Ok.ensures.fits) in
    run_ends serving history c.args.first before after files files start now old new (outcome_of c.serve_share.result.0) read opening_is
    (ends_so serving history _ (AreKept serving.file files files) start now old new (outcome_of c.serve_share.result.0)
    (λ h lost k. subst (λ f. AreKept f files files h lost) (sym unfiled) (refl, sym k.is_lost)) (c.serve_share.ensures.ends start at))

pub returns-in-Err-clause-ends : goal.returns-in-Err-clause-ends
returns-in-Err-clause-ends g c = λ before after start read at.
    let back = c.refuse.ensures.back start at.new_listen at.new_edit in
    unbegun (asked_still c.args.serving.now start _ _ _ _ _ at.opened back) (faultless_still c.args.serving.now start _ _ _ _ _ at.opened back)
    (stopped c.open_fault.result (subst (StopsServing ⊥ before after) (sym c.open_fault.ensures)
    (open_cause before after c.args.first c.in-Err.error read (λ is. c.in-Err.ensures.lists (ap (λ (e : OpenError). Err e) is)) (λ is. c.in-Err.ensures.edits (ap (λ (e : OpenError). Err e) is))))
    (λ is. c.in-None.is) refl c.refuse.ensures.told) c.refuse.ensures.none

-- ---- a share with a file

pub serve_kept-outcome-requires-clause-opening : goal.serve_kept-outcome-requires-clause-opening
serve_kept-outcome-requires-clause-opening g c = λ κs bounds.
    let opened = c.in-Ok-open_library.ensures.opened in subst (λ (s : Shared). All (λ e. maker e ≡ 0) s.history) (sym opened.share_is) (opened_made (opened.before ++ if_filled c.args.first))

pub returns-in-Ok-open_library-clause-ends : goal.returns-in-Ok-open_library-clause-ends
returns-in-Ok-open_library-clause-ends g c = λ before after start read at.
    let after_net = c.serve_kept-outcome.new.net in
    let now : NetSeen = net_seen (g.N.Net.asked after_net) (g.N.Net.written after_net) (g.N.Net.listener_links after_net) (g.N.Net.next_input after_net) (g.N.Faulted.faults after_net) in
    let old : OutputSeen = output_seen (g.W.Sink.taken c.args.output.now) (g.W.Faulted.faults c.args.output.now) in
    let new : OutputSeen = output_seen (g.W.Sink.taken c.serve_kept-outcome.new.output) (g.W.Faulted.faults c.serve_kept-outcome.new.output) in
    let serving = c.args.serving.now in
    let path = c.as_str-in-Some.result.now in
    let filed : serving.file ≡ Some path = c.in-Some.is ∙ ap (λ (p : List ℕ). Some p) (sym c.as_str-in-Some.ensures) in
    let has = c.in-Ok-open_library.ensures in
    let opened = has.opened in
    let share = c.in-Ok-open_library.field-0.share in
    let file = c.in-Ok-open_library.field-0.file in
    let file' = c.serve_kept-outcome.result.1 in
    let f0 = c.args.files.now in
    let f1 = c.open_library.new.files in
    let f2 = c.close_file.new.files in
    let files : FilesSeen = files_seen (g.F.Files.asked f0) (g.F.Files.contents f0) (g.F.Faulted.faults f0) in
    let files' : FilesSeen = files_seen (g.F.Files.asked f2) (g.F.Files.contents f2) (g.F.Faulted.faults f2) in
    let place = place_of g.F.D.Disk file in
    let placed : place_of g.F.D.Disk file' ≡ place → IfSome (g.F.Files.contents f1) (λ told. place_of g.F.D.Disk file' ≡ Some path) =
    λ same. subst (λ p. IfSome (g.F.Files.contents f1) (λ told. p ≡ Some path)) (sym same) (subst (λ o. IfSome o (λ told. place ≡ Some path)) (sym has.contents) opened.place) in
    let kept = IsKeptIn g.F.D.Disk place (g.F.D.Faulted.faults (disk_of g.F.D.Disk file)) file' in
    let opening_is : IsOpening serving.file files.contents c.args.first share.history =
    subst (λ o. IsOpening o files.contents c.args.first share.history) (sym filed) (opened.before, opened.stood, ap (λ (s : Shared). s.history) opened.share_is, opened.few) in
    run_ends serving share.history c.args.first before after files files' start now old new (outcome_of c.serve_kept-outcome.result.0) read opening_is
    (ends_so serving share.history kept (AreKept serving.file files files') start now old new (outcome_of c.serve_kept-outcome.result.0)
    (λ h lost k. subst (λ o. AreKept o files files' h lost) (sym filed) (record {
      asked = subst (λ a. Grows (g.F.Files.asked f0) a (path ∷ [])) (sym c.close_file.ensures.asked_stays) has.asks;
      counts = counts_back lost (g.F.Faulted.faults f0) (g.F.Faulted.faults f2) (g.F.D.Faulted.faults (disk_of g.F.D.Disk file)) (g.F.D.Faulted.faults (disk_of g.F.D.Disk file')) opened.faultless k.counts
          (subst (λ n. RisesWith n (g.F.Faulted.faults f2) (g.F.D.Faulted.faults (disk_of g.F.D.Disk file'))) has.count c.close_file.ensures.count);
      left = subst (λ o. LeavesBut lost path (batches h) o (g.F.Files.contents f2)) has.contents
          (left_back lost (λ bs. HasBatches g.F.D.Disk file' bs × (place_of g.F.D.Disk file' ≡ place)) (batches h) path (g.F.Files.contents f1) (g.F.Files.contents f2) k.keeps
          (λ none bs has. c.close_file.ensures.kept path bs (k.is_broken_so ∙ none) has.0 (placed has.1))
          (λ some bs has. c.close_file.ensures.lost path bs (k.is_broken_so ∙ some) has.0 (placed has.1)));
    })) (c.serve_kept-outcome.ensures.ends start at))

pub returns-in-Err-open_library-clause-ends : goal.returns-in-Err-open_library-clause-ends
returns-in-Err-open_library-clause-ends g c = λ before after start read at.
    let refused = c.in-Err-open_library in
    let path = c.as_str-in-Some.result.now in
    let filed : c.args.serving.now.file ≡ Some path = c.in-Some.is ∙ ap (λ (p : List ℕ). Some p) (sym c.as_str-in-Some.ensures) in
    let away = c.refuse-in-Err-open_library.ensures in
    let back = away.back start at.new_listen at.new_edit in
    unbegun (asked_still c.args.serving.now start _ _ _ _ _ at.opened back) (faultless_still c.args.serving.now start _ _ _ _ _ at.opened back)
    (unkept c.args.first path refused.stop read filed refused.ensures.stops refused.ensures.left refused.ensures.count refused.ensures.asks away.told) away.none
