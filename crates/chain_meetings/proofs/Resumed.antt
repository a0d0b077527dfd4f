-- What a run acknowledged is in each later run with the same file.
use Rattle.std.proofs.Common.{◌≡◌, ℕ, List, [], ◌++◌, Option, Some, None, sym, ap, ◌∙◌, subst, append-nil, append_assoc}
use Rattle.item_model.specs.declared.changes.Edit.{Edit}
use Rattle.item_model.specs.declared.changes.Entry.{Entry}
use Rattle.outside_net.specs.Places.{Contents}
use Rattle.share_history.specs.Histories.{batches}
use Rattle.share_history.proofs.EditFacts.{batches-append}
use Rattle.share_core.specs.Opened.{if_filled}
use Rattle.share_core.proofs.Opening.{batches-opened}
use Rattle.edit_file.specs.Standing.{FileStands}
use Rattle.edit_file.proofs.Once.{one_list}
use Rattle.kept_library.specs.Opening.{StandsAt, bytes_at}
use Rattle.command_core.specs.Seen.{Run}
use Rattle.serve_command.specs.declared.terms.Serving.{Serving}
use Rattle.serve_command.specs.Files.{IsOpening}
use Rattle.serve_command.specs.Laws.{HasAcknowledged, HasUnder, KeepsAll, acknowledged_batches}
use Rattle.serve_command.specs.Runs.{HasNoShare, ServeOutcome, ServeEnds, served, unbegun, unopened}
use Rattle.serve_command.proofs.Keeping.{acknowledged_batches_stay}
use Rattle.chain_meetings.specs.Sequels.{AcknowledgedBatchesGoOn, IsLaterRun, RunsLead, no_run, one_more}

-- a run that left a history began with what its file represented
record Begins (path : List ℕ) (told : Run) (h : List Entry) : Type 0 where
  stood : List (List Edit)
  stands : StandsAt told.before.around.files.contents path stood
  others : List (List Edit)
  are : batches h ≡ stood ++ others

none_left : {T : Type 0} (left : ServeOutcome) (h : List Entry) → HasNoShare left → left.history ≡ Some h → T
none_left left h none is = let bad : None ≡ Some h = sym none.history ∙ is in absurd (cc)

begins : (serving : Serving) (path : List ℕ) (told : Run) (left : ServeOutcome) (h : List Entry) → ServeEnds serving told left → serving.file ≡ Some path → left.history ≡ Some h → Begins path told h
begins serving path told left h (unopened stop fails unread files tells none) file is = none_left left h none is
begins serving path told left h (unbegun asked faults begun none) file is = none_left left h none is
begins serving path told left h (served edits opened read opens run) file is =
    let history : run.history ≡ h = (let both : Some run.history ≡ Some h = sym run.history_is ∙ is in cc) in
    let began : IsOpening (Some path) told.before.around.files.contents edits opened =
    subst (λ (f : Option (List ℕ)). IsOpening f told.before.around.files.contents edits opened) file opens in
    record {
      stood = began.0;
      stands = began.1;
      others = if_filled edits ++ batches run.one.later;
      are =
          ap batches (sym history ∙ run.one.begins) ∙ batches-append opened run.one.later
          ∙ ap (λ (bs : List (List Edit)). bs ++ batches run.one.later) (ap batches began.2 ∙ batches-opened (began.0 ++ if_filled edits))
          ∙ append_assoc began.0 (if_filled edits) (batches run.one.later);
    }

-- the file has more and more batches
module _ (path : List ℕ) (before : Option Contents) (bs : List (List Edit)) (under : HasUnder path before bs) where
  more_and_more : (now : Option Contents) → RunsLead path before now → (more : List (List Edit)) × HasUnder path now (bs ++ more)
  more_and_more now no_run = ([], subst (HasUnder path before) (sym (append-nil bs)) under)
  more_and_more now (one_more between serving told left runs ends named single found) =
      let so_far = more_and_more between runs in
      let kept : KeepsAll path told left (bs ++ so_far.0) =
      acknowledged_batches_stay serving path told left so_far.1.told (bs ++ so_far.0) ends named single (found ∙ so_far.1.is) so_far.1.stands in
      (so_far.0 ++ kept.more, subst (HasUnder path told.after.around.files.contents) (append_assoc bs so_far.0 kept.more) kept.under)

-- what follows the acknowledged batches
regrouped : (stood input acked last more others : List (List Edit))
    → ((stood ++ (input ++ (acked ++ last))) ++ more) ++ others ≡ stood ++ (input ++ (acked ++ (last ++ (more ++ others))))
regrouped stood input acked last more others =
    append_assoc (stood ++ (input ++ (acked ++ last))) more others
    ∙ append_assoc stood (input ++ (acked ++ last)) (more ++ others)
    ∙ ap (λ (bs : List (List Edit)). stood ++ bs) (append_assoc input (acked ++ last) (more ++ others))
    ∙ ap (λ (bs : List (List Edit)). stood ++ (input ++ bs)) (append_assoc acked last (more ++ others))

pub acknowledged_batches_go_on : AcknowledgedBatchesGoOn
acknowledged_batches_go_on told told' left h h' r =
    let one : Begins r.path told h = begins r.first r.path told left h r.ends r.with_file r.history_is in
    let stands : FileStands (bytes_at r.contents r.path) one.stood = subst (λ (c : Option Contents). StandsAt c r.path one.stood) r.known one.stands in
    let kept : KeepsAll r.path told left one.stood = acknowledged_batches_stay r.first r.path told left r.contents one.stood r.ends r.with_file r.one_editor r.known stands in
    let has : HasAcknowledged told one.stood h left.links kept.more = kept.served h r.history_is in
    let there = more_and_more r.path told.after.around.files.contents (one.stood ++ kept.more) kept.under told'.before.around.files.contents r.between in
    let next : Begins r.path told' h' = begins r.later r.path told' r.left' h' r.ends' r.same_file r.history_is' in
    let found : FileStands (bytes_at there.1.told r.path) next.stood = subst (λ (c : Option Contents). StandsAt c r.path next.stood) there.1.is next.stands in
    let same : next.stood ≡ (one.stood ++ kept.more) ++ there.0 = one_list (bytes_at there.1.told r.path) next.stood ((one.stood ++ kept.more) ++ there.0) found there.1.stands in
    let acked : List (List Edit) = acknowledged_batches h has.editor in
    record {
      stood = one.stood;
      stands = one.stands;
      edits = has.edits;
      read = has.read;
      players = has.players;
      editor = has.editor;
      links_are = has.links_are;
      lost = has.lost;
      few = has.few_lost;
      made = has.made;
      more = has.last ++ (there.0 ++ next.others);
      goes_on =
          next.are ∙ ap (λ (bs : List (List Edit)). bs ++ next.others) (same ∙ ap (λ (bs : List (List Edit)). (one.stood ++ bs) ++ there.0) has.are)
          ∙ regrouped one.stood (if_filled has.edits) acked has.last there.0 next.others;
    }
