-- What the file of a share has after a run, however it ended.
use Rattle.std.proofs.Common.{◌≡◌, ◌⊎◌, ◌≤◌, ℕ, zero, suc, Bool, true, false, cond, MatchBool, List, [], ◌∷◌, ◌++◌, length, drop, get_or, map, Option, Some, None, unwrap_or, refl, sym, subst, ap, ◌∙◌, inl, inr, append_assoc, append-nil, length-append, arith}
use Rattle.std.proofs.lemmas.Cmp.{nat_list_cmp_total}
use Rattle.std.proofs.lemmas.List.{map-append}
use Rattle.std.specs.Cmp.{eq_by_cmp_equiv}
use Rattle.std.specs.FinMap as finite
use Rattle.std.specs.List.{AllByRecursion}
use Rattle.std.specs.Prelude.{All, replicate}
use Rattle.outside_net.specs.Counts.{Rose}
use Rattle.outside_net.specs.Places.{Contents}
use Rattle.item_model.specs.declared.changes.Edit.{Edit}
use Rattle.item_model.specs.declared.changes.Entry.{Entry}
use Rattle.share_asks.specs.declared.ask.Role.TheVariants as role
use Rattle.share_history.specs.Histories.{batches}
use Rattle.share_core.specs.Opened.{if_filled, opened_with}
use Rattle.share_core.proofs.Opening.{batches-opened}
use Rattle.share_lock.specs.Known.{fresh}
use Rattle.share_replies.specs.Settings.{Settings}
use Rattle.share_replies.specs.Laws.{maker}
use Rattle.share_server.specs.declared.report.Served.{Served}
use Rattle.share_server.specs.Kept.{IsUnheard, Keeping}
use Rattle.share_server.specs.Passes.{Pass}
use Rattle.share_server.specs.Served.{added_entries}
use Rattle.share_server.proofs.Longer.{stays}
use Rattle.share_workers.specs.declared.worker.WorkerEnd.TheVariants as worker
use Rattle.share_workers.specs.Ends.{is_worker_loss}
use Rattle.share_workers.specs.Keepers.{KeepsBut}
use Rattle.share_workers.specs.Works.{IsLostBy, all_served, loses_any}
use Rattle.edit_file.specs.Standing.{FileStands}
use Rattle.edit_file.proofs.Once.{one_list}
use Rattle.kept_library.specs.Closing.{LeavesAt, LeavesOrOneMore, PutsBatches}
use Rattle.kept_library.specs.Opening.{LeavesRefused, StopsOpening, bytes_at}
use Rattle.kept_library.specs.declared.fault.FileFault.{FileFault}
use Rattle.kept_library.specs.declared.fault.FileFault.TheVariants as file
use Rattle.command_core.specs.declared.fault.Fault.{Fault}
use Rattle.command_core.specs.declared.fault.Fault.TheVariants as fault
use Rattle.command_core.specs.Seen.{FilesSeen, Run}
use Rattle.command_core.specs.ReadRecords.{HasReadAs}
use Rattle.share_crew.specs.WorkerRuns.{WorkerRun, IsHistoryOf, IsPart}
use Rattle.share_crew.specs.Verdicts.{has_end}
use Rattle.share_crew.proofs.Joining.{all_parts}
use Rattle.share_crew.proofs.Players.{ArePlayers, players_lose_nothing}
use Rattle.serve_command.specs.declared.terms.Serving.{Serving}
use Rattle.serve_command.specs.Files.{AreKept, IsKept, IsOpening, LeavesBut}
use Rattle.serve_command.specs.Laws.{AcknowledgedBatchesStay, HasAcknowledged, HasUnder, KeepsAll, acknowledged_batches}
use Rattle.serve_command.specs.Runs.{HasNoShare, HasServed, ServeOutcome, NotBegun, first_line, served, stopped, unannounced, unbegun, unkept, unopened}
use Rattle.serve_command.specs.Terms.{settings_of, workers_of}
use Rattle.serve_command.proofs.Beginning.{opened_made}
use Rattle.serve_command.proofs.Editing.{editor_keeps}
use Rattle.serve_command.proofs.Losing.{init_same, last_lost}

-- ---- the bytes under a name

put_there : (contents : Contents) (path bytes : List ℕ) → bytes_at (finite.insert contents path bytes) path ≡ bytes
put_there contents path bytes =
    ap (λ (found : Option (List ℕ)). unwrap_or found [])
    (finite.get-insert nat_list_cmp_total contents path bytes path ∙ ap (λ b. cond b (Some bytes) (finite.get contents path)) ((eq_by_cmp_equiv nat_list_cmp_total).refl path))

under_put : (path : List ℕ) (c : Contents) (now : Option Contents) (bs : List (List Edit)) → PutsBatches path bs c now → HasUnder path now bs
under_put path c now bs put = record {
  told = finite.insert c path put.bytes;
  is = put.told;
  stands = subst (λ bytes. FileStands bytes bs) (sym (put_there c path put.bytes)) put.stands;
}

under_same : (path : List ℕ) (c : Contents) (now : Option Contents) (bs : List (List Edit)) → now ≡ Some c → FileStands (bytes_at c path) bs → HasUnder path now bs
under_same path c now bs same stands = record { told = c; is = same; stands = stands }

-- nothing more
under_nothing : (path : List ℕ) (now : Option Contents) (bs : List (List Edit)) → HasUnder path now bs → HasUnder path now (bs ++ [])
under_nothing path now bs has = subst (HasUnder path now) (sym (append-nil bs)) has

-- ---- a share that was not put under its lock

-- the file has what it had, perhaps with the input's batch
abbrev HasInput : (path : List ℕ) (now : Option Contents) (stood : List (List Edit)) (edits : List Edit) → Type 0
HasInput path now stood edits = HasUnder path now stood ⊎ HasUnder path now (stood ++ if_filled edits)

either : (path : List ℕ) (c : Contents) (now : Option Contents) (stood : List (List Edit)) (edits : List Edit) → LeavesAt path stood (Some c) now ⊎ LeavesAt path (stood ++ if_filled edits) (Some c) now
    → HasInput path now stood edits
either path c now stood edits (inl same) = inl (under_put path c now stood same)
either path c now stood edits (inr more) = inr (under_put path c now (stood ++ if_filled edits) more)

-- the file was refused, or the batches of both
refused_input : (path : List ℕ) (c : Contents) (now : Option Contents) (stood : List (List Edit)) (edits : List Edit) (stop : Fault FileFault) → FileStands (bytes_at c path) stood
    → StopsOpening (Some c) path edits stop → LeavesRefused (Some c) now path edits stop → HasInput path now stood edits
refused_input path c now stood edits (fault.Own (file.NotEditFile at)) stands stops left = inl (under_put path c now stood (record { bytes = bytes_at c path; stands = stands; told = left }))
refused_input path c now stood edits (fault.Own file.Failed) stands stops (inl same) = inl (under_same path c now stood same stands)
refused_input path c now stood edits (fault.Own file.Failed) stands stops (inr left) = either path c now stood edits (left stood stands)
refused_input path c now stood edits (fault.Own file.TooManyEdits) stands stops left =
    inl (subst (HasUnder path now) (one_list (bytes_at c path) left.batches stood left.stood stands) (under_put path c now left.batches left.left))
refused_input path c now stood edits (fault.Own file.TooManyLists) stands stops left =
    inl (subst (HasUnder path now) (one_list (bytes_at c path) left.batches stood left.stood stands) (under_put path c now left.batches left.left))
refused_input path c now stood edits fault.Read stands stops left = absurd stops
refused_input path c now stood edits fault.Memory stands stops left = inl (under_put path c now stood (left stood stands))

module _ (path : List ℕ) (told : Run) (left : ServeOutcome) (stood : List (List Edit)) (none : HasNoShare left) where
  none_served : (more : List (List Edit)) (history : List Entry) → left.history ≡ Some history → HasAcknowledged told stood history left.links more
  none_served more history is = absurd (let bad : None ≡ Some history = sym none.history ∙ is in cc)

  keeps_same : HasUnder path told.after.around.files.contents stood → KeepsAll path told left stood
  keeps_same has = record {
    more = [];
    under = under_nothing path told.after.around.files.contents stood has;
    unserved = λ is. inl refl;
    served = none_served [];
  }

  keeps_input : (edits : List Edit) → HasReadAs edits told.before.input told.after.input → HasInput path told.after.around.files.contents stood edits → KeepsAll path told left stood
  keeps_input edits read (inl same) = keeps_same same
  keeps_input edits read (inr more) = record {
    more = if_filled edits;
    under = more;
    unserved = λ is. inr (edits, read, refl);
    served = none_served (if_filled edits);
  }

-- ---- a share that was served

unheard_by : (k k' : Pass) (requests : List Served) (loses : Bool) (lost : List Entry) → IsLostBy k k' requests loses lost → IsUnheard loses k.number lost
unheard_by k k' requests false lost by = by
unheard_by k k' requests true lost by = (by.0, by.1.lost_is)

abbrev count_of : Bool → ℕ
count_of true = 1
count_of false = 0

counted : (loses : Bool) → MatchBool loses (Rose 0 (count_of loses)) (count_of loses ≡ 0)
counted true = (omega arith, omega arith)
counted false = refl

module _ {settings : Settings} {opened : List Entry} where
  -- all edits after the opening are those that the editor's requests added, except for one that was lost
  editor_batches : (history : List Entry) (players : List (WorkerRun settings opened)) (editor : WorkerRun settings opened) (most : ℕ) → ArePlayers players → All (λ e. maker e ≡ 0) opened
      → IsHistoryOf most history (players ++ editor ∷ []) [] → KeepsBut (is_worker_loss editor.end) (λ bs. bs ≡ batches opened ++ acknowledged_batches history editor.reports) (batches history)
  editor_batches history players editor most are first one =
      let part : IsPart history editor = (all_parts (IsPart history) players editor one.parts).1 in
      let k : Pass = fresh editor.pass.number settings opened in
      let works = editor.served.works in
      let requests = all_served editor.reports in
      let loses = loses_any editor.reports in
      let same : added_entries history requests ≡ added_entries editor.pass.seen requests =
      ap (λ h. added_entries h requests) part.begins ∙ (stays settings editor.pass.number 0 editor.pass.seen part.later 0 works.asks requests works.serves.are_served).entries in
      let keeps : List (List Edit) → Type 0 = λ bs. bs ≡ batches opened in
      let keeps' : List (List Edit) → Type 0 = λ bs. bs ≡ batches opened ++ acknowledged_batches history editor.reports in
      let did : Keeping keeps keeps' loses 0 (count_of loses) k editor.pass loses = record {
        number = refl;
        made = added_entries editor.pass.seen requests;
        lost = works.lost;
        unheard = unheard_by k editor.pass requests loses works.lost works.loses;
        own = works.serves.own;
        kept = λ bs is. ap (λ l. l ++ batches (added_entries editor.pass.seen requests)) is ∙ ap (λ es. batches opened ++ batches es) (sym same);
        is_lost = refl;
        counts = counted loses;
      } in
      subst (λ b. KeepsBut b keeps' (batches history)) editor.served.whole
      (editor_keeps history players editor most k keeps keeps' loses 0 (count_of loses) loses are first one part refl did refl)

-- the workers of players come first
record Editor {settings : Settings} {opened : List Entry} (crew : List (WorkerRun settings opened)) : Type 0 where
  players : List (WorkerRun settings opened)
  editor : WorkerRun settings opened
  are : crew ≡ players ++ editor ∷ []
  listen : ArePlayers players

module _ {settings : Settings} {opened : List Entry} where
  last_editor : (count : ℕ) (crew : List (WorkerRun settings opened)) → map (λ (s : WorkerRun settings opened). s.role) crew ≡ replicate count role.Listen ++ role.Edit ∷ [] → Editor crew
  last_editor count [] is = absurd (let same = ap length is in let more = length-append (replicate count role.Listen) (role.Edit ∷ []) in omega (arith, same, more))
  last_editor zero (s ∷ []) is = record { players = []; editor = s; are = refl; listen = tt }
  last_editor zero (s ∷ t ∷ crew) is = absurd (let same = ap length is in omega (arith, same))
  last_editor (suc count) (s ∷ crew) is =
      let rest = last_editor count crew (ap (drop 1) is) in
      let listens : s.role ≡ role.Listen = ap (λ l. get_or l 0 role.Listen) is in record {
        players = s ∷ rest.players;
        editor = rest.editor;
        are = ap (λ l. s ∷ l) rest.are;
        listen = ((listens, players_lose_nothing s listens), rest.listen);
      }

  all_whole : (players : List (WorkerRun settings opened)) → ArePlayers players → AllByRecursion (λ s. is_worker_loss s.end ≡ false) players
  all_whole [] are = tt
  all_whole (s ∷ players) are = (are.0.1, all_whole players are.1)

-- what the file has of the batches of the history
record Ended (path : List ℕ) (now : Option Contents) (front : List (List Edit)) (before after : ℕ) : Type 0 where
  last : List (List Edit)
  under : HasUnder path now (front ++ last)
  few : length last ≤ 1
  faultless : (last ≡ []) ⊎ Rose before after

ended : (lost : Bool) (path : List ℕ) (c : Contents) (now : Option Contents) (all front : List (List Edit)) (before after : ℕ) → KeepsBut lost (λ bs. bs ≡ front) all → LeavesBut lost path all (Some c) now
    → MatchBool lost (Rose before after) (after ≡ before) → Ended path now front before after
ended false path c now all front before after is left counts = record {
  last = [];
  under = under_nothing path now front (subst (HasUnder path now) is (under_put path c now all left));
  few = omega arith;
  faultless = inl refl;
}
ended true path c now all front before after is left counts = by_left left.3
  where
    -- the same edit was lost
    same : left.0 ≡ front
    same = init_same left.0 is.0 left.1 is.1 (sym left.2 ∙ is.2) ∙ is.3

    by_left : LeavesOrOneMore path left.0 (Some c) now → Ended path now front before after
    by_left (inl put) = record {
      last = [];
      under = under_nothing path now front (subst (HasUnder path now) same (under_put path c now left.0 put));
      few = omega arith;
      faultless = inl refl;
    }
    by_left (inr more) = record {
      last = more.0 ∷ [];
      under = subst (λ bs. HasUnder path now (bs ++ more.0 ∷ [])) same (under_put path c now (left.0 ++ more.0 ∷ []) more.1);
      few = omega arith;
      faultless = inr counts;
    }

-- the history has all batches of the front, and perhaps one that was lost
record Made (all front : List (List Edit)) : Type 0 where
  lost : List (List Edit)
  few : length lost ≤ 1
  are : all ≡ front ++ lost

made_so : (lost : Bool) (all front : List (List Edit)) → KeepsBut lost (λ bs. bs ≡ front) all → Made all front
made_so false all front is = record { lost = []; few = omega arith; are = is ∙ sym (append-nil front) }
made_so true all front is = record { lost = is.1 ∷ []; few = omega arith; are = is.2 ∙ ap (λ bs. bs ++ is.1 ∷ []) is.3 }

module _ (serving : Serving) (path : List ℕ) (told : Run) (left : ServeOutcome) (c : Contents) (stood : List (List Edit)) (named : serving.file ≡ Some path) (single : serving.editors ≡ 1)
    (known : told.before.around.files.contents ≡ Some c) (stands : FileStands (bytes_at c path) stood) where
  -- what the share began with
  began : (edits : List Edit) (opened : List Entry) → IsOpening serving.file told.before.around.files.contents edits opened
      → (opened ≡ opened_with (stood ++ if_filled edits)) × (batches opened ≡ stood ++ if_filled edits)
  began edits opened is =
      let at : IsOpening (Some path) (Some c) edits opened =
      subst (λ f. IsOpening f (Some c) edits opened) named (subst (λ o. IsOpening serving.file o edits opened) known is) in
      let same : at.0 ≡ stood = one_list (bytes_at c path) at.0 stood at.1 stands in
      let opened_is : opened ≡ opened_with (stood ++ if_filled edits) = at.2 ∙ ap (λ bs. opened_with (bs ++ if_filled edits)) same in
      (opened_is, ap batches opened_is ∙ batches-opened (stood ++ if_filled edits))

  kept_at : (history : List Entry) (lost : Bool) → AreKept serving.file told.before.around.files told.after.around.files history lost → LeavesBut lost path (batches history) (Some c) told.after.around.files.contents
  kept_at history lost kept =
      let at : IsKept path told.before.around.files told.after.around.files history lost = subst (λ f. AreKept f told.before.around.files told.after.around.files history lost) named kept in
      subst (λ o. LeavesBut lost path (batches history) o told.after.around.files.contents) known at.left

  counts_at : (history : List Entry) (lost : Bool) → AreKept serving.file told.before.around.files told.after.around.files history lost
      → MatchBool lost (Rose told.before.around.files.faults told.after.around.files.faults) (told.after.around.files.faults ≡ told.before.around.files.faults)
  counts_at history lost kept =
      let at : IsKept path told.before.around.files told.after.around.files history lost = subst (λ f. AreKept f told.before.around.files told.after.around.files history lost) named kept in at.counts

  unchanged : told.after.around.files ≡ told.before.around.files → HasUnder path told.after.around.files.contents stood
  unchanged same = under_same path c told.after.around.files.contents stood (ap (λ (f : FilesSeen). f.contents) same ∙ known) stands

  not_begun : HasNoShare left → NotBegun serving told.before.input told.after.input told.before.around.files told.after.around.files told.output_before told.output_after left.status → KeepsAll path told left stood
  not_begun none (stopped stop cause alone same tells) = keeps_same path told left stood none (unchanged same)
  not_begun none (unkept edits path' stop read filed stops leaves counts asked tells) =
      let same : path' ≡ path = let both : Some path' ≡ Some path = sym filed ∙ named in cc in
      keeps_input path told left stood none edits read
      (refused_input path c told.after.around.files.contents stood edits stop stands
      (subst (λ p. StopsOpening (Some c) p edits stop) same (subst (λ o. StopsOpening o path' edits stop) known stops))
      (subst (λ p. LeavesRefused (Some c) told.after.around.files.contents p edits stop) same (subst (λ o. LeavesRefused o told.after.around.files.contents path' edits stop) known leaves)))
  not_begun none (unannounced edits opened read is kept tells) =
      keeps_input path told left stood none edits read
      (inr (subst (HasUnder path told.after.around.files.contents) (began edits opened is).1 (under_put path c told.after.around.files.contents (batches opened) (kept_at opened false kept))))

  keeps_all : (edits : List Edit) (opened : List Entry) → HasReadAs edits told.before.input told.after.input → IsOpening serving.file told.before.around.files.contents edits opened
      → HasServed serving opened (AreKept serving.file told.before.around.files told.after.around.files) (first_line serving opened) told.before.around.net told.after.around.net told.output_before told.output_after left
      → KeepsAll path told left stood
  keeps_all edits opened read is run =
      let start = began edits opened is in
      let one : Editor run.crew = last_editor serving.workers run.crew (run.roles ∙ ap (λ n. replicate serving.workers role.Listen ++ replicate n role.Edit) single) in
      let ends : List (WorkerRun (settings_of serving) opened) → Bool = λ crew. has_end worker.FileFault (map (λ (s : WorkerRun (settings_of serving) opened). s.end) crew) in
      let lost : ends run.crew ≡ is_worker_loss one.editor.end = ap ends one.are ∙ last_lost one.players one.editor (all_whole one.players one.listen) in
      let kept : AreKept serving.file told.before.around.files told.after.around.files run.history (is_worker_loss one.editor.end) =
      subst (λ b. AreKept serving.file told.before.around.files told.after.around.files run.history b) lost run.kept_so in
      let made : All (λ e. maker e ≡ 0) opened = subst (All (λ e. maker e ≡ 0)) (sym start.0) (opened_made (stood ++ if_filled edits)) in
      let all = editor_batches run.history one.players one.editor (workers_of serving) one.listen made (subst (λ crew. IsHistoryOf (workers_of serving) run.history crew []) one.are run.one) in
      let at = ended (is_worker_loss one.editor.end) path c told.after.around.files.contents (batches run.history) (batches opened ++ acknowledged_batches run.history one.editor.reports)
      told.before.around.files.faults told.after.around.files.faults all (kept_at run.history (is_worker_loss one.editor.end) kept) (counts_at run.history (is_worker_loss one.editor.end) kept) in
      let made_all = made_so (is_worker_loss one.editor.end) (batches run.history) (batches opened ++ acknowledged_batches run.history one.editor.reports) all in
      let shape : (more : List (List Edit))
      → (batches opened ++ acknowledged_batches run.history one.editor.reports) ++ more ≡ stood ++ (if_filled edits ++ (acknowledged_batches run.history one.editor.reports ++ more)) =
      λ more.
      ap (λ bs. (bs ++ acknowledged_batches run.history one.editor.reports) ++ more) start.1
      ∙ append_assoc (stood ++ if_filled edits) (acknowledged_batches run.history one.editor.reports) more
      ∙ append_assoc stood (if_filled edits) (acknowledged_batches run.history one.editor.reports ++ more) in
      record {
        more = if_filled edits ++ (acknowledged_batches run.history one.editor.reports ++ at.last);
        under = subst (HasUnder path told.after.around.files.contents) (shape at.last) at.under;
        unserved = λ none. absurd (let bad : None ≡ Some run.history = sym none ∙ run.history_is in cc);
        served = λ history known_as.
            let same : run.history ≡ history = let both : Some run.history ≡ Some history = sym run.history_is ∙ known_as in cc in
            subst (λ h. HasAcknowledged told stood h left.links (if_filled edits ++ (acknowledged_batches run.history one.editor.reports ++ at.last))) same (record {
              edits = edits;
              read = read;
              players = map (λ (s : WorkerRun (settings_of serving) opened). s.reports) one.players;
              editor = one.editor.reports;
              links_are = run.links
                  ∙ ap (λ crew. map (λ (s : WorkerRun (settings_of serving) opened). s.reports) crew) one.are
                  ∙ map-append (λ (s : WorkerRun (settings_of serving) opened). s.reports) one.players (one.editor ∷ []);
              last = at.last;
              are = refl;
              few = at.few;
              faultless = at.faultless;
              lost = made_all.lost;
              few_lost = made_all.few;
              made = made_all.are ∙ shape made_all.lost;
            });
      }

pub acknowledged_batches_stay : AcknowledgedBatchesStay
acknowledged_batches_stay serving path told left c stood (unopened stop fails unread same tells none) named single known stands =
    keeps_same path told left stood none (unchanged serving path told left c stood named single known stands same)
acknowledged_batches_stay serving path told left c stood (unbegun asked faults not none) named single known stands = not_begun serving path told left c stood named single known stands none not
acknowledged_batches_stay serving path told left c stood (served edits opened read is run) named single known stands =
    keeps_all serving path told left c stood named single known stands edits opened read is run
