-- Runs of `serve` with a file.
use Rattle.std.proofs.Common.{◌≡◌, ◌⊎◌, ℕ, List, [], Option, Some, None, IfSome, inl, inr, refl, sym, ap, ◌∙◌, subst, append-nil}
use Rattle.item_model.specs.declared.changes.Entry.{Entry}
use Rattle.outside_net.specs.Places.{Contents}
use Rattle.command_core.specs.Seen.{Seen, Run}
use Rattle.serve_command.specs.Laws.{HasUnder, KeepsAll}
use Rattle.serve_command.proofs.Keeping.{acknowledged_batches_stay}
use Rattle.chain_meetings.specs.Sequels as sequel
use Rattle.chain_meetings.proofs.Resumed.{acknowledged_batches_go_on}
use Rattle.daapshare_words.specs.Serve.{AreServeWords}
use Rattle.daapshare_words.specs.declared.command.NetCommand.TheVariants.{Serve}
use Rattle.daapshare_words.specs.declared.serve.ServeWords.{ServeWords}
use Rattle.command_runs.specs.declared.outcome.Outcome.{Outcome}
use Rattle.command_runs.specs.Files.{RunsGoOn, RunsKeepTheFile, RunsOfFile, no_run, one_more}
use Rattle.command_runs.specs.Left.{serve_outcome_of}
use Rattle.command_runs.specs.Table.{IsIdle, IsNetRun, serving_of}

one_editor : (w : ServeWords) (path : List ℕ) → w.file ≡ Some path → AreServeWords w → w.editors ≡ 1
one_editor w path named ranged = subst (λ (file : Option (List ℕ)). IfSome file (λ f. w.editors ≡ 1)) named ranged.one_editor

-- a run that left a history had read its arguments
served_ranged : (w : ServeWords) (told : Run) (served : Outcome) (h : List Entry) → IsNetRun (Serve w) told served → served.history ≡ Some h → AreServeWords w
served_ranged w told served h run is = by_ranged run.ranged
  where
    by_ranged : AreServeWords w ⊎ IsIdle told served → AreServeWords w
    by_ranged (inl ranged) = ranged
    by_ranged (inr idle) = let bad : None ≡ Some h = sym idle.memory.history ∙ is in absurd (cc)

-- the files of a run that did nothing
idle_contents : (told : Run) (served : Outcome) → IsIdle told served → told.after.around.files.contents ≡ told.before.around.files.contents
idle_contents told served idle = ap (λ (s : Seen). s.around.files.contents) idle.same

pub runs_keep_the_file : RunsKeepTheFile
runs_keep_the_file w path told served contents stood run named known stands = by_ranged run.ranged
  where
    by_ranged : AreServeWords w ⊎ IsIdle told served → KeepsAll path told (serve_outcome_of served) stood
    by_ranged (inl ranged) = acknowledged_batches_stay (serving_of w) path told (serve_outcome_of served) contents stood run.ends named (one_editor w path named ranged) known stands
    by_ranged (inr idle) = record {
      more = [];
      under = subst (HasUnder path told.after.around.files.contents) (sym (append-nil stood))
          (record { told = contents; is = idle_contents told served idle ∙ known; stands = stands });
      unserved = λ none. inl refl;
      served = λ history is. absurd (let bad : None ≡ Some history = sym idle.memory.history ∙ is in cc);
    }

module _ (path : List ℕ) (before : Option Contents) where
  -- one run more leads on
  lead_on : (between : Option Contents) (w : ServeWords) (told : Run) (served : Outcome) → sequel.RunsLead path before between → IsNetRun (Serve w) told served
      → w.file ≡ Some path → told.before.around.files.contents ≡ between → sequel.RunsLead path before told.after.around.files.contents
  lead_on between w told served lead run named found = by_ranged run.ranged
    where
      by_ranged : AreServeWords w ⊎ IsIdle told served → sequel.RunsLead path before told.after.around.files.contents
      by_ranged (inl ranged) = sequel.one_more between (serving_of w) told (serve_outcome_of served) lead run.ends named (one_editor w path named ranged) found
      by_ranged (inr idle) = subst (λ (c : Option Contents). sequel.RunsLead path before c) (sym found ∙ sym (idle_contents told served idle)) lead

  lead_of : (now : Option Contents) → RunsOfFile path before now → sequel.RunsLead path before now
  lead_of now no_run = sequel.no_run
  lead_of now (one_more between w told served runs run named found) = lead_on between w told served (lead_of between runs) run named found

pub runs_go_on : RunsGoOn
runs_go_on told told' served h h' r =
    acknowledged_batches_go_on told told' (serve_outcome_of served) h h' (record {
      path = r.path;
      first = serving_of r.first;
      ends = r.run.ends;
      with_file = r.with_file;
      one_editor = one_editor r.first r.path r.with_file (served_ranged r.first told served h r.run r.history_is);
      history_is = r.history_is;
      contents = r.contents;
      known = r.known;
      between = lead_of r.path told.after.around.files.contents told'.before.around.files.contents r.between;
      later = serving_of r.later;
      left' = serve_outcome_of r.served';
      ends' = r.run'.ends;
      same_file = r.same_file;
      history_is' = r.history_is';
    })
