-- A history of which one worker made all edits: the others serve players, who cannot edit.
use Rattle.std.proofs.Common.{◌≡◌, ◌⊎◌, ℕ, Bool, true, List, [], ◌∷◌, ◌++◌, get_or, sym, subst, ap, ◌∙◌, inl, inr, arith}
use Rattle.std.specs.List.{AllByRecursion}
use Rattle.std.specs.Prelude.{All, Contains}
use Rattle.item_model.specs.declared.changes.Edit.{Edit}
use Rattle.item_model.specs.declared.changes.Entry.{Entry}
use Rattle.share_history.specs.Histories.{batches}
use Rattle.share_lock.specs.Histories.{NoneOf}
use Rattle.share_replies.specs.Settings.{Settings}
use Rattle.share_replies.specs.Laws.{is_edit, maker}
use Rattle.share_server.specs.Kept.{Keeping}
use Rattle.share_server.specs.Passes.{Pass}
use Rattle.share_workers.specs.Keepers.{KeepsBut}
use Rattle.share_workers.proofs.Keepers.{keeps_history}
use Rattle.share_crew.specs.WorkerRuns.{WorkerRun, IsHistoryOf, IsPart, numbers_of_all, passes_in}
use Rattle.share_crew.proofs.Numbers.{head_or_tail}
use Rattle.share_crew.proofs.Players.{ArePlayers, IsQuiet, by_another, each_at, quiet_players}

module _ {settings : Settings} {opened : List Entry} where
  by_editor : (e : Entry) (players : List (WorkerRun settings opened)) (editor : WorkerRun settings opened) → is_edit e ≡ true → AllByRecursion (λ s. IsQuiet s.pass.number e) players
      → Contains (numbers_of_all (passes_in (players ++ editor ∷ []) ++ [])) (maker e) → maker e ≡ editor.pass.number
  by_editor e players editor is quiet has = at (head_or_tail (maker e) editor.pass.number [] (by_another e players (editor ∷ []) [] is quiet has))
    where
      at : (maker e ≡ editor.pass.number) ⊎ Contains [] (maker e) → maker e ≡ editor.pass.number
      at (inl same) = same
      at (inr none) = let h = none.1 in absurd (omega arith)

  -- if one worker edits and the others serve players, its keeper has the batches of the history
  pub editor_keeps : (history : List Entry) (players : List (WorkerRun settings opened)) (editor : WorkerRun settings opened) (most : ℕ) (k : Pass)
      (keeps keeps' : List (List Edit) → Type 0) (is_lost' : Bool) (faults faults' : ℕ) (loses : Bool)
      → ArePlayers players → All (λ e. maker e ≡ 0) opened → IsHistoryOf most history (players ++ editor ∷ []) [] → IsPart history editor
      → k.seen ≡ opened → Keeping keeps keeps' is_lost' faults faults' k editor.pass loses → keeps (batches opened) → KeepsBut loses keeps' (batches history)
  editor_keeps history players editor most k keeps keeps' is_lost' faults faults' loses are first one part seen did had =
      let quiet = quiet_players history one.later players (editor ∷ []) [] most are one.parts one.numbered first one.begins in
      let number : editor.pass.number ≡ k.number = did.number in
      keeps_history keeps keeps' is_lost' faults faults' k editor.pass loses history one.later part.later did (subst (λ h. keeps (batches h)) (sym seen) had)
      (one.begins ∙ ap (λ h. h ++ one.later) (sym seen)) part.begins
      (λ i d less is. by_editor (get_or one.later i d) players editor is (each_at one.later i d players less quiet) (one.made i d less) ∙ number)
      (subst (λ n. NoneOf maker (n ∷ []) part.later) number part.none)
