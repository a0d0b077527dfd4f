-- A share that is put under its lock, or is not.
use Rattle.std.proofs.Common.{◌≡◌, ◌⊎◌, ◌+◌, ◌++◌, ℕ, List, [], ◌∷◌, Ok, Err, Result, MatchResult, refl, sym, subst, ap, ◌∙◌, inl, inr}
use Rattle.std.proofs.lemmas.List.Elements.{All-nil, All-cons}
use Rattle.std.specs.Prelude.{All}
use Rattle.item_model.specs.declared.changes.Edit.{Edit}
use Rattle.item_model.specs.declared.changes.Entry.TheVariants.{Edits}
use Rattle.share_history.specs.Histories.{opening}
use Rattle.share_replies.specs.Answers.{Shared}
use Rattle.share_replies.specs.Laws.{maker}
use Rattle.share_core.specs.Opened.{opened_with}
use Rattle.share_lock.specs.Known.{fresh}
use Rattle.command_core.specs.Answers.{Writes}
use Rattle.command_core.specs.Endings.{IsWritten, IsCut}
use Rattle.command_core.specs.Faults.{memory_line}
use Rattle.command_core.specs.Seen.{OutputSeen}
use Rattle.share_crew.specs.declared.opening.LockedShare.{LockedShare}
use Rattle.share_crew.specs.declared.opening.WorkerBuffers.{WorkerBuffers}
use Rattle.share_crew.specs.Begun.{HasRoom, WritesAndLocks}
use Rattle.serve_command.specs.declared.terms.Serving.{Serving}
use Rattle.serve_command.specs.Runs.{first_line, NotAnnounced}
use Rattle.serve_command.specs.Begun.{HasBegun}
use Rattle.serve_command.specs.Terms.{settings_of, workers_of}

-- the opening is the first lock handle's
pub opening_made : (edits : List Edit) → All (λ e. maker e ≡ 0) (opening edits)
opening_made [] = All-nil (λ e. maker e ≡ 0)
opening_made (e ∷ es) = All-cons (λ e. maker e ≡ 0) (Edits 0 (e ∷ es)) [] refl (All-nil (λ e. maker e ≡ 0))

pub opened_made : (bs : List (List Edit)) → All (λ e. maker e ≡ 0) (opened_with bs)
opened_made [] = All-nil (λ e. maker e ≡ 0)
opened_made (b ∷ bs) = All-cons (λ e. maker e ≡ 0) (Edits 0 b) (opened_with bs) refl (opened_made bs)

module _ {D : Type 0} where
  -- it is under its lock after its line was written
  pub begins : (serving : Serving) (output output' : OutputSeen) (share : Shared) (room : WorkerBuffers D) (line : List ℕ) (result : Result (LockedShare D) ℕ)
      → share.settings ≡ settings_of serving → HasRoom (workers_of serving) room → line ≡ first_line serving share.history
      → WritesAndLocks (workers_of serving + 1) share room line output output' result
      → MatchResult result (HasBegun serving share.history output output') (NotAnnounced (first_line serving share.history) output output')
  begins serving output output' share room line (Ok begun) settings fits told h =
      record {
        ready = h.0.ready;
        begun_with = record { passes = h.0.passes_are; pass = h.0.pass ∙ ap (λ s. fresh 0 s share.history) settings };
        room = subst (HasRoom (workers_of serving)) (sym h.0.room_is) fits;
        written = subst (IsWritten output output') told h.1;
      }
  begins serving output output' share room line (Err status) settings fits told h = not_begun h
    where
      not_begun : ((status ≡ 5) × IsCut output output' line) ⊎ Writes 9 (line ++ memory_line) output output' status → NotAnnounced (first_line serving share.history) output output' status
      not_begun (inl c) = inr (inl (c.0, subst (IsCut output output') told c.1))
      not_begun (inr t) = inr (inr (subst (λ l. Writes 9 (l ++ memory_line) output output' status) told t))
