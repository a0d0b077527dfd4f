-- What a keeper has of the batches of a history, if only its worker edits the share.
use Rattle.std.specs.Prelude.{◌≡◌, ℕ, List, [], ◌∷◌, ◌++◌, All, Bool, true, false}
use Rattle.edit_keeping.specs.declared.keeps.Keeps as keeper
use Rattle.item_model.specs.declared.changes.Edit.{Edit}
use Rattle.item_model.specs.declared.changes.Entry.{Entry}
use Rattle.share_history.specs.Histories.{batches}
use Rattle.share_lock.specs.Histories.{NoneOf}
use Rattle.share_replies.specs.Laws.{is_edit, maker}
use Rattle.share_server.specs.Kept.{KeepsEdits}
use Rattle.share_server.specs.Passes.{Pass}

-- each edit among the entries is of this number
abbrev pub EditsAreBy : ℕ → List Entry → Type 0
EditsAreBy number entries = All (λ e. is_edit e ≡ true → maker e ≡ number) entries

-- all batches are kept, or all but the last, which was lost
abbrev pub KeepsBut : Bool → (List (List Edit) → Type 0) → List (List Edit) → Type 0
KeepsBut false keeps bs = keeps bs
KeepsBut true keeps bs = (earlier : List (List Edit)) × (last : List Edit) × (bs ≡ earlier ++ last ∷ []) × keeps earlier

-- A keeper had the batches of what its lock handle had seen. Then it has those of each history that begins with what the
-- handle has seen by the end, if the edits after the beginning are of the handle and none of those after the end is.
abbrev pub KeepsHistory : {F R : Type 0} → keeper.Ghosts F R → (before after : F) → Type 0
KeepsHistory g before after =
    (k k' : Pass) (loses : Bool) (h behind later : List Entry) → KeepsEdits g before after k k' loses → g.keeps before (batches k.seen)
    → h ≡ k.seen ++ behind → h ≡ k'.seen ++ later → EditsAreBy k.number behind → NoneOf maker (k.number ∷ []) later
    → KeepsBut loses (g.keeps after) (batches h)
