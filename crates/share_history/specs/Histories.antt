-- The history of a share, a list of entries, and its revisions. A share begins at revision 2, and each batch of edits
-- makes the next one.
use Rattle.std.specs.Prelude.{ℕ, zero, suc, ◌+◌, ◌-◌, List, [], ◌∷◌, length, take, drop, flat_map}
use Rattle.item_model.specs.declared.changes.Edit.{Edit}
use Rattle.item_model.specs.declared.changes.Entry.{Entry}
use Rattle.item_model.specs.declared.changes.Entry.TheVariants.{Edits, Login, Logout, Stop}
use Rattle.share_history.specs.Numbers.{first_revision}

-- the batches of edits, in order
abbrev pub batches : List Entry → List (List Edit)
batches [] = []
batches (Edits by batch ∷ h) = batch ∷ batches h
batches (Login by id ∷ h) = batches h
batches (Logout by id ∷ h) = batches h
batches (Stop by ∷ h) = batches h

-- all edits of some batches in one list
abbrev pub edits : List (List Edit) → List Edit
edits bs = flat_map (λ b. b) bs

-- the edits of an entry
abbrev pub edits_in : Entry → List Edit
edits_in (Edits by batch) = batch
edits_in (Login by id) = []
edits_in (Logout by id) = []
edits_in (Stop by) = []

-- all edits of a history in one list
abbrev pub all_edits : List Entry → List Edit
all_edits h = edits (batches h)

-- the revision after some batches
abbrev pub revision : List (List Edit) → ℕ
revision bs = length bs + first_revision

-- the batches up to a revision: none for one below the first, all for one above the last
abbrev pub up_to : List (List Edit) → ℕ → List (List Edit)
up_to bs v = take (v - first_revision) bs

-- the edits after a revision
abbrev pub later : List (List Edit) → ℕ → List Edit
later bs v = edits (drop (v - first_revision) bs)

-- the history up to and with its `n`-th batch
abbrev pub until_edits : ℕ → List Entry → List Entry
until_edits zero h = []
until_edits (suc n) [] = []
until_edits (suc n) (Edits by batch ∷ h) = Edits by batch ∷ until_edits n h
until_edits (suc n) (Login by id ∷ h) = Login by id ∷ until_edits (suc n) h
until_edits (suc n) (Logout by id ∷ h) = Logout by id ∷ until_edits (suc n) h
until_edits (suc n) (Stop by ∷ h) = Stop by ∷ until_edits (suc n) h

-- the history up to and with the batch that makes revision `v`
abbrev pub at_revision : List Entry → ℕ → List Entry
at_revision h v = until_edits (v - first_revision) h

-- the history of a share opened with a batch: one entry of handle 0, or none if the batch is empty
abbrev pub opening : List Edit → List Entry
opening [] = []
opening (e ∷ es) = Edits 0 (e ∷ es) ∷ []
