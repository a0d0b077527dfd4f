-- What a loop over a history finds that the last edit said.
use Rattle.std.proofs.Common.{◌≡◌, ℕ, ◌+◌, ◌<◌, drop, length, get_or, List, ◌∷◌, ◌++◌, refl, sym, ap, ◌∙◌, Option, None, unwrap_or}
use Rattle.item_model.specs.declared.changes.Edit.{Edit}
use Rattle.item_model.specs.declared.changes.Entry.{Entry}
use Rattle.item_model.specs.declared.changes.Entry.TheVariants.{Edits, Login, Logout, Stop}
use Rattle.share_history.specs.LastSaid.{last_said}
use Rattle.share_history.specs.Histories.{edits_in, all_edits}
use Rattle.share_history.proofs.EditFacts.{told_on, said_on, drop_more}

pub said_first : {A : Type 0} (says : Edit → Option A) (e : Edit) (es : List Edit) (before : A)
    → unwrap_or (last_said says (e ∷ es)) before ≡ unwrap_or (last_said says es) (unwrap_or (says e) before)
said_first says e es before = told_on (last_said says es) (says e) before

-- the loop over edits: what the first of those that are left says comes before what the others say
pub said_left : {A : Type 0} (says : Edit → Option A) (es : List Edit) (i : ℕ) (e : Edit) (before : A) → i < length es → e ≡ get_or es i e
    → unwrap_or (last_said says (drop (i + 1) es)) (unwrap_or (says e) before) ≡ unwrap_or (last_said says (drop i es)) before
said_left says es i e before lt is =
    sym (ap (λ xs. unwrap_or (last_said says xs) before) (drop_more es i e lt is) ∙ said_first says e (drop (i + 1) es) before)

-- the edits of a history that begins with an entry
pub all_edits-cons : (e : Entry) (h : List Entry) → all_edits (e ∷ h) ≡ edits_in e ++ all_edits h
all_edits-cons (Edits by batch) h = refl
all_edits-cons (Login by id) h = refl
all_edits-cons (Logout by id) h = refl
all_edits-cons (Stop by) h = refl

-- the loop over entries
pub said_entries_left : {A : Type 0} (says : Edit → Option A) (h : List Entry) (i : ℕ) (e : Entry) (before : A) → i < length h → e ≡ get_or h i e
    → unwrap_or (last_said says (all_edits (drop (i + 1) h))) (unwrap_or (last_said says (edits_in e)) before) ≡ unwrap_or (last_said says (all_edits (drop i h))) before
said_entries_left says h i e before lt is =
    sym
    (ap (λ xs. unwrap_or (last_said says (all_edits xs)) before) (drop_more h i e lt is) ∙ ap (λ es. unwrap_or (last_said says es) before) (all_edits-cons e (drop (i + 1) h))
    ∙ said_on says (edits_in e) (all_edits (drop (i + 1) h)) before)

-- what some edits more say, after what the others left
pub said_more_edits : {A : Type 0} (says : Edit → Option (Option A)) (es ds : List Edit) → unwrap_or (last_said says (es ++ ds)) None ≡ unwrap_or (last_said says ds) (unwrap_or (last_said says es) None)
said_more_edits says es ds = said_on says es ds None
