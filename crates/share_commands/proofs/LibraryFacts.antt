-- Why a share that was opened with a batch is not listed.
use Rattle.std.proofs.Common.{◌≡◌, ◌<◌, ◌≤◌, ℕ, Bool, cond, List, [], ◌∷◌, length, None, Some, refl, sym, ap, ◌∙◌, arith}
use Rattle.std.proofs.lemmas.Bool.{le-leb, lt-leb}
use Rattle.item_model.specs.declared.changes.Edit.{Edit}
use Rattle.item_model.specs.declared.request.Target.{Target}
use Rattle.share_history.specs.Histories.{opening, batches}
use Rattle.share_history.specs.Histories as histories
use Rattle.share_history.specs.Numbers.{most_lists}
use Rattle.share_history.specs.Rows.{lists, is_there}
use Rattle.share_history.proofs.EditFacts.{edits-opening}
use Rattle.share_commands.specs.declared.list.ListFault.TheVariants.{TooManyLists, NoList}
use Rattle.share_commands.specs.ListShare.{library_fault}

pub too_many : (edits : List Edit) (target : Target) (count : ℕ) → count ≡ length (lists (histories.edits (batches (opening edits)))) → 1024 < count
    → Some TooManyLists ≡ library_fault edits target
too_many edits target count is more =
    ap (λ few. cond few (cond (is_there edits target) None (Some NoList)) (Some TooManyLists))
    (sym (lt-leb (length (lists edits)) most_lists (omega (arith, is, ap (λ es. length (lists es)) (edits-opening edits), more))))

pub few_enough : (edits : List Edit) (target : Target) (count : ℕ) (there : Bool) → count ≡ length (lists (histories.edits (batches (opening edits)))) → count ≤ 1024
    → there ≡ is_there (histories.edits (batches (opening edits))) target → cond there None (Some NoList) ≡ library_fault edits target
few_enough edits target count there is less found =
    ap (λ b. cond b None (Some NoList)) (found ∙ ap (λ es. is_there es target) (edits-opening edits))
    ∙ ap (λ few. cond few (cond (is_there edits target) None (Some NoList)) (Some TooManyLists))
    (sym (le-leb (length (lists edits)) most_lists (omega (arith, is, ap (λ es. length (lists es)) (edits-opening edits), less))))

-- a batch with edits is the first of a history
pub one_batch : (edits : List Edit) → 1 ≤ length edits → batches (opening edits) ≡ edits ∷ []
one_batch [] some = absurd (omega arith)
one_batch (e ∷ es) some = refl
