-- A text that shows tags is not refused.
use Rattle.std.proofs.Common.{◌≡◌, ℕ, zero, suc, List, [], ◌∷◌, ◌++◌, Bool, true, false, if◌then◌else◌, refl, sym, ap, subst, ◌∙◌, append_assoc, append-nil}
use Rattle.dmap_tags.specs.Tree.{Tree}
use Rattle.code_table.specs.declared.row.CodeRow.{CodeRow}
use Rattle.dmap_show.specs.Readable.{Shows}
use Rattle.dmap_show.specs.TextLines.{before, behind, has, first_line, behind_lines, first_lines, StopsBehind}
use Rattle.dmap_show.proofs.Taken.{behind_none, split_again}

first_and_rest : (text : List ℕ) (there : Bool) → has 10 text ≡ there
    → (if there then before 10 text ++ 10 ∷ [] else text) ++ behind 10 text ≡ text
first_and_rest text true is = append_assoc (before 10 text) (10 ∷ []) (behind 10 text) ∙ sym (split_again 10 text is)
first_and_rest text false is = ap (λ l. text ++ l) (behind_none 10 text is) ∙ append-nil text

-- the first lines and those after them are all of the text
pub all_lines : (n : ℕ) (text : List ℕ) → first_lines n text ++ behind_lines n text ≡ text
all_lines zero text = refl
all_lines (suc n) text =
    append_assoc (first_lines n text) (first_line (behind_lines n text)) (behind 10 (behind_lines n text))
    ∙ ap (λ l. first_lines n text ++ l) (first_and_rest (behind_lines n text) (has 10 (behind_lines n text)) refl)
    ∙ all_lines n text

without_end : (rest : List ℕ) → has 10 rest ≡ false → first_line rest ≡ rest
without_end rest is = rw is refl

pub shown_once : (rows : List CodeRow) (text : List ℕ) (n : ℕ) (ts : List Tree) → StopsBehind rows text n → Shows rows text ts → ⊥
shown_once rows text n ts stops shows = at_line (has 10 (behind_lines n text)) refl
  where
    at_line : (there : Bool) → has 10 (behind_lines n text) ≡ there → ⊥
    at_line true is = stops.ended is (behind 10 (behind_lines n text)) ts (subst (λ t. Shows rows t ts) (sym (all_lines (suc n) text)) shows)
    at_line false is =
        stops.unended is ts
        (subst (λ t. Shows rows t ts) (sym (ap (λ l. first_lines n text ++ l) (without_end (behind_lines n text) is) ∙ all_lines n text)) shows)
