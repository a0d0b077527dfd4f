-- A text that shows no tags stops at some line: at the first with which its lines show no tags.
use Rattle.std.proofs.Common.{◌≡◌, ◌⊎◌, inl, inr, ℕ, zero, suc, ◌<◌, ◌≤◌, Bool, true, false, ◌==◌, if◌then◌else◌, List, [], ◌∷◌, ◌++◌, length, refl, sym, ap, subst, ◌∙◌, arith, append_assoc, append-nil}
use Rattle.std.proofs.lemmas.Bool.{cond-true}
use Rattle.dmap_tags.specs.Tree.{Tree}
use Rattle.code_table.specs.declared.row.CodeRow.{CodeRow}
use Rattle.dmap_show.specs.Readable.{Shows}
use Rattle.dmap_show.specs.TextLines.{before, behind, has, behind_lines, first_lines, StopsBehind}
use Rattle.dmap_show.proofs.Once.{all_lines}
use Rattle.tag_laws.proofs.Cut.{HasText, IsWhole, cut_shows}
use Rattle.tag_laws.proofs.Decided.{shown_or_not}

abbrev Stops : List CodeRow → List ℕ → Type 0
Stops rows text = (n : ℕ) × StopsBehind rows text n

behind_shorter : (mark : ℕ) (text : List ℕ) → length (behind mark text) ≤ length text
behind_shorter mark [] = omega arith
behind_shorter mark (b ∷ text) = by (b == mark) (behind_shorter mark text)
  where
    by : (same : Bool) → length (behind mark text) ≤ length text → length (if same then text else behind mark text) ≤ suc (length text)
    by true le = omega arith
    by false le = omega arith

behind_less : (mark b : ℕ) (text : List ℕ) → length (behind mark (b ∷ text)) ≤ length text
behind_less mark b text = by (b == mark) (behind_shorter mark text)
  where
    by : (same : Bool) → length (behind mark text) ≤ length text → length (if same then text else behind mark text) ≤ length text
    by true le = omega arith
    by false le = le

whole_lines : (n : ℕ) (text : List ℕ) → has 10 (behind_lines n text) ≡ true → IsWhole (first_lines (suc n) text)
whole_lines n text there =
    let rest = behind_lines n text in
    inr (
      first_lines n text ++ before 10 rest,
      ap (λ l. first_lines n text ++ l) (cond-true (has 10 rest) (before 10 rest ++ 10 ∷ []) rest there) ∙ sym (append_assoc (first_lines n text) (before 10 rest) (10 ∷ [])),
    )

stopped : (rows : List CodeRow) (text : List ℕ) (n : ℕ) → HasText rows (first_lines n text) → (HasText rows (first_lines (suc n) text) → ⊥) → StopsBehind rows text n
stopped rows text n shows never = record {
  shown = shows;
  ended = λ there rest ts s. never (cut_shows rows (first_lines (suc n) text) rest ts (whole_lines n text there) s);
  unended = λ there ts s. never (ts, s);
}

at_rest : (rows : List CodeRow) (k n : ℕ) (text rest : List ℕ) → behind_lines n text ≡ rest → length rest < suc k → HasText rows (first_lines n text)
    → (length (behind_lines (suc n) text) < k → HasText rows (first_lines (suc n) text) → HasText rows text ⊎ Stops rows text) → HasText rows text ⊎ Stops rows text
at_rest rows k n text [] is less shows later =
    let all : first_lines n text ≡ text = sym (append-nil (first_lines n text)) ∙ ap (λ l. first_lines n text ++ l) (sym is) ∙ all_lines n text in
    inl (shows.0, subst (λ l. Shows rows l shows.0) all shows.1)
at_rest rows k n text (b ∷ rest) is less shows later =
    elim (shown_or_not rows (first_lines (suc n) text)) [
      | inl longer ↦
          later
          (subst (λ l. length (behind 10 l) < k) (sym is) (let le = behind_less 10 b rest in omega arith))
          longer
      | inr never ↦ inr (n, stopped rows text n shows never)
    ]

from_line : (rows : List CodeRow) (k n : ℕ) (text : List ℕ) → length (behind_lines n text) < k → HasText rows (first_lines n text) → HasText rows text ⊎ Stops rows text
from_line rows zero n text less shows = absurd (omega arith)
from_line rows (suc k) n text less shows = at_rest rows k n text (behind_lines n text) refl less shows (from_line rows k (suc n) text)

pub shows_or_stops : (rows : List CodeRow) (text : List ℕ) → ((ts : List Tree) × Shows rows text ts) ⊎ ((n : ℕ) × StopsBehind rows text n)
shows_or_stops rows text = from_line rows (suc (length text)) 0 text (omega arith) ([], record { lines = refl; each = tt })
