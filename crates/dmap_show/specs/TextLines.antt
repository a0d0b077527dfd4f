-- Lines of a text, and the first line at which it stops being a shown one.
use Rattle.std.specs.Prelude.{◌≡◌, ◌+◌, ℕ, zero, suc, List, [], ◌∷◌, ◌++◌, Bool, true, false, ◌==◌, ◌||◌, if◌then◌else◌}
use Rattle.dmap_tags.specs.Tree.{Tree}
use Rattle.code_table.specs.declared.row.CodeRow.{CodeRow}
use Rattle.dmap_show.specs.declared.reading.ShowError.{ShowError}
use Rattle.dmap_show.specs.declared.reading.ShowError.TheVariants.{Line, Memory}
use Rattle.dmap_show.specs.Readable.{Shows}

-- the bytes before the first byte of that value, and those after it
abbrev pub before : ℕ → List ℕ → List ℕ
before mark [] = []
before mark (b ∷ bytes) = if b == mark then [] else b ∷ before mark bytes

abbrev pub behind : ℕ → List ℕ → List ℕ
behind mark [] = []
behind mark (b ∷ bytes) = if b == mark then bytes else behind mark bytes

abbrev pub has : ℕ → List ℕ → Bool
has mark [] = false
has mark (b ∷ bytes) = (b == mark) || has mark bytes

-- the first line, with its line feed if it has one
abbrev pub first_line : List ℕ → List ℕ
first_line text = if has 10 text then before 10 text ++ 10 ∷ [] else text

-- the first n lines, and the text after them
abbrev pub behind_lines : ℕ → List ℕ → List ℕ
behind_lines zero text = text
behind_lines (suc n) text = behind 10 (behind_lines n text)

abbrev pub first_lines : ℕ → List ℕ → List ℕ
first_lines zero text = []
first_lines (suc n) text = first_lines n text ++ first_line (behind_lines n text)

-- n lines show tags, and no shown text continues with the next line: if that line has a line feed, no shown text
-- begins with these lines, and if it has none, they are not a shown text
pub record StopsBehind (rows : List CodeRow) (text : List ℕ) (n : ℕ) : Type 0 where
  pub shown : (ts : List Tree) × Shows rows (first_lines n text) ts
  pub ended : has 10 (behind_lines n text) ≡ true → (more : List ℕ) (ts : List Tree) → Shows rows (first_lines (suc n) text ++ more) ts → ⊥
  pub unended : has 10 (behind_lines n text) ≡ false → (ts : List Tree) → Shows rows (first_lines (suc n) text) ts → ⊥

-- the cause of a refusal, unless an allocation failed; lines count from 1
abbrev pub Explains : List CodeRow → List ℕ → ShowError → Type 0
Explains rows text (Line line) = (n : ℕ) × ((line ≡ n + 1) × StopsBehind rows text n)
Explains rows text Memory = Unit {0}
