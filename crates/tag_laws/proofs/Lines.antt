-- The first lines of a text are the beginning of its further lines, so a text stops at one line.
use Rattle.std.proofs.Common.{◌≡◌, ◌≢◌, ℕ, zero, suc, ◌+◌, ◌<◌, ◌≤◌, List, [], ◌++◌, Bool, true, false, nat_lt, nat_le, refl, sym, ap, subst, ◌∙◌, arith, append_assoc, append-nil}
use Rattle.std.proofs.lemmas.Bool.{ltb-true, ltb-false, leb-true, leb-false}
use Rattle.code_table.specs.declared.row.CodeRow.{CodeRow}
use Rattle.dmap_show.specs.Readable.{Shows}
use Rattle.dmap_show.specs.declared.reading.ShowError.{ShowError}
use Rattle.dmap_show.specs.declared.reading.ShowError.TheVariants.{Line, Memory}
use Rattle.dmap_show.specs.TextLines.{behind, has, first_line, behind_lines, first_lines, StopsBehind, Explains}
use Rattle.dmap_show.proofs.Taken.{behind_none}

-- the text begins with these bytes
abbrev pub Begins : List ℕ → List ℕ → Type 0
Begins text front = (more : List ℕ) × (text ≡ front ++ more)

begins_itself : (text : List ℕ) → Begins text text
begins_itself text = ([], sym (append-nil text))

lines_begin : (text : List ℕ) (m n : ℕ) → m ≤ n → Begins (first_lines n text) (first_lines m text)
lines_begin text m zero le =
    let same : m ≡ zero = omega arith in
    subst (λ k. Begins (first_lines k text) (first_lines m text)) same (begins_itself (first_lines m text))
lines_begin text m (suc n) le = by (nat_le m n) refl (lines_begin text m n)
  where
    by : (b : Bool) → nat_le m n ≡ b → (m ≤ n → Begins (first_lines n text) (first_lines m text)) → Begins (first_lines (suc n) text) (first_lines m text)
    by true is earlier =
        let front = earlier (leb-true m n is) in
        (front.0 ++ first_line (behind_lines n text), ap (λ l. l ++ first_line (behind_lines n text)) front.1 ∙ append_assoc (first_lines m text) front.0 (first_line (behind_lines n text)))
    by false is earlier =
        let above = leb-false m n is in
        let same : m ≡ suc n = omega arith in
        subst (λ k. Begins (first_lines k text) (first_lines m text)) same (begins_itself (first_lines m text))

-- after a last line without a line feed there is nothing, so further lines are the same lines
abbrev pub IsAll : List ℕ → ℕ → ℕ → Type 0
IsAll text m n = (first_lines n text ≡ first_lines (suc m) text) × (behind_lines n text ≡ [])

lines_end : (text : List ℕ) (m n : ℕ) → suc m ≤ n → has 10 (behind_lines m text) ≡ false → IsAll text m n
lines_end text m zero le is = absurd (omega arith)
lines_end text m (suc n) le is = by (nat_le (suc m) n) refl (lines_end text m n)
  where
    by : (b : Bool) → nat_le (suc m) n ≡ b → (suc m ≤ n → has 10 (behind_lines m text) ≡ false → IsAll text m n) → IsAll text m (suc n)
    by true at earlier =
        let all = earlier (leb-true (suc m) n at) is in
        (ap (λ l. first_lines n text ++ first_line l) all.1 ∙ append-nil (first_lines n text) ∙ all.0, ap (behind 10) all.1)
    by false at earlier =
        let above = leb-false (suc m) n at in
        let same : m ≡ n = omega arith in
        subst (λ k. IsAll text m (suc k)) same (refl, behind_none 10 (behind_lines m text) is)

-- no text stops at two lines
none_further : (rows : List CodeRow) (text : List ℕ) (m n : ℕ) → m < n → StopsBehind rows text m → StopsBehind rows text n → ⊥
none_further rows text m n less stops later = by (has 10 (behind_lines m text)) refl
  where
    by : (there : Bool) → has 10 (behind_lines m text) ≡ there → ⊥
    by true is =
        let front = lines_begin text (suc m) n (omega arith) in
        stops.ended is front.0 later.shown.0 (subst (λ l. Shows rows l later.shown.0) front.1 later.shown.1)
    by false is = stops.unended is later.shown.0 (subst (λ l. Shows rows l later.shown.0) (lines_end text m n (omega arith) is).0 later.shown.1)

pub one_line : (rows : List CodeRow) (text : List ℕ) (m n : ℕ) → StopsBehind rows text m → StopsBehind rows text n → m ≡ n
one_line rows text m n a b = by (nat_lt m n) (nat_lt n m) refl refl
  where
    by : (less more : Bool) → nat_lt m n ≡ less → nat_lt n m ≡ more → m ≡ n
    by true more h k = absurd (none_further rows text m n (ltb-true m n h) a b)
    by false true h k = absurd (none_further rows text n m (ltb-true n m k) b a)
    by false false h k = let le = ltb-false m n h in let ge = ltb-false n m k in omega arith

pub one_cause : (rows : List CodeRow) (text : List ℕ) (e f : ShowError) → Explains rows text e → Explains rows text f → e ≢ Memory → f ≢ Memory → e ≡ f
one_cause rows text (Line a) (Line b) (m, h) (n, k) known also = ap Line (h.0 ∙ ap (λ i. i + 1) (one_line rows text m n h.1 k.1) ∙ sym k.0)
one_cause rows text Memory f h k known also = absurd (known refl)
one_cause rows text (Line a) Memory h k known also = absurd (also refl)
