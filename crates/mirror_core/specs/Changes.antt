-- What a listing changes, by key: `None` for a deleted key, the tag for a listed one. Merging held rows and changes,
-- both ascending by key, gives the resulting rows.
use Rattle.std.specs.Prelude.{ℕ, List, [], ◌∷◌, Option, Some, None, fold}
use Rattle.std.specs.declared.cmp.Ordering.{Ordering}
use Rattle.std.specs.declared.cmp.Ordering.TheVariants.{Greater}
use Rattle.std.specs.Ordering.{nat_cmp, match_ordering}
use Rattle.dmap_tags.specs.Tree.{Tree}
use Rattle.share_history.specs.Keyed.{put_in}

abbrev pub Change : Type 0
Change = ℕ × Option Tree

abbrev pub with_gone : List Change → ℕ → List Change
with_gone changes key = put_in changes (key, None)

abbrev pub with_row : List Change → ℕ × Tree → List Change
with_row changes row = put_in changes (row.0, Some row.1)

abbrev pub changes_of : List ℕ → List (ℕ × Tree) → List Change
changes_of gone rows = fold with_row (fold with_gone [] gone) rows

-- the row of a change before other rows
abbrev pub put_change : Change → List (ℕ × Tree) → List (ℕ × Tree)
put_change (key, None) rows = rows
put_change (key, Some tag) rows = (key, tag) ∷ rows

abbrev pub changed : List Change → List (ℕ × Tree)
changed [] = []
changed (c ∷ cs) = put_change c (changed cs)

-- the changes up to the key of a row, the row unless a change has its key, then the rest
abbrev pub past_row : ℕ × Tree → (List Change → List (ℕ × Tree)) → List Change → List (ℕ × Tree)
past_row row rest [] = row ∷ rest []
past_row row rest (c ∷ cs) =
    match_ordering (nat_cmp c.0 row.0) (put_change c (past_row row rest cs)) (put_change c (rest cs)) (row ∷ rest (c ∷ cs))

abbrev pub merged : List (ℕ × Tree) → List Change → List (ℕ × Tree)
merged [] cs = changed cs
merged (row ∷ rows) cs = past_row row (merged rows) cs

-- how the key of the next change compares to a key; `Greater` without a change
abbrev pub next_order : ℕ → List Change → Ordering
next_order key [] = Greater
next_order key (c ∷ cs) = nat_cmp c.0 key

-- the next change, then the rest
abbrev pub with_next : (List Change → List (ℕ × Tree)) → List Change → List (ℕ × Tree)
with_next rest [] = rest []
with_next rest (c ∷ cs) = put_change c (rest cs)
