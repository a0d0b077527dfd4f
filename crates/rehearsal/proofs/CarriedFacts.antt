-- Bytes of one tag, read by a table that is the standard one.
use Rattle.std.proofs.Common.{◌≡◌, ◌++◌, ℕ, List, [], true, sym, subst, ◌∙◌, append-nil}
use Rattle.dmap_tags.specs.Tree.{Tree}
use Rattle.dmap_tags.specs.Spelling.{spelling}
use Rattle.code_table.specs.declared.row.CodeRow.{CodeRow}
use Rattle.code_table.specs.Standard.{standard_rows}
use Rattle.dmap_stream.specs.WholeTag.{is_accepted}
use Rattle.listing_plan.specs.Limits.{listing_limit}
use Rattle.rehearsal.specs.Carried.{IsCarried}

pub by_table : (rows : List CodeRow) (t : Tree) (bytes : List ℕ) → rows ≡ standard_rows → IsCarried t bytes → is_accepted rows listing_limit t ≡ true
by_table rows t bytes same is = subst (λ table. is_accepted table listing_limit t ≡ true) (sym same) is.accepted

pub alone : (t : Tree) (bytes : List ℕ) → IsCarried t bytes → bytes ≡ spelling t ++ []
alone t bytes is = is.spelled ∙ sym (append-nil (spelling t))
