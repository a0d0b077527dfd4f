-- What is carried to a mirror: the bytes of one tag that a reader with the standard codes accepts.
use Rattle.std.specs.Prelude.{◌≡◌, ℕ, List, true}
use Rattle.dmap_tags.specs.Tree.{Tree}
use Rattle.dmap_tags.specs.Spelling.{spelling}
use Rattle.dmap_tags.specs.Proper.{IsProperTag}
use Rattle.code_table.specs.Standard.{standard_rows}
use Rattle.dmap_stream.specs.WholeTag.{is_accepted}
use Rattle.listing_plan.specs.Limits.{listing_limit}

pub record IsCarried (t : Tree) (bytes : List ℕ) : Type 0 where
  pub spelled : bytes ≡ spelling t
  pub accepted : is_accepted standard_rows listing_limit t ≡ true
  pub proper : IsProperTag t
