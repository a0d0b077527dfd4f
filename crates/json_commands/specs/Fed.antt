-- A reader that was fed bytes, whichever of their events were taken.
use Rattle.std.specs.Prelude.{◌≡◌, ◌++◌, ℕ, List, [], None}
use Rattle.code_table.specs.Standard.{standard_rows}
use Rattle.dmap_stream.specs.Reader.{Reader, ready, HasRead}
use Rattle.dmap_stream.specs.declared.event.Event.{Event}
use Rattle.json_commands.specs.Whole.{json_limit}

abbrev pub HasFed : List ℕ → Reader → Type 0
HasFed fed reader = (handed : List Event) × HasRead fed handed reader

-- it found no error, and its table and limit are those of the command
pub record IsFed (fed : List ℕ) (reader : Reader) : Type 0 where
  pub read : HasFed fed reader
  pub going : reader.error ≡ None
  pub rows : reader.rows ≡ standard_rows
  pub limit : reader.limit ≡ json_limit

-- it was fed all of the bytes except those that are left, and no event is ready
pub record HasFedAllBut (all left : List ℕ) (reader : Reader) : Type 0 where
  pub front : List ℕ
  pub split : all ≡ front ++ left
  pub fed : IsFed front reader
  pub quiet : ready reader ≡ []
