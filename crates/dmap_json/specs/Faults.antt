-- Why a text is not read as a tag.
use Rattle.std.specs.Prelude.{◌≡◌, ℕ, List, None, Some}
use Rattle.serde_json.specs.Data.{Data}
use Rattle.serde_json.specs.Read.{read}
use Rattle.code_table.specs.declared.row.CodeRow.{CodeRow}
use Rattle.dmap_json.specs.Places.{places, IsFirstFault}
use Rattle.dmap_json.specs.declared.error.JsonError.{JsonError}
use Rattle.dmap_json.specs.declared.error.JsonError.TheVariants.{Unfit, Syntax, Shape, Memory}

-- the text has no JSON value, or the place with this index is the first in its value without a tag's object; an
-- allocation may fail at any time
abbrev pub Explains : List CodeRow → List ℕ → JsonError → Type 0
Explains rows text Unfit = ⊥
Explains rows text Syntax = read text ≡ None
Explains rows text (Shape index) = (d : Data) × (read text ≡ Some d) × IsFirstFault rows (places 1 None d) index
Explains rows text Memory = Unit {0}
