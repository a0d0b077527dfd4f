-- Which texts are read as a tag.
use Rattle.std.specs.Prelude.{◌≡◌, ℕ, List, Some}
use Rattle.serde_json.specs.Read.{read}
use Rattle.dmap_tags.specs.Tree.{Tree}
use Rattle.code_table.specs.declared.row.CodeRow.{CodeRow}
use Rattle.dmap_show.specs.Readable.{IsReadable}
use Rattle.dmap_json.specs.TagObject.{json_of}

-- the JSON value of the text is the tag's, and the tag fits the table at the top and has at most 32 levels
pub record Reads (rows : List CodeRow) (text : List ℕ) (t : Tree) : Type 0 where
  pub value : read text ≡ Some (json_of t)
  pub readable : IsReadable rows t
