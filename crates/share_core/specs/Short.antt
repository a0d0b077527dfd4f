-- How long the entries of a listing of databases, containers or values are, and how many there can be. A list of them
-- can be encoded.
use Rattle.std.specs.Prelude.{◌≤◌, ℕ, List, length}
use Rattle.std.specs.List.{AllByRecursion}
use Rattle.dmap_tags.specs.Tree.{Tree}
use Rattle.dmap_tags.specs.Spelling.{spelling}
use Rattle.item_model.specs.Limits.{text_limit}
use Rattle.item_model.specs.declared.item.Row.{Row}
use Rattle.item_model.specs.declared.request.Browse.{Browse}
use Rattle.prop_index.specs.Forms.{browse_text}

-- Most bytes of an entry.
abbrev pub entry_limit : ℕ
entry_limit = 320

-- Most entries: at most 262,144 edits make values or lists, and container 1 is one more.
abbrev pub entries_limit : ℕ
entries_limit = 262145

abbrev pub IsShort : Tree → Type 0
IsShort tag = length (spelling tag) ≤ entry_limit

abbrev pub AreShort : List Tree → Type 0
AreShort entries = AllByRecursion IsShort entries

-- The texts by which an item is browsed are short.
abbrev pub HasShortTexts : Row → Type 0
HasShortTexts row = (browse : Browse) → length (browse_text browse row) ≤ text_limit
