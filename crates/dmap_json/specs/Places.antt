-- The places in a JSON value where objects of tags are expected, and the first of them without one.
use Rattle.std.specs.Prelude.{◌≡◌, ◌≤◌, ◌⊎◌, ◌+◌, ◌*◌, ◌==◌, ℕ, zero, suc, List, [], ◌∷◌, ◌++◌, length, drop, true, Option, Some, codes, if◌then◌else◌}
use Rattle.std.specs.Char.{digit_value}
use Rattle.serde_json.specs.Data.{Data, string, array, object, Items, no_items, item, member, no_members}
use Rattle.dmap_tags.specs.Codes.{Four, code_of}
use Rattle.dmap_tags.specs.Kinds.{is_list}
use Rattle.dmap_tags.specs.Tree.{Leaf, leaf}
use Rattle.code_table.specs.declared.row.CodeRow.{CodeRow}
use Rattle.code_table.specs.Rows.{kind_in}
use Rattle.code_table.specs.Fits.{fits}
use Rattle.dmap_show.specs.Readable.{IsCode, IsTag}
use Rattle.dmap_show.specs.Shown.{shown_code}
use Rattle.dmap_json.specs.TagObject.{tag_object, json_of}

-- the bytes of pairs of hex digits
abbrev pub bytes_from_hex : List ℕ → List ℕ
bytes_from_hex [] = []
bytes_from_hex (high ∷ []) = []
bytes_from_hex (high ∷ low ∷ digits) = (digit_value high * 16 + digit_value low) ∷ bytes_from_hex digits

-- the content code of a text: its four characters, or the hex digits after the first
abbrev pub code_from_text : List ℕ → Four
code_from_text text = if length text == 4 then code_of text else code_of (bytes_from_hex (drop 1 text))

-- a value that has to be a tag's object, its level, from 1 at the top, and the code of the list around it
pub record Place : Type 0 where
  pub level : ℕ
  pub parent : Option Four
  pub value : Data

-- the places in a value at a level: the items of its array, each before its own members. Keys and kind are not
-- checked here, since a value that is not a tag's object is the malformed one itself.
abbrev mutual
  pub below : ℕ → Data → List Place
  below level (object (member k (string code) (member l kind (member m (array ds) no_members)))) = all_below (suc level) (code_from_text code) ds
  below level _ = []

  pub all_below : ℕ → Four → Items → List Place
  all_below level parent no_items = []
  all_below level parent (item d ds) = record { level = level; parent = Some parent; value = d } ∷ (below level d ++ all_below level parent ds)

-- a place and those in it
abbrev pub places : ℕ → Option Four → Data → List Place
places level parent d = record { level = level; parent = parent; value = d } ∷ below level d

-- the value is the object of a tag that is not a list and fits the table there
pub record IsLeafObject (rows : List CodeRow) (parent : Option Four) (d : Data) (code : Four) (held : Leaf) : Type 0 where
  pub tag : IsTag (leaf code held)
  pub fits : fits rows parent (leaf code held) ≡ true
  pub object : d ≡ json_of (leaf code held)

-- the value is the object of a list that fits the table there, whatever its array has
pub record IsListObject (rows : List CodeRow) (parent : Option Four) (d : Data) (code : Four) (members : Items) : Type 0 where
  pub bytes : IsCode code
  pub fits : is_list (kind_in rows parent code) ≡ true
  pub object : d ≡ tag_object (shown_code code) (codes "list") (array members)

abbrev pub HasObject : List CodeRow → Option Four → Data → Type 0
HasObject rows parent d = ((c : Four) × (l : Leaf) × IsLeafObject rows parent d c l) ⊎ ((c : Four) × (ds : Items) × IsListObject rows parent d c ds)

-- a place at level 32 or above whose value is a tag's object, its members aside
pub record IsTagObject (rows : List CodeRow) (p : Place) : Type 0 where
  pub shallow : p.level ≤ 32
  pub object : HasObject rows p.parent p.value

-- the place with this index, from 0, has no tag's object, and those before it have one
abbrev pub IsFirstFault : List CodeRow → List Place → ℕ → Type 0
IsFirstFault rows [] i = ⊥
IsFirstFault rows (p ∷ ps) zero = IsTagObject rows p → ⊥
IsFirstFault rows (p ∷ ps) (suc i) = IsTagObject rows p × IsFirstFault rows ps i
