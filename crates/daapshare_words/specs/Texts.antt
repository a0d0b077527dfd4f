-- Names and addresses among the arguments. A name has at most 255 bytes, an address 1 to 255, each from 21 to 7e hex.
use Rattle.std.specs.Prelude.{◌&&◌, Bool, Option, Some, None, if◌then◌else◌, codes, length, nat_le}
use Rattle.std.specs.Char.{is_ascii_graphic}
use Rattle.std.specs.List.{list_all}
use Rattle.clap.specs.Words.{Text}

abbrev pub is_name : Text → Bool
is_name word = nat_le (length word) 255

abbrev pub is_place : Text → Bool
is_place word = nat_le 1 (length word) && (nat_le (length word) 255 && list_all is_ascii_graphic word)

-- the name of a share: `daapshare` if it is not given
abbrev pub name_of : Option Text → Option Text
name_of None = Some (codes "daapshare")
name_of (Some word) = if is_name word then Some word else None

abbrev pub place_of : Option Text → Option Text
place_of None = None
place_of (Some word) = if is_place word then Some word else None
