-- A tag has one encoding: its code, the length of its payload in four bytes, and the payload. A number's payload
-- is its bytes, big-endian; that of a text or an opaque value is its bytes; that of a list is its members' encodings.
use Rattle.std.specs.Prelude.{ℕ, List, [], ◌++◌, length, Bool, true, ◌&&◌, nat_le, Option, Some, None, if◌then◌else◌}
use Rattle.std.specs.Int.{w8, w16, w32, w64, to_be_bytes, cast_unsigned}
use Rattle.dmap_tags.specs.Codes.{Four, code_bytes}
use Rattle.dmap_tags.specs.Tree.{Leaf, U8, I8, U16, I16, U32, I32, U64, I64, Text, Date, Version, Opaque, Tree, leaf, list, Trees, none, more, tree_code}

abbrev pub leaf_payload : Leaf → List ℕ
leaf_payload (U8 n) = to_be_bytes w8 n
leaf_payload (I8 z) = to_be_bytes w8 (cast_unsigned w8 z)
leaf_payload (U16 n) = to_be_bytes w16 n
leaf_payload (I16 z) = to_be_bytes w16 (cast_unsigned w16 z)
leaf_payload (U32 n) = to_be_bytes w32 n
leaf_payload (I32 z) = to_be_bytes w32 (cast_unsigned w32 z)
leaf_payload (U64 n) = to_be_bytes w64 n
leaf_payload (I64 z) = to_be_bytes w64 (cast_unsigned w64 z)
leaf_payload (Text bytes) = bytes
leaf_payload (Date n) = to_be_bytes w32 n
leaf_payload (Version n) = to_be_bytes w32 n
leaf_payload (Opaque bytes) = bytes

-- a code, the length of a payload and the payload
abbrev pub framed : Four → List ℕ → List ℕ
framed c payload = code_bytes c ++ to_be_bytes w32 (length payload) ++ payload

abbrev mutual
  pub payload : Tree → List ℕ
  payload (leaf c l) = leaf_payload l
  payload (list c ts) = spellings ts

  pub spellings : Trees → List ℕ
  spellings none = []
  spellings (more t ts) = framed (tree_code t) (payload t) ++ spellings ts

abbrev pub spelling : Tree → List ℕ
spelling t = framed (tree_code t) (payload t)

-- the greatest length that fits four bytes
abbrev pub longest : ℕ
longest = 4294967295

-- no payload in the tag is too long for its length
abbrev mutual
  pub is_spellable : Tree → Bool
  is_spellable (leaf c l) = nat_le (length (leaf_payload l)) longest
  is_spellable (list c ts) = are_spellable ts && nat_le (length (spellings ts)) longest

  pub are_spellable : Trees → Bool
  are_spellable none = true
  are_spellable (more t ts) = is_spellable t && are_spellable ts

-- the length of the encoding, None if a payload is too long
abbrev pub spelling_length : Tree → Option ℕ
spelling_length t = if is_spellable t then Some (length (spelling t)) else None
