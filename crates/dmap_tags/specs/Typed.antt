-- The value of a payload under a kind: a number if it has exactly the kind's bytes, a text if it is UTF-8, and
-- otherwise opaque bytes.
use Rattle.std.specs.Prelude.{ℕ, List, length, ◌==◌, Option, Some, None, unwrap_or, if◌then◌else◌}
use Rattle.std.specs.Int.{w8, w16, w32, w64, from_be_bytes, cast_signed}
use Rattle.std.specs.Str.{is_utf8}
use Rattle.dmap_tags.specs.Tree as tree
use Rattle.dmap_tags.specs.Tree.{Leaf}
use Rattle.dmap_tags.specs.declared.kinds.Kind.{Kind}
use Rattle.dmap_tags.specs.declared.kinds.Kind.TheVariants as kind
use Rattle.dmap_tags.specs.declared.tree.Value.{Value}
use Rattle.dmap_tags.specs.declared.tree.Value.TheVariants as value

abbrev pub sized : ℕ → List ℕ → Leaf → Option Leaf
sized n payload l = if length payload == n then Some l else None

abbrev pub number_at : Kind → List ℕ → Option Leaf
number_at kind.U8 payload = sized 1 payload (tree.U8 (from_be_bytes w8 payload))
number_at kind.I8 payload = sized 1 payload (tree.I8 (cast_signed w8 (from_be_bytes w8 payload)))
number_at kind.U16 payload = sized 2 payload (tree.U16 (from_be_bytes w16 payload))
number_at kind.I16 payload = sized 2 payload (tree.I16 (cast_signed w16 (from_be_bytes w16 payload)))
number_at kind.U32 payload = sized 4 payload (tree.U32 (from_be_bytes w32 payload))
number_at kind.I32 payload = sized 4 payload (tree.I32 (cast_signed w32 (from_be_bytes w32 payload)))
number_at kind.U64 payload = sized 8 payload (tree.U64 (from_be_bytes w64 payload))
number_at kind.I64 payload = sized 8 payload (tree.I64 (cast_signed w64 (from_be_bytes w64 payload)))
number_at kind.Date payload = sized 4 payload (tree.Date (from_be_bytes w32 payload))
number_at kind.Version payload = sized 4 payload (tree.Version (from_be_bytes w32 payload))
number_at kind.Text payload = None
number_at kind.List payload = None
number_at kind.Opaque payload = None

abbrev pub text_at : Kind → List ℕ → Leaf
text_at kind.Text payload = if is_utf8 payload then tree.Text payload else tree.Opaque payload
text_at _ payload = tree.Opaque payload

abbrev pub leaf_at : Kind → List ℕ → Leaf
leaf_at k payload = unwrap_or (number_at k payload) (text_at k payload)

-- a leaf as a value of the program
abbrev pub value_of : Leaf → Value
value_of (tree.U8 n) = value.U8 n
value_of (tree.I8 z) = value.I8 z
value_of (tree.U16 n) = value.U16 n
value_of (tree.I16 z) = value.I16 z
value_of (tree.U32 n) = value.U32 n
value_of (tree.I32 z) = value.I32 z
value_of (tree.U64 n) = value.U64 n
value_of (tree.I64 z) = value.I64 z
value_of (tree.Text bytes) = value.Text bytes
value_of (tree.Date n) = value.Date n
value_of (tree.Version n) = value.Version n
value_of (tree.Opaque bytes) = value.Opaque bytes
