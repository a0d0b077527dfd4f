-- When a tag fits a table: it and all in it have the kinds that the table gives.
use Rattle.std.specs.Prelude.{◌≡◌, ℕ, List, [], ◌∷◌, Bool, true, false, not, ◌&&◌, Option, Some, None}
use Rattle.dmap_tags.specs.Codes.{Four}
use Rattle.dmap_tags.specs.Kinds.{is_list}
use Rattle.dmap_tags.specs.Tree as tree
use Rattle.dmap_tags.specs.Tree.{Leaf, Tree, leaf, list, Trees, none, more}
use Rattle.dmap_tags.specs.Typed.{leaf_at}
use Rattle.dmap_tags.specs.declared.kinds.Kind.{Kind}
use Rattle.dmap_tags.specs.declared.kinds.Kind.TheVariants as kind
use Rattle.code_table.specs.declared.row.CodeRow.{CodeRow}
use Rattle.code_table.specs.Rows.{kind_in}

abbrev pub is_opaque : Leaf → Bool
is_opaque (tree.Opaque bytes) = true
is_opaque _ = false

-- a value has the kind, and bytes are opaque exactly if they encode no value of it
abbrev pub leaf_fits : Kind → Leaf → Bool
leaf_fits kind.U8 (tree.U8 n) = true
leaf_fits kind.I8 (tree.I8 z) = true
leaf_fits kind.U16 (tree.U16 n) = true
leaf_fits kind.I16 (tree.I16 z) = true
leaf_fits kind.U32 (tree.U32 n) = true
leaf_fits kind.I32 (tree.I32 z) = true
leaf_fits kind.U64 (tree.U64 n) = true
leaf_fits kind.I64 (tree.I64 z) = true
leaf_fits kind.Text (tree.Text bytes) = true
leaf_fits kind.Date (tree.Date n) = true
leaf_fits kind.Version (tree.Version n) = true
leaf_fits k (tree.Opaque bytes) = not (is_list k) && is_opaque (leaf_at k bytes)
leaf_fits k l = false

abbrev mutual
  pub fits : List CodeRow → Option Four → Tree → Bool
  fits rows parent (leaf c l) = leaf_fits (kind_in rows parent c) l
  fits rows parent (list c ts) = is_list (kind_in rows parent c) && all_fit rows c ts

  pub all_fit : List CodeRow → Four → Trees → Bool
  all_fit rows parent none = true
  all_fit rows parent (more t ts) = fits rows (Some parent) t && all_fit rows parent ts
