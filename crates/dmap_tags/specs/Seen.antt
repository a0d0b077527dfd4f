-- The tree that represents a tag of the program.
use Rattle.dmap_tags.specs.Codes.{Four}
use Rattle.dmap_tags.specs.Tree as tree
use Rattle.dmap_tags.specs.Tree.{Tree, trees_of, size_of, sizes_of}
use Rattle.dmap_tags.specs.declared.tree.Value.{Value}
use Rattle.dmap_tags.specs.declared.tree.Value.TheVariants.{U8, I8, U16, I16, U32, I32, U64, I64, Text, Date, Version, List as Members, Opaque}

abbrev pub tree_with : Four → Value → Tree
tree_with c (U8 n) = tree.leaf c (tree.U8 n)
tree_with c (I8 z) = tree.leaf c (tree.I8 z)
tree_with c (U16 n) = tree.leaf c (tree.U16 n)
tree_with c (I16 z) = tree.leaf c (tree.I16 z)
tree_with c (U32 n) = tree.leaf c (tree.U32 n)
tree_with c (I32 z) = tree.leaf c (tree.I32 z)
tree_with c (U64 n) = tree.leaf c (tree.U64 n)
tree_with c (I64 z) = tree.leaf c (tree.I64 z)
tree_with c (Text bytes) = tree.leaf c (tree.Text bytes)
tree_with c (Date n) = tree.leaf c (tree.Date n)
tree_with c (Version n) = tree.leaf c (tree.Version n)
tree_with c (Members ts) = tree.list c (trees_of ts)
tree_with c (Opaque bytes) = tree.leaf c (tree.Opaque bytes)
