-- The bodies without rows: of `/server-info`, of a login, and of a revision.
use Rattle.std.specs.Prelude.{ℕ, List, [], ◌∷◌}
use Rattle.dmap_tags.specs.Codes.{code}
use Rattle.dmap_tags.specs.Tree.{Tree, leaf, list, trees_of, U8, U32, Version, Text}

-- protocol versions 2.0 and 3.0; a login is required, without a password; updates, index, browse and query are
-- supported
abbrev pub server_info_body : List ℕ → Tree
server_info_body name =
    list (code "msrv")
    (trees_of
    (leaf (code "mstt") (U32 200) ∷ leaf (code "mpro") (Version 131072) ∷ leaf (code "apro") (Version 196608) ∷ leaf (code "minm") (Text name)
    ∷ leaf (code "mslr") (U8 1) ∷ leaf (code "msau") (U8 0) ∷ leaf (code "mstm") (U32 1800) ∷ leaf (code "msup") (U8 1) ∷ leaf (code "msix") (U8 1)
    ∷ leaf (code "msbr") (U8 1) ∷ leaf (code "msqy") (U8 1) ∷ leaf (code "msdc") (U32 1) ∷ []))

abbrev pub login_body : ℕ → Tree
login_body session = list (code "mlog") (trees_of (leaf (code "mstt") (U32 200) ∷ leaf (code "mlid") (U32 session) ∷ []))

abbrev pub revision_body : ℕ → Tree
revision_body revision = list (code "mupd") (trees_of (leaf (code "mstt") (U32 200) ∷ leaf (code "musr") (U32 revision) ∷ []))
