-- The listings of databases and of containers as DAAP sends them. There is one database, 1. Container 1 comes first
-- and has the share's name; the existing lists follow by ascending id. Both listings are always full.
use Rattle.std.specs.Prelude.{ℕ, ◌+◌, List, [], ◌∷◌, ◌++◌, false, length, map, None}
use Rattle.dmap_tags.specs.Codes.{Four, code}
use Rattle.dmap_tags.specs.Tree.{Tree, leaf, list, trees_of, U8, U32, Text}
use Rattle.item_model.specs.declared.changes.Edit.{Edit}
use Rattle.item_model.specs.declared.changes.Entry.{Entry}
use Rattle.item_model.specs.declared.request.Target.TheVariants.{Container}
use Rattle.share_history.specs.Numbers.{base_list}
use Rattle.share_history.specs.Histories.{batches, edits, revision}
use Rattle.share_history.specs.LastSaid.{Playlist, Plain, Ruled}
use Rattle.share_history.specs.Rows.{rows, library, lists}
use Rattle.share_history.specs.Bodies.{start_tags}

-- a full listing of all its entries
abbrev pub whole_body : Four → Four → ℕ → List Tree → Tree
whole_body body_code list_code revision entries =
    list body_code (trees_of (start_tags false revision (length entries) (length entries) ++ list list_code (trees_of entries) ∷ []))

abbrev pub entry_tag : List Tree → Tree
entry_tag tags = list (code "mlit") (trees_of tags)

-- the database, with the number of its items and of its containers
abbrev pub database_tag : List ℕ → List Edit → Tree
database_tag name es =
    entry_tag
    (leaf (code "miid") (U32 1) ∷ leaf (code "minm") (Text name) ∷ leaf (code "mimc") (U32 (length (library es)))
    ∷ leaf (code "mctc") (U32 (length (lists es) + 1)) ∷ [])

abbrev pub databases_body : List ℕ → List Entry → Tree
databases_body name h = whole_body (code "avdb") (code "mlcl") (revision (batches h)) (database_tag name (edits (batches h)) ∷ [])

-- a container: its id, its name, a tag for its kind and the number of its rows
abbrev pub container_tag : ℕ → List ℕ → List Tree → List Edit → Tree
container_tag id name mark es =
    entry_tag
    (leaf (code "miid") (U32 id) ∷ leaf (code "minm") (Text name)
    ∷ (mark ++ leaf (code "mimc") (U32 (length (rows es (Container id) None))) ∷ []))

abbrev pub list_tag : List Edit → ℕ × Playlist → Tree
list_tag es (id, Plain name) = container_tag id name [] es
list_tag es (id, Ruled name rule) = container_tag id name (leaf (code "aeSP") (U8 1) ∷ []) es

-- all containers, container 1 first
abbrev pub container_tags : List ℕ → List Edit → List Tree
container_tags name es = container_tag base_list name (leaf (code "abpl") (U8 1) ∷ []) es ∷ map (list_tag es) (lists es)

abbrev pub containers_body : List ℕ → List Entry → Tree
containers_body name h = whole_body (code "aply") (code "mlcl") (revision (batches h)) (container_tags name (edits (batches h)))
