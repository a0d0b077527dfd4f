-- The tag of a list in the listing of containers, from its head.
use Rattle.std.specs.Prelude.{ℕ, List, [], ◌∷◌, ◌++◌, Option, None, length, option_map, option_to_list}
use Rattle.dmap_tags.specs.Codes.{code}
use Rattle.dmap_tags.specs.Tree.{Tree, leaf, U8, U32, Text}
use Rattle.item_model.specs.declared.changes.Edit.{Edit}
use Rattle.item_model.specs.declared.request.Target.TheVariants.{Container}
use Rattle.share_history.specs.Databases.{entry_tag, list_tag}
use Rattle.share_history.specs.LastSaid.{list_at}
use Rattle.playlist_store.specs.declared.head.ListHead.{ListHead}

-- The tag of list `id` with `count` rows. A list with a rule has the tag `aeSP`.
abbrev pub entry_with : ℕ → ListHead → ℕ → Tree
entry_with id head count =
    entry_tag
    (leaf (code "miid") (U32 id) ∷ leaf (code "minm") (Text head.name)
    ∷ (option_to_list (option_map (λ _. leaf (code "aeSP") (U8 1)) head.rule) ++ leaf (code "mimc") (U32 count) ∷ []))

-- The tag of list `id`, if the list exists.
abbrev pub entry_at : List Edit → ℕ → Option Tree
entry_at es id = option_map (λ list. list_tag es (id, list)) (list_at es id)
