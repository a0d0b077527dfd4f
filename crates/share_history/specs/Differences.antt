-- The difference of two ascending lists of keyed tags.
use Rattle.std.specs.Prelude.{ℕ, List, Bool, false, not, filter, is_none}
use Rattle.std.specs.Option.{option_map_or}
use Rattle.std.specs.Map.{keys_of}
use Rattle.dmap_tags.specs.Tree.{Tree}
use Rattle.dmap_tags.specs.SameTags.{is_same_tag}
use Rattle.share_history.specs.Keyed.{at}

-- whether `tags` has an equal tag under the same key
abbrev pub has_tag : List (ℕ × Tree) → ℕ × Tree → Bool
has_tag tags tag = option_map_or (λ old. is_same_tag old tag.1) (at tag.0 tags) false

-- the tags of `now` that are new or differ from the one under their key before
abbrev pub new_tags : List (ℕ × Tree) → List (ℕ × Tree) → List (ℕ × Tree)
new_tags before now = filter (λ tag. not (has_tag before tag)) now

-- the keys with a tag before and none in `now`
abbrev pub gone_keys : List (ℕ × Tree) → List (ℕ × Tree) → List ℕ
gone_keys before now = filter (λ key. is_none (at key now)) (keys_of before)
