-- What stands under a text.
use Rattle.std.specs.Prelude.{◌≡◌, ℕ, List, [], Bool, true, not, ◌&&◌, ◌||◌, ◌==◌}
use Rattle.std.specs.Option.{option_map_or}
use Rattle.std.specs.Str.{bytes_eq}
use Rattle.std.specs.BTreeMap.{get_by_text}
use Rattle.share_history.specs.BrowseListings.{is_filled}
use Rattle.prop_index.specs.IdSets.{has}
use Rattle.prop_index.specs.declared.texts.TextIds.{TextIds}

-- the ids under a text, ascending
abbrev pub ids_under : TextIds → List ℕ → List ℕ
ids_under texts text = option_map_or (λ ids. ids.keys) (get_by_text texts.ids text) []

-- whether an id put under one text stands under another
abbrev pub hits : List ℕ → ℕ → List ℕ → ℕ → Bool
hits text id other q = is_filled text && (bytes_eq text other && (q == id))

-- nothing is lost or won under any text
abbrev pub IsSame : TextIds → TextIds → Type 0
IsSame before now = (text : List ℕ) → ids_under now text ≡ ids_under before text

-- the id stands under the text, unless that is empty
abbrev pub Puts : List ℕ → ℕ → TextIds → TextIds → Type 0
Puts text id before now =
    (other : List ℕ) (q : ℕ) → has q (ids_under now other) ≡ (has q (ids_under before other) || hits text id other q)

-- the id does not stand under the text, and nothing else changes
abbrev pub Takes : List ℕ → ℕ → TextIds → TextIds → Type 0
Takes text id before now =
    (other : List ℕ) (q : ℕ) → has q (ids_under now other) ≡ (has q (ids_under before other) && not (bytes_eq text other && (q == id)))

-- the id does not stand under one text, unless that is the other
abbrev pub Settles : (kept gone : List ℕ) → ℕ → TextIds → TextIds → Type 0
Settles kept gone id before now =
    (other : List ℕ) (q : ℕ) → has q (ids_under now other) ≡ (has q (ids_under before other) && (not (bytes_eq gone other && (q == id)) || bytes_eq kept other))

-- no id is lost, and none is won but the one under the text
pub record PutsAtMost (text : List ℕ) (id : ℕ) (before now : TextIds) : Type 0 where
  pub kept : (other : List ℕ) (q : ℕ) → has q (ids_under before other) ≡ true → has q (ids_under now other) ≡ true
  pub only : (other : List ℕ) (q : ℕ) → has q (ids_under now other) ≡ true → (has q (ids_under before other) || hits text id other q) ≡ true
