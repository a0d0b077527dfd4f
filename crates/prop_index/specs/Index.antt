-- What an index has of a library, and when it stands for one.
use Rattle.std.specs.Prelude.{◌≡◌, ℕ, List, false, Some}
use Rattle.std.specs.Option.{option_map_or}
use Rattle.item_model.specs.declared.item.Row.{Row}
use Rattle.item_model.specs.declared.request.Browse.{Browse}
use Rattle.item_model.specs.declared.request.Browse.TheVariants.{Artists, Albums, Genres, Composers}
use Rattle.share_history.specs.Keyed.{at}
use Rattle.prop_index.specs.declared.texts.TextIds.{TextIds}
use Rattle.prop_index.specs.declared.index.PropIndex.{PropIndex}
use Rattle.prop_index.specs.IdSets.{has}
use Rattle.prop_index.specs.Ids.{ids_under}
use Rattle.prop_index.specs.FormIds.{texts_of}
use Rattle.prop_index.specs.Forms.{Form, finds, HasTexts}

abbrev pub texts_in : PropIndex → Browse → Form → TextIds
texts_in index Artists form = texts_of index.artists form
texts_in index Albums form = texts_of index.albums form
texts_in index Genres form = texts_of index.genres form
texts_in index Composers form = texts_of index.composers form

-- the ids that stand under a text
abbrev pub found : PropIndex → Browse → Form → List ℕ → List ℕ
found index browse form text = ids_under (texts_in index browse form) text

-- an id stands under a text where its item is found by it
pub record StandsFor (rows : List (ℕ × Row)) (index : PropIndex) : Type 0 where
  pub found_by : (browse : Browse) (form : Form) (text : List ℕ) (id : ℕ)
      → has id (found index browse form text) ≡ option_map_or (finds form browse text) (at id rows) false
  pub texts : (id : ℕ) (row : Row) → at id rows ≡ Some row → HasTexts row
