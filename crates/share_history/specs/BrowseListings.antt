-- The values by which a library is browsed: the texts that the matching items have of a property. Each exact text
-- comes once, in the order of the bytes, and no empty one. The listing is always full.
use Rattle.std.specs.Prelude.{ℕ, List, [], ◌∷◌, Bool, true, false, map, fold, filter, Option, Some, None}
use Rattle.std.specs.Ordering.{nat_cmp}
use Rattle.std.specs.Cmp.Lexicographic.{slice_cmp}
use Rattle.std.specs.BTreeSet.{insert_key}
use Rattle.dmap_tags.specs.Codes.{Four, code}
use Rattle.dmap_tags.specs.Tree as tree
use Rattle.dmap_tags.specs.Tree.{Tree, leaf}
use Rattle.item_model.specs.declared.item.PropValue.{PropValue}
use Rattle.item_model.specs.declared.item.PropValue.TheVariants.{Number, Text}
use Rattle.item_model.specs.declared.property.Property.{Property}
use Rattle.item_model.specs.declared.property.Property.TheVariants.{Asar, Asal, Asgn, Ascp}
use Rattle.item_model.specs.declared.query.Query.{Query}
use Rattle.item_model.specs.declared.changes.Edit.{Edit}
use Rattle.item_model.specs.declared.changes.Entry.{Entry}
use Rattle.item_model.specs.declared.request.Browse.{Browse}
use Rattle.item_model.specs.declared.request.Browse.TheVariants.{Artists, Albums, Genres, Composers}
use Rattle.item_model.specs.declared.request.Target.TheVariants.{Items}
use Rattle.item_model.specs.Items.{value_of}
use Rattle.share_history.specs.Histories.{batches, edits, revision}
use Rattle.share_history.specs.Rows.{rows}
use Rattle.share_history.specs.Databases.{whole_body}

abbrev pub browsed : Browse → Property
browsed Artists = Asar
browsed Albums = Asal
browsed Genres = Asgn
browsed Composers = Ascp

abbrev pub browse_code : Browse → Four
browse_code Artists = code "abar"
browse_code Albums = code "abal"
browse_code Genres = code "abgn"
browse_code Composers = code "abcp"

-- the bytes of a text; empty for a number or a missing value
abbrev pub text_in : Option PropValue → List ℕ
text_in None = []
text_in (Some (Number n)) = []
text_in (Some (Text bytes)) = bytes

abbrev pub is_filled : List ℕ → Bool
is_filled [] = false
is_filled (b ∷ bytes) = true

-- texts in the order of their bytes, each once
abbrev pub sorted_texts : List (List ℕ) → List (List ℕ)
sorted_texts texts = fold (insert_key (slice_cmp nat_cmp)) [] texts

abbrev pub browse_values : List Edit → Browse → Option Query → List (List ℕ)
browse_values es browse query = sorted_texts (filter is_filled (map (λ row. text_in (value_of (browsed browse) row.1.item)) (rows es Items query)))

abbrev pub value_tag : List ℕ → Tree
value_tag text = leaf (code "mlit") (tree.Text text)

abbrev pub browse_body : List Entry → Browse → Option Query → Tree
browse_body h browse query =
    whole_body (code "abro") (browse_code browse) (revision (batches h)) (map value_tag (browse_values (edits (batches h)) browse query))
