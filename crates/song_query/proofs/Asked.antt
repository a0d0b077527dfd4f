-- The value that a condition compares serves for the value with its name.
use Rattle.std.proofs.Common.{◌≡◌, ℕ, List, Bool, true, false, cond, codes, Option, Some, None, Bor, unwrap_or, ap, ◌∙◌}
use Rattle.std.specs.Str.{bytes_eq}
use Rattle.item_model.specs.declared.item.PropValue.{PropValue}
use Rattle.item_model.specs.declared.item.PropValue.TheVariants.{Number, Text}
use Rattle.item_model.specs.declared.folds.Sought.{Sought}
use Rattle.item_model.specs.declared.folds.Sought.TheVariants.{Number as SoughtNumber, Text as SoughtText}
use Rattle.item_model.specs.declared.item.Row.{Row}
use Rattle.item_model.specs.Properties.{property_named}
use Rattle.item_model.specs.Folding.{IsSearchedFor}
use Rattle.item_model.specs.Folds.{IsSought, IsSoughtIfAny}
use Rattle.song_query.specs.Holds.{named_value, property_value}

-- the name of the id
pub named_id : (name : List ℕ) (row : Row) → bytes_eq name (codes "dmap.itemid") ≡ true → named_value name row ≡ Number row.id
unfolding named_value
named_id name row e = ap (λ b. cond b (Number row.id) (property_value (property_named name) row.item)) e

-- another name
pub named_other : (name : List ℕ) (row : Row) → bytes_eq name (codes "dmap.itemid") ≡ false → named_value name row ≡ property_value (property_named name) row.item
unfolding named_value
named_other name row e = ap (λ b. cond b (Number row.id) (property_value (property_named name) row.item)) e

-- a number is compared as it is
pub number_met : (f : PropValue → Bool) (v : PropValue) (n : ℕ) (r : Bool) → IsSought v (SoughtNumber n) → r ≡ f (Number n) → r ≡ f v
number_met f (Number m) n r h e = e ∙ ap (λ k. f (Number k)) h
number_met f (Text text) n r h e = absurd h

-- and a text is compared by one that may be searched for it
pub text_met : (f : PropValue → Bool) (v : PropValue) (s : Bor (List ℕ)) (r : Bool) → IsSought v (SoughtText s) → ((text : List ℕ) → IsSearchedFor text s.now → r ≡ f (Text text)) → r ≡ f v
text_met f (Number n) s r h e = absurd h
text_met f (Text text) s r h e = e text h

-- the value of a property that an item has
pub found_sought : (v : Option PropValue) (s : Sought) (other : PropValue) → IsSoughtIfAny v (Some s) → IsSought (unwrap_or v other) s
found_sought None s other h = absurd h
found_sought (Some v) s other h = h

-- and that of a property that it lacks
pub absent_sought : (v : Option PropValue) (s : Sought) (other : PropValue) → IsSoughtIfAny v None → IsSought other s → IsSought (unwrap_or v other) s
absent_sought None s other h k = k
absent_sought (Some v) s other h k = absurd h
