-- The folded texts that an item stores with its values, and the value of an item that a condition compares.
use Rattle.std.specs.Prelude.{◌≡◌, ℕ, List, [], ◌∷◌, Option, Some, None, ⊤, if◌then◌else◌}
use Rattle.item_model.specs.declared.property.Property.{Property}
use Rattle.item_model.specs.declared.item.PropValue.{PropValue}
use Rattle.item_model.specs.declared.item.PropValue.TheVariants.{Number, Text}
use Rattle.item_model.specs.declared.folds.Sought.{Sought}
use Rattle.item_model.specs.declared.folds.Sought.TheVariants.{Number as SoughtNumber, Text as SoughtText}
use Rattle.item_model.specs.Properties.{is_same}
use Rattle.item_model.specs.Items.{value_of}
use Rattle.item_model.specs.Folding.{folded, IsSearchedFor}

-- the text stored for a property
abbrev pub kept_for : Property → List (Property × List ℕ) → Option (List ℕ)
kept_for p [] = None
kept_for p (f ∷ folds) = if is_same f.0 p then Some f.1 else kept_for p folds

-- the stored text is the text folded; none is stored only if lowering the text's ASCII letters folds it
abbrev pub IsKeptFor : List ℕ → Option (List ℕ) → Type 0
IsKeptFor text None = IsSearchedFor text text
IsKeptFor text (Some fold) = fold ≡ folded text

abbrev pub Serves : Option (List ℕ) → PropValue → Type 0
Serves kept (Number n) = ⊤
Serves kept (Text text) = IsKeptFor text kept

abbrev pub ServesIfAny : Option (List ℕ) → Option PropValue → Type 0
ServesIfAny kept None = ⊤
ServesIfAny kept (Some v) = Serves kept v

-- each value has a stored text that serves it, or needs none; a property without a value has no condition
unfoldable pub AreFolds : List (Property × PropValue) → List (Property × List ℕ) → Type 0
AreFolds entries folds = (p : Property) → ServesIfAny (kept_for p folds) (value_of p entries)

-- what `sought` returns for a value: the number, or a text that may be searched for the property's
abbrev pub IsSought : PropValue → Sought → Type 0
IsSought (Number n) (SoughtNumber m) = m ≡ n
IsSought (Number n) (SoughtText s) = ⊥
IsSought (Text text) (SoughtNumber m) = ⊥
IsSought (Text text) (SoughtText s) = IsSearchedFor text s.now

abbrev pub IsSoughtIfAny : Option PropValue → Option Sought → Type 0
IsSoughtIfAny None None = ⊤
IsSoughtIfAny None (Some s) = ⊥
IsSoughtIfAny (Some v) None = ⊥
IsSoughtIfAny (Some v) (Some s) = IsSought v s
