-- The parameters of a request, read as a form (`form_urlencoded`). Of a repeated name the first is used; if it is
-- empty, the parameter is absent.
use Rattle.std.specs.Prelude.{ℕ, List, [], ◌∷◌, find, Option, Some, None, option_map}
use Rattle.std.specs.Str.{bytes_eq}
use Rattle.std.specs.Str.Lossy.{utf8_lossy}
use Rattle.form_urlencoded.specs.Form.{decode, raw_pairs}
use Rattle.item_model.specs.Names.{meta_of}
use Rattle.item_model.specs.declared.request.Meta.{Meta}
use Rattle.item_model.specs.declared.request.Meta.TheVariants.{Default}

-- the text of an encoded name or value
abbrev pub text_of : List ℕ → List ℕ
text_of raw = utf8_lossy (decode raw)

abbrev pub first_named : List ℕ → List (List ℕ × List ℕ) → Option (List ℕ)
first_named name pairs = option_map (λ p. text_of p.1) (find (λ p. bytes_eq (text_of p.0) name) pairs)

abbrev pub unless_empty : Option (List ℕ) → Option (List ℕ)
unless_empty None = None
unless_empty (Some []) = None
unless_empty (Some (b ∷ bs)) = Some (b ∷ bs)

-- the value of the parameter `name` in a query string
unfoldable pub nonempty_value : List ℕ → List ℕ → Option (List ℕ)
nonempty_value name query = unless_empty (first_named name (raw_pairs query))

abbrev pub meta_in : Option (List ℕ) → Option Meta
meta_in None = Some Default
meta_in (Some text) = meta_of text
