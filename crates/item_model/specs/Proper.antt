-- Proper queries: those that some text of the query grammar reads as. Each name has one or more of its
-- characters, each list two or more members, and each pattern at least one part.
use Rattle.std.specs.Prelude.{◌≡◌, ℕ, List, [], ◌∷◌, Bool, true, false, ◌&&◌, ◌||◌, ◌==◌}
use Rattle.std.specs.Char.{is_ascii_alphanumeric}
use Rattle.item_model.specs.QueryTree.{QueryTree, condition, and_of, or_of, QueryTrees, no_queries, more_queries}
use Rattle.item_model.specs.QuerySeen.{tree_of}
use Rattle.item_model.specs.declared.query.Query.{Query}

-- a letter, a digit, a dot, an underscore or a hyphen
abbrev pub is_name_byte : ℕ → Bool
is_name_byte c = is_ascii_alphanumeric c || (c == 46 || (c == 95 || c == 45))

abbrev pub are_name_bytes : List ℕ → Bool
are_name_bytes [] = true
are_name_bytes (c ∷ cs) = is_name_byte c && are_name_bytes cs

abbrev pub has_one : {A : Type 0} → List A → Bool
has_one [] = false
has_one (x ∷ xs) = true

abbrev pub have_two : QueryTrees → Bool
have_two no_queries = false
have_two (more_queries q no_queries) = false
have_two (more_queries q (more_queries r qs)) = true

abbrev mutual
  pub is_proper : QueryTree → Bool
  is_proper (condition c) = (has_one c.name && are_name_bytes c.name) && has_one c.pattern
  is_proper (and_of qs) = have_two qs && are_proper qs
  is_proper (or_of qs) = have_two qs && are_proper qs

  pub are_proper : QueryTrees → Bool
  are_proper no_queries = true
  are_proper (more_queries q qs) = is_proper q && are_proper qs

abbrev pub IsProper : Query → Type 0
IsProper query = is_proper (tree_of query) ≡ true
