-- The text that a query is printed as: a space between the units of an `And`, a comma between the members of
-- an `Or`, and parentheses only if the grammar needs them.
use Rattle.std.specs.Prelude.{ℕ, List, [], ◌∷◌, ◌++◌, Bool, true, ◌&&◌, ◌||◌, ◌==◌, if◌then◌else◌}
use Rattle.std.specs.Char.{encode_utf8}
use Rattle.item_model.specs.QueryTree.{QueryTree, condition, and_of, or_of, QueryTrees, no_queries, more_queries}
use Rattle.item_model.specs.declared.condition.Cond.{Cond}
use Rattle.song_query.specs.Grammar.{is_mark, print_op}

-- a quote, a backslash or a star is next, or a wildcard or the value's end
abbrev pub is_before_mark : List ℕ → Bool
is_before_mark [] = true
is_before_mark (c ∷ cs) = is_mark c

-- a backslash is doubled only if it would otherwise escape what follows
abbrev pub is_escaped : ℕ → List ℕ → Bool
is_escaped c rest = (c == 39 || c == 42) || (c == 92 && is_before_mark rest)

abbrev pub printed_byte : ℕ → List ℕ → List ℕ
printed_byte c rest = if is_escaped c rest then 92 ∷ c ∷ [] else c ∷ []

-- the same for a character, which may have several bytes
abbrev pub printed_char : ℕ → List ℕ → List ℕ
printed_char c rest = if is_escaped c rest then 92 ∷ encode_utf8 c else encode_utf8 c

abbrev pub printed_piece : List ℕ → List ℕ
printed_piece [] = []
printed_piece (c ∷ cs) = printed_byte c cs ++ printed_piece cs

-- a star between each two parts
abbrev mutual
  pub printed_pieces : List (List ℕ) → List ℕ
  printed_pieces [] = []
  printed_pieces (p ∷ ps) = printed_piece p ++ printed_more ps

  pub printed_more : List (List ℕ) → List ℕ
  printed_more [] = []
  printed_more (p ∷ ps) = 42 ∷ (printed_piece p ++ printed_more ps)

abbrev pub printed_cond : Cond → List ℕ
printed_cond c = 39 ∷ (c.name ++ (print_op c.op ++ (printed_pieces c.pattern ++ 39 ∷ [])))

abbrev mutual
  -- as a whole text
  pub printed : QueryTree → List ℕ
  printed (condition c) = printed_cond c
  printed (and_of qs) = printed_and qs
  printed (or_of qs) = printed_or qs

  -- as a unit of an `And`
  pub printed_unit : QueryTree → List ℕ
  printed_unit (condition c) = printed_cond c
  printed_unit (and_of qs) = 40 ∷ (printed_and qs ++ 41 ∷ [])
  printed_unit (or_of qs) = 40 ∷ (printed_or qs ++ 41 ∷ [])

  -- as a member of an `Or`
  pub printed_member : QueryTree → List ℕ
  printed_member (condition c) = printed_cond c
  printed_member (and_of qs) = printed_and qs
  printed_member (or_of qs) = 40 ∷ (printed_or qs ++ 41 ∷ [])

  pub printed_and : QueryTrees → List ℕ
  printed_and no_queries = []
  printed_and (more_queries q qs) = printed_unit q ++ printed_and_more qs

  pub printed_and_more : QueryTrees → List ℕ
  printed_and_more no_queries = []
  printed_and_more (more_queries q qs) = 32 ∷ (printed_unit q ++ printed_and_more qs)

  pub printed_or : QueryTrees → List ℕ
  printed_or no_queries = []
  printed_or (more_queries q qs) = printed_member q ++ printed_or_more qs

  pub printed_or_more : QueryTrees → List ℕ
  printed_or_more no_queries = []
  printed_or_more (more_queries q qs) = 44 ∷ (printed_member q ++ printed_or_more qs)
