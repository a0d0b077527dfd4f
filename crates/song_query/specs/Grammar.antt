-- The grammar of queries. A form has gaps, escapes and wildcards; its printer gives the text, and its meaning is a
-- query:
--
--   query = gap or gap                    or   = and { gap "," gap and }
--   and   = unit { blanks unit }          unit = condition | "(" gap or gap ")"
--   condition = "'" name op value "'"
--   op    = ":" | "!:" | "<:" | ">:"
--
-- A gap is any number of blanks, and a blank is a space or a plus.
use Rattle.std.specs.Prelude.{ℕ, List, [], ◌∷◌, ◌++◌, map, Bool, true, not, ◌&&◌, ◌||◌, ◌==◌}
use Rattle.item_model.specs.Proper.{is_name_byte, are_name_bytes}
use Rattle.item_model.specs.QueryTree.{QueryTree, condition, and_of, or_of, QueryTrees, no_queries, queries_of}
use Rattle.item_model.specs.declared.condition.Cond.{Cond}
use Rattle.item_model.specs.declared.condition.Op.{Op}
use Rattle.item_model.specs.declared.condition.Op.TheVariants.{Is, IsNot, Less, More}

pub data Blank : Type 0 where
  space : Blank
  plus : Blank

abbrev pub blank : Blank → ℕ
blank space = 32
blank plus = 43

abbrev pub blanks : List Blank → List ℕ
blanks g = map blank g

-- the characters that a backslash escapes
pub data Mark : Type 0 where
  quote : Mark
  backslash : Mark
  star : Mark

abbrev pub mark : Mark → ℕ
mark quote = 39
mark backslash = 92
mark star = 42

abbrev pub is_mark : ℕ → Bool
is_mark c = c == 39 || (c == 92 || c == 42)

-- one element of a value: a byte, an escape, or a backslash that is literal, with the byte after it
pub data Atom : Type 0 where
  plain : ℕ → Atom
  escaped : Mark → Atom
  lone : ℕ → Atom

abbrev pub print_atom : Atom → List ℕ
print_atom (plain c) = c ∷ []
print_atom (escaped m) = 92 ∷ mark m ∷ []
print_atom (lone c) = 92 ∷ c ∷ []

abbrev pub atom_meaning : Atom → List ℕ
atom_meaning (plain c) = c ∷ []
atom_meaning (escaped m) = mark m ∷ []
atom_meaning (lone c) = 92 ∷ c ∷ []

abbrev pub is_atom : Atom → Bool
is_atom (plain c) = not (is_mark c)
is_atom (escaped m) = true
is_atom (lone c) = not (is_mark c)

abbrev pub print_atoms : List Atom → List ℕ
print_atoms [] = []
print_atoms (a ∷ as_) = print_atom a ++ print_atoms as_

abbrev pub piece_of : List Atom → List ℕ
piece_of [] = []
piece_of (a ∷ as_) = atom_meaning a ++ piece_of as_

abbrev pub are_atoms : List Atom → Bool
are_atoms [] = true
are_atoms (a ∷ as_) = is_atom a && are_atoms as_

-- parts, each followed by a star
abbrev pub print_starred : List (List Atom) → List ℕ
print_starred [] = []
print_starred (p ∷ ps) = print_atoms p ++ 42 ∷ print_starred ps

abbrev pub are_pieces : List (List Atom) → Bool
are_pieces [] = true
are_pieces (p ∷ ps) = are_atoms p && are_pieces ps

-- a value is parts with a star between each two
pub record Value : Type 0 where
  pub starred : List (List Atom)
  pub last : List Atom

abbrev pub print_value : Value → List ℕ
print_value v = print_starred v.starred ++ print_atoms v.last

abbrev pub value_pieces : Value → List (List ℕ)
value_pieces v = map piece_of v.starred ++ piece_of v.last ∷ []

abbrev pub is_value : Value → Bool
is_value v = are_pieces v.starred && are_atoms v.last

abbrev pub print_op : Op → List ℕ
print_op Is = 58 ∷ []
print_op IsNot = 33 ∷ 58 ∷ []
print_op Less = 60 ∷ 58 ∷ []
print_op More = 62 ∷ 58 ∷ []

-- a condition, with the first byte of its name and the others
pub record CondForm : Type 0 where
  pub first : ℕ
  pub rest : List ℕ
  pub op : Op
  pub value : Value

abbrev pub print_cond : CondForm → List ℕ
print_cond c = 39 ∷ c.first ∷ (c.rest ++ (print_op c.op ++ (print_value c.value ++ 39 ∷ [])))

abbrev pub cond_meaning : CondForm → Cond
cond_meaning c = record { name = c.first ∷ c.rest; op = c.op; pattern = value_pieces c.value }

abbrev pub is_cond : CondForm → Bool
is_cond c = is_name_byte c.first && (are_name_bytes c.rest && is_value c.value)

mutual
  pub data UnitForm : Type 0 where
    cond : CondForm → UnitForm
    group : List Blank → OrForm → List Blank → UnitForm

  -- further units follow a blank and more blanks
  pub data AndForm : Type 0 where
    one : UnitForm → AndForm
    more : AndForm → Blank → List Blank → UnitForm → AndForm

  -- further members follow a comma with blanks around it
  pub data OrForm : Type 0 where
    only : AndForm → OrForm
    either : OrForm → List Blank → List Blank → AndForm → OrForm

abbrev mutual
  pub print_unit : UnitForm → List ℕ
  print_unit (cond c) = print_cond c
  print_unit (group g o h) = 40 ∷ (blanks g ++ (print_or o ++ (blanks h ++ 41 ∷ [])))

  pub print_and : AndForm → List ℕ
  print_and (one u) = print_unit u
  print_and (more a b g u) = print_and a ++ blank b ∷ (blanks g ++ print_unit u)

  pub print_or : OrForm → List ℕ
  print_or (only a) = print_and a
  print_or (either o g h a) = print_or o ++ (blanks g ++ 44 ∷ (blanks h ++ print_and a))

-- one query is itself, several are the members of a list
abbrev pub joined : (QueryTrees → QueryTree) → List QueryTree → QueryTree
joined list [] = list no_queries
joined list (q ∷ []) = q
joined list (q ∷ r ∷ qs) = list (queries_of (q ∷ r ∷ qs))

abbrev mutual
  pub unit_meaning : UnitForm → QueryTree
  unit_meaning (cond c) = condition (cond_meaning c)
  unit_meaning (group g o h) = joined or_of (members o)

  pub units : AndForm → List QueryTree
  units (one u) = unit_meaning u ∷ []
  units (more a b g u) = units a ++ unit_meaning u ∷ []

  pub members : OrForm → List QueryTree
  members (only a) = joined and_of (units a) ∷ []
  members (either o g h a) = members o ++ joined and_of (units a) ∷ []

abbrev mutual
  pub is_unit : UnitForm → Bool
  is_unit (cond c) = is_cond c
  is_unit (group g o h) = is_or o

  pub is_and : AndForm → Bool
  is_and (one u) = is_unit u
  is_and (more a b g u) = is_and a && is_unit u

  pub is_or : OrForm → Bool
  is_or (only a) = is_and a
  is_or (either o g h a) = is_or o && is_and a

pub record QueryForm : Type 0 where
  pub front : List Blank
  pub body : OrForm
  pub back : List Blank

abbrev pub print_query : QueryForm → List ℕ
print_query f = blanks f.front ++ (print_or f.body ++ blanks f.back)
