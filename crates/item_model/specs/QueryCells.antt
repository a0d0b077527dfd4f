-- A query as a list of cells, in which a list is a beginning, the cells of its members and an end. Equality of
-- queries is decided on their cells. Only the form in which queries are stored needs this, no contract cites it.
use Rattle.std.specs.Prelude.{◌≡◌, ℕ, zero, suc, List, [], ◌∷◌, ◌⊎◌, Bool, true, false, refl}
use Rattle.std.proofs.Common.{inl, inr, ap, ◌∙◌}
use Rattle.std.specs.Coded.{Coded, code_by, coded×, coded⊎, coded_ℕ, coded_bool, coded_list}
use base.Stored.{coded_unit}
use Rattle.item_model.specs.QueryTree.{QueryTree, condition, and_of, or_of, QueryTrees, no_queries, more_queries}
use Rattle.item_model.specs.declared.condition.Cond.{Cond}
use Rattle.item_model.specs.declared.condition.Op.{Op}
use Rattle.item_model.specs.declared.condition.Op.TheVariants.{Is, IsNot, Less, More}

-- a condition's name, the number of its operator, and the parts of its pattern
abbrev pub CondParts : Type 0
CondParts = List ℕ × (ℕ × List (List ℕ))

abbrev pub op_number : Op → ℕ
op_number Is = 0
op_number IsNot = 1
op_number Less = 2
op_number More = 3

abbrev pub op_of : ℕ → Op
op_of zero = Is
op_of (suc zero) = IsNot
op_of (suc (suc zero)) = Less
op_of (suc (suc (suc n))) = More

abbrev pub op_again : (op : Op) → op_of (op_number op) ≡ op
op_again Is = refl
op_again IsNot = refl
op_again Less = refl
op_again More = refl

abbrev pub cond_parts : Cond → CondParts
cond_parts c = (c.name, (op_number c.op, c.pattern))

abbrev pub parts_cond : CondParts → Cond
parts_cond p = record { name = p.0; op = op_of p.1.0; pattern = p.1.1 }

abbrev pub cond_again : (c : Cond) → parts_cond (cond_parts c) ≡ c
cond_again c = ap (λ op. record { name = c.name; op = op; pattern = c.pattern }) (op_again c.op)

abbrev pub cond_code : Coded Cond
cond_code =
    code_by CondParts (coded× (coded_list coded_ℕ) (coded× coded_ℕ (coded_list (coded_list coded_ℕ)))) cond_parts parts_cond cond_again

-- a condition, the beginning of a list (true for `and_of`), or the end of one
abbrev pub Cell : Type 0
Cell = Cond ⊎ (Bool ⊎ Unit {0})

abbrev mutual
  pub query_cells : QueryTree → List Cell → List Cell
  query_cells (condition c) rest = inl c ∷ rest
  query_cells (and_of qs) rest = inr (inl true) ∷ queries_cells qs (inr (inr tt) ∷ rest)
  query_cells (or_of qs) rest = inr (inl false) ∷ queries_cells qs (inr (inr tt) ∷ rest)

  pub queries_cells : QueryTrees → List Cell → List Cell
  queries_cells no_queries rest = rest
  queries_cells (more_queries q qs) rest = query_cells q (queries_cells qs rest)

-- the queries before the next end, and those of the lists around it
pub record Read : Type 0 where
  pub here : QueryTrees
  pub around : List QueryTrees

abbrev pub front : QueryTree → Read → Read
front q read = record { here = more_queries q read.here; around = read.around }

abbrev pub fronts : QueryTrees → Read → Read
fronts no_queries read = read
fronts (more_queries q qs) read = front q (fronts qs read)

abbrev pub listed : Bool → QueryTrees → QueryTree
listed true qs = and_of qs
listed false qs = or_of qs

-- the queries up to an end become a list
abbrev pub closed : Bool → QueryTrees → List QueryTrees → Read
closed b qs [] = record { here = more_queries (listed b qs) no_queries; around = [] }
closed b qs (next ∷ around) = record { here = more_queries (listed b qs) next; around = around }

abbrev pub read_cells : List Cell → Read
read_cells [] = record { here = no_queries; around = [] }
read_cells (inl c ∷ rest) = front (condition c) (read_cells rest)
read_cells (inr (inl b) ∷ rest) = closed b (read_cells rest).here (read_cells rest).around
read_cells (inr (inr _) ∷ rest) = record { here = no_queries; around = (read_cells rest).here ∷ (read_cells rest).around }

abbrev pub here_fronts : (qs : QueryTrees) (around : List QueryTrees) → fronts qs (record { here = no_queries; around = around }) ≡ record { here = qs; around = around }
here_fronts no_queries around = refl
here_fronts (more_queries q qs) around = ap (front q) (here_fronts qs around)

mutual
  pub query_again : (q : QueryTree) (rest : List Cell) → read_cells (query_cells q rest) ≡ front q (read_cells rest)
  query_again (condition c) rest = refl
  query_again (and_of qs) rest =
      ap (λ read. closed true read.here read.around)
      (queries_again qs (inr (inr tt) ∷ rest) ∙ here_fronts qs ((read_cells rest).here ∷ (read_cells rest).around))
  query_again (or_of qs) rest =
      ap (λ read. closed false read.here read.around)
      (queries_again qs (inr (inr tt) ∷ rest) ∙ here_fronts qs ((read_cells rest).here ∷ (read_cells rest).around))

  pub queries_again : (qs : QueryTrees) (rest : List Cell) → read_cells (queries_cells qs rest) ≡ fronts qs (read_cells rest)
  queries_again no_queries rest = refl
  queries_again (more_queries q qs) rest =
      query_again q (queries_cells qs rest) ∙ ap (front q) (queries_again qs rest)

abbrev pub first_query : QueryTrees → QueryTree
first_query no_queries = and_of no_queries
first_query (more_queries q qs) = q

pub cells_query : (q : QueryTree) → first_query (read_cells (query_cells q [])).here ≡ q
cells_query q = ap (λ read. first_query read.here) (query_again q [])

abbrev pub query_coded : Coded QueryTree
query_coded =
    code_by (List Cell) (coded_list (coded⊎ cond_code (coded⊎ coded_bool coded_unit)))
    (λ q. query_cells q []) (λ cells. first_query (read_cells cells).here) cells_query
