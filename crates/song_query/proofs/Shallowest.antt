-- No text that reads as a query has fewer parentheses open at once than the printed one.
use Rattle.std.proofs.Common.{◌≡◌, ◌≤◌, ◌++◌, ℕ, suc, max, List, [], ◌∷◌, arith}
use Rattle.item_model.specs.QueryTree.{QueryTree, condition, and_of, or_of, queries_of}
use Rattle.song_query.specs.Grammar.{UnitForm, cond, group, AndForm, one, more, OrForm, only, either, joined, unit_meaning, units, members}
use Rattle.song_query.proofs.Depths.{unit_depth, and_depth, or_depth, depth, depth_in_and, depth_in_or, units_depth, members_depth}

-- the depth of several units and of several members
units_max : (qs : List QueryTree) (q : QueryTree) → units_depth (queries_of (qs ++ q ∷ [])) ≡ max (units_depth (queries_of qs)) (depth_in_and q)
units_max [] q = omega arith
units_max (r ∷ qs) q = omega (arith, units_max qs q)

members_max : (qs : List QueryTree) (q : QueryTree) → members_depth (queries_of (qs ++ q ∷ [])) ≡ max (members_depth (queries_of qs)) (depth_in_or q)
members_max [] q = omega arith
members_max (r ∷ qs) q = omega (arith, members_max qs q)

unit_le : (q : QueryTree) → depth_in_and q ≤ suc (depth q)
unit_le (condition c) = omega arith
unit_le (and_of qs) = omega arith
unit_le (or_of qs) = omega arith

member_le : (q : QueryTree) → depth_in_or q ≤ depth_in_and q
member_le (condition c) = omega arith
member_le (and_of qs) = omega arith
member_le (or_of qs) = omega arith

whole_le : (q : QueryTree) → depth q ≤ depth_in_or q
whole_le (condition c) = omega arith
whole_le (and_of qs) = omega arith
whole_le (or_of qs) = omega arith

joined_units : (us : List QueryTree) (n : ℕ) → units_depth (queries_of us) ≤ n → depth_in_or (joined and_of us) ≤ n
joined_units [] n h = h
joined_units (q ∷ []) n h = omega (arith, member_le q)
joined_units (q ∷ r ∷ us) n h = h

joined_members : (ms : List QueryTree) (n : ℕ) → members_depth (queries_of ms) ≤ n → depth (joined or_of ms) ≤ n
joined_members [] n h = h
joined_members (q ∷ []) n h = omega (arith, whole_le q)
joined_members (q ∷ r ∷ ms) n h = h

mutual
  unit_shallow : (u : UnitForm) → depth_in_and (unit_meaning u) ≤ unit_depth u
  unit_shallow (cond c) = omega arith
  unit_shallow (group g o k) = omega (arith, unit_le (joined or_of (members o)), joined_members (members o) (or_depth o) (members_shallow o))

  units_shallow : (a : AndForm) → units_depth (queries_of (units a)) ≤ and_depth a
  units_shallow (one u) = omega (arith, unit_shallow u)
  units_shallow (more a b g u) = omega (arith, units_shallow a, unit_shallow u, units_max (units a) (unit_meaning u))

  members_shallow : (o : OrForm) → members_depth (queries_of (members o)) ≤ or_depth o
  members_shallow (only a) = omega (arith, joined_units (units a) (and_depth a) (units_shallow a))
  members_shallow (either o g k a) =
      omega (arith, members_shallow o, joined_units (units a) (and_depth a) (units_shallow a), members_max (members o) (joined and_of (units a)))

-- the form of the printed text is the shallowest
pub form_shallow : (o : OrForm) → depth (joined or_of (members o)) ≤ or_depth o
form_shallow o = joined_members (members o) (or_depth o) (members_shallow o)
