-- A text has one result: the query that it reads as within the limits, which is proper.
use Rattle.std.proofs.Common.{◌≡◌, ◌≢◌, ◌+◌, ◌++◌, ◌&&◌, ℕ, true, List, [], ◌∷◌, map, length, Result, Ok, Err, refl, sym, subst, arith, IfOk}
use Rattle.std.proofs.lemmas.Bool.{and_parts, and_from}
use Rattle.item_model.specs.Proper.{is_name_byte, are_name_bytes, has_one, is_proper, are_proper}
use Rattle.item_model.specs.QueryTree.{QueryTree, condition, and_of, or_of, queries_of}
use Rattle.item_model.specs.QuerySeen.{tree_of}
use Rattle.item_model.specs.declared.query.Query.{Query}
use Rattle.item_model.specs.declared.refusal.QueryError.{QueryError}
use Rattle.item_model.specs.declared.refusal.QueryError.TheVariants.{TooLong, TooDeep, At, Memory}
use Rattle.item_model.specs.declared.refusal.QueryWhy.TheVariants.{End, Byte}
use Rattle.song_query.specs.Grammar.{Atom, piece_of, is_value, CondForm, cond_meaning, is_cond, UnitForm, cond, group, AndForm, one, more, OrForm, only, either, joined, unit_meaning, units, members, is_unit, is_and, is_or}
use Rattle.song_query.specs.Reading.{QueryReads}
use Rattle.song_query.specs.Answers.{Answers, IsComplete}
use Rattle.song_query.proofs.MachineLaws.{one_reading}
use Rattle.song_query.proofs.Least.{some_units, some_members}
use Rattle.song_query.proofs.Once.{whole_begins}

some_pieces : (starred : List (List Atom)) (last : List ℕ) → has_one (map piece_of starred ++ last ∷ []) ≡ true
some_pieces [] last = refl
some_pieces (p ∷ starred) last = refl

cond_proper : (c : CondForm) → is_cond c ≡ true → is_proper (condition (cond_meaning c)) ≡ true
cond_proper c h =
    let parts = and_parts (is_name_byte c.first) (are_name_bytes c.rest && is_value c.value) h in
    let more_ = and_parts (are_name_bytes c.rest) (is_value c.value) parts.1 in
    and_from _ _ (and_from _ _ parts.0 more_.0) (some_pieces c.value.starred (piece_of c.value.last))

proper_append : (qs : List QueryTree) (q : QueryTree) → are_proper (queries_of qs) ≡ true → is_proper q ≡ true → are_proper (queries_of (qs ++ q ∷ [])) ≡ true
proper_append [] q h k = and_from _ _ k refl
proper_append (r ∷ qs) q h k =
    let parts = and_parts (is_proper r) (are_proper (queries_of qs)) h in
    and_from _ _ parts.0 (proper_append qs q parts.1 k)

joined_and : (us : List QueryTree) → length us ≢ 0 → are_proper (queries_of us) ≡ true → is_proper (joined and_of us) ≡ true
joined_and [] h k = absurd (h refl)
joined_and (q ∷ []) h k = (and_parts (is_proper q) true k).0
joined_and (q ∷ r ∷ us) h k = k

joined_or : (ms : List QueryTree) → length ms ≢ 0 → are_proper (queries_of ms) ≡ true → is_proper (joined or_of ms) ≡ true
joined_or [] h k = absurd (h refl)
joined_or (q ∷ []) h k = (and_parts (is_proper q) true k).0
joined_or (q ∷ r ∷ ms) h k = k

mutual
  unit_proper : (u : UnitForm) → is_unit u ≡ true → is_proper (unit_meaning u) ≡ true
  unit_proper (cond c) h = cond_proper c h
  unit_proper (group g o k) h = joined_or (members o) (some_members o) (members_proper o h)

  units_proper : (a : AndForm) → is_and a ≡ true → are_proper (queries_of (units a)) ≡ true
  units_proper (one u) h = and_from _ _ (unit_proper u h) refl
  units_proper (more a b g u) h =
      let parts = and_parts (is_and a) (is_unit u) h in
      proper_append (units a) (unit_meaning u) (units_proper a parts.0) (unit_proper u parts.1)

  members_proper : (o : OrForm) → is_or o ≡ true → are_proper (queries_of (members o)) ≡ true
  members_proper (only a) h = and_from _ _ (joined_and (units a) (some_units a) (units_proper a h)) refl
  members_proper (either o g k a) h =
      let parts = and_parts (is_or o) (is_and a) h in
      proper_append (members o) (joined and_of (units a)) (members_proper o parts.0) (joined_and (units a) (some_units a) (units_proper a parts.1))

-- a query that a text reads as is proper
pub reads_proper : (text : List ℕ) (q : QueryTree) → QueryReads text q → is_proper q ≡ true
reads_proper text q r =
    subst (λ x. is_proper x ≡ true) (sym r.means) (joined_or (members r.form.body) (some_members r.form.body) (members_proper r.form.body r.valid))

-- if a text reads as a query within the limits, the result is that query
pub answers_complete : (text : List ℕ) (r : Result Query QueryError) → Answers text r → IsComplete text r
answers_complete text (Ok q) a query reads l s = one_reading text (tree_of q) query a.1 reads
answers_complete text (Err TooLong) a query reads l s = absurd (omega (arith, a))
answers_complete text (Err (TooDeep place)) a query reads l s =
    let d = a.1 in
    let inside = d.within in
    absurd (omega (arith, s (place + 1) (omega arith), d.deep))
answers_complete text (Err (At place End)) a query reads l s = a.2.1 query reads
answers_complete text (Err (At place Byte)) a query reads l s =
    let stuck = a.1 in
    let long = stuck.longest (length text) (omega arith) (whole_begins text query reads) in
    let inside = stuck.within in
    let last : place ≡ length text = omega arith in
    a.2 last
answers_complete text (Err Memory) a query reads l s = tt

-- a query that is returned is proper
pub answers_proper : (text : List ℕ) (r : Result Query QueryError) → Answers text r → IfOk r (λ q. is_proper (tree_of q) ≡ true)
answers_proper text (Ok q) a = reads_proper text (tree_of q) a.1
answers_proper text (Err e) a = tt
