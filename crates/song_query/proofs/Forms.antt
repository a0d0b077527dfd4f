-- The form of the printed text: each proper query has one whose text is the printed one.
use Rattle.std.proofs.Common.{◌≡◌, ◌++◌, ◌&&◌, ◌||◌, ◌==◌, ℕ, suc, max, Bool, true, false, not, List, [], ◌∷◌, refl, ap, sym, ◌∙◌, subst, inl, inr, eqb, append_assoc, append-nil, arith}
use Rattle.std.proofs.lemmas.Bool.{and_parts, and_from, or_from, cond-true, cond-false, eqb-true, false≢true, cases_Bool}
use Rattle.item_model.specs.Proper.{is_name_byte, are_name_bytes, has_one, have_two, is_proper, are_proper}
use Rattle.item_model.specs.QueryTree.{QueryTree, condition, and_of, or_of, QueryTrees, no_queries, more_queries, queries_of, query_list}
use Rattle.item_model.specs.declared.condition.Cond.{Cond}
use Rattle.song_query.specs.Grammar.{space, quote, backslash, star, is_mark, Atom, plain, escaped, lone, print_atoms, piece_of, are_atoms, print_starred, are_pieces, Value, print_value, value_pieces, is_value, print_op, CondForm, print_cond, cond_meaning, is_cond, UnitForm, cond, group, AndForm, one, more, OrForm, only, either, print_unit, print_and, print_or, joined, unit_meaning, units, members, is_unit, is_and, is_or}
use Rattle.song_query.specs.Printing.{is_before_mark, printed_byte, printed_piece, printed_pieces, printed_cond, printed, printed_unit, printed_member, printed_and, printed_and_more, printed_or, printed_or_more}
use Rattle.song_query.specs.Reading.{QueryReads}
use Rattle.song_query.proofs.Depths.{unit_depth, and_depth, or_depth, depth, depth_in_and, depth_in_or, units_depth, members_depth}

-- the characters that are escaped, and the other bytes
pub data Sort (c : ℕ) : Type 0 where
  is_quote : c ≡ 39 → Sort c
  is_backslash : c ≡ 92 → Sort c
  is_star : c ≡ 42 → Sort c
  is_plain : is_mark c ≡ false → Sort c

sort_by : (c : ℕ) (x y z : Bool) → eqb c 39 ≡ x → eqb c 92 ≡ y → eqb c 42 ≡ z → Sort c
sort_by c true y z p q r = is_quote (eqb-true c 39 p)
sort_by c false true z p q r = is_backslash (eqb-true c 92 q)
sort_by c false false true p q r = is_star (eqb-true c 42 r)
sort_by c false false false p q r = is_plain (or_from _ _ p (or_from _ _ q r))

pub sort : (c : ℕ) → Sort c
sort c = sort_by c (eqb c 39) (eqb c 92) (eqb c 42) refl refl refl

plain_by : (x y z b : Bool) → (x || (y || z)) ≡ false → ((x || z) || (y && b)) ≡ false
plain_by true y z b h = absurd (false≢true (sym h))
plain_by false true z b h = absurd (false≢true (sym h))
plain_by false false true b h = absurd (false≢true (sym h))
plain_by false false false b h = refl

-- a byte that is not escaped is printed as it is
pub plain_printed : (c : ℕ) (rest : List ℕ) → is_mark c ≡ false → printed_byte c rest ≡ c ∷ []
plain_printed c rest h = cond-false _ _ _ (plain_by (c == 39) (c == 92) (c == 42) (is_before_mark rest) h)

-- atoms whose text is the printed part
record PieceFor (p : List ℕ) : Type 0 where
  pub atoms : List Atom
  pub valid : are_atoms atoms ≡ true
  pub spelled : print_atoms atoms ≡ printed_piece p
  pub means : piece_of atoms ≡ p

with_quote : (c : ℕ) (cs : List ℕ) → c ≡ 39 → PieceFor cs → PieceFor (c ∷ cs)
with_quote c cs e f =
    subst (λ x. PieceFor (x ∷ cs)) (sym e)
    (record { atoms = escaped quote ∷ f.atoms; valid = f.valid; spelled = ap (λ s. 92 ∷ 39 ∷ s) f.spelled; means = ap (λ s. 39 ∷ s) f.means })

with_star : (c : ℕ) (cs : List ℕ) → c ≡ 42 → PieceFor cs → PieceFor (c ∷ cs)
with_star c cs e f =
    subst (λ x. PieceFor (x ∷ cs)) (sym e)
    (record { atoms = escaped star ∷ f.atoms; valid = f.valid; spelled = ap (λ s. 92 ∷ 42 ∷ s) f.spelled; means = ap (λ s. 42 ∷ s) f.means })

with_plain : (c : ℕ) (cs : List ℕ) → is_mark c ≡ false → PieceFor cs → PieceFor (c ∷ cs)
with_plain c cs h f = record {
  atoms = plain c ∷ f.atoms;
  valid = and_from _ _ (ap not h) f.valid;
  spelled = ap (λ s. c ∷ s) f.spelled ∙ ap (λ s. s ++ printed_piece cs) (sym (plain_printed c cs h));
  means = ap (λ s. c ∷ s) f.means;
}

with_backslash : (c : ℕ) (cs : List ℕ) → c ≡ 92 → is_before_mark cs ≡ true → PieceFor cs → PieceFor (c ∷ cs)
with_backslash c cs e h f =
    subst (λ x. PieceFor (x ∷ cs)) (sym e)
    (record {
      atoms = escaped backslash ∷ f.atoms;
      valid = f.valid;
      spelled = ap (λ s. 92 ∷ 92 ∷ s) f.spelled ∙ ap (λ s. s ++ printed_piece cs) (sym (cond-true _ (92 ∷ 92 ∷ []) (92 ∷ []) h));
      means = ap (λ s. 92 ∷ s) f.means;
    })

with_lone : (c d : ℕ) (ds : List ℕ) → c ≡ 92 → is_mark d ≡ false → PieceFor ds → PieceFor (c ∷ d ∷ ds)
with_lone c d ds e h f =
    subst (λ x. PieceFor (x ∷ d ∷ ds)) (sym e)
    (record {
      atoms = lone d ∷ f.atoms;
      valid = and_from _ _ (ap not h) f.valid;
      spelled =
          ap (λ s. 92 ∷ d ∷ s) f.spelled ∙ ap (λ s. 92 ∷ (s ++ printed_piece ds)) (sym (plain_printed d ds h))
          ∙ ap (λ s. s ++ printed_piece (d ∷ ds)) (sym (cond-false _ (92 ∷ 92 ∷ []) (92 ∷ []) h));
      means = ap (λ s. 92 ∷ d ∷ s) f.means;
    })

last_for : (c : ℕ) → Sort c → PieceFor [] → PieceFor (c ∷ [])
last_for c (is_quote e) f = with_quote c [] e f
last_for c (is_star e) f = with_star c [] e f
last_for c (is_plain e) f = with_plain c [] e f
last_for c (is_backslash e) f = with_backslash c [] e refl f

more_for : (c d : ℕ) (ds : List ℕ) → Sort c → PieceFor (d ∷ ds) → PieceFor ds → PieceFor (c ∷ d ∷ ds)
more_for c d ds (is_quote e) f g = with_quote c (d ∷ ds) e f
more_for c d ds (is_star e) f g = with_star c (d ∷ ds) e f
more_for c d ds (is_plain e) f g = with_plain c (d ∷ ds) e f
more_for c d ds (is_backslash e) f g =
    elim (cases_Bool (is_mark d)) [ inl h ↦ with_backslash c (d ∷ ds) e h f | inr h ↦ with_lone c d ds e h g ]

no_piece : PieceFor []
no_piece = record { atoms = []; valid = refl; spelled = refl; means = refl }

piece_for : (p : List ℕ) → PieceFor p
piece_for [] = no_piece
piece_for (c ∷ []) = last_for c (sort c) no_piece
piece_for (c ∷ d ∷ ds) = more_for c d ds (sort c) (piece_for (d ∷ ds)) (piece_for ds)

-- a value whose text is the printed parts
record ValueFor (ps : List (List ℕ)) : Type 0 where
  pub value : Value
  pub valid : is_value value ≡ true
  pub spelled : print_value value ≡ printed_pieces ps
  pub means : value_pieces value ≡ ps

value_for : (p : List ℕ) (ps : List (List ℕ)) → ValueFor (p ∷ ps)
value_for p [] =
    let f = piece_for p in
    record {
      value = record { starred = []; last = f.atoms };
      valid = f.valid;
      spelled = f.spelled ∙ sym (append-nil (printed_piece p));
      means = ap (λ x. x ∷ []) f.means;
    }
value_for p (q ∷ ps) =
    let f = piece_for p in
    let v = value_for q ps in
    let parts = and_parts (are_pieces v.value.starred) (are_atoms v.value.last) v.valid in
    record {
      value = record { starred = f.atoms ∷ v.value.starred; last = v.value.last };
      valid = and_from _ _ (and_from _ _ f.valid parts.0) parts.1;
      spelled =
          append_assoc (print_atoms f.atoms) (42 ∷ print_starred v.value.starred) (print_atoms v.value.last)
          ∙ ap (λ s. s ++ 42 ∷ (print_starred v.value.starred ++ print_atoms v.value.last)) f.spelled
          ∙ ap (λ s. printed_piece p ++ 42 ∷ s) v.spelled;
      means = ap (λ s. s ∷ value_pieces v.value) f.means ∙ ap (λ s. p ∷ s) v.means;
    }

record CondFor (c : Cond) : Type 0 where
  pub form : CondForm
  pub valid : is_cond form ≡ true
  pub spelled : print_cond form ≡ printed_cond c
  pub means : cond_meaning form ≡ c

cond_by : (name : List ℕ) (pieces : List (List ℕ)) (c : Cond) → c.name ≡ name → c.pattern ≡ pieces → (has_one name && are_name_bytes name) ≡ true → has_one pieces ≡ true → CondFor c
cond_by [] pieces c n p h k = absurd (false≢true h)
cond_by (d ∷ ds) [] c n p h k = absurd (false≢true k)
cond_by (d ∷ ds) (q ∷ qs) c n p h k =
    let v = value_for q qs in
    let parts = and_parts (is_name_byte d) (are_name_bytes ds) h in
    record {
      form = record { first = d; rest = ds; op = c.op; value = v.value };
      valid = and_from _ _ parts.0 (and_from _ _ parts.1 v.valid);
      spelled =
          ap (λ s. 39 ∷ d ∷ (ds ++ (print_op c.op ++ (s ++ 39 ∷ [])))) (v.spelled ∙ ap printed_pieces (sym p))
          ∙ ap (λ s. 39 ∷ (s ++ (print_op c.op ++ (printed_pieces c.pattern ++ 39 ∷ [])))) (sym n);
      means =
          ap (λ (x : List (List ℕ)). let y : Cond = record { name = d ∷ ds; op = c.op; pattern = x } in y) (v.means ∙ sym p)
          ∙ ap (λ (x : List ℕ). let y : Cond = record { name = x; op = c.op; pattern = c.pattern } in y) (sym n);
    }

cond_for : (c : Cond) → is_proper (condition c) ≡ true → CondFor c
cond_for c h =
    let parts = and_parts (has_one c.name && are_name_bytes c.name) (has_one c.pattern) h in
    cond_by c.name c.pattern c refl refl parts.0 parts.1

-- forms of a query as a unit, as a member and as a whole text
record UnitFor (q : QueryTree) : Type 0 where
  pub form : UnitForm
  pub valid : is_unit form ≡ true
  pub spelled : print_unit form ≡ printed_unit q
  pub means : unit_meaning form ≡ q
  pub deep : unit_depth form ≡ depth_in_and q

record MemberFor (q : QueryTree) : Type 0 where
  pub form : AndForm
  pub valid : is_and form ≡ true
  pub spelled : print_and form ≡ printed_member q
  pub means : joined and_of (units form) ≡ q
  pub deep : and_depth form ≡ depth_in_or q

-- forms of several units after others
record AndMore (a : AndForm) (qs : QueryTrees) : Type 0 where
  pub form : AndForm
  pub valid : is_and form ≡ true
  pub spelled : print_and form ≡ print_and a ++ printed_and_more qs
  pub means : units form ≡ units a ++ query_list qs
  pub deep : and_depth form ≡ max (and_depth a) (units_depth qs)

record OrMore (o : OrForm) (qs : QueryTrees) : Type 0 where
  pub form : OrForm
  pub valid : is_or form ≡ true
  pub spelled : print_or form ≡ print_or o ++ printed_or_more qs
  pub means : members form ≡ members o ++ query_list qs
  pub deep : or_depth form ≡ max (or_depth o) (members_depth qs)

record AndFor (qs : QueryTrees) : Type 0 where
  pub form : AndForm
  pub valid : is_and form ≡ true
  pub spelled : print_and form ≡ printed_and qs
  pub means : joined and_of (units form) ≡ and_of qs
  pub deep : and_depth form ≡ units_depth qs

record OrFor (qs : QueryTrees) : Type 0 where
  pub form : OrForm
  pub valid : is_or form ≡ true
  pub spelled : print_or form ≡ printed_or qs
  pub means : joined or_of (members form) ≡ or_of qs
  pub deep : or_depth form ≡ members_depth qs

queries_again : (qs : QueryTrees) → queries_of (query_list qs) ≡ qs
queries_again no_queries = refl
queries_again (more_queries q qs) = ap (more_queries q) (queries_again qs)

and_for_one : (q r : QueryTree) (qs : QueryTrees) (u : UnitFor q) → AndMore (one u.form) (more_queries r qs) → AndFor (more_queries q (more_queries r qs))
and_for_one q r qs u m = record {
  form = m.form;
  valid = m.valid;
  spelled = m.spelled ∙ ap (λ s. s ++ printed_and_more (more_queries r qs)) u.spelled;
  means =
      ap (joined and_of) (m.means ∙ ap (λ x. x ∷ r ∷ query_list qs) u.means)
      ∙ ap (λ x. and_of (more_queries q (more_queries r x))) (queries_again qs);
  deep = m.deep ∙ ap (λ n. max n (units_depth (more_queries r qs))) u.deep;
}

or_for_one : (q r : QueryTree) (qs : QueryTrees) (u : MemberFor q) → OrMore (only u.form) (more_queries r qs) → OrFor (more_queries q (more_queries r qs))
or_for_one q r qs u m = record {
  form = m.form;
  valid = m.valid;
  spelled = m.spelled ∙ ap (λ s. s ++ printed_or_more (more_queries r qs)) u.spelled;
  means =
      ap (joined or_of) (m.means ∙ ap (λ x. x ∷ r ∷ query_list qs) u.means)
      ∙ ap (λ x. or_of (more_queries q (more_queries r x))) (queries_again qs);
  deep = m.deep ∙ ap (λ n. max n (members_depth (more_queries r qs))) u.deep;
}

and_more_one : (a : AndForm) (q : QueryTree) (qs : QueryTrees) (u : UnitFor q) → AndMore (more a space [] u.form) qs → AndMore a (more_queries q qs)
and_more_one a q qs u m = record {
  form = m.form;
  valid = m.valid;
  spelled =
      m.spelled ∙ append_assoc (print_and a) (32 ∷ print_unit u.form) (printed_and_more qs)
      ∙ ap (λ s. print_and a ++ 32 ∷ (s ++ printed_and_more qs)) u.spelled;
  means = m.means ∙ append_assoc (units a) (unit_meaning u.form ∷ []) (query_list qs) ∙ ap (λ x. units a ++ x ∷ query_list qs) u.means;
  deep = omega arith;
}

or_more_one : (o : OrForm) (q : QueryTree) (qs : QueryTrees) (u : MemberFor q) → OrMore (either o [] [] u.form) qs → OrMore o (more_queries q qs)
or_more_one o q qs u m = record {
  form = m.form;
  valid = m.valid;
  spelled =
      m.spelled ∙ append_assoc (print_or o) (44 ∷ print_and u.form) (printed_or_more qs)
      ∙ ap (λ s. print_or o ++ 44 ∷ (s ++ printed_or_more qs)) u.spelled;
  means = m.means ∙ append_assoc (members o) (joined and_of (units u.form) ∷ []) (query_list qs) ∙ ap (λ x. members o ++ x ∷ query_list qs) u.means;
  deep = omega arith;
}

mutual
  unit_for : (q : QueryTree) → is_proper q ≡ true → UnitFor q
  unit_for (condition c) h =
      let f = cond_for c h in record { form = cond f.form; valid = f.valid; spelled = f.spelled; means = ap condition f.means; deep = refl }
  unit_for (and_of qs) h =
      let parts = and_parts (have_two qs) (are_proper qs) h in
      let f = and_for qs parts.0 parts.1 in
      record {
        form = group [] (only f.form) [];
        valid = f.valid;
        spelled = ap (λ s. 40 ∷ (s ++ 41 ∷ [])) f.spelled;
        means = f.means;
        deep = ap suc f.deep;
      }
  unit_for (or_of qs) h =
      let parts = and_parts (have_two qs) (are_proper qs) h in
      let f = or_for qs parts.0 parts.1 in
      record {
        form = group [] f.form [];
        valid = f.valid;
        spelled = ap (λ s. 40 ∷ (s ++ 41 ∷ [])) f.spelled;
        means = f.means;
        deep = ap suc f.deep;
      }

  member_for : (q : QueryTree) → is_proper q ≡ true → MemberFor q
  member_for (condition c) h =
      let f = cond_for c h in record { form = one (cond f.form); valid = f.valid; spelled = f.spelled; means = ap condition f.means; deep = refl }
  member_for (and_of qs) h =
      let parts = and_parts (have_two qs) (are_proper qs) h in
      let f = and_for qs parts.0 parts.1 in
      record { form = f.form; valid = f.valid; spelled = f.spelled; means = f.means; deep = f.deep }
  member_for (or_of qs) h =
      let parts = and_parts (have_two qs) (are_proper qs) h in
      let f = or_for qs parts.0 parts.1 in
      record {
        form = one (group [] f.form []);
        valid = f.valid;
        spelled = ap (λ s. 40 ∷ (s ++ 41 ∷ [])) f.spelled;
        means = f.means;
        deep = ap suc f.deep;
      }

  and_for : (qs : QueryTrees) → have_two qs ≡ true → are_proper qs ≡ true → AndFor qs
  and_for no_queries h k = absurd (false≢true h)
  and_for (more_queries q no_queries) h k = absurd (false≢true h)
  and_for (more_queries q (more_queries r qs)) h k =
      let parts = and_parts (is_proper q) (are_proper (more_queries r qs)) k in
      let u = unit_for q parts.0 in
      and_for_one q r qs u (and_more (one u.form) u.valid (more_queries r qs) parts.1)

  or_for : (qs : QueryTrees) → have_two qs ≡ true → are_proper qs ≡ true → OrFor qs
  or_for no_queries h k = absurd (false≢true h)
  or_for (more_queries q no_queries) h k = absurd (false≢true h)
  or_for (more_queries q (more_queries r qs)) h k =
      let parts = and_parts (is_proper q) (are_proper (more_queries r qs)) k in
      let u = member_for q parts.0 in
      or_for_one q r qs u (or_more (only u.form) u.valid (more_queries r qs) parts.1)

  and_more : (a : AndForm) → is_and a ≡ true → (qs : QueryTrees) → are_proper qs ≡ true → AndMore a qs
  and_more a v no_queries h = record { form = a; valid = v; spelled = sym (append-nil (print_and a)); means = sym (append-nil (units a)); deep = omega arith }
  and_more a v (more_queries q qs) h =
      let parts = and_parts (is_proper q) (are_proper qs) h in
      let u = unit_for q parts.0 in
      and_more_one a q qs u (and_more (more a space [] u.form) (and_from _ _ v u.valid) qs parts.1)

  or_more : (o : OrForm) → is_or o ≡ true → (qs : QueryTrees) → are_proper qs ≡ true → OrMore o qs
  or_more o v no_queries h = record { form = o; valid = v; spelled = sym (append-nil (print_or o)); means = sym (append-nil (members o)); deep = omega arith }
  or_more o v (more_queries q qs) h =
      let parts = and_parts (is_proper q) (are_proper qs) h in
      let u = member_for q parts.0 in
      or_more_one o q qs u (or_more (either o [] [] u.form) (and_from _ _ v u.valid) qs parts.1)

-- the form of a whole text
pub record TextFor (q : QueryTree) : Type 0 where
  pub form : OrForm
  pub valid : is_or form ≡ true
  pub spelled : print_or form ≡ printed q
  pub means : joined or_of (members form) ≡ q
  pub deep : or_depth form ≡ depth q

pub text_for : (q : QueryTree) → is_proper q ≡ true → TextFor q
text_for (condition c) h =
    let f = cond_for c h in record { form = only (one (cond f.form)); valid = f.valid; spelled = f.spelled; means = ap condition f.means; deep = refl }
text_for (and_of qs) h =
    let parts = and_parts (have_two qs) (are_proper qs) h in
    let f = and_for qs parts.0 parts.1 in
    record { form = only f.form; valid = f.valid; spelled = f.spelled; means = f.means; deep = f.deep }
text_for (or_of qs) h =
    let parts = and_parts (have_two qs) (are_proper qs) h in
    let f = or_for qs parts.0 parts.1 in
    record { form = f.form; valid = f.valid; spelled = f.spelled; means = f.means; deep = f.deep }

-- the printed text reads as the query
pub prints : (q : QueryTree) → is_proper q ≡ true → QueryReads (printed q) q
prints q h =
    let f = text_for q h in
    record {
      form = record { front = []; body = f.form; back = [] };
      valid = f.valid;
      spelled = sym (append-nil (print_or f.form) ∙ f.spelled);
      means = sym f.means;
    }
