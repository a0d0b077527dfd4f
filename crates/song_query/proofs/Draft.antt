-- The beginning of a query's text as an incomplete form: the complete parts of each open level, and the beginning of
-- a condition.
use Rattle.std.proofs.Common.{◌≡◌, ◌++◌, ◌&&◌, ℕ, Bool, true, List, [], ◌∷◌, map, refl, ap, sym, ◌∙◌, append_assoc}
use Rattle.std.proofs.lemmas.Bool.{and_parts, and_from}
use Rattle.item_model.specs.Proper.{is_name_byte, are_name_bytes}
use Rattle.item_model.specs.QueryTree.{QueryTree, and_of}
use Rattle.item_model.specs.declared.condition.Op.{Op}
use Rattle.item_model.specs.declared.condition.Op.TheVariants.{Is, IsNot, Less, More}
use Rattle.song_query.specs.Grammar.{Blank, blank, blanks, Atom, print_atom, atom_meaning, print_atoms, piece_of, are_atoms, print_starred, are_pieces, print_op, UnitForm, AndForm, one, more, OrForm, only, either, print_unit, print_and, print_or, joined, unit_meaning, units, members, is_unit, is_and, is_or}
use Rattle.song_query.specs.declared.levels.Level.{Level}
use Rattle.song_query.specs.Machine.{Place, due, opened, named, begun, valued, slashed, State, here}
use Rattle.song_query.proofs.Complete.{lv, behind}

-- what precedes the member of an `or` that is being parsed: blanks, or blanks, members and a comma
pub data Front : Type 0 where
  fresh : List Blank → Front
  after_comma : List Blank → OrForm → List Blank → List Blank → Front

abbrev pub print_front : Front → List ℕ
print_front (fresh g) = blanks g
print_front (after_comma k o g h) = blanks k ++ (print_or o ++ (blanks g ++ 44 ∷ blanks h))

abbrev pub front_members : Front → List QueryTree
front_members (fresh g) = []
front_members (after_comma k o g h) = members o

abbrev pub is_front : Front → Bool
is_front (fresh g) = true
is_front (after_comma k o g h) = is_or o

abbrev pub front_gap : Front → List Blank
front_gap (fresh g) = g
front_gap (after_comma k o g h) = k

-- with the member that follows
abbrev pub front_or : Front → AndForm → OrForm
front_or (fresh g) a = only a
front_or (after_comma k o g h) a = either o g h a

-- with one blank more
abbrev pub front_blank : Front → Blank → Front
front_blank (fresh g) b = fresh (g ++ b ∷ [])
front_blank (after_comma k o g h) b = after_comma k o g (h ++ b ∷ [])

-- what precedes the unit that is being parsed: nothing, or units and blanks
pub data Lead : Type 0 where
  first : Lead
  next_to : AndForm → Blank → List Blank → Lead

abbrev pub print_lead : Lead → List ℕ
print_lead first = []
print_lead (next_to a b g) = print_and a ++ blank b ∷ blanks g

abbrev pub lead_units : Lead → List QueryTree
lead_units first = []
lead_units (next_to a b g) = units a

abbrev pub is_lead : Lead → Bool
is_lead first = true
is_lead (next_to a b g) = is_and a

abbrev pub lead_and : Lead → UnitForm → AndForm
lead_and first u = one u
lead_and (next_to a b g) u = more a b g u

-- the first of an operator's two characters
abbrev pub op_mark : Op → List ℕ
op_mark Is = []
op_mark IsNot = 33 ∷ []
op_mark Less = 60 ∷ []
op_mark More = 62 ∷ []

-- the colon follows it
pub op_marked : (o : Op) → print_op o ++ [] ≡ op_mark o ++ 58 ∷ []
op_marked Is = refl
op_marked IsNot = refl
op_marked Less = refl
op_marked More = refl

-- the beginning of a condition
pub data Stub : Type 0 where
  quoted : Stub
  naming : ℕ → List ℕ → Stub
  operating : ℕ → List ℕ → Op → Stub
  valuing : ℕ → List ℕ → Op → List (List Atom) → List Atom → Stub
  slashing : ℕ → List ℕ → Op → List (List Atom) → List Atom → Stub

abbrev pub print_stub : Stub → List ℕ
print_stub quoted = 39 ∷ []
print_stub (naming c cs) = 39 ∷ c ∷ cs
print_stub (operating c cs o) = 39 ∷ c ∷ (cs ++ op_mark o)
print_stub (valuing c cs o ps p) = 39 ∷ c ∷ (cs ++ (print_op o ++ (print_starred ps ++ print_atoms p)))
print_stub (slashing c cs o ps p) = 39 ∷ c ∷ (cs ++ (print_op o ++ (print_starred ps ++ (print_atoms p ++ 92 ∷ []))))

abbrev pub stub_place : Stub → Place
stub_place quoted = opened
stub_place (naming c cs) = named (c ∷ cs)
stub_place (operating c cs o) = begun (c ∷ cs) o
stub_place (valuing c cs o ps p) = valued (c ∷ cs) o (map piece_of ps) (piece_of p)
stub_place (slashing c cs o ps p) = slashed (c ∷ cs) o (map piece_of ps) (piece_of p)

abbrev pub is_stub : Stub → Bool
is_stub quoted = true
is_stub (naming c cs) = are_name_bytes (c ∷ cs)
is_stub (operating c cs o) = are_name_bytes (c ∷ cs)
is_stub (valuing c cs o ps p) = are_name_bytes (c ∷ cs) && (are_pieces ps && are_atoms p)
is_stub (slashing c cs o ps p) = are_name_bytes (c ∷ cs) && (are_pieces ps && are_atoms p)

-- the innermost open level
pub data Draft : Type 0 where
  starts : Front → Draft
  after : Front → AndForm → List Blank → Draft
  within : Front → Lead → Stub → Draft

abbrev pub print_draft : Draft → List ℕ
print_draft (starts f) = print_front f
print_draft (after f a g) = print_front f ++ (print_and a ++ blanks g)
print_draft (within f d s) = print_front f ++ (print_lead d ++ print_stub s)

abbrev pub draft_place : Draft → Place
draft_place (starts f) = due
draft_place (after f a g) = behind g
draft_place (within f d s) = stub_place s

abbrev pub draft_level : Draft → Level
draft_level (starts f) = lv (front_members f) []
draft_level (after f a g) = lv (front_members f) (units a)
draft_level (within f d s) = lv (front_members f) (lead_units d)

abbrev pub is_draft : Draft → Bool
is_draft (starts f) = is_front f
is_draft (after f a g) = is_front f && is_and a
is_draft (within f d s) = is_front f && (is_lead d && is_stub s)

-- a level around an open parenthesis
pub record Out : Type 0 where
  pub front : Front
  pub lead : Lead

abbrev pub out_level : Out → Level
out_level o = lv (front_members o.front) (lead_units o.lead)

abbrev pub print_outs : List Out → List ℕ
print_outs [] = []
print_outs (o ∷ os) = print_outs os ++ (print_front o.front ++ (print_lead o.lead ++ 40 ∷ []))

abbrev pub are_outs : List Out → Bool
are_outs [] = true
are_outs (o ∷ os) = (is_front o.front && is_lead o.lead) && are_outs os

pub record Whole : Type 0 where
  pub draft : Draft
  pub outer : List Out

abbrev pub print_whole : Whole → List ℕ
print_whole w = print_outs w.outer ++ print_draft w.draft

abbrev pub is_whole : Whole → Bool
is_whole w = is_draft w.draft && are_outs w.outer

abbrev pub state_of : Whole → State
state_of w = here (draft_place w.draft) (draft_level w.draft) (map out_level w.outer)

-- lemmas on the parts

pub blanks_append : (g h : List Blank) → blanks (g ++ h) ≡ blanks g ++ blanks h
blanks_append [] h = refl
blanks_append (b ∷ g) h = ap (λ s. blank b ∷ s) (blanks_append g h)

pub atoms_append : (p q : List Atom) → print_atoms (p ++ q) ≡ print_atoms p ++ print_atoms q
atoms_append [] q = refl
atoms_append (a ∷ p) q = ap (λ s. print_atom a ++ s) (atoms_append p q) ∙ sym (append_assoc (print_atom a) (print_atoms p) (print_atoms q))

pub piece_append : (p q : List Atom) → piece_of (p ++ q) ≡ piece_of p ++ piece_of q
piece_append [] q = refl
piece_append (a ∷ p) q = ap (λ s. atom_meaning a ++ s) (piece_append p q) ∙ sym (append_assoc (atom_meaning a) (piece_of p) (piece_of q))

pub are_atoms_append : (p q : List Atom) → are_atoms p ≡ true → are_atoms q ≡ true → are_atoms (p ++ q) ≡ true
are_atoms_append [] q h k = k
are_atoms_append (a ∷ p) q h k = let parts = and_parts _ _ h in and_from _ _ parts.0 (are_atoms_append p q parts.1 k)

pub starred_append : (ps : List (List Atom)) (p : List Atom) → print_starred (ps ++ p ∷ []) ≡ print_starred ps ++ (print_atoms p ++ 42 ∷ [])
starred_append [] p = refl
starred_append (q ∷ ps) p =
    ap (λ s. print_atoms q ++ 42 ∷ s) (starred_append ps p) ∙ sym (append_assoc (print_atoms q) (42 ∷ print_starred ps) (print_atoms p ++ 42 ∷ []))

pub are_pieces_append : (ps : List (List Atom)) (p : List Atom) → are_pieces ps ≡ true → are_atoms p ≡ true → are_pieces (ps ++ p ∷ []) ≡ true
are_pieces_append [] p h k = and_from _ _ k refl
are_pieces_append (q ∷ ps) p h k = let parts = and_parts _ _ h in and_from _ _ parts.0 (are_pieces_append ps p parts.1 k)

pub names_append : (cs : List ℕ) (c : ℕ) → are_name_bytes cs ≡ true → is_name_byte c ≡ true → are_name_bytes (cs ++ c ∷ []) ≡ true
names_append [] c h k = and_from _ _ k refl
names_append (d ∷ cs) c h k = let parts = and_parts _ _ h in and_from _ _ parts.0 (names_append cs c parts.1 k)

pub pieces_map_append : (ps : List (List Atom)) (p : List Atom) → map piece_of (ps ++ p ∷ []) ≡ map piece_of ps ++ piece_of p ∷ []
pieces_map_append [] p = refl
pieces_map_append (q ∷ ps) p = ap (λ s. piece_of q ∷ s) (pieces_map_append ps p)

pub front_printed : (f : Front) (a : AndForm) → print_front f ++ print_and a ≡ blanks (front_gap f) ++ print_or (front_or f a)
front_printed (fresh g) a = refl
front_printed (after_comma k o g h) a = simp append_assoc

pub front_read : (f : Front) (a : AndForm) → members (front_or f a) ≡ front_members f ++ joined and_of (units a) ∷ []
front_read (fresh g) a = refl
front_read (after_comma k o g h) a = refl

pub front_valid : (f : Front) (a : AndForm) → is_front f ≡ true → is_and a ≡ true → is_or (front_or f a) ≡ true
front_valid (fresh g) a h k = k
front_valid (after_comma k o g m) a h p = and_from _ _ h p

pub front_blank_printed : (f : Front) (b : Blank) → print_front (front_blank f b) ≡ print_front f ++ blank b ∷ []
front_blank_printed (fresh g) b = blanks_append g (b ∷ [])
front_blank_printed (after_comma k o g h) b = simp (blanks_append, append_assoc)

pub front_blank_read : (f : Front) (b : Blank) → front_members (front_blank f b) ≡ front_members f
front_blank_read (fresh g) b = refl
front_blank_read (after_comma k o g h) b = refl

pub front_blank_valid : (f : Front) (b : Blank) → is_front (front_blank f b) ≡ is_front f
front_blank_valid (fresh g) b = refl
front_blank_valid (after_comma k o g h) b = refl

pub lead_printed : (d : Lead) (u : UnitForm) → print_lead d ++ print_unit u ≡ print_and (lead_and d u)
lead_printed first u = refl
lead_printed (next_to a b g) u = simp append_assoc

pub lead_read : (d : Lead) (u : UnitForm) → units (lead_and d u) ≡ lead_units d ++ unit_meaning u ∷ []
lead_read first u = refl
lead_read (next_to a b g) u = refl

pub lead_valid : (d : Lead) (u : UnitForm) → is_lead d ≡ true → is_unit u ≡ true → is_and (lead_and d u) ≡ true
lead_valid first u h k = k
lead_valid (next_to a b g) u h k = and_from _ _ h k
