-- The texts stored for the properties as values are put, and that they serve the values.
use Rattle.std.proofs.Common.{◌≡◌, ◌++◌, ◌==◌, ℕ, Bool, true, false, not, nat_lt, List, [], ◌∷◌, filter, Option, Some, None, Bor, unwrap_or, cond, refl, sym, ap, subst, ◌∙◌, arith}
use Rattle.std.proofs.lemmas.Bool.Decides.{nat_tests}
use Rattle.item_model.specs.declared.property.Property.{Property}
use Rattle.item_model.specs.declared.item.PropValue.{PropValue}
use Rattle.item_model.specs.declared.item.PropValue.TheVariants.{Text}
use Rattle.item_model.specs.declared.folds.Sought.TheVariants.{Text as SoughtText}
use Rattle.item_model.specs.Properties.{rank_of, is_same}
use Rattle.item_model.specs.Items.{value_of, with_value}
use Rattle.item_model.specs.Folding.{lowered, IsSearchedFor}
use Rattle.item_model.specs.Folds.{kept_for, IsKeptFor, Serves, ServesIfAny, AreFolds, IsSoughtIfAny}
use Rattle.item_model.proofs.FoldLaws.{lowered_folded}

abbrev Kept : Type 0
Kept = Property × List ℕ

abbrev Entry : Type 0
Entry = Property × PropValue

abbrev pub others : Property → List Kept → List Kept
others p folds = filter (λ fold. not (is_same fold.0 p)) folds

-- the ranks: l of an entry's property, m of the one put, n of the one looked up
module _ {A : Type 0} (l m n : ℕ) (put here old new : Option A) where
  replaced : (l == m) ≡ true → new ≡ cond (m == n) put old → new ≡ cond (m == n) put (cond (l == n) here old)
  replaced h e = grind (arith, nat_tests)

  passed : (l == m) ≡ false → new ≡ cond (m == n) put old → cond (l == n) here new ≡ cond (m == n) put (cond (l == n) here old)
  passed h e = grind (arith, nat_tests)

lower : (m n : ℕ) → nat_lt m n ≡ true → (m == n) ≡ false
lower m n h = grind (arith, nat_tests)

without_step : (p q : Property) (f : Kept) (folds rest : List Kept) (s : Bool) → is_same f.0 p ≡ s → kept_for q rest ≡ cond (is_same p q) None (kept_for q folds) → kept_for q (cond (not s) (f ∷ rest) rest) ≡ cond (is_same p q) None (kept_for q (f ∷ folds))
without_step p q f folds rest true h e = replaced (rank_of f.0) (rank_of p) (rank_of q) None (Some f.1) _ _ h e
without_step p q f folds rest false h e = passed (rank_of f.0) (rank_of p) (rank_of q) None (Some f.1) _ _ h e

nothing : (b : Bool) (x : Option (List ℕ)) → x ≡ cond b x x
nothing true x = refl
nothing false x = refl

-- after the text of one property is removed, those of the others are as before
pub kept_without : (p q : Property) (folds : List Kept) → kept_for q (others p folds) ≡ cond (is_same p q) None (kept_for q folds)
kept_without p q [] = nothing (is_same p q) None
kept_without p q (f ∷ folds) = without_step p q f folds (others p folds) (is_same f.0 p) refl (kept_without p q folds)

last_step : (p q : Property) (text : List ℕ) (f : Kept) (folds rest : List Kept) (s : Bool) → is_same f.0 p ≡ s → kept_for q (rest ++ (p, text) ∷ []) ≡ cond (is_same p q) (Some text) (kept_for q folds) → kept_for q (cond (not s) (f ∷ rest) rest ++ (p, text) ∷ []) ≡ cond (is_same p q) (Some text) (kept_for q (f ∷ folds))
last_step p q text f folds rest true h e = replaced (rank_of f.0) (rank_of p) (rank_of q) (Some text) (Some f.1) _ _ h e
last_step p q text f folds rest false h e = passed (rank_of f.0) (rank_of p) (rank_of q) (Some text) (Some f.1) _ _ h e

-- a text appended after that removal is the one stored for the property
pub kept_last : (p q : Property) (text : List ℕ) (folds : List Kept) → kept_for q (others p folds ++ (p, text) ∷ []) ≡ cond (is_same p q) (Some text) (kept_for q folds)
kept_last p q text [] = refl
kept_last p q text (f ∷ folds) =
    last_step p q text f folds (others p folds) (is_same f.0 p) refl (kept_last p q text folds)

value_step : (p q : Property) (v : PropValue) (e : Entry) (es with : List Entry) (b s : Bool) → nat_lt (rank_of e.0) (rank_of p) ≡ b → is_same e.0 p ≡ s → value_of q with ≡ cond (is_same p q) (Some v) (value_of q es) → value_of q (cond b (e ∷ with) (cond s ((p, v) ∷ es) ((p, v) ∷ e ∷ es))) ≡ cond (is_same p q) (Some v) (value_of q (e ∷ es))
value_step p q v e es with true s l m h =
    passed (rank_of e.0) (rank_of p) (rank_of q) (Some v) (Some e.1) _ _ (lower (rank_of e.0) (rank_of p) l) h
value_step p q v e es with false true l m h = replaced (rank_of e.0) (rank_of p) (rank_of q) (Some v) (Some e.1) _ _ m refl
value_step p q v e es with false false l m h = refl

-- the value of each property after a put
pub value_with : (p q : Property) (v : PropValue) (es : List Entry) → value_of q (with_value p v es) ≡ cond (is_same p q) (Some v) (value_of q es)
value_with p q v [] = refl
value_with p q v (e ∷ es) =
    value_step p q v e es (with_value p v es) (nat_lt (rank_of e.0) (rank_of p)) (is_same e.0 p) refl refl (value_with p q v es)

serves_step : (s : Bool) (fold kept : Option (List ℕ)) (v : PropValue) (value : Option PropValue) → Serves fold v → ServesIfAny kept value → ServesIfAny (cond s fold kept) (cond s (Some v) value)
serves_step true fold kept v value h k = h
serves_step false fold kept v value h k = k

-- the text stored for the value that is put serves it, and the others are served as before
pub folds_with : (p : Property) (v : PropValue) (fold : Option (List ℕ)) (es new : List Entry) (folds kept : List Kept) → new ≡ with_value p v es → ((q : Property) → kept_for q kept ≡ cond (is_same p q) fold (kept_for q folds)) → Serves fold v → AreFolds es folds → AreFolds new kept
unfolding AreFolds
folds_with p v fold es new folds kept is each h before =
    λ q. rw (is, each q, value_with p q v es) (serves_step (is_same p q) fold (kept_for q folds) v (value_of q es) h (before q))

-- the folded texts of an item without properties
pub folds_none : AreFolds [] []
unfolding AreFolds
folds_none = λ q. tt

-- the stored text serves the property's value
pub folds_at : (p : Property) (es : List Entry) (folds : List Kept) → AreFolds es folds → ServesIfAny (kept_for p folds) (value_of p es)
unfolding AreFolds
folds_at p es folds h = h p

-- the stored text, or the text itself if none is stored, is one to search for the text
kept_searched : (text : List ℕ) (kept : Option (List ℕ)) → IsKeptFor text kept → IsSearchedFor text (unwrap_or kept text)
kept_searched text None h = h
kept_searched text (Some fold) h = ap lowered h ∙ lowered_folded text

pub sought_text : (o : Option PropValue) (kept : Option (List ℕ)) (text : List ℕ) (s : Bor (List ℕ)) → o ≡ Some (Text text) → s.now ≡ unwrap_or kept text → ServesIfAny kept o → IsSoughtIfAny o (Some (SoughtText s))
sought_text o kept text s e k h =
    subst (λ x. IsSoughtIfAny x (Some (SoughtText s))) (sym e) (ap lowered k ∙ kept_searched text kept (subst (ServesIfAny kept) e h))
