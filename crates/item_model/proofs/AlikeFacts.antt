-- Two items have equal tags of some properties exactly if they have equal values of each.
use Rattle.std.proofs.Common.{◌≡◌, ◌==◌, ◌&&◌, ◌+◌, ◌<◌, ℕ, Bool, true, false, List, [], ◌∷◌, length, get_or, drop, Option, Some, None, is_some, refl, sym, ap, subst, ◌∙◌, true≢false, eq-eqb}
use Rattle.std.specs.List.{cons_option}
use Rattle.std.specs.Option.{option_map}
use Rattle.std.proofs.lemmas.Bool.{false_from_ne_true}
use Rattle.std.proofs.lemmas.List.{at_drop_more}
use Rattle.dmap_tags.specs.Codes.{Four, is_code}
use Rattle.dmap_tags.specs.Tree.{Leaf, Tree, leaf, Trees, more, trees_of}
use Rattle.dmap_tags.specs.SameTags.{is_same_value, is_same_tag, are_same_tags}
use Rattle.dmap_tags.proofs.SameFacts.{one_code, code_itself}
use Rattle.dmap_tags.specs.declared.kinds.Kind.{Kind}
use Rattle.dmap_tags.specs.declared.kinds.Kind.TheVariants.{U8, I8, U16, I16, U32, I32, U64, I64, Text, Date, Version, List as Members, Opaque}
use Rattle.item_model.specs.declared.property.Property.{Property}
use Rattle.item_model.specs.declared.property.Property.TheVariants.{Minm, Mikd, Mper, Asar, Asal, Asaa, Asgn, Ascp, Ascm, Agrp, Asfm, Asyr, Astn, Astc, Asdn, Asdc, Asbr, Asbt, Astm, Assr, Assz, Asur, Asco, Aemk, Asda, Asdm}
use Rattle.item_model.specs.declared.item.PropValue.{PropValue}
use Rattle.item_model.specs.declared.item.PropValue.TheVariants.{Number, Text as Words}
use Rattle.item_model.specs.declared.item.Row.{Row}
use Rattle.item_model.specs.Properties.{property_code, property_kind, property_coded}
use Rattle.item_model.specs.Items.{value_of}
use Rattle.item_model.specs.Projection.{number_leaf, value_leaf, property_tag, shown, listed_row}
use Rattle.item_model.specs.Alike.{is_equal_value, have_equal_value, shown_trees}

-- ---- values

and-true : (b : Bool) → (b && true) ≡ b
and-true true = refl
and-true false = refl

numbers_alike : (kind : Kind) (n m : ℕ) → is_same_value (number_leaf kind n) (number_leaf kind m) ≡ (n == m)
numbers_alike U8 n m = and-true (n == m)
numbers_alike U16 n m = and-true (n == m)
numbers_alike U32 n m = and-true (n == m)
numbers_alike Date n m = and-true (n == m)
numbers_alike U64 n m = and-true (n == m)
numbers_alike I8 n m = and-true (n == m)
numbers_alike I16 n m = and-true (n == m)
numbers_alike I32 n m = and-true (n == m)
numbers_alike I64 n m = and-true (n == m)
numbers_alike Text n m = and-true (n == m)
numbers_alike Version n m = and-true (n == m)
numbers_alike Members n m = and-true (n == m)
numbers_alike Opaque n m = and-true (n == m)

number_no_text : (kind : Kind) (n : ℕ) (bytes : List ℕ) → is_same_value (number_leaf kind n) (value_leaf kind (Words bytes)) ≡ false
number_no_text U8 n bytes = refl
number_no_text U16 n bytes = refl
number_no_text U32 n bytes = refl
number_no_text Date n bytes = refl
number_no_text U64 n bytes = refl
number_no_text I8 n bytes = refl
number_no_text I16 n bytes = refl
number_no_text I32 n bytes = refl
number_no_text I64 n bytes = refl
number_no_text Text n bytes = refl
number_no_text Version n bytes = refl
number_no_text Members n bytes = refl
number_no_text Opaque n bytes = refl

text_no_number : (kind : Kind) (n : ℕ) (bytes : List ℕ) → is_same_value (value_leaf kind (Words bytes)) (number_leaf kind n) ≡ false
text_no_number U8 n bytes = refl
text_no_number U16 n bytes = refl
text_no_number U32 n bytes = refl
text_no_number Date n bytes = refl
text_no_number U64 n bytes = refl
text_no_number I8 n bytes = refl
text_no_number I16 n bytes = refl
text_no_number I32 n bytes = refl
text_no_number I64 n bytes = refl
text_no_number Text n bytes = refl
text_no_number Version n bytes = refl
text_no_number Members n bytes = refl
text_no_number Opaque n bytes = refl

-- values have equal leaves of one kind exactly if they are equal
values_alike : (kind : Kind) (v w : PropValue) → is_same_value (value_leaf kind v) (value_leaf kind w) ≡ is_equal_value v w
values_alike kind (Number n) (Number m) = numbers_alike kind n m
values_alike kind (Number n) (Words others) = number_no_text kind n others
values_alike kind (Words bytes) (Number m) = text_no_number kind m bytes
values_alike kind (Words bytes) (Words others) = refl

tags_alike : (p : Property) (v w : PropValue) → is_same_tag (property_tag p v) (property_tag p w) ≡ is_equal_value v w
tags_alike p v w =
    ap (λ b. b && is_same_value (value_leaf (property_kind p) v) (value_leaf (property_kind p) w)) (code_itself (property_code p))
    ∙ values_alike (property_kind p) v w

-- ---- codes

-- a property is found by its code
pub code_back : (p : Property) → property_coded (property_code p) ≡ Some p
unfolding property_coded
code_back Minm = refl
code_back Mikd = refl
code_back Mper = refl
code_back Asar = refl
code_back Asal = refl
code_back Asaa = refl
code_back Asgn = refl
code_back Ascp = refl
code_back Ascm = refl
code_back Agrp = refl
code_back Asfm = refl
code_back Asyr = refl
code_back Astn = refl
code_back Astc = refl
code_back Asdn = refl
code_back Asdc = refl
code_back Asbr = refl
code_back Asbt = refl
code_back Astm = refl
code_back Assr = refl
code_back Assz = refl
code_back Asur = refl
code_back Asco = refl
code_back Aemk = refl
code_back Asda = refl
code_back Asdm = refl

-- no two properties have the same code
pub one_coded : (p q : Property) → is_code (property_code p) (property_code q) ≡ true → p ≡ q
one_coded p q h =
    let found : Some p ≡ Some q = sym (code_back p) ∙ ap property_coded (one_code (property_code p) (property_code q) h) ∙ code_back q in
    cc

-- a property that an item has differs by its code from one that the item lacks
other_code : (p q : Property) (w : PropValue) (item : List (Property × PropValue)) → value_of p item ≡ None → value_of q item ≡ Some w
    → is_code (property_code p) (property_code q) ≡ false
other_code p q w item lacks has =
    false_from_ne_true (is_code (property_code p) (property_code q))
    (λ h. true≢false (ap is_some (sym has ∙ sym (ap (λ r. value_of r item) (one_coded p q h)) ∙ lacks)))

code_swapped : (c d : Four) → is_code d c ≡ true → is_code c d ≡ true
code_swapped c d h = subst (λ e. is_code c e ≡ true) (sym (one_code d c h)) (code_itself c)

-- ---- lists of tags

module _ (p : Property) (a : Leaf) (rest : Trees) (item : List (Property × PropValue)) (lacks : value_of p item ≡ None) where
  abbrev its_tag : Tree
  its_tag = leaf (property_code p) a

  -- the tags of an item that lacks a property never begin with that property's code
  none_begins : (ps : List Property) → are_same_tags (more its_tag rest) (shown_trees item ps) ≡ false
  none_begins [] = refl
  none_begins (q ∷ ps) =
      elim (value_of q item) as (λ o. value_of q item ≡ o → are_same_tags (more its_tag rest) (trees_of (cons_option (option_map (property_tag q) o) (shown item ps))) ≡ false) [
        | None ↦ λ _. none_begins ps
        | Some w ↦ λ e. ap (λ b. (b && is_same_value a (value_leaf (property_kind q) w)) && are_same_tags rest (shown_trees item ps)) (other_code p q w item lacks e)
      ] refl

  none_begins_it : (ps : List Property) → are_same_tags (shown_trees item ps) (more its_tag rest) ≡ false
  none_begins_it [] = refl
  none_begins_it (q ∷ ps) =
      elim (value_of q item) as (λ o. value_of q item ≡ o → are_same_tags (trees_of (cons_option (option_map (property_tag q) o) (shown item ps))) (more its_tag rest) ≡ false) [
        | None ↦ λ _. none_begins_it ps
        | Some w ↦ λ e. ap (λ b. (b && is_same_value (value_leaf (property_kind q) w) a) && are_same_tags (shown_trees item ps) rest) (unlike w e)
      ] refl
    where
      unlike : (w : PropValue) → value_of q item ≡ Some w → is_code (property_code q) (property_code p) ≡ false
      unlike w e =
          false_from_ne_true (is_code (property_code q) (property_code p))
          (λ h. true≢false (sym (code_swapped (property_code p) (property_code q) h) ∙ other_code p q w item lacks e))

abbrev Entries : Type 0
Entries = List (Property × PropValue)

abbrev with_first : Property → Option PropValue → Entries → List Property → Trees
with_first p o item ps = trees_of (cons_option (option_map (property_tag p) o) (shown item ps))

both_first : (old new : Entries) (p : Property) (ps : List Property) (was is : Option PropValue) → value_of p old ≡ was → value_of p new ≡ is
    → are_same_tags (with_first p was old ps) (with_first p is new ps) ≡ (have_equal_value was is && are_same_tags (shown_trees old ps) (shown_trees new ps))
both_first old new p ps None None h k = refl
both_first old new p ps None (Some w) h k = none_begins_it p (value_leaf (property_kind p) w) (shown_trees new ps) old h ps
both_first old new p ps (Some v) None h k = none_begins p (value_leaf (property_kind p) v) (shown_trees old ps) new k ps
both_first old new p ps (Some v) (Some w) h k = ap (λ b. b && are_same_tags (shown_trees old ps) (shown_trees new ps)) (tags_alike p v w)

-- one property decides its own tag, and the others decide the rest
alike_cons : (old new : Entries) (p : Property) (ps : List Property)
    → are_same_tags (shown_trees old (p ∷ ps)) (shown_trees new (p ∷ ps)) ≡ (have_equal_value (value_of p old) (value_of p new) && are_same_tags (shown_trees old ps) (shown_trees new ps))
alike_cons old new p ps = both_first old new p ps (value_of p old) (value_of p new) refl refl

-- the same at an index in the list
pub alike_at : (old new : Entries) (ps : List Property) (i : ℕ) (d : Property) → i < length ps
    → are_same_tags (shown_trees old (drop i ps)) (shown_trees new (drop i ps))
    ≡ (have_equal_value (value_of (get_or ps i d) old) (value_of (get_or ps i d) new) && are_same_tags (shown_trees old (drop (i + 1) ps)) (shown_trees new (drop (i + 1) ps)))
alike_at old new ps i d h =
    at_drop_more (λ qs. are_same_tags (shown_trees old qs) (shown_trees new qs)) ps i d h ∙ alike_cons old new (get_or ps i d) (drop (i + 1) ps)

-- ---- rows

-- apart from the key as a member, the keys of a row are its id
pub rows_alike : (old new : Row) (member : Option ℕ) (ps : List Property)
    → is_same_tag (listed_row old member ps) (listed_row new member ps) ≡ ((old.id == new.id) && are_same_tags (shown_trees old.item ps) (shown_trees new.item ps))
rows_alike old new None ps = ap (λ b. b && are_same_tags (shown_trees old.item ps) (shown_trees new.item ps)) (and-true (old.id == new.id))
rows_alike old new (Some member) ps =
    ap (λ b. (b && true) && (((old.id == new.id) && true) && are_same_tags (shown_trees old.item ps) (shown_trees new.item ps))) (eq-eqb member member refl)
    ∙ ap (λ b. b && are_same_tags (shown_trees old.item ps) (shown_trees new.item ps)) (and-true (old.id == new.id))
