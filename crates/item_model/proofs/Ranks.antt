-- A property is determined by its rank in the order of listings.
use Rattle.std.proofs.Common.{◌≡◌, ◌<◌, ℕ, true, slice_index_or, refl, sym, ap, ◌∙◌, arith}
use Rattle.std.proofs.lemmas.Bool.{eqb-true}
use Rattle.item_model.specs.declared.property.Property.{Property}
use Rattle.item_model.specs.declared.property.Property.TheVariants.{Minm, Mikd, Mper, Asar, Asal, Asaa, Asgn, Ascp, Ascm, Agrp, Asfm, Asyr, Astn, Astc, Asdn, Asdc, Asbr, Asbt, Astm, Assr, Assz, Asur, Asco, Aemk, Asda, Asdm}
use Rattle.item_model.specs.Properties.{property_count, all_properties, rank_of, is_same}

abbrev pub property_at : ℕ → Property
property_at n = slice_index_or all_properties n Minm

-- the table has each property at its rank
pub at_rank : (p : Property) → property_at (rank_of p) ≡ p
at_rank Minm = refl
at_rank Mikd = refl
at_rank Mper = refl
at_rank Asar = refl
at_rank Asal = refl
at_rank Asaa = refl
at_rank Asgn = refl
at_rank Ascp = refl
at_rank Ascm = refl
at_rank Agrp = refl
at_rank Asfm = refl
at_rank Asyr = refl
at_rank Astn = refl
at_rank Astc = refl
at_rank Asdn = refl
at_rank Asdc = refl
at_rank Asbr = refl
at_rank Asbt = refl
at_rank Astm = refl
at_rank Assr = refl
at_rank Assz = refl
at_rank Asur = refl
at_rank Asco = refl
at_rank Aemk = refl
at_rank Asda = refl
at_rank Asdm = refl

-- properties with the same rank are equal
pub same_property : (p q : Property) → is_same p q ≡ true → p ≡ q
same_property p q h =
    let e : rank_of p ≡ rank_of q = eqb-true _ _ h in
    sym (at_rank p) ∙ ap property_at e ∙ at_rank q

-- each rank is below the number of properties
pub rank_below : (p : Property) → rank_of p < property_count
rank_below Minm = omega arith
rank_below Mikd = omega arith
rank_below Mper = omega arith
rank_below Asar = omega arith
rank_below Asal = omega arith
rank_below Asaa = omega arith
rank_below Asgn = omega arith
rank_below Ascp = omega arith
rank_below Ascm = omega arith
rank_below Agrp = omega arith
rank_below Asfm = omega arith
rank_below Asyr = omega arith
rank_below Astn = omega arith
rank_below Astc = omega arith
rank_below Asdn = omega arith
rank_below Asdc = omega arith
rank_below Asbr = omega arith
rank_below Asbt = omega arith
rank_below Astm = omega arith
rank_below Assr = omega arith
rank_below Assz = omega arith
rank_below Asur = omega arith
rank_below Asco = omega arith
rank_below Aemk = omega arith
rank_below Asda = omega arith
rank_below Asdm = omega arith
