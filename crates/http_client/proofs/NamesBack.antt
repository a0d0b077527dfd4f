-- The text of named properties is ASCII and short.
use Rattle.std.proofs.Common.{◌≡◌, ◌≤◌, ◌+◌, ◌*◌, ℕ, Bool, true, nat_lt, List, [], ◌∷◌, length, refl, ◌∙◌, arith, length-append}
use Rattle.std.specs.List.{list_all}
use Rattle.std.proofs.lemmas.Bool.{and_from}
use Rattle.std.proofs.lemmas.List.Folds.{list_all-append}
use Rattle.item_model.specs.declared.property.Property.{Property}
use Rattle.item_model.specs.declared.property.Property.TheVariants.{Minm, Mikd, Mper, Asar, Asal, Asaa, Asgn, Ascp, Ascm, Agrp, Asfm, Asyr, Astn, Astc, Asdn, Asdc, Asbr, Asbt, Astm, Assr, Assz, Asur, Asco, Aemk, Asda, Asdm}
use Rattle.item_model.specs.Names.{names_text, more_names}
use Rattle.item_model.specs.Properties.{property_name}

name_short : (p : Property) → length (property_name p) ≤ 30
name_short Minm = omega arith
name_short Mikd = omega arith
name_short Mper = omega arith
name_short Asar = omega arith
name_short Asal = omega arith
name_short Asaa = omega arith
name_short Asgn = omega arith
name_short Ascp = omega arith
name_short Ascm = omega arith
name_short Agrp = omega arith
name_short Asfm = omega arith
name_short Asyr = omega arith
name_short Astn = omega arith
name_short Astc = omega arith
name_short Asdn = omega arith
name_short Asdc = omega arith
name_short Asbr = omega arith
name_short Asbt = omega arith
name_short Astm = omega arith
name_short Assr = omega arith
name_short Assz = omega arith
name_short Asur = omega arith
name_short Asco = omega arith
name_short Aemk = omega arith
name_short Asda = omega arith
name_short Asdm = omega arith

abbrev pub is_low : ℕ → Bool
is_low b = nat_lt b 128

name_low : (p : Property) → list_all is_low (property_name p) ≡ true
name_low Minm = refl
name_low Mikd = refl
name_low Mper = refl
name_low Asar = refl
name_low Asal = refl
name_low Asaa = refl
name_low Asgn = refl
name_low Ascp = refl
name_low Ascm = refl
name_low Agrp = refl
name_low Asfm = refl
name_low Asyr = refl
name_low Astn = refl
name_low Astc = refl
name_low Asdn = refl
name_low Asdc = refl
name_low Asbr = refl
name_low Asbt = refl
name_low Astm = refl
name_low Assr = refl
name_low Assz = refl
name_low Asur = refl
name_low Asco = refl
name_low Aemk = refl
name_low Asda = refl
name_low Asdm = refl

more_short : (ps : List Property) → length (more_names ps) ≤ 31 * length ps
more_short [] = omega arith
more_short (p ∷ ps) = simp length-append (omega (arith, name_short p, more_short ps))

-- the text of names, a byte for the comma of none
pub names_short : (ps : List Property) → length (names_text ps) ≤ 31 * length ps + 1
names_short [] = omega arith
names_short (p ∷ ps) = simp length-append (omega (arith, name_short p, more_short ps))

more_low : (ps : List Property) → list_all is_low (more_names ps) ≡ true
more_low [] = refl
more_low (p ∷ ps) = list_all-append is_low (property_name p) (more_names ps) ∙ and_from _ _ (name_low p) (more_low ps)

pub names_low : (ps : List Property) → list_all is_low (names_text ps) ≡ true
names_low [] = refl
names_low (p ∷ ps) = list_all-append is_low (property_name p) (more_names ps) ∙ and_from _ _ (name_low p) (more_low ps)
