-- A printed `meta` text reads as what was printed, if some text reads as that.
use Rattle.std.proofs.Common.{◌≡◌, ◌≤◌, ◌<◌, ◌++◌, ◌==◌, ℕ, Bool, true, false, nat_le, List, [], ◌∷◌, length, map, codes, cond, refl, ap, subst, ◌∙◌, arith, append-nil, Some, None, Result, Ok, Err, IfOk}
use Rattle.std.specs.List.{filter_map, list_any}
use Rattle.std.specs.Str.{bytes_eq}
use Rattle.std.proofs.lemmas.Bool.{leb-true, le-leb}
use Rattle.std.proofs.lemmas.Bool.Decides.{nat_tests}
use Rattle.item_model.specs.declared.property.Property.{Property}
use Rattle.item_model.specs.declared.property.Property.TheVariants.{Minm, Mikd, Mper, Asar, Asal, Asaa, Asgn, Ascp, Ascm, Agrp, Asfm, Asyr, Astn, Astc, Asdn, Asdc, Asbr, Asbt, Astm, Assr, Assz, Asur, Asco, Aemk, Asda, Asdm}
use Rattle.item_model.specs.declared.request.Meta.{Meta}
use Rattle.item_model.specs.declared.request.Meta.TheVariants.{Default, All, Names}
use Rattle.item_model.specs.Limits.{names_limit}
use Rattle.item_model.specs.Properties.{property_name, property_named}
use Rattle.item_model.specs.Projection.{first_mentions}
use Rattle.item_model.specs.Names.{parts, named, meta_of, meta_text, names_text, more_names}
use Rattle.item_model.proofs.Parts.{part_front}
use Rattle.item_model.proofs.Distinct.{first_again, first_fewer, known_fewer}

-- a property is found by its name
pub named_again : (p : Property) → property_named (property_name p) ≡ Some p
unfolding property_named
named_again Minm = refl
named_again Mikd = refl
named_again Mper = refl
named_again Asar = refl
named_again Asal = refl
named_again Asaa = refl
named_again Asgn = refl
named_again Ascp = refl
named_again Ascm = refl
named_again Agrp = refl
named_again Asfm = refl
named_again Asyr = refl
named_again Astn = refl
named_again Astc = refl
named_again Asdn = refl
named_again Asdc = refl
named_again Asbr = refl
named_again Asbt = refl
named_again Astm = refl
named_again Assr = refl
named_again Assz = refl
named_again Asur = refl
named_again Asco = refl
named_again Aemk = refl
named_again Asda = refl
named_again Asdm = refl

-- no name has a comma
no_comma : (p : Property) → list_any (λ c. c == 44) (property_name p) ≡ false
no_comma Minm = refl
no_comma Mikd = refl
no_comma Mper = refl
no_comma Asar = refl
no_comma Asal = refl
no_comma Asaa = refl
no_comma Asgn = refl
no_comma Ascp = refl
no_comma Ascm = refl
no_comma Agrp = refl
no_comma Asfm = refl
no_comma Asyr = refl
no_comma Astn = refl
no_comma Astc = refl
no_comma Asdn = refl
no_comma Asdc = refl
no_comma Asbr = refl
no_comma Asbt = refl
no_comma Astm = refl
no_comma Assr = refl
no_comma Assz = refl
no_comma Asur = refl
no_comma Asco = refl
no_comma Aemk = refl
no_comma Asda = refl
no_comma Asdm = refl

-- no name begins as `all` does
not_all : (p : Property) (rest : List ℕ) → bytes_eq (property_name p ++ rest) (codes "all") ≡ false
not_all Minm rest = refl
not_all Mikd rest = refl
not_all Mper rest = refl
not_all Asar rest = refl
not_all Asal rest = refl
not_all Asaa rest = refl
not_all Asgn rest = refl
not_all Ascp rest = refl
not_all Ascm rest = refl
not_all Agrp rest = refl
not_all Asfm rest = refl
not_all Asyr rest = refl
not_all Astn rest = refl
not_all Astc rest = refl
not_all Asdn rest = refl
not_all Asdc rest = refl
not_all Asbr rest = refl
not_all Asbt rest = refl
not_all Astm rest = refl
not_all Assr rest = refl
not_all Assz rest = refl
not_all Asur rest = refl
not_all Asco rest = refl
not_all Aemk rest = refl
not_all Asda rest = refl
not_all Asdm rest = refl

-- no name is empty
not_empty : (p : Property) (rest : List ℕ) → 0 < length (property_name p ++ rest)
not_empty Minm rest = omega arith
not_empty Mikd rest = omega arith
not_empty Mper rest = omega arith
not_empty Asar rest = omega arith
not_empty Asal rest = omega arith
not_empty Asaa rest = omega arith
not_empty Asgn rest = omega arith
not_empty Ascp rest = omega arith
not_empty Ascm rest = omega arith
not_empty Agrp rest = omega arith
not_empty Asfm rest = omega arith
not_empty Asyr rest = omega arith
not_empty Astn rest = omega arith
not_empty Astc rest = omega arith
not_empty Asdn rest = omega arith
not_empty Asdc rest = omega arith
not_empty Asbr rest = omega arith
not_empty Asbt rest = omega arith
not_empty Astm rest = omega arith
not_empty Assr rest = omega arith
not_empty Assz rest = omega arith
not_empty Asur rest = omega arith
not_empty Asco rest = omega arith
not_empty Aemk rest = omega arith
not_empty Asda rest = omega arith
not_empty Asdm rest = omega arith

-- the parts of names with commas between them are the names
pub parts_names : (p : Property) (ps : List Property) → parts (names_text (p ∷ ps)) ≡ map property_name (p ∷ ps)
parts_names p [] =
    part_front (property_name p) [] (no_comma p) ∙ ap (λ name. name ∷ []) (append-nil (property_name p))
parts_names p (q ∷ qs) =
    part_front (property_name p) (44 ∷ (property_name q ++ more_names qs)) (no_comma p)
    ∙ ap (λ name. name ∷ parts (property_name q ++ more_names qs)) (append-nil (property_name p))
    ∙ ap (λ names. property_name p ∷ names) (parts_names q qs)

-- names are known by their properties
known_names : (ps : List Property) → filter_map property_named (map property_name ps) ≡ ps
known_names [] = refl
known_names (p ∷ ps) = rw (named_again p) (ap (λ qs. p ∷ qs) (known_names ps))

count_names : (ps : List Property) → length (map property_name ps) ≡ length ps
count_names [] = refl
count_names (p ∷ ps) = omega (arith, count_names ps)

nonempty : (n : ℕ) → 0 < n → (n == 0) ≡ false
nonempty n h = grind (arith, nat_tests)

-- the text of distinct properties, not too many, reads as them
names_read : (ps : List Property) → first_mentions ps ≡ ps → length ps ≤ names_limit → meta_of (names_text ps) ≡ Some (Names ps)
unfolding property_named
names_read [] d h = refl
names_read (p ∷ ps) d h =
    let few : length (map property_name (p ∷ ps)) ≤ names_limit = omega (arith, count_names (p ∷ ps), h) in
    rw (parts_names p ps, le-leb _ _ few, nonempty _ (not_empty p (more_names ps)), not_all p (more_names ps), known_names (p ∷ ps), d) refl

-- properties that some text names are distinct and not too many
pub record Came (text : List ℕ) (ps : List Property) : Type 0 where
  pub few : nat_le (length (parts text)) names_limit ≡ true
  pub known : named (parts text) ≡ ps

came_step : (text : List ℕ) (ps : List Property) (b e a : Bool) → nat_le (length (parts text)) names_limit ≡ b → cond b (Some (cond e Default (cond a All (Names (named (parts text)))))) None ≡ Some (Names ps) → Came text ps
came_step text ps true true a k h = absurd (cc)
came_step text ps true false true k h = absurd (cc)
came_step text ps true false false k h = record { few = k; known = cc }
came_step text ps false e a k h = absurd (cc)

-- what a text reads as, the printed text reads as
pub reads_back : (text : List ℕ) (meta : Meta) → meta_of text ≡ Some meta → meta_of (meta_text meta) ≡ Some meta
reads_back text Default h = refl
reads_back text All h = refl
reads_back text (Names ps) h =
    let came = came_step text ps (nat_le (length (parts text)) names_limit) (length text == 0) (bytes_eq text (codes "all")) refl h in
    let again : first_mentions ps ≡ ps = subst (λ qs. first_mentions qs ≡ qs) came.known (first_again (filter_map property_named (parts text))) in
    let some : length (parts text) ≤ names_limit = leb-true _ _ came.few in
    let few : length (named (parts text)) ≤ names_limit =
    omega (arith, some, first_fewer (filter_map property_named (parts text)), known_fewer property_named (parts text)) in
    names_read ps again (subst (λ qs. length qs ≤ names_limit) came.known few)

-- the same for the text that a call returns
pub printed_reads : {E : Type 0} → (r : Result (List ℕ) E) (meta : Meta) → IfOk r (λ printed. printed ≡ meta_text meta) → IfOk r (λ printed. (text : List ℕ) → meta_of text ≡ Some meta → meta_of printed ≡ Some meta)
printed_reads (Ok printed) meta h = λ text k. rw h (reads_back text meta k)
printed_reads (Err e) meta h = tt
