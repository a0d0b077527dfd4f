use Rattle.std.proofs.Common.{◌≡◌, ◌∙◌, ℕ, List, get_or, length, map, refl, sym, ap, arith}
use Rattle.std.proofs.lemmas.List.{length-map}
use Rattle.std.proofs.Math.ListN.{get_or-map}
use Rattle.dmap_tags.specs.Codes.{Four, code_of}
use Rattle.dmap_tags.specs.declared.kinds.Kind.{Kind}
use Rattle.item_model.specs.Properties.{all_properties, property_count, property_row, rank_of}
use Rattle.item_model.specs.declared.property.Property.{Property}
use Rattle.item_model.specs.declared.property.Property.TheVariants.{Minm, Mikd, Mper, Asar, Asal, Asaa, Asgn, Ascp, Ascm, Agrp, Asfm, Asyr, Astn, Astc, Asdn, Asdc, Asbr, Asbt, Astm, Assr, Assz, Asur, Asco, Aemk, Asda, Asdm}
use Rattle.item_model.specs.declared.property.PropertyRow.{PropertyRow}
use Rattle.item_model.proofs.Ranks.{rank_below}
use Rattle.item_model.proofs.property.row_in.Goals as goal

abbrev shown : PropertyRow → Four × List ℕ × Kind
shown row = (code_of row.0, row.1.now, row.2)

-- the rows stand in the order of the ranks
at_rank : (d : Four × List ℕ × Kind) (p : Property) → get_or (map property_row all_properties) (rank_of p) d ≡ property_row p
at_rank d Minm = refl
at_rank d Mikd = refl
at_rank d Mper = refl
at_rank d Asar = refl
at_rank d Asal = refl
at_rank d Asaa = refl
at_rank d Asgn = refl
at_rank d Ascp = refl
at_rank d Ascm = refl
at_rank d Agrp = refl
at_rank d Asfm = refl
at_rank d Asyr = refl
at_rank d Astn = refl
at_rank d Astc = refl
at_rank d Asdn = refl
at_rank d Asdc = refl
at_rank d Asbr = refl
at_rank d Asbt = refl
at_rank d Astm = refl
at_rank d Assr = refl
at_rank d Assz = refl
at_rank d Asur = refl
at_rank d Asco = refl
at_rank d Aemk = refl
at_rank d Asda = refl
at_rank d Asdm = refl

row_at : (rows : List PropertyRow) (i : ℕ) (d : PropertyRow) (p : Property) → i ≡ rank_of p → map shown rows ≡ map property_row all_properties
    → shown (get_or rows i d) ≡ property_row p
row_at rows i d p ranked same =
    sym (get_or-map shown rows i d) ∙ ap (λ rs. get_or rs i (shown d)) same
    ∙ ap (λ j. get_or (map property_row all_properties) j (shown d)) ranked ∙ at_rank (shown d) p

pub bounds-rows-rank : goal.bounds-rows-rank
bounds-rows-rank c =
    let count : length c.args.rows.now ≡ property_count = sym (length-map c.args.rows.now shown) ∙ ap length c.requires in
    omega (arith, c.rank.ensures, rank_below c.args.property)

pub returns : goal.returns
returns c = row_at c.args.rows.now c.rank.result _ c.args.property c.rank.ensures c.requires
