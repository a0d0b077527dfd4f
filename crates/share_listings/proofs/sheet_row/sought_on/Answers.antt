use Rattle.std.proofs.Common.{◌≡◌, ◌<◌, length, get_or, subst, ◌∙◌, rules}
use Rattle.std.proofs.lemmas.List.{get_or_default}
use Rattle.dmap_tags.specs.declared.kinds.Kind.TheVariants.{Text as TextKind}
use Rattle.item_model.specs.declared.property.Property.{Property}
use Rattle.row_sheets.specs.Held.{IsIndex}
use Rattle.share_listings.proofs.SheetRowFacts.{empty_sought, text_sought}
use Rattle.share_listings.proofs.sheet_row.sought_on.Goals as goal

pub returns-then-is_empty : goal.returns-then-is_empty
returns-then-is_empty c =
    let sheet = c.args.sheet.now in
    let column = c.in_ok-column.column in
    let found = subst (λ ps. IsIndex ps column c.args.property) c.properties.ensures.properties c.in_ok-column.ensures.some in
    let is : (d : Property) → get_or sheet.properties column d ≡ c.args.property =
    λ d. get_or_default sheet.properties column d c.args.property found.below ∙ found.there in
    let none : length c.tag_on-tag.result.now ≡ 0 = search rules in
    empty_sought sheet c.args.index c.requires c.args.property column found.below is c.tag_on-tag.result.now c.tag_on-tag.ensures none

pub returns-in-Some : goal.returns-in-Some
returns-in-Some c =
    let sheet = c.args.sheet.now in
    let column = c.in_ok-column.column in
    let found = subst (λ ps. IsIndex ps column c.args.property) c.properties.ensures.properties c.in_ok-column.ensures.some in
    let is : (d : Property) → get_or sheet.properties column d ≡ c.args.property =
    λ d. get_or_default sheet.properties column d c.args.property found.below ∙ found.there in
    let some : 0 < length c.tag_on-tag.result.now = search rules in
    let kind = subst (λ k. k ≡ TextKind) c.kind.ensures c.in-Some.ensures.kind in
    text_sought sheet c.args.index c.requires c.args.property column found.below is c.tag_on-tag.result.now c.tag_on-tag.ensures
    c.rows-rows.ensures.values kind c.in-Some.text c.in-Some.ensures.text c.in-Some.ensures.ascii some
