-- What the tags on a sheet say of a row's values.
use Rattle.std.proofs.Common.{◌≡◌, ◌≢◌, ◌<◌, refl, ◌+◌, ◌-◌, ◌++◌, ℕ, true, false, List, [], ◌∷◌, length, get_or, take, drop, sym, ap, ◌∙◌, subst, append-nil, Option, Some, None, IfSome, All, Bor, IsAscii, arith}
use Rattle.std.specs.List.{cons_option}
use Rattle.std.specs.Option.{option_map}
use Rattle.std.proofs.lemmas.Bool.{ltb-true}
use Rattle.std.proofs.lemmas.List.{drop_more, get_or_default}
use Rattle.dmap_tags.specs.Tree.{trees_of}
use Rattle.dmap_tags.specs.Spelling.{spellings}
use Rattle.dmap_tags.specs.declared.kinds.Kind.{Kind}
use Rattle.dmap_tags.specs.declared.kinds.Kind.TheVariants.{Text as TextKind}
use Rattle.item_model.specs.declared.property.Property.{Property}
use Rattle.item_model.specs.declared.item.PropValue.{PropValue}
use Rattle.item_model.specs.declared.item.PropValue.TheVariants.{Number, Text as Words}
use Rattle.item_model.specs.declared.item.Row.{Row}
use Rattle.item_model.specs.declared.query.Query.{Query}
use Rattle.item_model.specs.declared.folds.Sought.TheVariants.{Text as SoughtText}
use Rattle.item_model.specs.Folding.{lowered, IsSearchedFor}
use Rattle.item_model.specs.Folds.{IsSoughtIfAny}
use Rattle.item_model.specs.Items.{value_of, is_value_of, is_of_kind}
use Rattle.item_model.specs.Projection.{mentions, property_tag}
use Rattle.item_model.specs.Properties.{property_kind}
use Rattle.item_model.proofs.FoldLaws.{folded_ascii}
use Rattle.row_sheets.specs.Cells.{cell, row_cells, joined, HasNoOther, HasValues}
use Rattle.row_sheets.specs.Spelled.{Spelled}
use Rattle.row_sheets.specs.Sheets.{by_id}
use Rattle.share_listings.specs.SheetRows.{no_row, sheet_row}
use Rattle.share_listings.proofs.SheetFacts.{selected_by, selected_row_more}

-- the tag of a value, or nothing
abbrev tag_of : Property → Option PropValue → List ℕ
tag_of p value = spellings (trees_of (cons_option (option_map (property_tag p) value) []))

-- a tag has bytes
no_value : (p : Property) (value : Option PropValue) → tag_of p value ≡ [] → IsSoughtIfAny value None
no_value p None e = tt
no_value p (Some v) e = absurd (cc)

-- the item lacks a property whose cell is empty
pub nothing_sought : (p : Property) (item : List (Property × PropValue)) → cell item p ≡ [] → IsSoughtIfAny (value_of p item) None
nothing_sought p item e = no_value p (value_of p item) e

-- the payload of a tag is what follows its code and its length
payload_at : (p : Property) (bytes : List ℕ) → drop 8 (tag_of p (Some (Words bytes))) ≡ bytes
payload_at p bytes = append-nil bytes

no_number : (kind : Kind) (n : ℕ) → kind ≡ TextKind → is_of_kind kind (Number n) ≡ true → ⊥
no_number kind n k h = omega (arith, ltb-true n 0 (subst (λ kind. is_of_kind kind (Number n) ≡ true) k h))

ascii_searched : (text searched : List ℕ) → searched ≡ text → IsAscii searched → IsSearchedFor text searched
ascii_searched text searched e ascii = ap lowered e ∙ sym (folded_ascii text (subst IsAscii e ascii))

text_value : (p : Property) (value : Option PropValue) (s : Bor (List ℕ)) → IfSome value (λ v. is_value_of p v ≡ true) → property_kind p ≡ TextKind
    → tag_of p value ≢ [] → s.now ≡ drop 8 (tag_of p value) → IsAscii s.now → IsSoughtIfAny value (Some (SoughtText s))
text_value p None s h k some e ascii = absurd (some refl)
text_value p (Some (Number n)) s h k some e ascii = absurd (no_number (property_kind p) n k h)
text_value p (Some (Words bytes)) s h k some e ascii = ascii_searched bytes s.now (e ∙ payload_at p bytes) ascii

-- ---- the rows of a sheet

module _ (sheet : Spelled) (index : ℕ) (lt : index < length sheet.rows) (p : Property) where
  abbrev row : Row
  row = sheet_row sheet index

  -- the row lacks a property that is not among those of its sheet
  pub other_sought : All (HasNoOther sheet.properties) sheet.rows → mentions sheet.properties p ≡ false → IsSoughtIfAny (value_of p row.item) None
  other_sought all h = nothing_sought p row.item (all index no_row lt p h)

  module _ (place : ℕ) (within : place < length sheet.properties) (is : (d : Property) → get_or sheet.properties place d ≡ p) (tag : List ℕ) (cut : (d : Row) → tag ≡ joined (row_cells (take (place + 1 - place) (drop place sheet.properties)) (get_or sheet.rows index d))) where
    -- the bytes are those of the cell
    pub tag_is : tag ≡ cell row.item p
    tag_is =
        let one : place + 1 - place ≡ 1 = omega arith in
        cut no_row
        ∙ ap (λ ps. joined (row_cells ps row)) (ap (λ n. take n (drop place sheet.properties)) one ∙ ap (take 1) (drop_more sheet.properties place p within) ∙ ap (λ q. q ∷ []) (is p))
        ∙ append-nil (cell row.item p)

    pub empty_sought : length tag ≡ 0 → IsSoughtIfAny (value_of p row.item) None
    empty_sought none = nothing_sought p row.item (sym tag_is ∙ nil tag none)
      where
        nil : (xs : List ℕ) → length xs ≡ 0 → xs ≡ []
        nil [] e = refl
        nil (x ∷ xs) e = absurd (omega arith)

    -- a text that is ASCII may be searched as it is
    pub text_sought : All HasValues sheet.rows → property_kind p ≡ TextKind → (s : Bor (List ℕ)) → s.now ≡ drop 8 tag → IsAscii s.now → 0 < length tag → IsSoughtIfAny (value_of p row.item) (Some (SoughtText s))
    text_sought all kind s e ascii some =
        text_value p (value_of p row.item) s (all index no_row lt p) kind
        (λ none. absurd (omega (arith, ap length (tag_is ∙ none), some))) (e ∙ ap (drop 8) tag_is) ascii

-- one row more of a sheet, if a query selects it
pub selected_row_at : (sheet : Spelled) (index : ℕ) (query : Option Query) (old new all : List (ℕ × Row)) → index < length sheet.rows → new ≡ old ++ selected_by query (by_id (sheet_row sheet index ∷ []))
    → old ++ selected_by query (by_id (drop index sheet.rows)) ≡ all → new ++ selected_by query (by_id (drop (index + 1) sheet.rows)) ≡ all
selected_row_at sheet index query old new all lt added so_far =
    let row : Row = sheet_row sheet index in
    selected_row_more sheet.rows index row query old new all lt (get_or_default sheet.rows index no_row row lt) added so_far
