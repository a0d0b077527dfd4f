-- No text of an item is long.
use Rattle.std.proofs.Common.{◌≡◌, ◌≤◌, ℕ, true, false, List, length, nat_lt, nat_le, arith}
use Rattle.std.proofs.lemmas.Bool.{and_parts, leb-true}
use Rattle.dmap_tags.specs.declared.kinds.Kind.{Kind}
use Rattle.dmap_tags.specs.declared.kinds.Kind.TheVariants.{U8, I8, U16, I16, U32, I32, U64, I64, Text, Date, Version, List as Members, Opaque}
use Rattle.item_model.specs.declared.property.Property.{Property}
use Rattle.item_model.specs.declared.item.PropValue.TheVariants.{Text as Words}
use Rattle.item_model.specs.declared.item.Row.{Row}
use Rattle.item_model.specs.declared.request.Browse.{Browse}
use Rattle.item_model.specs.declared.request.Browse.TheVariants.{Artists, Albums, Genres, Composers}
use Rattle.item_model.specs.Items.{is_text_of, is_value_of}
use Rattle.item_model.specs.Properties.{property_kind}
use Rattle.prop_index.specs.Forms.{browse_text}
use Rattle.share_core.specs.Short.{HasShortTexts}

short_text : (kind : Kind) (bytes : List ℕ) → is_text_of kind bytes ≡ true → length bytes ≤ 255
short_text Text bytes h = leb-true _ _ (and_parts _ _ h).1
short_text U8 bytes h = absurd (cc)
short_text I8 bytes h = absurd (cc)
short_text U16 bytes h = absurd (cc)
short_text I16 bytes h = absurd (cc)
short_text U32 bytes h = absurd (cc)
short_text I32 bytes h = absurd (cc)
short_text U64 bytes h = absurd (cc)
short_text I64 bytes h = absurd (cc)
short_text Date bytes h = absurd (cc)
short_text Version bytes h = absurd (cc)
short_text Members bytes h = absurd (cc)
short_text Opaque bytes h = absurd (cc)

pub short_value : (p : Property) (bytes : List ℕ) → is_value_of p (Words bytes) ≡ true → length bytes ≤ 255
short_value p bytes h = short_text (property_kind p) bytes h

pub all_short : (row : Row) → length (browse_text Artists row) ≤ 255 → length (browse_text Albums row) ≤ 255 → length (browse_text Genres row) ≤ 255
    → length (browse_text Composers row) ≤ 255 → HasShortTexts row
all_short row artist album genre composer Artists = artist
all_short row artist album genre composer Albums = album
all_short row artist album genre composer Genres = genre
all_short row artist album genre composer Composers = composer
