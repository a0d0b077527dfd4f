-- The levels of tags, and how a tag is sent.
use Rattle.std.proofs.Common.{◌≡◌, ℕ, suc, max, true, false, List, [], ◌∷◌, length, Some, codes, refl, sym, ap, subst, arith}
use Rattle.std.proofs.lemmas.Bool.Decides.{nat_tests}
use Rattle.std.specs.Prelude.{nat_le}
use Rattle.serde.specs.Event.{Log, Logs, text, map_begins, map_ends, field_key}
use Rattle.serde.specs.declared.name.Case.TheVariants.{AsIs}
use Rattle.serde_json.specs.Events.{items_len, SendsValue}
use Rattle.dmap_tags.specs.Codes.{Four}
use Rattle.dmap_tags.specs.Seen.{tree_with}
use Rattle.dmap_tags.specs.Tree.{Tree, trees_of, tree_code}
use Rattle.dmap_tags.specs.declared.tree.Value.{Value}
use Rattle.dmap_tags.specs.declared.tree.Value.TheVariants.{U8, I8, U16, I16, U32, I32, U64, I64, Text, Date, Version, List as Members, Opaque}
use Rattle.dmap_show.specs.Shown.{shown_code, word_of}
use Rattle.dmap_json.specs.TagObject.{json_held, json_items, json_of}

-- a number within the limit leaves the test of the maximum to the other, and one above decides it
pub max_within : (a b most : ℕ) → nat_le a most ≡ true → nat_le (max a b) most ≡ nat_le b most
max_within a b most h = grind (arith, nat_tests)

pub max_beyond : (a b most : ℕ) → nat_le a most ≡ false → nat_le (max a b) most ≡ false
max_beyond a b most h = grind (arith, nat_tests)

-- a list has one item for each tag
pub items_len_is : (ts : List Tree) → items_len (json_items (trees_of ts)) ≡ length ts
items_len_is [] = refl
items_len_is (t ∷ ts) = ap suc (items_len_is ts)

-- a tag is sent as an object, member by member
pub sends_tag : (code : Four) (value : Value) (old a b c d e f g new : Log) → Logs old a (map_begins (Some 3)) → Logs a b (field_key (codes "code") AsIs) → Logs b c (text (shown_code code))
    → Logs c d (field_key (codes "kind") AsIs) → Logs d e (text (word_of (tree_with code value))) → Logs e f (field_key (codes "value") AsIs)
    → SendsValue (json_held (tree_with code value)) f g → Logs g new map_ends → SendsValue (json_of (tree_with code value)) old new
sends_tag code value old a b c d e f g new begun code_key code_sent kind_key kind_sent value_key value_sent ended =
    (a, begun, (b, c, code_key, subst (λ x. Logs b c (text (shown_code x))) (sym (code_with code value)) code_sent, (d, e, kind_key, kind_sent, (f, g, value_key, value_sent, ended))))
  where
    code_with : (code : Four) (value : Value) → tree_code (tree_with code value) ≡ code
    code_with code (U8 n) = refl
    code_with code (I8 z) = refl
    code_with code (U16 n) = refl
    code_with code (I16 z) = refl
    code_with code (U32 n) = refl
    code_with code (I32 z) = refl
    code_with code (U64 n) = refl
    code_with code (I64 z) = refl
    code_with code (Text bytes) = refl
    code_with code (Date n) = refl
    code_with code (Version n) = refl
    code_with code (Members ts) = refl
    code_with code (Opaque bytes) = refl
