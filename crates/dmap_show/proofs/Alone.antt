-- A tag that is no list has one line.
use Rattle.std.proofs.Common.{◌≡◌, ℕ, List, refl}
use Rattle.dmap_tags.specs.Codes.{Four}
use Rattle.dmap_tags.specs.Seen.{tree_with}
use Rattle.dmap_tags.specs.Tree.{Tree}
use Rattle.dmap_tags.specs.declared.tree.Value.{Value}
use Rattle.dmap_tags.specs.declared.tree.Value.TheVariants as value
use Rattle.dmap_show.specs.Readable.{IsCode, HasValue, IsTag}
use Rattle.dmap_show.specs.Shown.{shown_line, shown_tag}

pub alone_shown : (level : ℕ) (c : Four) (v : Value) → ((ts : List Tree) → v ≡ value.List ts → ⊥) → shown_line level (tree_with c v) ≡ shown_tag level (tree_with c v)
alone_shown level c (value.List ts) other = absurd (other ts refl)
alone_shown level c (value.U8 n) other = refl
alone_shown level c (value.I8 z) other = refl
alone_shown level c (value.U16 n) other = refl
alone_shown level c (value.I16 z) other = refl
alone_shown level c (value.U32 n) other = refl
alone_shown level c (value.I32 z) other = refl
alone_shown level c (value.U64 n) other = refl
alone_shown level c (value.I64 z) other = refl
alone_shown level c (value.Text bytes) other = refl
alone_shown level c (value.Date n) other = refl
alone_shown level c (value.Version n) other = refl
alone_shown level c (value.Opaque bytes) other = refl

pub alone_held : (c : Four) (v : Value) → ((ts : List Tree) → v ≡ value.List ts → ⊥) → IsCode c × HasValue (tree_with c v) → IsTag (tree_with c v)
alone_held c (value.List ts) other held = absurd (other ts refl)
alone_held c (value.U8 n) other held = held
alone_held c (value.I8 z) other held = held
alone_held c (value.U16 n) other held = held
alone_held c (value.I16 z) other held = held
alone_held c (value.U32 n) other held = held
alone_held c (value.I32 z) other held = held
alone_held c (value.U64 n) other held = held
alone_held c (value.I64 z) other held = held
alone_held c (value.Text bytes) other held = held
alone_held c (value.Date n) other held = held
alone_held c (value.Version n) other held = held
alone_held c (value.Opaque bytes) other held = held
