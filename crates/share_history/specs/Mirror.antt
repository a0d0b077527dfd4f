-- What a mirror holds: a revision, and rows by their keys. A full listing replaces its rows; a delta deletes keys and
-- then puts rows. The revision becomes the listing's.
use Rattle.std.specs.Prelude.{ℕ, List, [], Option, fold, if◌then◌else◌}
use Rattle.dmap_tags.specs.Tree.{Tree}
use Rattle.item_model.specs.declared.changes.Edit.{Edit}
use Rattle.item_model.specs.declared.query.Query.{Query}
use Rattle.item_model.specs.declared.request.Meta.{Meta}
use Rattle.item_model.specs.declared.request.Look.{Look}
use Rattle.item_model.specs.declared.request.Range.TheVariants.{All}
use Rattle.item_model.specs.declared.request.Target.{Target}
use Rattle.share_history.specs.Keyed.{put_in, taken_out}
use Rattle.share_history.specs.Histories.{revision, edits}
use Rattle.share_history.specs.Rows.{rows}
use Rattle.share_history.specs.Listings.{Listing, shown_rows}

pub record Held : Type 0 where
  pub revision : ℕ
  -- ascending by key
  pub rows : List (ℕ × Tree)

abbrev pub mirror_after : Held → Listing → Held
mirror_after held l =
    record {
      revision = l.revision;
      rows = fold put_in (if l.is_delta then fold taken_out held.rows l.gone else []) l.rows;
    }

-- what a mirror of a listing should hold: all matching rows, at the present revision
abbrev pub mirrored : List (List Edit) → Target → Option Query → Meta → Held
mirrored bs target query meta = record { revision = revision bs; rows = shown_rows target meta (rows (edits bs) target query) }

-- the request of a mirror: the whole listing, with the mirror's revision as the base
abbrev pub mirror_look : Option Query → Meta → ℕ → Look
mirror_look query meta base = record { query = query; meta = meta; base = base; range = All }
