-- What `follow` writes of a share: a line for each of some revisions, and then the rows of the last one. `bs` are the
-- batches of the share's history.
use Rattle.std.specs.Prelude.{ℕ, List, [], ◌∷◌, ◌++◌, length, Option}
use Rattle.item_model.specs.declared.changes.Edit.{Edit}
use Rattle.item_model.specs.declared.query.Query.{Query}
use Rattle.item_model.specs.declared.request.Meta.{Meta}
use Rattle.item_model.specs.declared.request.Target.{Target}
use Rattle.share_history.specs.Histories.{up_to}
use Rattle.share_history.specs.Listings.{Listing, listing}
use Rattle.share_history.specs.Mirror.{mirror_look, mirrored}
use Rattle.mirror_core.specs.declared.mirror.Applied.{Applied}
use Rattle.link_commands.specs.RoundLines.{round_line, shown_rows}

-- what a mirror tells of a listing, by the number of rows that it then holds
abbrev pub told_of : Listing → (rows : ℕ) → Applied
told_of l rows = record { revision = l.revision; delta = l.is_delta; put = length l.rows; dropped = length l.gone; rows = rows }

-- the line of a listing that a mirror at revision `base` requests after these batches
abbrev pub line_at : (keep : ℕ) → Target → Option Query → Meta → (base : ℕ) → List (List Edit) → List ℕ
line_at keep target query meta base bs =
    round_line (told_of (listing keep bs target (mirror_look query meta base)) (length (mirrored bs target query meta).rows))

-- the line of each revision, by the one before
abbrev pub lines_at : (keep : ℕ) → Target → Option Query → Meta → (bs : List (List Edit)) → (base : ℕ) → (revisions : List ℕ) → List ℕ
lines_at keep target query meta bs base [] = []
lines_at keep target query meta bs base (v ∷ vs) = line_at keep target query meta base (up_to bs v) ++ lines_at keep target query meta bs v vs

-- the last of some revisions, or the one before them
abbrev pub last_of : (base : ℕ) → (revisions : List ℕ) → ℕ
last_of base [] = base
last_of base (v ∷ vs) = last_of v vs

-- the rows that the query selects at the last revision
abbrev pub rows_text : Target → Option Query → Meta → (bs : List (List Edit)) → (revisions : List ℕ) → List ℕ
rows_text target query meta bs [] = []
rows_text target query meta bs (v ∷ []) = shown_rows (mirrored (up_to bs v) target query meta).rows
rows_text target query meta bs (v ∷ w ∷ vs) = rows_text target query meta bs (w ∷ vs)

-- both, from revision 0 on
abbrev pub follow_text : (keep : ℕ) → Target → Option Query → Meta → (bs : List (List Edit)) → (revisions : List ℕ) → List ℕ
follow_text keep target query meta bs vs = lines_at keep target query meta bs 0 vs ++ rows_text target query meta bs vs
