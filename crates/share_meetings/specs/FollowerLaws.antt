-- Theorems about a client that follows a share.
use Rattle.std.specs.Prelude.{◌≡◌, ◌≤◌, ◌⊎◌, ℕ, List, [], ◌∷◌, length, Option, Some}
use Rattle.dmap_tags.specs.Tree.{Tree}
use Rattle.item_model.specs.declared.changes.Entry.{Entry}
use Rattle.item_model.specs.declared.query.Query.{Query}
use Rattle.item_model.specs.declared.request.Meta.{Meta}
use Rattle.item_model.specs.declared.request.Target.{Target}
use Rattle.share_history.specs.Histories.{all_edits, at_revision}
use Rattle.share_history.specs.Listings.{shown_rows}
use Rattle.share_history.specs.Rows.{rows}
use Rattle.share_replies.specs.Settings.{Settings}
use Rattle.mirror_core.specs.declared.mirror.Applied.{Applied}
use Rattle.mirror_core.specs.Mirrored.{Mirrored}
use Rattle.mirror_client.specs.Points.{Point}
use Rattle.mirror_client.specs.declared.refusal.FollowError.{FollowError}
use Rattle.mirror_client.specs.declared.refusal.FollowError.TheVariants.{LinkFault, Memory}
use Rattle.mirror_client.specs.Runs.{Followed}
use Rattle.mirror_client.specs.Stages.{Begun, StopsFrom}
use Rattle.share_history.specs.Whole.{IsWhole}
use Rattle.share_meetings.specs.ServedRuns.{ServesRun}

-- The revision of the last round.
abbrev pub last_revision : List Applied → ℕ
last_revision [] = 0
last_revision (a ∷ []) = a.revision
last_revision (a ∷ b ∷ xs) = last_revision (b ∷ xs)

-- The rows that the query selects at a revision of the history.
abbrev pub rows_at : List Entry → Target → Option Query → Meta → ℕ → List (ℕ × Tree)
rows_at h target query meta v = shown_rows target meta (rows (all_edits (at_revision h v)) target query)

-- A mirror at revision 0 followed a listing to its end, over a connection whose bytes are a share's. It holds what
-- the share had at the revision of its last round.
abbrev pub FollowersHoldTheRows : Type 0
FollowersHoldTheRows =
    (host : List ℕ) (m : Mirrored) (rounds : ℕ) (p : Point) (taken : Option (List ℕ)) (applied : List Applied) (now : Mirrored) (s : Settings) (h : List Entry) (bytes : List ℕ)
    → Followed host m rounds p taken applied now → 1 ≤ rounds → m.held.revision ≡ 0 → IsWhole h → p.owed ≡ Some bytes → ServesRun s m.target m.query m.meta h bytes
    → now.held.rows ≡ rows_at h m.target m.query m.meta (last_revision applied)

-- Such bytes stop no client that follows for as many rounds, unless the connection or an allocation fails.
abbrev pub ServedRunsGoOn : Type 0
ServedRunsGoOn =
    (host : List ℕ) (m : Mirrored) (rounds : ℕ) (p : Point) (taken : Option (List ℕ)) (e : FollowError) (now : Mirrored) (s : Settings) (h : List Entry) (bytes : List ℕ)
    → StopsFrom host m rounds Begun p taken e now → m.held.revision ≡ 0 → IsWhole h → p.owed ≡ Some bytes → (run : ServesRun s m.target m.query m.meta h bytes)
    → length (run.first ∷ run.others) ≡ rounds → (e ≡ LinkFault) ⊎ (e ≡ Memory)
