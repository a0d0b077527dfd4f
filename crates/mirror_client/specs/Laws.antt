-- What a mirror holds whose listings are a share's answers, at lengths of one history that never decrease.
use Rattle.std.specs.Prelude.{◌≡◌, ⊤, ℕ, List, [], ◌∷◌, ◌++◌, Option}
use Rattle.item_model.specs.declared.changes.Entry.{Entry}
use Rattle.item_model.specs.declared.query.Query.{Query}
use Rattle.item_model.specs.declared.request.Meta.{Meta}
use Rattle.item_model.specs.declared.request.Target.{Target}
use Rattle.share_history.specs.Histories.{batches, revision}
use Rattle.share_history.specs.Listings.{Listing, listing}
use Rattle.share_history.specs.Mirror.{Held, mirrored, mirror_look}
use Rattle.code_table.specs.declared.row.CodeRow.{CodeRow}
use Rattle.share_history.specs.Bodies.{listing_body}
use Rattle.mirror_core.specs.declared.mirror.Applied.{Applied}
use Rattle.mirror_core.specs.Mirrored.{Mirrored}
use Rattle.mirror_client.specs.Exchanges.{Exchange}
use Rattle.mirror_client.specs.Points.{Point}
use Rattle.mirror_client.specs.Runs.{Followed}
use Rattle.mirror_client.specs.Steps.{held_after}
use Rattle.mirror_client.specs.Tellings.{Tells}

-- Each of these histories is a prefix of the next, and `h` of the first.
abbrev pub NeverFall : List Entry → List (List Entry) → Type 0
NeverFall h [] = ⊤
NeverFall h (k ∷ hs) = ((later : List Entry) × (k ≡ h ++ later)) × NeverFall k hs

abbrev pub last_point : List Entry → List (List Entry) → List Entry
last_point h [] = h
last_point h (k ∷ hs) = last_point k hs

-- The listings are those of a share with a window of `keep` revisions. At each history the mirror asks with the
-- revision of the one before, and first with `base`.
abbrev pub AreAnswers : ℕ → Target → Option Query → Meta → ℕ → List (List Entry) → List Listing → Type 0
AreAnswers keep target query meta base [] [] = ⊤
AreAnswers keep target query meta base [] (l ∷ ls) = ⊥
AreAnswers keep target query meta base (h ∷ hs) [] = ⊥
AreAnswers keep target query meta base (h ∷ hs) (l ∷ ls) =
    (l ≡ listing keep (batches h) target (mirror_look query meta base)) × AreAnswers keep target query meta (revision (batches h)) hs ls

-- Whatever the mirror held before, it then holds what the share has at the last history.
abbrev pub FollowersHoldTheFilter : Type 0
FollowersHoldTheFilter =
    (keep : ℕ) (target : Target) (query : Option Query) (meta : Meta) (nothing : Held) (h : List Entry) (hs : List (List Entry)) (ls : List Listing)
    → NeverFall h hs → AreAnswers keep target query meta 0 (h ∷ hs) ls
    → held_after nothing ls ≡ mirrored (batches (last_point h hs)) target query meta

-- After the table and the login, every second exchange is a listing's.
abbrev pub each_second : List Exchange → List Exchange
each_second [] = []
each_second (x ∷ []) = x ∷ []
each_second (x ∷ y ∷ xs) = x ∷ each_second xs

abbrev pub rounds_in : List Exchange → List Exchange
rounds_in (table ∷ login ∷ xs) = each_second xs
rounds_in xs = []

-- The answers in these rounds are a share's, at these histories, to a mirror whose first request has the base `base`.
abbrev pub AreTold : ℕ → List CodeRow → Target → Option Query → Meta → ℕ → List (List Entry) → List Exchange → Type 0
AreTold keep rows target query meta base [] [] = ⊤
AreTold keep rows target query meta base [] (x ∷ xs) = ⊥
AreTold keep rows target query meta base (h ∷ hs) [] = ⊥
AreTold keep rows target query meta base (h ∷ hs) (x ∷ xs) =
    Tells rows x.answer (listing_body keep h target (mirror_look query meta base)) × AreTold keep rows target query meta (revision (batches h)) hs xs

-- A mirror at revision 0 that followed a share for all its rounds, at histories that never shrink, holds what the
-- share has at the last.
abbrev pub FollowersHoldWhatTheShareHas : Type 0
FollowersHoldWhatTheShareHas =
    (host : List ℕ) (m : Mirrored) (rounds : ℕ) (p : Point) (taken : Option (List ℕ)) (applied : List Applied) (now : Mirrored) (keep : ℕ) (h : List Entry)
    (hs : List (List Entry)) (f : Followed host m rounds p taken applied now) → m.held.revision ≡ 0 → NeverFall h hs
    → AreTold keep f.known.rows m.target m.query m.meta 0 (h ∷ hs) (rounds_in f.walks.exchanges)
    → now.held ≡ mirrored (batches (last_point h hs)) m.target m.query m.meta
