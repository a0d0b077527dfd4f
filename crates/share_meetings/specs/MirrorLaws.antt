-- What a mirror holds that followed a share over a connection which that share served. The history may have grown since.
use Rattle.std.specs.Prelude.{◌≡◌, ◌⊎◌, ℕ, List, [], ◌++◌, Option, Some}
use Rattle.std.specs.Io.KnownBytes.{Appends}
use Rattle.item_model.specs.declared.changes.Entry.{Entry}
use Rattle.outside_net.specs.Places.{Returned}
use Rattle.item_model.specs.declared.query.Query.{Query}
use Rattle.item_model.specs.declared.request.Meta.{Meta}
use Rattle.share_asks.specs.declared.ask.Role.{Role}
use Rattle.share_replies.specs.Settings.{Settings}
use Rattle.mirror_core.specs.Mirrored.{Mirrored}
use Rattle.mirror_client.specs.declared.refusal.FollowError.{FollowError}
use Rattle.mirror_client.specs.declared.refusal.FollowError.TheVariants.{LinkFault, Memory}
use Rattle.mirror_client.specs.Points.{Point}
use Rattle.mirror_client.specs.Stages.{Begun, Stage, StopsFrom, Walks, listings_in}
use Rattle.mirror_client.specs.Steps.{with_listings}
use Rattle.share_server.specs.declared.report.LinkReport.{LinkReport}
use Rattle.share_server.specs.declared.report.Served.{Served}
use Rattle.share_server.specs.declared.report.LinkEnd.{LinkEnd}
use Rattle.share_server.specs.Links.{LinkEnded}
use Rattle.share_server.specs.Passes.{Pass}
use Rattle.share_workers.specs.Works.{Works}
use Rattle.share_history.specs.Whole.{IsWhole}
use Rattle.share_meetings.specs.Examples.{IsServedOnce, new_mirror}
use Rattle.share_meetings.specs.Links.{AnsweredAll, AreServedLinks, ServedLink}
use Rattle.share_meetings.specs.Mirrors.{BeganWell, CanBeAsked, HoldsTheShare}

-- A mirror in any stage, which may have written a part of its next request, holds what the share had at the last listing
-- that it applied. It may have held what the share had before. The connection may have broken with bytes under way: the
-- server read a prefix of what the mirror wrote, and the mirror had a prefix of the output to read.
abbrev pub WalkersHoldTheShare : Type 0
WalkersHoldTheShare =
    (host : List ℕ) (m : Mirrored) (rounds : ℕ) (p : Point) (t : Stage) (there : Point)
    (s : Settings) (by limit : ℕ) (role : Role) (h later : List Entry) (sent part input lost output owed dropped : List ℕ)
    → Walks host m rounds Begun p t there → (link : ServedLink s by limit role h input output) → BeganWell m h link.served → CanBeAsked host m → IsWhole h
    → p.taken ≡ Some [] → there.taken ≡ Some sent → p.owed ≡ Some owed → sent ++ part ≡ input ++ lost → output ≡ owed ++ dropped
    → HoldsTheShare s by (h ++ later) link.served m (listings_in t) (with_listings m (listings_in t))

-- A connection with known bytes that was served to its end is a `ServedLink`.
abbrev pub EndedLinksAreServed : Type 0
EndedLinksAreServed =
    (role : Role) (limit : ℕ) (k k' : Pass) (input output : List ℕ) (served : List Served) (end : LinkEnd)
    → LinkEnded role limit k k' (Some input) (Some []) (Some output) served end → ServedLink k.settings k.number limit role k'.seen input output

-- So is each connection of a worker.
abbrev pub WorkersLinksAreServed : Type 0
WorkersLinksAreServed =
    (role : Role) (k k' : Pass) (coming coming' : Option (List (List ℕ))) (written written' : Option (List Returned)) (reports : List LinkReport)
    → (w : Works role k k' coming coming' written written' reports) → AreServedLinks k.settings k.number role k'.seen w.inputs w.returns

-- If all requests of a mirror were written whole and answered with success, then only a failed call on its connection
-- or a failed allocation stops it.
abbrev pub FollowersAreNotStopped : Type 0
FollowersAreNotStopped =
    (host : List ℕ) (m : Mirrored) (rounds : ℕ) (p : Point) (taken : Option (List ℕ)) (e : FollowError) (now : Mirrored)
    (s : Settings) (by limit : ℕ) (role : Role) (h : List Entry) (input output : List ℕ)
    → (x : StopsFrom host m rounds Begun p taken e now) → Appends x.there.taken taken x.request → m.held.revision ≡ 0 → CanBeAsked host m → IsWhole h
    → p.taken ≡ Some [] → taken ≡ Some input → p.owed ≡ Some output → AnsweredAll s by limit role h input output → (e ≡ LinkFault) ⊎ (e ≡ Memory)

-- For each mirror of all items whose requests can be sent, some share serves it to its end.
abbrev pub MirrorsAreServed : Type 0
MirrorsAreServed = (host : List ℕ) (s : Settings) (by : ℕ) (query : Option Query) (meta : Meta) → CanBeAsked host (new_mirror query meta) → IsServedOnce host (new_mirror query meta) s by
