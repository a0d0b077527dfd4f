-- The command `follow`: a mirror follows one listing of the share at an address for some rounds. A line is written
-- after each round, and the rows that the mirror holds after the last one.
use Rattle.std.specs.Prelude.{◌≡◌, ◌≢◌, ◌≤◌, ◌⊎◌, ◌++◌, ◌∷◌, [], ℕ, List, length, Option, None, codes}
use Rattle.item_model.specs.declared.query.Query.{Query as query_type}
use Rattle.item_model.specs.declared.refusal.QueryError.TheVariants as query_error
use Rattle.item_model.specs.declared.request.Target.{Target}
use Rattle.fault_lines.specs.Queries.{query_line}
use Rattle.share_history.specs.Listings.{Listing}
use Rattle.mirror_core.specs.declared.mirror.Applied.{Applied}
use Rattle.mirror_core.specs.Mirrored.{Mirrored}
use Rattle.command_core.specs.declared.fault.Fault.{Fault}
use Rattle.command_core.specs.declared.fault.Fault.TheVariants.{Own, Read, Memory as want}
use Rattle.command_core.specs.Seen.{Seen, IsUnread}
use Rattle.mirror_client.specs.declared.refusal.FollowError.{FollowError}
use Rattle.mirror_client.specs.declared.refusal.FollowError.TheVariants.{Refused, BadReply, Ended, Listing as not_taken, Codes, LinkFault, Memory}
use Rattle.mirror_client.specs.Points.{Point}
use Rattle.mirror_client.specs.Runs.{Followed}
use Rattle.mirror_client.specs.Stages.{Begun, Holding, StopsFrom, Walks, listings_in}
use Rattle.mirror_client.specs.Steps.{Known, all_applied}
use Rattle.mirror_client.specs.Stopping.{CountsFault}
use Rattle.link_commands.specs.declared.follow.FollowFault.{FollowFault}
use Rattle.link_commands.specs.declared.follow.FollowFault.TheVariants.{Query, Meta, Unreached, Link}
use Rattle.link_commands.specs.Linked.{HasLinked, IsUnreached, IsUntouched, LinkSeen, start_of}
use Rattle.link_commands.specs.Links.{link_line, link_status}
use Rattle.link_commands.specs.Looks.{AsksMirror, AsksQuery, HasRefusal, meta_or_default}
use Rattle.link_commands.specs.Meanings.{LinkMeaning}
use Rattle.link_commands.specs.RoundLines.{round_lines, shown_rows}
use Rattle.link_commands.specs.Promises.{FollowPromises}

-- the lines of the rounds that made these listings
abbrev pub lines_of : Mirrored → List Listing → List ℕ
lines_of m listings = round_lines (all_applied m.held listings)

-- ---- how far it came

-- some rounds were made, and the connection was closed after them: `front` is the lines of the earlier ones, and `line`
-- that of the last
pub record HasRounds (host : List ℕ) (m : Mirrored) (rounds : ℕ) (link : LinkSeen) (front line : List ℕ) : Type 0 where
  pub known : Known
  pub earlier : List Listing
  pub last : Listing
  pub there : Point
  pub walks : Walks host m rounds Begun (start_of link) (Holding known (earlier ++ last ∷ [])) there
  pub written : there.taken ≡ link.taken
  pub lines : front ≡ lines_of m earlier
  pub all_lines : front ++ line ≡ lines_of m (earlier ++ last ∷ [])

-- the lines are those of these listings; only if an allocation failed may that of the last one be missing
pub record AreLinesOf (e : FollowError) (m : Mirrored) (listings : List Listing) (front : List ℕ) : Type 0 where
  pub told : List Listing
  pub others : List Listing
  pub split : listings ≡ told ++ others
  pub only : e ≢ Memory → others ≡ []
  pub few : length others ≤ 1
  pub lines : front ≡ lines_of m told

-- it stopped with `e`, after these lines
pub record StopsBehind (host : List ℕ) (m : Mirrored) (rounds : ℕ) (link : LinkSeen) (e : FollowError) (front : List ℕ) : Type 0 where
  pub now : Mirrored
  pub stops : StopsFrom host m rounds Begun (start_of link) link.taken e now
  pub lines : AreLinesOf e m (listings_in stops.stage) front
  pub count : CountsFault 0 link.faults e

-- all rounds were followed
pub record HasFollowed (host : List ℕ) (m : Mirrored) (rounds : ℕ) (link : LinkSeen) (applied : List Applied) (now : Mirrored) : Type 0 where
  pub followed : Followed host m rounds (start_of link) link.taken applied now
  pub some : 1 ≤ rounds
  pub faultless : link.faults ≡ 0

-- ---- over a network

-- the texts select the mirror, nothing was read, and a connection was made
pub record IsLinkedFor (host : List ℕ) (query meta : Option (List ℕ)) (target : Target) (before after : Seen) (m : Mirrored) (link : LinkSeen) : Type 0 where
  pub asks : AsksMirror query meta target m
  pub unread : IsUnread before.input after.input
  pub linked : HasLinked host before.around.net after.around.net link

pub record IsFollowDone (host : List ℕ) (rounds : ℕ) (query meta : Option (List ℕ)) (target : Target) (before after : Seen) (output : List ℕ) : Type 0 where
  pub m : Mirrored
  pub link : LinkSeen
  pub for : IsLinkedFor host query meta target before after m link
  pub applied : List Applied
  pub now : Mirrored
  pub followed : HasFollowed host m rounds link applied now
  pub written : output ≡ round_lines applied ++ shown_rows now.held.rows

-- the output may fail in the rows, or in the line of a round; then no further request was sent
abbrev pub IsFollowBegun : List ℕ → ℕ → (query meta : Option (List ℕ)) → Target → Seen → Seen → (front last : List ℕ) → Type 0
IsFollowBegun host rounds query meta target before after front last =
    ((done : IsFollowDone host rounds query meta target before after (front ++ last)) × (front ≡ round_lines done.applied))
    ⊎ ((m : Mirrored) × (link : LinkSeen) × IsLinkedFor host query meta target before after m link × HasRounds host m rounds link front last × (link.faults ≡ 0))

-- ---- errors

abbrev pub follow_line : FollowFault → List ℕ
follow_line (Query error) = query_line error
follow_line Meta = codes "meta: too many names" ++ 10 ∷ []
follow_line Unreached = codes "network failed" ++ 10 ∷ []
follow_line (Link error) = link_line error

abbrev pub follow_status : FollowFault → ℕ
follow_status (Query error) = 3
follow_status Meta = 3
follow_status Unreached = 6
follow_status (Link error) = link_status error

-- the texts select a mirror, and the address was not reached
pub record IsUnlinked (host : List ℕ) (query meta : Option (List ℕ)) (target : Target) (before after : Seen) : Type 0 where
  pub m : Mirrored
  pub asks : AsksMirror query meta target m
  pub unread : IsUnread before.input after.input
  pub unreached : IsUnreached host before.around.net after.around.net

pub record StopsFollowing (host : List ℕ) (rounds : ℕ) (query meta : Option (List ℕ)) (target : Target) (before after : Seen) (e : FollowError) (front : List ℕ) : Type 0 where
  pub m : Mirrored
  pub link : LinkSeen
  pub for : IsLinkedFor host query meta target before after m link
  pub stops : StopsBehind host m rounds link e front

-- an allocation may fail before `connect` is called, for the line of any error, and after the last round
abbrev pub MayWant : List ℕ → ℕ → (query meta : Option (List ℕ)) → Target → Seen → Seen → List ℕ → Type 0
MayWant host rounds query meta target before after front =
    (IsUntouched before after × (front ≡ [])) ⊎ (IsUnlinked host query meta target before after × (front ≡ []))
    ⊎ ((e : FollowError) × StopsFollowing host rounds query meta target before after e front)
    ⊎ ((m now : Mirrored) × (link : LinkSeen) × (applied : List Applied) × IsLinkedFor host query meta target before after m link × HasFollowed host m rounds link applied now
    × (front ≡ round_lines applied))

abbrev pub StopsFollowBy : List ℕ → ℕ → (query meta : Option (List ℕ)) → Target → Seen → Seen → Fault FollowFault → List ℕ → Type 0
StopsFollowBy host rounds query meta target before after (Own (Query error)) front =
    (error ≢ query_error.Memory) × HasRefusal query error × IsUntouched before after × (front ≡ [])
StopsFollowBy host rounds query meta target before after (Own Meta) front =
    ((asked : Option query_type) × AsksQuery query asked) × (meta_or_default meta ≡ None) × IsUntouched before after × (front ≡ [])
StopsFollowBy host rounds query meta target before after (Own Unreached) front = IsUnlinked host query meta target before after × (front ≡ [])
StopsFollowBy host rounds query meta target before after (Own (Link error)) front =
    (error ≢ Memory) × StopsFollowing host rounds query meta target before after error front
StopsFollowBy host rounds query meta target before after Read front = ⊥
StopsFollowBy host rounds query meta target before after want front = MayWant host rounds query meta target before after front

abbrev pub follow_meaning : List ℕ → ℕ → (query meta : Option (List ℕ)) → Target → LinkMeaning
follow_meaning host rounds query meta target = record {
  fault = FollowFault;
  line = follow_line;
  status = follow_status;
  is_done = IsFollowDone host rounds query meta target;
  is_begun = IsFollowBegun host rounds query meta target;
  stops = StopsFollowBy host rounds query meta target;
  promises = FollowPromises host rounds query meta target;
}

-- the error of `follow` for an exchange that ended early
abbrev pub link_fault : FollowError → Fault FollowFault
link_fault (Refused status) = Own (Link (Refused status))
link_fault (BadReply at) = Own (Link (BadReply at))
link_fault (Ended at) = Own (Link (Ended at))
link_fault (not_taken error) = Own (Link (not_taken error))
link_fault (Codes error) = Own (Link (Codes error))
link_fault LinkFault = Own (Link LinkFault)
link_fault Memory = want
