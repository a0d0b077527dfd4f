-- A connection that one run made and another run served, by what is told of the networks of both.
use Rattle.std.specs.Prelude.{◌≡◌, ℕ, zero, suc, ◌+◌, Bool, List, [], ◌∷◌, ◌++◌, length, Some}
use Rattle.std.specs.List.{slice_get}
use Rattle.outside_net.specs.Places.{Returned}
use Rattle.command_core.specs.Seen.{NetSeen}
use Rattle.share_server.specs.declared.report.LinkReport.{LinkReport}

-- the place of a worker's connection among the connections of all workers
abbrev pub place_of : (links : List (List LinkReport)) → (worker number : ℕ) → ℕ
place_of [] worker number = number
place_of (reports ∷ links) zero number = number
place_of (reports ∷ links) (suc worker) number = length reports + place_of links worker number

-- A worker of a share served the connection, as its one with this number, and `report` is its report of it: `input` was
-- there to be read, and `output` was written.
pub record IsServedOn (before after : NetSeen) (links : List (List LinkReport)) (input output : List ℕ) : Type 0 where
  pub worker : ℕ
  pub number : ℕ
  pub reports : List LinkReport
  pub worked : slice_get links worker ≡ Some reports
  pub report : LinkReport
  pub reported : slice_get reports number ≡ Some report
  -- the inputs of the connections of each listener
  pub listeners : List (List (List ℕ))
  pub listeners_are : before.listener_links ≡ Some listeners
  pub coming : List (List ℕ)
  pub listener : slice_get listeners worker ≡ Some coming
  pub came : slice_get coming number ≡ Some input
  -- the connections that were closed before, and those that were closed since
  pub closed : List Returned
  pub closed_are : before.written ≡ Some closed
  pub more : List Returned
  pub more_are : after.written ≡ Some (closed ++ more)
  pub faulted : Bool
  pub given : slice_get more (place_of links worker number) ≡ Some (output, faulted)

-- The connection was made, and closed as the last: `owed` was there to be read, and `sent` was written.
pub record IsMade (before after : NetSeen) (sent owed : List ℕ) : Type 0 where
  pub next : before.next_input ≡ Some owed
  pub closed : List Returned
  pub closed_are : before.written ≡ Some closed
  pub others : List Returned
  pub faulted : Bool
  pub written : after.written ≡ Some (closed ++ (others ++ (sent, faulted) ∷ []))

-- The connection that the one made is the one that the other served. It may have broken with bytes under way: each read
-- a prefix of what the other wrote.
pub record Meets (share share' : NetSeen) (links : List (List LinkReport)) (client client' : NetSeen) : Type 0 where
  pub input : List ℕ
  pub output : List ℕ
  pub served : IsServedOn share share' links input output
  pub sent : List ℕ
  pub owed : List ℕ
  pub made : IsMade client client' sent owed
  pub lost : List ℕ
  pub reached : sent ≡ input ++ lost
  pub dropped : List ℕ
  pub answered : output ≡ owed ++ dropped
