-- The steps of a client that follows a share, one exchange each: their requests, the answers that they accept, and
-- the unexpected ones.
use Rattle.std.specs.Prelude.{◌≡◌, ◌≢◌, ◌≤◌, ◌<◌, ◌⊎◌, ⊤, ℕ, List, [], ◌∷◌, length, fold, Option, Ok, Err}
use Rattle.dmap_tags.specs.Codes.{code}
use Rattle.dmap_tags.specs.Tree.{Tree}
use Rattle.code_table.specs.declared.reply.CodeError.TheVariants as codes
use Rattle.code_table.specs.declared.row.CodeRow.{CodeRow}
use Rattle.code_table.specs.Reply.{table_of}
use Rattle.code_table.specs.Standard.{standard_rows}
use Rattle.item_model.specs.declared.request.Look.{Look}
use Rattle.item_model.specs.declared.request.Target.{Target}
use Rattle.share_asks.specs.declared.ask.Want.{Want}
use Rattle.share_asks.specs.declared.ask.Want.TheVariants as want
use Rattle.share_history.specs.Listings.{Listing}
use Rattle.share_history.specs.Mirror.{Held, mirror_after, mirror_look}
use Rattle.mirror_core.specs.declared.mirror.Applied.{Applied}
use Rattle.mirror_core.specs.declared.mirror.MirrorError.{MirrorError}
use Rattle.mirror_core.specs.declared.mirror.MirrorError.TheVariants as mirror
use Rattle.mirror_core.specs.Bodies.{IsListing, IsNoListing}
use Rattle.mirror_core.specs.Mirrored.{Mirrored}
use Rattle.http_client.specs.Replies.{Reply}
use Rattle.http_client.specs.Requests.{request_text}
use Rattle.mirror_client.specs.declared.refusal.FollowError.{FollowError}
use Rattle.mirror_client.specs.declared.refusal.FollowError.TheVariants.{Refused, BadReply, Ended, Listing as ListingFault, Codes, LinkFault, Memory}
use Rattle.mirror_client.specs.Exchanges.{Exchanged}
use Rattle.mirror_client.specs.Points.{Point, ReadAhead}
use Rattle.mirror_client.specs.Stopping.{Stops}
use Rattle.mirror_client.specs.Tellings.{HasNoTag, IsBadBody, IsOther, Tells, TellsNumber, UnexpectedNumber}

-- What a client knows after the login: its session, and the table by which it reads bodies.
pub record Known : Type 0 where
  pub session : ℕ
  pub rows : List CodeRow

-- A client after the login: the host that it names, what it knows, what it has read ahead, and how many listings and
-- updates it has requested.
pub record Following : Type 0 where
  pub host : List ℕ
  pub known : Known
  pub ahead : ReadAhead
  pub calls : ℕ

-- ---- The table.

-- The answer to /content-codes is read by the standard table.
abbrev pub TellsTable : Reply → List CodeRow → Type 0
TellsTable answer rows = (tag : Tree) × Tells standard_rows answer tag × (table_of tag ≡ Ok rows)

abbrev pub UnexpectedTable : ℕ → Reply → FollowError → Type 0
UnexpectedTable used answer (Refused status) = IsOther 200 answer status
UnexpectedTable used answer (BadReply at) = IsBadBody used answer at × HasNoTag standard_rows answer.1
UnexpectedTable used answer (Ended at) = ⊥
UnexpectedTable used answer (ListingFault error) = ⊥
UnexpectedTable used answer (Codes error) = (tag : Tree) × Tells standard_rows answer tag × ((error ≢ codes.Memory) × (table_of tag ≡ Err error))
UnexpectedTable used answer LinkFault = ⊥
UnexpectedTable used answer Memory = ⊤

-- Why a tag is not a table.
abbrev pub IsNoTable : Tree → FollowError → Type 0
IsNoTable tag (Refused status) = ⊥
IsNoTable tag (BadReply at) = ⊥
IsNoTable tag (Ended at) = ⊥
IsNoTable tag (ListingFault error) = ⊥
IsNoTable tag (Codes error) = (error ≢ codes.Memory) × (table_of tag ≡ Err error)
IsNoTable tag LinkFault = ⊥
IsNoTable tag Memory = ⊤

-- ---- A listing.

-- The next request of a mirror.
abbrev pub rows_want : ℕ → Mirrored → Want
rows_want session m = want.Rows session m.target (mirror_look m.query m.meta m.held.revision)

-- The requests of a client: the next listing of a mirror, a listing that `look` selects, a revision other than the
-- given one, and the end of its session.
abbrev pub listing_request : Following → Mirrored → List ℕ
listing_request f m = request_text (rows_want f.known.session m) f.host

abbrev pub body_request : Following → Target → Look → List ℕ
body_request f target look = request_text (want.Rows f.known.session target look) f.host

abbrev pub update_request : Following → ℕ → List ℕ
update_request f revision = request_text (want.Update f.known.session revision) f.host

abbrev pub logout_request : Following → List ℕ
logout_request f = request_text (want.Logout f.known.session) f.host

-- The answer is a listing that the mirror applies.
pub record TellsListing (rows : List CodeRow) (m : Mirrored) (answer : Reply) (listing : Listing) : Type 0 where
  pub tag : Tree
  pub told : Tells rows answer tag
  pub is : IsListing m.target m.held.revision listing tag
  pub later : m.held.revision ≤ listing.revision

-- Why a mirror rejects a tag.
abbrev pub IsRefusedBy : Mirrored → Tree → MirrorError → Type 0
IsRefusedBy m tag (mirror.NotListing index) = IsNoListing m.target m.held.revision tag index
IsRefusedBy m tag (mirror.Backwards held told) =
    (listing : Listing) × IsListing m.target m.held.revision listing tag × (held ≡ m.held.revision) × (told ≡ listing.revision) × (told < held)
IsRefusedBy m tag mirror.Memory = ⊥

abbrev pub IsNotTaken : Mirrored → Tree → FollowError → Type 0
IsNotTaken m tag (Refused status) = ⊥
IsNotTaken m tag (BadReply at) = ⊥
IsNotTaken m tag (Ended at) = ⊥
IsNotTaken m tag (ListingFault error) = IsRefusedBy m tag error
IsNotTaken m tag (Codes error) = ⊥
IsNotTaken m tag LinkFault = ⊥
IsNotTaken m tag Memory = ⊤

abbrev pub UnexpectedListing : List CodeRow → Mirrored → ℕ → Reply → FollowError → Type 0
UnexpectedListing rows m used answer (Refused status) = IsOther 200 answer status
UnexpectedListing rows m used answer (BadReply at) = IsBadBody used answer at × HasNoTag rows answer.1
UnexpectedListing rows m used answer (Ended at) = ⊥
UnexpectedListing rows m used answer (ListingFault error) = (tag : Tree) × Tells rows answer tag × IsRefusedBy m tag error
UnexpectedListing rows m used answer (Codes error) = ⊥
UnexpectedListing rows m used answer LinkFault = ⊥
UnexpectedListing rows m used answer Memory = ⊤

-- What a mirror holds after listings, one after another.
abbrev pub held_after : Held → List Listing → Held
held_after held listings = fold mirror_after held listings

abbrev pub with_listings : Mirrored → List Listing → Mirrored
with_listings m listings = record { target = m.target; query = m.query; meta = m.meta; held = held_after m.held listings }

-- What applying a listing reports.
abbrev pub applied_by : Held → Listing → Applied
applied_by held l =
    record { revision = l.revision; delta = l.is_delta; put = length l.rows; dropped = length l.gone; rows = length (mirror_after held l).rows }

abbrev pub all_applied : Held → List Listing → List Applied
all_applied held [] = []
all_applied held (l ∷ ls) = applied_by held l ∷ all_applied (mirror_after held l) ls

-- ---- The end.

abbrev pub UnexpectedEnd : ℕ → Reply → FollowError → Type 0
UnexpectedEnd used answer (Refused status) = IsOther 204 answer status
UnexpectedEnd used answer (BadReply at) = ⊥
UnexpectedEnd used answer (Ended at) = ⊥
UnexpectedEnd used answer (ListingFault error) = ⊥
UnexpectedEnd used answer (Codes error) = ⊥
UnexpectedEnd used answer LinkFault = ⊥
UnexpectedEnd used answer Memory = ⊥

-- ---- A client that opens: it requests the table, and logs in.

pub record Opened (host : List ℕ) (p q : Point) (known : Known) : Type 0 where
  pub middle : Point
  pub table : Reply
  pub login : Reply
  pub learned : Exchanged (request_text want.Codes host) p middle table
  pub told : TellsTable table known.rows
  pub entered : Exchanged (request_text want.Login host) middle q login
  pub session : TellsNumber (code "mlid") known.rows login known.session

-- It fails in the first of the two exchanges, or in the second.
pub record StopsBehind (host : List ℕ) (p : Point) (taken : Option (List ℕ)) (e : FollowError) : Type 0 where
  pub middle : Point
  pub table : Reply
  pub rows : List CodeRow
  pub learned : Exchanged (request_text want.Codes host) p middle table
  pub told : TellsTable table rows
  pub stops : Stops (request_text want.Login host) (UnexpectedNumber (code "mlid") rows) middle taken e

abbrev pub FailsToOpen : List ℕ → Point → Option (List ℕ) → FollowError → Type 0
FailsToOpen host p taken e = Stops (request_text want.Codes host) UnexpectedTable p taken e ⊎ StopsBehind host p taken e
