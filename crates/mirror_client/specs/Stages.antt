-- The stages of a client that follows a listing: what it requests in each, and which answer leads to which next. It
-- learns the table and logs in. In each round it requests the listing, and between two rounds the next revision.
-- After the last round it logs out.
use Rattle.std.specs.Prelude.{◌≡◌, ℕ, List, [], ◌∷◌, ◌++◌, ◌==◌, length, Bool, true, false, Option, Some, None, option_map}
use Rattle.dmap_tags.specs.Codes.{code}
use Rattle.code_table.specs.declared.row.CodeRow.{CodeRow}
use Rattle.share_asks.specs.declared.ask.Want.{Want}
use Rattle.share_asks.specs.declared.ask.Want.TheVariants as want
use Rattle.share_history.specs.Listings.{Listing}
use Rattle.mirror_core.specs.Mirrored.{Mirrored}
use Rattle.http_client.specs.Replies.{Reply}
use Rattle.http_client.specs.Requests.{request_text}
use Rattle.mirror_client.specs.declared.refusal.FollowError.{FollowError}
use Rattle.mirror_client.specs.Exchanges.{Exchange, Transcript}
use Rattle.mirror_client.specs.Points.{Point}
use Rattle.mirror_client.specs.Steps.{Known, TellsListing, TellsTable, UnexpectedEnd, UnexpectedListing, UnexpectedTable, rows_want, with_listings}
use Rattle.mirror_client.specs.Stopping.{Stops}
use Rattle.mirror_client.specs.Tellings.{TellsNumber, UnexpectedNumber}

pub data Stage : Type 0 where
  -- requests the table
  Begun : Stage
  -- requests the login
  Learned : (rows : List CodeRow) → Stage
  -- requests the listing after those that were applied
  Asking : (known : Known) → (listings : List Listing) → Stage
  -- requests the next revision, or the logout after the last round
  Holding : (known : Known) → (listings : List Listing) → Stage
  -- requests nothing
  Closed : (known : Known) → (listings : List Listing) → Stage

-- The listings applied so far.
abbrev pub listings_in : Stage → List Listing
listings_in Begun = []
listings_in (Learned rows) = []
listings_in (Asking known listings) = listings
listings_in (Holding known listings) = listings
listings_in (Closed known listings) = listings

-- The request after a round, which may be the last.
abbrev pub behind_round : Bool → Known → Mirrored → Want
behind_round true known m = want.Logout known.session
behind_round false known m = want.Update known.session m.held.revision

-- The request in a stage, if `m` is the mirror at the start.
abbrev pub asked_in : Mirrored → ℕ → Stage → Option Want
asked_in m rounds Begun = Some want.Codes
asked_in m rounds (Learned rows) = Some want.Login
asked_in m rounds (Asking known listings) = Some (rows_want known.session (with_listings m listings))
asked_in m rounds (Holding known listings) = Some (behind_round (length listings == rounds) known (with_listings m listings))
asked_in m rounds (Closed known listings) = None

abbrev pub due : List ℕ → Mirrored → ℕ → Stage → Option (List ℕ)
due host m rounds stage = option_map (λ w. request_text w host) (asked_in m rounds stage)

-- The answer that is needed after a round, and the stage that it leads to.
abbrev pub LeadsOn : Bool → Known → List Listing → Reply → Stage → Type 0
LeadsOn true known listings answer next = (answer.0 ≡ 204) × (next ≡ Closed known listings)
LeadsOn false known listings answer next = ((n : ℕ) × TellsNumber (code "musr") known.rows answer n) × (next ≡ Asking known listings)

abbrev pub Leads : Mirrored → ℕ → Stage → Reply → Stage → Type 0
Leads m rounds Begun answer next = (rows : List CodeRow) × TellsTable answer rows × (next ≡ Learned rows)
Leads m rounds (Learned rows) answer next =
    (session : ℕ) × TellsNumber (code "mlid") rows answer session × (next ≡ Asking (record { session = session; rows = rows }) [])
Leads m rounds (Asking known listings) answer next =
    (l : Listing) × TellsListing known.rows (with_listings m listings) answer l × (next ≡ Holding known (listings ++ l ∷ []))
Leads m rounds (Holding known listings) answer next = LeadsOn (length listings == rounds) known listings answer next
Leads m rounds (Closed known listings) answer next = ⊥

-- Exchanges that lead from one stage to another.
abbrev pub Path : List ℕ → Mirrored → ℕ → Stage → List Exchange → Stage → Type 0
Path host m rounds s [] t = t ≡ s
Path host m rounds s (x ∷ xs) t =
    (due host m rounds s ≡ Some x.request) × ((u : Stage) × Leads m rounds s x.answer u × Path host m rounds u xs t)

-- Which answers are unexpected in a stage.
abbrev pub UnexpectedAfter : Bool → Known → ℕ → Reply → FollowError → Type 0
UnexpectedAfter true known used answer e = UnexpectedEnd used answer e
UnexpectedAfter false known used answer e = UnexpectedNumber (code "musr") known.rows used answer e

abbrev pub UnexpectedIn : Mirrored → ℕ → Stage → ℕ → Reply → FollowError → Type 0
UnexpectedIn m rounds Begun used answer e = UnexpectedTable used answer e
UnexpectedIn m rounds (Learned rows) used answer e = UnexpectedNumber (code "mlid") rows used answer e
UnexpectedIn m rounds (Asking known listings) used answer e = UnexpectedListing known.rows (with_listings m listings) used answer e
UnexpectedIn m rounds (Holding known listings) used answer e = UnexpectedAfter (length listings == rounds) known used answer e
UnexpectedIn m rounds (Closed known listings) used answer e = ⊥

-- Exchanges led from one stage to another.
pub record Walks (host : List ℕ) (m : Mirrored) (rounds : ℕ) (s : Stage) (p : Point) (t : Stage) (q : Point) : Type 0 where
  pub exchanges : List Exchange
  pub path : Path host m rounds s exchanges t
  pub went : Transcript p q exchanges

-- Exchanges led from `s` to a stage whose request failed. The mirror holds what was applied before.
pub record StopsFrom (host : List ℕ) (m : Mirrored) (rounds : ℕ) (s : Stage) (p : Point) (taken : Option (List ℕ)) (e : FollowError) (now : Mirrored) : Type 0 where
  pub stage : Stage
  pub there : Point
  pub walks : Walks host m rounds s p stage there
  pub request : List ℕ
  pub is_due : due host m rounds stage ≡ Some request
  pub stops : Stops request (UnexpectedIn m rounds stage) there taken e
  pub holds : now ≡ with_listings m (listings_in stage)
