-- Coming in, by the table and the login, and going out.
use Rattle.std.proofs.Common.{◌≡◌, ℕ, List, Option, inl, inr, subst}
use Rattle.std.specs.Prelude.{Result, Ok, Err, IfOk}
use Rattle.dmap_tags.specs.Codes.{code}
use Rattle.code_table.specs.declared.row.CodeRow.{CodeRow}
use Rattle.share_asks.specs.declared.ask.Want.TheVariants as want
use Rattle.http_client.specs.Replies.{Reply}
use Rattle.http_client.specs.Requests.{request_text}
use Rattle.mirror_client.specs.declared.refusal.FollowError.{FollowError}
use Rattle.mirror_client.specs.Exchanges.{Exchanged}
use Rattle.mirror_client.specs.Points.{Point, ReadAhead, place}
use Rattle.mirror_client.specs.Steps.{FailsToOpen, Opened, TellsTable, UnexpectedTable}
use Rattle.mirror_client.specs.Stopping.{Stops}
use Rattle.mirror_client.specs.Tellings.{TellsNumber, UnexpectedNumber}

pub fails_first : (host : List ℕ) (p : Point) (taken : Option (List ℕ)) (e : FollowError) → Stops (request_text want.Codes host) UnexpectedTable p taken e → FailsToOpen host p taken e
fails_first host p taken e h = inl h

pub fails_second : (host : List ℕ) (p q : Point) (rows : List CodeRow) (taken : Option (List ℕ)) (e : FollowError)
    → ((answer : Reply) × Exchanged (request_text want.Codes host) p q answer × TellsTable answer rows)
    → Stops (request_text want.Login host) (UnexpectedNumber (code "mlid") rows) q taken e → FailsToOpen host p taken e
fails_second host p q rows taken e x h = inr (record { middle = q; table = x.0; rows = rows; learned = x.1; told = x.2; stops = h })

pub opened : (host : List ℕ) (p middle q : Point) (session : ℕ) (rows : List CodeRow)
    → ((answer : Reply) × Exchanged (request_text want.Codes host) p middle answer × TellsTable answer rows)
    → ((answer : Reply) × Exchanged (request_text want.Login host) middle q answer × TellsNumber (code "mlid") rows answer session)
    → Opened host p q (record { session = session; rows = rows })
opened host p middle q session rows x y =
    record { middle = middle; table = x.0; login = y.0; learned = x.1; told = x.2; entered = y.1; session = y.2 }

-- the last exchange, by what the client was seen as
pub closed : {A : Type 0} (request text : List ℕ) (taken left taken1 left1 : Option (List ℕ)) (ahead before later : ReadAhead) (r : Result A FollowError) → request ≡ text
    → before ≡ ahead
    → IfOk r (λ _. (answer : Reply) × Exchanged request (place taken left before) (place taken1 left1 later) answer × (answer.0 ≡ 204))
    → IfOk r (λ _. (answer : Reply) × (there : ReadAhead) × Exchanged text (place taken left ahead) (place taken1 left1 there) answer × (answer.0 ≡ 204))
closed request text taken left taken1 left1 ahead before later (Ok a) same is h = (
  h.0,
  later,
  subst (λ (bytes : List ℕ). Exchanged bytes (place taken left ahead) (place taken1 left1 later) h.0) same
      (subst (λ (x : ReadAhead). Exchanged request (place taken left x) (place taken1 left1 later) h.0) is h.1),
  h.2,
)
closed request text taken left taken1 left1 ahead before later (Err e) same is h = tt
