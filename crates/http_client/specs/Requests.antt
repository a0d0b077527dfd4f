-- The text of a client's request (RFC 9112): the request line, the fields, an empty line and the body. And which
-- requests a client sends.
use Rattle.std.specs.Prelude.{◌≡◌, ◌≤◌, ◌<◌, ⊤, ℕ, ◌^◌, List, [], ◌++◌, length, codes, decimal, All, false, Option, Some, None, Ok, Err}
use Rattle.http_front.specs.ReplyHeads.{ended, field}
use Rattle.http_front.specs.Routes.{verb_text}
use Rattle.http_heads.specs.Limits.{body_limit}
use Rattle.item_model.specs.Names.{meta_of}
use Rattle.item_model.specs.QuerySeen.{tree_of}
use Rattle.item_model.specs.declared.query.Query.{Query}
use Rattle.item_model.specs.declared.request.Meta.{Meta}
use Rattle.item_model.specs.declared.request.Range.{Range}
use Rattle.item_model.specs.declared.request.Range.TheVariants as range
use Rattle.item_model.specs.declared.request.Target.{Target}
use Rattle.item_model.specs.declared.request.Target.TheVariants as target
use Rattle.records_import.specs.Records.{BatchReads}
use Rattle.records_import.specs.Table.{table_of, table_text}
use Rattle.records_import.specs.Written.{IsReadable, written_rows}
use Rattle.share_asks.specs.Valid.{MayAsk}
use Rattle.share_asks.specs.declared.ask.Ask.{Ask}
use Rattle.share_asks.specs.declared.ask.Role.{Role}
use Rattle.share_asks.specs.declared.ask.Role.TheVariants as role
use Rattle.share_asks.specs.declared.ask.Verb.{Verb}
use Rattle.share_asks.specs.declared.ask.Verb.TheVariants as verb
use Rattle.share_asks.specs.declared.ask.Want.{Want}
use Rattle.share_asks.specs.declared.ask.Want.TheVariants.{ServerInfo, Codes, Login, Logout, Update, Databases, Rows, Lists, Values, Edit, Stop, Bad}
use Rattle.song_query.specs.Answers.{IsShallow}
use Rattle.song_query.specs.Limits.{query_bytes}
use Rattle.song_query.specs.Printing.{printed}
use Rattle.http_client.specs.Targets.{target_of}

abbrev pub verb_for : Want → Verb
verb_for (Edit body) = verb.Post
verb_for Stop = verb.Post
verb_for want = verb.Get

-- edits as records
unfoldable pub sent_body : Want → List ℕ
sent_body (Edit (Ok batch)) = table_text (written_rows batch)
sent_body want = []

abbrev pub request_line : Verb → List ℕ → List ℕ
request_line verb target = ended (verb_text verb ++ (codes " " ++ (target ++ codes " HTTP/1.1")))

-- a method that sends a body states its length
abbrev pub length_line : Verb → ℕ → List ℕ
length_line verb.Get len = []
length_line verb.Post len = field (codes "Content-Length") (decimal len)

-- the fields, an empty line and the body
abbrev pub fields_and_body : Verb → List ℕ → List ℕ → List ℕ
fields_and_body verb host body =
    field (codes "Host") host ++ (field (codes "Client-DAAP-Version") (codes "3.0") ++ (length_line verb (length body) ++ (codes "\r\n" ++ body)))

-- a client's request for a target, with a body if the method has one
unfoldable pub message_text : Verb → List ℕ → List ℕ → List ℕ → List ℕ
message_text verb target host body = request_line verb target ++ fields_and_body verb host body

unfoldable pub request_text : Want → List ℕ → List ℕ
request_text want host = message_text (verb_for want) (target_of want) host (sent_body want)

-- operations that can be written: their queries have a text, and their edits are those of some records
abbrev pub CanSend : Want → Type 0
CanSend ServerInfo = ⊤
CanSend Codes = ⊤
CanSend Login = ⊤
CanSend (Logout session) = ⊤
CanSend (Update session revision) = ⊤
CanSend (Databases session) = ⊤
CanSend (Rows session target look) = MayAsk look.query
CanSend (Lists session) = ⊤
CanSend (Values session browse asked) = MayAsk asked
CanSend (Edit (Ok batch)) = IsReadable batch
CanSend (Edit (Err error)) = ⊥
CanSend Stop = ⊤
CanSend (Bad error) = ⊥

-- the query's text is within the limits of a reader, in bytes and in open parentheses
abbrev pub IsWithinLimits : Option Query → Type 0
IsWithinLimits None = ⊤
IsWithinLimits (Some query) =
    (length (printed (tree_of query)) ≤ query_bytes) × IsShallow (printed (tree_of query)) (length (printed (tree_of query)))

-- some text selects these properties
abbrev pub IsNamed : Meta → Type 0
IsNamed meta = (text : List ℕ) × (meta_of text ≡ Some meta)

-- the edits of a body read back
abbrev pub IsRead : Want → Type 0
IsRead (Edit (Ok batch)) = BatchReads (table_of (table_text (written_rows batch))) (Ok batch)
IsRead want = ⊤

-- 1 to 255 visible ASCII characters
pub record IsHost (host : List ℕ) : Type 0 where
  pub some : 0 < length host
  pub short : length host ≤ 255
  pub shows : All (λ b. (33 ≤ b) × (b ≤ 126)) host

-- a reader of the role accepts the operation
abbrev pub IsTaken : Role → Want → Type 0
IsTaken role.Listen (Edit body) = ⊥
IsTaken role.Listen Stop = ⊥
IsTaken r want = ⊤

-- the operation is within the limits of a reader
abbrev pub IsSmall : Want → Type 0
IsSmall (Rows session target look) = IsWithinLimits look.query × IsNamed look.meta
IsSmall (Values session browse asked) = IsWithinLimits asked
IsSmall (Edit body) = length (sent_body (Edit body)) ≤ body_limit
IsSmall want = ⊤

-- the numbers fit 32 bits
abbrev pub IsWord : ℕ → Type 0
IsWord n = n < 2 ^ 32

abbrev pub HasListNumber : Target → Type 0
HasListNumber target.Items = ⊤
HasListNumber (target.Container list) = IsWord list

abbrev pub HasPlaces : Range → Type 0
HasPlaces range.All = ⊤
HasPlaces (range.One at) = IsWord at
HasPlaces (range.From at) = IsWord at
HasPlaces (range.Span from to) = IsWord from × IsWord to
HasPlaces (range.Last count) = IsWord count

abbrev pub HasNumbers : Want → Type 0
HasNumbers (Logout session) = IsWord session
HasNumbers (Update session revision) = IsWord session × IsWord revision
HasNumbers (Databases session) = IsWord session
HasNumbers (Rows session target look) = IsWord session × HasListNumber target × IsWord look.base × HasPlaces look.range
HasNumbers (Lists session) = IsWord session
HasNumbers (Values session browse asked) = IsWord session
HasNumbers want = ⊤

-- a request that a client sends to a host
pub record IsSent (ask : Ask) (host : List ℕ) : Type 0 where
  pub host_is : IsHost host
  pub stays : ask.close ≡ false
  pub taken : IsTaken ask.role ask.want
  pub small : IsSmall ask.want
