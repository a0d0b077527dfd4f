-- Every request has an operation, and so all bytes have a reading.
use Rattle.std.proofs.Common.{◌≡◌, ◌≢◌, ◌⊎◌, ℕ, List, [], ◌∷◌, Bool, true, false, All, Option, Some, None, Result, Ok, Err, refl, ap, inl, inr}
use Rattle.std.specs.Prelude.{codes}
use Rattle.std.specs.List.{AllZip}
use Rattle.std.specs.Str.{bytes_eq}
use Rattle.std.proofs.lemmas.List.Elements.{All-head, All-tail}
use Rattle.http_heads.specs.declared.kind.Kind.TheVariants.{Request}
use Rattle.http_heads.specs.declared.refusal.HeadError.{HeadError}
use Rattle.http_heads.specs.Fields.{asks_to_close, fields_of}
use Rattle.http_heads.specs.Messages.{IsMessage, Message, Refuses, SplitsAs}
use Rattle.http_heads.proofs.FrontsDecided.{cut_for}
use Rattle.item_model.specs.declared.changes.Edit.{Edit as OneEdit}
use Rattle.item_model.specs.declared.query.Query.{Query}
use Rattle.item_model.specs.declared.refusal.QueryError.{QueryError}
use Rattle.item_model.specs.declared.refusal.QueryError.TheVariants as query_fault
use Rattle.item_model.specs.declared.request.Browse.{Browse}
use Rattle.item_model.specs.declared.request.Look.{Look}
use Rattle.item_model.specs.declared.request.Meta.{Meta}
use Rattle.item_model.specs.declared.request.Range.{Range}
use Rattle.item_model.specs.declared.request.Range.TheVariants.{All as Whole}
use Rattle.item_model.specs.declared.request.Target.{Target}
use Rattle.records_import.specs.Records.{BatchReads}
use Rattle.records_import.specs.Table.{table_of}
use Rattle.records_import.specs.declared.refusal.RecordError.{RecordError}
use Rattle.records_import.specs.declared.refusal.RecordError.TheVariants as record_fault
use Rattle.records_import.proofs.Decided.{batch_for}
use Rattle.share_asks.specs.declared.ask.Ask.{Ask}
use Rattle.share_asks.specs.declared.ask.AskError.TheVariants as fault
use Rattle.share_asks.specs.declared.ask.Role.{Role}
use Rattle.share_asks.specs.declared.ask.Want.{Want}
use Rattle.share_asks.specs.declared.ask.Want.TheVariants.{ServerInfo, Codes, Login, Logout, Update, Databases, Rows, Lists, Values, Edit, Stop, Bad}
use Rattle.song_query.specs.Answers.{Answers}
use Rattle.song_query.proofs.Decided.{answer_for}
use Rattle.http_front.specs.Asks.{Spells}
use Rattle.http_front.specs.Numbers.{number_in, range_in}
use Rattle.http_front.specs.Parameters.{nonempty_value, meta_in}
use Rattle.http_front.specs.Readings.{IsReading, Reading, reading}
use Rattle.http_front.specs.Routes.{resource_of, verb_of, verb_text}
use Rattle.http_front.specs.Targets.{local_part, path_of, query_of}
use Rattle.http_front.specs.Wants.{NumberThen, MetaThen, RangeThen, QueryThen, RowsInRange, AskedRows, RowsWant, ValuesWant, filter_or, BodyReads, ResourceWant, WithMethod, ForResource}
use Rattle.http_front.specs.declared.routes.Resource.{Resource}
use Rattle.http_front.specs.declared.routes.Resource.TheVariants as resource

-- some value fits
abbrev HasWant : (Want → Type 0) → Type 0
HasWant P = (w : Want) × P w

number_for : (name : List ℕ) (o : Option ℕ) (Then : ℕ → Want → Type 0) → ((n : ℕ) → HasWant (Then n)) → HasWant (NumberThen name o Then)
number_for name None Then next = (Bad (fault.Parameter name), refl)
number_for name (Some n) Then next = next n

meta_for : (o : Option Meta) (Then : Meta → Want → Type 0) → ((m : Meta) → HasWant (Then m)) → HasWant (MetaThen o Then)
meta_for None Then next = (Bad (fault.Parameter (codes "meta")), refl)
meta_for (Some m) Then next = next m

range_for : (o : Option Range) (Then : Range → Want → Type 0) → ((r : Range) → HasWant (Then r)) → HasWant (RangeThen o Then)
range_for None Then next = (Bad (fault.Parameter (codes "index")), refl)
range_for (Some r) Then next = next r

answered : (text : List ℕ) (answer : Result Query QueryError) → answer ≢ Err query_fault.Memory → Answers text answer → (Then : Option Query → Want → Type 0)
    → ((asked : Option Query) → HasWant (Then asked)) → HasWant (QueryThen (Some text) Then)
answered text (Ok q) fine x Then next = let found = next (Some q) in (found.0, inl (q, x, found.1))
answered text (Err e) fine x Then next =
    (Bad (fault.Query e), inr (e, (λ (is : e ≡ query_fault.Memory). fine (ap (λ (d : QueryError). Err d) is)), x, refl))

query_for : (text : Option (List ℕ)) (Then : Option Query → Want → Type 0) → ((asked : Option Query) → HasWant (Then asked)) → HasWant (QueryThen text Then)
query_for None Then next = next None
query_for (Some text) Then next = let a = answer_for text in answered text a.0 a.1 a.2 Then next

in_range_for : (query : List ℕ) (session : ℕ) (target : Target) (look : Look) → HasWant (RowsInRange query session target look)
in_range_for query session target look =
    range_for (range_in (nonempty_value (codes "index") query)) (λ range want. want ≡ Rows session target (record look { range = range }))
    (λ range. (Rows session target (record look { range = range }), refl))

asked_for : (query : List ℕ) (session : ℕ) (target : Target) (look : Look) → HasWant (AskedRows query session target look)
asked_for query session target look =
    query_for (nonempty_value (codes "query") query) (λ asked. RowsInRange query session target (record look { query = asked }))
    (λ asked. in_range_for query session target (record look { query = asked }))

rows_for : (target : Target) (query : List ℕ) → HasWant (RowsWant target query)
rows_for target query =
    number_for (codes "session-id") (number_in (nonempty_value (codes "session-id") query))
    (λ session. NumberThen (codes "delta") (number_in (nonempty_value (codes "delta") query)) (λ base. MetaThen (meta_in (nonempty_value (codes "meta") query)) (λ meta.
    AskedRows query session target (record { query = None; meta = meta; base = base; range = Whole }))))
    (λ session. number_for (codes "delta") (number_in (nonempty_value (codes "delta") query)) (λ base. MetaThen (meta_in (nonempty_value (codes "meta") query)) (λ meta.
    AskedRows query session target (record { query = None; meta = meta; base = base; range = Whole })))
    (λ base. meta_for (meta_in (nonempty_value (codes "meta") query)) (λ meta. AskedRows query session target (record { query = None; meta = meta; base = base; range = Whole }))
    (λ meta. asked_for query session target (record { query = None; meta = meta; base = base; range = Whole }))))

values_for : (browse : Browse) (query : List ℕ) → HasWant (ValuesWant browse query)
values_for browse query =
    number_for (codes "session-id") (number_in (nonempty_value (codes "session-id") query))
    (λ session. QueryThen (filter_or (nonempty_value (codes "filter") query) (nonempty_value (codes "query") query)) (λ asked want. want ≡ Values session browse asked))
    (λ session. query_for (filter_or (nonempty_value (codes "filter") query) (nonempty_value (codes "query") query)) (λ asked want. want ≡ Values session browse asked)
    (λ asked. (Values session browse asked, refl)))

body_reads : (body : List ℕ) (answer : Result (List OneEdit) RecordError) → answer ≢ Err record_fault.Memory → BatchReads (table_of body) answer → BodyReads body answer
body_reads body (Ok edits) fine x = x
body_reads body (Err e) fine x = ((λ (is : e ≡ record_fault.Memory). fine (ap (λ (d : RecordError). Err d) is)), x)

edit_for : (query body : List ℕ) → HasWant (ResourceWant resource.Edit query body)
edit_for query body = let a = batch_for (table_of body) in (Edit a.0, (a.0, body_reads body a.0 a.1 a.2, refl))

session_for : (query : List ℕ) (of : ℕ → Want) → HasWant (NumberThen (codes "session-id") (number_in (nonempty_value (codes "session-id") query)) (λ session want. want ≡ of session))
session_for query of =
    number_for (codes "session-id") (number_in (nonempty_value (codes "session-id") query)) (λ session want. want ≡ of session) (λ session. (of session, refl))

resource_for : (p : Resource) (query body : List ℕ) → HasWant (ResourceWant p query body)
resource_for resource.ServerInfo query body = (ServerInfo, refl)
resource_for resource.Codes query body = (Codes, refl)
resource_for resource.Login query body = (Login, refl)
resource_for resource.Logout query body = session_for query (λ session. Logout session)
resource_for resource.Update query body =
    number_for (codes "session-id") (number_in (nonempty_value (codes "session-id") query))
    (λ session. NumberThen (codes "revision-number") (number_in (nonempty_value (codes "revision-number") query)) (λ revision want. want ≡ Update session revision))
    (λ session. number_for (codes "revision-number") (number_in (nonempty_value (codes "revision-number") query)) (λ revision want. want ≡ Update session revision)
    (λ revision. (Update session revision, refl)))
resource_for resource.Databases query body = session_for query (λ session. Databases session)
resource_for resource.Lists query body = session_for query (λ session. Lists session)
resource_for (resource.Rows target) query body = rows_for target query
resource_for (resource.Values browse) query body = values_for browse query
resource_for resource.Edit query body = edit_for query body
resource_for resource.Stop query body = (Stop, refl)

method_for : (right : Bool) (p : Resource) (query body : List ℕ) → HasWant (WithMethod right p query body)
method_for true p query body = resource_for p query body
method_for false p query body = (Bad (fault.Method (verb_of p)), refl)

for_resource_for : (o : Option Resource) (method query body : List ℕ) → HasWant (ForResource o method query body)
for_resource_for None method query body = (Bad fault.Path, refl)
for_resource_for (Some p) method query body = method_for (bytes_eq method (verb_text (verb_of p))) p query body

-- every request is some `Ask`
pub spelled_for : (role : Role) (m : Message) → IsMessage Request m → (ask : Ask) × Spells role m ask
spelled_for role m whole =
    let answer = whole.tells.1 in
    let h = answer.0 in
    let path = path_of (local_part h.target) in
    let query = query_of (local_part h.target) in
    let found = for_resource_for (resource_of role path) h.method query m.body in (
      record { role = role; close = asks_to_close h.minor (fields_of h.fields); want = found.0 },
      (h, (whole, answer.1), record { role_is = refl; close_is = refl; want_is = found.1 }),
    )

asks_for : (role : Role) (ms : List Message) → All (IsMessage Request) ms → (asks : List Ask) × AllZip (Spells role) ms asks
asks_for role [] whole = ([], tt)
asks_for role (m ∷ ms) whole =
    let first = spelled_for role m (All-head (IsMessage Request) m ms whole) in
    let rest = asks_for role ms (All-tail (IsMessage Request) m ms whole) in
    (first.0 ∷ rest.0, (first.1, rest.1))

-- all bytes have a reading
pub every_bytes_read : (role : Role) (bytes : List ℕ) → (r : Reading) × IsReading role bytes r
every_bytes_read role bytes =
    let cut = cut_for Request bytes in
    let asked = asks_for role cut.messages cut.splits.whole in
    by_fault cut.rest cut.messages asked.0 asked.1 cut.splits cut.fault
  where
    by_fault : (rest : List ℕ) (ms : List Message) (asks : List Ask) → AllZip (Spells role) ms asks → SplitsAs Request bytes ms rest
        → ((e : HeadError) × Refuses Request rest e) ⊎ ((e : HeadError) → Refuses Request rest e → ⊥) → (r : Reading) × IsReading role bytes r
    by_fault rest ms asks spell splits (inl (e, refused)) =
        (reading asks rest (Some e), record { joins = record { requests = ms; spell = spell; joined = splits.split }; last = splits.last; fault_is = refused })
    by_fault rest ms asks spell splits (inr goes) =
        (reading asks rest None, record { joins = record { requests = ms; spell = spell; joined = splits.split }; last = splits.last; fault_is = goes })

-- the reading of bytes
pub reading_of : Role → List ℕ → Reading
reading_of role bytes = (every_bytes_read role bytes).0

pub reading_is : (role : Role) (bytes : List ℕ) → IsReading role bytes (reading_of role bytes)
unfolding reading_of
reading_is role bytes = (every_bytes_read role bytes).1
