-- The operation of a request. A parameter is checked only if those before it are good, so they are refused in the
-- order of this page.
use Rattle.std.specs.Prelude.{◌≡◌, ◌≢◌, ◌⊎◌, ℕ, List, codes, Bool, true, false, Option, Some, None, Result, Ok, Err}
use Rattle.std.specs.Str.{bytes_eq}
use Rattle.item_model.specs.declared.changes.Edit.{Edit as OneEdit}
use Rattle.item_model.specs.declared.query.Query.{Query}
use Rattle.item_model.specs.declared.refusal.QueryError.{QueryError}
use Rattle.item_model.specs.declared.refusal.QueryError.TheVariants as query_fault
use Rattle.item_model.specs.declared.request.Browse.{Browse}
use Rattle.item_model.specs.declared.request.Look.{Look}
use Rattle.item_model.specs.declared.request.Meta.{Meta}
use Rattle.item_model.specs.declared.request.Range.{Range}
use Rattle.item_model.specs.declared.request.Range.TheVariants.{All}
use Rattle.item_model.specs.declared.request.Target.{Target}
use Rattle.records_import.specs.Records.{BatchReads}
use Rattle.records_import.specs.Table.{table_of}
use Rattle.records_import.specs.declared.refusal.RecordError.{RecordError}
use Rattle.records_import.specs.declared.refusal.RecordError.TheVariants as record_fault
use Rattle.share_asks.specs.declared.ask.AskError.TheVariants as fault
use Rattle.share_asks.specs.declared.ask.Role.{Role}
use Rattle.share_asks.specs.declared.ask.Want.{Want}
use Rattle.share_asks.specs.declared.ask.Want.TheVariants.{ServerInfo, Codes, Login, Logout, Update, Databases, Rows, Lists, Values, Edit, Stop, Bad}
use Rattle.song_query.specs.Answers.{Answers}
use Rattle.http_front.specs.Numbers.{number_in, range_in}
use Rattle.http_front.specs.Parameters.{nonempty_value, meta_in}
use Rattle.http_front.specs.Routes.{resource_of, verb_of, verb_text}
use Rattle.http_front.specs.declared.routes.Resource.{Resource}
use Rattle.http_front.specs.declared.routes.Resource.TheVariants as resource

-- a malformed number is the error; otherwise `Then` defines the operation
abbrev pub NumberThen : List ℕ → Option ℕ → (ℕ → Want → Type 0) → Want → Type 0
NumberThen name None Then want = want ≡ Bad (fault.Parameter name)
NumberThen name (Some n) Then want = Then n want

abbrev pub WithNumber : List ℕ → List ℕ → (ℕ → Want → Type 0) → Want → Type 0
WithNumber name query Then want = NumberThen name (number_in (nonempty_value name query)) Then want

abbrev pub MetaThen : Option Meta → (Meta → Want → Type 0) → Want → Type 0
MetaThen None Then want = want ≡ Bad (fault.Parameter (codes "meta"))
MetaThen (Some meta) Then want = Then meta want

abbrev pub RangeThen : Option Range → (Range → Want → Type 0) → Want → Type 0
RangeThen None Then want = want ≡ Bad (fault.Parameter (codes "index"))
RangeThen (Some range) Then want = Then range want

-- the same for a query, if there is a text
abbrev pub QueryThen : Option (List ℕ) → (Option Query → Want → Type 0) → Want → Type 0
QueryThen None Then want = Then None want
QueryThen (Some text) Then want =
    ((query : Query) × Answers text (Ok query) × Then (Some query) want)
    ⊎ ((error : QueryError) × (error ≢ query_fault.Memory) × Answers text (Err error) × (want ≡ Bad (fault.Query error)))

abbrev pub LogoutWant : List ℕ → Want → Type 0
LogoutWant query = WithNumber (codes "session-id") query (λ session want. want ≡ Logout session)

abbrev pub UpdateWant : List ℕ → Want → Type 0
UpdateWant query = WithNumber (codes "session-id") query (λ session.
    WithNumber (codes "revision-number") query (λ revision want. want ≡ Update session revision))

abbrev pub DatabasesWant : List ℕ → Want → Type 0
DatabasesWant query = WithNumber (codes "session-id") query (λ session want. want ≡ Databases session)

abbrev pub ListsWant : List ℕ → Want → Type 0
ListsWant query = WithNumber (codes "session-id") query (λ session want. want ≡ Lists session)

-- the rows of a look in the range
abbrev pub RowsInRange : List ℕ → ℕ → Target → Look → Want → Type 0
RowsInRange query session target look =
    RangeThen (range_in (nonempty_value (codes "index") query)) (λ range want. want ≡ Rows session target (record look { range = range }))

-- the rows of a look that match the query
abbrev pub AskedRows : List ℕ → ℕ → Target → Look → Want → Type 0
AskedRows query session target look =
    QueryThen (nonempty_value (codes "query") query) (λ asked. RowsInRange query session target (record look { query = asked }))

abbrev pub RowsWant : Target → List ℕ → Want → Type 0
RowsWant target query = WithNumber (codes "session-id") query (λ session.
    WithNumber (codes "delta") query (λ base.
    MetaThen (meta_in (nonempty_value (codes "meta") query)) (λ meta.
    AskedRows query session target (record { query = None; meta = meta; base = base; range = All }))))

-- the text that selects values: the filter if it is present, otherwise the query
abbrev pub filter_or : Option (List ℕ) → Option (List ℕ) → Option (List ℕ)
filter_or None query = query
filter_or (Some filter) query = Some filter

abbrev pub ValuesWant : Browse → List ℕ → Want → Type 0
ValuesWant browse query = WithNumber (codes "session-id") query (λ session.
    QueryThen (filter_or (nonempty_value (codes "filter") query) (nonempty_value (codes "query") query)) (λ asked want. want ≡ Values session browse asked))

-- what a body reads as: edits, or why it is refused
abbrev pub BodyReads : List ℕ → Result (List OneEdit) RecordError → Type 0
BodyReads body (Ok edits) = BatchReads (table_of body) (Ok edits)
BodyReads body (Err error) = (error ≢ record_fault.Memory) × BatchReads (table_of body) (Err error)

-- the operation of a request to a resource with the right method
abbrev pub ResourceWant : Resource → List ℕ → List ℕ → Want → Type 0
ResourceWant resource.ServerInfo query body want = want ≡ ServerInfo
ResourceWant resource.Codes query body want = want ≡ Codes
ResourceWant resource.Login query body want = want ≡ Login
ResourceWant resource.Logout query body want = LogoutWant query want
ResourceWant resource.Update query body want = UpdateWant query want
ResourceWant resource.Databases query body want = DatabasesWant query want
ResourceWant resource.Lists query body want = ListsWant query want
ResourceWant (resource.Rows target) query body want = RowsWant target query want
ResourceWant (resource.Values browse) query body want = ValuesWant browse query want
ResourceWant resource.Edit query body want = (answer : Result (List OneEdit) RecordError) × BodyReads body answer × (want ≡ Edit answer)
ResourceWant resource.Stop query body want = want ≡ Stop

abbrev pub WithMethod : Bool → Resource → List ℕ → List ℕ → Want → Type 0
WithMethod true p query body want = ResourceWant p query body want
WithMethod false p query body want = want ≡ Bad (fault.Method (verb_of p))

-- the path is checked first, then the method, then the parameters
abbrev pub ForResource : Option Resource → List ℕ → List ℕ → List ℕ → Want → Type 0
ForResource None method query body want = want ≡ Bad fault.Path
ForResource (Some p) method query body want = WithMethod (bytes_eq method (verb_text (verb_of p))) p query body want

abbrev pub Wants : Role → List ℕ → List ℕ → List ℕ → List ℕ → Want → Type 0
Wants role method path query body want = ForResource (resource_of role path) method query body want
