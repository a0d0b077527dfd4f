-- The operation of a request is valid and readable: queries are proper, edits are ones that records give, and no
-- error is an allocation failure.
use Rattle.std.proofs.Common.{◌≡◌, ℕ, List, Bool, true, false, Option, Some, None, Result, Ok, Err, inl, inr, sym, subst}
use Rattle.std.specs.Prelude.{codes}
use Rattle.std.specs.Str.{bytes_eq}
use Rattle.httparse.specs.Grammar.{RequestHead}
use Rattle.item_model.specs.declared.changes.Edit.{Edit as OneEdit}
use Rattle.item_model.specs.declared.query.Query.{Query}
use Rattle.item_model.specs.declared.request.Browse.{Browse}
use Rattle.item_model.specs.declared.request.Look.{Look}
use Rattle.item_model.specs.declared.request.Meta.{Meta}
use Rattle.item_model.specs.declared.request.Range.{Range}
use Rattle.item_model.specs.declared.request.Range.TheVariants.{All}
use Rattle.item_model.specs.declared.request.Target.{Target}
use Rattle.records_import.specs.Table.{table_of}
use Rattle.records_import.specs.declared.refusal.RecordError.{RecordError}
use Rattle.records_import.proofs.ValidEdits.{batch_valid}
use Rattle.share_asks.specs.Valid.{IsValidWant, MayAsk}
use Rattle.share_asks.specs.declared.ask.Ask.{Ask}
use Rattle.share_asks.specs.declared.ask.AskError.TheVariants as fault
use Rattle.share_asks.specs.declared.ask.Role.{Role}
use Rattle.share_asks.specs.declared.ask.Want.{Want}
use Rattle.share_asks.specs.declared.ask.Want.TheVariants.{ServerInfo, Codes, Login, Logout, Update, Databases, Rows, Lists, Values, Edit, Stop, Bad}
use Rattle.song_query.proofs.ReadLaws.{answers_proper}
use Rattle.http_front.specs.Asks.{Asks}
use Rattle.http_front.specs.Numbers.{number_in, range_in}
use Rattle.http_front.specs.Parameters.{nonempty_value, meta_in}
use Rattle.http_front.specs.Readable.{IsReadableWant}
use Rattle.http_front.specs.Routes.{resource_of, verb_of, verb_text}
use Rattle.http_front.specs.Targets.{local_part, path_of, query_of}
use Rattle.http_front.specs.Wants.{NumberThen, MetaThen, RangeThen, QueryThen, RowsInRange, AskedRows, RowsWant, ValuesWant, filter_or, BodyReads, ResourceWant, WithMethod, ForResource}
use Rattle.http_front.specs.declared.routes.Resource.{Resource}
use Rattle.http_front.specs.declared.routes.Resource.TheVariants as resource
use Rattle.http_front.proofs.ValidRefusals.{refusal_valid}

abbrev pub Fits : Want → Type 0
Fits w = IsValidWant w × IsReadableWant w

-- each `Want` for which `P` holds fits
IsSafe : (Want → Type 0) → Type 0
IsSafe P = (w : Want) → P w → Fits w

is_valid : (want : Want) → Fits want → IsSafe (λ w. w ≡ want)
unfolding IsSafe
is_valid want valid w is = subst Fits (sym is) valid

number_valid : (name : List ℕ) (o : Option ℕ) (Then : ℕ → Want → Type 0) → ((n : ℕ) → IsSafe (Then n)) → IsSafe (NumberThen name o Then)
unfolding IsSafe
number_valid name None Then safe w is = subst Fits (sym is) (tt, tt)
number_valid name (Some n) Then safe w h = safe n w h

meta_valid : (o : Option Meta) (Then : Meta → Want → Type 0) → ((m : Meta) → IsSafe (Then m)) → IsSafe (MetaThen o Then)
unfolding IsSafe
meta_valid None Then safe w is = subst Fits (sym is) (tt, tt)
meta_valid (Some m) Then safe w h = safe m w h

range_valid : (o : Option Range) (Then : Range → Want → Type 0) → ((r : Range) → IsSafe (Then r)) → IsSafe (RangeThen o Then)
unfolding IsSafe
range_valid None Then safe w is = subst Fits (sym is) (tt, tt)
range_valid (Some r) Then safe w h = safe r w h

query_valid : (text : Option (List ℕ)) (Then : Option Query → Want → Type 0) → ((asked : Option Query) → MayAsk asked → IsSafe (Then asked)) → IsSafe (QueryThen text Then)
unfolding IsSafe
query_valid None Then safe w h = safe None tt w h
query_valid (Some text) Then safe w (inl (q, x, h)) = safe (Some q) (answers_proper text (Ok q) x) w h
query_valid (Some text) Then safe w (inr (e, other, x, is)) = subst Fits (sym is) (other, tt)

in_range_valid : (query : List ℕ) (session : ℕ) (target : Target) (look : Look) → MayAsk look.query → IsSafe (RowsInRange query session target look)
in_range_valid query session target look may =
    range_valid (range_in (nonempty_value (codes "index") query)) (λ range want. want ≡ Rows session target (record look { range = range }))
    (λ range. is_valid (Rows session target (record look { range = range })) (may, tt))

asked_valid : (query : List ℕ) (session : ℕ) (target : Target) (look : Look) → IsSafe (AskedRows query session target look)
asked_valid query session target look =
    query_valid (nonempty_value (codes "query") query) (λ asked. RowsInRange query session target (record look { query = asked }))
    (λ asked may. in_range_valid query session target (record look { query = asked }) may)

rows_valid : (target : Target) (query : List ℕ) → IsSafe (RowsWant target query)
rows_valid target query =
    number_valid (codes "session-id") (number_in (nonempty_value (codes "session-id") query))
    (λ session. NumberThen (codes "delta") (number_in (nonempty_value (codes "delta") query)) (λ base. MetaThen (meta_in (nonempty_value (codes "meta") query)) (λ meta.
    AskedRows query session target (record { query = None; meta = meta; base = base; range = All }))))
    (λ session. number_valid (codes "delta") (number_in (nonempty_value (codes "delta") query)) (λ base. MetaThen (meta_in (nonempty_value (codes "meta") query)) (λ meta.
    AskedRows query session target (record { query = None; meta = meta; base = base; range = All })))
    (λ base. meta_valid (meta_in (nonempty_value (codes "meta") query)) (λ meta. AskedRows query session target (record { query = None; meta = meta; base = base; range = All }))
    (λ meta. asked_valid query session target (record { query = None; meta = meta; base = base; range = All }))))

values_valid : (browse : Browse) (query : List ℕ) → IsSafe (ValuesWant browse query)
values_valid browse query =
    number_valid (codes "session-id") (number_in (nonempty_value (codes "session-id") query))
    (λ session. QueryThen (filter_or (nonempty_value (codes "filter") query) (nonempty_value (codes "query") query)) (λ asked want. want ≡ Values session browse asked))
    (λ session. query_valid (filter_or (nonempty_value (codes "filter") query) (nonempty_value (codes "query") query)) (λ asked want. want ≡ Values session browse asked)
    (λ asked may. is_valid (Values session browse asked) (may, tt)))

body_valid : (body : List ℕ) (answer : Result (List OneEdit) RecordError) → BodyReads body answer → Fits (Edit answer)
body_valid body (Ok edits) h = ((batch_valid (table_of body) edits h).0, record { text = body; reads = h })
body_valid body (Err error) h = (refusal_valid (table_of body) error h.1, tt)

edit_valid : (query body : List ℕ) → IsSafe (ResourceWant resource.Edit query body)
unfolding IsSafe
edit_valid query body w (answer, reads, is) = subst Fits (sym is) (body_valid body answer reads)

session_valid : (query : List ℕ) (of : ℕ → Want) → ((n : ℕ) → Fits (of n))
    → IsSafe (NumberThen (codes "session-id") (number_in (nonempty_value (codes "session-id") query)) (λ session want. want ≡ of session))
session_valid query of valid =
    number_valid (codes "session-id") (number_in (nonempty_value (codes "session-id") query)) (λ session want. want ≡ of session) (λ session. is_valid (of session) (valid session))

resource_valid : (p : Resource) (query body : List ℕ) → IsSafe (ResourceWant p query body)
resource_valid resource.ServerInfo query body = is_valid ServerInfo (tt, tt)
resource_valid resource.Codes query body = is_valid Codes (tt, tt)
resource_valid resource.Login query body = is_valid Login (tt, tt)
resource_valid resource.Logout query body = session_valid query (λ session. Logout session) (λ n. (tt, tt))
resource_valid resource.Update query body =
    number_valid (codes "session-id") (number_in (nonempty_value (codes "session-id") query))
    (λ session. NumberThen (codes "revision-number") (number_in (nonempty_value (codes "revision-number") query)) (λ revision want. want ≡ Update session revision))
    (λ session. number_valid (codes "revision-number") (number_in (nonempty_value (codes "revision-number") query)) (λ revision want. want ≡ Update session revision)
    (λ revision. is_valid (Update session revision) (tt, tt)))
resource_valid resource.Databases query body = session_valid query (λ session. Databases session) (λ n. (tt, tt))
resource_valid resource.Lists query body = session_valid query (λ session. Lists session) (λ n. (tt, tt))
resource_valid (resource.Rows target) query body = rows_valid target query
resource_valid (resource.Values browse) query body = values_valid browse query
resource_valid resource.Edit query body = edit_valid query body
resource_valid resource.Stop query body = is_valid Stop (tt, tt)

method_valid : (right : Bool) (p : Resource) (query body : List ℕ) → IsSafe (WithMethod right p query body)
method_valid true p query body = resource_valid p query body
method_valid false p query body = is_valid (Bad (fault.Method (verb_of p))) (tt, tt)

for_resource_valid : (o : Option Resource) (method query body : List ℕ) → IsSafe (ForResource o method query body)
for_resource_valid None method query body = is_valid (Bad fault.Path) (tt, tt)
for_resource_valid (Some p) method query body = method_valid (bytes_eq method (verb_text (verb_of p))) p query body

pub asks_valid : (role : Role) (h : RequestHead) (body : List ℕ) (ask : Ask) → Asks role h body ask → Fits ask.want
unfolding IsSafe
asks_valid role h body ask x =
    for_resource_valid (resource_of role (path_of (local_part h.target))) h.method (query_of (local_part h.target)) body ask.want x.want_is
