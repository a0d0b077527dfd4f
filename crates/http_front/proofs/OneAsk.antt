-- A message is at most one request.
use Rattle.std.proofs.Common.{◌≡◌, ◌≢◌, ℕ, List, Bool, true, false, Option, Some, None, Result, Ok, Err, sym, ap, ◌∙◌, inl, inr, subst}
use Rattle.std.specs.Prelude.{codes}
use Rattle.std.specs.Str.{bytes_eq}
use Rattle.httparse.specs.Grammar.{RequestHead}
use Rattle.item_model.specs.declared.changes.Edit.{Edit as OneEdit}
use Rattle.item_model.specs.declared.query.Query.{Query}
use Rattle.item_model.specs.declared.refusal.QueryError.{QueryError}
use Rattle.item_model.specs.declared.refusal.QueryError.TheVariants as query_fault
use Rattle.item_model.specs.declared.request.Browse.{Browse}
use Rattle.item_model.specs.declared.request.Look.{Look}
use Rattle.item_model.specs.declared.request.Meta.{Meta}
use Rattle.item_model.specs.declared.request.Range.{Range}
use Rattle.item_model.specs.declared.request.Range.TheVariants.{All}
use Rattle.item_model.specs.declared.request.Target.{Target}
use Rattle.http_heads.specs.Messages.{Message}
use Rattle.http_heads.proofs.Messages.{one_head}
use Rattle.records_import.specs.Records.{BatchReads}
use Rattle.records_import.specs.Table.{table_of}
use Rattle.records_import.specs.declared.refusal.RecordError.{RecordError}
use Rattle.records_import.proofs.Once.{one_answer as one_batch_answer}
use Rattle.share_asks.specs.declared.ask.Ask.{Ask}
use Rattle.share_asks.specs.declared.ask.Role.{Role}
use Rattle.share_asks.specs.declared.ask.Want.{Want}
use Rattle.share_asks.specs.declared.ask.Want.TheVariants.{Logout, Update, Databases, Rows, Lists, Values, Edit, Bad}
use Rattle.share_asks.specs.declared.ask.AskError.TheVariants as fault
use Rattle.song_query.proofs.Once.{one_answer as one_text_answer}
use Rattle.http_front.specs.Asks.{Asks, Spells}
use Rattle.http_front.specs.Numbers.{number_in, range_in}
use Rattle.http_front.specs.Parameters.{nonempty_value, meta_in}
use Rattle.http_front.specs.Routes.{resource_of, verb_of, verb_text}
use Rattle.http_front.specs.Targets.{local_part, path_of, query_of}
use Rattle.http_front.specs.Wants.{NumberThen, MetaThen, RangeThen, QueryThen, RowsInRange, AskedRows, RowsWant, ValuesWant, filter_or, BodyReads, ResourceWant, WithMethod, ForResource, Wants}
use Rattle.http_front.specs.declared.routes.Resource.{Resource}
use Rattle.http_front.specs.declared.routes.Resource.TheVariants as resource

-- no two values fit
abbrev pub IsOne : (Want → Type 0) → Type 0
IsOne P = (v w : Want) → P v → P w → v ≡ w

pub is_one : (want : Want) → IsOne (λ v. v ≡ want)
is_one want v w p q = p ∙ sym q

pub number_one : (name : List ℕ) (o : Option ℕ) (Then : ℕ → Want → Type 0) → ((n : ℕ) → IsOne (Then n)) → IsOne (NumberThen name o Then)
number_one name None Then one v w p q = p ∙ sym q
number_one name (Some n) Then one v w p q = one n v w p q

pub meta_one : (o : Option Meta) (Then : Meta → Want → Type 0) → ((m : Meta) → IsOne (Then m)) → IsOne (MetaThen o Then)
meta_one None Then one v w p q = p ∙ sym q
meta_one (Some m) Then one v w p q = one m v w p q

pub range_one : (o : Option Range) (Then : Range → Want → Type 0) → ((r : Range) → IsOne (Then r)) → IsOne (RangeThen o Then)
range_one None Then one v w p q = p ∙ sym q
range_one (Some r) Then one v w p q = one r v w p q

fine : (error : QueryError) → error ≢ query_fault.Memory → ◌≢◌ {A = Result Query QueryError} (Err error) (Err query_fault.Memory)
fine error other e = other (let same : error ≡ query_fault.Memory = cc in same)

read : (q : Query) → ◌≢◌ {A = Result Query QueryError} (Ok q) (Err query_fault.Memory)
read q e = absurd (cc)

pub query_one : (text : Option (List ℕ)) (Then : Option Query → Want → Type 0) → ((asked : Option Query) → IsOne (Then asked)) → IsOne (QueryThen text Then)
query_one None Then one v w p q = one None v w p q
query_one (Some text) Then one v w (inl (a, x, p)) (inl (b, y, q)) =
    let same : ◌≡◌ {A = Result Query QueryError} (Ok a) (Ok b) = one_text_answer text (Ok a) (Ok b) (read a) (read b) x y in
    let queries : a ≡ b = cc in
    one (Some a) v w p (subst (λ (r : Query). Then (Some r) w) (sym queries) q)
query_one (Some text) Then one v w (inl (a, x, p)) (inr (e, other, y, q)) =
    let same : ◌≡◌ {A = Result Query QueryError} (Ok a) (Err e) = one_text_answer text (Ok a) (Err e) (read a) (fine e other) x y in absurd (cc)
query_one (Some text) Then one v w (inr (e, other, x, p)) (inl (b, y, q)) =
    let same : ◌≡◌ {A = Result Query QueryError} (Err e) (Ok b) = one_text_answer text (Err e) (Ok b) (fine e other) (read b) x y in absurd (cc)
query_one (Some text) Then one v w (inr (d, some, x, p)) (inr (e, other, y, q)) =
    let same : ◌≡◌ {A = Result Query QueryError} (Err d) (Err e) = one_text_answer text (Err d) (Err e) (fine d some) (fine e other) x y in
    let errors : d ≡ e = cc in
    p ∙ ap (λ (r : QueryError). Bad (fault.Query r)) errors ∙ sym q

in_range_one : (query : List ℕ) (session : ℕ) (target : Target) (look : Look) → IsOne (RowsInRange query session target look)
in_range_one query session target look =
    range_one (range_in (nonempty_value (codes "index") query)) (λ range want. want ≡ Rows session target (record look { range = range }))
    (λ range. is_one (Rows session target (record look { range = range })))

asked_one : (query : List ℕ) (session : ℕ) (target : Target) (look : Look) → IsOne (AskedRows query session target look)
asked_one query session target look =
    query_one (nonempty_value (codes "query") query) (λ asked. RowsInRange query session target (record look { query = asked }))
    (λ asked. in_range_one query session target (record look { query = asked }))

rows_one : (target : Target) (query : List ℕ) → IsOne (RowsWant target query)
rows_one target query =
    number_one (codes "session-id") (number_in (nonempty_value (codes "session-id") query))
    (λ session. NumberThen (codes "delta") (number_in (nonempty_value (codes "delta") query)) (λ base. MetaThen (meta_in (nonempty_value (codes "meta") query)) (λ meta.
    AskedRows query session target (record { query = None; meta = meta; base = base; range = All }))))
    (λ session. number_one (codes "delta") (number_in (nonempty_value (codes "delta") query)) (λ base. MetaThen (meta_in (nonempty_value (codes "meta") query)) (λ meta.
    AskedRows query session target (record { query = None; meta = meta; base = base; range = All })))
    (λ base. meta_one (meta_in (nonempty_value (codes "meta") query)) (λ meta. AskedRows query session target (record { query = None; meta = meta; base = base; range = All }))
    (λ meta. asked_one query session target (record { query = None; meta = meta; base = base; range = All }))))

values_one : (browse : Browse) (query : List ℕ) → IsOne (ValuesWant browse query)
values_one browse query =
    number_one (codes "session-id") (number_in (nonempty_value (codes "session-id") query))
    (λ session. QueryThen (filter_or (nonempty_value (codes "filter") query) (nonempty_value (codes "query") query)) (λ asked want. want ≡ Values session browse asked))
    (λ session. query_one (filter_or (nonempty_value (codes "filter") query) (nonempty_value (codes "query") query)) (λ asked want. want ≡ Values session browse asked)
    (λ asked. is_one (Values session browse asked)))

pub body_batch : (body : List ℕ) (answer : Result (List OneEdit) RecordError) → BodyReads body answer → BatchReads (table_of body) answer
body_batch body (Ok edits) h = h
body_batch body (Err error) h = h.1

edit_one : (query body : List ℕ) → IsOne (ResourceWant resource.Edit query body)
edit_one query body v w (a, x, p) (b, y, q) =
    p ∙ ap (λ (answer : Result (List OneEdit) RecordError). Edit answer) (one_batch_answer (table_of body) a b (body_batch body a x) (body_batch body b y)) ∙ sym q

session_one : (query : List ℕ) (of : ℕ → Want) → IsOne (NumberThen (codes "session-id") (number_in (nonempty_value (codes "session-id") query)) (λ session want. want ≡ of session))
session_one query of =
    number_one (codes "session-id") (number_in (nonempty_value (codes "session-id") query)) (λ session want. want ≡ of session) (λ session. is_one (of session))

resource_one : (p : Resource) (query body : List ℕ) → IsOne (ResourceWant p query body)
resource_one resource.ServerInfo query body = is_one _
resource_one resource.Codes query body = is_one _
resource_one resource.Login query body = is_one _
resource_one resource.Logout query body = session_one query (λ session. Logout session)
resource_one resource.Update query body =
    number_one (codes "session-id") (number_in (nonempty_value (codes "session-id") query))
    (λ session. NumberThen (codes "revision-number") (number_in (nonempty_value (codes "revision-number") query)) (λ revision want. want ≡ Update session revision))
    (λ session. number_one (codes "revision-number") (number_in (nonempty_value (codes "revision-number") query)) (λ revision want. want ≡ Update session revision)
    (λ revision. is_one (Update session revision)))
resource_one resource.Databases query body = session_one query (λ session. Databases session)
resource_one resource.Lists query body = session_one query (λ session. Lists session)
resource_one (resource.Rows target) query body = rows_one target query
resource_one (resource.Values browse) query body = values_one browse query
resource_one resource.Edit query body = edit_one query body
resource_one resource.Stop query body = is_one _

method_one : (right : Bool) (p : Resource) (query body : List ℕ) → IsOne (WithMethod right p query body)
method_one true p query body = resource_one p query body
method_one false p query body = is_one _

for_resource_one : (o : Option Resource) (method query body : List ℕ) → IsOne (ForResource o method query body)
for_resource_one None method query body = is_one _
for_resource_one (Some p) method query body = method_one (bytes_eq method (verb_text (verb_of p))) p query body

pub want_is_one : (role : Role) (method path query body : List ℕ) → IsOne (Wants role method path query body)
want_is_one role method path query body = for_resource_one (resource_of role path) method query body

pub one_ask : (role : Role) (m : Message) (a b : Ask) → Spells role m a → Spells role m b → a ≡ b
one_ask role m a b (h, x, p) (k, y, q) =
    let heads : k ≡ h = one_head m.head k h y.1 x.1 in
    let asks : Asks role h m.body b = subst (λ (head : RequestHead). Asks role head m.body b) heads q in
    let roles : a.role ≡ b.role = p.role_is ∙ sym asks.role_is in
    let closes : a.close ≡ b.close = p.close_is ∙ sym asks.close_is in
    let wants : a.want ≡ b.want =
    want_is_one role h.method (path_of (local_part h.target)) (query_of (local_part h.target)) m.body a.want b.want p.want_is asks.want_is in
    λ i. record { role = roles i; close = closes i; want = wants i }
