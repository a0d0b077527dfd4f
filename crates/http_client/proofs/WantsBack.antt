-- The request that a client writes reads back.
use Rattle.std.proofs.Common.{◌≡◌, ℕ, List, Bool, Option, Some, None, Result, Ok, Err, true, refl, sym, ap, ◌∙◌, subst, inl}
use Rattle.std.specs.Prelude.{codes, decimal}
use Rattle.std.specs.Str.{bytes_eq}
use Rattle.http_front.specs.Numbers.{number_in, range_in}
use Rattle.http_front.specs.Parameters.{meta_in, nonempty_value, unless_empty}
use Rattle.http_front.specs.Routes.{resource_of, verb_of, verb_text}
use Rattle.http_front.specs.Targets.{local_part, path_of, query_of}
use Rattle.http_front.specs.Wants.{AskedRows, ForResource, MetaThen, NumberThen, ResourceWant, QueryThen, RangeThen, RowsInRange, RowsWant, ValuesWant, Wants, WithMethod, filter_or}
use Rattle.http_front.specs.declared.routes.Resource.{Resource}
use Rattle.http_front.specs.declared.routes.Resource.TheVariants as resource
use Rattle.item_model.specs.QuerySeen.{tree_of}
use Rattle.item_model.specs.declared.query.Query.{Query}
use Rattle.item_model.specs.declared.request.Browse.{Browse}
use Rattle.item_model.specs.declared.request.Look.{Look}
use Rattle.item_model.specs.declared.request.Meta.{Meta}
use Rattle.item_model.specs.declared.request.Range.{Range}
use Rattle.item_model.specs.declared.request.Range.TheVariants.{All as Whole}
use Rattle.item_model.specs.declared.request.Target.{Target}
use Rattle.item_model.specs.declared.changes.Edit.{Edit as OneEdit}
use Rattle.records_import.specs.declared.refusal.RecordError.{RecordError}
use Rattle.share_asks.specs.Valid.{MayAsk}
use Rattle.share_asks.specs.declared.ask.Role.{Role}
use Rattle.share_asks.specs.declared.ask.Want.{Want}
use Rattle.share_asks.specs.declared.ask.Want.TheVariants.{ServerInfo, Codes, Login, Logout, Update, Databases, Rows, Lists, Values, Edit, Stop, Bad}
use Rattle.song_query.proofs.Forms.{prints}
use Rattle.http_client.specs.Requests.{CanSend, HasNumbers, IsRead, IsSmall, IsTaken, IsWithinLimits, IsWord, sent_body, verb_for}
use Rattle.http_client.specs.Targets.{form_text, parameters_of, path_to, query_value, target_of, unless_zero}
use Rattle.http_client.proofs.FormsBack.{AreTexts, or_else, value_back, value_under}
use Rattle.http_client.proofs.ParametersBack.{base_under, meta_under, number_under, query_kept, range_under}
use Rattle.http_client.proofs.PathsBack.{place_back, resource_for}
use Rattle.http_client.proofs.TargetsBack.{target_path, target_query}

-- ---- a parameter, and then the rest

number_then : (name : List ℕ) (o : Option ℕ) (n : ℕ) (Then : ℕ → Want → Type 0) (want : Want) → o ≡ Some n → Then n want → NumberThen name o Then want
number_then name o n Then want e h = subst (λ (x : Option ℕ). NumberThen name x Then want) (sym e) h

meta_then : (o : Option Meta) (meta : Meta) (Then : Meta → Want → Type 0) (want : Want) → o ≡ Some meta → Then meta want → MetaThen o Then want
meta_then o meta Then want e h = subst (λ (x : Option Meta). MetaThen x Then want) (sym e) h

range_then : (o : Option Range) (r : Range) (Then : Range → Want → Type 0) (want : Want) → o ≡ Some r → Then r want → RangeThen o Then want
range_then o r Then want e h = subst (λ (x : Option Range). RangeThen x Then want) (sym e) h

query_read : (asked : Option Query) (Then : Option Query → Want → Type 0) (want : Want) → MayAsk asked → IsWithinLimits asked → Then asked want
    → QueryThen (query_value asked) Then want
query_read None Then want may within h = h
query_read (Some q) Then want may within h = inl (q, (within.0, prints (tree_of q) may, within.1), h)

query_then : (o : Option (List ℕ)) (asked : Option Query) (Then : Option Query → Want → Type 0) (want : Want) → o ≡ query_value asked → MayAsk asked → IsWithinLimits asked
    → Then asked want → QueryThen o Then want
query_then o asked Then want e may within h = subst (λ (x : Option (List ℕ)). QueryThen x Then want) (sym e) (query_read asked Then want may within h)

or_none : (o : Option (List ℕ)) → or_else o None ≡ o
or_none None = refl
or_none (Some v) = refl

-- ---- each operation

session_under : (want : Want) (session : ℕ) → AreTexts (parameters_of want) → value_under (codes "session-id") (parameters_of want) ≡ Some (decimal session) → IsWord session
    → number_in (nonempty_value (codes "session-id") (form_text want)) ≡ Some session
session_under want session texts under h = number_under (codes "session-id") (parameters_of want) session texts under h

session_back : (want : Want) (session : ℕ) (of : ℕ → Want) → number_in (nonempty_value (codes "session-id") (form_text want)) ≡ Some session → want ≡ of session
    → NumberThen (codes "session-id") (number_in (nonempty_value (codes "session-id") (form_text want))) (λ s w. w ≡ of s) want
session_back want session of e h = number_then (codes "session-id") (number_in (nonempty_value (codes "session-id") (form_text want))) session (λ s w. w ≡ of s) want e h

update_back : (session revision : ℕ) → AreTexts (parameters_of (Update session revision)) → HasNumbers (Update session revision)
    → ResourceWant resource.Update (form_text (Update session revision)) (sent_body (Update session revision)) (Update session revision)
update_back session revision texts n =
    let want = Update session revision in
    let query = form_text want in
    let revised : number_in (nonempty_value (codes "revision-number") query) ≡ Some revision = number_under (codes "revision-number") (parameters_of want) revision texts refl n.1 in
    number_then (codes "session-id") (number_in (nonempty_value (codes "session-id") query)) session
    (λ s. NumberThen (codes "revision-number") (number_in (nonempty_value (codes "revision-number") query)) (λ r w. w ≡ Update s r)) want (session_under want session texts refl n.0)
    (number_then (codes "revision-number") (number_in (nonempty_value (codes "revision-number") query)) revision (λ r w. w ≡ Update session r) want revised refl)

rows_back : (session : ℕ) (t : Target) (look : Look) → AreTexts (parameters_of (Rows session t look)) → CanSend (Rows session t look) → HasNumbers (Rows session t look)
    → IsSmall (Rows session t look) → RowsWant t (form_text (Rows session t look)) (Rows session t look)
rows_back session t look texts may n small =
    let want = Rows session t look in
    let query = form_text want in
    let ps = parameters_of want in
    let based : number_in (nonempty_value (codes "delta") query) ≡ Some look.base = base_under (codes "delta") ps look.base texts (or_none (unless_zero look.base)) n.2 in
    let named : meta_in (nonempty_value (codes "meta") query) ≡ Some look.meta = meta_under (codes "meta") ps look.meta texts (or_none _) small.1 in
    let asked : nonempty_value (codes "query") query ≡ query_value look.query = value_back (codes "query") ps texts ∙ ap unless_empty (or_none (query_value look.query)) ∙ query_kept look.query may in
    let placed : range_in (nonempty_value (codes "index") query) ≡ Some look.range = range_under (codes "index") ps look.range texts (or_none _) n.3 in
    number_then (codes "session-id") (number_in (nonempty_value (codes "session-id") query)) session
    (λ s. NumberThen (codes "delta") (number_in (nonempty_value (codes "delta") query)) (λ base. MetaThen (meta_in (nonempty_value (codes "meta") query)) (λ meta.
    AskedRows query s t (record { query = None; meta = meta; base = base; range = Whole })))) want (session_under want session texts refl n.0)
    (number_then (codes "delta") (number_in (nonempty_value (codes "delta") query)) look.base (λ base. MetaThen (meta_in (nonempty_value (codes "meta") query)) (λ meta.
    AskedRows query session t (record { query = None; meta = meta; base = base; range = Whole }))) want based
    (meta_then (meta_in (nonempty_value (codes "meta") query)) look.meta (λ meta. AskedRows query session t (record { query = None; meta = meta; base = look.base; range = Whole })) want named
    (query_then (nonempty_value (codes "query") query) look.query (λ o. RowsInRange query session t (record { query = o; meta = look.meta; base = look.base; range = Whole })) want asked may small.0
    (range_then (range_in (nonempty_value (codes "index") query)) look.range (λ r w. w ≡ Rows session t (record { query = look.query; meta = look.meta; base = look.base; range = r })) want placed refl))))

no_query : (o : Option (List ℕ)) → filter_or o None ≡ o
no_query None = refl
no_query (Some v) = refl

values_back : (session : ℕ) (browse : Browse) (asked : Option Query) → AreTexts (parameters_of (Values session browse asked)) → CanSend (Values session browse asked)
    → HasNumbers (Values session browse asked) → IsSmall (Values session browse asked) → ValuesWant browse (form_text (Values session browse asked)) (Values session browse asked)
values_back session browse asked texts may n small =
    let want = Values session browse asked in
    let query = form_text want in
    let ps = parameters_of want in
    let filter : nonempty_value (codes "filter") query ≡ query_value asked = value_back (codes "filter") ps texts ∙ ap unless_empty (or_none (query_value asked)) ∙ query_kept asked may in
    let none : nonempty_value (codes "query") query ≡ None = value_back (codes "query") ps texts in
    let both : filter_or (nonempty_value (codes "filter") query) (nonempty_value (codes "query") query) ≡ query_value asked =
    ap (filter_or (nonempty_value (codes "filter") query)) none ∙ no_query (nonempty_value (codes "filter") query) ∙ filter in
    number_then (codes "session-id") (number_in (nonempty_value (codes "session-id") query)) session
    (λ s. QueryThen (filter_or (nonempty_value (codes "filter") query) (nonempty_value (codes "query") query)) (λ o w. w ≡ Values s browse o)) want (session_under want session texts refl n)
    (query_then (filter_or (nonempty_value (codes "filter") query) (nonempty_value (codes "query") query)) asked (λ o w. w ≡ Values session browse o) want both may small refl)

edit_back : (body : Result (List OneEdit) RecordError) → CanSend (Edit body) → IsRead (Edit body) → ResourceWant resource.Edit (form_text (Edit body)) (sent_body (Edit body)) (Edit body)
unfolding sent_body
edit_back (Ok batch) h read = (Ok batch, read, refl)
edit_back (Err e) h read = absurd h

want_read : (want : Want) → AreTexts (parameters_of want) → CanSend want → HasNumbers want → IsSmall want → IsRead want → ResourceWant (resource_for want) (form_text want) (sent_body want) want
want_read ServerInfo texts may n small read = refl
want_read Codes texts may n small read = refl
want_read Login texts may n small read = refl
want_read (Logout session) texts may n small read =
    session_back (Logout session) session (λ s. Logout s) (session_under (Logout session) session texts refl n) refl
want_read (Update session revision) texts may n small read = update_back session revision texts n
want_read (Databases session) texts may n small read =
    session_back (Databases session) session (λ s. Databases s) (session_under (Databases session) session texts refl n) refl
want_read (Rows session t look) texts may n small read = rows_back session t look texts may n small
want_read (Lists session) texts may n small read = session_back (Lists session) session (λ s. Lists s) (session_under (Lists session) session texts refl n) refl
want_read (Values session browse asked) texts may n small read = values_back session browse asked texts may n small
want_read (Edit body) texts may n small read = edit_back body may read
want_read Stop texts may n small read = refl
want_read (Bad error) texts may n small read = absurd may

same_method : (want : Want) → CanSend want → bytes_eq (verb_text (verb_for want)) (verb_text (verb_of (resource_for want))) ≡ true
same_method ServerInfo h = refl
same_method Codes h = refl
same_method Login h = refl
same_method (Logout session) h = refl
same_method (Update session revision) h = refl
same_method (Databases session) h = refl
same_method (Rows session t look) h = refl
same_method (Lists session) h = refl
same_method (Values session browse asked) h = refl
same_method (Edit body) h = refl
same_method Stop h = refl
same_method (Bad error) h = absurd h

for_resource : (o : Option Resource) (p : Resource) (method query body : List ℕ) (want : Want) → o ≡ Some p → bytes_eq method (verb_text (verb_of p)) ≡ true → ResourceWant p query body want
    → ForResource o method query body want
for_resource o p method query body want e right h =
    subst (λ (x : Option Resource). ForResource x method query body want) (sym e) (subst (λ (b : Bool). WithMethod b p query body want) (sym right) h)

pub want_back : (r : Role) (want : Want) → AreTexts (parameters_of want) → CanSend want → HasNumbers want → IsSmall want → IsRead want → IsTaken r want
    → Wants r (verb_text (verb_for want)) (path_of (local_part (target_of want))) (query_of (local_part (target_of want))) (sent_body want) want
want_back r want texts may n small read taken =
    let here : Wants r (verb_text (verb_for want)) (path_to want) (form_text want) (sent_body want) want =
    for_resource (resource_of r (path_to want)) (resource_for want) (verb_text (verb_for want)) (form_text want) (sent_body want) want (place_back r want may n taken) (same_method want may)
    (want_read want texts may n small read) in
    subst (λ (path : List ℕ). Wants r (verb_text (verb_for want)) path (query_of (local_part (target_of want))) (sent_body want) want) (sym (target_path want may n))
    (subst (λ (query : List ℕ). Wants r (verb_text (verb_for want)) (path_to want) query (sent_body want) want) (sym (target_query want may n)) here)
