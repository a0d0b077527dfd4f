-- What holds of each refusal and of each success holds of each reply.
use Rattle.std.proofs.Common.{◌≡◌, ℕ, Bool, true, false, cond, List, [], ◌∷◌, refl, sym, ap, ◌∙◌, Option, Some, None, Ok, Err}
use Rattle.std.specs.Option.{option_or, option_map_or}
use Rattle.dmap_tags.specs.Tree.{Tree}
use Rattle.item_model.specs.declared.changes.Entry.{Entry}
use Rattle.share_history.specs.LastSaid.{only_if}
use Rattle.share_history.specs.Sessions.{is_stopped}
use Rattle.share_asks.specs.declared.ask.AskError.{AskError}
use Rattle.share_asks.specs.declared.ask.AskError.TheVariants.{Path, Method, Parameter, Query}
use Rattle.share_asks.specs.declared.ask.Verb.{Verb}
use Rattle.share_asks.specs.declared.ask.Want.{Want}
use Rattle.share_asks.specs.declared.ask.Want.TheVariants.{ServerInfo, Codes, Login, Logout, Update, Databases, Rows, Lists, Values, Edit, Stop, Bad}
use Rattle.share_replies.specs.Settings.{Settings}
use Rattle.share_replies.specs.Replies.{Body, Nothing, Allowed, Line, Tagged, Reply, Answer, Replies, Holds, request_fault, lacks_session, lacks_container, records_fault, meets_limit, refusal, success, is_held, reply_with, answer_to}

-- if a refusal is given, it has the property
abbrev pub all_have : (ℕ × Body → Bool) → Option (ℕ × Body) → Bool
all_have has found = option_map_or has found true

-- each refusal has the property, whatever line or method it states
pub record HaveRefusals (has : ℕ × Body → Bool) : Type 0 where
  pub line : (text : List ℕ) → has (400, Line text) ≡ true
  pub session : has (403, Nothing) ≡ true
  pub place : has (404, Nothing) ≡ true
  pub method : (allow : Verb) → has (405, Allowed allow) ≡ true
  pub stopped : has (503, Nothing) ≡ true
  pub limit : has (507, Nothing) ≡ true

-- each success has the property, whatever its tag
pub record HaveSuccesses (has : ℕ × Body → Bool) : Type 0 where
  pub tag : (tag : Tree) → has (200, Tagged tag) ≡ true
  pub nothing : has (204, Nothing) ≡ true

or_have : (has : ℕ × Body → Bool) (a b : Option (ℕ × Body)) → all_have has a ≡ true → all_have has b ≡ true → all_have has (option_or a b) ≡ true
or_have has None b ha hb = hb
or_have has (Some told) b ha hb = ha

only_have : (has : ℕ × Body → Bool) (b : Bool) (told : ℕ × Body) → has told ≡ true → all_have has (only_if b told) ≡ true
only_have has true told h = h
only_have has false told h = refl

faults_have : (has : ℕ × Body → Bool) (want : Want) → HaveRefusals has → all_have has (request_fault want) ≡ true
faults_have has (Bad Path) r = r.place
faults_have has (Bad (Method allow)) r = r.method allow
faults_have has (Bad (Parameter name)) r = r.line _
faults_have has (Bad (Query error)) r = r.line _
faults_have has ServerInfo r = refl
faults_have has Codes r = refl
faults_have has Login r = refl
faults_have has (Logout session) r = refl
faults_have has (Update session number) r = refl
faults_have has (Databases session) r = refl
faults_have has (Rows session target look) r = refl
faults_have has (Lists session) r = refl
faults_have has (Values session browse query) r = refl
faults_have has (Edit body) r = refl
faults_have has Stop r = refl

records_have : (has : ℕ × Body → Bool) (want : Want) → HaveRefusals has → all_have has (records_fault want) ≡ true
records_have has (Edit (Err error)) r = r.line _
records_have has (Edit (Ok batch)) r = refl
records_have has ServerInfo r = refl
records_have has Codes r = refl
records_have has Login r = refl
records_have has (Logout session) r = refl
records_have has (Update session number) r = refl
records_have has (Databases session) r = refl
records_have has (Rows session target look) r = refl
records_have has (Lists session) r = refl
records_have has (Values session browse query) r = refl
records_have has Stop r = refl
records_have has (Bad fault) r = refl

-- so each refusal of a request has it
pub refusals_have : (has : ℕ × Body → Bool) (h : List Entry) (want : Want) → HaveRefusals has → all_have has (refusal h want) ≡ true
refusals_have has h want r =
    or_have has (only_if (is_stopped h) (503, Nothing)) _ (only_have has (is_stopped h) (503, Nothing) r.stopped)
    (or_have has (request_fault want) _ (faults_have has want r)
    (or_have has (only_if (lacks_session h want) (403, Nothing)) _ (only_have has (lacks_session h want) (403, Nothing) r.session)
    (or_have has (only_if (lacks_container h want) (404, Nothing)) _ (only_have has (lacks_container h want) (404, Nothing) r.place)
    (or_have has (records_fault want) _ (records_have has want r)
    (or_have has (only_if (meets_limit h want) (507, Nothing)) None (only_have has (meets_limit h want) (507, Nothing) r.limit) refl)))))

-- the success of each request, among them the two that are refused before
successes_have : (has : ℕ × Body → Bool) (s : Settings) (h : List Entry) (want : Want) → HaveRefusals has → HaveSuccesses has → has (success s h want) ≡ true
successes_have has s h ServerInfo r x = x.tag _
successes_have has s h Codes r x = x.tag _
successes_have has s h Login r x = x.tag _
successes_have has s h (Logout session) r x = x.nothing
successes_have has s h (Update session number) r x = x.tag _
successes_have has s h (Databases session) r x = x.tag _
successes_have has s h (Rows session target look) r x = x.tag _
successes_have has s h (Lists session) r x = x.tag _
successes_have has s h (Values session browse query) r x = x.tag _
successes_have has s h (Edit (Ok [])) r x = x.nothing
successes_have has s h (Edit (Ok (e ∷ es))) r x = x.tag _
successes_have has s h (Edit (Err error)) r x = r.line _
successes_have has s h Stop r x = x.nothing
successes_have has s h (Bad Path) r x = r.place
successes_have has s h (Bad (Method allow)) r x = r.method allow
successes_have has s h (Bad (Parameter name)) r x = r.line _
successes_have has s h (Bad (Query error)) r x = r.line _

-- a reply has the property; a pending update has it trivially
abbrev answer_has : (ℕ × Body → Bool) → Answer → Bool
answer_has has (Replies reply) = has (reply.status, reply.body)
answer_has has Holds = true

held_has : (has : ℕ × Body → Bool) (held : Bool) (told : ℕ × Body) (h : List Entry) (want : Want) → has told ≡ true
    → answer_has has (cond held Holds (reply_with h want told)) ≡ true
held_has has true told h want is = refl
held_has has false told h want is = is

found_has : (has : ℕ × Body → Bool) (found : Option (ℕ × Body)) (rest : Answer) (h : List Entry) (want : Want) → all_have has found ≡ true
    → answer_has has rest ≡ true → answer_has has (option_map_or (reply_with h want) found rest) ≡ true
found_has has None rest h want f r = r
found_has has (Some told) rest h want f r = f

-- what each refusal and each success has, each reply has
pub replies_have : (has : ℕ × Body → Bool) (s : Settings) (h : List Entry) (want : Want) (reply : Reply) → HaveRefusals has → HaveSuccesses has
    → answer_to s h want ≡ Replies reply → has (reply.status, reply.body) ≡ true
replies_have has s h want reply r x is =
    sym (ap (answer_has has) is)
    ∙ found_has has (refusal h want) (cond (is_held h want) Holds (reply_with h want (success s h want))) h want (refusals_have has h want r)
    (held_has has (is_held h want) (success s h want) h want (successes_have has s h want r x))
