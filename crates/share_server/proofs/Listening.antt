-- A player's requests are no changes, whatever their bytes; so what they add edits and stops nothing.
use Rattle.std.proofs.Common.{◌≡◌, ℕ, List, [], ◌∷◌, ◌++◌, refl, ap, ◌∙◌, inl, inr, codes, Bool, true, false, cond, ◌||◌, ◌==◌, MatchBool, Option, Some, None}
use Rattle.std.specs.List.{AllZip, list_any}
use Rattle.std.specs.Option.{option_and_then, option_to_list}
use Rattle.std.specs.Str.{bytes_eq, is_utf8}
use Rattle.http_heads.specs.Messages.{Message}
use Rattle.item_model.specs.declared.changes.Entry.{Entry}
use Rattle.item_model.specs.declared.query.Query.{Query}
use Rattle.item_model.specs.declared.request.Meta.{Meta}
use Rattle.item_model.specs.declared.request.Range.{Range}
use Rattle.item_model.specs.declared.request.Target.{Target}
use Rattle.share_asks.specs.declared.ask.Ask.{Ask}
use Rattle.share_asks.specs.declared.ask.Role.TheVariants.{Listen}
use Rattle.share_asks.specs.declared.ask.Want.{Want}
use Rattle.share_asks.specs.declared.ask.Want.TheVariants.{ServerInfo, Codes, Login, Logout, Update, Databases, Lists, Values}
use Rattle.share_history.specs.Sessions.{is_stop}
use Rattle.share_replies.specs.Settings.{Settings}
use Rattle.share_replies.specs.Added.{adds}
use Rattle.share_replies.specs.Laws.{is_change, is_edit}
use Rattle.share_replies.proofs.ReplyFacts.{readers_change_nothing}
use Rattle.http_front.specs.Asks.{Spells}
use Rattle.http_front.specs.Readings.{Joins}
use Rattle.http_front.specs.Numbers.{number_in, range_in}
use Rattle.http_front.specs.Parameters.{nonempty_value, meta_in}
use Rattle.http_front.specs.Routes.{for_role, resource_at, resource_of, verb_of, verb_text}
use Rattle.http_front.specs.Targets.{local_part, path_of, query_of}
use Rattle.http_front.specs.Wants.{NumberThen, MetaThen, RangeThen, QueryThen, filter_or, ResourceWant, WithMethod, ForResource}
use Rattle.http_front.specs.declared.routes.Resource.{Resource}
use Rattle.http_front.specs.declared.routes.Resource.TheVariants as resource
use Rattle.share_server.specs.declared.report.Served.{Served}
use Rattle.share_server.specs.Served.{at_point, answered_on, added_part, IsGivenUp, IsReplied, IsServed, AreServed, added_entries}
use Rattle.share_server.specs.Laws.{PlayersChangeNothing}

-- ---- the operations of a player

-- every one is no change
abbrev IsQuiet : (Want → Type 0) → Type 0
IsQuiet P = (w : Want) → P w → is_change w ≡ false

quiet_is : (want : Want) → is_change want ≡ false → IsQuiet (λ v. v ≡ want)
quiet_is want quiet w is = ap is_change is ∙ quiet

quiet_number : (name : List ℕ) (o : Option ℕ) (Then : ℕ → Want → Type 0) → ((n : ℕ) → IsQuiet (Then n)) → IsQuiet (NumberThen name o Then)
quiet_number name None Then quiet w is = ap is_change is
quiet_number name (Some n) Then quiet w is = quiet n w is

quiet_meta : (o : Option Meta) (Then : Meta → Want → Type 0) → ((m : Meta) → IsQuiet (Then m)) → IsQuiet (MetaThen o Then)
quiet_meta None Then quiet w is = ap is_change is
quiet_meta (Some m) Then quiet w is = quiet m w is

quiet_range : (o : Option Range) (Then : Range → Want → Type 0) → ((r : Range) → IsQuiet (Then r)) → IsQuiet (RangeThen o Then)
quiet_range None Then quiet w is = ap is_change is
quiet_range (Some r) Then quiet w is = quiet r w is

quiet_query : (text : Option (List ℕ)) (Then : Option Query → Want → Type 0) → ((asked : Option Query) → IsQuiet (Then asked)) → IsQuiet (QueryThen text Then)
quiet_query None Then quiet w is = quiet None w is
quiet_query (Some text) Then quiet w (inl (a, x, is)) = quiet (Some a) w is
quiet_query (Some text) Then quiet w (inr (e, other, x, is)) = ap is_change is

quiet_session : (query : List ℕ) (of : ℕ → Want) → ((session : ℕ) → is_change (of session) ≡ false)
    → IsQuiet (NumberThen (codes "session-id") (number_in (nonempty_value (codes "session-id") query)) (λ session want. want ≡ of session))
quiet_session query of quiet =
    quiet_number (codes "session-id") (number_in (nonempty_value (codes "session-id") query)) (λ session want. want ≡ of session) (λ session. quiet_is (of session) (quiet session))

quiet_rows : (target : Target) (query : List ℕ) → IsQuiet (ResourceWant (resource.Rows target) query [])
quiet_rows target query =
    quiet_number (codes "session-id") (number_in (nonempty_value (codes "session-id") query)) _ (λ session.
    quiet_number (codes "delta") (number_in (nonempty_value (codes "delta") query)) _ (λ base.
    quiet_meta (meta_in (nonempty_value (codes "meta") query)) _ (λ meta.
    quiet_query (nonempty_value (codes "query") query) _ (λ asked.
    quiet_range (range_in (nonempty_value (codes "index") query)) _ (λ range. quiet_is _ refl)))))

-- a resource that is neither that of edits nor that of the stop
abbrev is_listening : Resource → Bool
is_listening resource.Edit = false
is_listening resource.Stop = false
is_listening p = true

quiet_resource : (p : Resource) (query body : List ℕ) → is_listening p ≡ true → IsQuiet (ResourceWant p query body)
quiet_resource resource.ServerInfo query body at = quiet_is ServerInfo refl
quiet_resource resource.Codes query body at = quiet_is Codes refl
quiet_resource resource.Login query body at = quiet_is Login refl
quiet_resource resource.Logout query body at = quiet_session query (λ session. Logout session) (λ session. refl)
quiet_resource resource.Update query body at =
    quiet_number (codes "session-id") (number_in (nonempty_value (codes "session-id") query)) _ (λ session.
    quiet_number (codes "revision-number") (number_in (nonempty_value (codes "revision-number") query)) _ (λ revision. quiet_is (Update session revision) refl))
quiet_resource resource.Databases query body at = quiet_session query (λ session. Databases session) (λ session. refl)
quiet_resource resource.Lists query body at = quiet_session query (λ session. Lists session) (λ session. refl)
quiet_resource (resource.Rows target) query body at = quiet_rows target query
quiet_resource (resource.Values browse) query body at =
    quiet_number (codes "session-id") (number_in (nonempty_value (codes "session-id") query)) _ (λ session.
    quiet_query (filter_or (nonempty_value (codes "filter") query) (nonempty_value (codes "query") query)) _ (λ asked. quiet_is (Values session browse asked) refl))
quiet_resource resource.Edit query body at = absurd (cc)
quiet_resource resource.Stop query body at = absurd (cc)

quiet_method : (right : Bool) (p : Resource) (query body : List ℕ) → is_listening p ≡ true → IsQuiet (WithMethod right p query body)
quiet_method true p query body at w is = quiet_resource p query body at w is
quiet_method false p query body at w is = ap is_change is

-- if a resource is found, it is one for players
abbrev AllListening : Option Resource → Type 0
AllListening None = Unit {0}
AllListening (Some p) = is_listening p ≡ true

quiet_at : (o : Option Resource) (method query body : List ℕ) → AllListening o → IsQuiet (ForResource o method query body)
quiet_at None method query body at w is = ap is_change is
quiet_at (Some p) method query body at w is = quiet_method (bytes_eq method (verb_text (verb_of p))) p query body at w is

for_players : (o : Option Resource) → AllListening (option_and_then (for_role Listen) o)
for_players None = tt
for_players (Some resource.ServerInfo) = refl
for_players (Some resource.Codes) = refl
for_players (Some resource.Login) = refl
for_players (Some resource.Logout) = refl
for_players (Some resource.Update) = refl
for_players (Some resource.Databases) = refl
for_players (Some resource.Lists) = refl
for_players (Some (resource.Rows target)) = refl
for_players (Some (resource.Values browse)) = refl
for_players (Some resource.Edit) = tt
for_players (Some resource.Stop) = tt

players_place : (path : List ℕ) → AllListening (resource_of Listen path)
players_place path = by_text (is_utf8 path)
  where
    by_text : (b : Bool) → AllListening (cond b (option_and_then (for_role Listen) (resource_at path)) None)
    by_text true = for_players (resource_at path)
    by_text false = tt

pub player_is_quiet : (m : Message) (ask : Ask) → Spells Listen m ask → is_change ask.want ≡ false
player_is_quiet m ask (h, is, asks) =
    quiet_at (resource_of Listen (path_of (local_part h.target))) h.method (query_of (local_part h.target)) m.body (players_place (path_of (local_part h.target)))
    ask.want asks.want_is

-- ---- what it adds

quiet_entries : (h : List Entry) (by : ℕ) (want : Want) (made : Option Entry) → adds h by want ≡ made → is_change want ≡ false
    → (list_any is_edit (option_to_list made) ≡ false) × (list_any is_stop (option_to_list made) ≡ false)
quiet_entries h by want None is quiet = (refl, refl)
quiet_entries h by want (Some e) is quiet =
    let none : (is_edit e ≡ false) × (is_stop e ≡ false) = readers_change_nothing h by want e quiet is in
    (ap (λ b. b || false) none.0, ap (λ b. b || false) none.1)

quiet_added : (settings : Settings) (by : ℕ) (h : List Entry) (want : Want) (s : Served) → is_change want ≡ false → IsServed settings by h want s
    → (list_any is_edit (added_part s.added (at_point h s)) ≡ false) × (list_any is_stop (added_part s.added (at_point h s)) ≡ false)
quiet_added settings by h want s quiet is = by_status (s.status == 500) is.how
  where
    by_status : (b : Bool) → MatchBool b (IsGivenUp s) (IsReplied settings by (at_point h s) want s)
        → (list_any is_edit (added_part s.added (at_point h s)) ≡ false) × (list_any is_stop (added_part s.added (at_point h s)) ≡ false)
    by_status true up = (
      ap (λ b. list_any is_edit (added_part b (at_point h s))) up.added,
      ap (λ b. list_any is_stop (added_part b (at_point h s))) up.added,
    )
    by_status false replied =
        let none = quiet_entries (answered_on s.added (at_point h s)) by want (adds (answered_on s.added (at_point h s)) by want) refl quiet in
        (ap (list_any is_edit) replied.adds_it ∙ none.0, ap (list_any is_stop) replied.adds_it ∙ none.1)

pub any_neither : (p : Entry → Bool) (xs ys : List Entry) → list_any p xs ≡ false → list_any p ys ≡ false → list_any p (xs ++ ys) ≡ false
any_neither p [] ys none_x none_y = none_y
any_neither p (x ∷ xs) ys none_x none_y = by_test (p x) none_x (λ rest. any_neither p xs ys rest none_y)
  where
    by_test : (b : Bool) → (b || list_any p xs) ≡ false → (list_any p xs ≡ false → list_any p (xs ++ ys) ≡ false) → (b || list_any p (xs ++ ys)) ≡ false
    by_test true none rest = none
    by_test false none rest = rest none

quiet_all : (settings : Settings) (by : ℕ) (h : List Entry) (ms : List Message) (asks : List Ask) (served : List Served) → AllZip (Spells Listen) ms asks
    → AreServed settings by h asks served → (list_any is_edit (added_entries h served) ≡ false) × (list_any is_stop (added_entries h served) ≡ false)
quiet_all settings by h ms asks [] spell are = (refl, refl)
quiet_all settings by h ms [] (s ∷ served) spell are = absurd are
quiet_all settings by h [] (ask ∷ asks) (s ∷ served) spell are = absurd spell
quiet_all settings by h (m ∷ ms) (ask ∷ asks) (s ∷ served) spell are =
    let one = quiet_added settings by h ask.want s (player_is_quiet m ask spell.0) are.0 in
    let rest = quiet_all settings by h ms asks served spell.1 are.1 in (
      any_neither is_edit (added_part s.added (at_point h s)) (added_entries h served) one.0 rest.0,
      any_neither is_stop (added_part s.added (at_point h s)) (added_entries h served) one.1 rest.1,
    )

pub players_change_nothing : PlayersChangeNothing
players_change_nothing input asks rest settings by h served joins are = quiet_all settings by h joins.requests asks served joins.spell are

-- nor is the last of a player's requests a change
pub last_is_quiet : (input : List ℕ) (asks : List Ask) (ask : Ask) (rest : List ℕ) → Joins Listen input (asks ++ ask ∷ []) rest → is_change ask.want ≡ false
last_is_quiet input asks ask rest joins = by_messages joins.requests asks joins.spell
  where
    by_messages : (ms : List Message) (asks : List Ask) → AllZip (Spells Listen) ms (asks ++ ask ∷ []) → is_change ask.want ≡ false
    by_messages [] [] spell = absurd spell
    by_messages (m ∷ ms) [] spell = player_is_quiet m ask spell.0
    by_messages [] (a ∷ asks) spell = absurd spell
    by_messages (m ∷ ms) (a ∷ asks) spell = by_messages ms asks spell.1
