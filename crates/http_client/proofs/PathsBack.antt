-- The paths that a client writes lead to what they were written for.
use Rattle.std.proofs.Common.{◌≡◌, ◌≢◌, ◌≤◌, ◌<◌, ◌-◌, ◌^◌, ◌∷◌, ◌++◌, ◌==◌, ◌&&◌, [], ℕ, zero, suc, List, Bool, cond, Option, Some, None, true, false, refl, ap, ◌∙◌, length, drop, All, arith, length-append}
use Rattle.std.specs.Prelude.{codes, decimal, option_map}
use Rattle.std.proofs.lemmas.Bool.{and_parts, and_from, cond-false, lt-ltb, ne_eqb}
use Rattle.std.proofs.lemmas.List.{drop_at}
use Rattle.std.proofs.lemmas.List.Elements.{All-head, All-tail, All-weaker}
use Rattle.matchit.specs.Rows.{param_token, catch_all_token}
use Rattle.matchit.specs.Route.{scan}
use Rattle.matchit.specs.Router.{RouteOf}
use Rattle.matchit.specs.Seek.{step, or_else, seek, param_step, has_slash, segment, cuts}
use Rattle.http_client.proofs.Numerals.{IsDigit, decimal_digits, decimal_some, small_back}
use Rattle.std.specs.Str.{is_utf8}
use Rattle.std.specs.List.{before_first}
use Rattle.form_urlencoded.proofs.FormLemmas.{split_once_before_at}
use Rattle.http_front.specs.Numbers.{small_number}
use Rattle.http_front.specs.Routes.{Rows, all_routes, for_role, list_in, resource_of, resource_on, route_at}
use Rattle.http_front.specs.declared.routes.Resource.{Resource}
use Rattle.http_front.specs.declared.routes.Resource.TheVariants as resource
use Rattle.item_model.specs.declared.request.Browse.TheVariants as browse
use Rattle.item_model.specs.declared.request.Look.{Look}
use Rattle.item_model.specs.declared.request.Target.{Target}
use Rattle.item_model.specs.declared.request.Target.TheVariants as target
use Rattle.share_asks.specs.declared.ask.Role.{Role}
use Rattle.share_asks.specs.declared.ask.Role.TheVariants as role
use Rattle.share_asks.specs.declared.ask.Want.{Want}
use Rattle.share_asks.specs.declared.ask.Want.TheVariants as wanted
use Rattle.http_client.specs.Requests.{CanSend, HasListNumber, HasNumbers, IsTaken}
use Rattle.http_client.specs.Targets.{path_to, rows_path}
use Rattle.http_client.proofs.TargetsBack.{path_text}
use Rattle.http_front.specs.declared.routes.Route.{Route}
use Rattle.http_front.specs.declared.routes.Route.TheVariants.{ServerInfo, Codes, Login, Logout, Update, Databases, Lists, Items, Members, Values, Edit, Stop}

-- ---- routes that the path does not match

nothing_left : (path : List ℕ) → (param_step {K = RouteOf Route} [] path).1 ≡ []
unfolding param_step
nothing_left path =
    elim (has_slash path) as (λ v. (cond {A = ℕ × Rows} v (0, []) (length path, [])).1 ≡ []) [
      | true ↦ refl
      | false ↦ refl
    ]

none_left : (k : ℕ) (path : List ℕ) → seek {K = RouteOf Route} k [] path ≡ None
unfolding seek
none_left k [] = refl
none_left (suc k) (b ∷ path) = none_left k path
none_left zero (b ∷ path) =
    simp (none_left 0 path, nothing_left (b ∷ path), none_left ((param_step {K = RouteOf Route} [] (b ∷ path)).0 - 1) path)

skipped : (k : ℕ) (rows : Rows) (path : List ℕ) → seek k rows path ≡ seek 0 rows (drop k path)
unfolding seek
skipped zero rows path = refl
skipped (suc k) rows [] = refl
skipped (suc k) rows (b ∷ path) = skipped k rows path

or_none : (o : Option (RouteOf Route)) → or_else o None ≡ o
or_none None = refl
or_none (Some r) = refl

-- ---- a prefix without parameters of a route

abbrev is_none : Rows → Bool
is_none [] = true
is_none (r ∷ rows) = false

abbrev is_quiet : Rows → Bool
is_quiet rows = is_none (step param_token rows) && is_none (step catch_all_token rows)

abbrev all_quiet : List ℕ → Rows → Bool
all_quiet [] rows = true
all_quiet (b ∷ bs) rows = is_quiet rows && all_quiet bs (step b rows)

abbrev steps : List ℕ → Rows → Rows
steps [] rows = rows
steps (b ∷ bs) rows = steps bs (step b rows)

none_is : (rows : Rows) → is_none rows ≡ true → rows ≡ []
none_is [] h = refl
none_is (r ∷ rows) h = absurd (cc h)

quiet_step : (b : ℕ) (path : List ℕ) (rows : Rows) → is_quiet rows ≡ true → seek 0 rows (b ∷ path) ≡ seek 0 (step b rows) path
unfolding seek
quiet_step b path rows h =
    let parts = and_parts (is_none (step param_token rows)) (is_none (step catch_all_token rows)) h in
    let p : step param_token rows ≡ [] = none_is (step param_token rows) parts.0 in
    let c : step catch_all_token rows ≡ [] = none_is (step catch_all_token rows) parts.1 in
    simp (p, c, nothing_left (b ∷ path), none_left ((param_step {K = RouteOf Route} [] (b ∷ path)).0 - 1) path, or_none)

quiet_steps : (front path : List ℕ) (rows : Rows) → all_quiet front rows ≡ true → seek 0 rows (front ++ path) ≡ seek 0 (steps front rows) path
quiet_steps [] path rows h = refl
quiet_steps (b ∷ front) path rows h =
    let parts = and_parts (is_quiet rows) (all_quiet front (step b rows)) h in
    quiet_step b (front ++ path) rows parts.0 ∙ quiet_steps front path (step b rows) parts.1

-- ---- a number up to a slash, and the rest of a route

abbrev NoSlash : ℕ → Type 0
NoSlash b = b ≢ 47

segment_of : (part rest : List ℕ) → All NoSlash part → segment (part ++ 47 ∷ rest) ≡ part ++ 47 ∷ []
segment_of [] rest h = refl
segment_of (b ∷ part) rest h =
    cond-false _ _ _ (ne_eqb b 47 (All-head NoSlash b part h)) ∙ ap (λ l. b ∷ l) (segment_of part rest (All-tail NoSlash b part h))

abbrev rest_of : RouteOf Route → Rows
rest_of r = (codes "/items", r) ∷ []

cut_here : (part : List ℕ) → 1 ≤ length part → cuts (part ++ 47 ∷ []) (47 ∷ []) ≡ true
cut_here part some =
    let more : 1 < length (part ++ 47 ∷ []) = simp length-append (omega (arith, some)) in
    let at : length (part ++ 47 ∷ []) - 1 ≡ length part = simp length-append (omega arith) in
    and_from _ _ (lt-ltb 1 (length (part ++ 47 ∷ [])) more) (rw (at, drop_at part (47 ∷ []) (length part) refl) refl)

param_at : (r : RouteOf Route) (part : List ℕ) → 1 ≤ length part → All NoSlash part → param_step (rest_of r) (part ++ codes "/items") ≡ (length part, rest_of r)
unfolding param_step
param_at r part some none =
    let at : length (part ++ 47 ∷ []) - 1 ≡ length part = simp length-append (omega arith) in
    rw (segment_of part (codes "items") none, cut_here part some, at) refl

found_at_end : (r : RouteOf Route) → seek 0 (rest_of r) (codes "/items") ≡ Some r
unfolding seek param_step
found_at_end r = refl

param_found : (r : RouteOf Route) (d : ℕ) (ds : List ℕ) → d < 256 → All NoSlash (d ∷ ds) → seek 0 ((param_token ∷ codes "/items", r) ∷ []) (d ∷ (ds ++ codes "/items")) ≡ Some r
unfolding seek
param_found r d ds small none =
    let other : (param_token == d) ≡ false = ne_eqb param_token d (λ (e : param_token ≡ d). omega (arith, small, e)) in
    let step_is : param_step (rest_of r) (d ∷ (ds ++ codes "/items")) ≡ (length (d ∷ ds), rest_of r) = param_at r (d ∷ ds) (omega arith) none in
    let one_less : length (d ∷ ds) - 1 ≡ length ds = omega arith in
    let skip : seek (length (d ∷ ds) - 1) (rest_of r) (ds ++ codes "/items") ≡ Some r =
    ap (λ (k : ℕ). seek k (rest_of r) (ds ++ codes "/items")) one_less ∙ skipped (length ds) (rest_of r) (ds ++ codes "/items") ∙ ap (seek 0 (rest_of r)) (drop_at ds (codes "/items") (length ds) refl) ∙ found_at_end r in
    rw (other, none_left 0 (ds ++ codes "/items"), step_is, skip) refl

abbrev first_route : RouteOf Route → Rows → RouteOf Route
first_route other [] = other
first_route other (row ∷ rows) = row.1

abbrev list_front : List ℕ
list_front = codes "/databases/1/containers/"

front_quiet : all_quiet list_front all_routes ≡ true
unfolding all_routes scan
front_quiet = refl

nothing : RouteOf Route
nothing = record { pattern = []; text = []; names = []; value = Stop }

front_leaves : steps list_front all_routes ≡ (param_token ∷ codes "/items", first_route nothing (steps list_front all_routes)) ∷ []
unfolding all_routes scan
front_leaves = refl

front_value : (first_route nothing (steps list_front all_routes)).value ≡ Members
unfolding all_routes scan
front_value = refl

-- the items of a container, whatever its digits
members_found : (d : ℕ) (ds : List ℕ) → d < 256 → All NoSlash (d ∷ ds) → route_at (list_front ++ (d ∷ (ds ++ codes "/items"))) ≡ Some Members
unfolding route_at
members_found d ds small none =
    let r = first_route nothing (steps list_front all_routes) in
    let path = d ∷ (ds ++ codes "/items") in
    let found : seek 0 all_routes (list_front ++ path) ≡ Some r =
    quiet_steps list_front path all_routes front_quiet ∙ ap (λ (rows : Rows). seek 0 rows path) front_leaves ∙ param_found r d ds small none in
    ap (option_map (λ (f : RouteOf Route). f.value)) found ∙ ap (λ (v : Route). Some v) front_value

digit_plain : (b : ℕ) → IsDigit b → NoSlash b
digit_plain b h = λ (e : b ≡ 47). omega (arith, h.0, e)

pub members_named : (digits : List ℕ) → 1 ≤ length digits → All IsDigit digits → route_at (list_front ++ (digits ++ codes "/items")) ≡ Some Members
members_named [] some h = absurd (omega (arith, some))
members_named (d ∷ ds) some h =
    let first = All-head IsDigit d ds h in
    members_found d ds (omega (arith, first.1)) (All-weaker IsDigit NoSlash digit_plain (d ∷ ds) h)

-- ---- the resources of the paths

placed : (r : Role) (path : List ℕ) (route : Route) (p : Resource) → is_utf8 path ≡ true → route_at path ≡ Some route → resource_on route path ≡ Some p → for_role r p ≡ Some p
    → resource_of r path ≡ Some p
placed r path route p text found on for = rw (text, found, on) for

list_back : (list : ℕ) → list < 2 ^ 32 → list_in (list_front ++ (decimal list ++ codes "/items")) ≡ Some list
list_back list h =
    let digits = All-weaker IsDigit NoSlash digit_plain (decimal list) (decimal_digits list (omega (arith, h))) in
    let number : before_first (λ b. b == 47) (decimal list ++ codes "/items") ≡ decimal list = split_once_before_at 47 (decimal list) (codes "items") digits in
    ap small_number number ∙ small_back list h

items_named : (list : ℕ) → list < 2 ^ 32 → route_at (rows_path (target.Container list)) ≡ Some Members
items_named list h = let wide : list < 2 ^ 64 = omega (arith, h) in members_named (decimal list) (decimal_some list wide) (decimal_digits list wide)

-- the resource of an operation's path
abbrev pub resource_for : Want → Resource
resource_for wanted.ServerInfo = resource.ServerInfo
resource_for wanted.Codes = resource.Codes
resource_for wanted.Login = resource.Login
resource_for (wanted.Logout session) = resource.Logout
resource_for (wanted.Update session revision) = resource.Update
resource_for (wanted.Databases session) = resource.Databases
resource_for (wanted.Rows session t look) = resource.Rows t
resource_for (wanted.Lists session) = resource.Lists
resource_for (wanted.Values session browse asked) = resource.Values browse
resource_for (wanted.Edit body) = resource.Edit
resource_for wanted.Stop = resource.Stop
resource_for (wanted.Bad error) = resource.Stop

taken_resource : (r : Role) (want : Want) → CanSend want → IsTaken r want → for_role r (resource_for want) ≡ Some (resource_for want)
taken_resource role.Edit want h t = refl
taken_resource role.Listen wanted.ServerInfo h t = refl
taken_resource role.Listen wanted.Codes h t = refl
taken_resource role.Listen wanted.Login h t = refl
taken_resource role.Listen (wanted.Logout session) h t = refl
taken_resource role.Listen (wanted.Update session revision) h t = refl
taken_resource role.Listen (wanted.Databases session) h t = refl
taken_resource role.Listen (wanted.Rows session target look) h t = refl
taken_resource role.Listen (wanted.Lists session) h t = refl
taken_resource role.Listen (wanted.Values session browse asked) h t = refl
taken_resource role.Listen (wanted.Edit body) h t = absurd t
taken_resource role.Listen wanted.Stop h t = absurd t
taken_resource role.Listen (wanted.Bad error) h t = absurd h

abbrev IsRouted : Want → Type 0
IsRouted want = (route : Route) × (route_at (path_to want) ≡ Some route) × (resource_on route (path_to want) ≡ Some (resource_for want))

rows_routed : (session : ℕ) (t : Target) (look : Look) → HasListNumber t → IsRouted (wanted.Rows session t look)
unfolding route_at all_routes scan seek param_step
rows_routed session target.Items look h = (Items, refl, refl)
rows_routed session (target.Container list) look h = (Members, items_named list h, ap (option_map (λ n. resource.Rows (target.Container n))) (list_back list h))

routed : (want : Want) → CanSend want → HasNumbers want → IsRouted want
unfolding route_at all_routes scan seek param_step
routed wanted.ServerInfo h n = (ServerInfo, refl, refl)
routed wanted.Codes h n = (Codes, refl, refl)
routed wanted.Login h n = (Login, refl, refl)
routed (wanted.Logout session) h n = (Logout, refl, refl)
routed (wanted.Update session revision) h n = (Update, refl, refl)
routed (wanted.Databases session) h n = (Databases, refl, refl)
routed (wanted.Rows session t look) h n = rows_routed session t look n.1
routed (wanted.Lists session) h n = (Lists, refl, refl)
routed (wanted.Values session browse.Artists asked) h n = (Values browse.Artists, refl, refl)
routed (wanted.Values session browse.Albums asked) h n = (Values browse.Albums, refl, refl)
routed (wanted.Values session browse.Genres asked) h n = (Values browse.Genres, refl, refl)
routed (wanted.Values session browse.Composers asked) h n = (Values browse.Composers, refl, refl)
routed (wanted.Edit body) h n = (Edit, refl, refl)
routed wanted.Stop h n = (Stop, refl, refl)
routed (wanted.Bad error) h n = absurd h

-- the path of an operation names its resource
pub place_back : (r : Role) (want : Want) → CanSend want → HasNumbers want → IsTaken r want → resource_of r (path_to want) ≡ Some (resource_for want)
place_back r want h n t =
    let found = routed want h n in
    placed r (path_to want) found.0 (resource_for want) (path_text want n) found.1 found.2 (taken_resource r want h t)
