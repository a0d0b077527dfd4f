-- The paths of requests, matched by the router's rule (`matchit`), and the resources that they name.
use Rattle.std.specs.Prelude.{ℕ, List, [], ◌∷◌, fold, drop, codes, ◌==◌, Option, Some, None, option_map, option_and_then, Result, Ok, Err, if◌then◌else◌}
use Rattle.std.specs.List.{before_first}
use Rattle.std.specs.Str.{is_utf8}
use Rattle.item_model.specs.declared.request.Browse.TheVariants.{Artists, Albums, Genres, Composers}
use Rattle.item_model.specs.declared.request.Target.TheVariants as target
use Rattle.matchit.specs.Order.{placed}
use Rattle.matchit.specs.Route.{Scan, parse_route}
use Rattle.matchit.specs.Router.{RouteOf, route_from}
use Rattle.matchit.specs.Rows.{RowsOf}
use Rattle.matchit.specs.Seek.{first}
use Rattle.matchit.specs.declared.error.InsertError.{InsertError}
use Rattle.share_asks.specs.declared.ask.Role.{Role}
use Rattle.share_asks.specs.declared.ask.Role.TheVariants as role
use Rattle.share_asks.specs.declared.ask.Verb.{Verb}
use Rattle.share_asks.specs.declared.ask.Verb.TheVariants.{Get, Post}
use Rattle.http_front.specs.Numbers.{small_number}
use Rattle.http_front.specs.declared.routes.Resource.{Resource}
use Rattle.http_front.specs.declared.routes.Resource.TheVariants as resource
use Rattle.http_front.specs.declared.routes.Route.{Route}
use Rattle.http_front.specs.declared.routes.Route.TheVariants.{ServerInfo, Codes, Login, Logout, Update, Databases, Lists, Items, Members, Values, Edit, Stop}

abbrev pub Table : Type 0
Table = List (List ℕ × Route)

abbrev pub table : Table
table =
    (codes "/server-info", ServerInfo) ∷ (codes "/content-codes", Codes) ∷ (codes "/login", Login) ∷ (codes "/logout", Logout)
    ∷ (codes "/update", Update) ∷ (codes "/databases", Databases) ∷ (codes "/databases/1/containers", Lists)
    ∷ (codes "/databases/1/items", Items) ∷ (codes "/databases/1/containers/{list}/items", Members)
    ∷ (codes "/databases/1/browse/artists", Values Artists) ∷ (codes "/databases/1/browse/albums", Values Albums)
    ∷ (codes "/databases/1/browse/genres", Values Genres) ∷ (codes "/databases/1/browse/composers", Values Composers)
    ∷ (codes "/edit", Edit) ∷ (codes "/stop", Stop) ∷ []

abbrev pub Rows : Type 0
Rows = RowsOf (RouteOf Route)

abbrev pub with_read : Result Scan InsertError → Route → Rows → Rows
with_read (Ok scan) route rows = placed (scan.pattern, route_from scan route) rows
with_read (Err e) route rows = rows

abbrev pub with_route : Rows → List ℕ × Route → Rows
with_route rows entry = with_read (parse_route entry.0) entry.1 rows

-- the router of a table, as its rows
abbrev pub rows_of : Table → Rows
rows_of entries = fold with_route [] entries

unfoldable pub all_routes : Rows
all_routes = rows_of table

unfoldable pub route_at : List ℕ → Option Route
route_at path = option_map (λ found. found.value) (first all_routes path)

-- the number between the third slash and the next in the path of a container
abbrev pub list_in : List ℕ → Option ℕ
list_in path = small_number (before_first (λ b. b == 47) (drop 24 path))

-- the resource of a route; a container's path names none if its number is malformed
abbrev pub resource_on : Route → List ℕ → Option Resource
resource_on ServerInfo path = Some resource.ServerInfo
resource_on Codes path = Some resource.Codes
resource_on Login path = Some resource.Login
resource_on Logout path = Some resource.Logout
resource_on Update path = Some resource.Update
resource_on Databases path = Some resource.Databases
resource_on Lists path = Some resource.Lists
resource_on Items path = Some (resource.Rows target.Items)
resource_on Members path = option_map (λ list. resource.Rows (target.Container list)) (list_in path)
resource_on (Values browse) path = Some (resource.Values browse)
resource_on Edit path = Some resource.Edit
resource_on Stop path = Some resource.Stop

-- edits and the stop are only for the role `Edit`
abbrev pub for_role : Role → Resource → Option Resource
for_role role.Listen resource.Edit = None
for_role role.Listen resource.Stop = None
for_role r p = Some p

abbrev pub resource_at : List ℕ → Option Resource
resource_at path = option_and_then (λ route. resource_on route path) (route_at path)

-- the resource that a path names for a role
abbrev pub resource_of : Role → List ℕ → Option Resource
resource_of r path = if is_utf8 path then option_and_then (for_role r) (resource_at path) else None

abbrev pub verb_of : Resource → Verb
verb_of resource.Edit = Post
verb_of resource.Stop = Post
verb_of p = Get

abbrev pub verb_text : Verb → List ℕ
verb_text Get = codes "GET"
verb_text Post = codes "POST"
