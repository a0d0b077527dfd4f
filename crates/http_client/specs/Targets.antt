-- The target of a client's request (RFC 9112, section 3.2): a path, and after a question mark the parameters that
-- have a value.
use Rattle.std.specs.Prelude.{⊤, ℕ, List, [], ◌∷◌, ◌++◌, codes, decimal, ◌==◌, Option, Some, None, if◌then◌else◌, IsUtf8}
use Rattle.form_urlencoded.specs.Form.{append_pair}
use Rattle.item_model.specs.Names.{names_text}
use Rattle.item_model.specs.QuerySeen.{tree_of}
use Rattle.item_model.specs.declared.query.Query.{Query}
use Rattle.item_model.specs.declared.request.Browse.{Browse}
use Rattle.item_model.specs.declared.request.Browse.TheVariants.{Artists, Albums, Genres, Composers}
use Rattle.item_model.specs.declared.request.Look.{Look}
use Rattle.item_model.specs.declared.request.Meta.{Meta}
use Rattle.item_model.specs.declared.request.Meta.TheVariants as shown
use Rattle.item_model.specs.declared.request.Range.{Range}
use Rattle.item_model.specs.declared.request.Range.TheVariants as range
use Rattle.item_model.specs.declared.request.Target.{Target}
use Rattle.item_model.specs.declared.request.Target.TheVariants as target
use Rattle.share_asks.specs.declared.ask.Want.{Want}
use Rattle.share_asks.specs.declared.ask.Want.TheVariants.{ServerInfo, Codes, Login, Logout, Update, Databases, Rows, Lists, Values, Edit, Stop, Bad}
use Rattle.song_query.specs.Printing.{printed}

abbrev pub rows_path : Target → List ℕ
rows_path target.Items = codes "/databases/1/items"
rows_path (target.Container list) = codes "/databases/1/containers/" ++ (decimal list ++ codes "/items")

abbrev pub values_path : Browse → List ℕ
values_path Artists = codes "/databases/1/browse/artists"
values_path Albums = codes "/databases/1/browse/albums"
values_path Genres = codes "/databases/1/browse/genres"
values_path Composers = codes "/databases/1/browse/composers"

abbrev pub path_to : Want → List ℕ
path_to ServerInfo = codes "/server-info"
path_to Codes = codes "/content-codes"
path_to Login = codes "/login"
path_to (Logout session) = codes "/logout"
path_to (Update session revision) = codes "/update"
path_to (Databases session) = codes "/databases"
path_to (Rows session target look) = rows_path target
path_to (Lists session) = codes "/databases/1/containers"
path_to (Values session browse asked) = values_path browse
path_to (Edit body) = codes "/edit"
path_to Stop = codes "/stop"
path_to (Bad error) = []

-- parameters in their order; one without a value is not written
abbrev pub Parameters : Type 0
Parameters = List (List ℕ × Option (List ℕ))

abbrev pub unless_zero : ℕ → Option (List ℕ)
unless_zero n = if n == 0 then None else Some (decimal n)

abbrev pub meta_value : Meta → Option (List ℕ)
meta_value shown.Default = None
meta_value shown.All = Some (codes "all")
meta_value (shown.Names properties) = Some (names_text properties)

abbrev pub query_value : Option Query → Option (List ℕ)
query_value None = None
query_value (Some query) = Some (printed (tree_of query))

abbrev pub range_value : Range → Option (List ℕ)
range_value range.All = None
range_value (range.One at) = Some (decimal at)
range_value (range.From at) = Some (decimal at ++ codes "-")
range_value (range.Span from to) = Some (decimal from ++ (codes "-" ++ decimal to))
range_value (range.Last count) = Some (codes "-" ++ decimal count)

abbrev pub session_of : ℕ → List ℕ × Option (List ℕ)
session_of session = (codes "session-id", Some (decimal session))

-- the parameters of a look; one at its default has no value
abbrev pub look_parameters : Look → Parameters
look_parameters look =
    (codes "delta", unless_zero look.base) ∷ (codes "meta", meta_value look.meta) ∷ (codes "query", query_value look.query)
    ∷ (codes "index", range_value look.range) ∷ []

abbrev pub parameters_of : Want → Parameters
parameters_of ServerInfo = []
parameters_of Codes = []
parameters_of Login = []
parameters_of (Logout session) = session_of session ∷ []
parameters_of (Update session revision) = session_of session ∷ (codes "revision-number", Some (decimal revision)) ∷ []
parameters_of (Databases session) = session_of session ∷ []
parameters_of (Rows session target look) = session_of session ∷ look_parameters look
parameters_of (Lists session) = session_of session ∷ []
parameters_of (Values session browse asked) = session_of session ∷ (codes "filter", query_value asked) ∷ []
parameters_of (Edit body) = []
parameters_of Stop = []
parameters_of (Bad error) = []

-- a form with one parameter more (`form_urlencoded`)
abbrev pub with_value : List ℕ → List ℕ → Option (List ℕ) → List ℕ
with_value form name None = form
with_value form name (Some value) = append_pair form name value

abbrev pub with_parameters : List ℕ → Parameters → List ℕ
with_parameters form [] = form
with_parameters form ((name, value) ∷ more) = with_parameters (with_value form name value) more

abbrev pub form_text : Want → List ℕ
form_text want = with_parameters [] (parameters_of want)

-- the form after a question mark, unless it is empty
abbrev pub behind_path : List ℕ → List ℕ
behind_path [] = []
behind_path (b ∷ bs) = 63 ∷ b ∷ bs

unfoldable pub target_of : Want → List ℕ
target_of want = path_to want ++ behind_path (form_text want)

-- a query's text is UTF-8
abbrev pub IsText : Option Query → Type 0
IsText None = ⊤
IsText (Some query) = IsUtf8 (printed (tree_of query))

abbrev pub IsTextOf : Want → Type 0
IsTextOf (Rows session target look) = IsText look.query
IsTextOf (Values session browse asked) = IsText asked
IsTextOf want = ⊤
