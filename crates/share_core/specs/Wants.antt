-- Kinds of operations.
use Rattle.std.specs.Prelude.{Bool, true, false}
use Rattle.share_asks.specs.declared.ask.Want.{Want}
use Rattle.share_asks.specs.declared.ask.Want.TheVariants.{ServerInfo, Codes, Login, Logout, Update, Databases, Rows, Lists, Values, Edit, Stop, Bad}

-- Those that never fail to allocate: a logout and the stop.
abbrev pub is_free : Want → Bool
is_free ServerInfo = false
is_free Codes = false
is_free Login = false
is_free (Logout session) = true
is_free (Update session number) = false
is_free (Databases session) = false
is_free (Rows session target look) = false
is_free (Lists session) = false
is_free (Values session browse query) = false
is_free (Edit body) = false
is_free Stop = true
is_free (Bad fault) = false

-- Those that are answered at once and change nothing.
abbrev pub is_read : Want → Bool
is_read ServerInfo = true
is_read Codes = true
is_read Login = false
is_read (Logout session) = false
is_read (Update session number) = false
is_read (Databases session) = true
is_read (Rows session target look) = true
is_read (Lists session) = true
is_read (Values session browse query) = true
is_read (Edit body) = false
is_read Stop = false
is_read (Bad fault) = true
