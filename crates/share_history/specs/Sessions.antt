-- Sessions. A login gets the next id, counted from 1. A session is live from its login until a logout of it or until
-- `live_sessions` later logins.
use Rattle.std.specs.Prelude.{ℕ, ◌+◌, List, [], ◌∷◌, ◌==◌, Bool, true, false, ◌&&◌, not, nat_lt, Option, Some, None, count_by, if◌then◌else◌}
use Rattle.std.specs.Option.{option_map_or}
use Rattle.std.specs.List.{list_any}
use Rattle.item_model.specs.declared.changes.Entry.{Entry}
use Rattle.item_model.specs.declared.changes.Entry.TheVariants.{Edits, Login, Logout, Stop}
use Rattle.share_history.specs.Numbers.{live_sessions}

abbrev pub is_login : Entry → Bool
is_login (Edits by batch) = false
is_login (Login by id) = true
is_login (Logout by id) = false
is_login (Stop by) = false

abbrev pub logs_out : ℕ → Entry → Bool
logs_out id (Edits by batch) = false
logs_out id (Login by other) = false
logs_out id (Logout by other) = other == id
logs_out id (Stop by) = false

abbrev pub is_stop : Entry → Bool
is_stop (Edits by batch) = false
is_stop (Login by id) = false
is_stop (Logout by id) = false
is_stop (Stop by) = true

abbrev pub is_login_of : ℕ → Entry → Bool
is_login_of id (Edits by batch) = false
is_login_of id (Login by other) = other == id
is_login_of id (Logout by other) = false
is_login_of id (Stop by) = false

-- the entries after the login of a session, if it logged in
abbrev pub after_login : ℕ → List Entry → Option (List Entry)
after_login id [] = None
after_login id (e ∷ h) = if is_login_of id e then Some h else after_login id h

abbrev pub is_live : List Entry → ℕ → Bool
is_live h id = option_map_or (λ rest. nat_lt (count_by is_login rest) live_sessions) (after_login id h) false && not (list_any (logs_out id) h)

-- the id of the next login
abbrev pub next_session : List Entry → ℕ
next_session h = count_by is_login h + 1

abbrev pub is_stopped : List Entry → Bool
is_stopped h = list_any is_stop h
