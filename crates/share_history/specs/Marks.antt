-- The last-answered lengths of live sessions: how many entries the history had when a session got its last response.
use Rattle.std.specs.Prelude.{ℕ, suc, List, [], ◌∷◌, ◌==◌, Bool, true, ◌&&◌, nat_lt, length, filter, if◌then◌else◌}
use Rattle.item_model.specs.declared.changes.Entry.{Entry}
use Rattle.item_model.specs.declared.changes.Entry.TheVariants.{Edits, Login, Logout, Stop}
use Rattle.share_history.specs.Keyed.{put_in}
use Rattle.share_history.specs.Sessions.{is_login_of, is_live}

-- the history up to and with the login of a session, or all of it if the session never logged in
abbrev pub until_login : ℕ → List Entry → List Entry
until_login id [] = []
until_login id (e ∷ h) = e ∷ (if is_login_of id e then [] else until_login id h)

-- last-answered lengths by session id
abbrev pub Marks : Type 0
Marks = List (ℕ × ℕ)

-- the last-answered lengths after a response to `session`: its own becomes the length of `h` if it is live, and
-- sessions that are not live lose theirs
abbrev pub marks_after : List Entry → ℕ → Marks → Marks
marks_after h session marks = filter (λ m. is_live h m.0) (if is_live h session then put_in marks (session, length h) else marks)

-- logins get the next ids in order, and no id logs out before its login
abbrev pub is_orderly : ℕ → List Entry → Bool
is_orderly next [] = true
is_orderly next (Login by id ∷ h) = (id == next) && is_orderly (suc next) h
is_orderly next (Logout by id ∷ h) = nat_lt id next && is_orderly next h
is_orderly next (Edits by batch ∷ h) = is_orderly next h
is_orderly next (Stop by ∷ h) = is_orderly next h
