-- The numbers of a share.
use Rattle.std.specs.Prelude.{ℕ}

-- the revision of a share without edits
abbrev pub first_revision : ℕ
first_revision = 2

-- the container that always exists and has all items
abbrev pub base_list : ℕ
base_list = 1

-- a session ends with this many later logins
abbrev pub live_sessions : ℕ
live_sessions = 64

-- the most entries of edits and of logins in a history
abbrev pub most_entries : ℕ
most_entries = 1048576

-- the most edits in all batches of a history
abbrev pub most_edits : ℕ
most_edits = 262144

-- the most lists besides container 1
abbrev pub most_lists : ℕ
most_lists = 1024
