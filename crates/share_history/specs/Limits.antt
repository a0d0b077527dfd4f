-- How much a share accepts: entries of edits and of logins, edits in all batches, and lists besides container 1.
use Rattle.std.specs.Prelude.{ℕ, ◌+◌, List, ◌++◌, Bool, true, false, ◌&&◌, nat_lt, nat_le, length, count_by}
use Rattle.item_model.specs.declared.changes.Edit.{Edit}
use Rattle.item_model.specs.declared.changes.Entry.{Entry}
use Rattle.item_model.specs.declared.changes.Entry.TheVariants.{Edits, Login, Logout, Stop}
use Rattle.share_history.specs.Numbers.{most_entries, most_edits, most_lists}
use Rattle.share_history.specs.Histories.{all_edits}
use Rattle.share_history.specs.Rows.{lists}

-- the limit on entries counts batches and logins
abbrev pub is_limited : Entry → Bool
is_limited (Edits by batch) = true
is_limited (Login by id) = true
is_limited (Logout by id) = false
is_limited (Stop by) = false

-- a batch or a login more stays within the limit on entries
abbrev pub is_below_entry_limit : List Entry → Bool
is_below_entry_limit h = nat_lt (count_by is_limited h) most_entries

-- `count` edits more stay within the limit on edits
abbrev pub has_room_for : List Entry → ℕ → Bool
has_room_for h count = nat_le (length (all_edits h) + count) most_edits

-- after `es` more there are at most `most_lists` lists
abbrev pub has_few_lists : List Entry → List Edit → Bool
has_few_lists h es = nat_le (length (lists (all_edits h ++ es))) most_lists

-- a batch is accepted if it stays within all limits
abbrev pub takes_batch : List Entry → List Edit → Bool
takes_batch h es = is_below_entry_limit h && (has_room_for h (length es) && has_few_lists h es)
