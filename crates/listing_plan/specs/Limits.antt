-- The most that a listing has.
use Rattle.std.specs.Prelude.{ℕ}

-- the rows, and the deleted keys
abbrev pub rows_limit : ℕ
rows_limit = 262144

-- the tag of a row, in bytes: with a head and two keys, all 26 properties, and each text as long as it may be
abbrev pub row_limit : ℕ
row_limit = 2581

-- only the tags of its properties
abbrev pub shown_limit : ℕ
shown_limit = 2549

-- the payload of a listing, in bytes: as much as a mirror reads of one tag
abbrev pub listing_limit : ℕ
listing_limit = 1073741824

-- what a long body writes to a sink at a time, in bytes
abbrev pub page_limit : ℕ
page_limit = 65536

-- the same for a body that has no more than this
abbrev pub short_page_limit : ℕ
short_page_limit = 8192
