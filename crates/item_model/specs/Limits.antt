-- The maximum length of a text and number of names.
use Rattle.std.specs.Prelude.{ℕ}

-- the text of a property, or the name of a list, in bytes
abbrev pub text_limit : ℕ
text_limit = 255

-- the names of a `meta` parameter
abbrev pub names_limit : ℕ
names_limit = 256
