-- Limits of a message.
use Rattle.std.specs.Prelude.{ℕ}

-- the bytes of a head: 16 KiB
abbrev pub head_limit : ℕ
head_limit = 16384

-- the nonempty lines of a request's head: the request line and one for each field
abbrev pub line_limit : ℕ
line_limit = 65

abbrev pub field_limit : ℕ
field_limit = 64

-- the body of a request: 4 MiB
abbrev pub body_limit : ℕ
body_limit = 4194304

-- the body of a reply: the longest top tag, with 1 GiB of payload after its head of eight bytes
abbrev pub reply_limit : ℕ
reply_limit = 1073741832

-- the digits of a length
abbrev pub digit_limit : ℕ
digit_limit = 20
