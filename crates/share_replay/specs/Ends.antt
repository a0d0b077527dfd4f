-- The lines of a replay's output.
use Rattle.std.specs.Prelude.{ℕ, List, [], ◌∷◌, ◌++◌, length, codes, decimal, Option, Some, None}
use Rattle.share_replay.specs.declared.ends.End.{End}
use Rattle.share_replay.specs.declared.ends.End.TheVariants.{Closed, Cut, Refused, Spent, Stopped, Held}

abbrev pub end_words : End → List ℕ
end_words Closed = codes "closed"
end_words (Cut at) = codes "cut " ++ decimal at
end_words (Refused status) = codes "refused " ++ decimal status
end_words Spent = codes "spent"
end_words Stopped = codes "stopped"
end_words Held = codes "held"

-- The line of an end, if there is one.
abbrev pub end_line : ℕ → Option End → List ℕ
end_line number None = []
end_line number (Some end) = codes "# " ++ decimal number ++ codes " " ++ end_words end ++ 10 ∷ []

-- The bytes of a reply, after a line with the number of its connection and their count.
abbrev pub reply_lines : ℕ → List ℕ → List ℕ
reply_lines number bytes = codes "> " ++ decimal number ++ codes " " ++ decimal (length bytes) ++ 10 ∷ bytes ++ 10 ∷ []
