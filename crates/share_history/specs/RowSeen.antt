-- The text behind the reference that a look-up of the program returns.
use Rattle.std.specs.Prelude.{ℕ, List}
use denote.Ref.{Bor}

abbrev pub text_at : Bor (List ℕ) → List ℕ
text_at found = found.now
