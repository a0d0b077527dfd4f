-- Where pushed bytes go: onto a page, and full pages to a sink.
use Rattle.std.specs.Prelude.{◌≡◌, ℕ, List, ◌++◌, Option, Result, OnOk, OnErr}
use Rattle.std.specs.Io.KnownBytes.{Appends}
use Rattle.outside_net.specs.Counts.{Rose}
use Rattle.outside_net.specs.Told.{AppendsPrefix}
use Rattle.outside_net.specs.Faults.{Failed}

-- of the old page and the bytes after it the sink took a prefix, and the rest is the page now
pub record Moved (bytes : List ℕ) (told now : Option (List ℕ)) (page page' : List ℕ) : Type 0 where
  pub front : List ℕ
  pub taken : Appends told now front
  pub parts : page ++ bytes ≡ front ++ page'

-- bytes were pushed; or the sink failed, and had taken a prefix of the old page and the bytes after it
pub record Pushes (bytes : List ℕ) (r : Result Unit Failed) (told now : Option (List ℕ)) (page page' : List ℕ) (faults faults' : ℕ) : Type 0 where
  pub ok : OnOk r (Moved bytes told now page page')
  pub err : OnErr r (AppendsPrefix told now (page ++ bytes))
  pub count : OnOk r (faults' ≡ faults)
  pub failed : OnErr r (Rose faults faults')
