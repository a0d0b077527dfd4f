-- The command refuses arguments that clap's definition refuses.
use Rattle.std.proofs.Common.{◌≡◌, List, Option, None, Result, Err, refl, sym, ap, subst, option_and_then}
use Rattle.clap.specs.Words.{Row}
use Rattle.daapshare_words.specs.declared.command.Command.{Command}
use Rattle.daapshare_words.specs.declared.command.WordsError.{WordsError}
use Rattle.daapshare_words.specs.declared.command.WordsError.TheVariants.{Usage, Memory}
use Rattle.daapshare_words.specs.Words.{Reads}

pub refused : (reads : List Row → Option Command) (rows : Option (List Row)) (read : Result Command WordsError) (error : WordsError) → read ≡ Err error → (error ≡ Usage → rows ≡ None)
    → Reads (option_and_then reads rows) read
refused reads rows read Usage is none = subst (λ r. Reads (option_and_then reads rows) r) (sym is) (ap (option_and_then reads) (none refl))
refused reads rows read Memory is none = subst (λ r. Reads (option_and_then reads rows) r) (sym is) tt
