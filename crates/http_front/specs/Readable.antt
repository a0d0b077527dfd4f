-- Operations that can be written: their edits are those of some records.
use Rattle.std.specs.Prelude.{⊤, Ok}
use Rattle.records_import.specs.Written.{IsReadable}
use Rattle.share_asks.specs.declared.ask.Want.{Want}
use Rattle.share_asks.specs.declared.ask.Want.TheVariants.{Edit}

abbrev pub IsReadableWant : Want → Type 0
IsReadableWant (Edit (Ok batch)) = IsReadable batch
IsReadableWant want = ⊤
