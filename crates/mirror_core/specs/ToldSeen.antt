-- What the program read of a listing, in the terms of the definitions.
use Rattle.mirror_core.specs.Reading.{Told}
use Rattle.mirror_core.specs.declared.told.Due.{Due}
use Rattle.mirror_core.specs.declared.told.ToldRef.{ToldRef}

abbrev pub told_of : ToldRef → Told
told_of t = record { is_delta = t.is_delta; revision = t.revision; total = t.total; rows = t.rows.now; gone = t.gone.now }

abbrev pub reached_of : Due × ToldRef → Due × Told
reached_of r = (r.0, told_of r.1)
