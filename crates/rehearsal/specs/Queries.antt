-- The queries of the mirrors of a rehearsal.
use Rattle.std.specs.Prelude.{[], ◌∷◌, Option, Some, codes}
use Rattle.item_model.specs.declared.condition.Op.TheVariants.{Is}
use Rattle.item_model.specs.declared.query.Query.{Query}
use Rattle.item_model.specs.declared.query.Query.TheVariants.{Cond}

-- 'daap.songartist:a1*'
abbrev pub artist_query : Option Query
artist_query = Some (Cond (record { name = codes "daap.songartist"; op = Is; pattern = codes "a1" ∷ codes "" ∷ [] }))

-- 'daap.songyear:1983'
abbrev pub year_query : Option Query
year_query = Some (Cond (record { name = codes "daap.songyear"; op = Is; pattern = codes "1983" ∷ [] }))
