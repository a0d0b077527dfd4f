-- The part of a full listing that the `index` parameter selects. Rows are counted from 0, and rows past the last are
-- left out.
use Rattle.std.specs.Prelude.{◌+◌, ◌-◌, List, take, drop, length}
use Rattle.item_model.specs.declared.request.Range.{Range}
use Rattle.item_model.specs.declared.request.Range.TheVariants.{All, One, From, Span, Last}

abbrev pub in_range : {A : Type 0} → Range → List A → List A
in_range All xs = xs
in_range (One at) xs = take 1 (drop at xs)
in_range (From at) xs = drop at xs
in_range (Span from to) xs = drop from (take (to + 1) xs)
in_range (Last count) xs = drop (length xs - count) xs
