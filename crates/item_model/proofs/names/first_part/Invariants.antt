use Rattle.std.proofs.Common.{◌≡◌, take, drop}
use Rattle.item_model.specs.Names.{parts, onto}
use Rattle.item_model.proofs.names.first_part.Given as goal

-- the bytes so far have no comma
abbrev pub invariant-loop-i : goal.invariant-loop-i
invariant-loop-i l = parts l.text ≡ onto (take l.i l.text) (parts (drop l.i l.text))
