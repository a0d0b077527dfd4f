use Rattle.std.proofs.Common.{◌≡◌, drop}
use Rattle.mirror_core.specs.declared.told.Due.TheVariants.{Status}
use Rattle.mirror_core.specs.Reading.{untold, read_from}
use Rattle.mirror_core.specs.ToldSeen.{told_of}
use Rattle.mirror_core.proofs.reading.read_members.Given as goal

-- the remaining members, after what was read so far, give the result of all of them
abbrev pub invariant-loop-member : goal.invariant-loop-member
invariant-loop-member l = record {
  counted : l.place ≡ l.member-index;
  read : read_from l.target l.base l.reached.0 (told_of l.reached.1) l.member-index (drop l.member-index l.members) ≡ read_from l.target l.base Status untold 0 l.members;
}
