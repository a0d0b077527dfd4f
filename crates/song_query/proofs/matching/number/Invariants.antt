use Rattle.std.proofs.Common.{◌≡◌, ◌<◌, ◌^◌, drop}
use Rattle.song_query.specs.Holds.{are_digits, number_from}
use Rattle.song_query.proofs.matching.number.Given as goal

-- the digits so far make n, and those left follow
abbrev pub invariant-loop-digit : goal.invariant-loop-digit
invariant-loop-digit l = record {
  digits : are_digits (drop l.digit-index l.digits) ≡ are_digits l.digits;
  number : number_from l.n (drop l.digit-index l.digits) ≡ number_from 0 l.digits;
  fits : l.n < 2 ^ 64;
}
