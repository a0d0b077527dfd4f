-- A failing write after a complete one.
use Rattle.std.proofs.Common.{◌≡◌, ◌≤◌, ◌+◌, ◌++◌, ℕ, List, Option, Result, Ok, Err, length, sym, subst, length-append, arith}
use Rattle.std.proofs.Math.Seq.{take-append-add}
use Rattle.std.proofs.KnownBytes.{Appends-trans}
use Rattle.std.specs.Io.KnownBytes.{Appends}
use Rattle.std.specs.Prelude.{take, OnErr}
use Rattle.outside_net.specs.Told.{AppendsPrefix}
use Rattle.outside_net.specs.Faults.{Failed}

-- the sink takes the first bytes and a prefix of the second
pub cut_behind : (a b : List ℕ) (t0 t1 t2 : Option (List ℕ)) → Appends t0 t1 a → AppendsPrefix t1 t2 b → AppendsPrefix t0 t2 (a ++ b)
cut_behind a b t0 t1 t2 first (n, within, cut) = (
  length a + n,
  omega (arith, within, length-append a b),
  subst (Appends t0 t2) (sym (take-append-add a b n)) (Appends-trans t0 t1 t2 a (take n b) first cut),
)

pub failed_behind : (a b : List ℕ) (r : Result Unit Failed) (t0 t1 t2 : Option (List ℕ)) → Appends t0 t1 a → OnErr r (AppendsPrefix t1 t2 b) → OnErr r (AppendsPrefix t0 t2 (a ++ b))
failed_behind a b (Ok u) t0 t1 t2 first cut = cut
failed_behind a b (Err e) t0 t1 t2 first cut = cut_behind a b t0 t1 t2 first cut
