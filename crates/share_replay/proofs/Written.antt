-- What a sink took, one part after the other.
use Rattle.std.proofs.Common.{ℕ, List, ◌++◌, Option, Result, Ok, Err, length, OnOk, OnErr, sym, subst, length-append, take_all, arith}
use Rattle.std.proofs.lemmas.List.{take-append-le}
use Rattle.std.proofs.KnownBytes.{Appends-nil, Appends-trans}
use Rattle.std.specs.Io.KnownBytes.{Appends}
use Rattle.outside_net.specs.Told.{AppendsPrefix}
use Rattle.reply_bytes.proofs.Cut.{cut_behind}

-- nothing was
pub none_taken : (t : Option (List ℕ)) (bytes : List ℕ) → AppendsPrefix t t bytes
none_taken t bytes = (0, omega arith, Appends-nil t)

-- all was
pub all_taken : (t u : Option (List ℕ)) (bytes : List ℕ) → Appends t u bytes → AppendsPrefix t u bytes
all_taken t u bytes all = (length bytes, omega arith, subst (Appends t u) (sym (take_all (length bytes) bytes (omega arith))) all)

-- a prefix of the first bytes was
pub cut_before : (a b : List ℕ) (t u : Option (List ℕ)) → AppendsPrefix t u a → AppendsPrefix t u (a ++ b)
cut_before a b t u (n, within, cut) =
    (n, omega (arith, within, length-append a b), subst (Appends t u) (sym (take-append-le n a b within)) cut)

-- all of the first were, and of the others nothing
pub taken_before : (a b : List ℕ) (t u : Option (List ℕ)) → Appends t u a → AppendsPrefix t u (a ++ b)
taken_before a b t u all = cut_before a b t u (all_taken t u a all)

pub err_behind : {E : Type 0} (a b : List ℕ) (r : Result Unit E) (t u v : Option (List ℕ)) → Appends t u a → OnErr r (AppendsPrefix u v b) → OnErr r (AppendsPrefix t v (a ++ b))
err_behind a b (Ok x) t u v first cut = cut
err_behind a b (Err e) t u v first cut = cut_behind a b t u v first cut

pub ok_behind : {E : Type 0} (a b : List ℕ) (r : Result Unit E) (t u v : Option (List ℕ)) → Appends t u a → OnOk r (Appends u v b) → OnOk r (Appends t v (a ++ b))
ok_behind a b (Ok x) t u v first all = Appends-trans t u v a b first all
ok_behind a b (Err e) t u v first all = tt
