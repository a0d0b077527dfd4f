-- What follows from a contract on a result, by whether it is a value or an error.
use Rattle.std.specs.Prelude.{Result, Ok, Err, OnOk, OnErr}

pub on_ok_then : {A E : Type 0} (P Q : Type 0) (r : Result A E) → (P → Q) → OnOk r P → OnOk r Q
on_ok_then P Q (Ok a) more h = more h
on_ok_then P Q (Err e) more h = tt

pub on_err_then : {A E : Type 0} (P Q : Type 0) (r : Result A E) → (P → Q) → OnErr r P → OnErr r Q
on_err_then P Q (Ok a) more h = tt
on_err_then P Q (Err e) more h = more h

pub on_err_always : {A E : Type 0} (P : Type 0) (r : Result A E) → P → OnErr r P
on_err_always P (Ok a) h = tt
on_err_always P (Err e) h = h
