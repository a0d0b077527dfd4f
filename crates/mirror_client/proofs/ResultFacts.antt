-- What follows from a contract on a result, by whether it is a value or an error.
use Rattle.std.specs.Prelude.{Result, Ok, Err, IfErr, OnErr, OnOk}

pub ok_then : {A E : Type 0} {P Q : Type 0} (r : Result A E) → OnOk r P → (P → Q) → OnOk r Q
ok_then (Ok a) h more = more h
ok_then (Err e) h more = tt

pub err_then : {A E : Type 0} {P Q : E → Type 0} (r : Result A E) → IfErr r P → ((e : E) → P e → Q e) → IfErr r Q
err_then (Ok a) h more = tt
err_then (Err e) h more = more e h

pub err_and : {A E : Type 0} {O : Type 0} {P Q : E → Type 0} (r : Result A E) → IfErr r P → OnErr r O → ((e : E) → P e → O → Q e) → IfErr r Q
err_and (Ok a) h o more = tt
err_and (Err e) h o more = more e h o
