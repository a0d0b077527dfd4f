-- Text that is written part by part is the parts joined.
use Rattle.std.proofs.Common.{◌≡◌, ℕ, List, [], ◌++◌, Result, Ok, Err, cond, ap, ◌∙◌, append_assoc}
use Rattle.std.specs.Prelude.{OnOk}
use Rattle.std.specs.Result.{is_ok}

pub on_ok : {T E : Type 0} {P Q : Type 0} (r : Result T E) → (P → Q) → OnOk r P → OnOk r Q
on_ok (Ok v) f h = f h
on_ok (Err e) f h = tt

-- for a call that changes nothing when it fails
pub kept_ok : {T E : Type 0} (r : Result T E) (new a b : List ℕ) → new ≡ cond (is_ok r) a b → OnOk r (new ≡ a)
kept_ok (Ok v) new a b e = e
kept_ok (Err x) new a b e = tt

three_joined : (old a b c : List ℕ) → ((old ++ a) ++ b) ++ c ≡ old ++ (a ++ (b ++ c))
three_joined old a b c = simp append_assoc

pub three_pushed : (old a b c x y z : List ℕ) → x ≡ old ++ a → y ≡ x ++ b → z ≡ y ++ c → z ≡ old ++ (a ++ (b ++ c))
three_pushed old a b c x y z p q r = r ∙ ap (λ l. l ++ c) (q ∙ ap (λ l. l ++ b) p) ∙ three_joined old a b c

six_joined : (old a b c d e f : List ℕ) → (((((old ++ a) ++ b) ++ c) ++ d) ++ e) ++ f ≡ old ++ (a ++ (b ++ (c ++ (d ++ (e ++ f)))))
six_joined old a b c d e f = simp append_assoc

pub six_pushed : (old a b c d e f u v w x y z : List ℕ) → u ≡ old ++ a → v ≡ u ++ b → w ≡ v ++ c → x ≡ w ++ d → y ≡ x ++ e → z ≡ y ++ f
    → z ≡ old ++ (a ++ (b ++ (c ++ (d ++ (e ++ f)))))
six_pushed old a b c d e f u v w x y z h i j k l m =
    m ∙ ap (λ s. s ++ f) (l ∙ ap (λ s. s ++ e) (k ∙ ap (λ s. s ++ d) (j ∙ ap (λ s. s ++ c) (i ∙ ap (λ s. s ++ b) h)))) ∙ six_joined old a b c d e f

message_joined : (method space target version end rest : List ℕ)
    → ((method ++ space) ++ target) ++ ((version ++ end) ++ rest) ≡ ((method ++ (space ++ (target ++ version))) ++ end) ++ rest
message_joined method space target version end rest = simp append_assoc

-- a method, a target and what follows it
pub message_pushed : (method space target version end rest new u v w : List ℕ) → new ≡ [] → u ≡ new ++ (method ++ space) → v ≡ u ++ target
    → w ≡ v ++ ((version ++ end) ++ rest) → w ≡ ((method ++ (space ++ (target ++ version))) ++ end) ++ rest
message_pushed method space target version end rest new u v w e a b c =
    c ∙ ap (λ s. s ++ ((version ++ end) ++ rest)) (b ∙ ap (λ s. s ++ target) (a ∙ ap (λ s. s ++ (method ++ space)) e))
    ∙ message_joined method space target version end rest
