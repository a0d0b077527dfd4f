-- Bytes that are appended to a buffer one after the other.
use Rattle.std.proofs.Common.{◌≡◌, ◌++◌, ◌∙◌, ◌≤◌, ℕ, List, [], ◌∷◌, Result, Ok, Err, length, drop, flat_map, refl, sym, ap, subst, append_assoc, append-nil}
use Rattle.std.proofs.lemmas.List.{at_drop_all}
use Rattle.std.specs.Prelude.{OnErr}
use Rattle.dmap_tags.specs.Begins.{Begins}
use Rattle.dmap_tags.proofs.Fronts.{begins_more, begins_append}

-- what a byte is shown as was appended, and the bytes after it are left
pub added_more : (f : ℕ → List ℕ) (b : ℕ) (rest old new all : List ℕ) → new ≡ old ++ f b → old ++ flat_map f (b ∷ rest) ≡ all → new ++ flat_map f rest ≡ all
added_more f b rest old new all put left = ap (λ xs. xs ++ flat_map f rest) put ∙ append_assoc old (f b) (flat_map f rest) ∙ left

-- no byte is left
pub added_all : (f : ℕ → List ℕ) (bytes out all : List ℕ) (i : ℕ) → length bytes ≤ i → out ++ flat_map f (drop i bytes) ≡ all → out ≡ all
added_all f bytes out all i over left = sym (append-nil out) ∙ ap (λ xs. out ++ xs) (sym (at_drop_all (flat_map f) bytes i over)) ∙ left

pub begins_same : (xs : List ℕ) → Begins xs xs
begins_same [] = refl
begins_same (x ∷ xs) = ap (λ s. x ∷ s) (begins_same xs)

-- a buffer that got more begins with what it began with
pub begins_added : (front old added new : List ℕ) → new ≡ old ++ added → Begins front old → Begins front new
begins_added front old added new put begins = begins_more front old new begins (subst (Begins old) (sym put) (begins_append old added))

pub on_any_err : {T E P : Type 0} (r : Result T E) → P → OnErr r P
on_any_err (Ok x) p = tt
on_any_err (Err e) p = p

-- what begins with a buffer that got more begins with what the buffer had
pub begins_then : (old added new last : List ℕ) → new ≡ old ++ added → Begins new last → Begins old last
begins_then old added new last put more = begins_more old new last (begins_added old old added new put (begins_same old)) more
