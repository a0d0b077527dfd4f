-- Draws one after another.
use Rattle.std.proofs.Common.{◌≡◌, ◌<◌, ◌≤◌, ◌^◌, ℕ, zero, suc, ◌+◌, ◌*◌, List, [], ◌∷◌, ◌++◌, refl, sym, ap, subst, ◌∙◌, arith, length, decimal, Bool, true, false, ◌&&◌, nat_lt, nat_le, length-append, lit<, lt-ltb, le-leb}
use Rattle.std.specs.Fn.{iterate}
use Rattle.std.proofs.lemmas.List.FromFn.{map-range_with_len_more}
use Rattle.item_model.specs.declared.changes.Edit.{Edit}
use Rattle.std.proofs.lemmas.Fmt.{length-decimal-le}
use Rattle.dmap_tags.specs.declared.kinds.Kind.TheVariants.{Text}
use Rattle.item_model.specs.Items.{is_text_of}
use Rattle.rehearsal.specs.Draws.{next, drawn, draw, state}
use Rattle.rehearsal.specs.Edits.{edit_by, edit_next, edit_at, edits_from}

-- the first draws
first_draws : draw 1 1 ∷ draw 1 2 ∷ draw 1 3 ∷ draw 1 4 ∷ draw 1 5 ∷ draw 1 6 ∷ [] ≡ 16838 ∷ 5758 ∷ 10113 ∷ 17515 ∷ 31051 ∷ 5627 ∷ []
unfolding state
first_draws = refl

iterate_more : (h : ℕ → ℕ) (n x : ℕ) → iterate h (suc n) x ≡ h (iterate h n x)
iterate_more h zero x = refl
iterate_more h (suc n) x = iterate_more h n (h x)

pub no_draw : (number : ℕ) → state number 0 ≡ number
unfolding state
no_draw number = refl

pub state_more : (number n : ℕ) → state number (n + 1) ≡ next (state number n)
unfolding state
state_more number n =
    let one : suc n ≡ n + 1 = omega arith in
    subst (λ k. iterate next k number ≡ next (iterate next n number)) one (iterate_more next n number)

-- the numbers of the edit at an index follow those of the edits before
three_draws : (number place : ℕ) → next (next (next (state number (3 * place)))) ≡ state number (3 * (place + 1))
three_draws number place =
    let last : 3 * place + 1 + 1 + 1 ≡ 3 * (place + 1) = omega arith in
    ap (λ x. next (next x)) (sym (state_more number (3 * place)))
    ∙ ap next (sym (state_more number (3 * place + 1)))
    ∙ sym (state_more number (3 * place + 1 + 1))
    ∙ ap (state number) last

edit_there : (number place : ℕ) → edit_next (state number (3 * place)) ≡ edit_at number place
edit_there number place =
    let second : 3 * place + 1 + 1 ≡ 3 * place + 2 = omega arith in
    let third : 3 * place + 1 + 1 + 1 ≡ 3 * place + 3 = omega arith in
    let one : next (state number (3 * place)) ≡ state number (3 * place + 1) = sym (state_more number (3 * place)) in
    let two : next (next (state number (3 * place))) ≡ state number (3 * place + 2) = ap next one ∙ sym (state_more number (3 * place + 1)) ∙ ap (state number) second in
    let three : next (next (next (state number (3 * place)))) ≡ state number (3 * place + 3) =
    ap next (ap next one ∙ sym (state_more number (3 * place + 1))) ∙ sym (state_more number (3 * place + 1 + 1)) ∙ ap (state number) third in
    λ i. edit_by (drawn (one i)) (drawn (two i)) (drawn (three i))

-- one more edit of a batch
pub more_edits : (number place made old new : ℕ) (edits edits' : List Edit) (e : Edit) → old ≡ state number (3 * (place + made)) → edits ≡ edits_from number place made
    → new ≡ next (next (next old)) → e ≡ edit_next old → edits' ≡ edits ++ e ∷ []
    → (new ≡ state number (3 * (place + (made + 1)))) × (edits' ≡ edits_from number place (made + 1))
more_edits number place made old new edits edits' e at have leaves is pushed =
    let behind : place + made + 1 ≡ place + (made + 1) = omega arith in (
      leaves ∙ ap (λ x. next (next (next x))) at ∙ three_draws number (place + made) ∙ ap (λ n. state number (3 * n)) behind,
      pushed ∙ (λ i. have i ++ (is ∙ ap edit_next at ∙ edit_there number (place + made)) i ∷ []) ∙ sym (map-range_with_len_more (edit_at number) place made (place + made) refl),
    )

-- a letter and a number are a text of a property
pub text_fits : (letter text : List ℕ) (n : ℕ) → text ≡ letter ++ decimal n → length letter ≡ 1 → n < 2 ^ 32 → is_text_of Text text ≡ true
text_fits letter text n is one small =
    let digits : length (decimal n) ≤ 10 = length-decimal-le 10 n (lit< tt) (omega arith) (omega arith) in
    let count : length text ≡ 1 + length (decimal n) = ap length is ∙ length-append letter (decimal n) ∙ ap (λ k. k + length (decimal n)) one in
    both_true (nat_lt 0 (length text)) (nat_le (length text) 255) (lt-ltb 0 (length text) (omega arith)) (le-leb (length text) 255 (omega arith))
  where
    both_true : (a b : Bool) → a ≡ true → b ≡ true → (a && b) ≡ true
    both_true true b h k = k
    both_true false b h k = h
