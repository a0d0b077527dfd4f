-- How parts that are joined by runs occur in a text, one after another.
use Rattle.std.proofs.Common.{◌==◌, ◌≡◌, ◌≢◌, map, length-take, ◌≤◌, ◌<◌, ◌++◌, ◌-◌, ◌&&◌, ◌||◌, ℕ, zero, suc, Bool, true, false, List, [], ◌∷◌, length, take, drop, refl, ap, sym, ◌∙◌, subst, Decides, ⊎_elim, arith}
use Rattle.std.proofs.Math.Seq.{take-append_seam, drop-append_seam}
use Rattle.std.proofs.lemmas.List.{take-append-drop}
use Rattle.std.proofs.lemmas.Bool.{and_right, and_left, and_parts, and_from, or_parts, or_from, or_left, or_right, false_from_ne_true, false≢true, cases_Bool, cases_lt}
use Rattle.std.proofs.lemmas.Slice.Eq.{bytes_eq-Decides}
use Rattle.std.specs.Str.{bytes_eq}
use Rattle.std.proofs.lemmas.Bool.Decides.{same_from_decides, nat_tests}
use Rattle.std.proofs.lemmas.List.{length-map, drop-map}
use Rattle.std.specs.Char.{to_ascii_lowercase}
use Rattle.item_model.specs.Folding.{lowered}
use Rattle.song_query.specs.Glob.{Joins, joins, from_some}

-- different bytes fail the test
pub eq_false : (xs ys : List ℕ) → xs ≢ ys → bytes_eq xs ys ≡ false
eq_false xs ys h = false_from_ne_true _ (λ e. h ((bytes_eq-Decides xs ys).0 e))

-- equal bytes pass the test
pub eq_true : (xs ys : List ℕ) → xs ≡ ys → bytes_eq xs ys ≡ true
eq_true xs ys h = (bytes_eq-Decides xs ys).1 h

-- an empty list of parts is found in no rest
pub no_pieces : (text : List ℕ) → from_some (joins []) text ≡ false
no_pieces [] = refl
no_pieces (c ∷ cs) = no_pieces cs

-- what is found in no rest of a text is found in no rest of a shorter one
later_drop : (test : List ℕ → Bool) (n : ℕ) (c : ℕ) (cs : List ℕ) → from_some test (drop n (c ∷ cs)) ≡ false → from_some test (drop n cs) ≡ false
later_drop test zero c cs h = (or_parts _ _ h).1
later_drop test (suc zero) c [] h = h
later_drop test (suc (suc n)) c [] h = h
later_drop test (suc n) c (d ∷ ds) h = later_drop test n d ds h

-- what is not found after a first prefix of this length is not found after a later one
not_later : (test : List ℕ → Bool) (p text : List ℕ) → from_some test (drop (length p) text) ≡ false
    → from_some (λ x. bytes_eq (take (length p) x) p && from_some test (drop (length p) x)) text ≡ false
not_later test p [] h = and_right _ _ h
not_later test p (c ∷ cs) h =
    or_from _ _ (and_right _ _ h) (not_later test p cs (later_drop test (length p) c cs h))

-- a guard that holds is left out, if the alternative fails whenever the guarded test does
absorbed : (a y z : Bool) → a ≡ true → (y ≡ false → z ≡ false) → ((a && y) || z) ≡ y
absorbed a true z e h = or_left _ _ (and_from _ _ e refl)
absorbed a false z e h = or_from _ _ (and_right _ _ refl) (h refl)

-- a guarded test whose guard fails is left out
skipped : (a y z : Bool) → a ≡ false → ((a && y) || z) ≡ z
skipped a y z e = ap (λ b. (b && y) || z) e

-- if a part occurs here, the others are searched after it
pub behind_piece : (p q : List ℕ) (ps : List (List ℕ)) (text : List ℕ) → take (length p) text ≡ p
    → from_some (joins (p ∷ q ∷ ps)) text ≡ from_some (joins (q ∷ ps)) (drop (length p) text)
behind_piece p q ps [] h = ap (λ b. b && from_some (joins (q ∷ ps)) (drop (length p) [])) (eq_true _ _ h)
behind_piece p q ps (c ∷ cs) h =
    absorbed _ _ _ (eq_true _ _ h) (λ k. not_later (joins (q ∷ ps)) p cs (later_drop (joins (q ∷ ps)) (length p) c cs k))

-- if a part does not occur here, it is searched from the next offset
pub behind_next : (p q : List ℕ) (ps : List (List ℕ)) (c : ℕ) (cs : List ℕ) → take (length p) (c ∷ cs) ≢ p
    → from_some (joins (p ∷ q ∷ ps)) (c ∷ cs) ≡ from_some (joins (p ∷ q ∷ ps)) cs
behind_next p q ps c cs h = skipped _ _ _ (eq_false _ _ h)

-- a part that does not occur at the end is found in no rest of it
pub behind_none : (p q : List ℕ) (ps : List (List ℕ)) → take (length p) [] ≢ p → from_some (joins (p ∷ q ∷ ps)) [] ≡ false
behind_none p q ps h = and_left _ _ (eq_false _ _ h)

-- texts of different lengths differ
other_length : (xs ys : List ℕ) → length xs ≢ length ys → bytes_eq xs ys ≡ false
other_length xs ys h = eq_false xs ys (λ (e : xs ≡ ys). h (ap length e))

-- a part that is longer than the text is not its end
pub too_short : (p text : List ℕ) → length text < length p → from_some (joins (p ∷ [])) text ≡ false
too_short p [] h = other_length [] p (omega arith)
too_short p (c ∷ cs) h = or_from _ _ (other_length (c ∷ cs) p (omega arith)) (too_short p cs (omega arith))

-- an alternative that fails is left out
or_with : (a z : Bool) → z ≡ false → (a || z) ≡ a
or_with true z e = refl
or_with false z e = e

-- the last part is compared with the end only
pub at_end : (p text : List ℕ) → length p ≤ length text → from_some (joins (p ∷ [])) text ≡ bytes_eq (drop (length text - length p) text) p
at_end p [] h =
    let e : 0 ≡ 0 - length p = omega arith in
    ap (λ n. bytes_eq (drop n []) p) e
at_end p (c ∷ cs) h =
    ⊎_elim
    (λ (short : length cs < length p).
    let e : 0 ≡ suc (length cs) - length p = omega arith in
    or_with (bytes_eq (c ∷ cs) p) _ (too_short p cs short) ∙ ap (λ n. bytes_eq (drop n (c ∷ cs)) p) e)
    (λ (long : length p ≤ length cs).
    let e : suc (length cs - length p) ≡ suc (length cs) - length p = omega arith in
    ap (λ b. b || from_some (joins (p ∷ [])) cs) (other_length (c ∷ cs) p (omega arith))
    ∙ at_end p cs long
    ∙ ap (λ n. bytes_eq (drop n (c ∷ cs)) p) e)
    (cases_lt (length cs) (length p))

-- an empty text has only an empty rest
nothing_behind : (run rest : List ℕ) → [] ≡ run ++ rest → rest ≡ []
nothing_behind [] rest e = sym e
nothing_behind (r ∷ run) rest e = absurd (cc)

-- some rest of the text has the property
abbrev SomeRest : (List ℕ → Type 0) → List ℕ → Type 0
SomeRest P text = (run : List ℕ) × (rest : List ℕ) × (text ≡ run ++ rest) × P rest

-- if the first of two tests fails, the second holds
pub or_second : (a b : Bool) → a ≡ false → (a || b) ≡ true → b ≡ true
or_second true b e h = absurd (false≢true (sym e))
or_second false b e h = h

-- a rest of a longer text is the whole or a rest of what follows its first byte
some_from : (test : List ℕ → Bool) (P : List ℕ → Type 0) → ((x : List ℕ) → Decides (test x) (P x)) → (c : ℕ) (cs run rest : List ℕ)
    → c ∷ cs ≡ run ++ rest → P rest → (SomeRest P cs → from_some test cs ≡ true) → from_some test (c ∷ cs) ≡ true
some_from test P d c cs [] rest e p h = or_left _ _ ((d (c ∷ cs)).1 (subst P (sym e) p))
some_from test P d c cs (r ∷ run) rest e p h = or_right _ _ (h (run, rest, cc, p))

-- the test of some rest decides whether there is one
some_decides : (test : List ℕ → Bool) (P : List ℕ → Type 0) → ((x : List ℕ) → Decides (test x) (P x)) → (text : List ℕ)
    → Decides (from_some test text) (SomeRest P text)
some_decides test P d [] = (
  λ h. ([], [], refl, (d []).0 h),
  λ w. (d []).1 (subst P (nothing_behind _ _ w.2) w.3),
)
some_decides test P d (c ∷ cs) = (
  λ h. ⊎_elim
      (λ (k : test (c ∷ cs) ≡ true). ([], c ∷ cs, refl, (d (c ∷ cs)).0 k))
      (λ (k : test (c ∷ cs) ≡ false).
      let w = (some_decides test P d cs).0 (or_second _ _ k h) in
      (c ∷ w.0, w.1, ap (λ s. c ∷ s) w.2, w.3))
      (cases_Bool (test (c ∷ cs))),
  λ w. some_from test P d c cs w.0 w.1 w.2 w.3 (some_decides test P d cs).1,
)

-- the test decides whether the parts are joined
pub joins_decides : (ps : List (List ℕ)) (text : List ℕ) → Decides (joins ps text) (Joins ps text)
joins_decides [] text = (λ h. absurd (cc), λ h. absurd h)
joins_decides (p ∷ []) text = bytes_eq-Decides text p
joins_decides (p ∷ q ∷ ps) text =
    let d = some_decides (joins (q ∷ ps)) (Joins (q ∷ ps)) (joins_decides (q ∷ ps)) in (
      λ h.
          let parts = and_parts _ _ h in
          let e : take (length p) text ≡ p = (bytes_eq-Decides _ p).0 parts.0 in
          let w = (d (drop (length p) text)).0 parts.1 in
          (w.0, w.1, sym (take-append-drop (length p) text) ∙ ap (λ s. s ++ drop (length p) text) e ∙ ap (λ s. p ++ s) w.2, w.3),
      λ w.
          and_from _ _
          (eq_true _ _ (ap (take (length p)) w.2 ∙ take-append_seam p (w.0 ++ w.1)))
          ((d (drop (length p) text)).1 (w.0, w.1, ap (drop (length p)) w.2 ∙ drop-append_seam p (w.0 ++ w.1), w.3)),
    )

-- the letters of a part that is found
pub found : (piece left rest : List ℕ) (q : List ℕ) (ps : List (List ℕ)) → take (length piece) (lowered left) ≡ lowered piece → lowered rest ≡ drop (length piece) (lowered left)
    → from_some (joins (lowered piece ∷ q ∷ ps)) (lowered left) ≡ from_some (joins (q ∷ ps)) (lowered rest)
found piece left rest q ps h e =
    let n : length (lowered piece) ≡ length piece = length-map piece to_ascii_lowercase in
    behind_piece (lowered piece) q ps (lowered left) (ap (λ k. take k (lowered left)) n ∙ h)
    ∙ ap (from_some (joins (q ∷ ps))) (ap (λ k. drop k (lowered left)) n ∙ sym e)

-- a part that does not occur here is searched from the next offset
pub not_found : (piece left tail : List ℕ) (q : List ℕ) (ps : List (List ℕ)) → take (length piece) (lowered left) ≢ lowered piece → 0 < length left → tail ≡ drop 1 left
    → from_some (joins (lowered piece ∷ q ∷ ps)) (lowered left) ≡ from_some (joins (lowered piece ∷ q ∷ ps)) (lowered tail)
not_found piece [] tail q ps h k e = absurd (omega arith)
not_found piece (c ∷ cs) tail q ps h k e =
    let n : length (lowered piece) ≡ length piece = length-map piece to_ascii_lowercase in
    behind_next (lowered piece) q ps (to_ascii_lowercase c) (lowered cs) (λ e. h (ap (λ k. take k (lowered (c ∷ cs))) (sym n) ∙ e))
    ∙ ap (λ s. from_some (joins (lowered piece ∷ q ∷ ps)) (lowered s)) (sym e)

-- and at the end of the text it is found in no rest
pub not_at_end : (piece left : List ℕ) (q : List ℕ) (ps : List (List ℕ)) → take (length piece) (lowered left) ≢ lowered piece → length left ≡ 0
    → from_some (joins (lowered piece ∷ q ∷ ps)) (lowered left) ≡ false
not_at_end piece [] q ps h k =
    let n : length (lowered piece) ≡ length piece = length-map piece to_ascii_lowercase in
    behind_none (lowered piece) q ps (λ e. h (ap (λ k. take k []) (sym n) ∙ e))
not_at_end piece (c ∷ cs) q ps h k = absurd (omega arith)

-- a part without bytes is found at once
pub nothing_first : (piece text : List ℕ) (q : List ℕ) (ps : List (List ℕ)) → true ≡ (length piece == 0)
    → from_some (joins (lowered piece ∷ q ∷ ps)) (lowered text) ≡ from_some (joins (q ∷ ps)) (lowered text)
nothing_first [] text q ps h = found [] text text q ps refl refl
nothing_first (c ∷ cs) text q ps h = grind (arith, nat_tests)

-- a text that is shorter than a part does not begin with it
not_begun : (piece left : List ℕ) → length left < length piece → take (length piece) (lowered left) ≢ lowered piece
not_begun piece left h e =
    omega (arith, ap length e, length-take (length piece) (lowered left), length-map left to_ascii_lowercase, length-map piece to_ascii_lowercase, h)

-- nor has it a rest that does
pub not_in_less : (piece left : List ℕ) (q : List ℕ) (ps : List (List ℕ)) → length left < length piece → from_some (joins (lowered piece ∷ q ∷ ps)) (lowered left) ≡ false
not_in_less piece [] q ps h = not_at_end piece [] q ps (not_begun piece [] h) refl
not_in_less piece (c ∷ cs) q ps h =
    not_found piece (c ∷ cs) cs q ps (not_begun piece (c ∷ cs) h) (omega arith) refl ∙ not_in_less piece cs q ps (omega (arith, h))

-- a text that is shorter than a part does not end with it
pub not_the_end : (piece text : List ℕ) → length text < length piece → from_some (joins (lowered piece ∷ [])) (lowered text) ≡ false
not_the_end piece text h =
    too_short (lowered piece) (lowered text) (omega (arith, length-map piece to_ascii_lowercase, length-map text to_ascii_lowercase))

-- whether the text ends with the part
pub the_end : (piece text end : List ℕ) (r : Bool) → length piece ≤ length text → end ≡ drop (length text - length piece) text
    → Decides r (lowered end ≡ lowered piece) → r ≡ from_some (joins (lowered piece ∷ [])) (lowered text)
the_end piece text end r h e d =
    let m : length (lowered piece) ≡ length piece = length-map piece to_ascii_lowercase in
    let n : length (lowered text) ≡ length text = length-map text to_ascii_lowercase in
    let place : length text - length piece ≡ length (lowered text) - length (lowered piece) = omega arith in
    let same : lowered end ≡ drop (length (lowered text) - length (lowered piece)) (lowered text) =
    ap lowered e ∙ sym (drop-map to_ascii_lowercase (length text - length piece) text) ∙ ap (λ k. drop k (lowered text)) place in
    same_from_decides r (bytes_eq (lowered end) (lowered piece)) d (bytes_eq-Decides (lowered end) (lowered piece))
    ∙ ap (λ s. bytes_eq s (lowered piece)) same
    ∙ sym (at_end (lowered piece) (lowered text) (omega arith))

-- an empty list of parts is found in no rest
pub none_behind : (pieces : List (List ℕ)) (text : List ℕ) → length pieces ≡ 0 → from_some (joins (map lowered pieces)) text ≡ false
none_behind [] text h = no_pieces text
none_behind (p ∷ ps) text h = absurd (omega arith)

-- a single part is the whole text
pub joins_one : (first text : List ℕ) (others : List (List ℕ)) (r : Bool) → true ≡ (length others == 0) → Decides r (lowered text ≡ lowered first)
    → r ≡ joins (lowered first ∷ map lowered others) (lowered text)
joins_one first text [] r e d = same_from_decides r _ d (bytes_eq-Decides (lowered text) (lowered first))
joins_one first text (p ∷ ps) r e d = grind (arith, nat_tests)

-- the text begins with the first part
pub joins_more : (first text rest : List ℕ) (others : List (List ℕ)) → false ≡ (length others == 0) → take (length first) (lowered text) ≡ lowered first → lowered rest ≡ drop (length first) (lowered text)
    → from_some (joins (map lowered others)) (lowered rest) ≡ joins (lowered first ∷ map lowered others) (lowered text)
joins_more first text rest [] h e d = absurd (false≢true h)
joins_more first text rest (p ∷ ps) h e d =
    let n : length (lowered first) ≡ length first = length-map first to_ascii_lowercase in
    ap (λ s. from_some (joins (map lowered (p ∷ ps))) s) (d ∙ ap (λ k. drop k (lowered text)) (sym n))
    ∙ sym (ap (λ b. b && from_some (joins (map lowered (p ∷ ps))) (drop (length (lowered first)) (lowered text))) (eq_true _ _ (ap (λ k. take k (lowered text)) n ∙ e)))

-- otherwise it is not joined
pub joins_none : (first text : List ℕ) (others : List (List ℕ)) → false ≡ (length others == 0) → take (length first) (lowered text) ≢ lowered first
    → joins (lowered first ∷ map lowered others) (lowered text) ≡ false
joins_none first text [] h e = absurd (false≢true h)
joins_none first text (p ∷ ps) h e =
    let n : length (lowered first) ≡ length first = length-map first to_ascii_lowercase in
    and_left _ _ (eq_false _ _ (λ k. e (ap (λ k. take k (lowered text)) (sym n) ∙ k)))
