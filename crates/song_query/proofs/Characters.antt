-- Parts occur in a text by its bytes exactly if they do by its characters: no character begins inside another.
use Rattle.std.proofs.Common.{◌≡◌, ◌≤◌, ◌<◌, ◌++◌, ◌&&◌, ◌||◌, inl, inr, ℕ, suc, Bool, true, false, List, [], ◌∷◌, length, map, take, drop, refl, ap, ap₂, sym, subst, ◌∙◌, append_assoc, arith}
use Rattle.std.proofs.Math.Seq.{take-append_seam, drop-append_seam}
use Rattle.std.proofs.lemmas.List.{take-append-drop}
use Rattle.std.proofs.lemmas.Bool.{and_left, and_parts, or_left, or_right, false≢true, cases_Bool, cases_lt, le-ltb, lt-ltb}
use Rattle.std.proofs.lemmas.Slice.Eq.{bytes_eq-Decides}
use Rattle.std.proofs.lemmas.Str.{encodes-append, encodes_same, cons_from_encodes}
use Rattle.std.specs.Bool.{⊤}
use Rattle.std.specs.Str.{bytes_eq}
use lib.Utf8.{encode, encodes}
use Rattle.song_query.specs.Glob.{joins, from_some}
use Rattle.song_query.proofs.Joining.{eq_true, eq_false, or_second}

-- a byte that is not the first of a character
abbrev IsInside : ℕ → Type 0
IsInside b = (128 ≤ b) × (b < 192)

abbrev AllInside : List ℕ → Type 0
AllInside [] = ⊤
AllInside (b ∷ bs) = IsInside b × AllInside bs

-- the bytes of a character: the first one begins it, and the others do not
record Shaped (bytes : List ℕ) : Type 0 where
  first : ℕ
  others : List ℕ
  is : bytes ≡ first ∷ others
  begins : 128 ≤ first → 192 ≤ first
  inside : AllInside others

one_byte : (c : ℕ) → c < 128 → Shaped (encode c)
unfolding encode
one_byte c h = rw (lt-ltb c 128 h) (record { first = c; others = []; is = refl; begins = λ k. absurd (omega arith); inside = tt })

two_bytes : (c : ℕ) → 128 ≤ c → c < 2048 → Shaped (encode c)
unfolding encode
two_bytes c l h =
    rw (le-ltb c 128 l, lt-ltb c 2048 h)
    (record { first = _; others = _; is = refl; begins = λ k. omega arith; inside = ((omega arith, omega arith), tt) })

three_bytes : (c : ℕ) → 2048 ≤ c → c < 65536 → Shaped (encode c)
unfolding encode
three_bytes c l h =
    let m : 128 ≤ c = omega arith in
    rw (le-ltb c 128 m, le-ltb c 2048 l, lt-ltb c 65536 h)
    (record { first = _; others = _; is = refl; begins = λ k. omega arith; inside = ((omega arith, omega arith), ((omega arith, omega arith), tt)) })

four_bytes : (c : ℕ) → 65536 ≤ c → Shaped (encode c)
unfolding encode
four_bytes c l =
    let m : 128 ≤ c = omega arith in
    let n : 2048 ≤ c = omega arith in
    rw (le-ltb c 128 m, le-ltb c 2048 n, le-ltb c 65536 l)
    (record {
      first = _;
      others = _;
      is = refl;
      begins = λ k. omega arith;
      inside = ((omega arith, omega arith), ((omega arith, omega arith), ((omega arith, omega arith), tt)));
    })

shaped : (c : ℕ) → Shaped (encode c)
shaped c =
    elim (cases_lt c 128) [
      | inl a ↦ one_byte c a
      | inr a ↦ elim (cases_lt c 2048) [
        | inl b ↦ two_bytes c a b
        | inr b ↦ elim (cases_lt c 65536) [
          | inl d ↦ three_bytes c b d
          | inr d ↦ four_bytes c d
        ]
      ]
    ]

-- a test that holds of a list holds of some rest of it
here : (test : List ℕ → Bool) (xs : List ℕ) → test xs ≡ true → from_some test xs ≡ true
here test [] e = e
here test (x ∷ xs) e = or_left _ _ e

-- a test that holds of some rest of a rest holds of some rest of the whole
ahead : (test : List ℕ → Bool) (xs rest : List ℕ) → from_some test rest ≡ true → from_some test (xs ++ rest) ≡ true
ahead test [] rest e = e
ahead test (x ∷ xs) rest e = or_right _ _ (ahead test xs rest e)

-- if the test holds inside a character, it holds of some rest after the character
abbrev IsPassedOn : (List ℕ → Bool) → Type 0
IsPassedOn test = (xs rest : List ℕ) → AllInside xs → test (xs ++ rest) ≡ true → from_some test rest ≡ true

some_later : (test : List ℕ → Bool) → IsPassedOn test → (xs rest : List ℕ) → AllInside xs → from_some test (xs ++ rest) ≡ true → from_some test rest ≡ true
some_later test on [] rest h e = e
some_later test on (x ∷ xs) rest h e =
    elim (cases_Bool (test (x ∷ (xs ++ rest)))) [
      | inl k ↦ on (x ∷ xs) rest h k
      | inr k ↦ some_later test on xs rest h.1 (or_second _ _ k e)
    ]

-- no character begins with such a byte
no_beginning : (c x : ℕ) (more xs : List ℕ) → IsInside x → x ∷ xs ≡ encode c ++ more → false ≡ true
no_beginning c x more xs h e =
    let s = shaped c in
    let same : x ≡ s.first = let k : x ∷ xs ≡ s.first ∷ (s.others ++ more) = e ∙ ap (λ bytes. bytes ++ more) s.is in cc in
    absurd (omega (arith, s.begins))

front_bytes : (p text : List ℕ) → take (length p) text ≡ p → text ≡ p ++ drop (length p) text
front_bytes p text e = sym (take-append-drop (length p) text) ∙ ap (λ x. x ++ drop (length p) text) e

-- parts found from inside a character are found after it
later : (ps : List (List ℕ)) → IsPassedOn (joins (map encodes ps))
later ps [] rest h e = here (joins (map encodes ps)) rest e
later [] (x ∷ xs) rest h e = absurd (false≢true e)
later ([] ∷ []) (x ∷ xs) rest h e = absurd (let k : x ∷ (xs ++ rest) ≡ [] = (bytes_eq-Decides _ _).0 e in cc)
later ((c ∷ cs) ∷ []) (x ∷ xs) rest h e = absurd (false≢true (no_beginning c x (encodes cs) (xs ++ rest) h.0 ((bytes_eq-Decides _ _).0 e)))
later ([] ∷ q ∷ ps) (x ∷ xs) rest h e =
    let found = some_later (joins (map encodes (q ∷ ps))) (later (q ∷ ps)) (x ∷ xs) rest h e in
    here (joins (map encodes ([] ∷ q ∷ ps))) rest found
later ((c ∷ cs) ∷ q ∷ ps) (x ∷ xs) rest h e =
    let p = encodes (c ∷ cs) in
    let text = x ∷ (xs ++ rest) in
    let begins : take (length p) text ≡ p = (bytes_eq-Decides _ _).0 (and_parts _ _ e).0 in
    absurd (false≢true (no_beginning c x (encodes cs ++ drop (length p) text) (xs ++ rest) h.0 (front_bytes p text begins ∙ append_assoc (encode c) (encodes cs) (drop (length p) text))))

-- two tests that imply each other are equal
both_ways : (a b : Bool) → (a ≡ true → b ≡ true) → (b ≡ true → a ≡ true) → a ≡ b
both_ways true b f g = sym (f refl)
both_ways false true f g = g refl
both_ways false false f g = refl

-- no offset inside a character has to be tried
passed_bytes : (test : List ℕ → Bool) → IsPassedOn test → (bytes rest : List ℕ) → Shaped bytes → from_some test (bytes ++ rest) ≡ (test (bytes ++ rest) || from_some test rest)
passed_bytes test on bytes rest s =
    subst (λ b. from_some test (b ++ rest) ≡ (test (b ++ rest) || from_some test rest)) (sym s.is)
    (ap (λ b. test (s.first ∷ (s.others ++ rest)) || b) (both_ways _ _ (some_later test on s.others rest s.inside) (ahead test s.others rest)))

some_chars : (ps : List (List ℕ)) → ((cs : List ℕ) → joins (map encodes ps) (encodes cs) ≡ joins ps cs) → (cs : List ℕ) → from_some (joins (map encodes ps)) (encodes cs) ≡ from_some (joins ps) cs
some_chars ps same [] = same []
some_chars ps same (c ∷ cs) =
    passed_bytes (joins (map encodes ps)) (later ps) (encode c) (encodes cs) (shaped c) ∙ ap₂ ◌||◌ (same (c ∷ cs)) (some_chars ps same cs)

-- if bytes begin a text, their characters do
front_chars : (p cs rest : List ℕ) → encodes cs ≡ encodes p ++ rest → take (length p) cs ≡ p
front_chars [] cs rest e = refl
front_chars (c ∷ p) cs rest e =
    let k = cons_from_encodes cs (encodes p ++ rest) c (e ∙ append_assoc (encode c) (encodes p) rest) in
    ap (take (suc (length p))) k.1 ∙ ap (λ x. c ∷ x) (front_chars p k.0 rest k.2)

same_text : (cs p : List ℕ) → bytes_eq (encodes cs) (encodes p) ≡ bytes_eq cs p
same_text cs p =
    both_ways _ _ (λ e. eq_true cs p (encodes_same cs p ((bytes_eq-Decides (encodes cs) (encodes p)).0 e))) (λ e. eq_true (encodes cs) (encodes p) (ap encodes ((bytes_eq-Decides cs p).0 e)))

-- a first part and the others after it
front_step : (p cs : List ℕ) (test tests : List ℕ → Bool) → ((ds : List ℕ) → from_some test (encodes ds) ≡ from_some tests ds)
    → (bytes_eq (take (length (encodes p)) (encodes cs)) (encodes p) && from_some test (drop (length (encodes p)) (encodes cs))) ≡ (bytes_eq (take (length p) cs) p && from_some tests (drop (length p) cs))
front_step p cs test tests same =
    let behind = drop (length p) cs in
    elim (cases_Bool (bytes_eq (take (length p) cs) p)) [
      | inl met ↦
          let e : take (length p) cs ≡ p = (bytes_eq-Decides _ _).0 met in
          let whole : encodes cs ≡ encodes p ++ encodes behind = ap encodes (front_bytes p cs e) ∙ encodes-append p behind in
          ap (λ x. bytes_eq (take (length (encodes p)) x) (encodes p) && from_some test (drop (length (encodes p)) x)) whole
          ∙ ap₂ ◌&&◌ (eq_true _ _ (take-append_seam (encodes p) (encodes behind))) (ap (from_some test) (drop-append_seam (encodes p) (encodes behind)) ∙ same behind)
          ∙ sym (ap (λ b. b && from_some tests behind) met)
      | inr missed ↦
          and_left _ _ (eq_false _ _ (λ (k : take (length (encodes p)) (encodes cs) ≡ encodes p).
          false≢true (sym missed ∙ eq_true _ _ (front_chars p cs _ (front_bytes (encodes p) (encodes cs) k)))))
          ∙ sym (and_left _ _ missed)
    ]

-- parts are joined by their bytes exactly if they are by their characters
pub by_chars : (ps : List (List ℕ)) (cs : List ℕ) → joins (map encodes ps) (encodes cs) ≡ joins ps cs
by_chars [] cs = refl
by_chars (p ∷ []) cs = same_text cs p
by_chars (p ∷ q ∷ ps) cs =
    front_step p cs (joins (map encodes (q ∷ ps))) (joins (q ∷ ps)) (some_chars (q ∷ ps) (by_chars (q ∷ ps)))
