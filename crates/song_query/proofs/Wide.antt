-- The bytes of a character above ASCII: a value has them as they are, and elsewhere no query continues with them.
use Rattle.std.proofs.Common.{◌⊎◌, inl, inr, ◌≡◌, ◌≢◌, ◌≤◌, ◌<◌, ◌++◌, ℕ, suc, false, List, [], ◌∷◌, length, get_or, Some, None, refl, ap, sym, ◌∙◌, subst, append_assoc, append-nil, arith, string_bytes}
use Rattle.std.proofs.lemmas.Bool.{or_from, cond-false, ne_eqb, cases_lt}
use Rattle.std.proofs.lemmas.Bool.Decides.{nat_tests}
use Rattle.std.proofs.lemmas.Str.{encode_ascii, inside_one, length-encode, len_utf8_bounds}
use Rattle.std.specs.Char.{encode_utf8}
use Rattle.item_model.specs.Proper.{is_name_byte}
use Rattle.item_model.specs.declared.condition.Op.{Op}
use Rattle.song_query.specs.declared.levels.Level.{Level}
use Rattle.song_query.specs.declared.parts.Partial.{Partial}
use Rattle.song_query.specs.declared.parts.Place.{Place as PlaceName}
use Rattle.song_query.specs.declared.parts.Place.TheVariants.{Due, Close, Apart, Opened, Named, Begun, Valued, Slashed}
use Rattle.song_query.specs.Grammar.{is_mark}
use Rattle.song_query.specs.Machine.{valued, slashed, here, go, run}
use Rattle.song_query.specs.Seen.{place_at}
use Rattle.song_query.proofs.Complete.{Runs, next, stay, plain_read}

-- bytes above ASCII
pub record AreWide (bytes : List ℕ) : Type 0 where
  pub each : (k : ℕ) → k < length bytes → 128 ≤ get_or bytes k 0

wide_at : (c k : ℕ) → 128 ≤ c → k < length (encode_utf8 c) → (get_or (encode_utf8 c) k 0 < 128) ⊎ (128 ≤ get_or (encode_utf8 c) k 0) → 128 ≤ get_or (encode_utf8 c) k 0
wide_at c k h l (inl x) =
    let e : c ≡ get_or (encode_utf8 c) k 0 = inside_one c [] (encode_utf8 c) k (sym (append-nil (encode_utf8 c))) l x in
    absurd (omega arith)
wide_at c k h l (inr x) = x

pub wide_bytes : (c : ℕ) → 128 ≤ c → AreWide (encode_utf8 c)
wide_bytes c h = record { each = λ k l. wide_at c k h l (cases_lt _ _) }

-- a byte above ASCII is not escaped
pub no_mark : (b : ℕ) → 128 ≤ b → is_mark b ≡ false
no_mark b h = or_from _ _ (ne_eqb b 39 (omega arith)) (or_from _ _ (ne_eqb b 92 (omega arith)) (ne_eqb b 42 (omega arith)))

no_name : (b : ℕ) → 128 ≤ b → is_name_byte b ≡ false
no_name b h = grind (arith, nat_tests)

plain_run : (n : List ℕ) (o : Op) (ps : List (List ℕ)) (p bytes : List ℕ) (l : Level) (ls : List Level) → AreWide bytes
    → Runs (here (valued n o ps p) l ls) bytes (here (valued n o ps (p ++ bytes)) l ls)
plain_run n o ps p [] l ls h = subst (λ r. Runs (here (valued n o ps p) l ls) [] (here (valued n o ps r) l ls)) (sym (append-nil p)) stay
plain_run n o ps p (b ∷ bytes) l ls h =
    subst (λ r. Runs (here (valued n o ps p) l ls) (b ∷ bytes) (here (valued n o ps r) l ls)) (append_assoc p (b ∷ []) bytes)
    (next (plain_read b n o ps p l ls (no_mark b (h.each 0 (omega arith))))
    (plain_run n o ps (p ++ b ∷ []) bytes l ls (record { each = λ k x. h.each (suc k) (omega arith) })))

slashed_run : (n : List ℕ) (o : Op) (ps : List (List ℕ)) (p bytes : List ℕ) (l : Level) (ls : List Level) → AreWide bytes → 0 < length bytes
    → Runs (here (slashed n o ps p) l ls) bytes (here (valued n o ps (p ++ 92 ∷ bytes)) l ls)
slashed_run n o ps p [] l ls h k = absurd (omega arith)
slashed_run n o ps p (b ∷ bytes) l ls h k =
    subst (λ r. Runs (here (slashed n o ps p) l ls) (b ∷ bytes) (here (valued n o ps r) l ls)) (append_assoc p (92 ∷ b ∷ []) bytes)
    (next (cond-false _ _ _ (no_mark b (h.each 0 (omega arith))))
    (plain_run n o ps (p ++ 92 ∷ b ∷ []) bytes l ls (record { each = λ k x. h.each (suc k) (omega arith) })))

pub char_long : (c : ℕ) → 0 < length (encode_utf8 c)
char_long c = let b = len_utf8_bounds c in omega (arith, length-encode c)

-- a value continues with the character
pub value_takes : (c : ℕ) (n : List ℕ) (o : Op) (ps : List (List ℕ)) (p : List ℕ) (l : Level) (ls : List Level) → 128 ≤ c
    → run (here (valued n o ps p) l ls) (encode_utf8 c) ≡ Some (here (valued n o ps (p ++ encode_utf8 c)) l ls)
value_takes c n o ps p l ls h = (plain_run n o ps p (encode_utf8 c) l ls (wide_bytes c h)).ran

-- and also after a backslash, which is then literal
pub slash_takes : (c : ℕ) (n : List ℕ) (o : Op) (ps : List (List ℕ)) (p : List ℕ) (l : Level) (ls : List Level) → 128 ≤ c
    → run (here (slashed n o ps p) l ls) (encode_utf8 c) ≡ Some (here (valued n o ps (p ++ 92 ∷ encode_utf8 c)) l ls)
slash_takes c n o ps p l ls h = (slashed_run n o ps p (encode_utf8 c) l ls (wide_bytes c h) (char_long c)).ran

refuses : (b : ℕ) (place : PlaceName) (part : Partial) (l : Level) (ls : List Level) → 128 ≤ b → place ≢ Valued → place ≢ Slashed
    → go (here (place_at place part) l ls) b ≡ None
refuses b Due part l ls h x y = grind (arith, nat_tests)
refuses b Close part l ls h x y = grind (arith, nat_tests)
refuses b Apart part l ls h x y = grind (arith, nat_tests)
refuses b Opened part l ls h x y = cond-false _ _ _ (no_name b h)
refuses b Named part l ls h x y = cond-false _ _ _ (no_name b h) ∙ cond-false _ _ _ (ne_eqb b 58 (omega arith)) ∙ cond-false _ _ _ (ne_eqb b 33 (omega arith)) ∙ cond-false _ _ _ (ne_eqb b 60 (omega arith)) ∙ cond-false _ _ _ (ne_eqb b 62 (omega arith))
refuses b Begun part l ls h x y = cond-false _ _ _ (ne_eqb b 58 (omega arith))
refuses b Valued part l ls h x y = absurd (x refl)
refuses b Slashed part l ls h x y = absurd (y refl)

-- elsewhere it is refused at its first byte
pub wide_refused : (c : ℕ) (place : PlaceName) (part : Partial) (l : Level) (ls : List Level) → 128 ≤ c → place ≢ Valued → place ≢ Slashed
    → go (here (place_at place part) l ls) (get_or (encode_utf8 c) 0 0) ≡ None
wide_refused c place part l ls h x y = refuses (get_or (encode_utf8 c) 0 0) place part l ls ((wide_bytes c h).each 0 (char_long c)) x y

same_value : (n m : List ℕ) (o u : Op) (ps qs : List (List ℕ)) (p q : List ℕ) (l : Level) (ls : List Level) → m ≡ n → u ≡ o → qs ≡ ps → q ≡ p
    → Some (here (valued n o ps p) l ls) ≡ Some (here (valued m u qs q) l ls)
same_value n m o u ps qs p q l ls a b c d = cc

-- the same for the parts of a reader
pub valued_taken : (c : ℕ) (place : PlaceName) (part new : Partial) (l : Level) (ls : List Level) → 128 ≤ c → place ≡ Valued
    → string_bytes new.name ≡ string_bytes part.name → new.op ≡ part.op → new.pieces ≡ part.pieces → string_bytes new.piece ≡ string_bytes part.piece ++ encode_utf8 c
    → run (here (place_at place part) l ls) (encode_utf8 c) ≡ Some (here (place_at place new) l ls)
valued_taken c place part new l ls h e n o ps p =
    subst (λ x. run (here (place_at x part) l ls) (encode_utf8 c) ≡ Some (here (place_at x new) l ls)) (sym e)
    (value_takes c (string_bytes part.name) part.op part.pieces (string_bytes part.piece) l ls h ∙ same_value _ _ _ _ _ _ _ _ l ls n o ps p)

pub slashed_taken : (c : ℕ) (place : PlaceName) (part new : Partial) (l : Level) (ls : List Level) → 128 ≤ c → place ≡ Slashed
    → string_bytes new.name ≡ string_bytes part.name → new.op ≡ part.op → new.pieces ≡ part.pieces
    → string_bytes new.piece ≡ (string_bytes part.piece ++ encode_utf8 92) ++ encode_utf8 c
    → run (here (place_at place part) l ls) (encode_utf8 c) ≡ Some (here (place_at Valued new) l ls)
slashed_taken c place part new l ls h e n o ps p =
    subst (λ x. run (here (place_at x part) l ls) (encode_utf8 c) ≡ Some (here (place_at Valued new) l ls)) (sym e)
    (slash_takes c (string_bytes part.name) part.op part.pieces (string_bytes part.piece) l ls h
    ∙ same_value _ _ _ _ _ _ _ _ l ls n o ps (p ∙ ap (λ x. (string_bytes part.piece ++ x) ++ encode_utf8 c) (encode_ascii 92 (omega arith)) ∙ append_assoc (string_bytes part.piece) (92 ∷ []) (encode_utf8 c)))
