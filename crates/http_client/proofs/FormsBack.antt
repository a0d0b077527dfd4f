-- The parameters of a written form read back.
use Rattle.std.proofs.Common.{◌≡◌, ◌≢◌, ◌<◌, ◌+◌, ◌/◌, nat_lt, ⊎_elim, ◌∷◌, ◌++◌, [], ℕ, List, Bool, cond, Option, Some, None, true, false, refl, ap, ◌∙◌, subst, map, All, IsUtf8, arith, append-nil}
use Rattle.std.specs.List.{find}
use Rattle.std.specs.Prelude.{option_map}
use lib.Utf8.{encode, encodes, next, scalar, scalars, scalar_cases}
use Rattle.std.specs.Str.{bytes_eq}
use Rattle.std.specs.Str.Lossy.{utf8_lossy}
use Rattle.std.proofs.lemmas.Bool.{and_parts, cond_both, ltb-true}
use Rattle.std.proofs.lemmas.List.Elements.{All-nil, All-cons, All-head, All-tail, All-append, All-weaker}
use Rattle.std.proofs.lemmas.Str.{utf8_lossy-IsUtf8}
use Rattle.form_urlencoded.specs.Form.{append_pair, decode, extend_pairs, raw_pairs}
use Rattle.form_urlencoded.proofs.FormLemmas.{IsBytePair, round_trip, split_once_before_at, split_once_after_at, split_once_before_none, split_once_after_none}
use Rattle.percent_encoding.proofs.PercentLemmas.{IsByte}
use Rattle.http_front.specs.Parameters.{text_of, first_named, unless_empty, nonempty_value}
use Rattle.http_front.specs.Targets.{path_of, query_of}
use Rattle.http_client.specs.Targets.{Parameters, with_parameters, behind_path}

-- ---- texts are bytes

below_all : (c : ℕ) → scalar c ≡ true → c < 1114112
below_all c h = ⊎_elim (λ low. omega (arith, low)) (λ high. high.1) (scalar_cases c h)

next_byte : (c : ℕ) → IsByte (next c)
next_byte c = omega arith

bytes_of_char : (c : ℕ) → scalar c ≡ true → All IsByte (encode c)
unfolding encode
bytes_of_char c s =
    let four : All IsByte (next c ∷ []) = All-cons IsByte (next c) [] (next_byte c) (All-nil IsByte) in
    let three : All IsByte (next (c / 64) ∷ next c ∷ []) = All-cons IsByte (next (c / 64)) (next c ∷ []) (next_byte (c / 64)) four in
    cond_both (nat_lt c 128) (c ∷ []) _ (All IsByte)
    (λ h. All-cons IsByte c [] (omega (arith, ltb-true c 128 h)) (All-nil IsByte))
    (λ _. cond_both (nat_lt c 2048) ((192 + c / 64) ∷ next c ∷ []) _ (All IsByte)
    (λ h. All-cons IsByte (192 + c / 64) (next c ∷ []) (omega (arith, ltb-true c 2048 h)) four)
    (λ _. cond_both (nat_lt c 65536) ((224 + c / 4096) ∷ next (c / 64) ∷ next c ∷ []) ((240 + c / 262144) ∷ next (c / 4096) ∷ next (c / 64) ∷ next c ∷ []) (All IsByte)
    (λ h. All-cons IsByte (224 + c / 4096) (next (c / 64) ∷ next c ∷ []) (omega (arith, ltb-true c 65536 h)) three)
    (λ _. All-cons IsByte (240 + c / 262144) (next (c / 4096) ∷ next (c / 64) ∷ next c ∷ []) (omega (arith, below_all c s)) (All-cons IsByte (next (c / 4096)) (next (c / 64) ∷ next c ∷ []) (next_byte (c / 4096)) three))))

bytes_of_chars : (cs : List ℕ) → scalars cs ≡ true → All IsByte (encodes cs)
bytes_of_chars [] h = All-nil IsByte
bytes_of_chars (c ∷ cs) h =
    let parts = and_parts (scalar c) (scalars cs) h in
    All-append IsByte (encode c) (encodes cs) (bytes_of_char c parts.0) (bytes_of_chars cs parts.1)

pub text_bytes : (text : List ℕ) → IsUtf8 text → All IsByte text
text_bytes text (cs, spelled) = subst (All IsByte) spelled.1 (bytes_of_chars cs spelled.0)

-- the first of a name
abbrev pub named_in : List ℕ → List (List ℕ × List ℕ) → Option (List ℕ)
named_in name pairs = option_map (λ p. p.1) (find (λ p. bytes_eq p.0 name) pairs)

abbrev text_pair : List ℕ × List ℕ → List ℕ × List ℕ
text_pair p = (text_of p.0, text_of p.1)

named_texts : (name : List ℕ) (raws : List (List ℕ × List ℕ)) → first_named name raws ≡ named_in name (map text_pair raws)
named_texts name [] = refl
named_texts name (r ∷ raws) = by (bytes_eq (text_of r.0) name) refl (named_texts name raws)
  where
    by : (t : Bool) → bytes_eq (text_of r.0) name ≡ t → first_named name raws ≡ named_in name (map text_pair raws) → first_named name (r ∷ raws) ≡ named_in name (map text_pair (r ∷ raws))
    by true e ih = rw e refl
    by false e ih = rw e ih

pub record IsTextPair (p : List ℕ × List ℕ) : Type 0 where
  pub name : IsUtf8 p.0
  pub value : IsUtf8 p.1

abbrev decoded : List ℕ × List ℕ → List ℕ × List ℕ
decoded p = (decode p.0, decode p.1)

abbrev lossy : List ℕ × List ℕ → List ℕ × List ℕ
lossy p = (utf8_lossy p.0, utf8_lossy p.1)

texts_decoded : (raws : List (List ℕ × List ℕ)) → map text_pair raws ≡ map lossy (map decoded raws)
texts_decoded [] = refl
texts_decoded (r ∷ raws) = ap (λ ps. text_pair r ∷ ps) (texts_decoded raws)

texts_stay : (pairs : List (List ℕ × List ℕ)) → All IsTextPair pairs → map lossy pairs ≡ pairs
texts_stay [] h = refl
texts_stay (p ∷ pairs) h =
    let first = All-head IsTextPair p pairs h in
    let rest = texts_stay pairs (All-tail IsTextPair p pairs h) in
    λ i. (utf8_lossy-IsUtf8 p.0 first.name i, utf8_lossy-IsUtf8 p.1 first.value i) ∷ rest i

-- a form has the values that were written
pub value_written : (name : List ℕ) (pairs : List (List ℕ × List ℕ)) → All IsTextPair pairs → All IsBytePair pairs → nonempty_value name (extend_pairs [] pairs) ≡ unless_empty (named_in name pairs)
unfolding nonempty_value
value_written name pairs texts bytes =
    let raws = raw_pairs (extend_pairs [] pairs) in
    let same : map text_pair raws ≡ pairs = texts_decoded raws ∙ ap (map lossy) (round_trip pairs bytes) ∙ texts_stay pairs texts in
    ap unless_empty (named_texts name raws ∙ ap (named_in name) same)

-- ---- parameters of which some have no value

abbrev written : Parameters → List (List ℕ × List ℕ)
written [] = []
written ((name, None) ∷ more) = written more
written ((name, Some value) ∷ more) = (name, value) ∷ written more

abbrev pub or_else : Option (List ℕ) → Option (List ℕ) → Option (List ℕ)
or_else None other = other
or_else (Some value) other = Some value

-- the value under a name
abbrev pub value_under : List ℕ → Parameters → Option (List ℕ)
value_under name [] = None
value_under name ((n, value) ∷ more) = cond (bytes_eq n name) (or_else value (value_under name more)) (value_under name more)

form_written : (form : List ℕ) (ps : Parameters) → with_parameters form ps ≡ extend_pairs form (written ps)
form_written form [] = refl
form_written form ((name, None) ∷ more) = form_written form more
form_written form ((name, Some value) ∷ more) = form_written (append_pair form name value) more

under_written : (name : List ℕ) (ps : Parameters) → named_in name (written ps) ≡ value_under name ps
under_written name [] = refl
under_written name ((n, None) ∷ more) = by (bytes_eq n name) (under_written name more)
  where
    by : (t : Bool) → named_in name (written more) ≡ value_under name more → named_in name (written more) ≡ cond t (value_under name more) (value_under name more)
    by true ih = ih
    by false ih = ih
under_written name ((n, Some value) ∷ more) = by (bytes_eq n name) refl (under_written name more)
  where
    by : (t : Bool) → bytes_eq n name ≡ t → named_in name (written more) ≡ value_under name more → named_in name ((n, value) ∷ written more) ≡ cond t (Some value) (value_under name more)
    by true e ih = rw e refl
    by false e ih = rw e ih

abbrev pub AreTexts : Parameters → Type 0
AreTexts [] = Unit {0}
AreTexts ((name, None) ∷ more) = AreTexts more
AreTexts ((name, Some value) ∷ more) = IsUtf8 name × IsUtf8 value × AreTexts more

written_texts : (ps : Parameters) → AreTexts ps → All IsTextPair (written ps)
written_texts [] h = All-nil IsTextPair
written_texts ((name, None) ∷ more) h = written_texts more h
written_texts ((name, Some value) ∷ more) h =
    All-cons IsTextPair (name, value) (written more) (record { name = h.0; value = h.1 }) (written_texts more h.2)

text_pair_bytes : (p : List ℕ × List ℕ) → IsTextPair p → IsBytePair p
text_pair_bytes p h = (text_bytes p.0 h.name, text_bytes p.1 h.value)

-- a parameter has the value that was written
pub value_back : (name : List ℕ) (ps : Parameters) → AreTexts ps → nonempty_value name (with_parameters [] ps) ≡ unless_empty (value_under name ps)
value_back name ps h =
    let texts = written_texts ps h in
    ap (nonempty_value name) (form_written [] ps)
    ∙ value_written name (written ps) texts (All-weaker IsTextPair IsBytePair text_pair_bytes (written ps) texts)
    ∙ ap unless_empty (under_written name ps)

-- ---- a target's two parts

abbrev NoMark : ℕ → Type 0
NoMark b = b ≢ 63

pub path_back : (path form : List ℕ) → All NoMark path → path_of (path ++ behind_path form) ≡ path
path_back path [] h = ap path_of (append-nil path) ∙ split_once_before_none 63 path h
path_back path (b ∷ bs) h = split_once_before_at 63 path (b ∷ bs) h

pub query_back : (path form : List ℕ) → All NoMark path → query_of (path ++ behind_path form) ≡ form
query_back path [] h = ap query_of (append-nil path) ∙ split_once_after_none 63 path h
query_back path (b ∷ bs) h = split_once_after_at 63 path (b ∷ bs) h
