-- The target that a client writes: its bytes, its parts, and its length.
use Rattle.std.proofs.Common.{◌≡◌, ◌≢◌, ◌≤◌, ◌<◌, ◌+◌, ◌*◌, ◌^◌, ◌∷◌, ◌++◌, ◌==◌, ◌&&◌, [], ℕ, List, Bool, not, nat_lt, Some, None, true, false, refl, sym, ap, ◌∙◌, subst, length, map, All, IsUtf8, ⊎_elim, arith, length-append}
use Rattle.std.specs.Prelude.{codes, decimal}
use Rattle.std.specs.List.{list_all}
use Rattle.std.specs.Str.{is_utf8}
use Rattle.std.proofs.lemmas.Bool.{and_parts, and_from, cond_both, lt-ltb, ltb-true, ne_eqb, not_from_false}
use Rattle.std.proofs.lemmas.Bool.Decides.{nat_tests}
use Rattle.std.proofs.lemmas.List.Elements.{All-nil, All-cons, All-head, All-tail}
use Rattle.std.proofs.lemmas.List.Folds.{list_all-append}
use Rattle.std.proofs.lemmas.Str.{is_utf8-from_IsUtf8, IsUtf8-from_ascii}
use Rattle.std.proofs.lemmas.Str.Ascii.{IsAscii-from_all}
use Rattle.form_urlencoded.specs.Form.{append_pair, byte_serialize, decode, is_nonempty, plus_to_space, separator, serialize_pair}
use Rattle.form_urlencoded.proofs.FormLemmas.{All-byte_serialize, IsSerializedByte, decode-byte_serialize}
use Rattle.percent_encoding.proofs.PercentLemmas.{IsByte, length-percent_decode}
use Rattle.httparse.specs.Grammar.{is_uri_byte}
use Rattle.http_front.specs.Targets.{local_part, path_of, query_of}
use Rattle.item_model.specs.declared.request.Browse.TheVariants.{Artists, Albums, Genres, Composers}
use Rattle.item_model.specs.declared.request.Target.{Target}
use Rattle.item_model.specs.declared.request.Target.TheVariants as target
use Rattle.share_asks.specs.declared.ask.Want.{Want}
use Rattle.share_asks.specs.declared.ask.Want.TheVariants.{ServerInfo, Codes, Login, Logout, Update, Databases, Rows, Lists, Values, Edit, Stop, Bad}
use Rattle.http_client.specs.Requests.{CanSend, HasListNumber, HasNumbers}
use Rattle.http_client.specs.Targets.{Parameters, behind_path, form_text, parameters_of, path_to, rows_path, target_of, with_parameters}
use Rattle.http_client.proofs.FormsBack.{AreTexts, path_back, query_back, text_bytes}
use Rattle.http_client.proofs.Numerals.{IsDigit, decimal_digits, decimal_few}

-- ---- bytes

-- bytes of a target, and of a path, which has no question mark
abbrev is_sent : ℕ → Bool
is_sent b = nat_lt 32 b && nat_lt b 127

abbrev in_path : ℕ → Bool
in_path b = is_sent b && not (b == 63)

digits_in_path : (digits : List ℕ) → All IsDigit digits → list_all in_path digits ≡ true
digits_in_path [] h = refl
digits_in_path (b ∷ bs) h =
    let d : IsDigit b = All-head IsDigit b bs h in
    let low : 32 < b = omega (arith, d.0) in
    let high : b < 127 = omega (arith, d.1) in
    let other : (b == 63) ≡ false = ne_eqb b 63 (λ (e : b ≡ 63). omega (arith, d.1, e)) in
    and_from _ _ (and_from _ _ (and_from _ _ (lt-ltb 32 b low) (lt-ltb b 127 high)) (not_from_false (b == 63) other)) (digits_in_path bs (All-tail IsDigit b bs h))

rows_in_path : (t : Target) → HasListNumber t → list_all in_path (rows_path t) ≡ true
rows_in_path target.Items h = refl
rows_in_path (target.Container list) h =
    let small : list < 2 ^ 64 = omega (arith, h) in
    list_all-append in_path (codes "/databases/1/containers/") (decimal list ++ codes "/items")
    ∙ and_from _ _ refl (list_all-append in_path (decimal list) (codes "/items") ∙ and_from _ _ (digits_in_path (decimal list) (decimal_digits list small)) refl)

path_bytes : (want : Want) → HasNumbers want → list_all in_path (path_to want) ≡ true
path_bytes ServerInfo h = refl
path_bytes Codes h = refl
path_bytes Login h = refl
path_bytes (Logout session) h = refl
path_bytes (Update session revision) h = refl
path_bytes (Databases session) h = refl
path_bytes (Rows session t look) h = rows_in_path t h.1
path_bytes (Lists session) h = refl
path_bytes (Values session Artists asked) h = refl
path_bytes (Values session Albums asked) h = refl
path_bytes (Values session Genres asked) h = refl
path_bytes (Values session Composers asked) h = refl
path_bytes (Edit body) h = refl
path_bytes Stop h = refl
path_bytes (Bad error) h = refl

no_mark : (path : List ℕ) → list_all in_path path ≡ true → All (λ b. b ≢ 63) path
no_mark [] h = All-nil (λ b. b ≢ 63)
no_mark (b ∷ bs) h =
    let parts = and_parts (in_path b) (list_all in_path bs) h in
    let other = (and_parts (is_sent b) (not (b == 63)) parts.0).1 in
    All-cons (λ b. b ≢ 63) b bs (λ (e : b ≡ 63). grind (arith, nat_tests)) (no_mark bs parts.1)

sent_path : (path : List ℕ) → list_all in_path path ≡ true → list_all is_sent path ≡ true
sent_path [] h = refl
sent_path (b ∷ bs) h =
    let parts = and_parts (in_path b) (list_all in_path bs) h in
    and_from _ _ (and_parts (is_sent b) (not (b == 63)) parts.0).0 (sent_path bs parts.1)

serialized_sent : (b : ℕ) → IsSerializedByte b → is_sent b ≡ true
serialized_sent b h = ⊎_elim (λ kept. grind (arith, nat_tests)) (λ other. grind (arith, nat_tests)) h.allowed

all_serialized : (bytes : List ℕ) → All IsSerializedByte bytes → list_all is_sent bytes ≡ true
all_serialized [] h = refl
all_serialized (b ∷ bs) h =
    and_from _ _ (serialized_sent b (All-head IsSerializedByte b bs h)) (all_serialized bs (All-tail IsSerializedByte b bs h))

both_sent : (xs ys : List ℕ) → list_all is_sent xs ≡ true → list_all is_sent ys ≡ true → list_all is_sent (xs ++ ys) ≡ true
both_sent xs ys p q = list_all-append is_sent xs ys ∙ and_from _ _ p q

separator_sent : (form : List ℕ) → list_all is_sent (separator form) ≡ true
separator_sent form = cond_both (is_nonempty form) (38 ∷ []) [] (λ s. list_all is_sent s ≡ true) (λ _. refl) (λ _. refl)

pair_sent : (form name value : List ℕ) → list_all is_sent form ≡ true → list_all is_sent (append_pair form name value) ≡ true
pair_sent form name value h =
    let n : list_all is_sent (byte_serialize name) ≡ true = all_serialized (byte_serialize name) (All-byte_serialize name) in
    let v : list_all is_sent (byte_serialize value) ≡ true = all_serialized (byte_serialize value) (All-byte_serialize value) in
    both_sent (form ++ separator form) (serialize_pair (name, value)) (both_sent form (separator form) h (separator_sent form))
    (both_sent (byte_serialize name ++ 61 ∷ []) (byte_serialize value) (both_sent (byte_serialize name) (61 ∷ []) n refl) v)

parameters_sent : (form : List ℕ) (ps : Parameters) → list_all is_sent form ≡ true → list_all is_sent (with_parameters form ps) ≡ true
parameters_sent form [] h = h
parameters_sent form ((name, None) ∷ more) h = parameters_sent form more h
parameters_sent form ((name, Some value) ∷ more) h = parameters_sent (append_pair form name value) more (pair_sent form name value h)

behind_sent : (form : List ℕ) → list_all is_sent form ≡ true → list_all is_sent (behind_path form) ≡ true
behind_sent [] h = refl
behind_sent (b ∷ bs) h = h

target_sent : (want : Want) → HasNumbers want → list_all is_sent (target_of want) ≡ true
unfolding target_of
target_sent want h =
    both_sent (path_to want) (behind_path (form_text want)) (sent_path (path_to want) (path_bytes want h))
    (behind_sent (form_text want) (parameters_sent [] (parameters_of want) refl))

uri_bytes : (bytes : List ℕ) → list_all is_sent bytes ≡ true → list_all is_uri_byte bytes ≡ true
uri_bytes [] h = refl
uri_bytes (b ∷ bs) h =
    let parts = and_parts (is_sent b) (list_all is_sent bs) h in
    let range = and_parts (nat_lt 32 b) (nat_lt b 127) parts.0 in
    let small : b < 127 = ltb-true b 127 range.1 in
    and_from _ _ (and_from _ _ range.0 (not_from_false (b == 127) (ne_eqb b 127 (λ (e : b ≡ 127). omega (arith, small, e))))) (uri_bytes bs parts.1)

low_bytes : (bytes : List ℕ) → list_all is_sent bytes ≡ true → All (λ b. b < 128) bytes
low_bytes [] h = All-nil (λ b. b < 128)
low_bytes (b ∷ bs) h =
    let parts = and_parts (is_sent b) (list_all is_sent bs) h in
    let small : b < 127 = ltb-true b 127 (and_parts (nat_lt 32 b) (nat_lt b 127) parts.0).1 in
    All-cons (λ b. b < 128) b bs (omega (arith, small)) (low_bytes bs parts.1)

sent_text : (bytes : List ℕ) → list_all is_sent bytes ≡ true → IsUtf8 bytes
sent_text bytes h = IsUtf8-from_ascii bytes (IsAscii-from_all bytes (low_bytes bytes h))

pub target_uri : (want : Want) → HasNumbers want → list_all is_uri_byte (target_of want) ≡ true
target_uri want h = uri_bytes (target_of want) (target_sent want h)

pub target_text : (want : Want) → HasNumbers want → IsUtf8 (target_of want)
target_text want h = sent_text (target_of want) (target_sent want h)

pub path_text : (want : Want) → HasNumbers want → is_utf8 (path_to want) ≡ true
path_text want h = is_utf8-from_IsUtf8 (path_to want) (sent_text (path_to want) (sent_path (path_to want) (path_bytes want h)))

-- ---- its two parts

-- a path begins with a slash
pub from_root : (want : Want) → CanSend want → (rest : List ℕ) × (path_to want ≡ 47 ∷ rest)
from_root ServerInfo h = (codes "server-info", refl)
from_root Codes h = (codes "content-codes", refl)
from_root Login h = (codes "login", refl)
from_root (Logout session) h = (codes "logout", refl)
from_root (Update session revision) h = (codes "update", refl)
from_root (Databases session) h = (codes "databases", refl)
from_root (Rows session target.Items look) h = (codes "databases/1/items", refl)
from_root (Rows session (target.Container list) look) h = (codes "databases/1/containers/" ++ (decimal list ++ codes "/items"), refl)
from_root (Lists session) h = (codes "databases/1/containers", refl)
from_root (Values session Artists asked) h = (codes "databases/1/browse/artists", refl)
from_root (Values session Albums asked) h = (codes "databases/1/browse/albums", refl)
from_root (Values session Genres asked) h = (codes "databases/1/browse/genres", refl)
from_root (Values session Composers asked) h = (codes "databases/1/browse/composers", refl)
from_root (Edit body) h = (codes "edit", refl)
from_root Stop h = (codes "stop", refl)
from_root (Bad error) h = absurd h

local_rest : (rest : List ℕ) → local_part (47 ∷ rest) ≡ 47 ∷ rest
local_rest rest = refl

local_root : (path rest more : List ℕ) → path ≡ 47 ∷ rest → local_part (path ++ more) ≡ path ++ more
local_root path rest more e = subst (λ (p : List ℕ). local_part (p ++ more) ≡ p ++ more) (sym e) (local_rest (rest ++ more))

local_target : (want : Want) → CanSend want → local_part (target_of want) ≡ path_to want ++ behind_path (form_text want)
unfolding target_of
local_target want h = let root = from_root want h in local_root (path_to want) root.0 (behind_path (form_text want)) root.1

pub target_path : (want : Want) → CanSend want → HasNumbers want → path_of (local_part (target_of want)) ≡ path_to want
target_path want h n =
    ap path_of (local_target want h) ∙ path_back (path_to want) (form_text want) (no_mark (path_to want) (path_bytes want n))

pub target_query : (want : Want) → CanSend want → HasNumbers want → query_of (local_part (target_of want)) ≡ form_text want
target_query want h n =
    ap query_of (local_target want h) ∙ query_back (path_to want) (form_text want) (no_mark (path_to want) (path_bytes want n))

pub target_some : (want : Want) → CanSend want → 0 < length (target_of want)
unfolding target_of
target_some want h =
    let root = from_root want h in
    let some : 0 < length (path_to want) = rw root.1 (omega arith) in
    simp length-append (omega (arith, some))

-- ---- its length

same_length : (bytes : List ℕ) → length (map plus_to_space bytes) ≡ length bytes
same_length [] = refl
same_length (b ∷ bs) = omega (arith, same_length bs)

serialized_short : (text : List ℕ) → All IsByte text → length (byte_serialize text) ≤ 3 * length text
serialized_short text h =
    let back : length (decode (byte_serialize text)) ≡ length text = ap length (decode-byte_serialize text h) in
    omega (arith, back, same_length (byte_serialize text), (length-percent_decode (map plus_to_space (byte_serialize text))).1)

abbrev pub cost : Parameters → ℕ
cost [] = 0
cost ((name, None) ∷ more) = cost more
cost ((name, Some value) ∷ more) = 2 + 3 * (length name + length value) + cost more

separator_short : (form : List ℕ) → length (separator form) ≤ 1
separator_short form = cond_both (is_nonempty form) (38 ∷ []) [] (λ s. length s ≤ 1) (λ _. omega arith) (λ _. omega arith)

pair_short : (form name value : List ℕ) → All IsByte name → All IsByte value → length (append_pair form name value) ≤ length form + (2 + 3 * (length name + length value))
pair_short form name value n v =
    let front = serialized_short name n in
    let back = serialized_short value v in
    let mark = separator_short form in
    simp length-append (omega (arith, front, back, mark))

parameters_short : (form : List ℕ) (ps : Parameters) → AreTexts ps → length (with_parameters form ps) ≤ length form + cost ps
parameters_short form [] h = omega arith
parameters_short form ((name, None) ∷ more) h = parameters_short form more h
parameters_short form ((name, Some value) ∷ more) h =
    let rest : length (with_parameters (append_pair form name value) more) ≤ length (append_pair form name value) + cost more = parameters_short (append_pair form name value) more h.2 in
    let pair : length (append_pair form name value) ≤ length form + (2 + 3 * (length name + length value)) = pair_short form name value (text_bytes name h.0) (text_bytes value h.1) in
    omega (arith, rest, pair)

rows_path_short : (t : Target) → HasListNumber t → length (rows_path t) ≤ 40
rows_path_short target.Items h = omega arith
rows_path_short (target.Container list) h = let few = decimal_few list h in simp length-append (omega (arith, few))

path_short : (want : Want) → HasNumbers want → length (path_to want) ≤ 40
path_short ServerInfo h = omega arith
path_short Codes h = omega arith
path_short Login h = omega arith
path_short (Logout session) h = omega arith
path_short (Update session revision) h = omega arith
path_short (Databases session) h = omega arith
path_short (Rows session t look) h = rows_path_short t h.1
path_short (Lists session) h = omega arith
path_short (Values session Artists asked) h = omega arith
path_short (Values session Albums asked) h = omega arith
path_short (Values session Genres asked) h = omega arith
path_short (Values session Composers asked) h = omega arith
path_short (Edit body) h = omega arith
path_short Stop h = omega arith
path_short (Bad error) h = omega arith

behind_short : (form : List ℕ) → length (behind_path form) ≤ 1 + length form
behind_short [] = omega arith
behind_short (b ∷ bs) = omega arith

pub target_short : (want : Want) → HasNumbers want → AreTexts (parameters_of want) → cost (parameters_of want) ≤ 15900 → length (target_of want) ≤ 16000
unfolding target_of
target_short want n h c =
    let path = path_short want n in
    let behind = behind_short (form_text want) in
    let form : length (form_text want) ≤ cost (parameters_of want) = omega (arith, parameters_short [] (parameters_of want) h) in
    simp length-append (omega (arith, path, behind, form, c))
