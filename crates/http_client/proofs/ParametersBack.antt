-- The parameters of an operation read back as written, are texts, and are not long.
use Rattle.std.proofs.Common.{◌≡◌, ◌≢◌, ◌≤◌, ◌<◌, ◌+◌, ◌*◌, ◌∷◌, ◌++◌, ◌==◌, [], ℕ, List, Bool, cond, nat_le, Option, Some, None, true, false, refl, sym, ap, ◌∙◌, subst, length, All, IsUtf8, inl, inr, arith, length-append}
use Rattle.std.specs.Prelude.{⊤, codes, decimal, option_map, option_and_then}
use Rattle.std.specs.List.{after_first, before_first, list_all}
use Rattle.std.specs.Str.{bytes_eq}
use Rattle.std.proofs.lemmas.Bool.{cases_Bool, and_parts, eqb-true, ltb-true, ne_eqb, or_right}
use Rattle.std.proofs.lemmas.Fmt.{IsAscii-decimal}
use Rattle.std.proofs.lemmas.List.Elements.{All-nil, All-cons, All-head, All-tail, All-weaker}
use Rattle.std.proofs.lemmas.Str.{IsUtf8-append, IsUtf8-from_ascii}
use Rattle.std.proofs.lemmas.Str.Ascii.{IsAscii-from_all}
use Rattle.form_urlencoded.proofs.FormLemmas.{split_once_before_at, split_once_after_at}
use Rattle.http_front.specs.Numbers.{has_hyphen, hyphen_range, number_in, range_from, range_in, range_of, small_number}
use Rattle.http_front.specs.Parameters.{meta_in, nonempty_value, unless_empty}
use Rattle.item_model.proofs.Few.{first_few}
use Rattle.item_model.proofs.ReadsBack.{reads_back}
use Rattle.item_model.specs.Names.{meta_of, named, names_text, parts}
use Rattle.item_model.specs.Limits.{names_limit}
use Rattle.item_model.specs.QuerySeen.{tree_of}
use Rattle.item_model.specs.declared.property.Property.{Property}
use Rattle.item_model.specs.declared.query.Query.{Query}
use Rattle.item_model.specs.declared.request.Look.{Look}
use Rattle.item_model.specs.declared.request.Meta.{Meta}
use Rattle.item_model.specs.declared.request.Meta.TheVariants as shown
use Rattle.item_model.specs.declared.request.Range.{Range}
use Rattle.item_model.specs.declared.request.Range.TheVariants as range
use Rattle.share_asks.specs.declared.ask.Want.{Want}
use Rattle.share_asks.specs.declared.ask.Want.TheVariants.{ServerInfo, Codes, Login, Logout, Update, Databases, Rows, Lists, Values, Edit, Stop, Bad}
use Rattle.item_model.specs.Proper.{are_proper, have_two, is_proper}
use Rattle.item_model.specs.QueryTree.{QueryTree, condition, and_of, or_of, QueryTrees, no_queries, more_queries}
use Rattle.share_asks.specs.Valid.{MayAsk}
use Rattle.song_query.specs.Printing.{printed, printed_and, printed_and_more, printed_member, printed_or, printed_or_more, printed_unit}
use Rattle.http_client.specs.Requests.{HasNumbers, HasPlaces, IsNamed, IsSmall, IsWithinLimits, IsWord}
use Rattle.http_client.specs.Targets.{IsText, IsTextOf, Parameters, look_parameters, meta_value, parameters_of, query_value, range_value, unless_zero, with_parameters}
use Rattle.http_client.proofs.FormsBack.{AreTexts, value_back, value_under}
use Rattle.http_client.proofs.NamesBack.{is_low, names_low, names_short}
use Rattle.http_client.proofs.Numerals.{IsDigit, decimal_digits, decimal_few, decimal_some, small_back}
use Rattle.http_client.proofs.TargetsBack.{cost}

-- ---- numbers

pub kept_text : (text : List ℕ) → 1 ≤ length text → unless_empty (Some text) ≡ Some text
kept_text [] h = absurd (omega (arith, h))
kept_text (b ∷ bs) h = refl

decimal_kept : (n : ℕ) → IsWord n → unless_empty (Some (decimal n)) ≡ Some (decimal n)
decimal_kept n h = kept_text (decimal n) (decimal_some n (omega (arith, h)))

pub number_under : (name : List ℕ) (ps : Parameters) (n : ℕ) → AreTexts ps → value_under name ps ≡ Some (decimal n) → IsWord n → number_in (nonempty_value name (with_parameters [] ps)) ≡ Some n
number_under name ps n texts under h = ap number_in (value_back name ps texts ∙ ap unless_empty under ∙ decimal_kept n h) ∙ small_back n h

zero_untold : (base : ℕ) → IsWord base → number_in (unless_empty (unless_zero base)) ≡ Some base
zero_untold base h = elim (cases_Bool (base == 0)) [
  | inl zero ↦ rw zero (ap (λ (n : ℕ). Some n) (sym (eqb-true base 0 zero)))
  | inr other ↦ rw other (ap number_in (decimal_kept base h) ∙ small_back base h)
]

pub base_under : (name : List ℕ) (ps : Parameters) (base : ℕ) → AreTexts ps → value_under name ps ≡ unless_zero base → IsWord base → number_in (nonempty_value name (with_parameters [] ps)) ≡ Some base
base_under name ps base texts under h = ap number_in (value_back name ps texts ∙ ap unless_empty under) ∙ zero_untold base h

-- ---- names

names_kept : (text : List ℕ) (ps : List Property) → meta_of text ≡ Some (shown.Names ps) → unless_empty (Some text) ≡ Some text
names_kept [] ps h = absurd (cc h)
names_kept (b ∷ bs) ps h = refl

meta_back : (meta : Meta) → IsNamed meta → meta_in (unless_empty (meta_value meta)) ≡ Some meta
meta_back shown.Default h = refl
meta_back shown.All h = reads_back h.0 shown.All h.1
meta_back (shown.Names ps) h =
    let again : meta_of (names_text ps) ≡ Some (shown.Names ps) = reads_back h.0 (shown.Names ps) h.1 in
    ap meta_in (names_kept (names_text ps) ps again) ∙ again

pub meta_under : (name : List ℕ) (ps : Parameters) (meta : Meta) → AreTexts ps → value_under name ps ≡ meta_value meta → IsNamed meta → meta_in (nonempty_value name (with_parameters [] ps)) ≡ Some meta
meta_under name ps meta texts under h = ap meta_in (value_back name ps texts ∙ ap unless_empty under) ∙ meta_back meta h

few_step : (text : List ℕ) (ps : List Property) (b e a : Bool) → cond b (Some (cond e shown.Default (cond a shown.All (shown.Names (named (parts text)))))) None ≡ Some (shown.Names ps) → named (parts text) ≡ ps
few_step text ps true true a h = absurd (cc h)
few_step text ps true false true h = absurd (cc h)
few_step text ps true false false h = cc h
few_step text ps false e a h = absurd (cc h)

few_names : (text : List ℕ) (ps : List Property) → meta_of text ≡ Some (shown.Names ps) → length ps ≤ 26
few_names text ps h =
    let same : named (parts text) ≡ ps = few_step text ps (nat_le (length (parts text)) names_limit) (length text == 0) (bytes_eq text (codes "all")) h in
    subst (λ (qs : List Property). length qs ≤ 26) same (first_few _)

-- ---- queries

unit_some : (q : QueryTree) → 1 ≤ length (printed_unit q)
unit_some (condition c) = omega arith
unit_some (and_of qs) = omega arith
unit_some (or_of qs) = omega arith

front_some : (a b : List ℕ) → 1 ≤ length a → 1 ≤ length (a ++ b)
front_some a b h = simp length-append (omega (arith, h))

and_some : (qs : QueryTrees) → have_two qs ≡ true → 1 ≤ length (printed_and qs)
and_some no_queries h = absurd (cc h)
and_some (more_queries q qs) h = front_some (printed_unit q) (printed_and_more qs) (unit_some q)

member_some : (q : QueryTree) → is_proper q ≡ true → 1 ≤ length (printed_member q)
member_some (condition c) h = omega arith
member_some (and_of qs) h = and_some qs (and_parts (have_two qs) (are_proper qs) h).0
member_some (or_of qs) h = omega arith

or_some : (qs : QueryTrees) → have_two qs ≡ true → are_proper qs ≡ true → 1 ≤ length (printed_or qs)
or_some no_queries h k = absurd (cc h)
or_some (more_queries q qs) h k = front_some (printed_member q) (printed_or_more qs) (member_some q (and_parts (is_proper q) (are_proper qs) k).0)

query_some : (q : QueryTree) → is_proper q ≡ true → 1 ≤ length (printed q)
query_some (condition c) h = omega arith
query_some (and_of qs) h = and_some qs (and_parts (have_two qs) (are_proper qs) h).0
query_some (or_of qs) h = let parts = and_parts (have_two qs) (are_proper qs) h in or_some qs parts.0 parts.1

pub query_kept : (asked : Option Query) → MayAsk asked → unless_empty (query_value asked) ≡ query_value asked
query_kept None h = refl
query_kept (Some q) h = kept_text (printed (tree_of q)) (query_some (tree_of q) h)

-- ---- positions

abbrev NoHyphen : ℕ → Type 0
NoHyphen b = b ≢ 45

digit_no_hyphen : (b : ℕ) → IsDigit b → NoHyphen b
digit_no_hyphen b h = λ (e : b ≡ 45). omega (arith, h.0, e)

plain_decimal : (n : ℕ) → IsWord n → All NoHyphen (decimal n)
plain_decimal n h = All-weaker IsDigit NoHyphen digit_no_hyphen (decimal n) (decimal_digits n (omega (arith, h)))

no_hyphen : (text : List ℕ) → All NoHyphen text → has_hyphen text ≡ false
no_hyphen [] h = refl
no_hyphen (b ∷ bs) h = rw (ne_eqb b 45 (All-head NoHyphen b bs h)) (no_hyphen bs (All-tail NoHyphen b bs h))

one_hyphen : (front behind : List ℕ) → has_hyphen (front ++ 45 ∷ behind) ≡ true
one_hyphen [] behind = refl
one_hyphen (b ∷ bs) behind = or_right (b == 45) (has_hyphen (bs ++ 45 ∷ behind)) (one_hyphen bs behind)

hyphened : (front behind : List ℕ) → All NoHyphen front → range_of (front ++ 45 ∷ behind) ≡ hyphen_range front behind
hyphened front behind h =
    let before : before_first (λ b. b == 45) (front ++ 45 ∷ behind) ≡ front = split_once_before_at 45 front behind h in
    let after : after_first (λ b. b == 45) (front ++ 45 ∷ behind) ≡ behind = split_once_after_at 45 front behind h in
    rw (one_hyphen front behind, before, after) refl

from_number : (digits behind : List ℕ) (n : ℕ) → 1 ≤ length digits → small_number digits ≡ Some n → hyphen_range digits behind ≡ range_from n behind
from_number [] behind n some e = absurd (omega (arith, some))
from_number (b ∷ bs) behind n some e = ap (option_and_then (λ at. range_from at behind)) e

up_to : (from : ℕ) (digits : List ℕ) (n : ℕ) → 1 ≤ length digits → small_number digits ≡ Some n → range_from from digits ≡ Some (range.Span from n)
up_to from [] n some e = absurd (omega (arith, some))
up_to from (b ∷ bs) n some e = ap (option_map (λ to. range.Span from to)) e

word_some : (n : ℕ) → IsWord n → 1 ≤ length (decimal n)
word_some n h = decimal_some n (omega (arith, h))

joined_some : (front behind : List ℕ) → 1 ≤ length (front ++ 45 ∷ behind)
joined_some front behind = simp length-append (omega arith)

range_back : (r : Range) → HasPlaces r → range_in (unless_empty (range_value r)) ≡ Some r
range_back range.All h = refl
range_back (range.One at) h =
    ap range_in (decimal_kept at h) ∙ rw (no_hyphen (decimal at) (plain_decimal at h)) (ap (option_map (λ n. range.One n)) (small_back at h))
range_back (range.From at) h =
    ap range_in (kept_text (decimal at ++ codes "-") (joined_some (decimal at) [])) ∙ hyphened (decimal at) [] (plain_decimal at h)
    ∙ from_number (decimal at) [] at (word_some at h) (small_back at h)
range_back (range.Span from to) h =
    ap range_in (kept_text (decimal from ++ (codes "-" ++ decimal to)) (joined_some (decimal from) (decimal to)))
    ∙ hyphened (decimal from) (decimal to) (plain_decimal from h.0) ∙ from_number (decimal from) (decimal to) from (word_some from h.0) (small_back from h.0)
    ∙ up_to from (decimal to) to (word_some to h.1) (small_back to h.1)
range_back (range.Last count) h =
    hyphened [] (decimal count) (All-nil NoHyphen) ∙ ap (option_map (λ n. range.Last n)) (small_back count h)

pub range_under : (name : List ℕ) (ps : Parameters) (r : Range) → AreTexts ps → value_under name ps ≡ range_value r → HasPlaces r → range_in (nonempty_value name (with_parameters [] ps)) ≡ Some r
range_under name ps r texts under h = ap range_in (value_back name ps texts ∙ ap unless_empty under) ∙ range_back r h

-- ---- texts

low_all : (text : List ℕ) → list_all is_low text ≡ true → All (λ b. b < 128) text
low_all [] h = All-nil (λ b. b < 128)
low_all (b ∷ bs) h =
    let parts = and_parts (is_low b) (list_all is_low bs) h in
    All-cons (λ b. b < 128) b bs (ltb-true b 128 parts.0) (low_all bs parts.1)

low_text : (text : List ℕ) → list_all is_low text ≡ true → IsUtf8 text
low_text text h = IsUtf8-from_ascii text (IsAscii-from_all text (low_all text h))

word_text : (n : ℕ) → IsWord n → IsUtf8 (decimal n)
word_text n h = IsUtf8-from_ascii (decimal n) (IsAscii-decimal n (omega (arith, h)))

abbrev IsValueText : Option (List ℕ) → Type 0
IsValueText None = ⊤
IsValueText (Some value) = IsUtf8 value

with_text : (name : List ℕ) (o : Option (List ℕ)) (more : Parameters) → list_all is_low name ≡ true → IsValueText o → AreTexts more → AreTexts ((name, o) ∷ more)
with_text name None more low h rest = rest
with_text name (Some value) more low h rest = (low_text name low, h, rest)

base_text : (base : ℕ) → IsWord base → IsValueText (unless_zero base)
base_text base h = elim (cases_Bool (base == 0)) [
  | inl zero ↦ rw zero tt
  | inr other ↦ rw other (word_text base h)
]

meta_utf8 : (meta : Meta) → IsValueText (meta_value meta)
meta_utf8 shown.Default = tt
meta_utf8 shown.All = low_text (codes "all") refl
meta_utf8 (shown.Names ps) = low_text (names_text ps) (names_low ps)

query_text : (asked : Option Query) → IsText asked → IsValueText (query_value asked)
query_text None h = tt
query_text (Some q) h = h

hyphen_text : IsUtf8 (codes "-")
hyphen_text = low_text (codes "-") refl

range_text : (r : Range) → HasPlaces r → IsValueText (range_value r)
range_text range.All h = tt
range_text (range.One at) h = word_text at h
range_text (range.From at) h = IsUtf8-append (decimal at) (codes "-") (word_text at h) hyphen_text
range_text (range.Span from to) h =
    IsUtf8-append (decimal from) (codes "-" ++ decimal to) (word_text from h.0) (IsUtf8-append (codes "-") (decimal to) hyphen_text (word_text to h.1))
range_text (range.Last count) h = IsUtf8-append (codes "-") (decimal count) hyphen_text (word_text count h)

look_texts : (look : Look) → IsWord look.base → HasPlaces look.range → IsText look.query → AreTexts (look_parameters look)
look_texts look base places text =
    with_text (codes "delta") (unless_zero look.base) ((codes "meta", meta_value look.meta) ∷ (codes "query", query_value look.query) ∷ (codes "index", range_value look.range) ∷ []) refl (base_text look.base base)
    (with_text (codes "meta") (meta_value look.meta) ((codes "query", query_value look.query) ∷ (codes "index", range_value look.range) ∷ []) refl (meta_utf8 look.meta)
    (with_text (codes "query") (query_value look.query) ((codes "index", range_value look.range) ∷ []) refl (query_text look.query text)
    (with_text (codes "index") (range_value look.range) [] refl (range_text look.range places) tt)))

session_text : (session : ℕ) (more : Parameters) → IsWord session → AreTexts more → AreTexts ((codes "session-id", Some (decimal session)) ∷ more)
session_text session more h rest = (low_text (codes "session-id") refl, word_text session h, rest)

pub texts_of : (want : Want) → HasNumbers want → IsTextOf want → AreTexts (parameters_of want)
texts_of ServerInfo h t = tt
texts_of Codes h t = tt
texts_of Login h t = tt
texts_of (Logout session) h t = session_text session [] h tt
texts_of (Update session revision) h t =
    session_text session ((codes "revision-number", Some (decimal revision)) ∷ []) h.0 (low_text (codes "revision-number") refl, word_text revision h.1, tt)
texts_of (Databases session) h t = session_text session [] h tt
texts_of (Rows session target look) h t = session_text session (look_parameters look) h.0 (look_texts look h.2 h.3 t)
texts_of (Lists session) h t = session_text session [] h tt
texts_of (Values session browse asked) h t =
    session_text session ((codes "filter", query_value asked) ∷ []) h (with_text (codes "filter") (query_value asked) [] refl (query_text asked t) tt)
texts_of (Edit body) h t = tt
texts_of Stop h t = tt
texts_of (Bad error) h t = tt

-- ---- how long they are

abbrev value_size : Option (List ℕ) → ℕ
value_size None = 0
value_size (Some value) = length value

cost_step : (name : List ℕ) (o : Option (List ℕ)) (more : Parameters) (k m : ℕ) → length name ≤ 16 → value_size o ≤ k → cost more ≤ m → cost ((name, o) ∷ more) ≤ 50 + 3 * k + m
cost_step name None more k m n v rest = omega (arith, rest)
cost_step name (Some value) more k m n v rest = omega (arith, n, v, rest)

base_size : (base : ℕ) → IsWord base → value_size (unless_zero base) ≤ 10
base_size base h = elim (cases_Bool (base == 0)) [
  | inl zero ↦ rw zero (omega arith)
  | inr other ↦ rw other (decimal_few base h)
]

meta_size : (meta : Meta) → IsNamed meta → value_size (meta_value meta) ≤ 807
meta_size shown.Default h = omega arith
meta_size shown.All h = omega arith
meta_size (shown.Names ps) h = omega (arith, names_short ps, few_names h.0 ps h.1)

query_size : (asked : Option Query) → IsWithinLimits asked → value_size (query_value asked) ≤ 4096
query_size None h = omega arith
query_size (Some q) h = h.0

range_size : (r : Range) → HasPlaces r → value_size (range_value r) ≤ 21
range_size range.All h = omega arith
range_size (range.One at) h = omega (arith, decimal_few at h)
range_size (range.From at) h = let few = decimal_few at h in simp length-append (omega (arith, few))
range_size (range.Span from to) h = let a = decimal_few from h.0 in let b = decimal_few to h.1 in simp length-append (omega (arith, a, b))
range_size (range.Last count) h = omega (arith, decimal_few count h)

look_cost : (look : Look) → IsWord look.base → HasPlaces look.range → IsWithinLimits look.query → IsNamed look.meta → cost (look_parameters look) ≤ 15100
look_cost look base places within named =
    let one = cost_step (codes "index") (range_value look.range) [] 21 0 (omega arith) (range_size look.range places) (omega arith) in
    let two = cost_step (codes "query") (query_value look.query) ((codes "index", range_value look.range) ∷ []) 4096 113 (omega arith) (query_size look.query within) (omega (arith, one)) in
    let three = cost_step (codes "meta") (meta_value look.meta) ((codes "query", query_value look.query) ∷ (codes "index", range_value look.range) ∷ []) 807 12451 (omega arith) (meta_size look.meta named) (omega (arith, two)) in
    let four = cost_step (codes "delta") (unless_zero look.base) ((codes "meta", meta_value look.meta) ∷ (codes "query", query_value look.query) ∷ (codes "index", range_value look.range) ∷ []) 10 14922 (omega arith) (base_size look.base base) (omega (arith, three)) in
    omega (arith, four)

session_cost : (session : ℕ) (more : Parameters) (m : ℕ) → IsWord session → cost more ≤ m → cost ((codes "session-id", Some (decimal session)) ∷ more) ≤ 80 + m
session_cost session more m h rest = cost_step (codes "session-id") (Some (decimal session)) more 10 m (omega arith) (decimal_few session h) rest

pub cost_of : (want : Want) → HasNumbers want → IsSmall want → cost (parameters_of want) ≤ 15900
cost_of ServerInfo h s = omega arith
cost_of Codes h s = omega arith
cost_of Login h s = omega arith
cost_of (Logout session) h s = omega (arith, session_cost session [] 0 h (omega arith))
cost_of (Update session revision) h s =
    let last = cost_step (codes "revision-number") (Some (decimal revision)) [] 10 0 (omega arith) (decimal_few revision h.1) (omega arith) in
    omega (arith, session_cost session ((codes "revision-number", Some (decimal revision)) ∷ []) 80 h.0 last)
cost_of (Databases session) h s = omega (arith, session_cost session [] 0 h (omega arith))
cost_of (Rows session target look) h s = omega (arith, session_cost session (look_parameters look) 15100 h.0 (look_cost look h.2 h.3 s.0 s.1))
cost_of (Lists session) h s = omega (arith, session_cost session [] 0 h (omega arith))
cost_of (Values session browse asked) h s =
    let last = cost_step (codes "filter") (query_value asked) [] 4096 0 (omega arith) (query_size asked s) (omega arith) in
    omega (arith, session_cost session ((codes "filter", query_value asked) ∷ []) 12338 h (omega (arith, last)))
cost_of (Edit body) h s = omega arith
cost_of Stop h s = omega arith
cost_of (Bad error) h s = omega arith
