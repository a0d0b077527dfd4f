-- Whether bytes are a head is decided, and which: by the grammar, part by part.
use Rattle.std.proofs.Common.{◌≡◌, ◌≢◌, ℕ, zero, suc, ◌<◌, ◌≤◌, ◌⊎◌, List, [], ◌∷◌, ◌++◌, length, Bool, true, false, Option, Some, None, refl, sym, ap, ap₂, ◌∙◌, subst, inl, inr, ⊎_elim, arith, append_assoc, append-nil, length-append}
use Rattle.std.specs.Prelude.{IsUtf8}
use Rattle.std.specs.Char.{is_ascii_digit}
use Rattle.std.specs.List.{flat_map}
use Rattle.std.specs.Str.{is_utf8}
use Rattle.std.proofs.lemmas.Bool.{cases_Bool, cases_eq, cases_lt, false≢true, true≢false}
use Rattle.std.proofs.lemmas.List.Elements.{All-cons, All-nil}
use Rattle.std.proofs.lemmas.Str.{IsUtf8-from_is_utf8, is_utf8-from_IsUtf8}
use Rattle.httparse.specs.Grammar.{AllPass, Field, IsField, LineEnd, RequestHead, ResponseHead, ReadsRequest, ReadsResponse, crlf, lf, is_token_byte, is_uri_byte, is_value_byte, print_blank, print_end, print_field, print_section, print_version}
use Rattle.httparse.specs.Pieces.{Begins, Blank, Bytes, Code, Digit, FieldLine, FieldLines, Method, Newline, Piece, Reason, RequestStart, ResponseStart, Section, Stops, Target, Text, Then, Version, Word, is_newline}
use Rattle.httparse.proofs.GrammarLemmas.{request_from_pieces, request_head, request_unique, request_pieces, response_from_pieces, response_head, response_pieces, response_unique}
use Rattle.httparse.proofs.PieceLemmas.{Blank_deterministic, Bytes_deterministic, Code_deterministic, Digit_deterministic, FieldLine_parts, IsDeterministic, Method_deterministic, Name_deterministic, RequestStart_deterministic, ResponseStart_deterministic, Section_line, Section_skip, Stops_value, Target_deterministic, Version_deterministic, Word_deterministic, colon_ends_token, newline_not_stopped, print_end_unique, print_field-append, space_ends_token}
use Rattle.httparse.proofs.RunLemmas.{run_unique, run_unstopped}
use Rattle.http_heads.specs.Heads.{HasNoHead, HasNoReplyHead, IsHead, IsReplyHead}
use Rattle.http_heads.specs.Limits.{field_limit}

-- texts begin with the part, or they do not
abbrev Decides : {A : Type 0} → Piece A → Type 0
Decides G = (text : List ℕ) → Begins G text ⊎ (Begins G text → ⊥)

then_decides : {A B : Type 0} {G : Piece A} {H : Piece B} → IsDeterministic G → Decides G → Decides H → Decides (Then G H)
then_decides {A} {B} {G} {H} det g h text = elim (g text) [
  | inl (a, middle, x) ↦ next a middle x (h middle)
  | inr none ↦ inr (λ (ab, rest, (m, p, q)). none (ab.0, m, p))
]
  where
    next : (a : A) (middle : List ℕ) → G a text middle → Begins H middle ⊎ (Begins H middle → ⊥) → Begins (Then G H) text ⊎ (Begins (Then G H) text → ⊥)
    next a middle x (inl (b, rest, y)) = inl ((a, b), rest, (middle, x, y))
    next a middle x (inr none) =
        inr (λ (ab, rest, (m, p, q)).
        let same = det.unique ab.0 a text m middle p x in none (ab.1, rest, subst (λ (t : List ℕ). H ab.1 t rest) same.1 q))

-- ---- bytes

bytes_decide : (bytes : List ℕ) → Decides (Bytes bytes)
bytes_decide [] text = inl (tt, text, refl)
bytes_decide (b ∷ bs) [] = inr (λ (u, rest, h). absurd (cc))
bytes_decide (b ∷ bs) (c ∷ cs) = elim (cases_eq c b) [
  | inl same ↦ next same (bytes_decide bs cs)
  | inr other ↦ inr (λ (u, rest, h). other (let e : c ≡ b = cc in e))
]
  where
    next : c ≡ b → Begins (Bytes bs) cs ⊎ (Begins (Bytes bs) cs → ⊥) → Begins (Bytes (b ∷ bs)) (c ∷ cs) ⊎ (Begins (Bytes (b ∷ bs)) (c ∷ cs) → ⊥)
    next same (inl (u, rest, h)) = inl (tt, rest, ap₂ (λ (x : ℕ) (xs : List ℕ). x ∷ xs) same h)
    next same (inr none) = inr (λ (u, rest, h). none (tt, rest, (let e : cs ≡ bs ++ rest = cc in e)))

newline_decides : Decides Newline
newline_decides text = elim (bytes_decide (10 ∷ []) text) [
  | inl (u, rest, h) ↦ inl (lf, rest, h)
  | inr none ↦ returned none (bytes_decide (13 ∷ 10 ∷ []) text)
]
  where
    ends : (Begins (Bytes (10 ∷ [])) text → ⊥) → (Begins (Bytes (13 ∷ 10 ∷ [])) text → ⊥) → (end : LineEnd) (rest : List ℕ) → text ≡ print_end end ++ rest → ⊥
    ends first_not also crlf rest h = also (tt, rest, h)
    ends first_not also lf rest h = first_not (tt, rest, h)

    returned : (Begins (Bytes (10 ∷ [])) text → ⊥) → Begins (Bytes (13 ∷ 10 ∷ [])) text ⊎ (Begins (Bytes (13 ∷ 10 ∷ [])) text → ⊥)
        → Begins Newline text ⊎ (Begins Newline text → ⊥)
    returned first_not (inl (u, rest, h)) = inl (crlf, rest, h)
    returned first_not (inr also) = inr (λ (end, rest, h). ends first_not also end rest h)

-- ---- runs

-- the longest prefix of bytes that pass a test
record Front (test : ℕ → Bool) (text : List ℕ) : Type 0 where
  run : List ℕ
  rest : List ℕ
  pass : AllPass test run
  split : text ≡ run ++ rest
  ends : (rest ≡ []) ⊎ Stops test rest

front_of : (test : ℕ → Bool) (text : List ℕ) → Front test text
front_of test [] = record { run = []; rest = []; pass = All-nil (λ v. test v ≡ true); split = refl; ends = inl refl }
front_of test (b ∷ bs) = elim (cases_Bool (test b)) [
  | inl passes ↦ longer passes (front_of test bs)
  | inr stops ↦ record { run = []; rest = b ∷ bs; pass = All-nil (λ v. test v ≡ true); split = refl; ends = inr stops }
]
  where
    longer : test b ≡ true → Front test bs → Front test (b ∷ bs)
    longer passes f = record {
      run = b ∷ f.run;
      rest = f.rest;
      pass = All-cons (λ v. test v ≡ true) b f.run passes f.pass;
      split = ap (λ (xs : List ℕ). b ∷ xs) f.split;
      ends = f.ends;
    }

-- if all bytes pass, then no run ends before them
unstopped : (test : ℕ → Bool) (text run w r : List ℕ) → AllPass test run → text ≡ run ++ [] → text ≡ w ++ r → Stops test r → ⊥
unstopped test text run w r pass whole split stops =
    run_unstopped test w r (subst (AllPass test) (sym (append-nil run) ∙ sym whole ∙ split) pass) stops

word_decides : (test : ℕ → Bool) (stop : ℕ) → test stop ≡ false → Decides (Word test stop)
word_decides test stop fails text = by_front (front_of test text)
  where
    at_rest : (run rest : List ℕ) → AllPass test run → text ≡ run ++ rest → Stops test rest → Begins (Word test stop) text ⊎ (Begins (Word test stop) text → ⊥)
    at_rest [] rest pass split stops =
        inr (λ (word, r, h).
        let same = run_unique test word [] (stop ∷ r) rest h.1 pass fails stops (sym h.2 ∙ split) in
        let some : 0 < length word = h.0 in
        absurd (omega (arith, ap length same.0)))
    at_rest (b ∷ run) [] pass split stops = absurd stops
    at_rest (b ∷ run) (c ∷ rest) pass split stops = elim (cases_eq c stop) [
      | inl same ↦ inl (b ∷ run, rest, ((omega arith), pass, split ∙ ap (λ (x : ℕ). (b ∷ run) ++ x ∷ rest) same))
      | inr other ↦
          inr (λ (word, r, h).
          let one = run_unique test word (b ∷ run) (stop ∷ r) (c ∷ rest) h.1 pass fails stops (sym h.2 ∙ split) in
          other (let e : c ≡ stop = cc (one.1) in e))
    ]

    by_front : Front test text → Begins (Word test stop) text ⊎ (Begins (Word test stop) text → ⊥)
    by_front f = elim f.ends [
      | inl none ↦
          inr (λ (word, r, h). unstopped test text f.run word (stop ∷ r) f.pass (f.split ∙ ap (λ (x : List ℕ). f.run ++ x) none) h.2 fails)
      | inr stops ↦ at_rest f.run f.rest f.pass f.split stops
    ]

method_decides : Decides Method
method_decides = word_decides is_token_byte 32 space_ends_token

target_decides : Decides Target
target_decides text = elim (word_decides is_uri_byte 32 refl text) [
  | inl (word, rest, h) ↦ of_word word rest h (cases_Bool (is_utf8 word))
  | inr none ↦ inr (λ (target, rest, h). none (target, rest, h.0))
]
  where
    of_word : (word rest : List ℕ) → Word is_uri_byte 32 word text rest → (is_utf8 word ≡ true) ⊎ (is_utf8 word ≡ false) → Begins Target text ⊎ (Begins Target text → ⊥)
    of_word word rest h (inl yes_) = inl (word, rest, (h, IsUtf8-from_is_utf8 word yes_))
    of_word word rest h (inr no_) =
        inr (λ (target, r, k).
        let same = (Word_deterministic is_uri_byte 32 refl).unique target word text r rest k.0 h in
        false≢true (sym no_ ∙ is_utf8-from_IsUtf8 word (subst IsUtf8 same.0 k.1)))

version_decides : Decides Version
version_decides text = elim (bytes_decide (print_version 0) text) [
  | inl (u, rest, h) ↦ inl (0, rest, ((omega arith), h))
  | inr none ↦ first none (bytes_decide (print_version 1) text)
]
  where
    neither : (Begins (Bytes (print_version 0)) text → ⊥) → (Begins (Bytes (print_version 1)) text → ⊥) → (minor : ℕ) (rest : List ℕ) → minor ≤ 1
        → text ≡ print_version minor ++ rest → ⊥
    neither first_not also zero rest few h = first_not (tt, rest, h)
    neither first_not also (suc zero) rest few h = also (tt, rest, h)
    neither first_not also (suc (suc n)) rest few h = absurd (omega arith)

    first : (Begins (Bytes (print_version 0)) text → ⊥) → Begins (Bytes (print_version 1)) text ⊎ (Begins (Bytes (print_version 1)) text → ⊥)
        → Begins Version text ⊎ (Begins Version text → ⊥)
    first first_not (inl (u, rest, h)) = inl (1, rest, ((omega arith), h))
    first first_not (inr also) = inr (λ (minor, rest, h). neither first_not also minor rest h.0 h.1)

-- ---- empty lines

newline_shorter : (end : LineEnd) (text rest : List ℕ) → text ≡ print_end end ++ rest → length rest < length text
newline_shorter crlf text rest e = omega (arith, ap length e)
newline_shorter lf text rest e = omega (arith, ap length e)

-- empty lines after an empty line
ended_blank : (end : LineEnd) (text rest : List ℕ) → text ≡ print_end end ++ rest → (Begins Blank rest → ⊥) → (ends : List LineEnd) (r : List ℕ) → Blank ends text r → ⊥
ended_blank end text rest h none [] r x = newline_not_stopped end rest r (sym h ∙ x.0) x.1
ended_blank end text rest h none (e ∷ es) r x =
    let same = print_end_unique e end (print_blank es ++ r) rest (sym (append_assoc (print_end e) (print_blank es) r) ∙ sym x.0 ∙ h) in
    none (es, r, (sym same.1, x.1))

onto_blank : (end : LineEnd) (text rest : List ℕ) → text ≡ print_end end ++ rest → Begins Blank rest ⊎ (Begins Blank rest → ⊥)
    → Begins Blank text ⊎ (Begins Blank text → ⊥)
onto_blank end text rest h (inl (ends, r, x)) =
    inl (end ∷ ends, r, (h ∙ ap (λ (b : List ℕ). print_end end ++ b) x.0 ∙ sym (append_assoc (print_end end) (print_blank ends) r), x.1))
onto_blank end text rest h (inr none) = inr (λ (ends, r, x). ended_blank end text rest h none ends r x)

no_blank_at : (c : ℕ) (cs : List ℕ) → (Begins Newline (c ∷ cs) → ⊥) → is_newline c ≡ true → (ends : List LineEnd) (r : List ℕ) → Blank ends (c ∷ cs) r → ⊥
no_blank_at c cs none is [] r x = true≢false (sym is ∙ subst (Stops is_newline) (sym x.0) x.1)
no_blank_at c cs none is (e ∷ es) r x = none (e, print_blank es ++ r, x.0 ∙ append_assoc (print_end e) (print_blank es) r)

no_blank_in_nothing : (ends : List LineEnd) (r : List ℕ) → Blank ends [] r → ⊥
no_blank_in_nothing [] [] x = x.1
no_blank_in_nothing [] (b ∷ r) x = absurd (cc (x.0))
no_blank_in_nothing (crlf ∷ es) r x = absurd (cc (x.0))
no_blank_in_nothing (lf ∷ es) r x = absurd (cc (x.0))

at_no_newline : (text : List ℕ) → (Begins Newline text → ⊥) → Begins Blank text ⊎ (Begins Blank text → ⊥)
at_no_newline [] none = inr (λ (ends, r, x). no_blank_in_nothing ends r x)
at_no_newline (c ∷ cs) none = elim (cases_Bool (is_newline c)) [
  | inl is ↦ inr (λ (ends, r, x). no_blank_at c cs none is ends r x)
  | inr stops ↦ inl ([], c ∷ cs, (refl, stops))
]

blank_within : (n : ℕ) (text : List ℕ) → length text < n → Begins Blank text ⊎ (Begins Blank text → ⊥)
blank_within zero text short = absurd (omega arith)
blank_within (suc n) text short = elim (newline_decides text) [
  | inl (end, rest, h) ↦
      onto_blank end text rest h (blank_within n rest (let less : length rest < length text = newline_shorter end text rest h in omega arith))
  | inr none ↦ at_no_newline text none
]

blank_decides : Decides Blank
blank_decides text = blank_within (suc (length text)) text (omega arith)

-- ---- values, reasons and fields

text_decides : Decides Text
text_decides text = by_front (front_of is_value_byte text)
  where
    at_end : (run rest : List ℕ) → AllPass is_value_byte run → text ≡ run ++ rest → Stops is_value_byte rest → Begins Newline rest ⊎ (Begins Newline rest → ⊥)
        → Begins Text text ⊎ (Begins Text text → ⊥)
    at_end run rest pass split stops (inl (end, r, h)) = inl ((run, end), r, (pass, split ∙ ap (λ (b : List ℕ). run ++ b) h))
    at_end run rest pass split stops (inr none) =
        inr (λ (t, r, x).
        let same = run_unique is_value_byte t.0 run (print_end t.1 ++ r) rest x.0 pass (Stops_value t.1 r) stops (sym x.1 ∙ split) in
        none (t.1, r, sym same.1))

    by_front : Front is_value_byte text → Begins Text text ⊎ (Begins Text text → ⊥)
    by_front f = elim f.ends [
      | inl none ↦
          inr (λ (t, r, x). unstopped is_value_byte text f.run t.0 (print_end t.1 ++ r) f.pass (f.split ∙ ap (λ (b : List ℕ). f.run ++ b) none) x.1 (Stops_value t.1 r))
      | inr stops ↦ at_end f.run f.rest f.pass f.split stops (newline_decides f.rest)
    ]

reason_decides : Decides Reason
reason_decides text = elim (newline_decides text) [
  | inl (end, rest, h) ↦ inl ((None, end), rest, (All-nil (λ v. is_value_byte v ≡ true), h))
  | inr none ↦ spaced none (then_decides (Bytes_deterministic (32 ∷ [])) (bytes_decide (32 ∷ [])) text_decides text)
]
  where
    neither : (Begins Newline text → ⊥) → (Begins (Then (Bytes (32 ∷ [])) Text) text → ⊥) → (reason : Option (List ℕ)) (end : LineEnd) (rest : List ℕ) → Reason (reason, end) text rest → ⊥
    neither first_not also None end rest x = first_not (end, rest, x.1)
    neither first_not also (Some phrase) end rest x = also ((tt, (phrase, end)), rest, (phrase ++ (print_end end ++ rest), x.1, (x.0, refl)))

    spaced : (Begins Newline text → ⊥) → Begins (Then (Bytes (32 ∷ [])) Text) text ⊎ (Begins (Then (Bytes (32 ∷ [])) Text) text → ⊥)
        → Begins Reason text ⊎ (Begins Reason text → ⊥)
    spaced first_not (inl (t, rest, (middle, space, x))) =
        inl ((Some t.1.0, t.1.1), rest, (x.0, space ∙ ap (λ (b : List ℕ). 32 ∷ b) x.1))
    spaced first_not (inr also) = inr (λ (r, rest, x). neither first_not also r.0 r.1 rest x)

field_decides : Decides FieldLine
field_decides text = elim (then_decides Name_deterministic (word_decides is_token_byte 58 colon_ends_token) text_decides text) [
  | inl (t, rest, (middle, word, x)) ↦
      (let field : Field = record { name = t.0; raw = t.1.0; end = t.1.1 } in
      inl (
        field,
        rest,
        (
          record { name = (word.0, word.1); raw = x.0 },
          word.2 ∙ ap (λ (b : List ℕ). t.0 ++ 58 ∷ b) x.1 ∙ sym (print_field-append field rest),
        ),
      ))
  | inr none ↦ inr (λ (f, rest, x). none ((f.name, (f.raw, f.end)), rest, FieldLine_parts f text rest x))
]

-- ---- sections

field_longer : (f : Field) (text rest : List ℕ) → FieldLine f text rest → length rest < length text
field_longer f text rest x =
    let some : 0 < length f.name = x.0.name.0 in
    omega (
      arith,
      ap length (x.1 ∙ print_field-append f rest),
      length-append f.name (58 ∷ (f.raw ++ (print_end f.end ++ rest))),
      length-append f.raw (print_end f.end ++ rest),
      length-append (print_end f.end) rest,
    )

one_field : (f : Field) (text rest : List ℕ) → FieldLine f text rest → FieldLines (f ∷ []) text rest
one_field f text rest x =
    (All-cons IsField f [] x.0 (All-nil IsField), x.1 ∙ ap (λ (b : List ℕ). b ++ rest) (sym (append-nil (print_field f))))

onto_section : (f : Field) (text middle : List ℕ) → FieldLine f text middle → Begins Section middle ⊎ (Begins Section middle → ⊥)
    → Begins Section text ⊎ (Begins Section text → ⊥)
onto_section f text middle x (inl (s, rest, y)) =
    inl (
      (f ∷ s.0, s.1),
      rest,
      (
        All-cons IsField f s.0 x.0 y.0,
        x.1 ∙ ap (λ (b : List ℕ). print_field f ++ b) y.1 ∙ sym (append_assoc (print_field f) (print_section s.0 s.1) rest)
            ∙ ap (λ (b : List ℕ). b ++ rest) (sym (append_assoc (print_field f) (flat_map print_field s.0) (print_end s.1))),
      ),
    )
onto_section f text middle x (inr none) =
    inr (λ (s, rest, y).
    let skipped = Section_skip (f ∷ []) s.0 s.1 text middle rest (one_field f text middle x) y in
    none ((skipped.0, s.1), rest, skipped.2))

section_within : (n : ℕ) (text : List ℕ) → length text < n → Begins Section text ⊎ (Begins Section text → ⊥)
section_within zero text short = absurd (omega arith)
section_within (suc n) text short = elim (newline_decides text) [
  | inl (end, rest, h) ↦ inl (([], end), rest, (All-nil IsField, h))
  | inr no_end ↦ elim (field_decides text) [
    | inl (f, middle, x) ↦
        onto_section f text middle x (section_within n middle (let less : length middle < length text = field_longer f text middle x in omega arith))
    | inr no_line ↦ inr (λ (s, rest, y). ⊎_elim no_end no_line (Section_line s text rest y))
  ]
]

section_decides : Decides Section
section_decides text = section_within (suc (length text)) text (omega arith)

-- ---- heads

request_decides : Decides (Then RequestStart Section)
request_decides =
    then_decides RequestStart_deterministic
    (then_decides Blank_deterministic blank_decides (then_decides Method_deterministic method_decides
    (then_decides Target_deterministic target_decides (then_decides Version_deterministic version_decides newline_decides))))
    section_decides

digit_decides : Decides Digit
digit_decides [] = inr (λ (d, rest, x). absurd (cc (x.1)))
digit_decides (b ∷ bs) = elim (cases_Bool (is_ascii_digit b)) [
  | inl is ↦ inl (b, bs, (is, refl))
  | inr other ↦ inr (λ (d, rest, x). let same : d ≡ b = cc (x.1) in false≢true (sym other ∙ ap is_ascii_digit (sym same) ∙ x.0))
]

code_decides : Decides Code
code_decides = then_decides Digit_deterministic digit_decides (then_decides Digit_deterministic digit_decides digit_decides)

response_decides : Decides (Then ResponseStart Section)
response_decides =
    then_decides ResponseStart_deterministic
    (then_decides Blank_deterministic blank_decides (then_decides Version_deterministic version_decides
    (then_decides (Bytes_deterministic (32 ∷ [])) (bytes_decide (32 ∷ [])) (then_decides Code_deterministic code_decides reason_decides))))
    section_decides

none_or_some : (bytes : List ℕ) → (bytes ≡ []) ⊎ (bytes ≢ [])
none_or_some [] = inl refl
none_or_some (b ∷ bs) = inr (λ e. absurd (cc (e)))

few_or_many : (n : ℕ) → (n ≤ field_limit) ⊎ (n ≤ field_limit → ⊥)
few_or_many n = elim (cases_lt field_limit n) [
  | inl many ↦ inr (λ few. absurd (omega arith))
  | inr few ↦ inl few
]

-- bytes are a request's head, or none
pub head_decides : (bytes : List ℕ) → ((h : RequestHead) × IsHead bytes h) ⊎ HasNoHead bytes
head_decides bytes = elim (request_decides bytes) [
  | inl (t, rest, x) ↦ whole (request_head t) rest (request_from_pieces bytes t rest x) (none_or_some rest) (few_or_many (length (request_head t).fields))
  | inr none ↦ inr (λ h is. none ((_, (h.fields, h.last)), [], request_pieces bytes h [] is.0))
]
  where
    whole : (k : RequestHead) (rest : List ℕ) → ReadsRequest bytes k rest → (rest ≡ []) ⊎ (rest ≢ []) → (length k.fields ≤ field_limit) ⊎ (length k.fields ≤ field_limit → ⊥)
        → ((h : RequestHead) × IsHead bytes h) ⊎ HasNoHead bytes
    whole k rest reads (inl none) (inl few) = inl (k, (subst (λ (r : List ℕ). ReadsRequest bytes k r) none reads, few))
    whole k rest reads (inr some) few = inr (λ h is. some (request_unique bytes k h rest [] reads is.0).1)
    whole k rest reads (inl none) (inr many) =
        inr (λ h is.
        let same = request_unique bytes k h rest [] reads is.0 in
        many (subst (λ (x : RequestHead). length x.fields ≤ field_limit) (sym same.0) is.1))

-- and so for replies
pub reply_head_decides : (bytes : List ℕ) → ((h : ResponseHead) × IsReplyHead bytes h) ⊎ HasNoReplyHead bytes
reply_head_decides bytes = elim (response_decides bytes) [
  | inl (t, rest, x) ↦ whole (response_head t) rest (response_from_pieces bytes t rest x) (none_or_some rest) (few_or_many (length (response_head t).fields))
  | inr none ↦ inr (λ h is. let pieces = response_pieces bytes h [] is.0 in none (pieces.0, [], pieces.2))
]
  where
    whole : (k : ResponseHead) (rest : List ℕ) → ReadsResponse bytes k rest → (rest ≡ []) ⊎ (rest ≢ []) → (length k.fields ≤ field_limit) ⊎ (length k.fields ≤ field_limit → ⊥)
        → ((h : ResponseHead) × IsReplyHead bytes h) ⊎ HasNoReplyHead bytes
    whole k rest reads (inl none) (inl few) = inl (k, (subst (λ (r : List ℕ). ReadsResponse bytes k r) none reads, few))
    whole k rest reads (inr some) few = inr (λ h is. some (response_unique bytes k h rest [] reads is.0).1)
    whole k rest reads (inl none) (inr many) =
        inr (λ h is.
        let same = response_unique bytes k h rest [] reads is.0 in
        many (subst (λ (x : ResponseHead). length x.fields ≤ field_limit) (sym same.0) is.1))
