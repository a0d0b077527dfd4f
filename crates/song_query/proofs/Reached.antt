-- A text read up to an offset, and the result there.
use Rattle.std.proofs.Common.{⊎_elim, ◌≡◌, ◌≢◌, ◌≤◌, ◌<◌, ◌+◌, ◌-◌, ◌++◌, ℕ, zero, suc, true, false, List, [], ◌∷◌, length, take, drop, get_or, Option, Some, None, Ok, Err, refl, ap, sym, ◌∙◌, subst, inl, inr, arith, length-append}
use Rattle.std.proofs.Math.Seq.{take-add, take-append_seam}
use Rattle.std.proofs.lemmas.Bool.{cases_lt}
use Rattle.std.proofs.lemmas.List.{take_all, length-drop, take-append-le}
use Rattle.std.proofs.lemmas.Str.{encode_ascii}
use Rattle.std.specs.Char.{encode_utf8}
use Rattle.item_model.specs.QuerySeen.{tree_of}
use Rattle.item_model.specs.declared.query.Query.{Query}
use Rattle.item_model.specs.declared.refusal.QueryError.TheVariants.{TooDeep, At}
use Rattle.item_model.specs.declared.refusal.QueryWhy.TheVariants.{End, Byte}
use Rattle.song_query.specs.Seen.{Taken, refused_at}
use Rattle.song_query.specs.declared.parts.Refusal.{Refusal}
use Rattle.song_query.specs.declared.parts.Refusal.TheVariants.{Byte as ByteRefused, Deep, Memory}
use Rattle.song_query.specs.Limits.{open_parentheses, query_bytes}
use Rattle.song_query.specs.Machine.{State, start, go, bind, run, is_end, level_query}
use Rattle.song_query.specs.Reading.{QueryReads, IsStuck}
use Rattle.song_query.specs.Nesting.{open_at_end}
use Rattle.song_query.specs.Answers.{IsShallow, Answers}
use Rattle.song_query.proofs.Complete.{run_append}
use Rattle.song_query.proofs.MachineLaws.{accepted, begins, stuck_at, stuck_end, not_over}
use Rattle.song_query.proofs.Wide.{AreWide, wide_bytes, char_long}
use Rattle.song_query.proofs.Nested.{nested, wide_behind}

-- the text up to the offset leads to the state, and on the way not too many parentheses are open
pub record Reached (text : List ℕ) (place : ℕ) (s : State) : Type 0 where
  pub within : place ≤ length text
  pub ran : run start (take place text) ≡ Some s
  pub shallow : IsShallow text place

pub at_start : (text : List ℕ) → Reached text 0 start
at_start text = record { within = omega arith; ran = refl; shallow = λ n h. (let e : n ≡ 0 = omega arith in rw e (omega arith)) }

-- the offset is inside the text if something is left
left_within : (text bytes rest : List ℕ) (place : ℕ) → drop place text ≡ bytes ++ rest → place ≤ length text → place + length bytes ≤ length text
left_within text bytes rest place e h =
    let l : length (drop place text) ≡ length (bytes ++ rest) = ap length e in
    omega (arith, length-drop place text, length-append bytes rest)

-- the state after a part of the bytes left
ran_on : (text bytes rest : List ℕ) (place : ℕ) (s : State) (t : Option State) → drop place text ≡ bytes ++ rest → run start (take place text) ≡ Some s → run s bytes ≡ t
    → run start (take (place + length bytes) text) ≡ t
ran_on text bytes rest place s t e h k =
    let parts : take (place + length bytes) text ≡ take place text ++ bytes =
    take-add place (length bytes) text ∙ ap (λ x. take place text ++ x) (ap (take (length bytes)) e ∙ take-append_seam bytes rest) in
    ap (run start) parts ∙ run_append start (take place text) bytes ∙ ap (λ o. bind o (λ x. run x bytes)) h ∙ k

-- the first byte of a character that is left
first_left : (c : List ℕ) (rest : List ℕ) → 0 < length c → (more : List ℕ) × (c ++ rest ≡ (get_or c 0 0 ∷ []) ++ more)
first_left [] rest h = absurd (omega arith)
first_left (b ∷ c) rest h = (c ++ rest, refl)

bind_some : (o : Option State) → bind o (λ t. Some t) ≡ o
bind_some None = refl
bind_some (Some t) = refl

-- one byte more
byte_ran : (text rest : List ℕ) (place c : ℕ) (s : State) (t : Option State) → drop place text ≡ c ∷ rest → run start (take place text) ≡ Some s
    → go s c ≡ t → run start (take (place + 1) text) ≡ t
byte_ran text rest place c s t e h k = ran_on text (c ∷ []) rest place s t e h (bind_some (go s c) ∙ k)

wide_each : (b : ℕ) (bytes : List ℕ) → 128 ≤ b → AreWide bytes → (i : ℕ) → i < length (b ∷ bytes) → 128 ≤ get_or (b ∷ bytes) i 0
wide_each b bytes h k zero x = h
wide_each b bytes h k (suc i) x = k.each i (omega arith)

wide_more : (b : ℕ) (bytes : List ℕ) → 128 ≤ b → AreWide bytes → AreWide (b ∷ bytes)
wide_more b bytes h k = record { each = λ i x. wide_each b bytes h k i x }

wide_take : (k : ℕ) (bytes : List ℕ) → AreWide bytes → AreWide (take k bytes)
wide_take zero bytes h = record { each = λ i x. absurd (omega arith) }
wide_take (suc k) [] h = record { each = λ i x. absurd (omega arith) }
wide_take (suc k) (b ∷ bytes) h =
    wide_more b (take k bytes) (h.each 0 (omega arith)) (wide_take k bytes (record { each = λ i x. h.each (suc i) (omega arith) }))

-- a character above ASCII opens nothing
shallow_in : (text rest bytes : List ℕ) (place n : ℕ) → drop place text ≡ bytes ++ rest → AreWide bytes → place ≤ n → n ≤ place + length bytes
    → open_at_end (take n text) ≡ open_at_end (take place text)
shallow_in text rest bytes place n e w h k =
    let more = n - place in
    let at : n ≡ place + more = omega arith in
    let short : more ≤ length bytes = omega arith in
    let parts : take n text ≡ take place text ++ take more bytes =
    ap (λ x. take x text) at ∙ take-add place more text ∙ ap (λ x. take place text ++ x) (ap (take more) e ∙ take-append-le more bytes rest short) in
    ap open_at_end parts ∙ wide_behind (take place text) (take more bytes) (wide_take more bytes w)

shallow_on : (text rest : List ℕ) (place c n : ℕ) (t : State) → drop place text ≡ encode_utf8 c ++ rest → IsShallow text place
    → run start (take (place + length (encode_utf8 c)) text) ≡ Some t → length t.outer ≤ open_parentheses → n ≤ place + length (encode_utf8 c) → open_at_end (take n text) ≤ open_parentheses
shallow_on text rest place c n t e s r d h =
    ⊎_elim
    (λ (before : n < place + 1). s n (omega arith))
    (λ (behind : place + 1 ≤ n).
    ⊎_elim
    (λ (low : c < 128).
    let one : length (encode_utf8 c) ≡ 1 = ap length (encode_ascii c low) in
    let last : n ≡ place + length (encode_utf8 c) = omega arith in
    let count : open_at_end (take n text) ≡ length t.outer = ap (λ x. open_at_end (take x text)) last ∙ nested (take (place + length (encode_utf8 c)) text) t r in
    omega arith)
    (λ (high : 128 ≤ c).
    let before : open_at_end (take place text) ≤ open_parentheses = s place (omega arith) in
    let same : open_at_end (take n text) ≡ open_at_end (take place text) = shallow_in text rest (encode_utf8 c) place n e (wide_bytes c high) (omega arith) h in
    omega arith)
    (cases_lt c 128))
    (cases_lt n (place + 1))

-- one offset more
shallow_more : (text : List ℕ) (place n : ℕ) → IsShallow text place → open_at_end (take (place + 1) text) ≤ open_parentheses → n ≤ place + 1
    → open_at_end (take n text) ≤ open_parentheses
shallow_more text place n s last h = elim (cases_lt place n) [
  | inl over ↦ (let at : place + 1 ≡ n = omega arith in subst (λ m. open_at_end (take m text) ≤ open_parentheses) at last)
  | inr within ↦ s n within
]

-- one character more
pub char_reached : (text rest : List ℕ) (place c : ℕ) (s t : State) → Reached text place s → drop place text ≡ encode_utf8 c ++ rest → run s (encode_utf8 c) ≡ Some t → length t.outer ≤ open_parentheses
    → Reached text (place + length (encode_utf8 c)) t
char_reached text rest place c s t h e r d =
    let ran : run start (take (place + length (encode_utf8 c)) text) ≡ Some t = ran_on text (encode_utf8 c) rest place s (Some t) e h.ran r in
    record {
      within = left_within text (encode_utf8 c) rest place e h.within;
      ran = ran;
      shallow = λ n x. shallow_on text rest place c n t e h.shallow ran d x;
    }

-- a byte more, after which not too many parentheses are open
pub byte_reached : (text rest : List ℕ) (place c : ℕ) (s t : State) → Reached text place s → drop place text ≡ c ∷ rest → go s c ≡ Some t → length t.outer ≤ open_parentheses
    → Reached text (place + 1) t
byte_reached text rest place c s t h e r d =
    let ran : run start (take (place + 1) text) ≡ Some t = byte_ran text rest place c s (Some t) e h.ran r in
    let count : open_at_end (take (place + 1) text) ≡ length t.outer = nested (take (place + 1) text) t ran in
    record {
      within = left_within text (c ∷ []) rest place e h.within;
      ran = ran;
      shallow = λ n x. shallow_more text place n h.shallow (omega arith) x;
    }

-- a byte with which no query continues
pub byte_stops : (text rest : List ℕ) (place c : ℕ) (s : State) → Reached text place s → drop place text ≡ c ∷ rest → go s c ≡ None
    → length text ≤ query_bytes → Answers text (Err (At place Byte))
byte_stops text rest place c s h e r l =
    let long = left_within text (c ∷ []) rest place e h.within in
    let inside : place < length text = omega arith in
    let apart : place ≢ length text = omega arith in
    (l, stuck_at text place s inside h.ran (byte_ran text rest place c s None e h.ran r), apart, h.shallow)

-- a parenthesis too many
pub byte_too_deep : (text rest : List ℕ) (place c : ℕ) (s t : State) → Reached text place s → drop place text ≡ c ∷ rest → go s c ≡ Some t
    → open_parentheses < length t.outer → length text ≤ query_bytes → Answers text (Err (TooDeep place))
byte_too_deep text rest place c s t h e r d l =
    let long = left_within text (c ∷ []) rest place e h.within in
    let ran : run start (take (place + 1) text) ≡ Some t = byte_ran text rest place c s (Some t) e h.ran r in
    let count = nested (take (place + 1) text) t ran in
    (l, record { within = omega arith; begins = begins (take (place + 1) text) t ran; deep = omega arith; first = h.shallow })

-- the end of the text
at_end : (text : List ℕ) (place : ℕ) → place ≤ length text → length text ≤ place → place ≡ length text
at_end text place h k = omega arith

pub end_answer : (text : List ℕ) (place : ℕ) (s : State) → Reached text place s → length text ≤ place → is_end s ≡ false → length text ≤ query_bytes
    → Answers text (Err (At place End))
end_answer text place s h k e l =
    let whole : run start text ≡ Some s = ap (run start) (sym (take_all place text k)) ∙ h.ran in
    let last : place ≡ length text = omega (arith, h.within) in
    (l, subst (IsStuck text) (sym last) (stuck_end text s whole), (last, not_over text s whole e), h.shallow)

pub ok_answer : (text : List ℕ) (place : ℕ) (s : State) (q : Query) → Reached text place s → length text ≤ place → is_end s ≡ true → tree_of q ≡ level_query s.level → length text ≤ query_bytes
    → Answers text (Ok q)
ok_answer text place s q h k e m l =
    let whole : run start text ≡ Some s = ap (run start) (sym (take_all place text k)) ∙ h.ran in
    let last : place ≡ length text = omega (arith, h.within) in
    (l, subst (QueryReads text) (sym m) (accepted text s whole e), subst (IsShallow text) last h.shallow)

-- the whole text was read if nothing is left
pub whole_ran : (text : List ℕ) (place : ℕ) (s : State) → Reached text place s → length text ≤ place
    → (run start text ≡ Some s) × IsShallow text (length text)
whole_ran text place s h k =
    let last : place ≡ length text = omega (arith, h.within) in
    (ap (run start) (sym (take_all place text k)) ∙ h.ran, subst (IsShallow text) last h.shallow)

-- a whole text was read up to its end
pub whole_reached : (text : List ℕ) (place : ℕ) (s : State) → length text ≡ place → run start text ≡ Some s → IsShallow text (length text)
    → Reached text place s
whole_reached text place s end ran shallow =
    let past : length text ≤ place = omega arith in
    record { within = omega arith; ran = ap (run start) (take_all place text past) ∙ ran; shallow = subst (IsShallow text) end shallow }

-- the error of a refused character, by its first byte
pub refusal_answer : (text rest : List ℕ) (place c : ℕ) (s t : State) (refusal : Refusal) → Reached text place s → drop place text ≡ encode_utf8 c ++ rest → Taken s c t (Err refusal)
    → length text ≤ query_bytes → Answers text (Err (refused_at place refusal))
refusal_answer text rest place c s t ByteRefused h e r l =
    let first = first_left (encode_utf8 c) rest (char_long c) in
    byte_stops text first.0 place (get_or (encode_utf8 c) 0 0) s h (e ∙ first.1) r l
refusal_answer text rest place c s t Deep h e r l =
    let first = first_left (encode_utf8 c) rest (char_long c) in
    byte_too_deep text first.0 place (get_or (encode_utf8 c) 0 0) s r.0 h (e ∙ first.1) r.1 r.2 l
refusal_answer text rest place c s t Memory h e r l = tt
