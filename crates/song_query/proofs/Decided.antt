-- Each text has a result: that of the machine run over its bytes.
use Rattle.std.proofs.Common.{◌≡◌, ◌≢◌, ◌≤◌, ◌+◌, ℕ, Bool, true, false, List, [], ◌∷◌, length, drop, Option, Some, None, Result, Ok, Err, refl, ap, sym, ◌∙◌, inl, inr, arith}
use Rattle.std.proofs.lemmas.Bool.{cases_lt}
use Rattle.std.proofs.lemmas.List.{length-drop, drop-drop}
use Rattle.item_model.specs.declared.query.Query.{Query}
use Rattle.item_model.specs.declared.refusal.QueryError.{QueryError}
use Rattle.item_model.specs.declared.refusal.QueryError.TheVariants.{TooLong, TooDeep, At, Memory}
use Rattle.item_model.specs.declared.refusal.QueryWhy.TheVariants.{End, Byte}
use Rattle.song_query.specs.Answers.{Answers}
use Rattle.song_query.specs.Limits.{query_bytes, open_parentheses}
use Rattle.song_query.specs.Machine.{State, start, go, is_end, level_query}
use Rattle.song_query.proofs.Queries.{query_of, query_back}
use Rattle.song_query.proofs.Reached.{Reached, at_start, byte_reached, byte_stops, byte_too_deep, end_answer, ok_answer}

-- a text has a result other than out of memory
abbrev pub HasAnswer : List ℕ → Type 0
HasAnswer text = (answer : Result Query QueryError) × (answer ≢ Err Memory) × Answers text answer

no_memory : (q : Query) → ◌≢◌ {A = Result Query QueryError} (Ok q) (Err Memory)
no_memory q e = cc

-- at the end of the text
at_end : (text : List ℕ) (place : ℕ) (s : State) (ends : Bool) → is_end s ≡ ends → Reached text place s → length text ≤ place → length text ≤ query_bytes → HasAnswer text
at_end text place s true e h k l =
    let q = query_of (level_query s.level) in
    (Ok q, no_memory q, ok_answer text place s q h k e (query_back (level_query s.level)) l)
at_end text place s false e h k l = (Err (At place End), (λ x. absurd (cc x)), end_answer text place s h k e l)

-- at a byte, if the rest has a result
at_byte : (text rest : List ℕ) (place c : ℕ) (s : State) (next : Option State) → go s c ≡ next → drop place text ≡ c ∷ rest → Reached text place s → length text ≤ query_bytes
    → ((t : State) → Reached text (place + 1) t → HasAnswer text) → HasAnswer text
at_byte text rest place c s None e left h l behind = (Err (At place Byte), (λ x. absurd (cc x)), byte_stops text rest place c s h left e l)
at_byte text rest place c s (Some t) e left h l behind = elim (cases_lt open_parentheses (length t.outer)) [
  | inl deep ↦ (Err (TooDeep place), (λ x. absurd (cc x)), byte_too_deep text rest place c s t h left e deep l)
  | inr few ↦ behind t (byte_reached text rest place c s t h left e few)
]

answer_from : (text rest : List ℕ) (place : ℕ) (s : State) → drop place text ≡ rest → Reached text place s → length text ≤ query_bytes → HasAnswer text
answer_from text [] place s left h l =
    let over : length (drop place text) ≡ 0 = ap length left in
    at_end text place s (is_end s) refl h (omega (arith, length-drop place text)) l
answer_from text (c ∷ rest) place s left h l =
    at_byte text rest place c s (go s c) refl left h l (λ t reached. answer_from text rest (place + 1) t (sym (drop-drop 1 place text) ∙ ap (drop 1) left) reached l)

-- each text is read or has an error
pub answer_for : (text : List ℕ) → HasAnswer text
answer_for text = elim (cases_lt query_bytes (length text)) [
  | inl long ↦ (Err TooLong, (λ x. absurd (cc x)), long)
  | inr within ↦ answer_from text text 0 start refl (at_start text) within
]
