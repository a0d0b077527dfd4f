-- The rows that a reader has reached are the first ones of the text.
use Rattle.std.proofs.Common.{◌≡◌, ◌≤◌, ◌+◌, ◌-◌, ◌==◌, ◌||◌, if◌then◌else◌, ◌∷◌, ◌++◌, ◌∙◌, [], ℕ, zero, suc, List, Bool, true, false, Some, None, refl, sym, ap, length, take, arith, inl, inr}
use Rattle.std.proofs.lemmas.Bool.{cases_Bool}
use Rattle.std.proofs.lemmas.List.{append-nil, take_all}
use Rattle.std.proofs.Math.Seq.{take-append_seam}
use Rattle.csv.specs.Machine.{Read, ends_at_end, fields_after, is_end, next_record, step}
use Rattle.csv.specs.Reading.{Reached, default_config, records_from, strip_bom}
use Rattle.csv.specs.declared.parser.Action.{Action}
use Rattle.csv.specs.declared.parser.Action.TheVariants as act
use Rattle.csv.specs.declared.parser.State.{State}
use Rattle.csv.specs.declared.parser.State.TheVariants as st
use Rattle.records_import.specs.Table.{table_of}

-- if a byte ends a record, in the state after it the end of the text ends no other one
abbrev EndsClean : State × Action → Type 0
EndsClean after = is_end after.1 ≡ true → ends_at_end after.0 ≡ false

-- a byte in a field, by its kind: a comma, an end of line, a carriage return
abbrev in_field_by : Bool → Bool → Bool → State × Action
in_field_by comma ends return =
    if comma then (st.StartField, act.EndField)
    else if ends then (if return then st.AfterCr else st.StartRecord, act.EndRecord)
    else (st.InField, act.Copy)

in_field_clean : (comma ends return : Bool) → EndsClean (in_field_by comma ends return)
in_field_clean true ends return h = cc
in_field_clean false true true h = refl
in_field_clean false true false h = refl
in_field_clean false false return h = cc

-- a byte at the start of a field, also by whether it is a quote
start_field_clean : (quote comma ends return : Bool) → EndsClean (if quote then (st.InQuoted, act.Skip) else in_field_by comma ends return)
start_field_clean true comma ends return h = cc
start_field_clean false comma ends return h = in_field_clean comma ends return h

-- a byte at the start of a record
start_record_clean : (line quote comma ends return : Bool)
    → EndsClean (if line then (st.StartRecord, act.Skip) else if quote then (st.InQuoted, act.Skip) else in_field_by comma ends return)
start_record_clean true quote comma ends return h = cc
start_record_clean false quote comma ends return h = start_field_clean quote comma ends return h

in_quoted_clean : (quote : Bool) → EndsClean (if quote then (st.AfterQuote, act.Skip) else (st.InQuoted, act.Copy))
in_quoted_clean true h = cc h
in_quoted_clean false h = cc h

after_quote_clean : (quote comma ends return : Bool) → EndsClean (if quote then (st.InQuoted, act.Copy) else in_field_by comma ends return)
after_quote_clean true comma ends return h = cc
after_quote_clean false comma ends return h = in_field_clean comma ends return h

in_comment_clean : (line : Bool) → EndsClean (if line then (st.StartRecord, act.Skip) else (st.InComment, act.Skip))
in_comment_clean true h = cc
in_comment_clean false h = cc

after_return_clean : (feed line quote comma ends return : Bool)
    → EndsClean (if feed then (st.StartRecord, act.Skip) else if line then (st.StartRecord, act.Skip) else if quote then (st.InQuoted, act.Skip) else in_field_by comma ends return)
after_return_clean true line quote comma ends return h = cc
after_return_clean false line quote comma ends return h = start_record_clean line quote comma ends return h

step_clean : (s : State) (c : ℕ) → EndsClean (step default_config s c)
step_clean st.StartRecord c = start_record_clean ((c == 13) || (c == 10)) (c == 34) (c == 44) ((c == 13) || (c == 10)) (c == 13)
step_clean st.StartField c = start_field_clean (c == 34) (c == 44) ((c == 13) || (c == 10)) (c == 13)
step_clean st.InField c = in_field_clean (c == 44) ((c == 13) || (c == 10)) (c == 13)
step_clean st.InQuoted c = in_quoted_clean (c == 34)
step_clean st.InEscape c = λ h. cc h
step_clean st.AfterQuote c = after_quote_clean (c == 34) (c == 44) ((c == 13) || (c == 10)) (c == 13)
step_clean st.InComment c = in_comment_clean (c == 10)
step_clean st.AfterCr c = after_return_clean (c == 10) ((c == 13) || (c == 10)) (c == 34) (c == 44) ((c == 13) || (c == 10)) (c == 13)

-- a record that was read ends cleanly, and shortens the rest
record_ends : (s : State) (fields : List (List ℕ)) (field xs : List ℕ) (p : Read) → next_record default_config s fields field xs ≡ Some p
    → (ends_at_end p.1 ≡ false) × (length p.2 ≤ length xs - 1)
unfolding next_record
record_ends s fields field [] p h = elim (cases_Bool (ends_at_end s)) [
  | inl open_ ↦
      let e : Some (fields ++ (field ∷ []), st.StartRecord, []) ≡ Some p = rw open_ at h in
      let whole : (fields ++ (field ∷ []), st.StartRecord, []) ≡ p = cc e in
      rw (← whole) (refl, omega arith)
  | inr closed ↦ absurd (cc (rw closed at h))
]
record_ends s fields field (c ∷ rest) p h = elim (cases_Bool (is_end (step default_config s c).1)) [
  | inl ends ↦
      let e : Some (fields_after (step default_config s c).1 fields field, (step default_config s c).0, rest) ≡ Some p = rw ends at h in
      let whole : (fields_after (step default_config s c).1 fields field, (step default_config s c).0, rest) ≡ p = cc e in
      rw (← whole) (step_clean s c ends, omega arith)
  | inr goes ↦
      let more = record_ends (step default_config s c).0 _ _ rest p (rw goes at h) in
      (more.0, omega (arith, more.1))
]

-- the records from a state are those that were reached, and then those from there
reached_first : (s s2 : State) (k : ℕ) (xs ys : List ℕ) (rows : List (List (List ℕ))) → Reached default_config s xs rows s2 ys
    → records_from default_config (length rows + k) s xs ≡ rows ++ records_from default_config k s2 ys
unfolding Reached records_from
reached_first s s2 k xs ys [] h = let n : 0 + k ≡ k = omega arith in rw (n, h.0, h.1) refl
reached_first s s2 k xs ys (r ∷ rs) h =
    let n : suc (length rs) + k ≡ suc (length rs + k) = omega arith in
    rw (n, h.1, h.2) (ap (λ (t : List (List (List ℕ))). h.0.0 ∷ t) (reached_first h.0.1 s2 k h.0.2 ys rs h.3))

-- a record that starts cleanly reads at least one byte
record_takes : (s : State) (xs : List ℕ) (p : Read) → ends_at_end s ≡ false → next_record default_config s [] [] xs ≡ Some p
    → length p.2 + 1 ≤ length xs
unfolding next_record
record_takes s [] p clean h = absurd (cc (rw clean at h))
record_takes s (c ∷ rest) p clean h = omega (arith, (record_ends s [] [] (c ∷ rest) p h).1)

-- so a text has no more records than bytes
rows_bound : (s s2 : State) (xs ys : List ℕ) (rows : List (List (List ℕ))) → ends_at_end s ≡ false → Reached default_config s xs rows s2 ys
    → length rows ≤ length xs
unfolding Reached
rows_bound s s2 xs ys [] clean h = omega arith
rows_bound s s2 xs ys (r ∷ rs) clean h =
    omega (arith, record_takes s xs h.0 clean h.1, rows_bound h.0.1 s2 h.0.2 ys rs (record_ends s [] [] xs h.0 h.1).0 h.3)

-- if there is no next record, there are none
no_records : (s : State) (ys : List ℕ) (k : ℕ) → next_record default_config s [] [] ys ≡ None → records_from default_config k s ys ≡ []
unfolding records_from
no_records s ys zero h = refl
no_records s ys (suc k) h = rw h refl

-- a text's rows are those that were reached, and then others
rows_reached : (s2 : State) (text ys : List ℕ) (rows : List (List (List ℕ))) → Reached default_config st.StartRecord (strip_bom text) rows s2 ys
    → table_of text ≡ rows ++ records_from default_config (length (strip_bom text) + 1 - length rows) s2 ys
unfolding table_of
rows_reached s2 text ys rows h =
    let bound = rows_bound st.StartRecord s2 (strip_bom text) ys rows refl h in
    let fuel : length (strip_bom text) + 1 ≡ length rows + (length (strip_bom text) + 1 - length rows) = omega (arith, bound) in
    ap (λ (n : ℕ). records_from default_config n st.StartRecord (strip_bom text)) fuel
    ∙ reached_first st.StartRecord s2 (length (strip_bom text) + 1 - length rows) (strip_bom text) ys rows h

-- the rows that were reached are the first ones
pub first_rows : (s2 : State) (text ys : List ℕ) (rows : List (List (List ℕ))) (most : ℕ) → length rows ≡ most
    → Reached default_config st.StartRecord (strip_bom text) rows s2 ys → rows ≡ take most (table_of text)
first_rows s2 text ys rows most count h =
    rw (← count, rows_reached s2 text ys rows h) (sym (take-append_seam rows (records_from default_config (length (strip_bom text) + 1 - length rows) s2 ys)))

-- and all of them if there is no next one
pub all_rows : (s2 : State) (text ys : List ℕ) (rows : List (List (List ℕ))) → Reached default_config st.StartRecord (strip_bom text) rows s2 ys
    → next_record default_config s2 [] [] ys ≡ None → rows ≡ table_of text
all_rows s2 text ys rows h none =
    sym (rows_reached s2 text ys rows h ∙ rw (no_records s2 ys (length (strip_bom text) + 1 - length rows) none) (append-nil rows))

-- the same if no more were requested
pub few_rows : (s2 : State) (text ys : List ℕ) (rows : List (List (List ℕ))) (most : ℕ) → length rows ≤ most
    → Reached default_config st.StartRecord (strip_bom text) rows s2 ys → next_record default_config s2 [] [] ys ≡ None → rows ≡ take most (table_of text)
few_rows s2 text ys rows most few h none = rw (← all_rows s2 text ys rows h none) (sym (take_all most rows few))
