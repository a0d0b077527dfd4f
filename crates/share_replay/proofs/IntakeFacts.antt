-- What is known of what came over a connection, as it is read on.
use Rattle.std.proofs.Common.{◌≡◌, ◌≢◌, ◌+◌, ◌-◌, ◌≤◌, ◌<◌, ℕ, List, [], ◌∷◌, ◌++◌, length, take, drop, true, Option, Some, None, is_some, IfSome, option_to_list, slice_get, refl, sym, ap, ◌∙◌, subst, append-nil, length-drop, length-append, take-append-drop, take_all, take-add, arith, inl, inr}
use Rattle.std.proofs.lemmas.Bool.{cases_lt}
use Rattle.std.proofs.lemmas.List.{take-append-le}
use Rattle.http_heads.specs.declared.refusal.HeadError.{HeadError}
use Rattle.http_heads.specs.declared.refusal.HeadError.TheVariants.{Memory}
use Rattle.http_front.specs.Readers.{Reader, HasRead}
use Rattle.http_front.specs.Readings.{IsReading, Reading, reading}
use Rattle.http_front.proofs.Decided.{reading_of, reading_is}
use Rattle.http_front.proofs.ReadingLaws.{handed_are_first, one_reading, reads_all, reads_refused, refusal_stays}
use Rattle.share_asks.specs.Valid.{IsValidWant}
use Rattle.share_asks.specs.declared.ask.Ask.{Ask}
use Rattle.share_replay.specs.Intakes.{HasTaken, HasPassed, IsReadOn, IsStuck, Stands}
use Rattle.share_replay.specs.declared.intake.Intake.{Intake}

no_more : (asks : List Ask) (next : Option Ask) → next ≡ None → asks ++ option_to_list next ≡ asks
no_more asks next is = ap (λ (o : Option Ask). asks ++ option_to_list o) is ∙ append-nil asks

is_none : {A : Type 0} (o : Option A) → is_some o ≡ true → o ≡ None → ⊥
is_none None some none = absurd (cc)
is_none (Some x) some none = absurd (cc)

-- nothing came yet
pub begins : (i : Intake) → i.bytes.items ≡ [] → i.fed ≡ 0 → i.next ≡ None → i.fault ≡ None → HasRead [] [] i.reader → i.reader.ready ≡ None → i.reader.error ≡ None
    → IsReadOn [] i
begins i none fed next fault read ready error = record {
  passed = record {
    taken = λ _. record {
      within = omega (arith, fed);
      read =
          subst (λ (asks : List Ask). HasRead (take i.fed i.bytes.items) asks i.reader) (sym (ap option_to_list next))
          (subst (λ (n : ℕ). HasRead (take n i.bytes.items) [] i.reader) (sym fed) read);
      ready = ready;
      error = error;
    };
    stuck = λ e is. absurd (cc);
    valid = subst (λ (o : Option Ask). IfSome o (λ ask. IsValidWant ask.want)) (sym next) tt;
  };
  all = λ _ _. fed ∙ sym (ap length none);
}

-- what comes next is known
pub read_before : (asks : List Ask) (i : Intake) → is_some i.next ≡ true → HasPassed asks i → IsReadOn asks i
read_before asks i some passed = record { passed = passed; all = λ none _. absurd (is_none i.next some none) }

pub refused_before : (asks : List Ask) (i : Intake) → is_some i.fault ≡ true → HasPassed asks i → IsReadOn asks i
refused_before asks i some passed = record { passed = passed; all = λ _ none. absurd (is_none i.fault some none) }

fed_all : (n all : ℕ) (ready : Option Ask) → n ≤ all → (n < all → ready ≢ None) → ready ≡ None → n ≡ all
fed_all n all ready within goes none = elim (cases_lt n all) [
  | inl less ↦ absurd (goes less none)
  | inr more ↦ omega arith
]

-- the reader took more bytes, and returned the next request
pub read_more : (asks : List Ask) (i j : Intake) (r : Reader) (unread : List ℕ) (n : ℕ)
    → i.next ≡ None → i.fault ≡ None → unread ≡ drop i.fed i.bytes.items
    → r.error ≡ None → n ≤ length unread → (n < length unread → r.ready ≢ None)
    → ((fed : List ℕ) (handed : List Ask) → HasRead fed handed i.reader → HasRead (fed ++ take n unread) handed r)
    → j.next ≡ r.ready → j.reader ≡ record r { ready = None }
    → ((fed : List ℕ) (handed : List Ask) → HasRead fed handed r → HasRead fed (handed ++ option_to_list j.next) j.reader)
    → IfSome j.next (λ ask. IsValidWant ask.want)
    → j.bytes.items ≡ i.bytes.items → j.fed ≡ i.fed + n → j.fault ≡ None
    → HasPassed asks i → IsReadOn asks j
read_more asks i j r unread n next fault left error within goes feeds handed reader hands valid bytes fed fine passed =
    let taken : HasTaken (asks ++ option_to_list i.next) i = passed.taken fault in
    let before : HasRead (take i.fed i.bytes.items) asks i.reader =
    subst (λ (xs : List Ask). HasRead (take i.fed i.bytes.items) xs i.reader) (no_more asks i.next next) taken.read in
    let after : HasRead (take i.fed i.bytes.items ++ take n unread) (asks ++ option_to_list j.next) j.reader =
    hands (take i.fed i.bytes.items ++ take n unread) asks (feeds (take i.fed i.bytes.items) asks before) in
    let joined : take i.fed i.bytes.items ++ take n unread ≡ take j.fed j.bytes.items =
    ap (λ (l : List ℕ). take i.fed i.bytes.items ++ take n l) left ∙ sym (take-add i.fed n i.bytes.items)
    ∙ ap (λ (m : ℕ). take m i.bytes.items) (sym fed) ∙ ap (λ (l : List ℕ). take j.fed l) (sym bytes) in
    let len : length unread ≡ length i.bytes.items - i.fed = ap length left ∙ length-drop i.fed i.bytes.items in
    let same : length j.bytes.items ≡ length i.bytes.items = ap length bytes in
    record {
      passed = record {
        taken = λ _. record {
          within = omega (arith, within, len, fed, same, taken.within);
          read = subst (λ (l : List ℕ). HasRead l (asks ++ option_to_list j.next) j.reader) joined after;
          ready = ap (λ (x : Reader). x.ready) reader;
          error = ap (λ (x : Reader). x.error) reader ∙ error;
        };
        stuck = λ e is. absurd (cc);
        valid = valid;
      };
      all = λ none _.
          let whole : n ≡ length unread = fed_all n (length unread) r.ready within goes (sym handed ∙ none) in
          omega (arith, whole, len, fed, same, taken.within);
    }

-- the reader refused what came
pub read_refused : (asks : List Ask) (i j : Intake) (unread : List ℕ) (e : HeadError)
    → i.next ≡ None → i.fault ≡ None → unread ≡ drop i.fed i.bytes.items
    → j.reader.error ≡ Some e → e ≢ Memory
    → ((fed : List ℕ) (handed : List Ask) → HasRead fed handed i.reader → HasRead (fed ++ unread) handed j.reader)
    → j.bytes.items ≡ i.bytes.items → j.next ≡ None → j.fault ≡ Some e
    → HasPassed asks i → IsReadOn asks j
read_refused asks i j unread e next fault left error other feeds bytes none is passed =
    let taken : HasTaken (asks ++ option_to_list i.next) i = passed.taken fault in
    let before : HasRead (take i.fed i.bytes.items) asks i.reader =
    subst (λ (xs : List Ask). HasRead (take i.fed i.bytes.items) xs i.reader) (no_more asks i.next next) taken.read in
    let joined : take i.fed i.bytes.items ++ unread ≡ j.bytes.items =
    ap (λ (l : List ℕ). take i.fed i.bytes.items ++ l) left ∙ take-append-drop i.fed i.bytes.items ∙ sym bytes in
    let after : HasRead j.bytes.items asks j.reader =
    subst (λ (l : List ℕ). HasRead l asks j.reader) joined (feeds (take i.fed i.bytes.items) asks before) in
    let refused = reads_refused j.bytes.items asks j.reader e after error other in
    record {
      passed = record {
        taken = λ fine. absurd (cc);
        stuck = λ f told.
            let same : e ≡ f = cc in
            subst (λ (x : HeadError). IsStuck (asks ++ option_to_list j.next) x j) same (record {
              fault = other;
              rest = refused.0;
              read =
                  subst (λ (xs : List Ask). IsReading j.reader.role j.bytes.items (reading xs refused.0 (Some e))) (sym (no_more asks j.next none)) refused.1;
            });
        valid = subst (λ (o : Option Ask). IfSome o (λ ask. IsValidWant ask.want)) (sym none) tt;
      };
      all = λ _ fine. absurd (cc);
    }

-- further bytes came
pub came_more : (asks : List Ask) (i j : Intake) (more : List ℕ) → j.reader ≡ i.reader → j.fed ≡ i.fed → j.next ≡ i.next → j.fault ≡ i.fault
    → j.bytes.items ≡ i.bytes.items ++ more → HasPassed asks i → HasPassed asks j
came_more asks i j more reader fed next fault bytes passed = record {
  taken = λ fine.
      let taken : HasTaken (asks ++ option_to_list i.next) i = passed.taken (sym fault ∙ fine) in
      let front : take i.fed i.bytes.items ≡ take j.fed j.bytes.items =
      sym (ap (λ (n : ℕ). take n j.bytes.items) fed ∙ ap (λ (l : List ℕ). take i.fed l) bytes ∙ take-append-le i.fed i.bytes.items more taken.within) in
      let len : length j.bytes.items ≡ length i.bytes.items + length more = ap length bytes ∙ length-append i.bytes.items more in
      record {
        within = omega (arith, fed, len, taken.within);
        read =
            subst (λ (r : Reader). HasRead (take j.fed j.bytes.items) (asks ++ option_to_list j.next) r) (sym reader)
            (subst (λ (o : Option Ask). HasRead (take j.fed j.bytes.items) (asks ++ option_to_list o) i.reader) (sym next)
            (subst (λ (l : List ℕ). HasRead l (asks ++ option_to_list i.next) i.reader) front taken.read));
        ready = ap (λ (r : Reader). r.ready) reader ∙ taken.ready;
        error = ap (λ (r : Reader). r.error) reader ∙ taken.error;
      };
  stuck = λ e is.
      let stuck : IsStuck (asks ++ option_to_list i.next) e i = passed.stuck e (sym fault ∙ is) in
      record {
        fault = stuck.fault;
        rest = stuck.rest ++ more;
        read =
            subst (λ (r : Reader). IsReading r.role j.bytes.items (reading (asks ++ option_to_list j.next) (stuck.rest ++ more) (Some e))) (sym reader)
            (subst (λ (o : Option Ask). IsReading i.reader.role j.bytes.items (reading (asks ++ option_to_list o) (stuck.rest ++ more) (Some e))) (sym next)
            (subst (λ (l : List ℕ). IsReading i.reader.role l (reading (asks ++ option_to_list i.next) (stuck.rest ++ more) (Some e))) (sym bytes)
            (refusal_stays i.reader.role i.bytes.items more (reading (asks ++ option_to_list i.next) stuck.rest (Some e)) e stuck.read refl)));
      };
  valid = subst (λ (o : Option Ask). IfSome o (λ ask. IsValidWant ask.want)) (sym next) passed.valid;
}

-- the next request was answered
pub passed_next : (asks : List Ask) (ask : Ask) (i j : Intake) → i.next ≡ Some ask → j.reader ≡ i.reader → j.fed ≡ i.fed → j.next ≡ None → j.fault ≡ i.fault
    → j.bytes.items ≡ i.bytes.items → IsReadOn asks i → HasPassed (asks ++ ask ∷ []) j
passed_next asks ask i j is reader fed none fault bytes read =
    let same : asks ++ option_to_list i.next ≡ (asks ++ ask ∷ []) ++ option_to_list j.next =
    ap (λ (o : Option Ask). asks ++ option_to_list o) is ∙ sym (no_more (asks ++ ask ∷ []) j.next none) in
    record {
      taken = λ fine.
          let taken : HasTaken (asks ++ option_to_list i.next) i = read.passed.taken (sym fault ∙ fine) in
          let len : length j.bytes.items ≡ length i.bytes.items = ap length bytes in
          record {
            within = omega (arith, fed, len, taken.within);
            read =
                subst (λ (xs : List Ask). HasRead (take j.fed j.bytes.items) xs j.reader) same
                (subst (λ (r : Reader). HasRead (take j.fed j.bytes.items) (asks ++ option_to_list i.next) r) (sym reader)
                (subst (λ (l : List ℕ). HasRead (take j.fed l) (asks ++ option_to_list i.next) i.reader) (sym bytes)
                (subst (λ (n : ℕ). HasRead (take n i.bytes.items) (asks ++ option_to_list i.next) i.reader) (sym fed) taken.read)));
            ready = ap (λ (r : Reader). r.ready) reader ∙ taken.ready;
            error = ap (λ (r : Reader). r.error) reader ∙ taken.error;
          };
      stuck = λ e told.
          let stuck : IsStuck (asks ++ option_to_list i.next) e i = read.passed.stuck e (sym fault ∙ told) in
          record {
            fault = stuck.fault;
            rest = stuck.rest;
            read =
                subst (λ (xs : List Ask). IsReading j.reader.role j.bytes.items (reading xs stuck.rest (Some e))) same
                (subst (λ (r : Reader). IsReading r.role j.bytes.items (reading (asks ++ option_to_list i.next) stuck.rest (Some e))) (sym reader)
                (subst (λ (l : List ℕ). IsReading i.reader.role l (reading (asks ++ option_to_list i.next) stuck.rest (Some e))) (sym bytes) stuck.read));
          };
      valid = subst (λ (o : Option Ask). IfSome o (λ ask. IsValidWant ask.want)) (sym none) tt;
    }

-- ---- what all that came reads as

slice_end : (asks : List Ask) (o : Option Ask) → slice_get (asks ++ option_to_list o) (length asks) ≡ o
slice_end [] None = refl
slice_end [] (Some a) = refl
slice_end (x ∷ asks) o = slice_end asks o

slice_more : (asks : List Ask) (a : Ask) (others : List Ask) → slice_get ((asks ++ a ∷ []) ++ others) (length asks) ≡ Some a
slice_more [] a others = refl
slice_more (x ∷ asks) a others = slice_more asks a others

-- what is known of a reading
pub record Knows (i : Intake) (served : ℕ) (q : Reading) : Type 0 where
  pub next : slice_get q.asks served ≡ i.next
  pub fault : i.next ≡ None → q.fault ≡ i.fault
  pub rest : i.next ≡ None → i.fault ≡ None → q.rest ≡ i.reader.kept

knows_reading : (i : Intake) (served : ℕ) → Stands i served → (q : Reading) → IsReading i.reader.role i.bytes.items q → Knows i served q
knows_reading i served s q is = by_parts i.next i.fault refl refl
  where
    same : (r : Reading) → IsReading i.reader.role i.bytes.items r → q ≡ r
    same r h = one_reading i.reader.role i.bytes.items q r is h

    stuck_so : (e : HeadError) → i.fault ≡ Some e → Knows i served q
    stuck_so e told =
        let stuck : IsStuck (s.asks ++ option_to_list i.next) e i = s.read.passed.stuck e told in
        let equal : q ≡ reading (s.asks ++ option_to_list i.next) stuck.rest (Some e) = same (reading (s.asks ++ option_to_list i.next) stuck.rest (Some e)) stuck.read in
        record {
          next =
              ap (λ (r : Reading). slice_get r.asks served) equal ∙ ap (λ (n : ℕ). slice_get (s.asks ++ option_to_list i.next) n) (sym s.count)
              ∙ slice_end s.asks i.next;
          fault = λ _. ap (λ (r : Reading). r.fault) equal ∙ sym told;
          rest = λ _ fine. absurd (cc);
        }

    idle_so : i.next ≡ None → i.fault ≡ None → Knows i served q
    idle_so none fine =
        let taken : HasTaken (s.asks ++ option_to_list i.next) i = s.read.passed.taken fine in
        let whole : take i.fed i.bytes.items ≡ i.bytes.items = take_all i.fed i.bytes.items (omega (arith, s.read.all none fine)) in
        let read : HasRead i.bytes.items s.asks i.reader =
        subst (λ (xs : List Ask). HasRead i.bytes.items xs i.reader) (no_more s.asks i.next none)
        (subst (λ (l : List ℕ). HasRead l (s.asks ++ option_to_list i.next) i.reader) whole taken.read) in
        let equal : q ≡ reading s.asks i.reader.kept None =
        same (reading s.asks i.reader.kept None) (reads_all i.bytes.items s.asks i.reader read taken.error taken.ready) in
        record {
          next =
              ap (λ (r : Reading). slice_get r.asks served) equal ∙ ap (λ (n : ℕ). slice_get s.asks n) (sym s.count)
              ∙ ap (λ (xs : List Ask). slice_get xs (length s.asks)) (sym (append-nil s.asks)) ∙ slice_end s.asks None ∙ sym none;
          fault = λ _. ap (λ (r : Reading). r.fault) equal ∙ sym fine;
          rest = λ _ _. ap (λ (r : Reading). r.rest) equal;
        }

    waits_so : (a : Ask) → i.next ≡ Some a → i.fault ≡ None → Knows i served q
    waits_so a told fine =
        let taken : HasTaken (s.asks ++ option_to_list i.next) i = s.read.passed.taken fine in
        let read : HasRead (take i.fed i.bytes.items) (s.asks ++ a ∷ []) i.reader =
        subst (λ (o : Option Ask). HasRead (take i.fed i.bytes.items) (s.asks ++ option_to_list o) i.reader) told taken.read in
        let all : IsReading i.reader.role (take i.fed i.bytes.items ++ drop i.fed i.bytes.items) q =
        subst (λ (l : List ℕ). IsReading i.reader.role l q) (sym (take-append-drop i.fed i.bytes.items)) is in
        let first = handed_are_first (take i.fed i.bytes.items) (drop i.fed i.bytes.items) (s.asks ++ a ∷ []) i.reader q read all in
        record {
          next =
              ap (λ (xs : List Ask). slice_get xs served) first.1 ∙ ap (λ (n : ℕ). slice_get ((s.asks ++ a ∷ []) ++ first.0) n) (sym s.count)
              ∙ slice_more s.asks a first.0 ∙ sym told;
          fault = λ none. absurd (cc);
          rest = λ none _. absurd (cc);
        }

    by_parts : (next : Option Ask) (fault : Option HeadError) → i.next ≡ next → i.fault ≡ fault → Knows i served q
    by_parts next (Some e) n f = stuck_so e f
    by_parts None None n f = idle_so n f
    by_parts (Some a) None n f = waits_so a n f

pub knows : (i : Intake) (served : ℕ) → Stands i served → Knows i served (reading_of i.reader.role i.bytes.items)
knows i served s = knows_reading i served s (reading_of i.reader.role i.bytes.items) (reading_is i.reader.role i.bytes.items)
