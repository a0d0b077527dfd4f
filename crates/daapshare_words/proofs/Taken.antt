-- From the result of a call of clap to the rows of a grammar.
use Rattle.std.proofs.Common.{◌≡◌, ◌≢◌, List, [], ◌∷◌, Some, None, Result, Ok, Err, IsErrAnd, MatchResult, inl, inr, refl, ap, sym, ◌∙◌, true, subst}
use Rattle.clap.specs.Kinds.{Kinds, HasKind, IsAmong}
use Rattle.clap.specs.Words.{App, Row, Text, fault_of, is_simple, is_simple_and_free, kind_of, matches_of}
use Rattle.clap.specs.declared.error.Error.{Error}
use Rattle.clap.specs.declared.error.kind.ErrorKind.{ErrorKind}
use Rattle.clap.specs.declared.error.kind.ErrorKind.TheVariants.{OutOfMemory}
use Rattle.daapshare_words.specs.Grammar.{Grammar, app_for, rows_for, unless_faulty}
use Rattle.daapshare_words.proofs.Plain.{is_plain, has_rows}

-- without an error there are rows
faultless : (kinds : Kinds) (rows : List Row) → kinds ≡ [] → unless_faulty kinds rows ≡ Some rows
faultless [] rows none = refl
faultless (kind ∷ kinds) rows none = absurd (cc)

-- with an error there are none
faulty : (kinds : Kinds) (kind : ErrorKind) (rows : List Row) → IsAmong kind kinds → unless_faulty kinds rows ≡ None
faulty [] kind rows among = absurd among
faulty (first ∷ kinds) kind rows among = refl

taken_for : (g : Grammar) (words : List Text) (rows : List Row) → fault_of (app_for g) words ≡ [] → rows ≡ matches_of (app_for g) words
    → rows_for g words ≡ Some rows
unfolding rows_for
taken_for g words rows none matched =
    faultless (fault_of (app_for g) words) (matches_of (app_for g) words) none ∙ ap (λ (r : List Row). Some r) (sym matched)

refused_for : (g : Grammar) (words : List Text) (error : Error) → HasKind (fault_of (app_for g) words) error → kind_of error ≢ OutOfMemory
    → rows_for g words ≡ None
unfolding rows_for
refused_for g words error (inl short) other = absurd (other short)
refused_for g words error (inr among) other = faulty (fault_of (app_for g) words) (kind_of error) (matches_of (app_for g) words) among

-- a call of clap that succeeds has the rows of the grammar
pub taken : (g : Grammar) (app : App) (words : List Text) (rows : List Row) → app ≡ app_for g
    → (is_simple_and_free app ≡ true → fault_of app words ≡ [])
    → (is_simple app ≡ true → rows ≡ matches_of app words)
    → rows_for g words ≡ Some rows
taken g app words rows is_app passes matched = taken_for g words rows
    (let P : App → Type 0 = λ a. is_simple_and_free a ≡ true → fault_of a words ≡ [] in subst P is_app passes (is_plain g))
    (let P : App → Type 0 = λ a. is_simple a ≡ true → rows ≡ matches_of a words in subst P is_app matched (has_rows g))

-- a call of clap that fails, except for out of memory, has none
pub refused : (g : Grammar) (app : App) (words : List Text) (error : Error) → app ≡ app_for g
    → (is_simple_and_free app ≡ true → HasKind (fault_of app words) error)
    → kind_of error ≢ OutOfMemory
    → rows_for g words ≡ None
refused g app words error is_app fails other = refused_for g words error
    (let P : App → Type 0 = λ a. is_simple_and_free a ≡ true → HasKind (fault_of a words) error in subst P is_app fails (is_plain g)) other

-- what the exit of a `?` returns
pub at_error : {T E : Type 0} (r : Result T E) (P : T → Type 0) (Q R : E → Type 0) → IsErrAnd r Q → ((e : E) → Q e → R e) → MatchResult r P R
at_error (Ok x) P Q R failed follows = absurd failed
at_error (Err e) P Q R failed follows = follows e failed
