-- A text has one result: the query that it reads as, or one error. Out of memory is not considered here.
use Rattle.std.proofs.Common.{◌≡◌, ◌≢◌, ◌≤◌, ◌<◌, ◌+◌, ℕ, List, [], length, take, Result, Ok, Err, refl, sym, ap, ◌∙◌, subst, ⊎_elim, arith, append-nil}
use Rattle.std.proofs.Math.Seq.{take-length}
use Rattle.std.proofs.lemmas.Bool.{cases_lt}
use Rattle.item_model.specs.QuerySeen.{tree_of}
use Rattle.item_model.specs.QueryTree.{QueryTree}
use Rattle.item_model.specs.declared.query.Query.{Query}
use Rattle.item_model.specs.declared.refusal.QueryError.{QueryError}
use Rattle.item_model.specs.declared.refusal.QueryError.TheVariants.{TooLong, TooDeep, At, Memory}
use Rattle.item_model.specs.declared.refusal.QueryWhy.{QueryWhy}
use Rattle.item_model.specs.declared.refusal.QueryWhy.TheVariants.{End, Byte}
use Rattle.song_query.specs.Reading.{QueryReads, Begins, IsStuck}
use Rattle.song_query.specs.Nesting.{open_at_end}
use Rattle.song_query.specs.Answers.{IsShallow, IsTooDeep, IsRefusedAt, Answers}
use Rattle.song_query.specs.Limits.{open_parentheses}
use Rattle.song_query.proofs.MachineLaws.{one_reading}
use Rattle.song_query.proofs.Queries.{one_query}

-- a text that reads is a beginning of a text that reads
pub whole_begins : (text : List ℕ) (query : QueryTree) → QueryReads text query → Begins (take (length text) text)
whole_begins text query h = record {
  more = [];
  query = query;
  reads = subst (λ (bytes : List ℕ). QueryReads bytes query) (sym (append-nil (take (length text) text) ∙ take-length text)) h;
}

-- after a parenthesis too many, no longer prefix is shallow
deep_is_behind : (text : List ℕ) (m n : ℕ) → IsTooDeep text m → IsShallow text n → n ≤ m
deep_is_behind text m n h k =
    ⊎_elim
    (λ (before : m < n).
    let few : open_at_end (take (m + 1) text) ≤ open_parentheses = k (m + 1) (omega arith) in
    let many : open_parentheses < open_at_end (take (m + 1) text) = h.deep in
    absurd (omega arith))
    (λ (behind : n ≤ m). behind)
    (cases_lt m n)

-- a text that reads has no error
pub answers_once : (text : List ℕ) (q : Query) (e : QueryError) → e ≢ Memory → Answers text (Ok q) → Answers text (Err e) → ⊥
answers_once text q TooLong other h k = omega (arith, h.0, k)
answers_once text q (TooDeep place) other h k = omega (arith, k.1.within, deep_is_behind text place (length text) k.1 h.2)
answers_once text q (At place End) other h k = k.2.1 (tree_of q) h.1
answers_once text q (At place Byte) other h k =
    k.2 (omega (arith, k.1.within, k.1.longest (length text) (omega arith) (whole_begins text (tree_of q) h.1)))
answers_once text q Memory other h k = other refl

-- a text is not stuck before the first parenthesis too many, nor shallow after it
deep_or_stuck : (text : List ℕ) (m n : ℕ) → IsTooDeep text m → IsStuck text n → IsShallow text n → ⊥
deep_or_stuck text m n h k s =
    let inside : m < length text = h.within in
    omega (arith, k.longest (m + 1) (omega arith) h.begins, deep_is_behind text m n h s)

stuck_once : (text : List ℕ) (m n : ℕ) → IsStuck text m → IsStuck text n → m ≡ n
stuck_once text m n h k = omega (arith, k.longest m h.within h.begins, h.longest n k.within k.begins)

deep_once : (text : List ℕ) (m n : ℕ) → IsTooDeep text m → IsTooDeep text n → m ≡ n
deep_once text m n h k = omega (arith, deep_is_behind text m n h k.first, deep_is_behind text n m k h.first)

-- there is one cause at an offset
cause_once : (text : List ℕ) (m n : ℕ) (v w : QueryWhy) → m ≡ n → IsRefusedAt text m v → IsRefusedAt text n w → At m v ≡ At n w
cause_once text m n End End e h k = ap (λ place. At place End) e
cause_once text m n End Byte e h k = absurd (k (sym e ∙ h.0))
cause_once text m n Byte End e h k = absurd (h (e ∙ k.0))
cause_once text m n Byte Byte e h k = ap (λ place. At place Byte) e

-- two errors of a text are equal
pub refusal_once : (text : List ℕ) (d e : QueryError) → d ≢ Memory → e ≢ Memory → Answers text (Err d) → Answers text (Err e) → d ≡ e
refusal_once text Memory e p r h k = absurd (p refl)
refusal_once text d Memory p r h k = absurd (r refl)
refusal_once text TooLong TooLong p r h k = refl
refusal_once text TooLong (TooDeep n) p r h k = absurd (omega (arith, h, k.0))
refusal_once text TooLong (At n w) p r h k = absurd (omega (arith, h, k.0))
refusal_once text (TooDeep m) TooLong p r h k = absurd (omega (arith, h.0, k))
refusal_once text (TooDeep m) (TooDeep n) p r h k = ap (λ place. TooDeep place) (deep_once text m n h.1 k.1)
refusal_once text (TooDeep m) (At n w) p r h k = absurd (deep_or_stuck text m n h.1 k.1 k.3)
refusal_once text (At m v) TooLong p r h k = absurd (omega (arith, h.0, k))
refusal_once text (At m v) (TooDeep n) p r h k = absurd (deep_or_stuck text n m k.1 h.1 h.3)
refusal_once text (At m v) (At n w) p r h k = cause_once text m n v w (stuck_once text m n h.1 k.1) h.2 k.2

-- two results of a text are equal
pub one_answer : (text : List ℕ) (a b : Result Query QueryError) → a ≢ Err Memory → b ≢ Err Memory → Answers text a → Answers text b → a ≡ b
one_answer text (Ok q) (Ok r) p s h k = ap (λ (x : Query). Ok x) (one_query q r (one_reading text (tree_of q) (tree_of r) h.1 k.1))
one_answer text (Ok q) (Err e) p s h k = absurd (answers_once text q e (λ m. s (ap (λ (x : QueryError). Err x) m)) h k)
one_answer text (Err d) (Ok r) p s h k = absurd (answers_once text r d (λ m. p (ap (λ (x : QueryError). Err x) m)) k h)
one_answer text (Err d) (Err e) p s h k =
    ap (λ (x : QueryError). Err x) (refusal_once text d e (λ m. p (ap (λ (x : QueryError). Err x) m)) (λ m. s (ap (λ (x : QueryError). Err x) m)) h k)
