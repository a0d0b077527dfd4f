-- If some text is read as a query, its printed text is within the limits too and is read as the query.
use Rattle.std.proofs.Common.{◌≡◌, ◌≤◌, ℕ, zero, suc, List, [], ◌∷◌, true, Ok, length, take, arith}
use Rattle.item_model.specs.Proper.{is_proper}
use Rattle.item_model.specs.QuerySeen.{tree_of}
use Rattle.item_model.specs.declared.query.Query.{Query}
use Rattle.song_query.specs.Answers.{Answers, IsShallow}
use Rattle.song_query.specs.Limits.{open_parentheses}
use Rattle.song_query.specs.Nesting.{Where, outside, deepest, most_open, open_behind, open_next, where_next}
use Rattle.song_query.specs.Printing.{printed}
use Rattle.song_query.proofs.Forms.{prints}
use Rattle.song_query.proofs.Least.{text_least}
use Rattle.song_query.proofs.Peaks.{at_least, text_shallowest}
use Rattle.song_query.proofs.ReadLaws.{reads_proper}

-- the maximum is at least the number open at any offset
most_there : (w : Where) (n : ℕ) (text : List ℕ) (k : ℕ) → open_behind w n (take k text) ≤ most_open w n text
most_there w n text zero = at_least w n text
most_there w n [] (suc k) = omega arith
most_there w n (c ∷ cs) (suc k) = omega (arith, most_there (where_next w c) (open_next w n c) cs k)

-- and at most a number that bounds those at all offsets
most_bounded : (w : Where) (n : ℕ) (text : List ℕ) (most : ℕ) → ((k : ℕ) → k ≤ length text → open_behind w n (take k text) ≤ most) → most_open w n text ≤ most
most_bounded w n [] most h = h 0 (omega arith)
most_bounded w n (c ∷ cs) most h =
    let here : n ≤ most = h 0 (omega arith) in
    let rest = most_bounded (where_next w c) (open_next w n c) cs most (λ k below. h (suc k) (omega (arith, below))) in
    omega (arith, here, rest)

-- a text is shallow if no more parentheses are open at once than in a shallow one
shallow_too : (text other : List ℕ) → deepest text ≤ deepest other → IsShallow other (length other) → IsShallow text (length text)
shallow_too text other fewer shallow n below = omega (arith, fewer, most_there outside 0 text n, most_bounded outside 0 other open_parentheses shallow)

-- the printed text is read as the query if some text is
pub read_again : (q : Query) (other : List ℕ) → Answers other (Ok q) → Answers (printed (tree_of q)) (Ok q)
read_again q other answered =
    let proper : is_proper (tree_of q) ≡ true = reads_proper other (tree_of q) answered.1 in (
      omega (arith, answered.0, text_least other (tree_of q) answered.1),
      prints (tree_of q) proper,
      shallow_too (printed (tree_of q)) other (text_shallowest other (tree_of q) proper answered.1) answered.2,
    )
