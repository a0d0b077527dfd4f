-- The head of a tag's encoding, and the code and the length that it states.
use Rattle.std.proofs.Common.{◌≡◌, ℕ, suc, ◌<◌, ◌^◌, List, [], ◌∷◌, ◌++◌, length, take, drop, refl, sym, ap, ◌∙◌, arith}
use Rattle.std.specs.Int.{w32, to_be_bytes}
use Rattle.std.proofs.Math.Seq.{take-append_seam, drop-append_seam}
use Rattle.std.proofs.lemmas.Nat.{from_be_bytes-to_be_bytes_4, be_bytes_4}
use Rattle.dmap_tags.specs.Codes.{Four, code_of, code_bytes}
use Rattle.dmap_tags.specs.Tree.{Tree, tree_code}
use Rattle.dmap_tags.specs.Spelling.{payload, spelling}
use Rattle.dmap_stream.specs.Walk.{told_length}
use Rattle.dmap_stream.proofs.Heads.{IsHead}
use Rattle.dmap_stream.proofs.Values.{AreBytes}

-- eight bytes are the encoding of the code and the length that they state
pub head_back : (head : List ℕ) → length head ≡ 8 → AreBytes head → head ≡ code_bytes (code_of head) ++ to_be_bytes w32 (told_length head)
head_back [] h small = absurd (cc)
head_back (a ∷ []) h small = absurd (omega arith)
head_back (a ∷ b ∷ []) h small = absurd (omega arith)
head_back (a ∷ b ∷ c ∷ []) h small = absurd (omega arith)
head_back (a ∷ b ∷ c ∷ d ∷ []) h small = absurd (omega arith)
head_back (a ∷ b ∷ c ∷ d ∷ e ∷ []) h small = absurd (omega arith)
head_back (a ∷ b ∷ c ∷ d ∷ e ∷ f ∷ []) h small = absurd (omega arith)
head_back (a ∷ b ∷ c ∷ d ∷ e ∷ f ∷ g ∷ []) h small = absurd (omega arith)
head_back (a ∷ b ∷ c ∷ d ∷ e ∷ f ∷ g ∷ i ∷ []) h small =
    ap (λ l. a ∷ b ∷ c ∷ d ∷ l) (sym (be_bytes_4 (e ∷ f ∷ g ∷ i ∷ []) _ refl (λ k. small (suc (suc (suc (suc k))))) refl))
head_back (a ∷ b ∷ c ∷ d ∷ e ∷ f ∷ g ∷ i ∷ j ∷ more) h small = absurd (omega arith)

-- a head and what follows it encode a tag
pub spelled : (head rest later : List ℕ) (c : Four) (len : ℕ) (t : Tree) → IsHead head c len → AreBytes head →
    c ≡ tree_code t → len ≡ length (payload t) → rest ≡ payload t ++ later → head ++ rest ≡ spelling t ++ later
spelled head rest later c len t h small code count left =
    ap (λ l. l ++ rest) (head_back head h.count small)
    ∙ ap (λ x. (code_bytes x ++ to_be_bytes w32 (told_length head)) ++ rest) (sym h.code ∙ code)
    ∙ ap (λ x. (code_bytes (tree_code t) ++ to_be_bytes w32 x) ++ rest) (sym h.told ∙ count)
    ∙ ap (λ x. (code_bytes (tree_code t) ++ to_be_bytes w32 (length (payload t))) ++ x) left

pub record Begins (c : Four) (len : ℕ) (rest more : List ℕ) (u : Tree) : Type 0 where
  pub code : c ≡ tree_code u
  pub count : len ≡ length (payload u)
  pub left : rest ≡ payload u ++ more

-- a tag's encoding begins with its head
pub begins : (head rest more : List ℕ) (c : Four) (len : ℕ) (u : Tree) → IsHead head c len → length (payload u) < 2 ^ 32 →
    head ++ rest ≡ spelling u ++ more → Begins c len rest more u
begins head rest more c len u h less is = record {
  code = h.code ∙ ap code_of front;
  count = h.told ∙ ap told_length front ∙ from_be_bytes-to_be_bytes_4 (length (payload u)) less;
  left = sym (drop-append_seam head rest) ∙ ap (λ n. drop n (head ++ rest)) h.count ∙ ap (drop 8) is;
}
  where
    front : head ≡ take 8 (spelling u ++ more)
    front = sym (take-append_seam head rest) ∙ ap (λ n. take n (head ++ rest)) h.count ∙ ap (take 8) is
