-- What a whole head and a whole payload lead to, whatever follows them.
use Rattle.std.proofs.Common.{◌≡◌, ℕ, ◌+◌, ◌<◌, nat_lt, List, [], ◌∷◌, ◌++◌, length, refl, sym, ap, ◌∙◌, arith, length-append}
use Rattle.std.proofs.Math.Seq.{take-append_seam, drop-append_seam}
use Rattle.std.proofs.lemmas.Bool.{lt-ltb, le-ltb, cond-true, cond-false}
use Rattle.dmap_tags.specs.Codes.{Four, code_of}
use Rattle.dmap_tags.specs.Typed.{leaf_at, value_of}
use Rattle.dmap_tags.specs.declared.kinds.Kind.{Kind}
use Rattle.dmap_tags.specs.declared.tree.Value.{Value}
use Rattle.code_table.specs.declared.row.CodeRow.{CodeRow}
use Rattle.dmap_stream.specs.declared.containers.Container.{Container}
use Rattle.dmap_stream.specs.declared.event.Event.TheVariants.{Leaf}
use Rattle.dmap_stream.specs.Walk.{Walk, behind, told_length, Onward, at_payload, behind_head, at_head}

payload_whole : (onward : Onward) (at : ℕ) (around : List Container) (c : Four) (kind : Kind) (part rest : List ℕ) →
    at_payload onward at around c kind (length part) (part ++ rest) ≡ behind (Leaf c (value_of (leaf_at kind part)) at ∷ []) (onward (at + 8 + length part) around rest)
payload_whole onward at around c kind part rest =
    cond-false _ _ _ (le-ltb (length (part ++ rest)) (length part) (omega (arith, length-append part rest)))
    ∙ rw (take-append_seam, drop-append_seam) refl

-- the same with the value and the length that the calls returned
pub payload_done : (onward : Onward) (at : ℕ) (around : List Container) (c : Four) (kind : Kind) (part rest : List ℕ) (value : Value) (n : ℕ) →
    value ≡ value_of (leaf_at kind part) → n ≡ length part →
    at_payload onward at around c kind (length part) (part ++ rest) ≡ behind (Leaf c value at ∷ []) (onward (at + 8 + n) around rest)
payload_done onward at around c kind part rest value n v e =
    payload_whole onward at around c kind part rest
    ∙ ap (λ x. behind (Leaf c x at ∷ []) (onward (at + 8 + length part) around rest)) (sym v)
    ∙ ap (λ x. behind (Leaf c value at ∷ []) (onward (at + 8 + x) around rest)) (sym e)

-- the same with the length that the head states
pub payload_told : (onward : Onward) (at : ℕ) (around : List Container) (c : Four) (kind : Kind) (len : ℕ) (part rest : List ℕ) (value : Value) →
    value ≡ value_of (leaf_at kind part) → length part ≡ len →
    at_payload onward at around c kind len (part ++ rest) ≡ behind (Leaf c value at ∷ []) (onward (at + 8 + len) around rest)
payload_told onward at around c kind len part rest value v e =
    ap (λ n. at_payload onward at around c kind n (part ++ rest)) (sym e) ∙ payload_done onward at around c kind part rest value len v (sym e)

-- before a head or a payload is whole there is no event
pub head_quiet : (onward : Onward) (rows : List CodeRow) (limit at : ℕ) (around : List Container) (bytes : List ℕ) → length bytes < 8 →
    (at_head onward rows limit at around bytes).events ≡ []
unfolding at_head
head_quiet onward rows limit at around bytes less = ap (λ (w : Walk). w.events) (cond-true (nat_lt (length bytes) 8) _ _ (lt-ltb (length bytes) 8 less))

pub payload_quiet : (onward : Onward) (at : ℕ) (around : List Container) (c : Four) (kind : Kind) (len : ℕ) (bytes : List ℕ) → length bytes < len →
    (at_payload onward at around c kind len bytes).events ≡ []
payload_quiet onward at around c kind len bytes less = ap (λ (w : Walk). w.events) (cond-true (nat_lt (length bytes) len) _ _ (lt-ltb (length bytes) len less))

pub head_done : (onward : Onward) (rows : List CodeRow) (limit at : ℕ) (around : List Container) (head rest : List ℕ) → length head ≡ 8 →
    at_head onward rows limit at around (head ++ rest) ≡ behind_head onward rows limit at around (code_of head) (told_length head) rest
unfolding at_head
head_done onward rows limit at around [] rest h = absurd (cc)
head_done onward rows limit at around (a ∷ []) rest h = absurd (omega arith)
head_done onward rows limit at around (a ∷ b ∷ []) rest h = absurd (omega arith)
head_done onward rows limit at around (a ∷ b ∷ c ∷ []) rest h = absurd (omega arith)
head_done onward rows limit at around (a ∷ b ∷ c ∷ d ∷ []) rest h = absurd (omega arith)
head_done onward rows limit at around (a ∷ b ∷ c ∷ d ∷ e ∷ []) rest h = absurd (omega arith)
head_done onward rows limit at around (a ∷ b ∷ c ∷ d ∷ e ∷ f ∷ []) rest h = absurd (omega arith)
head_done onward rows limit at around (a ∷ b ∷ c ∷ d ∷ e ∷ f ∷ g ∷ []) rest h = absurd (omega arith)
head_done onward rows limit at around (a ∷ b ∷ c ∷ d ∷ e ∷ f ∷ g ∷ i ∷ []) rest h =
    cond-false _ _ _ (le-ltb (length (a ∷ b ∷ c ∷ d ∷ e ∷ f ∷ g ∷ i ∷ rest)) 8 (omega arith))
head_done onward rows limit at around (a ∷ b ∷ c ∷ d ∷ e ∷ f ∷ g ∷ i ∷ j ∷ more) rest h = absurd (omega arith)
