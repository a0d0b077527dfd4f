-- The walk from a place is the rule of that place, whatever the number of places that are allowed for.
use Rattle.std.proofs.Common.{◌≡◌, ℕ, zero, suc, ◌+◌, ◌<◌, ◌≤◌, List, [], ◌∷◌, length, take, drop, Bool, true, false, nat_lt, if◌then◌else◌, Option, Some, None, refl, ap, arith}
use Rattle.std.proofs.lemmas.Bool.{ltb-false}
use Rattle.std.proofs.lemmas.List.{length-drop}
use Rattle.dmap_tags.specs.Codes.{Four, code_of}
use Rattle.dmap_tags.specs.Typed.{leaf_at, value_of}
use Rattle.dmap_tags.specs.declared.kinds.Kind.{Kind}
use Rattle.dmap_tags.specs.Kinds.{is_list}
use Rattle.code_table.specs.declared.row.CodeRow.{CodeRow}
use Rattle.code_table.specs.Rows.{kind_in}
use Rattle.dmap_stream.specs.declared.containers.Container.{Container}
use Rattle.dmap_stream.specs.declared.event.Event.TheVariants.{Open, Leaf}
use Rattle.dmap_stream.specs.declared.refusal.StreamError.{StreamError}
use Rattle.dmap_stream.specs.Walk.{Walk, behind, closes, open_after, is_short, parent_of, fault_at, told_length, container, Onward, at_payload, at_body, unless_fault, behind_head, at_head, at_place, walk, walk_from}

-- two continuations that are the same if fewer than n bytes are left
abbrev pub AgreeBelow : ℕ → Onward → Onward → Type 0
AgreeBelow n f g = (at : ℕ) (around : List Container) (bytes : List ℕ) → length bytes < n → f at around bytes ≡ g at around bytes

-- the choice between two walks, of which the second may differ
choose : (b : Bool) (w v v' : Walk) → (b ≡ false → v ≡ v') → (if b then w else v) ≡ (if b then w else v')
choose true w v v' h = refl
choose false w v v' h = h refl

choose_first : (b : Bool) (w w' v v' : Walk) → w ≡ w' → v ≡ v' → (if b then w else v) ≡ (if b then w' else v')
choose_first true w w' v v' h k = h
choose_first false w w' v v' h k = k

payload_agrees : (n : ℕ) (f g : Onward) → AgreeBelow n f g → (at : ℕ) (around : List Container) (c : Four) (kind : Kind) (len : ℕ) (bytes : List ℕ) → length bytes < n → at_payload f at around c kind len bytes ≡ at_payload g at around c kind len bytes
payload_agrees n f g h at around c kind len bytes l =
    choose (nat_lt (length bytes) len) _ _ _
    (λ e. ap (behind (Leaf c (value_of (leaf_at kind (take len bytes))) at ∷ [])) (h (at + 8 + len) around (drop len bytes) (omega (arith, length-drop len bytes))))

body_agrees : (n : ℕ) (f g : Onward) → AgreeBelow n f g → (at : ℕ) (around : List Container) (c : Four) (kind : Kind) (len : ℕ) (bytes : List ℕ) → length bytes < n → at_body f at around c kind len bytes ≡ at_body g at around c kind len bytes
body_agrees n f g h at around c kind len bytes l =
    choose_first (is_list kind) _ _ _ _
    (ap (behind (Open c len at ∷ [])) (h (at + 8) (container c at len ∷ around) bytes l))
    (payload_agrees n f g h at around c kind len bytes l)

fault_agrees : (o : Option StreamError) (w w' : Walk) → w ≡ w' → unless_fault o w ≡ unless_fault o w'
fault_agrees None w w' h = h
fault_agrees (Some e) w w' h = refl

head_agrees : (n : ℕ) (f g : Onward) → AgreeBelow n f g → (rows : List CodeRow) (limit at : ℕ) (around : List Container) (bytes : List ℕ) → length bytes ≤ n → at_head f rows limit at around bytes ≡ at_head g rows limit at around bytes
unfolding at_head behind_head
head_agrees n f g h rows limit at around bytes l =
    choose (nat_lt (length bytes) 8) _ _ _
    (λ e. fault_agrees (fault_at limit at around (code_of bytes) (told_length bytes)) _ _
    (body_agrees n f g h at around (code_of bytes) (kind_in rows (parent_of around) (code_of bytes)) (told_length bytes) (drop 8 bytes)
    (omega (arith, length-drop 8 bytes, ltb-false (length bytes) 8 e))))

place_agrees : (n : ℕ) (f g : Onward) → AgreeBelow n f g → (rows : List CodeRow) (limit at : ℕ) (around : List Container) (bytes : List ℕ) → length bytes ≤ n → at_place f rows limit at around bytes ≡ at_place g rows limit at around bytes
unfolding at_place
place_agrees n f g h rows limit at around bytes l =
    ap (behind (closes at around))
    (choose (is_short at (open_after at around)) _ _ _ (λ e. head_agrees n f g h rows limit at (open_after at around) bytes l))

-- any number of places above the number of bytes gives the same walk
walk_same : (rows : List CodeRow) (limit n m at : ℕ) (around : List Container) (bytes : List ℕ) → length bytes < n → length bytes < m → walk rows limit n at around bytes ≡ walk rows limit m at around bytes
unfolding walk
walk_same rows limit zero m at around bytes l k = absurd (omega arith)
walk_same rows limit (suc n) zero at around bytes l k = absurd (omega arith)
walk_same rows limit (suc n) (suc m) at around bytes l k =
    place_agrees (length bytes) (walk rows limit n) (walk rows limit m)
    (λ at' around' rest h. walk_same rows limit n m at' around' rest (omega arith) (omega arith)) rows limit at around bytes (omega arith)

pub walk_on : (rows : List CodeRow) (limit at : ℕ) (around : List Container) (bytes : List ℕ) → walk_from rows limit at around bytes ≡ at_place (walk_from rows limit) rows limit at around bytes
unfolding walk_from walk
walk_on rows limit at around bytes =
    place_agrees (length bytes) (walk rows limit (length bytes)) (walk_from rows limit)
    (λ at' around' rest h. walk_same rows limit (length bytes) (suc (length rest)) at' around' rest h (omega arith)) rows limit at around bytes (omega arith)
