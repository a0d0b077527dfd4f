-- Only a fault of the bytes breaks a walk.
use Rattle.std.proofs.Common.{◌≡◌, ℕ, zero, suc, ◌+◌, List, [], ◌∷◌, length, take, drop, Bool, true, false, ◌&&◌, nat_lt, nat_le, if◌then◌else◌, Option, Some, None, ◌⊎◌, inl, inr, refl, sym, ap, ◌∙◌}
use Rattle.dmap_tags.specs.Codes.{Four, code_of}
use Rattle.dmap_tags.specs.Typed.{leaf_at, value_of}
use Rattle.dmap_tags.specs.declared.kinds.Kind.{Kind}
use Rattle.dmap_tags.specs.Kinds.{is_list}
use Rattle.code_table.specs.declared.row.CodeRow.{CodeRow}
use Rattle.code_table.specs.Rows.{kind_in}
use Rattle.dmap_stream.specs.declared.containers.Container.{Container}
use Rattle.dmap_stream.specs.declared.event.Event.TheVariants.{Open, Leaf}
use Rattle.dmap_stream.specs.declared.refusal.StreamError.{StreamError}
use Rattle.dmap_stream.specs.declared.refusal.StreamError.TheVariants.{TooLarge, TooDeep, Overrun, ShortHead, Truncated}
use Rattle.dmap_stream.specs.Faults.{is_fault, BreaksByFault}
use Rattle.dmap_stream.specs.WholeTag.{refusal}
use Rattle.dmap_stream.specs.Walk.{Walk, Ending, between, inside, broken, ends, behind, is_empty, open_after, is_short, parent_of, passes, fault_at, told_length, container, Onward, at_payload, at_body, unless_fault, behind_head, at_head, at_place, walk, walk_from, walk_of}

abbrev pub Onwards : Onward → Type 0
Onwards f = (at : ℕ) (around : List Container) (bytes : List ℕ) → BreaksByFault (f at around bytes).ending

either : (b : Bool) (w v : Walk) → BreaksByFault w.ending → BreaksByFault v.ending → BreaksByFault (if b then w else v).ending
either true w v h k = h
either false w v h k = k

payload_breaks : (f : Onward) → Onwards f → (at : ℕ) (around : List Container) (c : Four) (kind : Kind) (len : ℕ) (bytes : List ℕ) → BreaksByFault (at_payload f at around c kind len bytes).ending
payload_breaks f h at around c kind len bytes =
    either (nat_lt (length bytes) len) (ends inside) (behind (Leaf c (value_of (leaf_at kind (take len bytes))) at ∷ []) (f (at + 8 + len) around (drop len bytes))) tt (h (at + 8 + len) around (drop len bytes))

body_breaks : (f : Onward) → Onwards f → (at : ℕ) (around : List Container) (c : Four) (kind : Kind) (len : ℕ) (bytes : List ℕ) → BreaksByFault (at_body f at around c kind len bytes).ending
body_breaks f h at around c kind len bytes =
    either (is_list kind) (behind (Open c len at ∷ []) (f (at + 8) (container c at len ∷ around) bytes)) (at_payload f at around c kind len bytes)
    (h (at + 8) (container c at len ∷ around) bytes) (payload_breaks f h at around c kind len bytes)

-- the error of a head is a fault
abbrev pub IsFaultIfAny : Option StreamError → Type 0
IsFaultIfAny None = Unit {0}
IsFaultIfAny (Some e) = is_fault e ≡ true

either_fault : (b : Bool) (o p : Option StreamError) → IsFaultIfAny o → IsFaultIfAny p → IsFaultIfAny (if b then o else p)
either_fault true o p h k = h
either_fault false o p h k = k

head_fault : (limit at : ℕ) (around : List Container) (c : Four) (len : ℕ) → IsFaultIfAny (fault_at limit at around c len)
head_fault limit at around c len =
    let over = either_fault (passes (at + 8 + len) around) (Some (Overrun at c)) None refl tt in
    let deep = either_fault (nat_le 32 (length around)) (Some (TooDeep at)) (if passes (at + 8 + len) around then Some (Overrun at c) else None) refl over in
    either_fault (is_empty around && nat_lt limit len) (Some (TooLarge at)) (if nat_le 32 (length around) then Some (TooDeep at) else (if passes (at + 8 + len) around then Some (Overrun at c) else None)) refl deep

unless_breaks : (o : Option StreamError) (w : Walk) → IsFaultIfAny o → BreaksByFault w.ending → BreaksByFault (unless_fault o w).ending
unless_breaks None w h k = k
unless_breaks (Some e) w h k = h

early_breaks : (b : Bool) → BreaksByFault (if b then between else inside)
early_breaks true = tt
early_breaks false = tt

head_breaks : (f : Onward) → Onwards f → (rows : List CodeRow) (limit at : ℕ) (around : List Container) (bytes : List ℕ) → BreaksByFault (at_head f rows limit at around bytes).ending
unfolding at_head behind_head
head_breaks f h rows limit at around bytes =
    either (nat_lt (length bytes) 8) (ends (if is_empty around && is_empty bytes then between else inside)) (behind_head f rows limit at around (code_of bytes) (told_length bytes) (drop 8 bytes))
    (early_breaks (is_empty around && is_empty bytes))
    (unless_breaks (fault_at limit at around (code_of bytes) (told_length bytes)) (at_body f at around (code_of bytes) (kind_in rows (parent_of around) (code_of bytes)) (told_length bytes) (drop 8 bytes))
    (head_fault limit at around (code_of bytes) (told_length bytes))
    (body_breaks f h at around (code_of bytes) (kind_in rows (parent_of around) (code_of bytes)) (told_length bytes) (drop 8 bytes)))

walk_breaks : (rows : List CodeRow) (limit n : ℕ) → Onwards (walk rows limit n)
unfolding walk at_place
walk_breaks rows limit zero at around bytes = tt
walk_breaks rows limit (suc n) at around bytes =
    either (is_short at (open_after at around)) (ends (broken (ShortHead at))) (at_head (walk rows limit n) rows limit at (open_after at around) bytes)
    refl (head_breaks (walk rows limit n) (walk_breaks rows limit n) rows limit at (open_after at around) bytes)

-- an allocation failure and a tag that is not whole break no bytes
pub breaks_by_fault : (rows : List CodeRow) (limit : ℕ) (bytes : List ℕ) → BreaksByFault (walk_of rows limit bytes).ending
unfolding walk_from
breaks_by_fault rows limit bytes = walk_breaks rows limit (suc (length bytes)) 0 [] bytes

-- if the error is that the bytes end inside a tag, they end there or between two tags
pub ends_early : (rows : List CodeRow) (limit total n : ℕ) (bytes : List ℕ) (e : StreamError) → e ≡ refusal total (walk_of rows limit bytes).ending → e ≡ Truncated n →
    ((walk_of rows limit bytes).ending ≡ between) ⊎ ((walk_of rows limit bytes).ending ≡ inside)
ends_early rows limit total n bytes e told is = by (walk_of rows limit bytes).ending (breaks_by_fault rows limit bytes) (sym told ∙ is)
  where
    by : (ending : Ending) → BreaksByFault ending → refusal total ending ≡ Truncated n → (ending ≡ between) ⊎ (ending ≡ inside)
    by between h k = inl refl
    by inside h k = inr refl
    by (broken f) h k = absurd (let bad : false ≡ true = sym (ap is_fault k) ∙ h in cc)
