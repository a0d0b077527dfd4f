-- What the code and the length of a whole head decide.
use Rattle.std.proofs.Common.{◌≡◌, ℕ, List, [], ◌++◌, length, true, false, Option, Some, None, Err, sym, ap, ◌∙◌}
use Rattle.std.proofs.lemmas.Bool.{cond-true, cond-false}
use Rattle.dmap_tags.specs.Codes.{Four, code_of}
use Rattle.dmap_tags.specs.declared.kinds.Kind.{Kind}
use Rattle.dmap_tags.specs.declared.kinds.Kind.TheVariants.{List as Members}
use Rattle.dmap_tags.specs.Kinds.{is_list}
use Rattle.code_table.specs.declared.row.CodeRow.{CodeRow}
use Rattle.code_table.specs.Rows.{kind_in}
use Rattle.dmap_stream.specs.declared.containers.Container.{Container}
use Rattle.dmap_stream.specs.declared.position.Position.{Position}
use Rattle.dmap_stream.specs.declared.refusal.StreamError.{StreamError}
use Rattle.dmap_stream.specs.Walk.{broken, ends, parent_of, fault_at, told_length, Onward, at_payload, at_body, unless_fault, behind_head, at_head, walk_from}
use Rattle.dmap_stream.specs.Reading.{ready_at, Takes}
use Rattle.dmap_stream.proofs.Takings.{behind_none}
use Rattle.dmap_stream.proofs.Wholes.{head_done}

-- a whole head, with its code and its length
pub record IsHead (head : List ℕ) (c : Four) (len : ℕ) : Type 0 where
  pub count : length head ≡ 8
  pub code : c ≡ code_of head
  pub told : len ≡ told_length head

-- what the bytes after a whole head contain
pub head_told : (onward : Onward) (rows : List CodeRow) (limit at : ℕ) (around : List Container) (head rest : List ℕ) (c : Four) (len : ℕ) → IsHead head c len →
    at_head onward rows limit at around (head ++ rest) ≡ behind_head onward rows limit at around c len rest
head_told onward rows limit at around head rest c len h =
    head_done onward rows limit at around head rest h.count
    ∙ ap (λ x. behind_head onward rows limit at around x (told_length head) rest) (sym h.code)
    ∙ ap (λ x. behind_head onward rows limit at around c x rest) (sym h.told)

pub head_fault : (onward : Onward) (rows : List CodeRow) (limit at : ℕ) (around : List Container) (head rest : List ℕ) (c : Four) (len : ℕ) → IsHead head c len →
    at_head onward rows limit at around (head ++ rest) ≡ unless_fault (fault_at limit at around c len) (at_body onward at around c (kind_in rows (parent_of around) c) len rest)
unfolding behind_head
head_fault onward rows limit at around head rest c len h = head_told onward rows limit at around head rest c len h

pub refused : (rows : List CodeRow) (limit at : ℕ) (around : List Container) (piece : List ℕ) (c : Four) (len : ℕ) (new : Position) (e : StreamError) →
    Some e ≡ fault_at limit at around c len → ready_at new ≡ [] →
    Takes rows limit (behind_head (walk_from rows limit) rows limit at around c len) piece new (Err e)
unfolding behind_head
refused rows limit at around piece c len new e fault quiet = (
  (λ _. quiet),
  λ _ rest.
      ap (λ o. unless_fault o (at_body (walk_from rows limit) at around c (kind_in rows (parent_of around) c) len (piece ++ rest))) (sym fault)
      ∙ sym (behind_none (ready_at new) (ends (broken e)) quiet),
)

behind_on : (onward : Onward) (rows : List CodeRow) (limit at : ℕ) (around : List Container) (rest : List ℕ) (c : Four) (len : ℕ) (parent : Option Four) (kind : Kind) →
    None ≡ fault_at limit at around c len → parent ≡ parent_of around → kind ≡ kind_in rows parent c →
    behind_head onward rows limit at around c len rest ≡ at_body onward at around c kind len rest
unfolding behind_head
behind_on onward rows limit at around rest c len parent kind fault inside told =
    ap (λ o. unless_fault o (at_body onward at around c (kind_in rows (parent_of around) c) len rest)) (sym fault)
    ∙ ap (λ o. at_body onward at around c (kind_in rows o c) len rest) (sym inside)
    ∙ ap (λ k. at_body onward at around c k len rest) (sym told)

pub behind_list : (onward : Onward) (rows : List CodeRow) (limit at : ℕ) (around : List Container) (rest : List ℕ) (c : Four) (len : ℕ) (parent : Option Four) (kind : Kind) →
    None ≡ fault_at limit at around c len → parent ≡ parent_of around → kind ≡ kind_in rows parent c → is_list kind ≡ true →
    behind_head onward rows limit at around c len rest ≡ at_body onward at around c Members len rest
behind_list onward rows limit at around rest c len parent kind fault inside told list =
    behind_on onward rows limit at around rest c len parent kind fault inside told ∙ cond-true (is_list kind) _ _ list

pub behind_value : (onward : Onward) (rows : List CodeRow) (limit at : ℕ) (around : List Container) (rest : List ℕ) (c : Four) (len : ℕ) (parent : Option Four) (kind : Kind) →
    None ≡ fault_at limit at around c len → parent ≡ parent_of around → kind ≡ kind_in rows parent c → is_list kind ≡ false →
    behind_head onward rows limit at around c len rest ≡ at_payload onward at around c kind len rest
behind_value onward rows limit at around rest c len parent kind fault inside told value =
    behind_on onward rows limit at around rest c len parent kind fault inside told ∙ cond-false (is_list kind) _ _ value

-- the same for a head and what follows it
pub head_list : (onward : Onward) (rows : List CodeRow) (limit at : ℕ) (around : List Container) (head rest : List ℕ) (c : Four) (len : ℕ) (parent : Option Four) (kind : Kind) → IsHead head c len →
    None ≡ fault_at limit at around c len → parent ≡ parent_of around → kind ≡ kind_in rows parent c → is_list kind ≡ true →
    at_head onward rows limit at around (head ++ rest) ≡ at_body onward at around c Members len rest
head_list onward rows limit at around head rest c len parent kind h fault inside told list =
    head_told onward rows limit at around head rest c len h ∙ behind_list onward rows limit at around rest c len parent kind fault inside told list

pub head_value : (onward : Onward) (rows : List CodeRow) (limit at : ℕ) (around : List Container) (head rest : List ℕ) (c : Four) (len : ℕ) (parent : Option Four) (kind : Kind) → IsHead head c len →
    None ≡ fault_at limit at around c len → parent ≡ parent_of around → kind ≡ kind_in rows parent c → is_list kind ≡ false →
    at_head onward rows limit at around (head ++ rest) ≡ at_payload onward at around c kind len rest
head_value onward rows limit at around head rest c len parent kind h fault inside told value =
    head_told onward rows limit at around head rest c len h ∙ behind_value onward rows limit at around rest c len parent kind fault inside told value
