use Rattle.std.proofs.Common.{rules, ◌≡◌, ◌≢◌, ◌-◌, [], length, sym, ap, subst, ◌∙◌}
use Rattle.dmap_stream.specs.declared.refusal.StreamError.TheVariants.{Truncated, Memory}
use Rattle.dmap_stream.specs.WholeTag.{ReadsTag, RefusesTag}
use Rattle.dmap_stream.proofs.Faults.{ends_early}
use Rattle.dmap_stream.proofs.WholeTags.{found, count, room_at_top, top_refused}
use Rattle.dmap_stream.proofs.whole_tag.read_tag.Goals as goal

pub returns-in-Ok-clause-found : goal.returns-in-Ok-clause-found
returns-in-Ok-clause-found c =
    let r : ReadsTag c.args.table.now c.args.limits.top 0 [] c.args.bytes.now c.in-Ok.tag c.in-Ok.rest.now = subst (λ a. ReadsTag c.args.table.now c.args.limits.top 0 a c.args.bytes.now c.in-Ok.tag c.in-Ok.rest.now) c.new-around.ensures c.in-Ok.ensures.tells in
    let f = found c.args.table.now c.args.limits.top c.args.bytes.now c.in-Ok.tag c.in-Ok.rest.now r in
    (f.within, f.spells, f.fine, f.proper)

pub returns-in-Ok-clause-only : goal.returns-in-Ok-clause-only
returns-in-Ok-clause-only c =
    λ t rest fine proper said.
    let r : ReadsTag c.args.table.now c.args.limits.top 0 [] c.args.bytes.now c.in-Ok.tag c.in-Ok.rest.now = subst (λ a. ReadsTag c.args.table.now c.args.limits.top 0 a c.args.bytes.now c.in-Ok.tag c.in-Ok.rest.now) c.new-around.ensures c.in-Ok.ensures.tells in
    let same = r.only t rest (room_at_top c.args.table.now c.args.limits.top 0 t (search rules) fine proper) said in
    (sym same.0, ap (λ l. length c.args.bytes.now - length l) (sym same.1) ∙ count c.args.bytes.now t rest said)

pub returns-clause-only : goal.returns-clause-only
returns-clause-only c =
    let r : RefusesTag c.args.table.now c.args.limits.top (length c.args.bytes.now) 0 [] c.args.bytes.now c.in-Err.error = subst (λ a. RefusesTag c.args.table.now c.args.limits.top (length c.args.bytes.now) 0 a c.args.bytes.now c.in-Err.error) c.new-around.ensures c.in-Err.ensures.tells in
    λ t rest fine proper said. r.never t rest (room_at_top c.args.table.now c.args.limits.top 0 t (search rules) fine proper) said

pub returns-clause-refused : goal.returns-clause-refused
returns-clause-refused c =
    top_refused c.args.table.now c.args.limits.top (length c.args.bytes.now) c.args.bytes.now c.in-Err.error
    (subst (λ a. RefusesTag c.args.table.now c.args.limits.top (length c.args.bytes.now) 0 a c.args.bytes.now c.in-Err.error) c.new-around.ensures c.in-Err.ensures.tells)

pub returns-clause-truncated : goal.returns-clause-truncated
returns-clause-truncated c =
    λ at same.
    let is : c.in-Err.error ≡ Truncated at = cc in
    let known : c.in-Err.error ≢ Memory = (λ memory. let bad : Truncated at ≡ Memory = sym is ∙ memory in absurd (cc)) in
    ends_early c.args.table.now c.args.limits.top (length c.args.bytes.now) at c.args.bytes.now c.in-Err.error (returns-clause-refused c known) is
