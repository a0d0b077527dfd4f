use Rattle.std.proofs.Common.{rules, ◌≡◌, ◌++◌, ◌∙◌, take, Option, None, Some, option_to_list, refl, sym, ap, subst}
use Rattle.http_heads.specs.declared.refusal.HeadError.{HeadError}
use Rattle.http_heads.specs.Gathering.{kept}
use Rattle.share_asks.specs.declared.ask.Ask.{Ask}
use Rattle.http_front.specs.Readers.{HasRead, ReadAs, Reader}
use Rattle.http_front.specs.Readings.{IsReading, reading}
use Rattle.http_front.proofs.Fed.{no_some, read_error, read_more, read_stays}
use Rattle.http_front.proofs.reader.HeadReader.feed.Goals as goal

pub returns-in-Some-clause-read : goal.returns-in-Some-clause-read
returns-in-Some-clause-read c = λ fed handed h.
    read_stays fed handed c.args.self.now c.args.piece.now c.in-Some.error (sym (ap (λ (r : Reader). r.error) c.self.view_is) ∙ c.in-Some.is) h

pub returns-in-Ok-clause-read : goal.returns-in-Ok-clause-read
returns-in-Ok-clause-read c = λ fed handed h.
    let r : Reader = record { role = c.self.inside.role; kept = kept c.self.inside.requests; ready = c.self.inside.ready; error = c.self.inside.error } in
    let after : Reader =
    record { role = c.self.inside.role; kept = kept c.gather.new.requests; ready = c.put.new.place; error = c.self.inside.error } in
    let before : HasRead fed handed r = subst (λ (x : Reader). HasRead fed handed x) (sym c.self.view_is) h in
    let fine : c.self.inside.error ≡ None = c.in_default.is in
    let idle : c.self.inside.ready ≡ None = no_some c.self.inside.ready (sym c.is_some.ensures ∙ c.if-is_some.false) in
    let more = read_more fed handed r c.self.inside.requests c.gather.new.requests c.args.piece.now c.in-Ok.taken c.in-Ok.ready refl fine idle
    c.in-Ok.ensures.kind c.in-Ok.ensures.gathers before in
    subst (λ (o : Option HeadError). ReadAs (fed ++ take c.in-Ok.taken c.args.piece.now) handed after o) (sym fine)
    (subst (λ (o : Option Ask). IsReading c.self.inside.role (fed ++ take c.in-Ok.taken c.args.piece.now)
    (reading (handed ++ option_to_list o) (kept c.gather.new.requests) None)) (sym c.put.ensures) more)

pub returns-in-Err-clause-read : goal.returns-in-Err-clause-read
returns-in-Err-clause-read c = λ fed handed h.
    let r : Reader = record { role = c.self.inside.role; kept = kept c.self.inside.requests; ready = c.self.inside.ready; error = c.self.inside.error } in
    let after : Reader =
    record { role = c.self.inside.role; kept = kept c.clear.new.self; ready = c.self.inside.ready; error = c.put-in-Err.new.place } in
    let before : HasRead fed handed r = subst (λ (x : Reader). HasRead fed handed x) (sym c.self.view_is) h in
    let fine : c.self.inside.error ≡ None = c.in_default.is in
    let idle : c.self.inside.ready ≡ None = no_some c.self.inside.ready (sym c.is_some.ensures ∙ c.if-is_some.false) in
    let refused = read_error fed handed r after c.self.inside.requests c.gather.new.requests c.args.piece.now c.in-Err.error refl fine idle refl idle
    c.in-Err.ensures.gathers before in
    subst (λ (o : Option HeadError). ReadAs (fed ++ c.args.piece.now) handed after o)
    (sym (c.put-in-Err.ensures ∙ ap (λ (e : HeadError). Some e) c.copy-in-Err.ensures)) refused

pub returns-in-Some-clause-role : goal.returns-in-Some-clause-role
returns-in-Some-clause-role c = search rules

pub returns-in-Some-clause-error : goal.returns-in-Some-clause-error
returns-in-Some-clause-error c = search rules

pub returns-in-Some-clause-stays : goal.returns-in-Some-clause-stays
returns-in-Some-clause-stays c = search rules

pub returns-in-Some-clause-waits : goal.returns-in-Some-clause-waits
returns-in-Some-clause-waits c = search rules

pub returns-in-Some-clause-took : goal.returns-in-Some-clause-took
returns-in-Some-clause-took c = search rules

pub returns-in-Some-clause-moves : goal.returns-in-Some-clause-moves
returns-in-Some-clause-moves c = search rules

pub returns-in-Some-clause-alone : goal.returns-in-Some-clause-alone
returns-in-Some-clause-alone c = search rules

pub returns-then-is_some-clause-role : goal.returns-then-is_some-clause-role
returns-then-is_some-clause-role c = search rules

pub returns-then-is_some-clause-error : goal.returns-then-is_some-clause-error
returns-then-is_some-clause-error c = search rules

pub returns-then-is_some-clause-stays : goal.returns-then-is_some-clause-stays
returns-then-is_some-clause-stays c = search rules

pub returns-then-is_some-clause-waits : goal.returns-then-is_some-clause-waits
returns-then-is_some-clause-waits c = search rules

pub returns-then-is_some-clause-took : goal.returns-then-is_some-clause-took
returns-then-is_some-clause-took c = search rules

pub returns-then-is_some-clause-moves : goal.returns-then-is_some-clause-moves
returns-then-is_some-clause-moves c = search rules

pub returns-then-is_some-clause-alone : goal.returns-then-is_some-clause-alone
returns-then-is_some-clause-alone c = search rules

pub returns-then-is_some-clause-read : goal.returns-then-is_some-clause-read
returns-then-is_some-clause-read c = search rules

pub returns-in-Ok-clause-role : goal.returns-in-Ok-clause-role
returns-in-Ok-clause-role c = search rules

pub returns-in-Ok-clause-error : goal.returns-in-Ok-clause-error
returns-in-Ok-clause-error c = search rules

pub returns-in-Ok-clause-stays : goal.returns-in-Ok-clause-stays
returns-in-Ok-clause-stays c = search rules

pub returns-in-Ok-clause-waits : goal.returns-in-Ok-clause-waits
returns-in-Ok-clause-waits c = search rules

pub returns-in-Ok-clause-took : goal.returns-in-Ok-clause-took
returns-in-Ok-clause-took c = search rules

pub returns-in-Ok-clause-moves : goal.returns-in-Ok-clause-moves
returns-in-Ok-clause-moves c = search rules

pub returns-in-Ok-clause-alone : goal.returns-in-Ok-clause-alone
returns-in-Ok-clause-alone c = search rules

pub returns-in-Err-clause-role : goal.returns-in-Err-clause-role
returns-in-Err-clause-role c = search rules

pub returns-in-Err-clause-error : goal.returns-in-Err-clause-error
returns-in-Err-clause-error c = search rules

pub returns-in-Err-clause-stays : goal.returns-in-Err-clause-stays
returns-in-Err-clause-stays c = search rules

pub returns-in-Err-clause-waits : goal.returns-in-Err-clause-waits
returns-in-Err-clause-waits c = search rules

pub returns-in-Err-clause-took : goal.returns-in-Err-clause-took
returns-in-Err-clause-took c = search rules

pub returns-in-Err-clause-moves : goal.returns-in-Err-clause-moves
returns-in-Err-clause-moves c = search rules

pub returns-in-Err-clause-alone : goal.returns-in-Err-clause-alone
returns-in-Err-clause-alone c = search rules
