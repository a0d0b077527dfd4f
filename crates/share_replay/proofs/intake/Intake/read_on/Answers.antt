use Rattle.std.proofs.Common.{◌≡◌, ◌+◌, ◌++◌, ℕ, List, Option, None, Some, IfSome, option_to_list, refl, sym, ap, ◌∙◌, subst}
use Rattle.std.specs.Prelude.{drop}
use Rattle.http_heads.specs.declared.refusal.HeadError.{HeadError}
use Rattle.http_front.specs.Readers.{HasRead}
use Rattle.share_asks.specs.Valid.{IsValidWant}
use Rattle.share_asks.specs.declared.ask.Ask.{Ask}
use Rattle.share_replay.proofs.ConnectionFacts.{some_is_some}
use Rattle.share_replay.proofs.IntakeFacts.{read_more, read_refused}
use Rattle.share_replay.proofs.intake.Intake.read_on.Goals as goal

pub returns-in-Ok-clause-read : goal.returns-in-Ok-clause-read
returns-in-Ok-clause-read c = λ asks passed.
    let i = c.args.self.now in
    let none : i.next ≡ None = some_is_some i.next (sym c.is_some.ensures ∙ c.if-is_some.false) in
    let fine : i.fault ≡ None = some_is_some i.fault (sym c.is_some-else-is_some.ensures ∙ c.if-is_some-2.false) in
    read_more asks i (record { reader = c.next.new.self; bytes = i.bytes; fed = i.fed + c.in-Ok.taken; next = c.put_ask.new.place; fault = i.fault }) c.feed.new.self c.split_at.result.1.now
    c.in-Ok.taken none fine (c.split_at.ensures.back ∙ ap (drop i.fed) c.as_slice.ensures.value) c.in-Ok.ensures.error c.in-Ok.ensures.took.0 c.in-Ok.ensures.took.1
    c.in-Ok.ensures.read (c.put_ask.ensures ∙ c.next.ensures.result) c.next.ensures.rest
    (subst (λ (o : Option Ask). (fed : List ℕ) (handed : List Ask) → HasRead fed handed c.feed.new.self → HasRead fed (handed ++ option_to_list o) c.next.new.self) (sym c.put_ask.ensures)
    c.next.ensures.read)
    (subst (λ (o : Option Ask). IfSome o (λ ask. IsValidWant ask.want)) (sym c.put_ask.ensures) c.next.ensures.valid) refl refl fine passed

pub returns-in_ok-unless_memory-in-Err-clause-read : goal.returns-in_ok-unless_memory-in-Err-clause-read
returns-in_ok-unless_memory-in-Err-clause-read c = λ asks passed.
    let i = c.args.self.now in
    let none : i.next ≡ None = some_is_some i.next (sym c.is_some.ensures ∙ c.if-is_some.false) in
    let fine : i.fault ≡ None = some_is_some i.fault (sym c.is_some-else-is_some.ensures ∙ c.if-is_some-2.false) in
    let refusal = c.in_ok-unless_memory-in-Err.field-0 in
    read_refused asks i (record { reader = c.feed.new.self; bytes = i.bytes; fed = i.fed; next = i.next; fault = c.put_fault.new.place }) c.split_at.result.1.now refusal none fine
    (c.split_at.ensures.back ∙ ap (drop i.fed) c.as_slice.ensures.value)
    (c.in-Err.ensures.error ∙ ap (λ (e : HeadError). Some e) (sym c.in_ok-unless_memory-in-Err.ensures.same)) c.in_ok-unless_memory-in-Err.ensures.fault
    c.in-Err.ensures.read refl none c.put_fault.ensures passed
