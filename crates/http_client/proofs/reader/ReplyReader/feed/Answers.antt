use Rattle.std.proofs.Common.{◌≡◌, ◌+◌, ◌++◌, ◌∙◌, take, Option, None, Some, option_to_list, refl, sym, ap, subst}
use Rattle.http_heads.specs.Gathering.{kept}
use Rattle.http_client.specs.declared.refusal.ReplyError.{ReplyError}
use Rattle.http_client.specs.Replies.{AreReplies, HasRead, ReadAs, Reader, Reply}
use Rattle.http_client.proofs.Fed.{no_some, read_error, read_more, read_stays}
use Rattle.http_client.proofs.reader.ReplyReader.feed.Goals as goal

pub returns-in-Some-clause-read : goal.returns-in-Some-clause-read
returns-in-Some-clause-read c = λ fed handed h.
    read_stays fed handed c.args.self.now c.args.piece.now c.in-Some.error (sym (ap (λ (r : Reader). r.error) c.self.view_is) ∙ c.in-Some.is) h

pub returns-in-Ok-clause-read : goal.returns-in-Ok-clause-read
returns-in-Ok-clause-read c = λ fed handed h.
    let r : Reader = record { kept = kept c.self.inside.replies; ready = c.self.inside.ready; error = c.self.inside.error; taken = c.self.inside.taken } in
    let after : Reader =
    record { kept = kept c.gather.new.replies; ready = c.put_reply.new.place; error = c.self.inside.error; taken = c.self.inside.taken + c.in-Ok.taken } in
    let before : HasRead fed handed r = subst (λ (x : Reader). HasRead fed handed x) (sym c.self.view_is) h in
    let fine : c.self.inside.error ≡ None = c.in_default.is in
    let idle : c.self.inside.ready ≡ None = no_some c.self.inside.ready (sym c.is_some.ensures ∙ c.if-is_some.false) in
    let more = read_more fed handed r c.self.inside.replies c.gather.new.replies c.args.piece.now c.in-Ok.taken c.in-Ok.ready refl fine idle
    c.in-Ok.ensures.kind c.in-Ok.ensures.gathers before in
    subst (λ (o : Option ReplyError). ReadAs (fed ++ take c.in-Ok.taken c.args.piece.now) handed after o) (sym fine) (
      subst (λ (o : Option Reply). AreReplies (fed ++ take c.in-Ok.taken c.args.piece.now) (handed ++ option_to_list o) (kept c.gather.new.replies))
          (sym c.put_reply.ensures) more.0,
      more.1,
    )

pub returns-in-Err-clause-read : goal.returns-in-Err-clause-read
returns-in-Err-clause-read c = λ fed handed h.
    let r : Reader = record { kept = kept c.self.inside.replies; ready = c.self.inside.ready; error = c.self.inside.error; taken = c.self.inside.taken } in
    let after : Reader =
    record { kept = kept c.clear.new.self; ready = c.self.inside.ready; error = c.put_error.new.place; taken = c.self.inside.taken } in
    let before : HasRead fed handed r = subst (λ (x : Reader). HasRead fed handed x) (sym c.self.view_is) h in
    let fine : c.self.inside.error ≡ None = c.in_default.is in
    let idle : c.self.inside.ready ≡ None = no_some c.self.inside.ready (sym c.is_some.ensures ∙ c.if-is_some.false) in
    let refused = read_error fed handed r after c.self.inside.replies c.gather.new.replies c.args.piece.now c.in-Err.error refl fine idle idle
    c.in-Err.ensures.gathers before in
    subst (λ (o : Option ReplyError). ReadAs (fed ++ c.args.piece.now) handed after o)
    (sym (c.put_error.ensures ∙ ap (λ (e : ReplyError). Some e) c.copy-in-Err.ensures)) refused
