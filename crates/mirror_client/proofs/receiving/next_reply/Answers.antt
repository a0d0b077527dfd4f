use Rattle.std.proofs.Common.{◌≡◌, ◌≢◌, ◌+◌, ℕ, [], Bool, Option, refl, sym, ◌∙◌, subst, arith}
use Rattle.std.specs.Prelude.{IfSome, MatchBool}
use Rattle.std.specs.Io.KnownBytes.{IsAtEnd, prepend_known}
use Rattle.http_client.specs.Replies.{Reply}
use Rattle.mirror_client.specs.Points.{point}
use Rattle.mirror_client.specs.Readers.{Advances}
use Rattle.mirror_client.specs.Stopping.{CountsFault, EndsEarly, NoReply}
use Rattle.mirror_client.proofs.ReaderFacts.{cause_owed, ended, replied}
use Rattle.mirror_client.proofs.receiving.next_reply.Goals as goal

pub returns-in-Ok-false-clause-cause : goal.returns-in-Ok-false-clause-cause
returns-in-Ok-false-clause-cause g c =
    let none =
    subst (λ (b : Bool). MatchBool b (c.refill.new.self.unused ≢ []) ((c.refill.new.self.unused ≡ []) × IsAtEnd (g.K.Source.left c.refill.new.source)))
    c.in-Ok-false.field-0-test c.in-Ok-false.ensures.some in
    let used : c.used_count.result ≡ c.args.incoming.now.used = c.used_count.ensures ∙ c.refill.ensures.used ∙ c.loop-incoming.invariant.used in
    subst (λ (n : ℕ). IfSome (prepend_known c.args.incoming.now.unused (g.K.Source.left c.args.link.now)) (λ bytes. EndsEarly bytes c.args.incoming.now.used (n + c.held-held.result)))
    (sym used)
    (ended (g.K.Sink.taken c.args.link.now) (prepend_known c.args.incoming.now.unused (g.K.Source.left c.args.link.now)) (g.K.Source.left c.refill.new.source)
    c.loop-incoming.reader.kept c.refill.new.self.unused c.args.incoming.now.used c.held-held.result c.loop-incoming.reader c.loop-incoming.invariant.begun refl
    none.0 none.1 c.held-held.ensures.kept
    (c.in-Ok-false.ensures.read (prepend_known c.args.incoming.now.unused (g.K.Source.left c.args.link.now)) c.loop-incoming.reader.kept c.loop-incoming.invariant.read))

pub returns-in-Err-clause-cause : goal.returns-in-Err-clause-cause
returns-in-Err-clause-cause g c =
    c.in-Err.ensures.cause (point (g.K.Sink.taken c.args.link.now) (g.K.Source.left c.args.link.now) c.args.incoming.now.unused c.args.incoming.now.used)

pub returns-in-Ok-Some-clause-replied : goal.returns-in-Ok-Some-clause-replied
returns-in-Ok-Some-clause-replied g c =
    let taken : g.K.Sink.taken c.refill.new.source ≡ g.K.Sink.taken c.args.link.now =
    sym (g.met.K.Link.read_leaves_taken c.refill.new.source) ∙ c.refill.ensures.beside ∙ g.met.K.Link.read_leaves_taken c.loop-incoming.link
    ∙ c.loop-incoming.invariant.taken in
    let used : c.refill.new.self.used ≡ c.args.incoming.now.used = c.refill.ensures.used ∙ c.loop-incoming.invariant.used in
    replied (point (g.K.Sink.taken c.args.link.now) (g.K.Source.left c.args.link.now) c.args.incoming.now.unused c.args.incoming.now.used)
    (g.K.Sink.taken c.refill.new.source) (g.K.Source.left c.refill.new.source) c.loop-incoming.reader c.refill.new.self c.advance.new.incoming c.in-Ok-Some.reply
    (subst (λ (o : Option Reply). Advances c.loop-incoming.reader c.advance.new.reader c.refill.new.self c.advance.new.incoming o) c.in-Ok-Some.field-0-is
    c.in-Ok-Some.ensures.advances)
    taken (sym used)
    (c.in-Ok-true.ensures.read (prepend_known c.args.incoming.now.unused (g.K.Source.left c.args.link.now)) c.loop-incoming.reader.kept c.loop-incoming.invariant.read)

pub returns-in-Err-advance-clause-cause : goal.returns-in-Err-advance-clause-cause
returns-in-Err-advance-clause-cause g c =
    let used : c.refill.new.self.used ≡ c.args.incoming.now.used = c.refill.ensures.used ∙ c.loop-incoming.invariant.used in
    subst (λ (n : ℕ). NoReply (record {
      taken = g.K.Sink.taken c.args.link.now;
      owed = prepend_known c.args.incoming.now.unused (g.K.Source.left c.args.link.now);
      used = n;
    }) c.in-Err-advance.error) used
    (cause_owed (g.K.Sink.taken c.args.link.now) (prepend_known c.args.incoming.now.unused (g.K.Source.left c.args.link.now)) (g.K.Source.left c.refill.new.source)
    c.loop-incoming.reader.kept c.refill.new.self.unused c.refill.new.self.used c.in-Err-advance.error
    (c.in-Ok-true.ensures.read (prepend_known c.args.incoming.now.unused (g.K.Source.left c.args.link.now)) c.loop-incoming.reader.kept c.loop-incoming.invariant.read)
    c.in-Err-advance.ensures.cause)

pub returns-in-Err-advance-clause-count : goal.returns-in-Err-advance-clause-count
returns-in-Err-advance-clause-count g c =
    subst (λ (n : ℕ). CountsFault (g.K.Faulted.faults c.args.link.now) n c.in-Err-advance.error)
    (sym (c.in-Ok-true.ensures.count ∙ c.loop-incoming.invariant.faultless))
    (c.in-Err-advance.ensures.count (g.K.Faulted.faults c.args.link.now))

pub returns-in-Ok-false-clause-grows : goal.returns-in-Ok-false-clause-grows
returns-in-Ok-false-clause-grows g c = omega arith

pub returns-in-Ok-false-clause-taken : goal.returns-in-Ok-false-clause-taken
returns-in-Ok-false-clause-taken g c =
    sym (g.met.K.Link.read_leaves_taken c.refill.new.source) ∙ c.refill.ensures.beside ∙ g.met.K.Link.read_leaves_taken c.loop-incoming.link
    ∙ c.loop-incoming.invariant.taken

pub returns-in-Err-clause-grows : goal.returns-in-Err-clause-grows
returns-in-Err-clause-grows g c = omega arith

pub returns-in-Err-clause-taken : goal.returns-in-Err-clause-taken
returns-in-Err-clause-taken g c =
    sym (g.met.K.Link.read_leaves_taken c.refill.new.source) ∙ c.refill.ensures.beside ∙ g.met.K.Link.read_leaves_taken c.loop-incoming.link
    ∙ c.loop-incoming.invariant.taken

pub returns-in-Ok-Some-clause-taken : goal.returns-in-Ok-Some-clause-taken
returns-in-Ok-Some-clause-taken g c =
    sym (g.met.K.Link.read_leaves_taken c.refill.new.source) ∙ c.refill.ensures.beside ∙ g.met.K.Link.read_leaves_taken c.loop-incoming.link
    ∙ c.loop-incoming.invariant.taken

pub returns-in-Err-advance-clause-taken : goal.returns-in-Err-advance-clause-taken
returns-in-Err-advance-clause-taken g c =
    sym (g.met.K.Link.read_leaves_taken c.refill.new.source) ∙ c.refill.ensures.beside ∙ g.met.K.Link.read_leaves_taken c.loop-incoming.link
    ∙ c.loop-incoming.invariant.taken
