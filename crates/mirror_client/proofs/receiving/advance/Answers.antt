use Rattle.std.proofs.Common.{◌+◌, ◌++◌, ℕ, List, [], sym, ap, ◌∙◌, subst, arith, length-append}
use Rattle.std.specs.Prelude.{Ok}
use Rattle.http_client.specs.Replies.{HasRead, fed_with}
use Rattle.mirror_client.specs.declared.refusal.FollowError.{FollowError}
use Rattle.mirror_client.specs.Points.{ReadAhead, point}
use Rattle.mirror_client.specs.Readers.{refused_by}
use Rattle.mirror_client.specs.Stopping.{NoReply}
use Rattle.mirror_client.proofs.ReaderFacts.{bad_within, comes_whole, goes_on, refusal}
use Rattle.mirror_client.proofs.receiving.advance.Goals as goal

pub error_after-requires : goal.error_after-requires
error_after-requires c = λ at is.
    let read = c.in-Err.ensures.read c.args.reader.now.kept [] c.requires.begun.read in
    let within = bad_within (c.args.reader.now.kept ++ c.unused_bytes.result.now) c.feed.new.self c.in-Err.error at c.in-Err.ensures.error is read in
    omega (arith, c.used_count.ensures, c.requires.few, within, length-append c.args.reader.now.kept c.unused_bytes.result.now, c.held-held.ensures.kept, c.held-held.ensures.few, c.unused_bytes.ensures.few)

pub returns-in-None-clause-advances : goal.returns-in-None-clause-advances
returns-in-None-clause-advances c =
    goes_on c.args.reader.now c.feed.new.self c.next.new.self c.args.incoming.now c.skip.new.self c.unused_bytes.result.now c.in-Ok.n c.unused_bytes.ensures.bytes c.requires.begun
    c.in-Ok.ensures.took.0 c.in-Ok.ensures.took.1 c.in-Ok.ensures.error c.in-None.ensures.result c.in-None.ensures.rest
    (c.in-None.ensures.read (fed_with c.args.reader.now.kept c.unused_bytes.result.now (Ok c.in-Ok.n)) [] (c.in-Ok.ensures.read c.args.reader.now.kept [] c.requires.begun.read))
    c.skip.ensures

pub returns-in-Some-clause-advances : goal.returns-in-Some-clause-advances
returns-in-Some-clause-advances c =
    comes_whole c.args.reader.now c.feed.new.self c.next.new.self c.args.incoming.now c.count.new.self c.unused_bytes.result.now c.in-Ok.n c.held-held.result c.in-Some.reply
    c.unused_bytes.ensures.bytes c.in-Ok.ensures.took.0 c.in-Ok.ensures.error c.in-Some.ensures.rest c.in-Some.ensures.kept
    (c.in-Some.ensures.read (fed_with c.args.reader.now.kept c.unused_bytes.result.now (Ok c.in-Ok.n)) [] (c.in-Ok.ensures.read c.args.reader.now.kept [] c.requires.begun.read))
    c.held-held.ensures.kept c.held-held.ensures.few c.unused_bytes.ensures.few
    (c.count.ensures ∙ ap (λ (r : ReadAhead). record { unused = r.unused; used = r.used + (c.held-held.result + c.in-Ok.n) }) c.skip.ensures)

pub returns-in-Err-clause-cause : goal.returns-in-Err-clause-cause
returns-in-Err-clause-cause c = λ taken left.
    let read = c.in-Err.ensures.read c.args.reader.now.kept [] c.requires.begun.read in
    let fed : HasRead (c.args.reader.now.kept ++ c.args.incoming.now.unused) [] c.feed.new.self =
    subst (λ (bytes : List ℕ). HasRead (c.args.reader.now.kept ++ bytes) [] c.feed.new.self) c.unused_bytes.ensures.bytes read in
    subst (λ (e : FollowError). NoReply (point taken left (c.args.reader.now.kept ++ c.args.incoming.now.unused) c.args.incoming.now.used) e)
    (sym (c.error_after.ensures ∙ ap (λ (n : ℕ). refused_by n c.in-Err.error) c.used_count.ensures))
    (refusal c.args.reader.now.kept c.args.incoming.now.unused c.args.incoming.now.used c.feed.new.self c.in-Err.error taken left c.in-Err.ensures.error fed)
