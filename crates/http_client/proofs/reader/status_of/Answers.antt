use Rattle.std.proofs.Common.{◌≡◌, true, length, refl, subst}
use Rattle.std.proofs.lemmas.Bool.{true_from_ne_false, true≢false}
use Rattle.http_heads.specs.declared.kind.Kind.{Kind}
use Rattle.http_heads.specs.declared.kind.Kind.TheVariants as kind
use Rattle.http_heads.specs.declared.refusal.HeadError.TheVariants.{Head}
use Rattle.http_heads.specs.Gathering.{is_whole}
use Rattle.http_heads.specs.Heads.{RefusesReply}
use Rattle.http_heads.specs.Messages.{IsMessage}
use Rattle.http_heads.proofs.Messages.{not_told, whole_message}
use Rattle.http_client.proofs.reader.status_of.Goals as goal

-- a whole reply has a head that is read
pub returns-in_err-head-2 : goal.returns-in_err-head-2
returns-in_err-head-2 c =
    let g = c.args.replies.now in
    let whole : is_whole c.args.replies.now.phase ≡ true = true_from_ne_false _ (λ e. true≢false (c.in_ok-head.ensures.none.1 e)) in
    let message : IsMessage kind.Reply c.args.replies.now.message =
    subst (λ (k : Kind). IsMessage k c.args.replies.now.message) c.requires.kind (whole_message g.kind g.message g.phase c.requires.at whole) in
    let refuses : RefusesReply c.args.replies.now.message.head = subst RefusesReply c.in_ok-head.ensures.parts.0 c.in_err-head-2.ensures in
    absurd (not_told kind.Reply g.message.head message.lines (length g.message.body) Head message.tells (refl, refuses))
