use Rattle.std.proofs.Common.{◌≡◌, ◌∙◌, List, ℕ, true, sym, subst}
use Rattle.std.proofs.lemmas.Bool.{true_from_ne_false, true≢false}
use Rattle.http_heads.specs.declared.kind.Kind.{Kind}
use Rattle.http_heads.specs.declared.kind.Kind.TheVariants.{Request}
use Rattle.http_heads.specs.Gathering.{is_whole}
use Rattle.http_heads.specs.Heads.{IsHead}
use Rattle.http_heads.specs.Messages.{IsMessage}
use Rattle.http_heads.proofs.Messages.{moves, whole_message}
use Rattle.http_front.specs.Asks.{Asks}
use Rattle.http_front.proofs.ValidWants.{asks_valid}
use Rattle.http_front.proofs.reader.gather.Goals as goal

-- the message that is whole encodes the request
pub returns-clause-gathers : goal.returns-clause-gathers
returns-clause-gathers c =
    let old = c.args.requests.now in
    let new = c.take.new.self in
    let part = c.in_ok-taken.ensures.takes in
    let whole : is_whole c.take.new.self.phase ≡ true = true_from_ne_false _ (λ e. true≢false (c.in-Some.ensures.none.1 e)) in
    let message : IsMessage Request c.take.new.self.message =
    subst (λ (k : Kind). IsMessage k c.take.new.self.message) (c.in_ok-taken.ensures.kind ∙ c.requires.kind)
    (whole_message new.kind new.message new.phase part.stands whole) in
    let ask = c.in_ok-ask.ensures in (
      part.within,
      c.clear.ensures.idle,
      moves old new c.args.piece.now c.in_ok-taken.taken c.in_ok-taken.ensures.kind c.requires.at c.requires.partial part,
      (
        c.take.new.self.message,
        sym part.kept,
        (
          ask.0,
          (message, subst (λ (b : List ℕ). IsHead b ask.0) c.in-Some.ensures.parts.0 ask.1),
          subst (λ (b : List ℕ). Asks c.args.role ask.0 b c.in_ok-ask.ask) c.in-Some.ensures.parts.1 ask.2,
        ),
      ),
    )

pub returns-clause-valid : goal.returns-clause-valid
returns-clause-valid c = (asks_valid c.args.role c.in_ok-ask.ensures.0 c.in-Some.body.now c.in_ok-ask.ask c.in_ok-ask.ensures.2).0

pub returns-clause-readable : goal.returns-clause-readable
returns-clause-readable c = (asks_valid c.args.role c.in_ok-ask.ensures.0 c.in-Some.body.now c.in_ok-ask.ask c.in_ok-ask.ensures.2).1
