use Rattle.std.proofs.Common.{filter, length, ap, ◌∙◌, arith}
use Rattle.share_history.specs.Keyed.{pairs_at}
use Rattle.share_listings.specs.Changes.{listed_at, is_deleted}
use Rattle.share_listings.proofs.OnSuccess.{if_ok}
use Rattle.share_listings.proofs.answers.changed_since.Goals as goal

pub returns : goal.returns
returns g c =
    let t = c.args.target in
    let look = c.args.look.now in
    record {
      rows =
          if_ok c.changed_at.result
          (λ changed rows bs since. rows bs since ∙ ap (pairs_at (listed_at bs t look)) (c.as_slice.ensures.value ∙ c.in_ok-keys.ensures bs t since.tells))
          c.changed_at.ensures.rows;
      gone =
          if_ok c.changed_at.result
          (λ changed gone bs since. gone bs since ∙ ap (filter (is_deleted bs t look)) (c.as_slice.ensures.value ∙ c.in_ok-keys.ensures bs t since.tells))
          c.changed_at.ensures.gone;
      members = c.changed_at.ensures.members;
      cost = λ bs tells. omega (arith, c.changed_at.ensures.cost, ap length (c.as_slice.ensures.value ∙ c.in_ok-keys.ensures bs t tells));
    }
