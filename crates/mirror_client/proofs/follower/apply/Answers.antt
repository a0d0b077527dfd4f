use Rattle.std.proofs.Common.{◌≡◌, [], ◌∷◌, length, ap, ◌∙◌}
use Rattle.share_history.specs.Mirror.{Held}
use Rattle.mirror_core.specs.Mirrored.{Mirrored}
use Rattle.mirror_core.proofs.AfterFacts.{after_listing}
use Rattle.mirror_client.specs.Steps.{with_listings}
use Rattle.mirror_client.proofs.follower.apply.Goals as goal

-- what the mirror holds after the body is what it holds after the listing that the body is
pub returns-in-Ok-clause-taken : goal.returns-in-Ok-clause-taken
returns-in-Ok-clause-taken c =
    let m = c.args.mirror.now in
    let done = c.in-Ok.ensures.applied in
    let now : c.apply.new.self ≡ with_listings c.args.mirror.now (done.0 ∷ []) =
    done.3 ∙ ap (λ (h : Held). record { target = m.target; query = m.query; meta = m.meta; held = h }) (after_listing m.target m.held done.0 c.args.tag.now done.1) in (
      done.0,
      done.1,
      done.2,
      now,
      done.4
          ∙ ap (λ (n : Mirrored). record {
            revision = done.0.revision;
            delta = done.0.is_delta;
            put = length done.0.rows;
            dropped = length done.0.gone;
            rows = length n.held.rows;
          }) now,
    )
