use Rattle.std.proofs.Common.{ap, ◌++◌, ◌∙◌, rules}
use Rattle.dmap_tags.specs.Spelling.{spelling}
use Rattle.listing_plan.proofs.Moves.{all_written, part_written}
use Rattle.listing_plan.proofs.plan.write_tag_by.Goals as goal

pub returns-in_err-push_measured : goal.returns-in_err-push_measured
returns-in_err-push_measured g c = search rules

pub returns : goal.returns
returns g c =
    let whole = ap (λ page. page ++ spelling c.args.tag.now) c.requires.empty in
    record {
      written = all_written _ _ _ _ _ _ _ _ _ _ _ _ whole c.in_ok-push_measured.ensures.pushes c.flush.ensures.pushes c.flush.ensures.empty;
      part = part_written _ _ _ _ _ _ _ _ _ _ _ _ whole c.in_ok-push_measured.ensures.pushes c.flush.ensures.pushes;
      count = search rules;
      failed = search rules;
      beside = c.flush.ensures.beside ∙ c.in_ok-push_measured.ensures.beside;
    }
