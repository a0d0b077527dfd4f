-- The code of the tag is the one that its tree begins with.
use Rattle.std.proofs.Common.{ap, ◌∙◌}
use Rattle.std.specs.List.{list_any}
use Rattle.dmap_tags.specs.Codes.{is_code}
use Rattle.mirror_core.specs.Bodies.{listing_codes}
use Rattle.mirror_core.proofs.TagFacts.{code_seen}
use Rattle.mirror_core.proofs.tags.is_listings.Goals as goal

pub returns : goal.returns
returns c = c.is_one_of.ensures ∙ ap (λ d. list_any (λ e. is_code e d) listing_codes) (code_seen c.tag.inside.code c.tag.inside.value c.args.tag.now c.tag.view_is)
