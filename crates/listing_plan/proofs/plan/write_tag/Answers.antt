use Rattle.std.proofs.Common.{rules}
use Rattle.listing_plan.proofs.plan.write_tag.Goals as goal

pub returns-then-len-le-SHORT_PAGE_BYTES : goal.returns-then-len-le-SHORT_PAGE_BYTES
returns-then-len-le-SHORT_PAGE_BYTES g c = search rules

pub returns : goal.returns
returns g c = search rules
