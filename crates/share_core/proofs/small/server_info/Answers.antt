use Rattle.std.proofs.Common.{rules}
use Rattle.share_replies.specs.SmallBodies.{server_info_body}
use Rattle.share_core.proofs.Spellable.{server_info_spellable, spellable_as}
use Rattle.share_core.proofs.small.server_info.Goals as goal

pub tagged-requires : goal.tagged-requires
tagged-requires c = spellable_as (server_info_body c.args.name.now) c.list.result (search (rules, c.in_ok-tags.ensures.items, c.in_ok-name.ensures)) (server_info_spellable c.args.name.now c.requires)
