use Rattle.std.proofs.Common.{◌≡◌, [], rules, subst, sym}
use Rattle.std.specs.List.Sorted.{IsStrictlySortedBy}
use Rattle.share_history.specs.Keyed.{AreAscending}
use Rattle.prop_index.specs.Ids.{ids_under}
use Rattle.prop_index.proofs.texts.TextIds.ids.Goals as goal

-- no ids ascend
pub returns-in-None-clause-ascending : goal.returns-in-None-clause-ascending
unfolding IsStrictlySortedBy
returns-in-None-clause-ascending c =
    let none : ids_under c.args.self.now c.args.text.now ≡ [] = search rules in subst AreAscending (sym none) tt
