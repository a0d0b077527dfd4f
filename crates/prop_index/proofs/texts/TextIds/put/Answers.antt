use Rattle.std.proofs.Common.{◌≡◌, true, Some, ◌==◌, ◌||◌, rules, ap, ◌∙◌}
use Rattle.std.specs.BTreeMap.{get_by_text}
use Rattle.std.proofs.lemmas.Result.{on_ok_weaker, on_err_weaker}
use Rattle.std.proofs.lemmas.Slice.Eq.{bytes_eq-Decides}
use Rattle.share_history.specs.BrowseListings.{is_filled}
use Rattle.prop_index.specs.IdSets.{has, is_unused}
use Rattle.prop_index.proofs.UnderFacts.{ids_in, changes, used, puts, same}
use Rattle.prop_index.proofs.texts.TextIds.put.Goals as goal

-- the set that was lent has the id too, and no other set changed
pub invariant_of-self : goal.invariant_of-self
invariant_of-self c =
    let m = c.args.self.now.ids in
    let w = c.add.new.ids in
    let changed = changes c.args.text.now m (c.get_mut.follows.lender w) (Some w) ((c.get_mut.follows.holds w).3 (search rules)) in
    let value : Some c.in-Some.ids.now ≡ get_by_text m c.args.text.now = search rules in
    record {
      used = used c.args.text.now m (c.get_mut.follows.lender w) (Some w) changed c.args.self.now.used
          (c.add.ensures.none_lost (ap is_unused value ∙ c.args.self.now.used c.args.text.now));
    }

pub returns-in-Some-clause-ok : goal.returns-in-Some-clause-ok
returns-in-Some-clause-ok c =
    let m = c.args.self.now.ids in
    let w = c.add.new.ids in
    let changed = changes c.args.text.now m (c.get_mut.follows.lender w) (Some w) ((c.get_mut.follows.holds w).3 (search rules)) in
    let value : Some c.in-Some.ids.now ≡ get_by_text m c.args.text.now = search rules in
    let filled : is_filled c.args.text.now ≡ true = search rules in
    on_ok_weaker c.add.result
    (λ put. puts c.args.text.now m (c.get_mut.follows.lender w) (Some w) changed c.args.id filled
    (λ q. put q ∙ ap (λ o. has q (ids_in o) || (q == c.args.id)) value))
    c.add.ensures.ok

pub returns-in-Some-clause-err : goal.returns-in-Some-clause-err
returns-in-Some-clause-err c =
    let m = c.args.self.now.ids in
    let w = c.add.new.ids in
    let changed = changes c.args.text.now m (c.get_mut.follows.lender w) (Some w) ((c.get_mut.follows.holds w).3 (search rules)) in
    let value : Some c.in-Some.ids.now ≡ get_by_text m c.args.text.now = search rules in
    on_err_weaker c.add.result
    (λ kept. same c.args.text.now m (c.get_mut.follows.lender w) (Some w) changed
    (λ q h. kept ∙ ap ids_in (value ∙ ap (get_by_text m) ((bytes_eq-Decides c.args.text.now q).0 h))))
    c.add.ensures.err
