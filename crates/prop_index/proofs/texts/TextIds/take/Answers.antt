use Rattle.std.proofs.Common.{◌≡◌, true, false, Some, None, ◌==◌, ◌&&◌, not, rules, ap, sym, refl, ◌∙◌}
use Rattle.std.specs.BTreeMap.{get_by_text}
use Rattle.prop_index.specs.IdSets.{has, is_nil}
use Rattle.prop_index.proofs.UnderFacts.{ids_in, changes, changes_again, nothing, used, takes}
use Rattle.prop_index.proofs.texts.TextIds.take.Goals as goal

pub invariant_of-self-then-is_last : goal.invariant_of-self-then-is_last
invariant_of-self-then-is_last c =
    let m = c.args.self.now.ids in
    let w = c.is_last.new.ids in
    let mid = c.get_mut.follows.lender w in
    let changed = changes_again c.args.text.now m mid c.remove.new.self (Some w) None (changes c.args.text.now m mid (Some w) ((c.get_mut.follows.holds w).3 (search rules)))
    (changes c.args.text.now mid c.remove.new.self None c.remove.ensures.updates) in
    record { used = used c.args.text.now m c.remove.new.self None changed c.args.self.now.used refl }

pub invariant_of-self-else-is_last : goal.invariant_of-self-else-is_last
invariant_of-self-else-is_last c =
    let m = c.args.self.now.ids in
    let w = c.is_last.new.ids in
    let changed = changes c.args.text.now m (c.get_mut.follows.lender w) (Some w) ((c.get_mut.follows.holds w).3 (search rules)) in
    let left : is_nil w.keys ≡ false = search rules in
    record { used = used c.args.text.now m (c.get_mut.follows.lender w) (Some w) changed c.args.self.now.used left }

pub returns-then-is_last : goal.returns-then-is_last
returns-then-is_last c =
    let m = c.args.self.now.ids in
    let w = c.is_last.new.ids in
    let mid = c.get_mut.follows.lender w in
    let changed = changes_again c.args.text.now m mid c.remove.new.self (Some w) None (changes c.args.text.now m mid (Some w) ((c.get_mut.follows.holds w).3 (search rules)))
    (changes c.args.text.now mid c.remove.new.self None c.remove.ensures.updates) in
    let value : Some c.in-Some.ids.now ≡ get_by_text m c.args.text.now = search rules in
    let none : is_nil w.keys ≡ true = search rules in
    takes c.args.text.now m c.remove.new.self None changed c.args.id
    (λ q. sym (nothing q w.keys none) ∙ c.is_last.ensures.taken q ∙ ap (λ o. has q (ids_in o) && not (q == c.args.id)) value)

pub returns-else-is_last : goal.returns-else-is_last
returns-else-is_last c =
    let m = c.args.self.now.ids in
    let w = c.is_last.new.ids in
    let changed = changes c.args.text.now m (c.get_mut.follows.lender w) (Some w) ((c.get_mut.follows.holds w).3 (search rules)) in
    let value : Some c.in-Some.ids.now ≡ get_by_text m c.args.text.now = search rules in
    takes c.args.text.now m (c.get_mut.follows.lender w) (Some w) changed c.args.id
    (λ q. c.is_last.ensures.taken q ∙ ap (λ o. has q (ids_in o) && not (q == c.args.id)) value)
