use Rattle.std.proofs.Common.{◌≡◌, Some, ◌==◌, ◌||◌, string_bytes, nat_cmp, rules, ap, sym, subst, ◌∙◌}
use Rattle.std.specs.String.{string_cmp}
use Rattle.std.specs.Cmp.Lexicographic.{slice_cmp}
use Rattle.std.specs.BTreeMap.{UpdatesBy}
use Rattle.prop_index.specs.IdSets.{has}
use Rattle.prop_index.proofs.UnderFacts.{ids_in, changes, used_or_same, puts}
use Rattle.prop_index.proofs.texts.TextIds.put_first.Goals as goal

-- the new set has the id, and no other set changed
pub invariant_of-self-2 : goal.invariant_of-self-2
invariant_of-self-2 c =
    record {
      used = used_or_same (string_bytes c.in_ok-from_str.field-0) c.args.self.now.ids c.insert.new.self (Some c.add.new.ids) c.insert.result
          c.insert.ensures.updates c.insert.ensures.err c.args.self.now.used c.in_ok-add.ensures.some;
    }

pub returns-clause-ok : goal.returns-clause-ok
returns-clause-ok c =
    let m = c.args.self.now.ids in
    let ids = c.add.new.ids in
    let same : string_bytes c.in_ok-from_str.field-0 ≡ c.args.text.now = search rules in
    let updates = subst (λ t. UpdatesBy string_cmp (λ k. slice_cmp nat_cmp t (string_bytes k)) m c.insert.new.self (Some ids)) same c.in_ok-insert.ensures.updates in
    puts c.args.text.now m c.insert.new.self (Some ids) (changes c.args.text.now m c.insert.new.self (Some ids) updates) c.args.id c.requires.filled
    (λ q. c.in_ok-add.ensures.ok q ∙ ap (λ ks. has q ks || (q == c.args.id)) (c.new-ids.ensures.empty ∙ sym (ap ids_in c.requires.free)))
