use Rattle.std.proofs.Common.{◌≡◌, true, false, ◌∷◌, rules, ap, sym, ◌∙◌}
use Rattle.std.specs.Cmp.Lexicographic.{slice_cmp, nat_list_cmp_total, texts_ties}
use Rattle.std.specs.Ordering.{nat_cmp, eq_by_cmp}
use Rattle.std.specs.FinMap.{find, get-from_entries}
use Rattle.outside_disks.specs.Closed.{entries_of, contents_of}
use Rattle.outside_disks.proofs.Names.{found, passed}
use Rattle.outside_disks.proofs.memory.closed.ClosedFiles.bytes_of.Goals as goal

pub loop-rest-init : goal.loop-rest-init
loop-rest-init c = get-from_entries nat_list_cmp_total _ _

pub returns-then-eq : goal.returns-then-eq
returns-then-eq c =
    let is : eq_by_cmp (slice_cmp nat_cmp) c.args.name.now c.in-File.kept.items ≡ true =
    (let ties = texts_ties c.args.name.now c.in-File.kept.items in search rules) in
    c.as_slice-then-eq.ensures.value
    ∙ sym (found (contents_of c.args.self.now) c.args.name.now _ c.in-File.bytes.items _ _ (ap entries_of c.in-File.is) c.loop-rest.invariant is)

pub loop-rest-preserved : goal.loop-rest-preserved
loop-rest-preserved c =
    let is : eq_by_cmp (slice_cmp nat_cmp) c.args.name.now c.in-File.kept.items ≡ false =
    (let ties = texts_ties c.args.name.now c.in-File.kept.items in search rules) in
    passed (contents_of c.args.self.now) c.args.name.now _ c.in-File.bytes.items _ _ (ap entries_of c.in-File.is) c.loop-rest.invariant is
    ∙ ap (λ closed. find (slice_cmp nat_cmp) c.args.name.now (entries_of closed)) (sym c.deref-rest.ensures)
