-- The rows of new ids are put first, which comes to the same.
use Rattle.std.proofs.Common.{◌≡◌, fold, length, rules, sym, ap, subst, ◌∙◌, arith}
use Rattle.share_history.specs.Keyed.{put_in, taken_out}
use Rattle.relayed_rows.specs.Differences.{new_rows}
use Rattle.relayed_rows.specs.Held.{AreFresh, AreHeld}
use Rattle.relayed_rows.specs.Changes.{rows_in, dropped_ids, fresh_rows}
use Rattle.relayed_rows.proofs.PutFacts.{fresh_are_fresh, all_held, put_once}
use Rattle.relayed_rows.proofs.RelayFacts.{ascending-new_rows, few_new, few_dropped}
use Rattle.relayed_rows.proofs.relay.make.Goals as goal

pub put_fresh-requires : goal.put_fresh-requires
put_fresh-requires c =
    let held = c.args.held.now.entries in
    let news = new_rows held (rows_in c.args.changes.now.entries) in
    let rows : c.as_slice.result.now ≡ news = c.as_slice.ensures.value ∙ c.in_ok-rows.ensures in
    let fresh : c.as_slice-4.result.now ≡ fresh_rows held news = c.as_slice-4.ensures.value ∙ c.in_ok-fresh.ensures ∙ ap (fresh_rows held) rows in
    subst (AreFresh held) (sym fresh) (fresh_are_fresh held news c.requires.library.ascends (ascending-new_rows held c.args.changes.now.entries c.requires))

pub overflow_cast-change : goal.overflow_cast-change
overflow_cast-change c =
    let count : c.len.result ≡ length c.in_ok-rows.rows.items = search rules in
    omega (arith, count, ap length c.in_ok-rows.ensures, few_new c.args.held.now.entries c.args.changes.now.entries c.requires)

pub overflow_cast-change-2 : goal.overflow_cast-change-2
overflow_cast-change-2 c =
    let count : c.len-2.result ≡ length c.in_ok-ids.ids.items = search rules in
    omega (arith, count, ap length c.in_ok-ids.ensures, few_dropped c.args.held.now.entries c.args.changes.now.entries c.requires)

pub put_over-requires : goal.put_over-requires
put_over-requires c =
    let held = c.args.held.now.entries in
    let news = new_rows held (rows_in c.args.changes.now.entries) in
    let rows : c.as_slice.result.now ≡ news = c.as_slice.ensures.value ∙ c.in_ok-rows.ensures in
    let fresh : c.as_slice-4.result.now ≡ fresh_rows held news = c.as_slice-4.ensures.value ∙ c.in_ok-fresh.ensures ∙ ap (fresh_rows held) rows in
    let put : c.put_fresh.new.held.entries ≡ fold put_in held (fresh_rows held news) = c.in_ok-put_fresh.ensures.put ∙ ap (fold put_in held) fresh in
    subst (λ l. AreHeld l c.in_ok-rows.rows.items) (sym put)
    (subst (AreHeld (fold put_in held (fresh_rows held news))) (sym c.in_ok-rows.ensures)
    (all_held held news c.requires.library.ascends (ascending-new_rows held c.args.changes.now.entries c.requires)))

pub returns-clause-made : goal.returns-clause-made
returns-clause-made c =
    let held = c.args.held.now.entries in
    let news = new_rows held (rows_in c.args.changes.now.entries) in
    let rows : c.as_slice.result.now ≡ news = c.as_slice.ensures.value ∙ c.in_ok-rows.ensures in
    let fresh : c.as_slice-4.result.now ≡ fresh_rows held news = c.as_slice-4.ensures.value ∙ c.in_ok-fresh.ensures ∙ ap (fresh_rows held) rows in
    let put : c.put_fresh.new.held.entries ≡ fold put_in held (fresh_rows held news) = c.in_ok-put_fresh.ensures.put ∙ ap (fold put_in held) fresh in
    let all : c.put_over.new.held.entries ≡ fold put_in held news =
    c.put_over.ensures ∙ (λ i. fold put_in (put i) (c.in_ok-rows.ensures i))
    ∙ put_once held news c.requires.library.ascends (ascending-new_rows held c.args.changes.now.entries c.requires) in
    let ids : c.as_slice-5.result.now ≡ dropped_ids held c.args.changes.now.entries = c.as_slice-5.ensures.value ∙ c.in_ok-ids.ensures in
    c.take_out.ensures ∙ (λ i. fold taken_out (all i) (ids i))
