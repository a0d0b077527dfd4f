use Rattle.std.proofs.Common.{◌≡◌, [], drop, Some, sym, ap, ◌∙◌, subst, arith}
use Rattle.std.proofs.lemmas.List.{drop_all}
use Rattle.std.proofs.lemmas.Result.{on_ok_weaker}
use Rattle.serde.specs.Event.{Logs, seq_begins, text}
use Rattle.serde_json.specs.Events.{SendsValue, SendsItems}
use Rattle.std.specs.Prelude.{OnOk}
use Rattle.dmap_tags.specs.Seen.{tree_with}
use Rattle.dmap_tags.specs.Tree.{trees_of}
use Rattle.dmap_tags.specs.declared.tree.Value.TheVariants.{List as Members}
use Rattle.dmap_show.specs.Readable.{AreTags}
use Rattle.dmap_json.specs.TagObject.{json_items, json_held, json_of}
use Rattle.dmap_json.proofs.Levels.{items_len_is, sends_tag}
use Rattle.dmap_json.proofs.writing.+send.Goals as goal

pub send_tag-returns-clause-sent : goal.send_tag-returns-clause-sent
send_tag-returns-clause-sent g t c =
    let inside = c.tag.inside in
    on_ok_weaker c.end_map.result (λ e.
    subst (λ tag. SendsValue (json_of tag) (g.S.Serializer.written c.args.out.now) (g.S.Serializer.written c.end_map.new.self)) c.tag.view_is
    (sends_tag inside.code inside.value _ _ _ _ _ _ _ _ _ c.in_ok-begin_map.ensures c.in_ok-key.ensures c.in_ok-send_code.ensures.sent c.in_ok-key-2.ensures
    (subst (λ x. Logs (g.S.Serializer.written c.key-2.new.self) (g.S.Serializer.written c.str.new.self) (text x)) (c.word.ensures inside.code) c.in_ok-str.ensures)
    c.in_ok-key-3.ensures c.in_ok-send_value.ensures.sent e)) c.end_map.ensures

pub send_tags-returns-clause-sent : goal.send_tags-returns-clause-sent
send_tags-returns-clause-sent g t c =
    let tags = c.args.tags.now in
    let end = g.S.Serializer.written c.end_seq.new.self in
    let nothing : drop c.loop-tag.tag-index tags ≡ [] = drop_all c.loop-tag.tag-index tags (omega (arith, c.loop-tag-test.false)) in
    on_ok_weaker c.end_seq.result (λ e.
    c.loop-tag.invariant.sent end (subst (λ ys. SendsItems (json_items (trees_of ys)) (g.S.Serializer.written c.loop-tag.out) end) (sym nothing) e)) c.end_seq.ensures

pub send_tags-returns-clause-held : goal.send_tags-returns-clause-held
send_tags-returns-clause-held g t c =
    let tags = c.args.tags.now in
    let nothing : drop c.loop-tag.tag-index tags ≡ [] = drop_all c.loop-tag.tag-index tags (omega (arith, c.loop-tag-test.false)) in
    on_ok_weaker c.end_seq.result (λ e. c.loop-tag.invariant.held (subst (λ ys. AreTags (trees_of ys)) (sym nothing) tt)) c.end_seq.ensures

pub send_value-returns-in_ok-begin_seq-in-List-clause-sent : goal.send_value-returns-in_ok-begin_seq-in-List-clause-sent
send_value-returns-in_ok-begin_seq-in-List-clause-sent g t c =
    let tags = c.as_slice-tags.result.now in
    let first = g.S.Serializer.written c.begin_seq.new.self in
    let begun = subst (λ n. Logs (g.S.Serializer.written c.args.out.now) first (seq_begins (Some n))) (sym (items_len_is tags)) c.in_ok-begin_seq-in-List.ensures in
    let whole : c.args.value.now ≡ Members tags = c.in-List.is ∙ ap Members (sym c.as_slice-tags.ensures) in
    subst (λ v. OnOk c.send_tags.result (SendsValue (json_held (tree_with c.args.code v)) (g.S.Serializer.written c.args.out.now) (g.S.Serializer.written c.send_tags.new.out))) (sym whole)
    (on_ok_weaker c.send_tags.result (λ h. (first, begun, h)) c.send_tags.ensures.sent)
