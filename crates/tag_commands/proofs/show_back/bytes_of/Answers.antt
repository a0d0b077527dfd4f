use Rattle.std.proofs.Common.{◌≡◌, ◌+◌, ◌∷◌, ◌++◌, suc, List, Err, true, false, drop, sym, ap, ◌∙◌, append_assoc, add-one, drop-cons}
use Rattle.dmap_tags.specs.Spelling.{is_spellable, spelling, spellings}
use Rattle.dmap_tags.specs.Tree.{Tree, trees_of}
use Rattle.dmap_tags.proofs.Lengths.{spellable_at}
use Rattle.tag_commands.proofs.show_back.bytes_of.Goals as goal

pub unreachable-requires : goal.unreachable-requires
unreachable-requires c =
    let tag = c.tag-item.result in
    let good : is_spellable tag ≡ true = ap is_spellable c.tag-item.is ∙ spellable_at c.args.tags.now c.loop-tag.tag-index tag c.requires c.loop-tag-test.true in
    let bad : is_spellable tag ≡ false = c.in-Err-TooLong.ensures.too_long.0 (ap Err c.in-Err-TooLong.field-0-is) in
    let same : true ≡ false = sym good ∙ bad in absurd (cc)

pub unreachable-unreachable : goal.unreachable-unreachable
unreachable-unreachable c = c.unreachable.result

pub loop-tag-preserved : goal.loop-tag-preserved
loop-tag-preserved c =
    let tags = c.args.tags.now in
    let i = c.loop-tag.tag-index in
    let tag = c.tag-item.result in
    let rest = drop (i + 1) tags in
    let split : drop i tags ≡ tag ∷ rest =
    drop-cons tags i tag c.loop-tag-test.true ∙ ap (λ (t : Tree). t ∷ drop (suc i) tags) (sym c.tag-item.is) ∙ ap (λ n. tag ∷ drop n tags) (sym (add-one i)) in
    ap (λ l. l ++ spellings (trees_of rest)) c.in-Ok.ensures.spelled ∙ append_assoc c.loop-tag.bytes.items (spelling tag) (spellings (trees_of rest))
    ∙ ap (λ (l : List Tree). c.loop-tag.bytes.items ++ spellings (trees_of l)) (sym split) ∙ c.loop-tag.invariant
