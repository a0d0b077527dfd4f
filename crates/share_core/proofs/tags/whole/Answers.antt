use Rattle.std.proofs.Common.{◌≡◌, ◌∙◌, ◌++◌, ◌∷◌, [], true, sym, subst}
use Rattle.dmap_tags.specs.Spelling.{is_spellable}
use Rattle.share_core.proofs.Spellable.{whole_spellable}
use Rattle.share_core.proofs.tags.whole.Goals as goal

pub tagged-requires : goal.tagged-requires
tagged-requires c =
    subst (λ t. is_spellable t ≡ true) (sym c.list-2.ensures)
    (whole_spellable c.args.of c.args.entries_of c.args.revision _ _ c.args.entries c.push.new.self (c.in_ok-push.ensures.ok ∙ (λ i. c.in_ok-tags.ensures i ++ c.list.ensures i ∷ [])) c.requires.short c.requires.few)
