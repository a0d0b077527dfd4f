-- A shown line is taken apart into what it was made of.
use Rattle.std.proofs.Common.{◌≡◌, ap, sym, subst, ◌∙◌, Some, ℕ}
use Rattle.std.specs.Prelude.{IfOk}
use Rattle.dmap_tags.specs.Tree.{tree_code}
use Rattle.dmap_show.specs.TextLines.{before, behind}
use Rattle.dmap_show.specs.Shown.{word_of}
use Rattle.dmap_show.specs.Parts.{head_value, Spells, kind_named}
use Rattle.dmap_show.proofs.Taken.{parts_of, head_spells, head_code}
use Rattle.dmap_show.proofs.row.guess.Goals as goal

pub returns-clause-only : goal.returns-clause-only
returns-clause-only c = λ level t h e.
    let parts = parts_of level t c.args.bare.now e in
    let indent = c.split_indent-level.ensures in
    let first = c.split_at_byte.ensures in
    let second = c.split_at_byte-2.ensures in
    let code = first.0 ∙ ap (before 32) indent.1 ∙ parts.code in
    let rest = first.1 ∙ ap (behind 32) indent.1 in
    let word = second.0 ∙ ap (before 32) rest ∙ parts.word in
    let text = second.1 ∙ ap (behind 32) rest ∙ parts.text in
    let spells = subst (λ w. Spells (kind_named w) c.split_at_byte-2.result.1.now (head_value t)) (sym word) (subst (λ x. Spells (kind_named (word_of t)) x (head_value t)) (sym text) (head_spells t h)) in
    let read = c.guess_by.ensures.only (tree_code t) (head_value t) (head_code t h) code spells in
    subst (λ (n : ℕ). IfOk c.guess_by.result (λ r. r ≡ Some (record { level = n; code = tree_code t; value = head_value t }))) (indent.0 ∙ parts.pairs) read
