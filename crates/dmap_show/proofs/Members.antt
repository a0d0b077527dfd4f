-- The lines of a list are its own line and those of its members.
use Rattle.std.proofs.Common.{◌≡◌, ◌+◌, ◌++◌, ◌∙◌, ℕ, List, Option, Some, suc, ap, append_assoc, arith}
use Rattle.std.specs.Option.{SomeIff}
use Rattle.dmap_tags.specs.Codes.{Four}
use Rattle.dmap_tags.specs.Seen.{tree_with}
use Rattle.dmap_tags.specs.Tree.{Tree, Trees, more, trees_of}
use Rattle.dmap_tags.specs.declared.tree.Value.{Value}
use Rattle.dmap_tags.specs.declared.tree.Value.TheVariants as value
use Rattle.dmap_show.specs.Readable.{AreTags, IsCode, HasValue, IsTag}
use Rattle.dmap_show.specs.Shown.{shown_line, shown_tag, shown_tags}

pub members_shown : (level below : ℕ) (c : Four) (v : Value) (ts : List Tree) (old line new : List ℕ) → v ≡ value.List ts → below ≡ level + 1
    → line ≡ old ++ shown_line level (tree_with c v) → new ≡ line ++ shown_tags below (trees_of ts) → new ≡ old ++ shown_tag level (tree_with c v)
members_shown level below c v ts old line new is deeper put added =
    let next : below ≡ suc level = omega arith in
    let own = rw is at put in
    rw is (
    added ∙ ap (λ (s : List ℕ). s ++ shown_tags below (trees_of ts)) own
    ∙ append_assoc old (shown_line level (tree_with c (value.List ts))) (shown_tags below (trees_of ts))
    ∙ ap (λ (k : ℕ). old ++ (shown_line level (tree_with c (value.List ts)) ++ shown_tags k (trees_of ts))) next
    )

pub members_held : (c : Four) (v : Value) (ts : List Tree) → v ≡ value.List ts → IsCode c × HasValue (tree_with c v) → AreTags (trees_of ts) → IsTag (tree_with c v)
members_held c v ts is held members = rw is (held.0, members)

pub level_below : (P : Type 0) (below v : ℕ) (r : Option ℕ) → r ≡ Some below → SomeIff r P v → below ≡ v
level_below P below v r is sum = (rw is at sum).1

-- a tag's lines were appended, and those of the tags after it are left
pub tag_added : (level : ℕ) (t : Tree) (rest : Trees) (old new all : List ℕ) → new ≡ old ++ shown_tag level t → old ++ shown_tags level (more t rest) ≡ all → new ++ shown_tags level rest ≡ all
tag_added level t rest old new all put left = ap (λ (s : List ℕ). s ++ shown_tags level rest) put ∙ append_assoc old (shown_tag level t) (shown_tags level rest) ∙ left
