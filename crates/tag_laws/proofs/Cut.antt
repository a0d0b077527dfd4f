-- The first lines of shown tags show tags: the tags that are left if the text is split after a line feed.
use Rattle.std.proofs.Common.{◌≡◌, ◌⊎◌, inl, inr, ℕ, suc, ◌≤◌, true, false, ◌==◌, List, [], ◌∷◌, ◌++◌, Option, Some, None, refl, sym, ap, ap₂, ◌∙◌, arith, append-nil}
use Rattle.std.proofs.lemmas.Bool.{and_parts, and_from, or_from, or_parts, true≢false}
use Rattle.std.specs.List.{AllByRecursion}
use Rattle.dmap_tags.specs.Codes.{Four}
use Rattle.dmap_tags.specs.Kinds.{is_list}
use Rattle.dmap_tags.specs.Tree.{Tree, leaf, list, Trees, none, more, trees_of, tree_list, levels, levels_in}
use Rattle.code_table.specs.declared.row.CodeRow.{CodeRow}
use Rattle.code_table.specs.Rows.{kind_in}
use Rattle.code_table.specs.Fits.{fits, all_fit}
use Rattle.dmap_show.specs.Shown.{shown_line, shown_tag, shown_tags}
use Rattle.dmap_show.specs.Readable.{IsTag, AreTags, IsReadable, Shows}
use Rattle.dmap_show.specs.TextLines.{has}
use Rattle.dmap_show.specs.Parts.{bare_line}
use Rattle.dmap_show.proofs.Taken.{has_mark, line_has}

-- tags that each fit the table at the top and are not too deep
abbrev pub TopFits : List CodeRow → Trees → Type 0
TopFits rows none = Unit {0}
TopFits rows (more t ts) = ((fits rows None t ≡ true) × (levels t ≤ 32)) × TopFits rows ts

abbrev pub HasText : List CodeRow → List ℕ → Type 0
HasText rows text = (ts : List Tree) × Shows rows text ts

pub are_tags : (rows : List CodeRow) (ts : List Tree) → AllByRecursion (λ t. IsReadable rows t) ts → AreTags (trees_of ts)
are_tags rows [] h = tt
are_tags rows (t ∷ ts) h = (h.0.tag, are_tags rows ts h.1)

pub tops_of : (rows : List CodeRow) (ts : List Tree) → AllByRecursion (λ t. IsReadable rows t) ts → TopFits rows (trees_of ts)
tops_of rows [] h = tt
tops_of rows (t ∷ ts) h = ((h.0.fits, h.0.shallow), tops_of rows ts h.1)

each_of : (rows : List CodeRow) (us : Trees) → AreTags us → TopFits rows us → AllByRecursion (λ t. IsReadable rows t) (tree_list us)
each_of rows none tags tops = tt
each_of rows (more t us) tags tops = (record { tag = tags.0; fits = tops.0.0; shallow = tops.0.1 }, each_of rows us tags.1 tops.1)

trees_back : (us : Trees) → trees_of (tree_list us) ≡ us
trees_back none = refl
trees_back (more t us) = ap (more t) (trees_back us)

pub of_trees : (rows : List CodeRow) (text : List ℕ) (us : Trees) → text ≡ shown_tags 0 us → AreTags us → TopFits rows us → HasText rows text
of_trees rows text us e tags tops = (tree_list us, record { lines = e ∙ ap (shown_tags 0) (sym (trees_back us)); each = each_of rows us tags tops })

-- nothing, or text that ends with a line feed
abbrev pub IsWhole : List ℕ → Type 0
IsWhole front = (front ≡ []) ⊎ ((x : List ℕ) × (front ≡ x ++ 10 ∷ []))

left_empty : (xs ys : List ℕ) → xs ++ ys ≡ [] → xs ≡ []
left_empty [] ys e = refl
left_empty (x ∷ xs) ys e = absurd (cc)

right_empty : (xs ys : List ℕ) → xs ++ ys ≡ [] → ys ≡ []
right_empty [] ys e = e
right_empty (x ∷ xs) ys e = absurd (cc)

not_empty : (xs : List ℕ) (z : ℕ) (ys : List ℕ) → xs ++ z ∷ ys ≡ [] → ⊥
not_empty [] z ys e = absurd (cc)
not_empty (x ∷ xs) z ys e = absurd (cc)

heads : {x y : ℕ} {xs ys : List ℕ} → x ∷ xs ≡ y ∷ ys → x ≡ y
heads e = cc

tails : {x y : ℕ} {xs ys : List ℕ} → x ∷ xs ≡ y ∷ ys → xs ≡ ys
tails e = cc

whole_end : (a f x : List ℕ) → a ++ f ≡ x ++ 10 ∷ [] → IsWhole f
whole_end [] f x e = inr (x, e)
whole_end (c ∷ a) f [] e = inl (right_empty a f (tails e))
whole_end (c ∷ a) f (d ∷ x) e = whole_end a f x (tails e)

whole_behind : (a f front : List ℕ) → front ≡ a ++ f → IsWhole front → IsWhole f
whole_behind a f front e (inl empty) = inl (right_empty a f (sym e ∙ empty))
whole_behind a f front e (inr w) = whole_end a f w.0 (sym e ∙ w.1)

-- before the last line feed of a line there is none
feed_last : (u y : List ℕ) (z : ℕ) (r : List ℕ) → has 10 y ≡ false → u ++ z ∷ r ≡ y ++ 10 ∷ [] → has 10 u ≡ false
feed_last [] y z r free e = refl
feed_last (a ∷ u) [] z r free e = absurd (not_empty u z r (tails e))
feed_last (a ∷ u) (b ∷ y) z r free e =
    let parts = or_parts (b == 10) (has 10 y) free in
    or_from (a == 10) (has 10 u) (ap (λ k. k == 10) (heads e) ∙ parts.0) (feed_last u y z r parts.1 (tails e))

nothing_in_line : (front y : List ℕ) (z : ℕ) (r : List ℕ) → IsWhole front → has 10 y ≡ false → y ++ 10 ∷ [] ≡ front ++ z ∷ r → front ≡ []
nothing_in_line front y z r (inl empty) free e = empty
nothing_in_line front y z r (inr w) free e = absurd (true≢false (sym (has_mark 10 w.0 []) ∙ sym (ap (has 10) w.1) ∙ feed_last front y z r free (sym e)))

-- one of two texts is split
abbrev Split : List ℕ → List ℕ → List ℕ → List ℕ → Type 0
Split a b front rest = ((f : List ℕ) × ((front ≡ a ++ f) × (b ≡ f ++ rest))) ⊎ ((z : ℕ) × ((r : List ℕ) × (a ≡ front ++ z ∷ r)))

split_more : (x y : ℕ) (a b front rest : List ℕ) → x ≡ y → Split a b front rest → Split (x ∷ a) b (y ∷ front) rest
split_more x y a b front rest e (inl s) = inl (s.0, (ap₂ (λ (u : ℕ) (us : List ℕ). u ∷ us) (sym e) s.1.0, s.1.1))
split_more x y a b front rest e (inr s) = inr (s.0, (s.1.0, ap₂ (λ (u : ℕ) (us : List ℕ). u ∷ us) e s.1.1))

split : (a b front rest : List ℕ) → a ++ b ≡ front ++ rest → Split a b front rest
split [] b front rest e = inl (front, (refl, e))
split (x ∷ a) b [] rest e = inr (x, (a, refl))
split (x ∷ a) b (y ∷ front) rest e = split_more x y a b front rest (heads e) (split a b front rest (tails e))

-- a tag with the first of its members
record IsPruned (t v : Tree) : Type 0 where
  fit : (rows : List CodeRow) (parent : Option Four) → fits rows parent t ≡ true → fits rows parent v ≡ true
  tag : IsTag t → IsTag v
  low : levels v ≤ levels t

abbrev ArePruned : Trees → Trees → Type 0
ArePruned none none = Unit {0}
ArePruned none (more v vs) = ⊥
ArePruned (more t ts) none = Unit {0}
ArePruned (more t ts) (more v vs) = IsPruned t v × ArePruned ts vs

none_pruned : (ts : Trees) → ArePruned ts none
none_pruned none = tt
none_pruned (more t ts) = tt

pruned_fit : (rows : List CodeRow) (c : Four) (ts vs : Trees) → ArePruned ts vs → all_fit rows c ts ≡ true → all_fit rows c vs ≡ true
pruned_fit rows c none none p h = refl
pruned_fit rows c none (more v vs) p h = absurd p
pruned_fit rows c (more t ts) none p h = refl
pruned_fit rows c (more t ts) (more v vs) p h =
    let parts = and_parts (fits rows (Some c) t) (all_fit rows c ts) h in
    and_from (fits rows (Some c) v) (all_fit rows c vs) (p.0.fit rows (Some c) parts.0) (pruned_fit rows c ts vs p.1 parts.1)

pruned_tags : (ts vs : Trees) → ArePruned ts vs → AreTags ts → AreTags vs
pruned_tags none none p h = tt
pruned_tags none (more v vs) p h = absurd p
pruned_tags (more t ts) none p h = tt
pruned_tags (more t ts) (more v vs) p h = (p.0.tag h.0, pruned_tags ts vs p.1 h.1)

pruned_low : (ts vs : Trees) → ArePruned ts vs → levels_in vs ≤ levels_in ts
pruned_low none none p = omega arith
pruned_low none (more v vs) p = absurd p
pruned_low (more t ts) none p = omega arith
pruned_low (more t ts) (more v vs) p = let first = p.0.low in let others = pruned_low ts vs p.1 in omega arith

pruned_tops : (rows : List CodeRow) (ts vs : Trees) → ArePruned ts vs → TopFits rows ts → TopFits rows vs
pruned_tops rows none none p h = tt
pruned_tops rows none (more v vs) p h = absurd p
pruned_tops rows (more t ts) none p h = tt
pruned_tops rows (more t ts) (more v vs) p h =
    ((p.0.fit rows None h.0.0, (let low = p.0.low in let deep = h.0.1 in omega arith)), pruned_tops rows ts vs p.1 h.1)

itself : (t : Tree) → IsPruned t t
itself t = record { fit = λ rows parent h. h; tag = λ h. h; low = omega arith }

list_pruned : (c : Four) (ts vs : Trees) → ArePruned ts vs → IsPruned (list c ts) (list c vs)
list_pruned c ts vs p = record {
  fit = λ rows parent h.
      let parts = and_parts (is_list (kind_in rows parent c)) (all_fit rows c ts) h in
      and_from (is_list (kind_in rows parent c)) (all_fit rows c vs) parts.0 (pruned_fit rows c ts vs p parts.1);
  tag = λ h. (h.0, pruned_tags ts vs p h.1);
  low = let deep = pruned_low ts vs p in omega arith;
}

one_more : (t : Tree) (ts vs : Trees) → ArePruned (more t none) vs → ArePruned (more t ts) vs
one_more t ts none p = tt
one_more t ts (more v none) p = (p.0, none_pruned ts)
one_more t ts (more v (more w vs)) p = absurd p.1

abbrev Cut : ℕ → Trees → List ℕ → Type 0
Cut level ts front = (vs : Trees) × ((shown_tags level vs ≡ front) × ArePruned ts vs)

mutual
  cut_tag : (level : ℕ) (t : Tree) (front : List ℕ) (z : ℕ) (r : List ℕ) → IsTag t → IsWhole front → shown_tag level t ≡ front ++ z ∷ r → Cut level (more t none) front
  cut_tag level (leaf c l) front z r tag whole e =
      (none, (sym (nothing_in_line front (bare_line level (leaf c l)) z r whole (line_has level (leaf c l) tag) e), tt))
  cut_tag level (list c ts) front z r tag whole e =
      elim (split (shown_line level (list c ts)) (shown_tags (suc level) ts) front (z ∷ r) e) [
        | inl s ↦
            let cut = cut_tags (suc level) ts s.0 (z ∷ r) tag.1 (whole_behind (shown_line level (list c ts)) s.0 front s.1.0 whole) s.1.1 in
            (more (list c cut.0) none, (append-nil _ ∙ ap (λ l. shown_line level (list c ts) ++ l) cut.1.0 ∙ sym s.1.0, (list_pruned c ts cut.0 cut.1.1, tt)))
        | inr s ↦ (none, (sym (nothing_in_line front (bare_line level (list c ts)) s.0 s.1.0 whole (line_has level (list c ts) tag.0) s.1.1), tt))
      ]

  cut_tags : (level : ℕ) (ts : Trees) (front rest : List ℕ) → AreTags ts → IsWhole front → shown_tags level ts ≡ front ++ rest → Cut level ts front
  cut_tags level none front rest tags whole e = (none, (sym (left_empty front rest (sym e)), tt))
  cut_tags level (more t ts) front rest tags whole e =
      elim (split (shown_tag level t) (shown_tags level ts) front rest e) [
        | inl s ↦
            let cut = cut_tags level ts s.0 rest tags.1 (whole_behind (shown_tag level t) s.0 front s.1.0 whole) s.1.1 in
            (more t cut.0, (ap (λ l. shown_tag level t ++ l) cut.1.0 ∙ sym s.1.0, (itself t, cut.1.1)))
        | inr s ↦
            let cut = cut_tag level t front s.0 s.1.0 tags.0 whole s.1.1 in
            (cut.0, (cut.1.0, one_more t ts cut.0 cut.1.1))
      ]

pub cut_shows : (rows : List CodeRow) (front rest : List ℕ) (ts : List Tree) → IsWhole front → Shows rows (front ++ rest) ts → HasText rows front
cut_shows rows front rest ts whole s =
    let tags = are_tags rows ts s.each in
    let cut = cut_tags 0 (trees_of ts) front rest tags whole (sym s.lines) in
    of_trees rows front cut.0 (sym cut.1.0) (pruned_tags (trees_of ts) cut.0 cut.1.1 tags) (pruned_tops rows (trees_of ts) cut.0 cut.1.1 (tops_of rows ts s.each))
