-- Tags that fit a table and are not too deep, by the level and the list of each.
use Rattle.std.proofs.Common.{◌≡◌, ℕ, suc, ◌+◌, ◌<◌, ◌≤◌, true, List, [], ◌∷◌, ◌++◌, Option, Some, None, refl, arith}
use Rattle.std.proofs.lemmas.Bool.{and_parts, and_from}
use Rattle.std.specs.List.{AllByRecursion}
use Rattle.dmap_tags.specs.Codes.{Four}
use Rattle.dmap_tags.specs.Tree.{Tree, leaf, list, Trees, none, more, trees_of, levels, levels_in}
use Rattle.dmap_tags.specs.Kinds.{is_list}
use Rattle.code_table.specs.declared.row.CodeRow.{CodeRow}
use Rattle.code_table.specs.Rows.{kind_in}
use Rattle.code_table.specs.Fits.{fits, all_fit}
use Rattle.dmap_show.specs.Readable.{IsTag, AreTags, AreShallow, IsReadable}
use Rattle.dmap_show.specs.Standing.{Stands, AllStand, HeadStands}

mutual
  stands : (rows : List CodeRow) (level : ℕ) (parent : Option Four) (t : Tree) → IsTag t → fits rows parent t ≡ true → level + levels t ≤ 32 → Stands rows level parent t
  stands rows level parent (leaf c l) tag fit low = (omega arith, (tag, fit))
  stands rows level parent (list c ts) tag fit low =
      let p = and_parts (is_list (kind_in rows parent c)) (all_fit rows c ts) fit in
      (omega arith, (tag.0, (p.0, all_stand rows (suc level) c ts tag.1 p.1 (omega arith))))

  all_stand : (rows : List CodeRow) (level : ℕ) (c : Four) (ts : Trees) → AreTags ts → all_fit rows c ts ≡ true → level + levels_in ts ≤ 32 → AllStand rows level (Some c) ts
  all_stand rows level c none tags fit low = tt
  all_stand rows level c (more t ts) tags fit low =
      let p = and_parts (fits rows (Some c) t) (all_fit rows c ts) fit in
      (stands rows level (Some c) t tags.0 p.0 (omega arith), all_stand rows level c ts tags.1 p.1 (omega arith))

mutual
  told : (rows : List CodeRow) (level : ℕ) (parent : Option Four) (t : Tree) → Stands rows level parent t → IsTag t × ((fits rows parent t ≡ true) × (level + levels t ≤ 32))
  told rows level parent (leaf c l) h = (h.1.0, (h.1.1, let low = h.0 in omega arith))
  told rows level parent (list c ts) h =
      let low : level < 32 = h.0 in
      let below = all_told rows (suc level) c ts (omega arith) h.1.1.1 in
      let deep : suc level + levels_in ts ≤ 32 = below.1.1 in
      ((h.1.0, below.0), (and_from _ _ h.1.1.0 below.1.0, omega arith))

  all_told : (rows : List CodeRow) (level : ℕ) (c : Four) (ts : Trees) → level ≤ 32 → AllStand rows level (Some c) ts → AreTags ts × ((all_fit rows c ts ≡ true) × (level + levels_in ts ≤ 32))
  all_told rows level c none low h = (tt, (refl, omega arith))
  all_told rows level c (more t ts) low h =
      let one = told rows level (Some c) t h.0 in
      let others = all_told rows level c ts low h.1 in
      let deep : level + levels t ≤ 32 = one.1.1 in
      let below : level + levels_in ts ≤ 32 = others.1.1 in
      ((one.0, others.0), (and_from _ _ one.1.0 others.1.0, omega arith))

-- tags at the top
pub each_stands : (rows : List CodeRow) (ts : List Tree) → AllByRecursion (λ t. IsReadable rows t) ts → AllStand rows 0 None (trees_of ts)
each_stands rows [] h = tt
each_stands rows (t ∷ ts) h = (stands rows 0 None t h.0.tag h.0.fits (let low = h.0.shallow in omega arith), each_stands rows ts h.1)

pub each_readable : (rows : List CodeRow) (ts : List Tree) → AllStand rows 0 None (trees_of ts) → AllByRecursion (λ t. IsReadable rows t) ts
each_readable rows [] h = tt
each_readable rows (t ∷ ts) h =
    let one = told rows 0 None t h.0 in
    (record { tag = one.0; fits = one.1.0; shallow = let low = one.1.1 in omega arith }, each_readable rows ts h.1)

pub all_stand_append : (rows : List CodeRow) (level : ℕ) (parent : Option Four) (xs ys : List Tree) → AllStand rows level parent (trees_of xs) → AllStand rows level parent (trees_of ys) → AllStand rows level parent (trees_of (xs ++ ys))
all_stand_append rows level parent [] ys h k = k
all_stand_append rows level parent (x ∷ xs) ys h k = (h.0, all_stand_append rows level parent xs ys h.1 k)

pub head_stands : (rows : List CodeRow) (level : ℕ) (parent : Option Four) (t : Tree) → Stands rows level parent t → HeadStands rows level parent t
head_stands rows level parent (leaf c l) h = record { low = h.0; head = h.1.0; fit = h.1.1 }
head_stands rows level parent (list c ts) h = record { low = h.0; head = h.1.0; fit = and_from _ _ h.1.1.0 refl }

-- tags as a program has them are readable if they fit and are not too deep
pub shallow_readable : (rows : List CodeRow) (ts : List Tree) → AreTags (trees_of ts) → AreShallow rows ts → AllByRecursion (λ t. IsReadable rows t) ts
shallow_readable rows [] tags fit = tt
shallow_readable rows (t ∷ ts) tags fit = (record { tag = tags.0; fits = fit.0.0; shallow = fit.0.1 }, shallow_readable rows ts tags.1 fit.1)
