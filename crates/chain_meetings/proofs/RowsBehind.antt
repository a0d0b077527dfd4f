-- The rows of mirrors at the revisions of a share whose libraries another share had, in order.
use Rattle.std.proofs.Common.{◌≡◌, ◌≤◌, ◌+◌, ◌-◌, ℕ, zero, suc, List, [], ◌∷◌, filter, length, map, take, Option, refl, sym, ap, ap₂, ◌∙◌, take_at, arith}
use Rattle.dmap_tags.specs.Tree.{Tree}
use Rattle.item_model.specs.declared.changes.Edit.{Edit}
use Rattle.item_model.specs.declared.changes.Entry.{Entry}
use Rattle.item_model.specs.declared.changes.Entry.TheVariants.{Edits, Login, Logout, Stop}
use Rattle.item_model.specs.declared.query.Query.{Query}
use Rattle.item_model.specs.declared.request.Meta.{Meta}
use Rattle.item_model.specs.declared.request.Target.TheVariants.{Items}
use Rattle.share_history.specs.Histories.{at_revision, batches, edits, revision, until_edits, up_to}
use Rattle.share_history.specs.Listings.{shown_rows}
use Rattle.share_history.specs.Numbers.{first_revision}
use Rattle.share_history.specs.Rows.{is_selected, library}
use Rattle.share_history.proofs.EditFacts.{batches-append, batches-at_revision}
use Rattle.share_history.proofs.RowFacts.{rows_selected}
use Rattle.share_meetings.specs.ServedRuns.{Rise}
use Rattle.relayed_rows.specs.Libraries.{Library}
use Rattle.share_meetings.proofs.Prefixes.{IsPrefix, prefix_revision}
use Rattle.share_meetings.specs.Shown.{AreRising}
use Rattle.share_meetings.specs.Texts.{rows_text}
use Rattle.link_commands.specs.RoundLines as lines
use Rattle.chain_meetings.specs.Chains.{AreAscending, ChainsShowRows, FollowersShowTheFirst, item_rows}
use Rattle.chain_meetings.specs.Orders.{ShowsInOrder, library_at}
use Rattle.chain_meetings.proofs.Chained.{chains_show_in_order}
use Rattle.chain_meetings.proofs.Ordered.{begins_all}

-- ---- histories at revisions

-- one entry more before both
prefix_cons : (e : Entry) (p q : List Entry) → IsPrefix p q → IsPrefix (e ∷ p) (e ∷ q)
prefix_cons e p q a = (a.0, ap (λ (h : List Entry). e ∷ h) a.1)

until_begins : (n : ℕ) (h : List Entry) → IsPrefix (until_edits n h) h
until_begins zero h = (h, refl)
until_begins (suc n) [] = ([], refl)
until_begins (suc n) (Edits by batch ∷ h) = prefix_cons (Edits by batch) (until_edits n h) h (until_begins n h)
until_begins (suc n) (Login by id ∷ h) = prefix_cons (Login by id) (until_edits (suc n) h) h (until_begins (suc n) h)
until_begins (suc n) (Logout by id ∷ h) = prefix_cons (Logout by id) (until_edits (suc n) h) h (until_begins (suc n) h)
until_begins (suc n) (Stop by ∷ h) = prefix_cons (Stop by) (until_edits (suc n) h) h (until_begins (suc n) h)

until_later : (m n : ℕ) (h : List Entry) → m ≤ n → IsPrefix (until_edits m h) (until_edits n h)
until_later zero n h less = (until_edits n h, refl)
until_later (suc m) zero h less = absurd (omega (arith, less))
until_later (suc m) (suc n) [] less = ([], refl)
until_later (suc m) (suc n) (Edits by batch ∷ h) less = prefix_cons (Edits by batch) (until_edits m h) (until_edits n h) (until_later m n h (omega (arith, less)))
until_later (suc m) (suc n) (Login by id ∷ h) less = prefix_cons (Login by id) (until_edits (suc m) h) (until_edits (suc n) h) (until_later (suc m) (suc n) h less)
until_later (suc m) (suc n) (Logout by id ∷ h) less = prefix_cons (Logout by id) (until_edits (suc m) h) (until_edits (suc n) h) (until_later (suc m) (suc n) h less)
until_later (suc m) (suc n) (Stop by ∷ h) less = prefix_cons (Stop by) (until_edits (suc m) h) (until_edits (suc n) h) (until_later (suc m) (suc n) h less)

-- at revisions that ascend the histories rise
rise_at : (h : List Entry) (base last : ℕ) (vs : List ℕ) → AreAscending base last vs → Rise (map (at_revision h) vs) h
rise_at h base last [] up = tt
rise_at h base last (v ∷ []) up = (until_begins (v - first_revision) h, tt)
rise_at h base last (v ∷ w ∷ vs) up =
    (until_later (v - first_revision) (w - first_revision) h (let less : v ≤ w = up.2.0 in omega (arith, less)), rise_at h v last (w ∷ vs) up.2)

-- and the revisions of histories that rise ascend
ascend_at : (base : ℕ) (p : List Entry) (points : List (List Entry)) (h : List Entry) → base ≤ revision (batches p) → Rise (p ∷ points) h
    → AreAscending base (revision (batches h)) (map (λ (point : List Entry). revision (batches point)) (p ∷ points))
ascend_at base p [] h above rise = (above, prefix_revision p h rise.0, tt)
ascend_at base p (q ∷ points) h above rise =
    (above, prefix_revision p h (begins_all p (q ∷ points) h rise), ascend_at (revision (batches p)) q points h (prefix_revision p q rise.0) rise.1)

ascend_all : (points : List (List Entry)) (h : List Entry) → Rise points h → AreAscending 0 (revision (batches h)) (map (λ (point : List Entry). revision (batches point)) points)
ascend_all [] h rise = tt
ascend_all (p ∷ points) h rise = ascend_at 0 p points h (omega arith) rise

-- the batches up to the revision of a prefix are those of the prefix
batches_there : (p h : List Entry) → IsPrefix p h → up_to (batches h) (revision (batches p)) ≡ batches p
batches_there p h a =
    ap (λ (bs : List (List Edit)). take ((length (batches p) + first_revision) - first_revision) bs) (ap batches a.1 ∙ batches-append p a.0)
    ∙ take_at (batches p) (batches a.0) ((length (batches p) + first_revision) - first_revision) (omega arith)

-- ---- rows by libraries

module _ (query : Option Query) (meta : Meta) where
  -- the rows of a mirror of items, by the library
  abbrev rows_by : Library → List (ℕ × Tree)
  rows_by found = shown_rows Items meta (filter (λ row. is_selected query row.1) found)

  rows_then : (h : List Entry) (v : ℕ) → item_rows query meta h v ≡ rows_by (library (edits (up_to (batches h) v)))
  rows_then h v = ap (shown_rows Items meta) (rows_selected (edits (up_to (batches h) v)) query)

  rows_looked : (h : List Entry) (vs : List ℕ) → map (item_rows query meta h) vs ≡ map rows_by (map library_at (map (at_revision h) vs))
  rows_looked h [] = refl
  rows_looked h (v ∷ vs) =
      ap₂ (λ (rows : List (ℕ × Tree)) (others : List (List (ℕ × Tree))). rows ∷ others)
      (rows_then h v ∙ ap (λ (bs : List (List Edit)). rows_by (library (edits bs))) (sym (batches-at_revision h v))) (rows_looked h vs)

  rows_found : (h : List Entry) (points : List (List Entry)) → Rise points h
      → map rows_by (map library_at points) ≡ map (item_rows query meta h) (map (λ (point : List Entry). revision (batches point)) points)
  rows_found h [] rise = refl
  rows_found h (p ∷ points) rise =
      ap₂ (λ (rows : List (ℕ × Tree)) (others : List (List (ℕ × Tree))). rows ∷ others)
      (ap (λ (bs : List (List Edit)). rows_by (library (edits bs))) (sym (batches_there p h (begins_all p points h rise))) ∙ sym (rows_then h (revision (batches p))))
      (rows_found h points rise.1)

  rows_in_order : (up down : List Entry) (vs : List ℕ) → ShowsInOrder up down → AreAscending 0 (revision (batches down)) vs
      → (ws : List ℕ) × AreAscending 0 (revision (batches up)) ws × (map (item_rows query meta down) vs ≡ map (item_rows query meta up) ws)
  rows_in_order up down vs shows ascending =
      let seen = shows (map (at_revision down) vs) (rise_at down 0 (revision (batches down)) vs ascending) in (
        map (λ (point : List Entry). revision (batches point)) seen.0,
        ascend_all seen.0 up seen.1,
        rows_looked down vs ∙ ap (map rows_by) seen.2 ∙ rows_found up seen.0 seen.1,
      )

pub chains_show_rows : ChainsShowRows
chains_show_rows up down query meta vs chain ascending = rows_in_order query meta up down vs (chains_show_in_order up down chain) ascending

-- ---- the rows that `follow` writes

rising_ascends : (base last : ℕ) (vs : List ℕ) → AreRising base last vs → AreAscending base last vs
rising_ascends base last [] rising = tt
rising_ascends base last (v ∷ vs) rising = (let less = rising.0 in omega (arith, less), rising.1, rising_ascends v last vs rising.2)

-- the text of the last rows
abbrev last_text : List (List (ℕ × Tree)) → List ℕ
last_text [] = []
last_text (rows ∷ []) = lines.shown_rows rows
last_text (rows ∷ more ∷ others) = last_text (more ∷ others)

text_of_rows : (query : Option Query) (meta : Meta) (h : List Entry) (vs : List ℕ) → rows_text Items query meta (batches h) vs ≡ last_text (map (item_rows query meta h) vs)
text_of_rows query meta h [] = refl
text_of_rows query meta h (v ∷ []) = refl
text_of_rows query meta h (v ∷ w ∷ vs) = text_of_rows query meta h (w ∷ vs)

pub followers_show_the_first : FollowersShowTheFirst
followers_show_the_first up down query meta vs chain rising =
    let rows = chains_show_rows up down query meta vs chain (rising_ascends 0 (revision (batches down)) vs rising) in
    (rows.0, rows.1, text_of_rows query meta down vs ∙ ap last_text rows.2 ∙ sym (text_of_rows query meta up rows.0))
