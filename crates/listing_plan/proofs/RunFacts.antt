-- Runs of neighbours have what is asked for.
use Rattle.std.proofs.Common.{◌≡◌, ◌≤◌, ◌+◌, ◌-◌, ◌++◌, ℕ, List, [], ◌∷◌, length, take, drop, All, Some, refl, sym, ap, subst, ◌∙◌, append_assoc, append-nil, take-append-drop, drop-drop, length-take-le, length-drop, arith}
use Rattle.std.proofs.Math.Seq.{take-append-add}
use Rattle.std.proofs.lemmas.Grind.{flat_map-append}
use Rattle.std.proofs.lemmas.List.{map-append, drop_more}
use Rattle.std.proofs.lemmas.List.Elements.{All-push, All-pop}
use Rattle.dmap_tags.specs.Spelling.{spellings}
use Rattle.dmap_tags.specs.Tree.{trees_of}
use Rattle.item_model.specs.declared.item.Row.{Row}
use Rattle.item_model.specs.declared.property.Property.{Property}
use Rattle.item_model.specs.Projection.{shown, first_mentions}
use Rattle.item_model.proofs.Few.{first_few}
use Rattle.row_sheets.specs.Cells.{cell, row_cells, joined, HasNoOther}
use Rattle.row_sheets.specs.Held.{IsIndex}
use Rattle.listing_plan.specs.declared.runs.Run.{Run}
use Rattle.listing_plan.specs.Runs.{IsWithin, Joins, run_bytes, runs_bytes}

-- a prefix of some length, and a prefix of the rest
take_parts : {X : Type 0} (a b : ℕ) (xs : List X) → a ≤ length xs → take (a + b) xs ≡ take a xs ++ take b (drop a xs)
take_parts a b xs h =
    ap (take (a + b)) (sym (take-append-drop a xs)) ∙ ap (λ n. take (n + b) (take a xs ++ drop a xs)) (sym (length-take-le a xs h))
    ∙ take-append-add (take a xs) (drop a xs) b

-- the properties up to one index, and those from there up to another
neighbours : {X : Type 0} (xs : List X) (a b c : ℕ) → a ≤ b → b ≤ c → b ≤ length xs → take (c - a) (drop a xs) ≡ take (b - a) (drop a xs) ++ take (c - b) (drop b xs)
neighbours xs a b c ab bc within =
    let whole : c - a ≡ (b - a) + (c - b) = omega (arith, ab, bc) in
    let behind : drop (b - a) (drop a xs) ≡ drop b xs = drop-drop (b - a) a xs ∙ ap (λ n. drop n xs) (omega (arith, ab)) in
    ap (λ n. take n (drop a xs)) whole ∙ take_parts (b - a) (c - b) (drop a xs) (omega (arith, within, ab, length-drop a xs))
    ∙ ap (λ ys. take (b - a) (drop a xs) ++ take (c - b) ys) behind

-- so two runs have what the run over both has
run_parts : (ps : List Property) (row : Row) (a b c : ℕ) → a ≤ b → b ≤ c → b ≤ length ps → run_bytes ps row (record { from = a; to = c }) ≡ run_bytes ps row (record { from = a; to = b }) ++ run_bytes ps row (record { from = b; to = c })
run_parts ps row a b c ab bc within =
    ap (λ qs. joined (row_cells qs row)) (neighbours ps a b c ab bc within)
    ∙ ap joined (map-append (cell row.item) (take (b - a) (drop a ps)) (take (c - b) (drop b ps)))
    ∙ flat_map-append (λ x. x) (row_cells (take (b - a) (drop a ps)) row) (row_cells (take (c - b) (drop b ps)) row)

-- several runs, and one behind them
runs_push : (ps : List Property) (row : Row) (runs : List Run) (run : Run) → runs_bytes ps row (runs ++ run ∷ []) ≡ runs_bytes ps row runs ++ run_bytes ps row run
runs_push ps row runs run =
    flat_map-append (run_bytes ps row) runs (run ∷ []) ∙ ap (λ bytes. runs_bytes ps row runs ++ bytes) (append-nil (run_bytes ps row run))

-- a run of one property has its cell
one_cell : (ps : List Property) (row : Row) (index : ℕ) (p : Property) → IsIndex ps index p → run_bytes ps row (record { from = index; to = index + 1 }) ≡ cell row.item p
one_cell ps row index p h =
    let one : index + 1 - index ≡ 1 = omega arith in
    let behind : drop index ps ≡ p ∷ drop (index + 1) ps = drop_more ps index p h.below ∙ ap (λ q. q ∷ drop (index + 1) ps) h.there in
    ap (λ n. joined (row_cells (take n (drop index ps)) row)) one ∙ ap (λ qs. joined (row_cells (take 1 qs) row)) behind
    ∙ append-nil (cell row.item p)

-- a run of its own joins the others
pub joins_own : (old : List Run) (run : Run) → Joins run old (old ++ run ∷ [])
joins_own old run = record {
  within = λ ps all one. All-push (IsWithin ps) old run all one;
  bytes = λ ps row all one. runs_push ps row old run;
}

-- and so does one that makes the last run longer
pub joins_last : (front : List Run) (last run : Run) → last.to ≡ run.from → Joins run (front ++ last ∷ []) (front ++ record { from = last.from; to = run.to } ∷ [])
joins_last front last run h = record {
  within = λ ps all one.
      let before = All-pop (IsWithin ps) (front ++ last ∷ []) front (Some last) refl all in
      let longer : IsWithin ps (record { from = last.from; to = run.to }) = record { order = omega (arith, before.1.order, one.order, h); end = one.end } in
      All-push (IsWithin ps) front (record { from = last.from; to = run.to }) before.0 longer;
  bytes = λ ps row all one.
      let before = All-pop (IsWithin ps) (front ++ last ∷ []) front (Some last) refl all in
      let parts : run_bytes ps row (record { from = last.from; to = run.to }) ≡ run_bytes ps row last ++ run_bytes ps row run =
      run_parts ps row last.from last.to run.to before.1.order (omega (arith, one.order, h)) before.1.end
      ∙ ap (λ n. run_bytes ps row last ++ run_bytes ps row (record { from = n; to = run.to })) h in
      runs_push ps row front (record { from = last.from; to = run.to }) ∙ ap (λ bytes. runs_bytes ps row front ++ bytes) parts
      ∙ sym (append_assoc (runs_bytes ps row front) (run_bytes ps row last) (run_bytes ps row run))
      ∙ ap (λ bytes. bytes ++ run_bytes ps row run) (sym (runs_push ps row front last));
}

-- of what is asked for the properties from an index on are left
pub record AskedFrom (ps asked : List Property) (i : ℕ) (runs : List Run) : Type 0 where
  pub few : length runs ≤ i
  pub within : All (IsWithin ps) runs
  pub bytes : (row : Row) → HasNoOther ps row → runs_bytes ps row runs ++ spellings (trees_of (shown row.item (drop i asked))) ≡ spellings (trees_of (shown row.item asked))

-- there are 26 properties at most
pub asked_few : (asked : List Property) → first_mentions asked ≡ asked → length asked ≤ 26
asked_few asked h = subst (λ ps. length ps ≤ 26) h (first_few asked)
