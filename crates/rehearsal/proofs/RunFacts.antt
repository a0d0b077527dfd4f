-- A rehearsal, one batch after another, up to its summary.
use Rattle.std.proofs.Common.{◌≡◌, ◌<◌, ◌≤◌, ◌^◌, ℕ, ◌+◌, ◌*◌, List, [], ◌∷◌, ◌++◌, take, length, Option, None, Result, Ok, Err, OnOk, OnErr, sym, ap, subst, ◌∙◌, arith, codes}
use Rattle.std.proofs.lemmas.List.{length-map}
use Rattle.edit_log.proofs.LogFacts.{revision_more}
use Rattle.item_model.specs.declared.changes.Edit.{Edit}
use Rattle.item_model.specs.declared.changes.Entry.{Entry}
use Rattle.item_model.specs.declared.changes.Entry.TheVariants.{Edits}
use Rattle.item_model.specs.declared.query.Query.{Query}
use Rattle.item_model.specs.declared.request.Meta.TheVariants.{Default}
use Rattle.item_model.specs.declared.request.Target.TheVariants.{Items}
use Rattle.item_model.specs.Valid.{AreValid}
use Rattle.item_store.specs.Store.{Store}
use Rattle.item_store.specs.Stands.{StandsFor}
use Rattle.share_history.specs.Histories.{batches, edits, revision}
use Rattle.share_history.specs.Listings.{shown}
use Rattle.share_history.specs.Rows.{rows, library}
use Rattle.rehearsal.specs.declared.follower.RehearsedMirror.{RehearsedMirror}
use Rattle.rehearsal.specs.declared.plan.Rehearsal.{Rehearsal}
use Rattle.rehearsal.specs.declared.run.Run.{Run}
use Rattle.rehearsal.specs.declared.summary.Standing.{Standing}
use Rattle.rehearsal.specs.Asks.{asks, deltas, fulls}
use Rattle.rehearsal.specs.Draws.{state}
use Rattle.rehearsal.specs.Edits.{edits_from}
use Rattle.rehearsal.specs.Following.{IsAt, Follows, IsMirror}
use Rattle.rehearsal.specs.Histories.{HasFirst, history_of}
use Rattle.rehearsal.specs.Made.{AreMade}
use Rattle.rehearsal.specs.Plan.{AreInRange, batches_of}
use Rattle.rehearsal.specs.Queries.{artist_query, year_query}
use Rattle.rehearsal.specs.Running.{Stands, Mirrors}
use Rattle.rehearsal.specs.Shares.{IsShare}
use Rattle.rehearsal.specs.Summary.{told, line, mirror_text, mirror_line, summary_text}
use Rattle.rehearsal.proofs.DrawFacts.{no_draw}
use Rattle.rehearsal.proofs.FollowFacts.{last_held}
use Rattle.rehearsal.proofs.PlanFacts.{rehearsed_made, rehearsed_edits, rehearsed_batches, rehearsed_more, rehearsed_front, batch_valid, batches_again, history_more}

-- ---- the first batches of a plan

front_length : (plan : Rehearsal) (n : ℕ) → n ≤ plan.batches → length (take n (batches_of plan)) ≡ n
front_length plan n h = ap length (rehearsed_front plan.number plan.batches plan.size n h) ∙ rehearsed_batches plan.number n plan.size

front_made : (plan : Rehearsal) (n : ℕ) → n ≤ plan.batches → AreMade (edits (take n (batches_of plan)))
front_made plan n h = subst (λ bs. AreMade (edits bs)) (sym (rehearsed_front plan.number plan.batches plan.size n h)) (rehearsed_made plan.number n plan.size)

front_edits : (plan : Rehearsal) (n : ℕ) → n ≤ plan.batches → length (edits (take n (batches_of plan))) ≤ plan.batches * plan.size
front_edits plan n h =
    let count : length (edits (take n (batches_of plan))) ≡ n * plan.size =
    ap (λ bs. length (edits bs)) (rehearsed_front plan.number plan.batches plan.size n h) ∙ rehearsed_edits plan.number n plan.size in
    subst (λ k. k ≤ plan.batches * plan.size) (sym count) (times n plan.batches plan.size h)
  where
    times : (a b k : ℕ) → a ≤ b → a * k ≤ b * k
    times a b k h = grind arith

share_at : (plan : Rehearsal) (n : ℕ) (store : Store) → AreInRange plan → n ≤ plan.batches → StandsFor (take n (batches_of plan)) store → IsShare (take n (batches_of plan)) store
share_at plan n store range h stands =
    record {
      stands = stands;
      made = front_made plan n h;
      few = omega (arith, front_edits plan n h, range.edits);
      early = omega (arith, front_length plan n h, range.batches_to);
    }

front_more : (plan : Rehearsal) (n : ℕ) → n < plan.batches → take (n + 1) (batches_of plan) ≡ take n (batches_of plan) ++ edits_from plan.number (n * plan.size) plan.size ∷ []
front_more plan n h =
    rehearsed_front plan.number plan.batches plan.size (n + 1) (omega arith) ∙ rehearsed_more plan.number n plan.size
    ∙ ap (λ bs. bs ++ edits_from plan.number (n * plan.size) plan.size ∷ []) (sym (rehearsed_front plan.number plan.batches plan.size n (omega arith)))

pub all_batches : (plan : Rehearsal) → take plan.batches (batches_of plan) ≡ batches_of plan
all_batches plan = rehearsed_front plan.number plan.batches plan.size plan.batches (omega arith)

-- their history
pub has_first : (plan : Rehearsal) (n : ℕ) (entries : List Entry) → n ≤ plan.batches → entries ≡ history_of (take n (batches_of plan)) → HasFirst (batches_of plan) entries
has_first plan n entries h is = record { count = n; few = subst (λ k. n ≤ k) (sym (rehearsed_batches plan.number plan.batches plan.size)) h; is = is }

-- ---- the beginning

pub begun : (plan : Rehearsal) (run : Run) → AreInRange plan → run.draws.state ≡ plan.number → run.log.entries ≡ [] → StandsFor [] run.store → run.store.keep ≡ plan.keep → Stands plan 0 run
begun plan run range draws log stands keep =
    record {
      draws = draws ∙ sym (no_draw plan.number) ∙ ap (state plan.number) (none plan.size);
      log = log;
      at = record { share = share_at plan 0 run.store range (omega arith) stands; keep = keep };
    }
  where
    none : (n : ℕ) → 0 ≡ 3 * (0 * n)
    none n = omega arith

-- ---- one batch more

pub log_revision : (plan : Rehearsal) (n : ℕ) (entries : List Entry) → AreInRange plan → n < plan.batches → entries ≡ history_of (take n (batches_of plan)) → revision (batches entries) ≡ n + 2
log_revision plan n entries range h is =
    let count : length (take n (batches_of plan)) ≡ n = front_length plan n (omega arith) in
    ap (λ h. revision (batches h)) is ∙ ap revision (batches_again (take n (batches_of plan))) ∙ ap (λ k. k + 2) count

pub store_revision : (plan : Rehearsal) (n : ℕ) (store : Store) → n < plan.batches → IsAt plan n store → store.revision ≡ n + 2
store_revision plan n store h at =
    let count : length (take n (batches_of plan)) ≡ n = front_length plan n (omega arith) in
    at.share.stands.revision ∙ ap (λ k. k + 2) count

pub few_logged : (plan : Rehearsal) (n : ℕ) (entries : List Entry) (batch : List Edit) → AreInRange plan → n < plan.batches → entries ≡ history_of (take n (batches_of plan))
    → revision (batches (entries ++ Edits 0 batch ∷ [])) < 2 ^ 32
few_logged plan n entries batch range h is =
    let more : revision (batches (entries ++ Edits 0 batch ∷ [])) ≡ revision (batches entries) + 1 = revision_more entries (Edits 0 batch) in
    omega (arith, more, log_revision plan n entries range h is, range.batches_to)

pub valid_batch : (plan : Rehearsal) (n : ℕ) (batch : List Edit) → batch ≡ edits_from plan.number (n * plan.size) plan.size → AreValid batch
valid_batch plan n batch is = subst AreValid (sym is) (batch_valid plan.number (n * plan.size) plan.size)

pub edited : (plan : Rehearsal) (n : ℕ) (old new : Run) (applied logged : List Edit) → AreInRange plan → n < plan.batches → Stands plan n old
    → new.draws.state ≡ state plan.number (3 * (n * plan.size + plan.size))
    → applied ≡ edits_from plan.number (n * plan.size) plan.size → logged ≡ edits_from plan.number (n * plan.size) plan.size
    → new.log.entries ≡ old.log.entries ++ Edits 0 logged ∷ [] → StandsFor (take n (batches_of plan) ++ applied ∷ []) new.store → new.store.keep ≡ old.store.keep
    → Stands plan (n + 1) new
edited plan n old new applied logged range h stands draws is_applied is_logged log store keep =
    let made : List Edit = edits_from plan.number (n * plan.size) plan.size in
    record {
      draws = draws ∙ ap (λ k. state plan.number (3 * k)) (one_more n plan.size);
      log = log ∙ (λ i. stands.log i ++ Edits 0 (is_logged i) ∷ []) ∙ sym (history_more (take n (batches_of plan)) made) ∙ ap history_of (sym (front_more plan n h));
      at = record {
        share = share_at plan (n + 1) new.store range (omega arith)
            (subst (λ bs. StandsFor bs new.store) (ap (λ b. take n (batches_of plan) ++ b ∷ []) is_applied ∙ sym (front_more plan n h)) store);
        keep = keep ∙ stands.at.keep;
      };
    }
  where
    one_more : (n k : ℕ) → n * k + k ≡ (n + 1) * k
    one_more n k = grind arith

pub both_ok : {T E P Q R : Type 0} (r : Result T E) → (P → Q → R) → OnOk r P → OnOk r Q → OnOk r R
both_ok (Ok x) f p q = f p q
both_ok (Err e) f p q = p

pub on_ok_anyway : {T E P : Type 0} (r : Result T E) → P → OnOk r P
on_ok_anyway (Ok x) p = p
on_ok_anyway (Err e) p = tt

pub on_err_anyway : {T E P : Type 0} (r : Result T E) → P → OnErr r P
on_err_anyway (Ok x) p = tt
on_err_anyway (Err e) p = p

-- ---- the summary

standing_is : (plan : Rehearsal) (f : RehearsedMirror) (s : Standing) (number often : ℕ) (q : Option Query) → AreInRange plan → Follows plan plan.batches f → IsMirror often q f
    → s.rows ≡ length f.mirror.held.rows → s.full ≡ f.full → s.delta ≡ f.delta
    → mirror_text number s.rows s.full s.delta ≡ mirror_line plan.keep (batches_of plan) number often q
standing_is plan f s number often q range h is rows_is full_is delta_is =
    λ i. mirror_text number (rows_now i) (full_now i) (delta_now i)
  where
    count : plan.batches ≡ length (batches_of plan)
    count = sym (rehearsed_batches plan.number plan.batches plan.size)

    asked : asks f.period plan.batches plan.batches ≡ asks often (length (batches_of plan)) (length (batches_of plan))
    asked = λ i. asks (is.period i) (count i) (count i)

    rows_now : s.rows ≡ length (rows (edits (batches_of plan)) Items q)
    rows_now =
        rows_is ∙ ap (λ held. length held.rows) (h.held ∙ last_held (batches_of plan) f.mirror.query f.period plan.batches range.batches_from)
        ∙ length-map (rows (edits (take plan.batches (batches_of plan))) Items f.mirror.query) (shown Items Default)
        ∙ (λ i. length (rows (edits (all_batches plan i)) Items (is.query i)))

    full_now : s.full ≡ fulls plan.keep (batches_of plan) (asks often (length (batches_of plan)) (length (batches_of plan)))
    full_now = full_is ∙ h.full ∙ ap (fulls plan.keep (batches_of plan)) asked

    delta_now : s.delta ≡ deltas plan.keep (batches_of plan) (asks often (length (batches_of plan)) (length (batches_of plan)))
    delta_now = delta_is ∙ h.delta ∙ ap (deltas plan.keep (batches_of plan)) asked

pub summed_up : (plan : Rehearsal) (run : Run) (v items : ℕ) (first second third : Standing) (text : List ℕ) → AreInRange plan → Mirrors plan plan.batches run → Stands plan plan.batches run
    → v ≡ run.store.revision → items ≡ length (library (edits (take plan.batches (batches_of plan))))
    → first.rows ≡ length run.first.mirror.held.rows → first.full ≡ run.first.full → first.delta ≡ run.first.delta
    → second.rows ≡ length run.second.mirror.held.rows → second.full ≡ run.second.full → second.delta ≡ run.second.delta
    → third.rows ≡ length run.third.mirror.held.rows → third.full ≡ run.third.full → third.delta ≡ run.third.delta
    → text ≡ line (told (codes "revision") v) ++ line (told (codes "items") items)
    ++ mirror_text 1 first.rows first.full first.delta ++ mirror_text 2 second.rows second.full second.delta ++ mirror_text 3 third.rows third.full third.delta
    → text ≡ summary_text plan.keep (batches_of plan)
summed_up plan run v items first second third text range mirrors stands v_is items_is r1 f1 d1 r2 f2 d2 r3 f3 d3 is =
    is ∙ (λ i. line (told (codes "revision") (v_now i)) ++ line (told (codes "items") (items_now i)) ++ one i ++ two i ++ three i)
  where
    v_now : v ≡ revision (batches_of plan)
    v_now = v_is ∙ stands.at.share.stands.revision ∙ ap revision (all_batches plan)

    items_now : items ≡ length (library (edits (batches_of plan)))
    items_now = items_is ∙ ap (λ bs. length (library (edits bs))) (all_batches plan)

    one : mirror_text 1 first.rows first.full first.delta ≡ mirror_line plan.keep (batches_of plan) 1 1 None
    one = standing_is plan run.first first 1 1 None range mirrors.first mirrors.everything r1 f1 d1

    two : mirror_text 2 second.rows second.full second.delta ≡ mirror_line plan.keep (batches_of plan) 2 3 artist_query
    two = standing_is plan run.second second 2 3 artist_query range mirrors.second mirrors.artists r2 f2 d2

    three : mirror_text 3 third.rows third.full third.delta ≡ mirror_line plan.keep (batches_of plan) 3 300 year_query
    three = standing_is plan run.third third 3 300 year_query range mirrors.third mirrors.years r3 f3 d3

pub is_mirror : {often : ℕ} {p q : Option Query} {f : RehearsedMirror} → IsMirror often p f → p ≡ q → IsMirror often q f
is_mirror is same = record { period = is.period; query = is.query ∙ same }
