-- A mirror that follows a share, one batch after another.
use Rattle.std.proofs.Common.{◌≡◌, ◌≤◌, ℕ, ◌+◌, ◌-◌, ◌%◌, ◌==◌, ◌||◌, List, [], ◌∷◌, ◌++◌, Bool, true, false, cond, not, take, Option, refl, sym, ap, subst, ◌∙◌, arith, append-nil, eq-eqb}
use Rattle.item_model.specs.declared.changes.Edit.{Edit}
use Rattle.item_model.specs.declared.query.Query.{Query}
use Rattle.item_model.specs.declared.request.Meta.TheVariants.{Default}
use Rattle.item_model.specs.declared.request.Target.TheVariants.{Items}
use Rattle.item_store.specs.Store.{Store}
use Rattle.share_history.specs.Kept.{is_kept}
use Rattle.share_history.specs.Listings.{listing}
use Rattle.share_history.specs.Mirror.{mirror_after, mirrored, mirror_look}
use Rattle.rehearsal.specs.declared.follower.RehearsedMirror.{RehearsedMirror}
use Rattle.rehearsal.specs.declared.plan.Rehearsal.{Rehearsal}
use Rattle.rehearsal.specs.Asks.{is_due, asks, deltas, fulls}
use Rattle.rehearsal.specs.Following.{held_after, IsAt, Follows, IsMirror}
use Rattle.rehearsal.specs.Plan.{batches_of}
use Rattle.rehearsal.specs.Shares.{MayAsk}
use Rattle.rehearsal.proofs.AskFacts.{asks_more, catches_up, held_more, base_not_later, deltas_more, fulls_more}

same_asks : (period last count : ℕ) → is_due period last (count + 1) ≡ false → asks period last (count + 1) ≡ asks period last count
same_asks period last count idle =
    asks_more period last count ∙ ap (λ b. asks period last count ++ cond b ((count + 1) ∷ []) []) idle ∙ append-nil (asks period last count)

more_asks : (period last count : ℕ) → is_due period last (count + 1) ≡ true → asks period last (count + 1) ≡ asks period last count ++ (count + 1) ∷ []
more_asks period last count due = asks_more period last count ∙ ap (λ b. asks period last count ++ cond b ((count + 1) ∷ []) []) due

-- after a batch without a request
pub not_due : (plan : Rehearsal) (n : ℕ) (f : RehearsedMirror) → Follows plan n f → is_due f.period plan.batches (n + 1) ≡ false → Follows plan (n + 1) f
not_due plan n f h idle =
    let same : asks f.period plan.batches n ≡ asks f.period plan.batches (n + 1) = sym (same_asks f.period plan.batches n idle) in
    record {
      period = h.period;
      target = h.target;
      meta = h.meta;
      held = h.held ∙ ap (held_after (batches_of plan) f.mirror.query) same;
      delta = h.delta ∙ ap (deltas plan.keep (batches_of plan)) same;
      full = h.full ∙ ap (fulls plan.keep (batches_of plan)) same;
      few = omega (arith, h.few);
    }

pub may_ask : (plan : Rehearsal) (n : ℕ) (f : RehearsedMirror) → Follows plan n f → MayAsk (take (n + 1) (batches_of plan)) f.mirror
may_ask plan n f h = record { target = h.target; meta = h.meta; base = base_not_later f.period plan.batches n (batches_of plan) f.mirror.query f.mirror.held h.held }

-- after a batch with a request
pub was_due : (plan : Rehearsal) (n : ℕ) (f g : RehearsedMirror) (store : Store) (is_delta : Bool) → Follows plan n f → IsAt plan (n + 1) store → is_due f.period plan.batches (n + 1) ≡ true
    → g.mirror ≡ record {
      target = f.mirror.target;
      query = f.mirror.query;
      meta = f.mirror.meta;
      held = mirror_after f.mirror.held (listing store.keep (take (n + 1) (batches_of plan)) Items (mirror_look f.mirror.query f.mirror.meta f.mirror.held.revision));
    }
    → is_delta ≡ is_kept store.keep (take (n + 1) (batches_of plan)) Items f.mirror.held.revision
    → g.period ≡ f.period → g.delta ≡ f.delta + cond is_delta 1 0 → g.full ≡ f.full + cond (not is_delta) 1 0
    → Follows plan (n + 1) g
was_due plan n f g store is_delta h at due mirror delta_is period delta full =
    let bs : List (List Edit) = batches_of plan in
    let before : List ℕ = asks f.period plan.batches n in
    let now : before ++ (n + 1) ∷ [] ≡ asks g.period plan.batches (n + 1) = sym (more_asks f.period plan.batches n due) ∙ ap (λ p. asks p plan.batches (n + 1)) (sym period) in
    let kept : is_delta ≡ is_kept plan.keep (take (n + 1) bs) Items f.mirror.held.revision = delta_is ∙ ap (λ k. is_kept k (take (n + 1) bs) Items f.mirror.held.revision) at.keep in
    record {
      period = subst (λ p. 1 ≤ p) (sym period) h.period;
      target = ap (λ m. m.target) mirror ∙ h.target;
      meta = ap (λ m. m.meta) mirror ∙ h.meta;
      held = ap (λ m. m.held) mirror
          ∙ ap (λ k. mirror_after f.mirror.held (listing k (take (n + 1) bs) Items (mirror_look f.mirror.query f.mirror.meta f.mirror.held.revision))) at.keep
          ∙ ap (λ m. mirror_after f.mirror.held (listing plan.keep (take (n + 1) bs) Items (mirror_look f.mirror.query m f.mirror.held.revision))) h.meta
          ∙ catches_up plan.keep f.period plan.batches n bs f.mirror.query f.mirror.held h.held
          ∙ sym (held_more bs f.mirror.query before (n + 1))
          ∙ ap (held_after bs f.mirror.query) now
          ∙ ap (λ q. held_after bs q (asks g.period plan.batches (n + 1))) (sym (ap (λ m. m.query) mirror));
      delta = delta ∙ (λ i. h.delta i + cond (kept i) 1 0) ∙ sym (deltas_more plan.keep bs f.mirror.query f.mirror.held before (n + 1) h.held) ∙ ap (deltas plan.keep bs) now;
      full = full ∙ (λ i. h.full i + cond (not (kept i)) 1 0) ∙ sym (fulls_more plan.keep bs f.mirror.query f.mirror.held before (n + 1) h.held) ∙ ap (fulls plan.keep bs) now;
      few = counted is_delta delta full;
    }
  where
    counted : (b : Bool) → g.delta ≡ f.delta + cond b 1 0 → g.full ≡ f.full + cond (not b) 1 0 → g.full + g.delta ≤ n + 1
    counted true d e = omega (arith, h.few, d, e)
    counted false d e = omega (arith, h.few, d, e)

pub same_mirror : (f g : RehearsedMirror) (query : Option Query) (period : ℕ) → g.mirror.query ≡ f.mirror.query → g.period ≡ f.period → IsMirror period query f → IsMirror period query g
same_mirror f g query period q p is = record { period = p ∙ is.period; query = q ∙ is.query }

-- ---- the end

last_is_due : (period last : ℕ) → is_due period last last ≡ true
last_is_due period last = by_either (last % period == 0) (last == last) (eq-eqb last last refl)
  where
    by_either : (a b : Bool) → b ≡ true → (a || b) ≡ true
    by_either true b h = refl
    by_either false b h = h

-- after the last batch a mirror holds all rows of its query
pub last_held : (bs : List (List Edit)) (q : Option Query) (period last : ℕ) → 1 ≤ last → held_after bs q (asks period last last) ≡ mirrored (take last bs) Items q Default
last_held bs q period last some =
    subst (λ n. held_after bs q (asks period last n) ≡ mirrored (take n bs) Items q Default) before
    (ap (held_after bs q) (more_asks period last (last - 1) (subst (λ n. is_due period last n ≡ true) (sym before) (last_is_due period last))) ∙ held_more bs q (asks period last (last - 1)) (last - 1 + 1))
  where
    before : last - 1 + 1 ≡ last
    before = omega (arith, some)
