use Rattle.std.proofs.Common.{rules, ◌≡◌, [], ◌∷◌, ◌++◌, length, Err, ap, sym, ◌∙◌, append_assoc}
use Rattle.item_model.specs.declared.changes.Entry.TheVariants.{Edits}
use Rattle.share_history.specs.Limits.{is_below_entry_limit, has_room_for, has_few_lists}
use Rattle.share_history.specs.Sessions.{is_stopped}
use Rattle.share_replies.specs.Answers.{Shared}
use Rattle.share_core.specs.declared.share.OpenError.TheVariants.{Lists}
use Rattle.share_core.proofs.Opening.{opened-more, opened_goes_on, opens_below_limit, opens_room, few_more, many_until}
use Rattle.share_core.proofs.share.begin_all.Goals as goal

pub begin-requires-clause-going : goal.begin-requires-clause-going
begin-requires-clause-going g c = ap (λ (s : Shared). is_stopped s.history) c.loop-batch.invariant.is ∙ opened_goes_on c.loop-batch.yielded

pub begin-requires-clause-below : goal.begin-requires-clause-below
begin-requires-clause-below g c =
    ap (λ (s : Shared). is_below_entry_limit s.history) c.loop-batch.invariant.is
    ∙ opens_below_limit c.loop-batch.yielded c.in-Some.batch _ c.args.batches.items
    (ap (λ l. c.loop-batch.yielded ++ l) (sym c.in-Some.ensures.steps.0) ∙ c.loop-batch.invariant.items) c.requires.few c.requires.filled

pub begin-requires-clause-room : goal.begin-requires-clause-room
begin-requires-clause-room g c =
    ap (λ (s : Shared). has_room_for s.history (length c.in-Some.batch)) c.loop-batch.invariant.is
    ∙ opens_room c.loop-batch.yielded c.in-Some.batch _ c.args.batches.items
    (ap (λ l. c.loop-batch.yielded ++ l) (sym c.in-Some.ensures.steps.0) ∙ c.loop-batch.invariant.items) c.requires.few

pub loop-batch-preserved : goal.loop-batch-preserved
loop-batch-preserved g c =
    let inv = c.loop-batch.invariant in
    let done = c.loop-batch.yielded in
    let b = c.in-Some.batch in record {
      is = c.in_ok-begin.ensures.grown ∙ ap (λ (s : Shared). record { settings = s.settings; history = s.history ++ Edits 0 b ∷ []; marks = s.marks }) inv.is
          ∙ ap (λ h. record { settings = c.args.share.now.settings; history = h; marks = c.args.share.now.marks }) (sym (opened-more done b));
      fits = few_more done b inv.fits (sym (ap (λ (s : Shared). has_few_lists s.history b) inv.is) ∙ c.in_ok-begin.ensures.fits);
      items = append_assoc done (b ∷ []) _ ∙ (ap (λ l. done ++ l) (sym c.in-Some.ensures.steps.0) ∙ inv.items);
    }

pub returns-in_err-begin-clause-lists : goal.returns-in_err-begin-clause-lists
returns-in_err-begin-clause-lists g c is =
    let inv = c.loop-batch.invariant in
    let done = c.loop-batch.yielded in
    let b = c.in-Some.batch in
    let refused : c.begin.result ≡ Err Lists = search rules in
    many_until done b _ c.args.batches.items (ap (λ l. done ++ l) (sym c.in-Some.ensures.steps.0) ∙ inv.items)
    (sym (ap (λ (s : Shared). has_few_lists s.history b) inv.is) ∙ c.begin.ensures.lists refused)
