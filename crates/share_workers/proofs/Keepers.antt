-- What a keeper did while a worker made entries, over one turn more; and that it has the batches of the history.
use Rattle.std.proofs.Common.{◌≡◌, ◌==◌, ℕ, List, [], ◌∷◌, ◌++◌, refl, sym, ap, ◌∙◌, subst, Bool, true, false, append_assoc, append-nil, if◌then◌else◌, arith}
use Rattle.std.proofs.lemmas.Bool.{eq-eqb}
use Rattle.std.proofs.lemmas.List.{append_cancel_left}
use Rattle.std.proofs.lemmas.List.Elements.{All-head, All-tail, filter-append}
use Rattle.item_model.specs.declared.changes.Edit.{Edit}
use Rattle.item_model.specs.declared.changes.Entry.{Entry}
use Rattle.item_model.specs.declared.changes.Entry.TheVariants as entry
use Rattle.share_history.proofs.EditFacts.{batches-append}
use Rattle.share_history.specs.Histories.{batches}
use Rattle.share_lock.specs.Histories.{entries_of, NoneOf}
use Rattle.share_lock.proofs.Fronts.{continues}
use Rattle.share_replies.specs.Laws.{is_edit, maker}
use Rattle.share_server.specs.Kept.{IsUnheard, Keeping}
use Rattle.share_server.specs.Losses.{edit_and_stop}
use Rattle.share_server.specs.Passes.{Pass}
use Rattle.share_workers.specs.Keepers.{EditsAreBy, KeepsBut}
use Rattle.share_workers.specs.Works.{Syncs}

-- ---- a turn that adds nothing

-- nor does what no turn was taken for
pub keeping_same : (keeps : List (List Edit) → Type 0) (is_lost : Bool) (faults : ℕ) (k k' : Pass) → is_lost ≡ false → k' ≡ k
    → Keeping keeps keeps is_lost faults faults k k' false
keeping_same keeps is_lost faults k k' going same = record {
  number = ap (λ (p : Pass). p.number) same;
  made = [];
  lost = [];
  unheard = refl;
  own = ap (λ (p : Pass). entries_of maker k.number p.seen) same ∙ sym (append-nil (entries_of maker k.number k.seen));
  kept = λ bs kept. subst keeps (sym (append-nil bs)) kept;
  is_lost = going;
  counts = refl;
}

-- entries of other handles are not its own
own_stays : (n : ℕ) (seen more h : List Entry) → h ≡ seen ++ more → NoneOf maker (n ∷ []) more → entries_of maker n h ≡ entries_of maker n seen
own_stays n seen more h grows none = (continues {E = Entry} maker (n ∷ []) seen h more grows none).own n (0, omega arith, refl)

pub keeping_synced : (keeps keeps' : List (List Edit) → Type 0) (is_lost' : Bool) (faults faults' : ℕ) (k j k' : Pass) (loses : Bool)
    → Keeping keeps keeps' is_lost' faults faults' k j loses → Syncs j k' → Keeping keeps keeps' is_lost' faults faults' k k' loses
keeping_synced keeps keeps' is_lost' faults faults' k j k' loses did syncs = record {
  number = ap (λ (p : Pass). p.number) syncs.after ∙ did.number;
  made = did.made;
  lost = did.lost;
  unheard = did.unheard;
  own = subst (λ n. entries_of maker n k'.seen ≡ entries_of maker n j.seen) did.number
      (own_stays j.number j.seen syncs.more k'.seen (ap (λ (p : Pass). p.seen) syncs.after) syncs.none) ∙ did.own;
  kept = did.kept;
  is_lost = did.is_lost;
  counts = did.counts;
}

pub keeping_as : (keeps keeps' : List (List Edit) → Type 0) (is_lost' : Bool) (faults faults' : ℕ) (k k' : Pass) (loses loses' : Bool) → loses' ≡ loses
    → Keeping keeps keeps' is_lost' faults faults' k k' loses → Keeping keeps keeps' is_lost' faults faults' k k' loses'
keeping_as keeps keeps' is_lost' faults faults' k k' loses loses' is did = subst (λ (b : Bool). Keeping keeps keeps' is_lost' faults faults' k k' b) (sym is) did

-- ---- the batches of the history

either_way : (b : Bool) (e : Entry) (es : List Entry) (bs : List (List Edit)) → batches (e ∷ es) ≡ batches es → bs ≡ batches es → bs ≡ batches (if b then e ∷ es else es)
either_way true e es bs quiet is = is ∙ sym quiet
either_way false e es bs quiet is = is

abbrev IsBy : ℕ → Entry → Type 0
IsBy n e = is_edit e ≡ true → maker e ≡ n

-- those of the edits are those of the number's own entries
own_batches : (n : ℕ) (es : List Entry) → EditsAreBy n es → batches es ≡ batches (entries_of maker n es)
own_batches n [] are = refl
own_batches n (entry.Edits by batch ∷ es) are =
    let own : (by == n) ≡ true = eq-eqb by n (All-head (IsBy n) (entry.Edits by batch) es are refl) in
    rw own (ap (λ bs. batch ∷ bs) (own_batches n es (All-tail (IsBy n) (entry.Edits by batch) es are)))
own_batches n (entry.Login by id ∷ es) are =
    either_way (by == n) (entry.Login by id) (entries_of maker n es) (batches es) refl (own_batches n es (All-tail (IsBy n) (entry.Login by id) es are))
own_batches n (entry.Logout by id ∷ es) are =
    either_way (by == n) (entry.Logout by id) (entries_of maker n es) (batches es) refl (own_batches n es (All-tail (IsBy n) (entry.Logout by id) es are))
own_batches n (entry.Stop by ∷ es) are =
    either_way (by == n) (entry.Stop by) (entries_of maker n es) (batches es) refl (own_batches n es (All-tail (IsBy n) (entry.Stop by) es are))

-- the own entries after the beginning are those that were added
own_behind : (n : ℕ) (seen seen' h behind later made : List Entry) → h ≡ seen ++ behind → h ≡ seen' ++ later → NoneOf maker (n ∷ []) later
    → entries_of maker n seen' ≡ entries_of maker n seen ++ made → entries_of maker n behind ≡ made
own_behind n seen seen' h behind later made begins ends none own =
    append_cancel_left (entries_of maker n seen) (entries_of maker n behind) made
    (sym (filter-append (λ e. maker e == n) seen behind) ∙ ap (entries_of maker n) (sym begins) ∙ own_stays n seen' later h ends none ∙ own)

kept_but : (keeps' : List (List Edit) → Type 0) (n : ℕ) (before : List (List Edit)) (made lost : List Entry) (loses : Bool) → IsUnheard loses n lost
    → keeps' (before ++ batches made) → KeepsBut loses keeps' (before ++ batches (made ++ lost))
kept_but keeps' n before made lost false none kept =
    subst (λ (l : List Entry). keeps' (before ++ batches (made ++ l))) (sym none) (subst (λ (l : List Entry). keeps' (before ++ batches l)) (sym (append-nil made)) kept)
kept_but keeps' n before made lost true (batch, is) kept = (
  before ++ batches made,
  batch,
  ap (λ l. before ++ batches (made ++ l)) is ∙ ap (λ bs. before ++ bs) (batches-append made (edit_and_stop n batch))
      ∙ sym (append_assoc before (batches made) (batch ∷ [])),
  kept,
)

pub keeps_history : (keeps keeps' : List (List Edit) → Type 0) (is_lost' : Bool) (faults faults' : ℕ) (k k' : Pass) (loses : Bool) (h behind later : List Entry)
    → Keeping keeps keeps' is_lost' faults faults' k k' loses → keeps (batches k.seen) → h ≡ k.seen ++ behind → h ≡ k'.seen ++ later
    → EditsAreBy k.number behind → NoneOf maker (k.number ∷ []) later → KeepsBut loses keeps' (batches h)
keeps_history keeps keeps' is_lost' faults faults' k k' loses h behind later did had begins ends are none =
    let own : entries_of maker k.number behind ≡ did.made ++ did.lost = own_behind k.number k.seen k'.seen h behind later (did.made ++ did.lost) begins ends none did.own in
    let all : batches h ≡ batches k.seen ++ batches (did.made ++ did.lost) =
    ap batches begins ∙ batches-append k.seen behind ∙ ap (λ bs. batches k.seen ++ bs) (own_batches k.number behind are ∙ ap batches own) in
    subst (λ bs. KeepsBut loses keeps' bs) (sym all)
    (kept_but keeps' k.number (batches k.seen) did.made did.lost loses did.unheard (did.kept (batches k.seen) had))
