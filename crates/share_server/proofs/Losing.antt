-- Ends that lose no edit, and what a keeper did over several turns.
use Rattle.std.proofs.Common.{◌≡◌, ℕ, List, [], ◌∷◌, ◌++◌, length, take, Bool, true, false, MatchBool, refl, sym, ap, ◌∙◌, subst, append_assoc, append-nil, length-append, arith}
use Rattle.std.proofs.lemmas.List.{append_cancel_left}
use Rattle.std.proofs.Math.Seq.{take-append_seam}
use Rattle.outside_net.specs.Counts.{Rose}
use Rattle.item_model.specs.declared.changes.Edit.{Edit}
use Rattle.item_model.specs.declared.changes.Entry.{Entry}
use Rattle.share_asks.specs.declared.ask.Ask.{Ask}
use Rattle.share_asks.specs.declared.ask.Role.{Role}
use Rattle.share_history.specs.Histories.{batches}
use Rattle.share_history.proofs.EditFacts.{batches-append}
use Rattle.share_lock.specs.Histories.{entries_of}
use Rattle.share_replies.specs.Laws.{maker}
use Rattle.http_front.proofs.ReadingLaws.{joins_stay}
use Rattle.share_server.specs.declared.report.Served.{Served}
use Rattle.share_server.specs.declared.report.LinkEnd.{LinkEnd}
use Rattle.share_server.specs.Served.{added_entries}
use Rattle.share_server.specs.Passes.{Pass, Serves}
use Rattle.share_server.specs.Losses.{ServesBut, LosesEdit, Loses, is_loss}
use Rattle.share_server.specs.Kept.{IsUnheard, Keeping}

-- ---- ends

module _ (role : Role) (asks : List Ask) (k k' : Pass) (served : List Served) (end : LinkEnd) where
  -- an end that is not a loss lost nothing
  pub loses_none : (bytes : List ℕ) → is_loss end ≡ false → Loses role bytes asks k k' served [] end
  loses_none bytes unlost = subst (λ b. MatchBool b (LosesEdit role bytes asks k k' served []) (◌≡◌ {A = List Entry} [] [])) (sym unlost) refl

  -- what was lost inside bytes was lost inside all that begin with them
  pub loses_longer : (bytes more : List ℕ) (lost : List Entry) → Loses role bytes asks k k' served lost end → Loses role (bytes ++ more) asks k k' served lost end
  loses_longer bytes more lost = by_end (is_loss end)
    where
      by_end : (b : Bool) → MatchBool b (LosesEdit role bytes asks k k' served lost) (lost ≡ [])
          → MatchBool b (LosesEdit role (bytes ++ more) asks k k' served lost) (lost ≡ [])
      by_end true loses = record {
        ask = loses.ask;
        behind = loses.behind ++ more;
        next = joins_stay role bytes more (asks ++ loses.ask ∷ []) loses.behind loses.next;
        batch = loses.batch;
        asks_it = loses.asks_it;
        made = loses.made;
      }
      by_end false none = none

  -- so no reported request added what was lost
  pub unheard : (bytes : List ℕ) (lost : List Entry) → Loses role bytes asks k k' served lost end → IsUnheard (is_loss end) k.number lost
  unheard bytes lost = by_end (is_loss end)
    where
      by_end : (b : Bool) → MatchBool b (LosesEdit role bytes asks k k' served lost) (lost ≡ []) → IsUnheard b k.number lost
      by_end true loses = (loses.batch, loses.made.lost_is)
      by_end false none = none

  -- and nothing was lost if the end is not a loss
  pub lost_none : (bytes : List ℕ) (lost : List Entry) → is_loss end ≡ false → Loses role bytes asks k k' served lost end → lost ≡ []
  lost_none bytes lost unlost loses = subst (λ b. MatchBool b (LosesEdit role bytes asks k k' served lost) (lost ≡ [])) unlost loses

-- ---- keepers

-- a turn that served nothing, of which the keeper knows nothing
pub keeping_none : (keeps : List (List Edit) → Type 0) (is_lost : Bool) (faults : ℕ) (k k' : Pass) → is_lost ≡ false → Serves k k' [] []
    → Keeping keeps keeps is_lost faults faults k k' false
keeping_none keeps is_lost faults k k' going quiet = record {
  number = ap (λ (p : Pass). p.number) quiet.stays;
  made = [];
  lost = [];
  unheard = refl;
  own = quiet.own;
  kept = λ bs kept. subst keeps (sym (append-nil bs)) kept;
  is_lost = going;
  counts = refl;
}

-- a turn after those before, none of which lost an edit
pub keeping_then : (keeps keeps' keeps'' : List (List Edit) → Type 0) (is_lost' is_lost'' : Bool) (faults faults' faults'' : ℕ) (k k' k'' : Pass) (loses : Bool)
    → Keeping keeps keeps' is_lost' faults faults' k k' false → Keeping keeps' keeps'' is_lost'' faults' faults'' k' k'' loses
    → Keeping keeps keeps'' is_lost'' faults faults'' k k'' loses
keeping_then keeps keeps' keeps'' is_lost' is_lost'' faults faults' faults'' k k' k'' loses one two =
    let before : List Entry = entries_of maker k.number k.seen in
    let behind : List Entry = two.made ++ two.lost in
    record {
      number = two.number ∙ one.number;
      made = one.made ++ two.made;
      lost = two.lost;
      unheard = subst (λ n. IsUnheard loses n two.lost) one.number two.unheard;
      own = ap (λ n. entries_of maker n k''.seen) (sym one.number)
          ∙ (two.own
          ∙ (ap (λ n. entries_of maker n k'.seen ++ behind) one.number
          ∙ (ap (λ es. es ++ behind) (one.own ∙ ap (λ es. before ++ es) (ap (λ es. one.made ++ es) one.unheard ∙ append-nil one.made))
          ∙ (append_assoc before one.made behind ∙ ap (λ es. before ++ es) (sym (append_assoc one.made two.made two.lost))))));
      kept = λ bs kept.
          subst keeps''
          (append_assoc bs (batches one.made) (batches two.made) ∙ ap (λ l. bs ++ l) (sym (batches-append one.made two.made)))
          (two.kept (bs ++ batches one.made) (one.kept bs kept));
      is_lost = two.is_lost;
      counts = subst (λ n. MatchBool loses (Rose n faults'') (faults'' ≡ n)) one.counts two.counts;
    }

-- lists that both end with two elements
same_front : (xs ys : List Entry) (a b c d : Entry) → xs ++ (a ∷ b ∷ []) ≡ ys ++ (c ∷ d ∷ []) → xs ≡ ys
same_front xs ys a b c d same =
    let count : length xs ≡ length ys =
    omega (arith, length-append xs (a ∷ b ∷ []), length-append ys (c ∷ d ∷ []), ap length same) in
    sym (take-append_seam xs (a ∷ b ∷ []))
    ∙ (ap (λ l. take (length xs) l) same
    ∙ (ap (λ n. take n (ys ++ (c ∷ d ∷ []))) count ∙ take-append_seam ys (c ∷ d ∷ [])))

same_made : (loses : Bool) (number : ℕ) (made added lost lost' : List Entry) → made ++ lost ≡ added ++ lost' → IsUnheard loses number lost
    → IsUnheard loses number lost' → made ≡ added
same_made false number made added lost lost' same one two =
    sym (append-nil made) ∙ (ap (λ l. made ++ l) (sym one) ∙ (same ∙ (ap (λ l. added ++ l) two ∙ append-nil added)))
same_made true number made added lost lost' same one two =
    same_front made added _ _ _ _ (ap (λ l. made ++ l) (sym one.1) ∙ (same ∙ ap (λ l. added ++ l) two.1))

-- what a keeper kept over a connection are the edits of the requests that were served
pub kept_added : (keeps keeps' : List (List Edit) → Type 0) (is_lost' : Bool) (faults faults' : ℕ) (k k' : Pass) (loses : Bool) (asks : List Ask) (served : List Served) (lost : List Entry)
    → Keeping keeps keeps' is_lost' faults faults' k k' loses → ServesBut k k' asks served lost → IsUnheard loses k.number lost
    → (bs : List (List Edit)) → keeps bs → keeps' (bs ++ batches (added_entries k'.seen served))
kept_added keeps keeps' is_lost' faults faults' k k' loses asks served lost keeping serves none bs kept =
    let same : keeping.made ++ keeping.lost ≡ added_entries k'.seen served ++ lost =
    append_cancel_left (entries_of maker k.number k.seen) (keeping.made ++ keeping.lost) (added_entries k'.seen served ++ lost) (sym keeping.own ∙ serves.own) in
    subst (λ es. keeps' (bs ++ batches es))
    (same_made loses k.number keeping.made (added_entries k'.seen served) keeping.lost lost same keeping.unheard none) (keeping.kept bs kept)
