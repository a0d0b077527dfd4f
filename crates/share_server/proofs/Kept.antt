-- What one turn does with an edit: it is kept in the turn that adds it, or the same turn stops the share.
use Rattle.std.proofs.Common.{◌≡◌, ◌≢◌, ℕ, zero, suc, ◌+◌, List, [], ◌∷◌, ◌++◌, length, Bool, true, false, cond, ◌||◌, is_some, Some, None, refl, sym, ap, ◌∙◌, subst, append_assoc, append-nil, length-append, arith}
use Rattle.std.proofs.lemmas.List.Elements.{All-append}
use Rattle.std.specs.Prelude.{All, Result, Ok, Err, OnOk, OnErr, is_ok, is_err}
use Rattle.outside_net.specs.Counts.{CountsFaults, Rose}
use Rattle.item_model.specs.declared.changes.Edit.{Edit as OneEdit}
use Rattle.item_model.specs.declared.changes.Entry.{Entry}
use Rattle.item_model.specs.declared.changes.Entry.TheVariants as entry
use Rattle.share_asks.specs.declared.ask.Ask.{Ask}
use Rattle.share_asks.specs.declared.ask.Want.{Want}
use Rattle.share_asks.specs.declared.ask.Want.TheVariants.{ServerInfo, Codes, Login, Logout, Update, Databases, Rows, Lists, Values, Edit, Stop, Bad}
use Rattle.share_history.specs.Histories.{batches}
use Rattle.share_history.specs.Sessions.{is_stop, is_stopped}
use Rattle.share_lock.specs.Histories.{entries_of, Continues}
use Rattle.share_lock.specs.Known.{numbers_of, after_turn}
use Rattle.share_lock.proofs.Fronts.{adds_own}
use Rattle.share_replies.specs.Replies.{refusal}
use Rattle.share_replies.specs.Added.{adds, made_by}
use Rattle.share_replies.specs.Answers.{Shared}
use Rattle.share_replies.specs.Laws.{maker}
use Rattle.share_replies.specs.Settings.{Settings}
use Rattle.share_replies.proofs.ReplyFacts.{entries_are_the_askers, stopped_shares_refuse}
use Rattle.share_core.specs.Laws.{Grows}
use Rattle.share_server.specs.Passes.{Pass}
use Rattle.share_server.specs.Losses.{edit_and_stop}
use Rattle.share_server.specs.Answering.{Finds, HasAdded, IsLost}
use Rattle.share_server.specs.Kept.{IsReadyFor, Keeping, edits_wanted}
use Rattle.share_server.proofs.InTurn.{looked_once}
use Rattle.share_server.proofs.Listening.{any_neither}
use Rattle.share_server.proofs.Losing.{keeping_none}
use Rattle.share_server.proofs.Turning.{own_stays, serves_nothing}

-- ---- the entry that an operation adds

-- the entry of an operation that succeeds
granted : (h : List Entry) (by : ℕ) (want : Want) (e : Entry) → adds h by want ≡ Some e → made_by by h want ≡ Some e
granted h by want e = by_refusal (is_some (refusal h want))
  where
    by_refusal : (b : Bool) → cond b None (made_by by h want) ≡ Some e → made_by by h want ≡ Some e
    by_refusal true is = absurd (cc)
    by_refusal false is = is

no_batch : (f e : Entry) → batches (f ∷ []) ≡ [] → Some f ≡ Some e → batches (e ∷ []) ≡ []
no_batch f e none is = let same : f ≡ e = (cc) in subst (λ e. batches (e ∷ []) ≡ []) same none

-- what has no edits makes no batch
quiet_made : (h : List Entry) (by : ℕ) (want : Want) (e : Entry) → made_by by h want ≡ Some e → edits_wanted want ≡ [] → batches (e ∷ []) ≡ []
quiet_made h by ServerInfo e is none = absurd (cc)
quiet_made h by Codes e is none = absurd (cc)
quiet_made h by Login e is none = no_batch _ e refl is
quiet_made h by (Logout session) e is none = no_batch _ e refl is
quiet_made h by (Update session number) e is none = absurd (cc)
quiet_made h by (Databases session) e is none = absurd (cc)
quiet_made h by (Rows session target look) e is none = absurd (cc)
quiet_made h by (Lists session) e is none = absurd (cc)
quiet_made h by (Values session browse query) e is none = absurd (cc)
quiet_made h by (Edit (Ok [])) e is none = absurd (cc)
quiet_made h by (Edit (Ok (x ∷ xs))) e is none = absurd (cc)
quiet_made h by (Edit (Err error)) e is none = absurd (cc)
quiet_made h by Stop e is none = no_batch _ e refl is
quiet_made h by (Bad fault) e is none = absurd (cc)

-- what has edits makes one entry of them
record Brings (by : ℕ) (want : Want) (e : Entry) : Type 0 where
  asks_it : want ≡ Edit (Ok (edits_wanted want))
  entry_is : e ≡ entry.Edits by (edits_wanted want)

brought : (h : List Entry) (by : ℕ) (want : Want) (e : Entry) → made_by by h want ≡ Some e → edits_wanted want ≢ [] → Brings by want e
brought h by ServerInfo e is some = absurd (some refl)
brought h by Codes e is some = absurd (some refl)
brought h by Login e is some = absurd (some refl)
brought h by (Logout session) e is some = absurd (some refl)
brought h by (Update session number) e is some = absurd (some refl)
brought h by (Databases session) e is some = absurd (some refl)
brought h by (Rows session target look) e is some = absurd (some refl)
brought h by (Lists session) e is some = absurd (some refl)
brought h by (Values session browse query) e is some = absurd (some refl)
brought h by (Edit (Ok [])) e is some = absurd (some refl)
brought h by (Edit (Ok (x ∷ xs))) e is some = record { asks_it = refl; entry_is = (cc) }
brought h by (Edit (Err error)) e is some = absurd (some refl)
brought h by Stop e is some = absurd (some refl)
brought h by (Bad fault) e is some = absurd (some refl)

-- a share that was stopped adds nothing
goes_on : (settings : Settings) (h : List Entry) (by : ℕ) (want : Want) (e : Entry) → adds h by want ≡ Some e → is_stopped h ≡ false
goes_on settings h by want e is = by_stop (is_stopped h) refl
  where
    by_stop : (b : Bool) → is_stopped h ≡ b → b ≡ false
    by_stop false at = refl
    by_stop true at = absurd (let none : None ≡ Some e = sym (stopped_shares_refuse settings h by want at).1 ∙ is in cc)

-- nor does an edit stop it
pub goes_on_behind : (settings : Settings) (h h' : List Entry) (by : ℕ) (want : Want) → HasAdded true h by want h' → edits_wanted want ≢ [] → is_stopped h' ≡ false
goes_on_behind settings h h' by want (e, is, grown) some =
    let brings : Brings by want e = brought h by want e (granted h by want e is) some in
    ap is_stopped grown
    ∙ any_neither is_stop h (e ∷ []) (goes_on settings h by want e is) (ap (λ e. is_stop e || false) brings.entry_is)

-- ---- what a turn made of it

all_one : {by : ℕ} (e : Entry) → maker e ≡ by → All (λ e. maker e ≡ by) (e ∷ [])
all_one e own zero d less = own
all_one e own (suc i) d less = absurd (omega (arith, less))

all_two : {by : ℕ} (e f : Entry) → maker e ≡ by → maker f ≡ by → All (λ e. maker e ≡ by) (e ∷ f ∷ [])
all_two e f one two zero d less = one
all_two e f one two (suc zero) d less = two
all_two e f one two (suc (suc i)) d less = absurd (omega (arith, less))

module _ (k : Pass) (h : List Entry) (on : Continues maker (numbers_of k) k.seen h) where
  -- what a handle appended to the history that its turn found
  own_behind : (made : List Entry) → All (λ e. maker e ≡ k.number) made → entries_of maker k.number (h ++ made) ≡ entries_of maker k.number k.seen ++ made
  own_behind made own = adds_own maker k.number h (h ++ made) (made, refl, own) made refl ∙ ap (λ es. es ++ made) (own_stays k h on)

  -- nothing was added
  pub kept_nothing : (keeps : List (List OneEdit) → Type 0) (is_lost : Bool) (faults : ℕ) (h' : List Entry) → is_lost ≡ false → h' ≡ h
      → Keeping keeps keeps is_lost faults faults k (after_turn k h') false
  kept_nothing keeps is_lost faults h' going same =
      subst (λ l. Keeping keeps keeps is_lost faults faults k (after_turn k l) false) (sym same)
      (keeping_none keeps is_lost faults k (after_turn k h) going (serves_nothing k h on))

  -- an entry was added, and what it brings was kept
  kept_one : (keeps keeps' : List (List OneEdit) → Type 0) (is_lost' : Bool) (faults faults' : ℕ) (e : Entry) → maker e ≡ k.number → is_lost' ≡ false → faults' ≡ faults
      → ((bs : List (List OneEdit)) → keeps bs → keeps' (bs ++ batches (e ∷ []))) → Keeping keeps keeps' is_lost' faults faults' k (after_turn k (h ++ e ∷ [])) false
  kept_one keeps keeps' is_lost' faults faults' e own going same kept = record {
    number = refl;
    made = e ∷ [];
    lost = [];
    unheard = refl;
    own = own_behind (e ∷ []) (all_one e own);
    kept = kept;
    is_lost = going;
    counts = same;
  }

  module _ (want : Want) (h' : List Entry) (added : HasAdded true h k.number want h') where
    made_own : maker added.0 ≡ k.number
    made_own = entries_are_the_askers h k.number want added.0 added.1

    -- it brings no edits
    pub kept_unready : (keeps : List (List OneEdit) → Type 0) (is_lost : Bool) (faults : ℕ) → is_lost ≡ false → edits_wanted want ≡ []
        → Keeping keeps keeps is_lost faults faults k (after_turn k h') false
    kept_unready keeps is_lost faults going none =
        subst (λ l. Keeping keeps keeps is_lost faults faults k (after_turn k l) false) (sym added.2)
        (kept_one keeps keeps is_lost faults faults added.0 made_own going refl
        (λ bs kept. subst keeps (sym (ap (λ l. bs ++ l) (quiet_made h k.number want added.0 (granted h k.number want added.0 added.1) none) ∙ append-nil bs)) kept))

    brings : edits_wanted want ≢ [] → Brings k.number want added.0
    brings some = brought h k.number want added.0 (granted h k.number want added.0 added.1) some

    -- it brings edits, which were kept
    pub kept_ready : (keeps keeps' : List (List OneEdit) → Type 0) (is_lost' : Bool) (faults faults' : ℕ) → is_lost' ≡ false → faults' ≡ faults → edits_wanted want ≢ []
        → ((bs : List (List OneEdit)) → keeps bs → keeps' (bs ++ edits_wanted want ∷ [])) → Keeping keeps keeps' is_lost' faults faults' k (after_turn k h') false
    kept_ready keeps keeps' is_lost' faults faults' going same some kept =
        subst (λ l. Keeping keeps keeps' is_lost' faults faults' k (after_turn k l) false) (sym added.2)
        (kept_one keeps keeps' is_lost' faults faults' added.0 made_own going same
        (λ bs before. subst (λ e. keeps' (bs ++ batches (e ∷ []))) (sym (brings some).entry_is) (kept bs before)))

    -- it brings edits, which were lost, and the share was stopped
    module _ (some : edits_wanted want ≢ []) (h'' : List Entry) (stopped : h'' ≡ h' ++ entry.Stop k.number ∷ []) where
      abbrev lost_here : List Entry
      lost_here = edit_and_stop k.number (edits_wanted want)

      both : h'' ≡ h ++ lost_here
      both = stopped
          ∙ (ap (λ l. l ++ entry.Stop k.number ∷ []) (added.2 ∙ ap (λ e. h ++ e ∷ []) (brings some).entry_is)
          ∙ append_assoc h (entry.Edits k.number (edits_wanted want) ∷ []) (entry.Stop k.number ∷ []))

      own_lost : entries_of maker k.number h'' ≡ entries_of maker k.number k.seen ++ lost_here
      own_lost = ap (entries_of maker k.number) both ∙ own_behind lost_here (all_two _ _ refl refl)

      pub kept_lost : (keeps keeps' : List (List OneEdit) → Type 0) (is_lost' : Bool) (faults faults' : ℕ) → is_lost' ≡ true → Rose faults faults'
          → ((bs : List (List OneEdit)) → keeps bs → keeps' bs) → Keeping keeps keeps' is_lost' faults faults' k (after_turn k h'') true
      kept_lost keeps keeps' is_lost' faults faults' lost rose kept = record {
        number = refl;
        made = [];
        lost = lost_here;
        unheard = (edits_wanted want, refl);
        own = own_lost;
        kept = λ bs before. subst keeps' (sym (append-nil bs)) (kept bs before);
        is_lost = lost;
        counts = rose;
      }

      pub lost_at : (ask : Ask) → ask.want ≡ want → IsLost k (after_turn k h'') ask
      lost_at ask is =
          let first : length h ≡ length k.seen + length on.more = ap length on.begins ∙ length-append k.seen on.more in
          let len : length h'' ≡ length h + length lost_here = ap length both ∙ length-append h lost_here in
          record {
            batch = edits_wanted want;
            asks_it = is ∙ (brings some).asks_it;
            lost = lost_here;
            serves = record {
              fresh = looked_once k h'' (on.more ++ lost_here) (both ∙ (ap (λ l. l ++ lost_here) on.begins ∙ append_assoc k.seen on.more lost_here));
              stays = refl;
              are_served = tt;
              own = own_lost;
            };
            made = record {
              lost_is = refl;
              earlier = h;
              later = [];
              stand = both ∙ ap (λ l. h ++ l) (sym (append-nil lost_here));
              unseen = omega arith;
            };
          }

-- a turn that added the lost edit and the stop
pub grows_twice : (old new newer : Shared) (by : ℕ) → Grows old by new → newer.settings ≡ new.settings → newer.history ≡ new.history ++ entry.Stop by ∷ [] → Grows old by newer
grows_twice old new newer by (same, more, grown, own) stays stopped = (
  stays ∙ same,
  more ++ entry.Stop by ∷ [],
  stopped ∙ (ap (λ h. h ++ entry.Stop by ∷ []) grown ∙ append_assoc old.history more (entry.Stop by ∷ [])),
  All-append (λ e. maker e ≡ by) more (entry.Stop by ∷ []) own (all_one (entry.Stop by) refl),
)

-- the handle has then seen what the turn left
pub kept_in : (k k' : Pass) (h : List Entry) (keeps keeps' : List (List OneEdit) → Type 0) (is_lost' : Bool) (faults faults' : ℕ) (loses : Bool) → k' ≡ after_turn k h
    → Keeping keeps keeps' is_lost' faults faults' k (after_turn k h) loses → Keeping keeps keeps' is_lost' faults faults' k k' loses
kept_in k k' h keeps keeps' is_lost' faults faults' loses left is = subst (λ now. Keeping keeps keeps' is_lost' faults faults' k now loses) (sym left) is

-- ---- what came of a call of the keeper

from_kept : {T E : Type 0} (P : Type 0) (r : Result T E) → is_ok r ≡ true → OnOk r P → P
from_kept P (Ok x) ok p = p
from_kept P (Err e) ok p = absurd (cc)

kept_counts : {T E : Type 0} (r : Result T E) (n m : ℕ) → is_ok r ≡ true → CountsFaults n m r → m ≡ n
kept_counts (Ok x) n m ok counts = counts
kept_counts (Err e) n m ok counts = absurd (cc)

kept_goes : {T E : Type 0} (r : Result T E) → is_ok r ≡ true → is_err r ≡ false
kept_goes (Ok x) ok = refl
kept_goes (Err e) ok = absurd (cc)

from_lost : {T E : Type 0} (P : Type 0) (r : Result T E) → is_ok r ≡ false → OnErr r P → P
from_lost P (Ok x) lost p = absurd (cc)
from_lost P (Err e) lost p = p

lost_counts : {T E : Type 0} (r : Result T E) (n m : ℕ) → is_ok r ≡ false → CountsFaults n m r → Rose n m
lost_counts (Ok x) n m lost counts = absurd (cc)
lost_counts (Err e) n m lost counts = counts

lost_goes : {T E : Type 0} (r : Result T E) → is_ok r ≡ false → is_err r ≡ true
lost_goes (Ok x) lost = absurd (cc)
lost_goes (Err e) lost = refl

-- a request of the share in a turn of this handle
pub record Turn (k : Pass) (old : Shared) (by : ℕ) (want : Want) (added : Bool) (h' : List Entry) : Type 0 where
  pub own : k.number ≡ by
  pub found : Finds k old
  pub adds_it : HasAdded added old.history by want h'
  pub is_added : added ≡ true

module _ (k : Pass) (old : Shared) (by : ℕ) (want : Want) (b : Bool) (h' : List Entry) (turn : Turn k old by want b h') where
  mine : HasAdded true old.history k.number want h'
  mine = subst (λ n. HasAdded true old.history n want h') (sym turn.own) (subst (λ b. HasAdded b old.history by want h') turn.is_added turn.adds_it)

  pub unready_in_turn : (keeps : List (List OneEdit) → Type 0) (is_lost : Bool) (faults : ℕ) (loses : Bool) → is_lost ≡ false → loses ≡ false → edits_wanted want ≡ []
      → Keeping keeps keeps is_lost faults faults k (after_turn k h') loses
  unready_in_turn keeps is_lost faults loses going unlost none =
      subst (λ l. Keeping keeps keeps is_lost faults faults k (after_turn k h') l) (sym unlost)
      (kept_unready k old.history turn.found.history want h' mine keeps is_lost faults going none)

  module _ {T E : Type 0} (R : Type 0) (is_for : R → List OneEdit → Type 0) (ready : R) (made : IsReadyFor is_for (edits_wanted want) (Some ready))
      (keeps keeps' : List (List OneEdit) → Type 0) (is_lost' : Bool) (faults faults' : ℕ) (r : Result T E) (lost_is : is_lost' ≡ is_err r) (counts : CountsFaults faults faults' r) where
    pub kept_in_turn : (loses : Bool) → loses ≡ false → is_ok r ≡ true
        → ((batches : List (List OneEdit)) (batch : List OneEdit) → keeps batches → is_for ready batch → OnOk r (keeps' (batches ++ batch ∷ [])))
        → Keeping keeps keeps' is_lost' faults faults' k (after_turn k h') loses
    kept_in_turn loses unlost ok acknowledged =
        subst (λ l. Keeping keeps keeps' is_lost' faults faults' k (after_turn k h') l) (sym unlost)
        (kept_ready k old.history turn.found.history want h' mine keeps keeps' is_lost' faults faults' (lost_is ∙ kept_goes r ok) (kept_counts r faults faults' ok counts) made.0
        (λ bs before. from_kept (keeps' (bs ++ edits_wanted want ∷ [])) r ok (acknowledged bs (edits_wanted want) before made.1)))

    module _ (h'' : List Entry) (stopped : h'' ≡ h' ++ entry.Stop by ∷ []) where
      stopped_mine : h'' ≡ h' ++ entry.Stop k.number ∷ []
      stopped_mine = stopped ∙ ap (λ n. h' ++ entry.Stop n ∷ []) (sym turn.own)

      pub lost_in_turn : is_ok r ≡ false → ((batches : List (List OneEdit)) → keeps batches → OnErr r (keeps' batches))
          → Keeping keeps keeps' is_lost' faults faults' k (after_turn k h'') true
      lost_in_turn lost kept =
          kept_lost k old.history turn.found.history want h' mine made.0 h'' stopped_mine keeps keeps' is_lost' faults faults' (lost_is ∙ lost_goes r lost)
          (lost_counts r faults faults' lost counts) (λ bs before. from_lost (keeps' bs) r lost (kept bs before))

      pub is_lost_in_turn : (ask : Ask) → ask.want ≡ want → IsLost k (after_turn k h'') ask
      is_lost_in_turn ask is = lost_at k old.history turn.found.history want h' mine made.0 h'' stopped_mine ask is
