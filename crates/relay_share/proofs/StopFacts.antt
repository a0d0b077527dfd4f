-- What a stop leaves.
use Rattle.std.proofs.Common.{◌≡◌, ℕ, List, [], ◌∷◌, ◌++◌, length, take, drop, ◌-◌, ◌==◌, Bool, true, false, cond, not, ◌&&◌, ◌||◌, Option, Some, None, is_some, MatchBool, refl, sym, ap, ◌∙◌, append-nil, take-append-drop, eq-eqb}
use Rattle.std.proofs.Math.Seq.{take-length}
use Rattle.std.proofs.lemmas.List.Folds.{list_any-append}
use Rattle.std.proofs.lemmas.Bool.{eqb-true}
use Rattle.std.specs.List.{list_any}
use Rattle.std.specs.Option.{option_or, option_to_list}
use Rattle.item_model.specs.declared.changes.Edit.{Edit}
use Rattle.item_model.specs.declared.changes.Entry.{Entry}
use Rattle.item_model.specs.declared.changes.Entry.TheVariants as entry
use Rattle.share_asks.specs.declared.ask.Want.TheVariants.{Stop}
use Rattle.share_history.specs.LastSaid.{only_if}
use Rattle.share_history.specs.Sessions.{is_stop, is_stopped}
use Rattle.share_lock.specs.Histories.{entries_of}
use Rattle.share_replies.specs.Added.{adds}
use Rattle.share_replies.specs.Laws.{maker}
use Rattle.share_replies.specs.Replies.{Body, Nothing}
use Rattle.share_replies.specs.Settings.{Settings}
use Rattle.share_server.specs.declared.report.Served.{Served}
use Rattle.share_server.specs.Passes.{Pass, Serves}
use Rattle.share_server.specs.Served.{IsGivenUp, IsReplied, added_part, answered_on, at_point}
use Rattle.relay_share.specs.Asks.{edit_ask, stop_ask}
use Rattle.relay_share.specs.Laws.{StopsComeLast, is_stop_beside, stop_behind}
use Rattle.relay_share.specs.Turns.{IsTold}
use Rattle.relay_share.specs.declared.turns.Told.{Told}
use Rattle.relay_share.proofs.EditFacts.{stopped_edit}

-- ---- a history at a length, in two parts

parts : (added : Bool) (p : List Entry) → p ≡ answered_on added p ++ added_part added p
parts true p = sym (take-append-drop (length p - 1) p)
parts false p = sym (append-nil p)

-- what a stop adds, by whether the share was stopped
abbrev refused : Bool → Option (ℕ × Body)
refused stopped = option_or (only_if stopped (503, Nothing)) None

abbrev stop_by : ℕ → Bool → Option Entry
stop_by by stopped = cond (is_some (refused stopped)) None (Some (entry.Stop by))

stop_added : (h : List Entry) (by : ℕ) → adds h by Stop ≡ stop_by by (is_stopped h)
stop_added h by = refl

-- ---- the share is stopped afterwards

stopped_both : (xs ys : List Entry) (p : List Entry) → p ≡ xs ++ ys → is_stopped p ≡ (is_stopped xs || is_stopped ys)
stopped_both xs ys p is = ap is_stopped is ∙ list_any-append is_stop xs ys

or_true : (b : Bool) → (b || true) ≡ true
or_true true = refl
or_true false = refl

stopped_first : (xs ys p : List Entry) → p ≡ xs ++ ys → is_stopped xs ≡ true → is_stopped p ≡ true
stopped_first xs ys p is first = stopped_both xs ys p is ∙ ap (λ (b : Bool). b || is_stopped ys) first

stopped_last : (xs ys p : List Entry) → p ≡ xs ++ ys → is_stopped ys ≡ true → is_stopped p ≡ true
stopped_last xs ys p is last = stopped_both xs ys p is ∙ ap (λ (b : Bool). is_stopped xs || b) last ∙ or_true (is_stopped xs)

-- what a reply to a stop added, and what it left
added_stop : (settings : Settings) (by : ℕ) (p : List Entry) (s : Served) (stopped : Bool) → IsReplied settings by p Stop s → is_stopped (answered_on s.added p) ≡ stopped
    → added_part s.added p ≡ option_to_list (stop_by by stopped)
added_stop settings by p s stopped how is = how.adds_it ∙ ap (λ (b : Bool). option_to_list (stop_by by b)) is

replied_stops : (settings : Settings) (by : ℕ) (p : List Entry) (s : Served) → IsReplied settings by p Stop s → is_stopped p ≡ true
replied_stops settings by p s how = by_stopped (is_stopped (answered_on s.added p)) refl
  where
    by_stopped : (b : Bool) → is_stopped (answered_on s.added p) ≡ b → is_stopped p ≡ true
    by_stopped true is = stopped_first (answered_on s.added p) (added_part s.added p) p (parts s.added p) is
    by_stopped false is =
        stopped_last (answered_on s.added p) (added_part s.added p) p (parts s.added p) (ap is_stopped (added_stop settings by p s false how is))

pub told_stops : (k k' : Pass) (t : Told) → IsTold k k' stop_ask t → is_stopped k'.seen ≡ true
told_stops k k' t is = by_failure (t.served.status == 500) refl is.serves.are_served.0.how
  where
    by_failure : (b : Bool) → (t.served.status == 500) ≡ b
        → MatchBool b (IsGivenUp t.served) (IsReplied k.settings k.number (at_point k'.seen t.served) Stop t.served) → is_stopped k'.seen ≡ true
    by_failure true failed how = is.free refl (eqb-true t.served.status 500 failed)
    by_failure false failed how =
        stopped_first (at_point k'.seen t.served) (drop t.served.point k'.seen) k'.seen (sym (take-append-drop t.served.point k'.seen))
        (replied_stops k.settings k.number (at_point k'.seen t.served) t.served how)

-- and so it was by the time at which an edit got 503
pub edit_stopped : (k k' : Pass) (batch : List Edit) (s : Served) → Serves k k' (edit_ask batch ∷ []) (s ∷ []) → s.status ≡ 503 → is_stopped k'.seen ≡ true
edit_stopped k k' batch s one got =
    let p : List Entry = at_point k'.seen s in
    stopped_first p (drop s.point k'.seen) k'.seen (sym (take-append-drop s.point k'.seen))
    (stopped_first (answered_on s.added p) (added_part s.added p) p (parts s.added p) (stopped_edit k.settings k.number k'.seen batch s one.are_served.0 got))

-- ---- whose stop it is

any_of : (b : Bool) (xs ys : List Entry) → is_stopped (cond b xs ys) ≡ cond b (is_stopped xs) (is_stopped ys)
any_of true xs ys = refl
any_of false xs ys = refl

-- if a number made no stop, another one did
pub other_stop : (n : ℕ) (h : List Entry) → is_stopped h ≡ true → is_stopped (entries_of maker n h) ≡ false → list_any (is_stop_beside n) h ≡ true
other_stop n [] stopped none = absurd (cc)
other_stop n (e ∷ h) stopped none =
    by_maker (maker e == n) (is_stop e) stopped (sym (any_of (maker e == n) (e ∷ entries_of maker n h) (entries_of maker n h)) ∙ none) (other_stop n h)
  where
    by_maker : (mine stops : Bool) → (stops || is_stopped h) ≡ true → cond mine (stops || is_stopped (entries_of maker n h)) (is_stopped (entries_of maker n h)) ≡ false
        → (is_stopped h ≡ true → is_stopped (entries_of maker n h) ≡ false → list_any (is_stop_beside n) h ≡ true)
        → ((stops && not mine) || list_any (is_stop_beside n) h) ≡ true
    by_maker true true some none rest = absurd (cc)
    by_maker true false some none rest = rest some none
    by_maker false true some none rest = refl
    by_maker false false some none rest = rest some none

none_beside : (n : ℕ) (h : List Entry) → is_stopped h ≡ false → list_any (is_stop_beside n) h ≡ false
none_beside n [] none = refl
none_beside n (e ∷ h) none = by_stop (is_stop e) none (none_beside n h)
  where
    by_stop : (stops : Bool) → (stops || is_stopped h) ≡ false → (is_stopped h ≡ false → list_any (is_stop_beside n) h ≡ false)
        → ((stops && not (maker e == n)) || list_any (is_stop_beside n) h) ≡ false
    by_stop true none rest = absurd (cc)
    by_stop false none rest = rest none

-- its own stop, in a history without one, is not another's
own_stop : (n : ℕ) (h p : List Entry) → p ≡ h ++ entry.Stop n ∷ [] → is_stopped h ≡ false → list_any (is_stop_beside n) p ≡ false
own_stop n h p is none =
    ap (list_any (is_stop_beside n)) is ∙ list_any-append (is_stop_beside n) h (entry.Stop n ∷ [])
    ∙ ap (λ (b : Bool). b || (not (n == n) || false)) (none_beside n h none) ∙ ap (λ (b : Bool). not b || false) (eq-eqb n n refl)

module _ (k k' : Pass) (s : Served) (unstopped : is_stopped (entries_of maker k.number k.seen) ≡ false) (one : Serves k k' (stop_ask ∷ []) (s ∷ []))
    (latest : s.point ≡ length k'.seen) (stopped : is_stopped k'.seen ≡ true) where
  -- no stop was added, so there is another handle's
  nothing_added : added_part s.added (at_point k'.seen s) ≡ [] → added_part s.added (at_point k'.seen s) ++ [] ≡ stop_behind k.number k'.seen
  nothing_added none =
      let same : entries_of maker k.number k'.seen ≡ entries_of maker k.number k.seen =
      one.own ∙ ap (λ (es : List Entry). entries_of maker k.number k.seen ++ (es ++ [])) none ∙ append-nil (entries_of maker k.number k.seen) in
      let beside : list_any (is_stop_beside k.number) k'.seen ≡ true = other_stop k.number k'.seen stopped (ap is_stopped same ∙ unstopped) in
      ap (λ (es : List Entry). es ++ []) none ∙ ap (λ (b : Bool). cond b [] (entry.Stop k.number ∷ [])) (sym beside)

  here : at_point k'.seen s ≡ k'.seen
  here = ap (λ (n : ℕ). take n k'.seen) latest ∙ take-length k'.seen

  by_stopped : (b : Bool) → is_stopped (answered_on s.added (at_point k'.seen s)) ≡ b → IsReplied k.settings k.number (at_point k'.seen s) Stop s
      → added_part s.added (at_point k'.seen s) ++ [] ≡ stop_behind k.number k'.seen
  by_stopped true is how = nothing_added (added_stop k.settings k.number (at_point k'.seen s) s true how is)
  by_stopped false is how =
      let new : added_part s.added (at_point k'.seen s) ≡ entry.Stop k.number ∷ [] = added_stop k.settings k.number (at_point k'.seen s) s false how is in
      let whole : k'.seen ≡ answered_on s.added (at_point k'.seen s) ++ entry.Stop k.number ∷ [] =
      sym here ∙ parts s.added (at_point k'.seen s) ∙ ap (λ (es : List Entry). answered_on s.added (at_point k'.seen s) ++ es) new in
      let alone : list_any (is_stop_beside k.number) k'.seen ≡ false = own_stop k.number (answered_on s.added (at_point k'.seen s)) k'.seen whole is in
      ap (λ (es : List Entry). es ++ []) new ∙ ap (λ (b : Bool). cond b [] (entry.Stop k.number ∷ [])) (sym alone)

  by_failure : (b : Bool) → MatchBool b (IsGivenUp s) (IsReplied k.settings k.number (at_point k'.seen s) Stop s)
      → added_part s.added (at_point k'.seen s) ++ [] ≡ stop_behind k.number k'.seen
  by_failure true how = nothing_added (ap (λ (b : Bool). added_part b (at_point k'.seen s)) how.added)
  by_failure false how = by_stopped (is_stopped (answered_on s.added (at_point k'.seen s))) refl how

pub stops_come_last : StopsComeLast
stops_come_last k k' s unstopped one latest stopped =
    one.own
    ∙ ap (λ (es : List Entry). entries_of maker k.number k.seen ++ es)
    (by_failure k k' s unstopped one latest stopped (s.status == 500) one.are_served.0.how)
