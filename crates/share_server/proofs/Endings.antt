-- Ends of connections. They stay, whatever bytes and entries come later. They are at most at the limit. If no request
-- closes, the input, the limit or a stop decides.
use Rattle.std.proofs.Common.{◌≡◌, ◌⊎◌, ℕ, ◌+◌, List, [], ◌∷◌, ◌++◌, length, take, drop, refl, sym, ap, ◌∙◌, subst, inl, inr, Bool, true, false, cond, ◌==◌, ◌||◌, Some, None, true≢false, append-nil}
use Rattle.std.proofs.lemmas.List.{length-append, take-append-drop}
use Rattle.std.proofs.lemmas.Bool.{eqb-true}
use Rattle.std.specs.List.{list_any}
use Rattle.item_model.specs.declared.changes.Entry.{Entry}
use Rattle.http_heads.specs.declared.refusal.HeadError.{HeadError}
use Rattle.share_asks.specs.declared.ask.Ask.{Ask}
use Rattle.share_asks.specs.declared.ask.Role.{Role}
use Rattle.share_history.specs.Sessions.{is_stop, is_stopped}
use Rattle.share_replies.specs.Settings.{Settings}
use Rattle.http_front.specs.Readings.{IsReading, Joins, Reading, reading, GoesOn}
use Rattle.http_front.proofs.ReadingLaws.{first_asks_stay, one_reading, refusal_stays}
use Rattle.reply_bytes.specs.ReplyBytes.{failure_bytes, refusal_bytes}
use Rattle.share_server.specs.declared.report.Served.{Served}
use Rattle.share_server.specs.declared.report.LinkEnd.{LinkEnd}
use Rattle.share_server.specs.declared.report.LinkEnd.TheVariants.{Closed, Cut, Refused, Spent, Stopped, LinkFault, FileFault, Memory}
use Rattle.share_server.specs.Served.{at_point, IsServed, AreServed}
use Rattle.share_server.specs.Replies.{due, end_behind, replies}
use Rattle.share_server.specs.Ends.{Parts, EndsBehind, GoOnToLast, Idles, WantsMemory, Breaks, IsCutOf, EndsInside, EndsAtEnd, all, all_told, without_last, in_its_place, replying, wanting, refusing}
use Rattle.share_server.specs.Links.{Completes}
use Rattle.share_server.specs.Laws.{Stays, EndsStay, EndsAreDecided}
use Rattle.share_server.proofs.Longer.{same_point, stays}

-- ---- the last request, and those before it

-- of requests that were served the earlier ones were, and the last one was
pub parted : (settings : Settings) (by : ℕ) (h : List Entry) (asks : List Ask) (ask : Ask) (served : List Served) (last : Served)
    → AreServed settings by h (asks ++ ask ∷ []) (served ++ last ∷ []) → AreServed settings by h asks served × IsServed settings by h ask.want last
parted settings by h [] ask [] last are = (tt, are.0)
parted settings by h [] ask (s ∷ []) last are = absurd are.1
parted settings by h [] ask (s ∷ t ∷ served) last are = absurd are.1
parted settings by h (a ∷ []) ask [] last are = absurd are.1
parted settings by h (a ∷ b ∷ asks) ask [] last are = absurd are.1
parted settings by h (a ∷ asks) ask (s ∷ served) last are =
    let rest = parted settings by h asks ask served last are.1 in ((are.0, rest.0), rest.1)

pub parts_served : (settings : Settings) (by : ℕ) (h : List Entry) (asks : List Ask) (served : List Served) (parts : Parts asks served)
    → AreServed settings by h asks served → AreServed settings by h parts.earlier_asks parts.earlier × IsServed settings by h parts.ask.want parts.last
parts_served settings by h asks served parts are =
    parted settings by h parts.earlier_asks parts.ask parts.earlier parts.last
    (subst (λ (l : List Served). AreServed settings by h (parts.earlier_asks ++ parts.ask ∷ []) l) parts.served_are
    (subst (λ (l : List Ask). AreServed settings by h l served) parts.asks_are are))

-- ---- ends stay

module _ (settings : Settings) (by limit : ℕ) (h later : List Entry) where
  earlier_stays : (asks : List Ask) (served : List Served) (parts : Parts asks served) → AreServed settings by h asks served
      → Stays settings by limit h later 1 parts.earlier_asks parts.earlier
  earlier_stays asks served parts are =
      stays settings by limit h later 1 parts.earlier_asks parts.earlier (parts_served settings by h asks served parts are).0

  pub behind_longer : (asks : List Ask) (served : List Served) (end : LinkEnd) → AreServed settings by h asks served → EndsBehind limit h asks served end
      → EndsBehind limit (h ++ later) asks served end
  behind_longer asks served end are ends = record {
    parts = ends.parts;
    goes_on = (earlier_stays asks served ends.parts are).goes_on ends.goes_on;
    is_due = ap (due limit (length ends.parts.earlier + 1) ends.parts.ask)
        (same_point h later ends.parts.last (parts_served settings by h asks served ends.parts are).1.within)
        ∙ ends.is_due;
  }

  pub to_last_longer : (asks : List Ask) (served : List Served) → AreServed settings by h asks served → GoOnToLast limit h asks served
      → GoOnToLast limit (h ++ later) asks served
  to_last_longer asks served are (inl on) = inl ((stays settings by limit h later 1 asks served are).goes_on on)
  to_last_longer asks served are (inr on) = inr (on.0, (earlier_stays asks served on.0 are).goes_on on.1)

  same_replies : (asks : List Ask) (served : List Served) → AreServed settings by h asks served
      → replies settings limit h asks served ≡ replies settings limit (h ++ later) asks served
  same_replies asks served are = sym (stays settings by limit h later 1 asks served are).bytes

  pub wants_longer : (asks : List Ask) (served : List Served) (output : List ℕ) → AreServed settings by h asks served → WantsMemory settings limit h asks served output
      → WantsMemory settings limit (h ++ later) asks served output
  wants_longer asks served output are (all is) = all (is ∙ same_replies asks served are)
  wants_longer asks served output are (all_told is) = all_told (is ∙ ap (λ bytes. bytes ++ failure_bytes true) (same_replies asks served are))
  wants_longer asks served output are (without_last parts is) =
      without_last parts (is ∙ same_replies parts.earlier_asks parts.earlier (parts_served settings by h asks served parts are).0)
  wants_longer asks served output are (in_its_place parts none is) =
      in_its_place parts none
      (is ∙ ap (λ bytes. bytes ++ failure_bytes true) (same_replies parts.earlier_asks parts.earlier (parts_served settings by h asks served parts are).0))

  cut_longer : (output : List ℕ) (one two : List ℕ) → one ≡ two → IsCutOf output one → IsCutOf output two
  cut_longer output one two same cut = subst (IsCutOf output) same cut

  idles_longer : (role : Role) (bytes more : List ℕ) (asks : List Ask) (served : List Served) (rest : List ℕ) (error : HeadError)
      → AreServed settings by h asks served → Idles role bytes limit h asks served rest (Some error)
      → Idles role (bytes ++ more) limit (h ++ later) asks served (rest ++ more) (Some error)
  idles_longer role bytes more asks served rest error are idles = record {
    goes_on = (stays settings by limit h later 1 asks served are).goes_on idles.goes_on;
    reads = refusal_stays role bytes more (reading asks rest (Some error)) error idles.reads refl;
  }

  breaks_longer : (role : Role) (bytes more : List ℕ) (asks : List Ask) (served : List Served) (rest output : List ℕ) → AreServed settings by h asks served
      → Breaks role bytes settings limit h asks served rest output → Breaks role (bytes ++ more) settings limit (h ++ later) asks served (rest ++ more) output
  breaks_longer role bytes more asks served rest output are (replying on cut) =
      replying (to_last_longer asks served are on) (cut_longer output _ _ (same_replies asks served are) cut)
  breaks_longer role bytes more asks served rest output are (wanting whole on wants cut) =
      wanting whole (to_last_longer asks served are on) (wants_longer asks served whole are wants) cut
  breaks_longer role bytes more asks served rest output are (refusing error idles cut) =
      refusing error (idles_longer role bytes more asks served rest error are idles)
      (cut_longer output _ _ (ap (λ bs. bs ++ refusal_bytes error) (same_replies asks served are)) cut)

  pub inside_longer : (role : Role) (bytes more : List ℕ) (asks : List Ask) (served : List Served) (rest output : List ℕ) (end : LinkEnd)
      → AreServed settings by h asks served → EndsInside role bytes settings limit h asks served rest output end
      → EndsInside role (bytes ++ more) settings limit (h ++ later) asks served (rest ++ more) output end
  inside_longer role bytes more asks served rest output Closed are ends =
      (behind_longer asks served Closed are ends.0, ends.1 ∙ same_replies asks served are)
  inside_longer role bytes more asks served rest output Stopped are ends =
      (behind_longer asks served Stopped are ends.0, ends.1 ∙ same_replies asks served are)
  inside_longer role bytes more asks served rest output Spent are (inl ends, is) =
      (inl (behind_longer asks served Spent are ends), is ∙ same_replies asks served are)
  inside_longer role bytes more asks served rest output Spent are (inr none, is) = (inr none, is ∙ same_replies asks served are)
  inside_longer role bytes more asks served rest output (Cut at) are ends = absurd ends
  inside_longer role bytes more asks served rest output (Refused status) are ends = (
    ends.0,
    idles_longer role bytes more asks served rest ends.0 are ends.1,
    ends.2,
    ends.3 ∙ ap (λ bs. bs ++ refusal_bytes ends.0) (same_replies asks served are),
  )
  inside_longer role bytes more asks served rest output LinkFault are ends = breaks_longer role bytes more asks served rest output are ends
  inside_longer role bytes more asks served rest output FileFault are ends =
      ((stays settings by limit h later 1 asks served are).goes_on ends.0, ends.1 ∙ same_replies asks served are)
  inside_longer role bytes more asks served rest output Memory are ends =
      (to_last_longer asks served are ends.0, wants_longer asks served output are ends.1)

-- ---- the end after a reply, by its cause

due_closes : (limit n : ℕ) (close stopped : Bool) → end_behind limit n close stopped ≡ Some Closed → close ≡ true
due_closes limit n close true is = absurd (cc)
due_closes limit n close false is = by_count (n == limit) is
  where
    by_count : (b : Bool) → cond b (Some Spent) (cond close (Some Closed) None) ≡ Some Closed → close ≡ true
    by_count true e = absurd (cc)
    by_count false e = by_close close e
      where
        by_close : (c : Bool) → cond c (Some Closed) None ≡ Some Closed → c ≡ true
        by_close true f = refl
        by_close false f = absurd (cc)

due_spends : (limit n : ℕ) (close stopped : Bool) → end_behind limit n close stopped ≡ Some Spent → n ≡ limit
due_spends limit n close true is = absurd (cc)
due_spends limit n close false is = by_count (n == limit) refl is
  where
    by_count : (b : Bool) → (n == limit) ≡ b → cond b (Some Spent) (cond close (Some Closed) None) ≡ Some Spent → n ≡ limit
    by_count true same e = eqb-true n limit same
    by_count false same e = by_close close e
      where
        by_close : (c : Bool) → cond c (Some Closed) None ≡ Some Spent → n ≡ limit
        by_close true f = absurd (cc)
        by_close false f = absurd (cc)

due_stops : (limit n : ℕ) (close stopped : Bool) → end_behind limit n close stopped ≡ Some Stopped → stopped ≡ true
due_stops limit n close true is = refl
due_stops limit n close false is = by_count (n == limit) is
  where
    by_count : (b : Bool) → cond b (Some Spent) (cond close (Some Closed) None) ≡ Some Stopped → false ≡ true
    by_count true e = absurd (cc)
    by_count false e = by_close close e
      where
        by_close : (c : Bool) → cond c (Some Closed) None ≡ Some Stopped → false ≡ true
        by_close true f = absurd (cc)
        by_close false f = absurd (cc)

-- ---- completeness

any_later : {X : Type 0} (p : X → Bool) (xs ys : List X) → list_any p xs ≡ true → list_any p (xs ++ ys) ≡ true
any_later p [] ys is = absurd (true≢false (sym is))
any_later p (x ∷ xs) ys is = by_test (p x) is (λ e. any_later p xs ys e)
  where
    by_test : (b : Bool) → (b || list_any p xs) ≡ true → (list_any p xs ≡ true → list_any p (xs ++ ys) ≡ true) → (b || list_any p (xs ++ ys)) ≡ true
    by_test true e rest = refl
    by_test false e rest = rest e

any_at : {X : Type 0} (p : X → Bool) (xs : List X) (x : X) (ys : List X) → p x ≡ true → list_any p ((xs ++ x ∷ []) ++ ys) ≡ true
any_at p [] x ys is = ap (λ b. b || list_any p ys) is
any_at p (y ∷ xs) x ys is = ap (λ b. p y || b) (any_at p xs x ys is) ∙ or_true (p y)
  where
    or_true : (b : Bool) → (b || true) ≡ true
    or_true true = refl
    or_true false = refl

-- a stop within a history length is one of the whole history
stop_stays : (h : List Entry) (n : ℕ) → is_stopped (take n h) ≡ true → is_stopped h ≡ true
stop_stays h n is = ap is_stopped (sym (take-append-drop n h)) ∙ any_later is_stop (take n h) (drop n h) is

first_of_input : (role : Role) (input : List ℕ) (asks : List Ask) (rest : List ℕ) (r : Reading) → Joins role input asks rest → IsReading role input r → GoesOn asks r.asks
first_of_input role input asks rest r joins is =
    first_asks_stay role input [] asks rest r joins (subst (λ (bytes : List ℕ). IsReading role bytes r) (sym (append-nil input)) is)

nobody_closes : (role : Role) (input : List ℕ) (asks : List Ask) (served : List Served) (rest : List ℕ) (r : Reading) (parts : Parts asks served) → Joins role input asks rest
    → IsReading role input r → list_any (λ ask. ask.close) r.asks ≡ false → parts.ask.close ≡ true → ⊥
nobody_closes role input asks served rest r parts joins is none closes =
    let goes : GoesOn asks r.asks = first_of_input role input asks rest r joins is in
    true≢false
    (sym (ap (list_any (λ (ask : Ask). ask.close)) (goes.1 ∙ ap (λ (l : List Ask). l ++ goes.0) parts.asks_are)
    ∙ any_at (λ (ask : Ask). ask.close) parts.earlier_asks parts.ask goes.0 closes)
    ∙ none)

pub served_count : (asks : List Ask) (served : List Served) (parts : Parts asks served) → length served ≡ length parts.earlier + 1
served_count asks served parts = ap length parts.served_are ∙ length-append parts.earlier (parts.last ∷ [])

inside_completes : (role : Role) (input : List ℕ) (settings : Settings) (limit : ℕ) (h : List Entry) (asks : List Ask) (served : List Served) (rest output : List ℕ) (end : LinkEnd)
    → Joins role input asks rest → EndsInside role input settings limit h asks served rest output end → Completes role input limit h asks served end
inside_completes role input settings limit h asks served rest output Closed joins ends r is none =
    let at : Parts asks served = ends.0.parts in
    absurd (nobody_closes role input asks served rest r at joins is none (due_closes limit (length at.earlier + 1) at.ask.close (is_stopped (at_point h at.last)) ends.0.is_due))
inside_completes role input settings limit h asks served rest output Stopped joins ends r is none =
    let at : Parts asks served = ends.0.parts in
    stop_stays h at.last.point (due_stops limit (length at.earlier + 1) at.ask.close (is_stopped (at_point h at.last)) ends.0.is_due)
inside_completes role input settings limit h asks served rest output Spent joins (inl ends, bytes) r is none =
    let at : Parts asks served = ends.parts in
    served_count asks served at ∙ due_spends limit (length at.earlier + 1) at.ask.close (is_stopped (at_point h at.last)) ends.is_due
inside_completes role input settings limit h asks served rest output Spent joins (inr nobody, bytes) r is none = ap length nobody.1 ∙ sym nobody.0
inside_completes role input settings limit h asks served rest output (Cut at) joins ends r is none = absurd ends
inside_completes role input settings limit h asks served rest output (Refused status) joins ends r is none =
    let same : r ≡ reading asks rest (Some ends.0) = one_reading role input r (reading asks rest (Some ends.0)) is ends.1.reads in
    (ap (λ (q : Reading). q.asks) same, (ends.0, ap (λ (q : Reading). q.fault) same, ends.2))
inside_completes role input settings limit h asks served rest output LinkFault joins ends r is none = tt
inside_completes role input settings limit h asks served rest output FileFault joins ends r is none = tt
inside_completes role input settings limit h asks served rest output Memory joins ends r is none = tt

at_end_completes : (role : Role) (input : List ℕ) (settings : Settings) (limit : ℕ) (h : List Entry) (asks : List Ask) (served : List Served) (rest output : List ℕ) (end : LinkEnd)
    → EndsAtEnd role input settings limit h asks served rest output end → Completes role input limit h asks served end
at_end_completes role input settings limit h asks served rest output Closed ends r is none =
    let same : r ≡ reading asks rest None = one_reading role input r (reading asks rest None) is ends.0.reads in
    (ap (λ (q : Reading). q.asks) same, ap (λ (q : Reading). q.rest) same ∙ ends.1, ap (λ (q : Reading). q.fault) same)
at_end_completes role input settings limit h asks served rest output (Cut at) ends r is none =
    let same : r ≡ reading asks rest None = one_reading role input r (reading asks rest None) is ends.0.reads in
    (ap (λ (q : Reading). q.asks) same, (λ empty. ends.1 (sym (ap (λ (q : Reading). q.rest) same) ∙ empty)), ap (λ (q : Reading). q.fault) same)
at_end_completes role input settings limit h asks served rest output (Refused status) ends r is none = absurd ends
at_end_completes role input settings limit h asks served rest output Spent ends r is none = absurd ends
at_end_completes role input settings limit h asks served rest output Stopped ends r is none = absurd ends
at_end_completes role input settings limit h asks served rest output LinkFault ends r is none = absurd ends
at_end_completes role input settings limit h asks served rest output FileFault ends r is none = absurd ends
at_end_completes role input settings limit h asks served rest output Memory ends r is none = absurd ends

pub completes : (role : Role) (input : List ℕ) (settings : Settings) (limit : ℕ) (h : List Entry) (asks : List Ask) (served : List Served) (rest output : List ℕ) (end : LinkEnd)
    → Joins role input asks rest
    → EndsInside role input settings limit h asks served rest output end ⊎ EndsAtEnd role input settings limit h asks served rest output end
    → Completes role input limit h asks served end
completes role input settings limit h asks served rest output end joins (inl ends) =
    inside_completes role input settings limit h asks served rest output end joins ends
completes role input settings limit h asks served rest output end joins (inr ends) =
    at_end_completes role input settings limit h asks served rest output end ends

-- ---- as laws

pub ends_stay : EndsStay
ends_stay role bytes more settings by limit h later asks served rest output end are ends =
    inside_longer settings by limit h later role bytes more asks served rest output end are ends

pub ends_are_decided : EndsAreDecided
ends_are_decided = completes
