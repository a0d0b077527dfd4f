-- A connection that stays open has not reached its limit.
use Rattle.std.proofs.Common.{◌≡◌, ◌≢◌, ◌⊎◌, ◌≤◌, ℕ, zero, suc, ◌+◌, List, [], ◌∷◌, length, refl, sym, ap, ◌∙◌, inl, inr, Bool, true, false, cond, ◌==◌, Some, None, arith}
use Rattle.std.proofs.lemmas.Bool.{eq-eqb}
use Rattle.item_model.specs.declared.changes.Entry.{Entry}
use Rattle.share_asks.specs.declared.ask.Ask.{Ask}
use Rattle.share_asks.specs.declared.ask.Role.{Role}
use Rattle.share_history.specs.Sessions.{is_stopped}
use Rattle.share_replies.specs.Settings.{Settings}
use Rattle.share_server.specs.declared.report.Served.{Served}
use Rattle.share_server.specs.declared.report.LinkEnd.{LinkEnd}
use Rattle.share_server.specs.declared.report.LinkEnd.TheVariants.{Closed, Cut, Refused, Spent, Stopped, LinkFault, FileFault, Memory}
use Rattle.share_server.specs.Served.{at_point}
use Rattle.share_server.specs.Replies.{GoOn, end_behind}
use Rattle.share_server.specs.Ends.{GoOnToLast, Breaks, EndsInside, EndsAtEnd, replying, wanting, refusing}
use Rattle.share_server.specs.Laws.{NoneBeyondTheLimit}
use Rattle.share_server.proofs.Endings.{served_count}

-- if there is no end, the number is not the limit
not_due : (limit n : ℕ) (close stopped : Bool) → end_behind limit n close stopped ≡ None → n ≢ limit
not_due limit n close true none same = absurd (cc)
not_due limit n close false none same = absurd (let here : (n == limit) ≡ true = eq-eqb n limit same in let some : Some Spent ≡ None = sym (ap (λ (b : Bool). cond b (Some Spent) (cond close (Some Closed) None)) here) ∙ none in cc)

counted : (limit : ℕ) (h : List Entry) (n : ℕ) (asks : List Ask) (served : List Served) → n ≤ limit → GoOn limit h n asks served → n + length served ≤ limit
counted limit h n [] [] within on = omega arith
counted limit h n [] (s ∷ served) within on = absurd on
counted limit h n (ask ∷ asks) [] within on = absurd on
counted limit h n (ask ∷ asks) (s ∷ served) within on =
    let other : n ≢ limit = not_due limit n ask.close (is_stopped (at_point h s)) on.0 in
    let rest : (n + 1) + length served ≤ limit = counted limit h (n + 1) asks served (less n limit within other) on.1 in
    omega arith
  where
    less : (a b : ℕ) → a ≤ b → a ≢ b → a + 1 ≤ b
    less a b le other = omega arith

to_last : (limit : ℕ) (h : List Entry) (asks : List Ask) (served : List Served) → 1 ≤ limit → GoOnToLast limit h asks served → length served ≤ limit
to_last limit h asks served some (inl on) = let all : 1 + length served ≤ limit = counted limit h 1 asks served some on in omega arith
to_last limit h asks served some (inr on) =
    let earlier : 1 + length on.0.earlier ≤ limit = counted limit h 1 on.0.earlier_asks on.0.earlier some on.1 in
    let count : length served ≡ length on.0.earlier + 1 = served_count asks served on.0 in
    omega arith

all_on : (limit : ℕ) (h : List Entry) (asks : List Ask) (served : List Served) → 1 ≤ limit → GoOn limit h 1 asks served → length served ≤ limit
all_on limit h asks served some on = to_last limit h asks served some (inl on)

within_breaks : (role : Role) (bytes : List ℕ) (settings : Settings) (limit : ℕ) (h : List Entry) (asks : List Ask) (served : List Served) (rest output : List ℕ) → 1 ≤ limit
    → Breaks role bytes settings limit h asks served rest output → length served ≤ limit
within_breaks role bytes settings limit h asks served rest output some (replying on cut) = to_last limit h asks served some on
within_breaks role bytes settings limit h asks served rest output some (wanting whole on wants cut) = to_last limit h asks served some on
within_breaks role bytes settings limit h asks served rest output some (refusing error idles cut) = all_on limit h asks served some idles.goes_on

within_inside : (role : Role) (bytes : List ℕ) (settings : Settings) (limit : ℕ) (h : List Entry) (asks : List Ask) (served : List Served) (rest output : List ℕ) (end : LinkEnd) → 1 ≤ limit
    → EndsInside role bytes settings limit h asks served rest output end → length served ≤ limit
within_inside role bytes settings limit h asks served rest output Closed some ends = to_last limit h asks served some (inr (ends.0.parts, ends.0.goes_on))
within_inside role bytes settings limit h asks served rest output Stopped some ends = to_last limit h asks served some (inr (ends.0.parts, ends.0.goes_on))
within_inside role bytes settings limit h asks served rest output Spent some (inl ends, is) = to_last limit h asks served some (inr (ends.parts, ends.goes_on))
within_inside role bytes settings limit h asks served rest output Spent some (inr nobody, is) = let none : length served ≡ 0 = ap length nobody.1 in omega arith
within_inside role bytes settings limit h asks served rest output (Cut at) some ends = absurd ends
within_inside role bytes settings limit h asks served rest output (Refused status) some ends = all_on limit h asks served some ends.1.goes_on
within_inside role bytes settings limit h asks served rest output LinkFault some ends = within_breaks role bytes settings limit h asks served rest output some ends
within_inside role bytes settings limit h asks served rest output FileFault some ends = all_on limit h asks served some ends.0
within_inside role bytes settings limit h asks served rest output Memory some ends = to_last limit h asks served some ends.0

within_end : (role : Role) (input : List ℕ) (settings : Settings) (limit : ℕ) (h : List Entry) (asks : List Ask) (served : List Served) (rest output : List ℕ) (end : LinkEnd) → 1 ≤ limit
    → EndsAtEnd role input settings limit h asks served rest output end → length served ≤ limit
within_end role input settings limit h asks served rest output Closed some ends = all_on limit h asks served some ends.0.goes_on
within_end role input settings limit h asks served rest output (Cut at) some ends = all_on limit h asks served some ends.0.goes_on
within_end role input settings limit h asks served rest output (Refused status) some ends = absurd ends
within_end role input settings limit h asks served rest output Spent some ends = absurd ends
within_end role input settings limit h asks served rest output Stopped some ends = absurd ends
within_end role input settings limit h asks served rest output LinkFault some ends = absurd ends
within_end role input settings limit h asks served rest output FileFault some ends = absurd ends
within_end role input settings limit h asks served rest output Memory some ends = absurd ends

pub none_beyond_the_limit : NoneBeyondTheLimit
none_beyond_the_limit role zero k k' left taken taken' served end ended =
    let none : length served ≡ 0 = ap length (ended.at_once refl).0 in omega arith
none_beyond_the_limit role (suc limit) k k' left taken taken' served end ended = by_end ended.how
  where
    by_end : EndsInside role ended.input k.settings (suc limit) k'.seen ended.asks served ended.rest ended.output end
        ⊎ EndsAtEnd role ended.input k.settings (suc limit) k'.seen ended.asks served ended.rest ended.output end → length served ≤ suc limit
    by_end (inl ends) = within_inside role ended.input k.settings (suc limit) k'.seen ended.asks served ended.rest ended.output end (omega arith) ends
    by_end (inr ends) = within_end role ended.input k.settings (suc limit) k'.seen ended.asks served ended.rest ended.output end (omega arith) ends
