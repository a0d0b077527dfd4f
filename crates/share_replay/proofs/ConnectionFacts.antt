-- The code's state of a connection decides its next request, and how it ends.
use Rattle.std.proofs.Common.{◌≡◌, ◌≢◌, ◌+◌, ◌<◌, ◌≤◌, ◌&&◌, ◌==◌, ◌++◌, ℕ, List, [], ◌∷◌, length, length-append, Bool, true, false, not, Option, Some, None, is_some, if◌then◌else◌, refl, sym, ap, ◌∙◌, arith}
use Rattle.http_heads.specs.declared.refusal.HeadError.{HeadError}
use Rattle.share_asks.specs.declared.ask.Ask.{Ask}
use Rattle.share_replay.specs.Connections.{Connection, asked_on, end_if_idle, end_of_bytes, fault_on, next_ask, reading_on}
use Rattle.share_replay.specs.Intakes.{IsReadOn, Stands, StandsUntilEnd}
use Rattle.share_replay.specs.Turns.{most_requests}
use Rattle.share_replay.specs.declared.ends.End.{End}
use Rattle.share_replay.specs.declared.ends.End.TheVariants.{Closed, Cut}
use Rattle.share_replay.specs.declared.intake.Intake.{Intake}
use Rattle.share_replay.proofs.IntakeFacts.{knows}

-- the connection that the code keeps
abbrev pub seen : Intake → ℕ → Bool → Bool → Connection
seen i served closed ended = record { role = i.reader.role; bytes = i.bytes.items; served = served; is_closed = closed; is_ended = ended }

pub next_is : (i : Intake) (served : ℕ) (closed ended : Bool) → Stands i served → next_ask (seen i served closed ended) ≡ i.next
next_is i served closed ended s = (knows i served s).next

pub asked_is : (i : Intake) (served : ℕ) (closed ended : Bool) → ended ≡ false → StandsUntilEnd ended i served → asked_on (seen i served closed ended) ≡ i.next
asked_is i served closed ended is stands =
    ap (λ (b : Bool). if b then None else next_ask (seen i served closed ended)) is ∙ next_is i served closed ended (stands is)

pub fault_is : (i : Intake) (served : ℕ) (closed ended : Bool) → ended ≡ false → StandsUntilEnd ended i served → asked_on (seen i served closed ended) ≡ None
    → fault_on (seen i served closed ended) ≡ i.fault
fault_is i served closed ended is stands none =
    ap (λ (b : Bool). if b then None else (reading_on (seen i served closed ended)).fault) is
    ∙ (knows i served (stands is)).fault (sym (asked_is i served closed ended is stands) ∙ none)

pub some_is_some : {A : Type 0} (o : Option A) → is_some o ≡ false → o ≡ None
some_is_some None is = refl
some_is_some (Some a) is = absurd (cc)

-- ---- how it ends if it is idle

abbrev end_by : Bool → Bool → End → Option End
end_by asked refused end = if not asked && not refused then Some end else None

busy_asked : (asked refused : Bool) (end : End) → asked ≡ true → end_by asked refused end ≡ None
busy_asked true refused end is = refl
busy_asked false refused end is = absurd (cc)

busy_refused : (asked refused : Bool) (end : End) → refused ≡ true → end_by asked refused end ≡ None
busy_refused true true end is = refl
busy_refused false true end is = refl
busy_refused asked false end is = absurd (cc)

pub waits_asked : (i : Intake) (served : ℕ) (closed ended : Bool) → Stands i served → is_some i.next ≡ true → None ≡ end_if_idle (seen i served closed ended)
waits_asked i served closed ended s is =
    let c : Connection = seen i served closed ended in
    sym (busy_asked (is_some (next_ask c)) (is_some (reading_on c).fault) (end_of_bytes c) (ap (λ (o : Option Ask). is_some o) (next_is i served closed ended s) ∙ is))

pub waits_refused : (i : Intake) (served : ℕ) (closed ended : Bool) → Stands i served → is_some i.next ≡ false → is_some i.fault ≡ true
    → None ≡ end_if_idle (seen i served closed ended)
waits_refused i served closed ended s none is =
    let c : Connection = seen i served closed ended in
    sym (busy_refused (is_some (next_ask c)) (is_some (reading_on c).fault) (end_of_bytes c)
    (ap (λ (o : Option HeadError). is_some o) ((knows i served s).fault (some_is_some i.next none)) ∙ is))

idle_end : (i : Intake) (served : ℕ) (closed ended : Bool) → Stands i served → is_some i.next ≡ false → is_some i.fault ≡ false
    → end_if_idle (seen i served closed ended) ≡ Some (if length i.reader.kept == 0 then Closed else Cut (length i.bytes.items))
idle_end i served closed ended s none fine =
    let c : Connection = seen i served closed ended in
    let k = knows i served s in
    let next : is_some (next_ask c) ≡ false = ap (λ (o : Option Ask). is_some o) k.next ∙ none in
    let fault : is_some (reading_on c).fault ≡ false = ap (λ (o : Option HeadError). is_some o) (k.fault (some_is_some i.next none)) ∙ fine in
    ap (λ (b : Bool). end_by b (is_some (reading_on c).fault) (end_of_bytes c)) next ∙ ap (λ (b : Bool). end_by false b (end_of_bytes c)) fault
    ∙ ap (λ (rest : List ℕ). Some (if length rest == 0 then Closed else Cut (length i.bytes.items))) (k.rest (some_is_some i.next none) (some_is_some i.fault fine))

kept_none : (kept : List ℕ) (at : ℕ) → kept ≡ [] → (if length kept == 0 then Closed else Cut at) ≡ Closed
kept_none kept at is = ap (λ (l : List ℕ). if length l == 0 then Closed else Cut at) is

kept_some : (kept : List ℕ) (at : ℕ) → kept ≢ [] → (if length kept == 0 then Closed else Cut at) ≡ Cut at
kept_some [] at is = absurd (is refl)
kept_some (b ∷ kept) at is = let more : (length (b ∷ kept) == 0) ≡ false = grind arith in ap (λ (x : Bool). if x then Closed else Cut at) more

pub ends_between : (i : Intake) (served : ℕ) (closed ended : Bool) → Stands i served → is_some i.next ≡ false → is_some i.fault ≡ false → i.reader.kept ≡ []
    → Some Closed ≡ end_if_idle (seen i served closed ended)
ends_between i served closed ended s none fine kept =
    sym (idle_end i served closed ended s none fine ∙ ap (λ (e : End). Some e) (kept_none i.reader.kept (length i.bytes.items) kept))

pub ends_inside : (i : Intake) (served : ℕ) (closed ended : Bool) → Stands i served → is_some i.next ≡ false → is_some i.fault ≡ false → i.reader.kept ≢ []
    → Some (Cut (length i.bytes.items)) ≡ end_if_idle (seen i served closed ended)
ends_inside i served closed ended s none fine kept =
    sym (idle_end i served closed ended s none fine ∙ ap (λ (e : End). Some e) (kept_some i.reader.kept (length i.bytes.items) kept))

-- a reader that waits between two requests has no error
pub reads_on : (i : Intake) (served : ℕ) → Stands i served → is_some i.fault ≡ false → i.reader.error ≡ None
reads_on i served s fine = let taken = s.read.passed.taken (some_is_some i.fault fine) in taken.error

-- ---- what was done to it

pub took : (i j : Intake) (served : ℕ) → Stands i served → ((asks : List Ask) → IsReadOn asks i → IsReadOn asks j) → j.fed ≤ length j.bytes.items → Stands j served
took i j served s reads within = record { asks = s.asks; count = s.count; few = s.few; within = within; read = reads s.asks s.read }

the_some : (o : Option Ask) → is_some o ≡ true → (ask : Ask) × (o ≡ Some ask)
the_some None is = absurd (cc)
the_some (Some ask) is = (ask, refl)

unless_ended : (b : Bool) (o : Option Ask) → is_some (if b then None else o) ≡ true → b ≡ false
unless_ended true o is = absurd (cc)
unless_ended false o is = refl

-- it has a next request, so it has not ended
pub goes : (c : Connection) → is_some (asked_on c) ≡ true → c.is_ended ≡ false
goes c is = unless_ended c.is_ended (next_ask c) is

passed : (i j : Intake) (served : ℕ) (closed ended : Bool) → StandsUntilEnd ended i served → is_some (asked_on (seen i served closed ended)) ≡ true
    → ((asks : List Ask) (ask : Ask) → i.next ≡ Some ask → IsReadOn asks i → IsReadOn (asks ++ ask ∷ []) j) → served + 1 < most_requests → j.fed ≤ length j.bytes.items
    → Stands j (served + 1)
passed i j served closed ended stands asked reads few within =
    let going : ended ≡ false = goes (seen i served closed ended) asked in
    let s : Stands i served = stands going in
    let next = the_some i.next (ap (λ (o : Option Ask). is_some o) (sym (asked_is i served closed ended going stands)) ∙ asked) in
    record {
      asks = s.asks ++ next.0 ∷ [];
      count = let len = length-append s.asks (next.0 ∷ []) in let count = s.count in omega (arith, len, count);
      few = few;
      within = within;
      read = reads s.asks next.0 next.1 s.read;
    }

-- the same, of a request that is not the last
pub passed_on : (i j : Intake) (now : Connection) (served : ℕ) (closed ended : Bool) (last : Option End) → seen i served closed ended ≡ now → StandsUntilEnd ended i served
    → is_some (asked_on now) ≡ true → is_some last ≡ false → (last ≡ None → now.served + 1 < most_requests)
    → ((asks : List Ask) (ask : Ask) → i.next ≡ Some ask → IsReadOn asks i → IsReadOn (asks ++ ask ∷ []) j) → j.fed ≤ length j.bytes.items → Stands j (served + 1)
passed_on i j now served closed ended last is stands asked goes_on most reads within =
    let few = most (some_is_some last goes_on) in
    let same : served ≡ now.served = ap (λ (c : Connection). c.served) is in
    passed i j served closed ended stands (ap (λ (c : Connection). is_some (asked_on c)) is ∙ asked) reads (omega (arith, few, same)) within

pub within_of : (i : Intake) (served : ℕ) → Stands i served → i.fed ≤ length i.bytes.items
within_of i served s = s.within
