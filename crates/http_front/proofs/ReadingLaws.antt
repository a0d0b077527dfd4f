-- Readings of bytes: there is at most one, and its first requests and its refusal stay, whatever follows.
use Rattle.std.proofs.Common.{◌≡◌, ◌≢◌, ℕ, List, [], ◌∷◌, ◌++◌, length, drop, All, Option, Some, None, option_to_list, refl, sym, ap, ap₂, ◌∙◌, inl, inr, subst, append_assoc, append-nil}
use Rattle.std.proofs.lemmas.List.{drop_at}
use Rattle.std.proofs.lemmas.List.Elements.{All-nil, All-cons}
use Rattle.std.specs.List.{flat_map, AllZip}
use Rattle.http_heads.specs.declared.gathering.Phase.TheVariants.{Frame}
use Rattle.http_heads.specs.declared.kind.Kind.TheVariants.{Request}
use Rattle.http_heads.specs.declared.refusal.HeadError.{HeadError}
use Rattle.http_heads.specs.declared.refusal.HeadError.TheVariants.{Memory}
use Rattle.http_heads.specs.Gathering.{Gathered}
use Rattle.http_heads.specs.Messages.{HasNoMessage, IsMessage, IsRefused, Message, Refuses, print_message}
use Rattle.http_heads.specs.Scanning.{start}
use Rattle.http_heads.proofs.Messages.{goes_further, idle_stands, message_once, open_goes, open_none, refusals_are_one, refusals_stay, refused_none, splits_once}
use Rattle.share_asks.specs.declared.ask.Ask.{Ask}
use Rattle.share_asks.specs.declared.ask.Role.{Role}
use Rattle.http_front.specs.Asks.{Spells}
use Rattle.http_front.specs.Readings.{Reading, reading, Joins, FaultIs, IsReading, GoesOn}
use Rattle.http_front.specs.Readers.{Reader, HasRead, ReadAs}
use Rattle.http_front.proofs.OneAsk.{one_ask}

-- ---- messages and their requests

pub messages_of : (role : Role) (ms : List Message) (asks : List Ask) → AllZip (Spells role) ms asks → All (IsMessage Request) ms
messages_of role [] asks h = All-nil (IsMessage Request)
messages_of role (m ∷ ms) [] h = absurd h
messages_of role (m ∷ ms) (a ∷ asks) h = All-cons (IsMessage Request) m ms h.0.1.0 (messages_of role ms asks h.1)

-- more messages have the requests of the first ones first
pub first_asks : (role : Role) (ms ns : List Message) (asks all : List Ask) → AllZip (Spells role) ms asks → AllZip (Spells role) (ms ++ ns) all
    → (others : List Ask) × (all ≡ asks ++ others) × AllZip (Spells role) ns others
first_asks role [] ns [] all h k = (all, refl, k)
first_asks role [] ns (a ∷ asks) all h k = absurd h
first_asks role (m ∷ ms) ns [] all h k = absurd h
first_asks role (m ∷ ms) ns (a ∷ asks) [] h k = absurd k
first_asks role (m ∷ ms) ns (a ∷ asks) (b ∷ all) h k =
    let rest = first_asks role ms ns asks all h.1 k.1 in
    (rest.0, ap₂ (λ (x : Ask) (xs : List Ask). x ∷ xs) (one_ask role m b a k.0 h.0) rest.1, rest.2)

pub zip_both : (role : Role) (ms ns : List Message) (asks others : List Ask) → AllZip (Spells role) ms asks → AllZip (Spells role) ns others
    → AllZip (Spells role) (ms ++ ns) (asks ++ others)
zip_both role [] ns [] others h k = k
zip_both role [] ns (a ∷ asks) others h k = absurd h
zip_both role (m ∷ ms) ns [] others h k = absurd h
zip_both role (m ∷ ms) ns (a ∷ asks) others h k = (h.0, zip_both role ms ns asks others h.1 k)

same_asks : (role : Role) (ms : List Message) (asks all : List Ask) → AllZip (Spells role) ms asks → AllZip (Spells role) ms all → all ≡ asks
same_asks role [] [] [] h k = refl
same_asks role [] [] (b ∷ all) h k = absurd k
same_asks role [] (a ∷ asks) all h k = absurd h
same_asks role (m ∷ ms) [] all h k = absurd h
same_asks role (m ∷ ms) (a ∷ asks) [] h k = absurd k
same_asks role (m ∷ ms) (a ∷ asks) (b ∷ all) h k =
    ap₂ (λ (x : Ask) (xs : List Ask). x ∷ xs) (one_ask role m b a k.0 h.0) (same_asks role ms asks all h.1 k.1)

pub flat_both : (ms ns : List Message) → flat_map print_message (ms ++ ns) ≡ flat_map print_message ms ++ flat_map print_message ns
flat_both [] ns = refl
flat_both (m ∷ ms) ns =
    ap (λ bytes. print_message m ++ bytes) (flat_both ms ns) ∙ sym (append_assoc (print_message m) (flat_map print_message ms) (flat_map print_message ns))

-- ---- nothing, and memory

idle : Gathered
idle = record { kind = Request; message = record { head = []; body = [] }; phase = Frame start }

pub none_in_nothing : HasNoMessage Request []
unfolding idle
none_in_nothing = open_none Request (record { head = []; body = [] }) (Frame start) (idle_stands idle (refl, refl)) refl

pub nothing_goes : (e : HeadError) → Refuses Request [] e → ⊥
unfolding idle
nothing_goes e = open_goes Request (record { head = []; body = [] }) (Frame start) e (idle_stands idle (refl, refl)) refl

pub nothing_read : (role : Role) → IsReading role [] (reading [] [] None)
nothing_read role = record { joins = record { requests = []; spell = tt; joined = refl }; last = none_in_nothing; fault_is = nothing_goes }

-- requests one after another read as exactly these requests
pub reading_of_joined : (role : Role) (bytes : List ℕ) (asks : List Ask) → Joins role bytes asks [] → IsReading role bytes (reading asks [] None)
reading_of_joined role bytes asks j = record { joins = j; last = none_in_nothing; fault_is = nothing_goes }

never_memory : (bytes : List ℕ) → IsRefused Request bytes Memory → ⊥
never_memory bytes (inl (lines, framed, short, inl (many, is))) = absurd (cc)
never_memory bytes (inl (lines, framed, short, inr (few, refuses))) = refuses
never_memory bytes (inr (is, len, none)) = absurd (cc)

fault_not_memory : (rest : List ℕ) (fault : Option HeadError) → FaultIs rest fault → fault ≡ Some Memory → ⊥
fault_not_memory rest None h e = absurd (cc)
fault_not_memory rest (Some e) h is =
    let same : e ≡ Memory = cc in
    never_memory h.front (subst (λ (x : HeadError). IsRefused Request h.front x) same h.refused)

-- an allocation failure is not an error of bytes
pub memory_is_no_fault : (role : Role) (bytes : List ℕ) (r : Reading) → IsReading role bytes r → r.fault ≢ Some Memory
memory_is_no_fault role bytes r h = fault_not_memory r.rest r.fault h.fault_is

-- ---- one reading

one_fault : (rest : List ℕ) (c d : Option HeadError) → FaultIs rest c → FaultIs rest d → c ≡ d
one_fault rest None None x y = refl
one_fault rest None (Some e) x y = absurd (x e y)
one_fault rest (Some d) None x y = absurd (y d x)
one_fault rest (Some d) (Some e) x y =
    ap (λ (f : HeadError). Some f) (refusals_are_one Request rest [] d e x (subst (λ (b : List ℕ). Refuses Request b e) (sym (append-nil rest)) y))

pub one_reading : (role : Role) (bytes : List ℕ) (r q : Reading) → IsReading role bytes r → IsReading role bytes q → r ≡ q
one_reading role bytes r q x y =
    let same = splits_once Request bytes x.joins.requests y.joins.requests r.rest q.rest
    (record { whole = messages_of role x.joins.requests r.asks x.joins.spell; split = x.joins.joined; last = x.last })
    (record { whole = messages_of role y.joins.requests q.asks y.joins.spell; split = y.joins.joined; last = y.last }) in
    let asks : r.asks ≡ q.asks =
    same_asks role x.joins.requests q.asks r.asks (subst (λ (ms : List Message). AllZip (Spells role) ms q.asks) (sym same.0) y.joins.spell) x.joins.spell in
    let rests : r.rest ≡ q.rest = same.1 in
    let faults : r.fault ≡ q.fault =
    one_fault r.rest r.fault q.fault x.fault_is (subst (λ (b : List ℕ). FaultIs b q.fault) (sym rests) y.fault_is) in
    λ i. record { asks = asks i; rest = rests i; fault = faults i }

-- ---- more bytes

pub reading_joins : (role : Role) (bytes : List ℕ) (r : Reading) → IsReading role bytes r → Joins role bytes r.asks r.rest
reading_joins role bytes r h = h.joins

pub joins_stay : (role : Role) (bytes more : List ℕ) (asks : List Ask) (rest : List ℕ) → Joins role bytes asks rest → Joins role (bytes ++ more) asks (rest ++ more)
joins_stay role bytes more asks rest j = record {
  requests = j.requests;
  spell = j.spell;
  joined = ap (λ b. b ++ more) j.joined ∙ append_assoc (flat_map print_message j.requests) rest more;
}

further : (role : Role) (front more : List ℕ) (asks : List Ask) (rest : List ℕ) (r : Reading) → (j : Joins role front asks rest) → (h : IsReading role (front ++ more) r)
    → (others : List Message) × (h.joins.requests ≡ j.requests ++ others) × (rest ++ more ≡ flat_map print_message others ++ r.rest) × All (IsMessage Request) others
further role front more asks rest r j h =
    goes_further Request j.requests h.joins.requests (rest ++ more) r.rest (messages_of role j.requests asks j.spell)
    (messages_of role h.joins.requests r.asks h.joins.spell)
    (sym (append_assoc (flat_map print_message j.requests) rest more) ∙ ap (λ b. b ++ more) (sym j.joined) ∙ h.joins.joined) h.last

behind : (role : Role) (front more : List ℕ) (asks : List Ask) (rest : List ℕ) (r : Reading) → (j : Joins role front asks rest) → (h : IsReading role (front ++ more) r)
    → (others : List Ask) × (r.asks ≡ asks ++ others) × Joins role (rest ++ more) others r.rest
behind role front more asks rest r j h =
    let f = further role front more asks rest r j h in
    let split = first_asks role j.requests f.0 asks r.asks j.spell (subst (λ (ms : List Message). AllZip (Spells role) ms r.asks) f.1 h.joins.spell) in
    (split.0, split.1, record { requests = f.0; spell = split.2; joined = f.2 })

-- the requests so far are the first requests of all bytes
pub first_asks_stay : (role : Role) (front more : List ℕ) (asks : List Ask) (rest : List ℕ) (r : Reading) → Joins role front asks rest → IsReading role (front ++ more) r
    → GoesOn asks r.asks
first_asks_stay role front more asks rest r j h = let b = behind role front more asks rest r j h in (b.0, b.1)

-- and the bytes after them read as the others
pub joined_reading : (role : Role) (front more : List ℕ) (asks : List Ask) (rest : List ℕ) (r : Reading) → Joins role front asks rest → IsReading role (front ++ more) r
    → IsReading role (rest ++ more) (reading (drop (length asks) r.asks) r.rest r.fault)
joined_reading role front more asks rest r j h =
    let b = behind role front more asks rest r j h in
    let left : drop (length asks) r.asks ≡ b.0 = ap (drop (length asks)) b.1 ∙ drop_at asks b.0 (length asks) refl in
    record { joins = subst (λ (others : List Ask). Joins role (rest ++ more) others r.rest) (sym left) b.2; last = h.last; fault_is = h.fault_is }

pub joined_before : (role : Role) (front more : List ℕ) (asks : List Ask) (rest : List ℕ) (r : Reading) → Joins role front asks rest → IsReading role (rest ++ more) r
    → IsReading role (front ++ more) (reading (asks ++ r.asks) r.rest r.fault)
joined_before role front more asks rest r j h = record {
  joins = record {
    requests = j.requests ++ h.joins.requests;
    spell = zip_both role j.requests h.joins.requests asks r.asks j.spell h.joins.spell;
    joined =
        ap (λ b. b ++ more) j.joined ∙ append_assoc (flat_map print_message j.requests) rest more
        ∙ ap (λ b. flat_map print_message j.requests ++ b) h.joins.joined
        ∙ sym (append_assoc (flat_map print_message j.requests) (flat_map print_message h.joins.requests) r.rest)
        ∙ ap (λ b. b ++ r.rest) (sym (flat_both j.requests h.joins.requests));
  };
  last = h.last;
  fault_is = h.fault_is;
}

refused_stays : (rest more : List ℕ) (fault : Option HeadError) (e : HeadError) → fault ≡ Some e → FaultIs rest fault → FaultIs (rest ++ more) fault
refused_stays rest more None e is h = absurd (cc)
refused_stays rest more (Some f) e is h = refusals_stay Request rest more f h

refused_last : (rest : List ℕ) (more : List ℕ) (fault : Option HeadError) (e : HeadError) → fault ≡ Some e → FaultIs rest fault → HasNoMessage Request (rest ++ more)
refused_last rest more None e is h = absurd (cc)
refused_last rest more (Some f) e is h = refused_none Request (rest ++ more) f (refusals_stay Request rest more f h)

-- a refusal stays
pub refusal_stays : (role : Role) (bytes more : List ℕ) (r : Reading) (e : HeadError) → IsReading role bytes r → r.fault ≡ Some e
    → IsReading role (bytes ++ more) (record r { rest = r.rest ++ more })
refusal_stays role bytes more r e h is = record {
  joins = joins_stay role bytes more r.asks r.rest h.joins;
  last = refused_last r.rest more r.fault e is h.fault_is;
  fault_is = refused_stays r.rest more r.fault e is h.fault_is;
}

-- the requests have the reader's role
pub asks_of_role : (role : Role) (bytes : List ℕ) (asks : List Ask) (rest : List ℕ) → Joins role bytes asks rest → All (λ a. a.role ≡ role) asks
asks_of_role role bytes asks rest j = of_role j.requests asks j.spell
  where
    of_role : (ms : List Message) (xs : List Ask) → AllZip (Spells role) ms xs → All (λ a. a.role ≡ role) xs
    of_role [] [] h = All-nil (λ (a : Ask). a.role ≡ role)
    of_role [] (x ∷ xs) h = absurd h
    of_role (m ∷ ms) [] h = absurd h
    of_role (m ∷ ms) (x ∷ xs) h = All-cons (λ (a : Ask). a.role ≡ role) x xs h.0.2.role_is (of_role ms xs h.1)

-- ---- readers

read_as : (fed : List ℕ) (handed : List Ask) (r : Reader) (error : Option HeadError) → r.error ≡ error → HasRead fed handed r → ReadAs fed handed r error
read_as fed handed r error is h = subst (λ (o : Option HeadError). ReadAs fed handed r o) is h

no_more : (asks : List Ask) (ready : Option Ask) → ready ≡ None → asks ++ option_to_list ready ≡ asks
no_more asks ready is = ap (λ (o : Option Ask). asks ++ option_to_list o) is ∙ append-nil asks

-- without a complete request or an error, the bytes fed read as the requests returned and the buffered bytes
pub reads_all : (fed : List ℕ) (handed : List Ask) (r : Reader) → HasRead fed handed r → r.error ≡ None → r.ready ≡ None → IsReading r.role fed (reading handed r.kept None)
reads_all fed handed r h fine none =
    subst (λ (asks : List Ask). IsReading r.role fed (reading asks r.kept None)) (no_more handed r.ready none) (read_as fed handed r None fine h)

waits_joined : (fed : List ℕ) (handed : List Ask) (r : Reader) (ask : Ask) (error : Option HeadError) → ReadAs fed handed r error → r.ready ≡ Some ask
    → Joins r.role fed (handed ++ ask ∷ []) r.kept
waits_joined fed handed r ask None h is =
    subst (λ (asks : List Ask). Joins r.role fed asks r.kept) (ap (λ (o : Option Ask). handed ++ option_to_list o) is) h.joins
waits_joined fed handed r ask (Some e) h is = let none : r.ready ≡ None = h.2 in absurd (cc)

pub reads_waiting : (fed : List ℕ) (handed : List Ask) (r : Reader) (ask : Ask) → HasRead fed handed r → r.ready ≡ Some ask → Joins r.role fed (handed ++ ask ∷ []) r.kept
reads_waiting fed handed r ask h is = waits_joined fed handed r ask r.error h is

pub reads_refused : (fed : List ℕ) (handed : List Ask) (r : Reader) (e : HeadError) → HasRead fed handed r → r.error ≡ Some e → e ≢ Memory
    → (rest : List ℕ) × IsReading r.role fed (reading handed rest (Some e))
reads_refused fed handed r e h is other = let k = read_as fed handed r (Some e) is h in (k.0, k.3 other)

parted : (role : Role) (ms : List Message) (xs ys : List Ask) → AllZip (Spells role) ms (xs ++ ys)
    → (front : List Message) × (back : List Message) × (ms ≡ front ++ back) × AllZip (Spells role) front xs
parted role ms [] ys k = ([], ms, refl, tt)
parted role [] (x ∷ xs) ys k = absurd k
parted role (m ∷ ms) (x ∷ xs) ys k =
    let rest = parted role ms xs ys k.1 in (m ∷ rest.0, rest.1, ap (λ (l : List Message). m ∷ l) rest.2, (k.0, rest.3))

-- bytes that begin with some requests begin with the first of them
pub earlier_asks : (role : Role) (bytes : List ℕ) (asks others : List Ask) (rest : List ℕ) → Joins role bytes (asks ++ others) rest → (left : List ℕ) × Joins role bytes asks left
earlier_asks role bytes asks others rest j = let parts = parted role j.requests asks others j.spell in (
  flat_map print_message parts.1 ++ rest,
  record {
    requests = parts.0;
    spell = parts.3;
    joined =
        j.joined ∙ ap (λ (ms : List Message). flat_map print_message ms ++ rest) parts.2
        ∙ ap (λ b. b ++ rest) (flat_both parts.0 parts.1) ∙ append_assoc (flat_map print_message parts.0) (flat_map print_message parts.1) rest;
  },
)

-- a text that reads as one ask is the first request of all bytes that begin with it
pub first_ask : (role : Role) (text more : List ℕ) (ask a : Ask) (asks : List Ask) (rest : List ℕ) → IsReading role text (reading (ask ∷ []) [] None)
    → Joins role (text ++ more) (a ∷ asks) rest → (a ≡ ask) × Joins role more asks rest
first_ask role text more ask a asks rest is j = by_first is.joins.requests is.joins.spell is.joins.joined j.requests j.spell j.joined
  where
    by_first : (ms : List Message) → AllZip (Spells role) ms (ask ∷ []) → text ≡ flat_map print_message ms ++ [] → (ns : List Message) → AllZip (Spells role) ns (a ∷ asks)
        → text ++ more ≡ flat_map print_message ns ++ rest → (a ≡ ask) × Joins role more asks rest
    by_first [] h e ns k f = absurd h
    by_first (m ∷ x ∷ ms) h e ns k f = absurd h.1
    by_first (m ∷ []) h e [] k f = absurd k
    by_first (m ∷ []) h e (n ∷ ns) k f =
        let once = message_once Request m n more (flat_map print_message ns ++ rest) h.0.1.0 k.0.1.0
        (sym (ap (λ b. b ++ more) (e ∙ append-nil (print_message m ++ []) ∙ append-nil (print_message m))) ∙ f
        ∙ append_assoc (print_message n) (flat_map print_message ns) rest) in
        (one_ask role m a ask (subst (λ (x : Message). Spells role x a) (sym once.0) k.0) h.0, record { requests = ns; spell = k.1; joined = once.1 })

unwaited : (fed : List ℕ) (handed : List Ask) (r : Reader) (ready : Option Ask) → r.ready ≡ ready → IsReading r.role fed (reading (handed ++ option_to_list ready) r.kept None)
    → (rest : List ℕ) × Joins r.role fed handed rest
unwaited fed handed r None is h = (r.kept, subst (λ (asks : List Ask). Joins r.role fed asks r.kept) (append-nil handed) h.joins)
unwaited fed handed r (Some ask) is h = earlier_asks r.role fed handed (ask ∷ []) r.kept h.joins

joined_by : (fed : List ℕ) (handed : List Ask) (r : Reader) (error : Option HeadError) → ReadAs fed handed r error → (rest : List ℕ) × Joins r.role fed handed rest
joined_by fed handed r None h = unwaited fed handed r r.ready refl h
joined_by fed handed r (Some e) h = (h.0, h.1)

-- the requests returned are requests of the bytes fed
pub handed_join : (fed : List ℕ) (handed : List Ask) (r : Reader) → HasRead fed handed r → (rest : List ℕ) × Joins r.role fed handed rest
handed_join fed handed r h = joined_by fed handed r r.error h

pub handed_are_first : (fed more : List ℕ) (handed : List Ask) (r : Reader) (q : Reading) → HasRead fed handed r → IsReading r.role (fed ++ more) q → GoesOn handed q.asks
handed_are_first fed more handed r q h k = let j = handed_join fed handed r h in first_asks_stay r.role fed more handed j.0 q j.1 k

pub handed_are_all : (fed more : List ℕ) (handed : List Ask) (r : Reader) (e : HeadError) (q : Reading) → HasRead fed handed r → r.error ≡ Some e → e ≢ Memory
    → IsReading r.role (fed ++ more) q → (q.asks ≡ handed) × (q.fault ≡ Some e)
handed_are_all fed more handed r e q h is other k =
    let refused = reads_refused fed handed r e h is other in
    let same = one_reading r.role (fed ++ more) q (reading handed (refused.0 ++ more) (Some e)) k
    (refusal_stays r.role fed more (reading handed refused.0 (Some e)) e refused.1 refl) in
    (ap (λ (x : Reading). x.asks) same, ap (λ (x : Reading). x.fault) same)
