-- What a reader has read after a further chunk, over plain variables.
use Rattle.std.proofs.Common.{◌≡◌, ◌≢◌, ℕ, ◌≤◌, List, [], ◌∷◌, ◌++◌, length, take, false, Option, Some, None, Ok, Err, is_some, option_to_list, refl, sym, ap, ◌∙◌, subst, append_assoc, append-nil, arith}
use Rattle.std.proofs.lemmas.List.{take_all}
use Rattle.std.specs.List.{flat_map}
use Rattle.http_heads.specs.declared.kind.Kind.{Kind}
use Rattle.http_heads.specs.declared.kind.Kind.TheVariants.{Request}
use Rattle.http_heads.specs.declared.refusal.HeadError.{HeadError}
use Rattle.http_heads.specs.declared.refusal.HeadError.TheVariants.{Memory}
use Rattle.http_heads.specs.Gathering.{Gathered, IsAt, Stands, is_whole, kept}
use Rattle.http_heads.specs.Messages.{Message, Refuses, print_message}
use Rattle.http_heads.proofs.Messages.{open_goes, open_none, refused_none}
use Rattle.share_asks.specs.declared.ask.Ask.{Ask}
use Rattle.share_asks.specs.declared.ask.Role.{Role}
use Rattle.http_front.specs.Asks.{Spells}
use Rattle.http_front.specs.Readers.{Gathers, HasRead, ReadAs, Reader}
use Rattle.http_front.specs.Readings.{IsReading, Joins, reading}
use Rattle.http_front.proofs.ReadingLaws.{flat_both, joins_stay, none_in_nothing, nothing_goes, refusal_stays, zip_both}

as_request : (g : Gathered) → g.kind ≡ Request → IsAt g → Stands Request g.message g.phase
as_request g kind at = subst (λ (k : Kind). Stands k g.message g.phase) kind at

-- a request stays incomplete
pub goes_on : (role : Role) (fed : List ℕ) (handed : List Ask) (old new : Gathered) (piece : List ℕ) → IsReading role fed (reading handed (kept old) None)
    → new.kind ≡ Request → kept new ≡ kept old ++ piece → IsAt new → is_whole new.phase ≡ false → IsReading role (fed ++ piece) (reading handed (kept new) None)
goes_on role fed handed old new piece h kind more at partial = record {
  joins =
      subst (λ (rest : List ℕ). Joins role (fed ++ piece) handed rest) (sym more) (joins_stay role fed piece handed (kept old) h.joins);
  last = open_none Request new.message new.phase (as_request new kind at) partial;
  fault_is = λ e. open_goes Request new.message new.phase e (as_request new kind at) partial;
}

-- a request is whole, and the reader has it ready
pub comes_whole : (role : Role) (fed : List ℕ) (handed : List Ask) (rest piece : List ℕ) (m : Message) (ask : Ask) → IsReading role fed (reading handed rest None)
    → rest ++ piece ≡ print_message m → Spells role m ask → IsReading role (fed ++ piece) (reading (handed ++ ask ∷ []) [] None)
comes_whole role fed handed rest piece m ask h whole spells = record {
  joins = record {
    requests = h.joins.requests ++ m ∷ [];
    spell = zip_both role h.joins.requests (m ∷ []) handed (ask ∷ []) h.joins.spell (spells, tt);
    joined =
        ap (λ b. b ++ piece) h.joins.joined ∙ append_assoc (flat_map print_message h.joins.requests) rest piece
        ∙ ap (λ b. flat_map print_message h.joins.requests ++ b) (whole ∙ sym (append-nil (print_message m)))
        ∙ sym (flat_both h.joins.requests (m ∷ [])) ∙ sym (append-nil (flat_map print_message (h.joins.requests ++ m ∷ [])));
  };
  last = none_in_nothing;
  fault_is = nothing_goes;
}

-- no request begins so
pub is_refused : (role : Role) (fed : List ℕ) (handed : List Ask) (rest piece : List ℕ) (e : HeadError) → IsReading role fed (reading handed rest None)
    → Refuses Request (rest ++ piece) e → IsReading role (fed ++ piece) (reading handed (rest ++ piece) (Some e))
is_refused role fed handed rest piece e h refuses = record {
  joins = joins_stay role fed piece handed rest h.joins;
  last = refused_none Request (rest ++ piece) e refuses;
  fault_is = refuses;
}

-- an error stays
pub error_stays : (fed : List ℕ) (handed : List Ask) (r : Reader) (piece : List ℕ) (e : HeadError) → ReadAs fed handed r (Some e) → ReadAs (fed ++ piece) handed r (Some e)
error_stays fed handed r piece e (rest, joins, none, reads) = (
  rest ++ piece,
  joins_stay r.role fed piece handed rest joins,
  none,
  λ other. refusal_stays r.role fed piece (reading handed rest (Some e)) e (reads other) refl,
)

stays_read : (fed : List ℕ) (handed : List Ask) (r : Reader) (piece : List ℕ) (e : HeadError) (error : Option HeadError) → r.error ≡ error → error ≡ Some e
    → ReadAs fed handed r error → ReadAs (fed ++ piece) handed r error
stays_read fed handed r piece e None is same h = absurd (cc)
stays_read fed handed r piece e (Some f) is same h = error_stays fed handed r piece f h

pub read_stays : (fed : List ℕ) (handed : List Ask) (r : Reader) (piece : List ℕ) (e : HeadError) → r.error ≡ Some e → HasRead fed handed r → HasRead (fed ++ piece) handed r
read_stays fed handed r piece e is h = stays_read fed handed r piece e r.error refl is h

as_none : (fed : List ℕ) (handed : List Ask) (r : Reader) → r.error ≡ None → r.ready ≡ None → HasRead fed handed r → IsReading r.role fed (reading handed r.kept None)
as_none fed handed r fine none h =
    subst (λ (asks : List Ask). IsReading r.role fed (reading asks r.kept None))
    (ap (λ (o : Option Ask). handed ++ option_to_list o) none ∙ append-nil handed)
    (let k : ReadAs fed handed r None = subst (λ (o : Option HeadError). ReadAs fed handed r o) fine h in k)

pub no_some : (o : Option Ask) → is_some o ≡ false → o ≡ None
no_some None e = refl
no_some (Some ask) e = absurd (cc)

-- a reader without an error has read the bytes that it took
pub read_more : (fed : List ℕ) (handed : List Ask) (r : Reader) (old new : Gathered) (piece : List ℕ) (n : ℕ) (ready : Option Ask) → r.kept ≡ kept old → r.error ≡ None
    → r.ready ≡ None → new.kind ≡ Request → Gathers r.role old piece new (Ok (n, ready)) → HasRead fed handed r
    → IsReading r.role (fed ++ take n piece) (reading (handed ++ option_to_list ready) (kept new) None)
read_more fed handed r old new piece n None keeps fine none kind (all, more, at, partial, some) h =
    let before : IsReading r.role fed (reading handed (kept old) None) =
    subst (λ (rest : List ℕ). IsReading r.role fed (reading handed rest None)) keeps (as_none fed handed r fine none h) in
    let whole : take n piece ≡ piece = ap (λ k. take k piece) all ∙ take_all (length piece) piece (let le : length piece ≤ length piece = omega arith in le) in
    subst (λ (bytes : List ℕ). IsReading r.role (fed ++ bytes) (reading (handed ++ []) (kept new) None)) (sym whole)
    (subst (λ (asks : List Ask). IsReading r.role (fed ++ piece) (reading asks (kept new) None)) (sym (append-nil handed))
    (goes_on r.role fed handed old new piece before kind more at partial))
read_more fed handed r old new piece n (Some ask) keeps fine none kind (within, idle, some, (m, whole, spells)) h =
    let before : IsReading r.role fed (reading handed (kept old) None) =
    subst (λ (rest : List ℕ). IsReading r.role fed (reading handed rest None)) keeps (as_none fed handed r fine none h) in
    let nothing : [] ≡ kept new = sym (ap print_message idle.0) in
    subst (λ (rest : List ℕ). IsReading r.role (fed ++ take n piece) (reading (handed ++ ask ∷ []) rest None)) nothing
    (comes_whole r.role fed handed (kept old) (take n piece) m ask before whole spells)

-- a reader with an error has read no more requests
pub read_error : (fed : List ℕ) (handed : List Ask) (r s : Reader) (old new : Gathered) (piece : List ℕ) (e : HeadError) → r.kept ≡ kept old → r.error ≡ None
    → r.ready ≡ None → s.role ≡ r.role → s.ready ≡ None → Gathers r.role old piece new (Err e) → HasRead fed handed r → ReadAs (fed ++ piece) handed s (Some e)
read_error fed handed r s old new piece e keeps fine none role idle refuses h =
    let before : IsReading r.role fed (reading handed (kept old) None) =
    subst (λ (rest : List ℕ). IsReading r.role fed (reading handed rest None)) keeps (as_none fed handed r fine none h) in
    subst (λ (x : Role). (rest : List ℕ) × Joins x (fed ++ piece) handed rest × (s.ready ≡ None) × (e ≢ Memory → IsReading x (fed ++ piece) (reading handed rest (Some e))))
    (sym role) (
      kept old ++ piece,
      joins_stay r.role fed piece handed (kept old) before.joins,
      idle,
      λ other. is_refused r.role fed handed (kept old) piece e before (refuses other),
    )
