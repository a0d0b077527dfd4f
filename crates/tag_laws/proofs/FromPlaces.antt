-- The first fault from a place on, by that of the next place.
use Rattle.std.proofs.Common.{ℕ, ◌≤◌, List, [], ◌∷◌, refl, sym, subst}
use Rattle.code_table.specs.declared.row.CodeRow.{CodeRow}
use Rattle.dmap_stream.specs.declared.refusal.StreamError.{StreamError}
use Rattle.dmap_stream.specs.Walk.{Ending, between, inside, broken}
use Rattle.tag_laws.specs.Places.{Place, Next, Leads}
use Rattle.tag_laws.specs.Faults.{HasFault}
use Rattle.tag_laws.proofs.Ways.{next_one, way_later}

abbrev pub NoFaultAt : ℕ → List ℕ → Place → Type 0
NoFaultAt limit bytes p = (e : StreamError) → HasFault limit bytes p e → ⊥

abbrev pub NoneFrom : List CodeRow → ℕ → List ℕ → Place → Type 0
NoneFrom rows limit bytes p = (way : List Place) (q : Place) (e : StreamError) → Leads rows bytes p way q → HasFault limit bytes q e → ⊥

pub record FirstFrom (rows : List CodeRow) (limit : ℕ) (bytes : List ℕ) (p : Place) (e : StreamError) : Type 0 where
  pub place : Place
  pub way : List Place
  pub leads : Leads rows bytes p way place
  pub fault : HasFault limit bytes place e
  pub first : (path : List Place) (q : Place) (f : StreamError) → Leads rows bytes p path q → HasFault limit bytes q f → place.at ≤ q.at

-- an ending says what is found from a place on
abbrev pub TellsFrom : List CodeRow → ℕ → List ℕ → Place → Ending → Type 0
TellsFrom rows limit bytes p between = NoneFrom rows limit bytes p
TellsFrom rows limit bytes p inside = NoneFrom rows limit bytes p
TellsFrom rows limit bytes p (broken e) = FirstFrom rows limit bytes p e

-- a fault at the place itself is the first
pub first_here : (rows : List CodeRow) (limit : ℕ) (bytes : List ℕ) (p : Place) (e : StreamError) → HasFault limit bytes p e → FirstFrom rows limit bytes p e
first_here rows limit bytes p e h = record { place = p; way = []; leads = refl; fault = h; first = λ path q f l k. way_later rows bytes path p q l }

-- without a next place there is none after it
pub none_behind : (rows : List CodeRow) (limit : ℕ) (bytes : List ℕ) (p : Place) → NoFaultAt limit bytes p → ((q : Place) → Next rows bytes p q → ⊥) → NoneFrom rows limit bytes p
none_behind rows limit bytes p none last [] q e l h = none e (subst (λ (x : Place). HasFault limit bytes x e) (sym l) h)
none_behind rows limit bytes p none last (r ∷ way) q e l h = last r l.0

-- with one, it is that from the next place on
none_on : (rows : List CodeRow) (limit : ℕ) (bytes : List ℕ) (p n : Place) → NoFaultAt limit bytes p → Next rows bytes p n → NoneFrom rows limit bytes n → NoneFrom rows limit bytes p
none_on rows limit bytes p n none next later [] q e l h = none e (subst (λ (x : Place). HasFault limit bytes x e) (sym l) h)
none_on rows limit bytes p n none next later (r ∷ way) q e l h = later way q e (subst (λ (x : Place). Leads rows bytes x way q) (next_one rows bytes p r n l.0 next) l.1) h

first_on : (rows : List CodeRow) (limit : ℕ) (bytes : List ℕ) (p n : Place) (e : StreamError) → NoFaultAt limit bytes p → Next rows bytes p n → FirstFrom rows limit bytes n e → FirstFrom rows limit bytes p e
first_on rows limit bytes p n e none next found = record { place = found.place; way = n ∷ found.way; leads = (next, found.leads); fault = found.fault; first = by }
  where
    by : (path : List Place) (q : Place) (f : StreamError) → Leads rows bytes p path q → HasFault limit bytes q f → found.place.at ≤ q.at
    by [] q f l h = absurd (none f (subst (λ (x : Place). HasFault limit bytes x f) (sym l) h))
    by (r ∷ path) q f l h = found.first path q f (subst (λ (x : Place). Leads rows bytes x path q) (next_one rows bytes p r n l.0 next) l.1) h

pub tells_on : (rows : List CodeRow) (limit : ℕ) (bytes : List ℕ) (p n : Place) (ending : Ending) → NoFaultAt limit bytes p → Next rows bytes p n → TellsFrom rows limit bytes n ending → TellsFrom rows limit bytes p ending
tells_on rows limit bytes p n between none next later = none_on rows limit bytes p n none next later
tells_on rows limit bytes p n inside none next later = none_on rows limit bytes p n none next later
tells_on rows limit bytes p n (broken e) none next later = first_on rows limit bytes p n e none next later
