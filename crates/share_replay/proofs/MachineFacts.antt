-- How the code's state follows the machine.
use Rattle.std.proofs.Common.{◌≡◌, ◌⊎◌, ◌+◌, ◌<◌, ◌≤◌, ℕ, zero, suc, List, [], length, drop, get_or, slice_set, Bool, true, false, Option, Some, None, is_some, Result, Ok, Err, IfOk, OnErr, if◌then◌else◌, refl, sym, ap, ◌∙◌, subst, append-nil, arith, inl, inr}
use Rattle.std.proofs.KnownBytes.{Appends-trans}
use Rattle.std.proofs.lemmas.Bool.{cases_lt}
use Rattle.std.proofs.lemmas.List.{drop_more, drop_all}
use Rattle.std.proofs.lemmas.List.Sums.{get_or-le-sum_by, sum_by-set}
use Rattle.std.proofs.lemmas.Option.{slice_get-get_or, slice_get_past}
use Rattle.std.specs.Io.KnownBytes.{Appends}
use Rattle.std.specs.Option.{option_and_then}
use Rattle.item_model.specs.declared.changes.Entry.{Entry}
use Rattle.reply_bytes.proofs.Cut.{cut_behind}
use Rattle.share_replies.specs.Settings.{Settings}
use Rattle.share_replay.specs.Connections.{Connection}
use Rattle.share_replay.specs.Machine.{Desk, answers, connection_at, due_at, first_due, left_at, most_left, after_all_answers, after_answer, after_answer_at, taken_at, turn_of, turn_place, with_turn}
use Rattle.share_replay.specs.Played.{IsAt, IsPart, IsUntold, SlotAnswered, SlotBreaksOff, SlotHalfTold}
use Rattle.share_replay.specs.Turns.{Due, Turn, due_on, left_on, turn_for}
use Rattle.share_replay.proofs.Written.{all_taken}

-- ---- the connections by index

pub connection_there : (cs : List (Option Connection)) (place : ℕ) (d : Option Connection) → place < length cs → connection_at cs place ≡ get_or cs place d
connection_there cs place d within = ap (λ (o : Option (Option Connection)). option_and_then (λ (c : Option Connection). c) o) (slice_get-get_or cs place d within)

pub nobody_there : (cs : List (Option Connection)) (place : ℕ) → length cs ≤ place → connection_at cs place ≡ None
nobody_there cs place past = ap (λ (o : Option (Option Connection)). option_and_then (λ (c : Option Connection). c) o) (slice_get_past cs place past)

-- ---- one turn

-- if the machine is at this state, a turn of a connection with a next answer is that of the state
stepped_is : (s : Settings) (d : Desk) (h : List Entry) (cs : List (Option Connection)) (start t : Option (List ℕ)) (place : ℕ) (c : Connection) (due : Due)
    → IsAt d h cs start t → connection_at cs place ≡ Some c → due_on s h c ≡ Some due
    → after_answer_at s (Some place) d ≡ taken_at place (turn_for (place + 1) h c due) d
stepped_is s d h cs start t place c due at is due_is =
    ap (turn_of s d place) (ap (λ (l : List (Option Connection)). connection_at l place) (sym at.connections) ∙ is)
    ∙ ap (with_turn place d c) (ap (λ (k : List Entry). due_on s k c) (sym at.history) ∙ due_is)
    ∙ ap (λ (k : List Entry). taken_at place (turn_for (place + 1) k c due) d) (sym at.history)

turned : (s : Settings) (h h' : List Entry) (cs cs' : List (Option Connection)) (t t' : Option (List ℕ)) (place : ℕ) (slot slot' : Option Connection)
    → connection_at cs place ≡ slot → cs' ≡ slice_set cs place slot' → SlotAnswered s (place + 1) h slot h' slot' t t'
    → (d : Desk) (start : Option (List ℕ)) → IsAt d h cs start t → IsAt (after_answer_at s (Some place) d) h' cs' start t'
turned s h h' cs cs' t t' place slot slot' is set a d start at =
    let turn : Turn = turn_for (place + 1) h a.old a.answered.due in
    subst (λ (x : Desk). IsAt x h' cs' start t') (sym (stepped_is s d h cs start t place a.old a.answered.due at (is ∙ a.was) a.answered.is_due)) (record {
      history = a.answered.history;
      connections =
          set ∙ ap (λ (o : Option Connection). slice_set cs place o) (a.is ∙ ap (λ (c : Connection). Some c) a.answered.connection)
          ∙ ap (λ (l : List (Option Connection)). slice_set l place (Some turn.connection)) at.connections;
      written = Appends-trans start t t' d.output turn.written at.written a.answered.written;
    })

part_turned : (s : Settings) (h h' : List Entry) (cs : List (Option Connection)) (t t' : Option (List ℕ)) (place : ℕ) (slot : Option Connection)
    → connection_at cs place ≡ slot → SlotHalfTold s (place + 1) h slot h' t t'
    → (d : Desk) (start : Option (List ℕ)) → IsAt d h cs start t → IsPart (after_answer_at s (Some place) d) h' start t'
part_turned s h h' cs t t' place slot is a d start at =
    let turn : Turn = turn_for (place + 1) h a.old a.told.due in
    subst (λ (x : Desk). IsPart x h' start t') (sym (stepped_is s d h cs start t place a.old a.told.due at (is ∙ a.was) a.told.is_due)) (record {
      history = a.told.history;
      taken = cut_behind d.output turn.written start t t' at.written a.told.taken;
    })

pub part_stays : (h h' : List Entry) (cs : List (Option Connection)) (t t' : Option (List ℕ)) → IsUntold h h' t t'
    → (d : Desk) (start : Option (List ℕ)) → IsAt d h cs start t → IsPart d h' start t'
part_stays h h' cs t t' a d start at = record {
  history = a.history ∙ at.history;
  taken =
      all_taken start t' d.output
      (subst (Appends start t') (append-nil d.output) (Appends-trans start t t' d.output [] at.written a.taken));
}

due_there : (s : Settings) (h : List Entry) (slot : Option Connection) (c : Connection) (due : Due) → slot ≡ Some c → due_on s h c ≡ Some due → is_some (due_at s h slot) ≡ true
due_there s h slot c due was is = ap (λ (o : Option Connection). is_some (due_at s h o)) was ∙ ap (λ (o : Option Due). is_some o) is

pub answered_due : (s : Settings) (number : ℕ) (h h' : List Entry) (slot slot' : Option Connection) (t t' : Option (List ℕ)) → SlotAnswered s number h slot h' slot' t t'
    → is_some (due_at s h slot) ≡ true
answered_due s number h h' slot slot' t t' a = due_there s h slot a.old a.answered.due a.was a.answered.is_due

part_at : (s : Settings) (h h' : List Entry) (cs : List (Option Connection)) (t t' : Option (List ℕ)) (place : ℕ) (slot : Option Connection)
    → place < length cs → slot ≡ get_or cs place slot → SlotBreaksOff s (place + 1) h slot h' t t'
    → (d : Desk) (start : Option (List ℕ)) → IsAt d h cs start t
    → IsPart d h' start t' ⊎ ((is_some (due_at s h (connection_at cs place)) ≡ true) × (0 < most_left cs) × IsPart (after_answer_at s (Some place) d) h' start t')
part_at s h h' cs t t' place slot within was (inl a) d start at = inl (part_stays h h' cs t t' a d start at)
part_at s h h' cs t t' place slot within was (inr a) d start at =
    let is : connection_at cs place ≡ slot = connection_there cs place slot within ∙ sym was in
    let same : left_at (get_or cs place slot) ≡ left_on a.old = ap left_at (sym was ∙ a.was) in
    let few = get_or-le-sum_by left_at cs place slot within in
    inr (
      ap (λ (o : Option Connection). is_some (due_at s h o)) is ∙ due_there s h slot a.old a.told.due a.was a.told.is_due,
      omega (arith, same, few, a.told.some),
      part_turned s h h' cs t t' place slot is a d start at,
    )

-- the same, of an answer at this index
pub turned_here : {E : Type 0} (s : Settings) (h h' : List Entry) (cs : List (Option Connection)) (t t' : Option (List ℕ)) (place : ℕ) (d slot' : Option Connection) (result : Result Bool E)
    → place < length cs → IfOk result (λ was. was ≡ true → SlotAnswered s (place + 1) h (get_or cs place d) h' slot' t t')
    → IfOk result (λ was. was ≡ true → (desk : Desk) (start : Option (List ℕ)) → IsAt desk h cs start t → IsAt (after_answer_at s (Some place) desk) h' (slice_set cs place slot') start t')
turned_here s h h' cs t t' place d slot' (Ok was) within answered =
    λ yes. turned s h h' cs (slice_set cs place slot') t t' place (get_or cs place d) slot' (connection_there cs place d within) refl (answered yes)
turned_here s h h' cs t t' place d slot' (Err e) within answered = tt

pub part_here : {E : Type 0} (s : Settings) (h h' : List Entry) (cs : List (Option Connection)) (t t' : Option (List ℕ)) (place : ℕ) (slot : Option Connection) (result : Result Bool E)
    → place < length cs → slot ≡ get_or cs place slot → OnErr result (SlotBreaksOff s (place + 1) h slot h' t t')
    → OnErr result ((d : Desk) (start : Option (List ℕ)) → IsAt d h cs start t
    → IsPart d h' start t' ⊎ ((is_some (due_at s h (connection_at cs place)) ≡ true) × (0 < most_left cs) × IsPart (after_answer_at s (Some place) d) h' start t'))
part_here s h h' cs t t' place slot (Ok was) within is broken = tt
part_here s h h' cs t t' place slot (Err e) within is broken = part_at s h h' cs t t' place slot within is broken

-- ---- fewer are left

pub fewer_at : (cs cs' : List (Option Connection)) (place : ℕ) (slot slot' : Option Connection) → place < length cs → slot ≡ get_or cs place slot → cs' ≡ slice_set cs place slot'
    → left_at slot' < left_at slot → most_left cs' < most_left cs
fewer_at cs cs' place slot slot' within was set fewer =
    let sums = sum_by-set left_at cs place slot' slot within in
    let same : left_at slot ≡ left_at (get_or cs place slot) = ap left_at was in
    let now : most_left cs' ≡ most_left (slice_set cs place slot') = ap most_left set in
    omega (arith, sums, same, now, fewer)

pub first_here : (s : Settings) (h : List Entry) (cs : List (Option Connection)) (place : ℕ) → place < length cs → is_some (due_at s h (connection_at cs place)) ≡ true
    → first_due s h place (drop place cs) ≡ Some place
first_here s h cs place within is =
    ap (first_due s h place) (drop_more cs place None within)
    ∙ ap (λ (b : Bool). if b then Some place else first_due s h (place + 1) (drop (place + 1) cs))
    (ap (λ (o : Option Connection). is_some (due_at s h o)) (sym (connection_there cs place None within)) ∙ is)

pub first_behind : (s : Settings) (h : List Entry) (cs : List (Option Connection)) (place : ℕ) → place < length cs → is_some (due_at s h (connection_at cs place)) ≡ false
    → first_due s h place (drop place cs) ≡ first_due s h (place + 1) (drop (place + 1) cs)
first_behind s h cs place within is =
    ap (first_due s h place) (drop_more cs place None within)
    ∙ ap (λ (b : Bool). if b then Some place else first_due s h (place + 1) (drop (place + 1) cs))
    (ap (λ (o : Option Connection). is_some (due_at s h o)) (sym (connection_there cs place None within)) ∙ is)

pub first_nowhere : (s : Settings) (h : List Entry) (cs : List (Option Connection)) (place : ℕ) → length cs ≤ place → first_due s h place (drop place cs) ≡ None
first_nowhere s h cs place past = ap (first_due s h place) (drop_all place cs past)

pub turn_there : (s : Settings) (h : List Entry) (place : ℕ) (cs : List (Option Connection)) → is_some (due_at s h (connection_at cs place)) ≡ true → turn_place s h place cs ≡ Some place
turn_there s h place cs is = ap (λ (b : Bool). if b then Some place else first_due s h 0 cs) is

pub turn_other : (s : Settings) (h : List Entry) (place : ℕ) (cs : List (Option Connection)) → is_some (due_at s h (connection_at cs place)) ≡ false
    → turn_place s h place cs ≡ first_due s h 0 cs
turn_other s h place cs is = ap (λ (b : Bool). if b then Some place else first_due s h 0 cs) is

pub stepped_turn : (s : Settings) (d : Desk) (h : List Entry) (cs : List (Option Connection)) (start t : Option (List ℕ)) (place : ℕ) (turn : Option ℕ)
    → IsAt d h cs start t → turn_place s h place cs ≡ turn → after_answer s place d ≡ after_answer_at s turn d
stepped_turn s d h cs start t place turn at is =
    ap (λ (k : List Entry). after_answer_at s (turn_place s k place d.connections) d) (sym at.history)
    ∙ ap (λ (l : List (Option Connection)). after_answer_at s (turn_place s h place l) d) (sym at.connections)
    ∙ ap (λ (o : Option ℕ). after_answer_at s o d) is

-- ---- answers until no connection can be answered

still : (s : Settings) (place k : ℕ) (d : Desk) → turn_place s (answers s place k d).history place (answers s place k d).connections ≡ None
    → (n : ℕ) → k ≤ n → answers s place n d ≡ answers s place k d
still s place k d rests zero within = let same : zero ≡ k = omega (arith, within) in ap (λ (m : ℕ). answers s place m d) same
still s place k d rests (suc n) within = elim (cases_lt n k) [
  | inl less ↦ let same : suc n ≡ k = omega (arith, within, less) in ap (λ (m : ℕ). answers s place m d) same
  | inr more ↦ ap (after_answer s place) (still s place k d rests n more) ∙ ap (λ (o : Option ℕ). after_answer_at s o (answers s place k d)) rests
]

answers_more : (s : Settings) (place k j : ℕ) (d : Desk) → answers s place j (answers s place k d) ≡ answers s place (j + k) d
answers_more s place k zero d = let same : k ≡ zero + k = omega arith in ap (λ (m : ℕ). answers s place m d) same
answers_more s place k (suc j) d =
    let same : suc (j + k) ≡ suc j + k = omega arith in
    ap (after_answer s place) (answers_more s place k j d) ∙ ap (λ (m : ℕ). answers s place m d) same

-- some number of answers leads from one state to another
pub record Leads (s : Settings) (place : ℕ) (h : List Entry) (cs : List (Option Connection)) (t : Option (List ℕ)) (h' : List Entry) (cs' : List (Option Connection)) (t' : Option (List ℕ)) : Type 0 where
  pub count : ℕ
  pub few : most_left cs' + count ≤ most_left cs
  pub at : (d : Desk) (start : Option (List ℕ)) → IsAt d h cs start t → IsAt (answers s place count d) h' cs' start t'

pub leads_nowhere : (s : Settings) (place : ℕ) (h : List Entry) (cs : List (Option Connection)) (t : Option (List ℕ)) → Leads s place h cs t h cs t
leads_nowhere s place h cs t = record { count = 0; few = omega arith; at = λ d start at. at }

pub leads_on : (s : Settings) (place : ℕ) (h h' h'' : List Entry) (cs cs' cs'' : List (Option Connection)) (t t' t'' : Option (List ℕ))
    → Leads s place h cs t h' cs' t' → most_left cs'' < most_left cs'
    → ((d : Desk) (start : Option (List ℕ)) → IsAt d h' cs' start t' → IsAt (after_answer s place d) h'' cs'' start t'')
    → Leads s place h cs t h'' cs'' t''
leads_on s place h h' h'' cs cs' cs'' t t' t'' leads fewer step = record {
  count = suc leads.count;
  few = omega (arith, leads.few, fewer);
  at = λ d start at. step (answers s place leads.count d) start (leads.at d start at);
}

pub leads_all : (s : Settings) (place : ℕ) (h h' : List Entry) (cs cs' : List (Option Connection)) (t t' : Option (List ℕ))
    → Leads s place h cs t h' cs' t' → turn_place s h' place cs' ≡ None
    → (d : Desk) (start : Option (List ℕ)) → IsAt d h cs start t → IsAt (after_all_answers s place d) h' cs' start t'
leads_all s place h h' cs cs' t t' leads rests d start at =
    let there = leads.at d start at in
    let none : turn_place s (answers s place leads.count d).history place (answers s place leads.count d).connections ≡ None =
    ap (λ (k : List Entry). turn_place s k place (answers s place leads.count d).connections) (sym there.history)
    ∙ ap (λ (l : List (Option Connection)). turn_place s h' place l) (sym there.connections) ∙ rests in
    let same : most_left cs ≡ most_left d.connections = ap most_left at.connections in
    subst (λ (x : Desk). IsAt x h' cs' start t') (sym (still s place leads.count d none (most_left d.connections) (omega (arith, leads.few, same)))) there

pub leads_part : (s : Settings) (place : ℕ) (h h' h'' : List Entry) (cs cs' : List (Option Connection)) (t t' t'' : Option (List ℕ))
    → Leads s place h cs t h' cs' t'
    → ((d : Desk) (start : Option (List ℕ)) → IsAt d h' cs' start t' → (k : ℕ) × (k ≤ most_left cs') × IsPart (answers s place k d) h'' start t'')
    → (d : Desk) (start : Option (List ℕ)) → IsAt d h cs start t → (k : ℕ) × (k ≤ most_left cs) × IsPart (answers s place k d) h'' start t''
leads_part s place h h' h'' cs cs' t t' t'' leads part d start at =
    let cut = part (answers s place leads.count d) start (leads.at d start at) in
    (cut.0 + leads.count, omega (arith, cut.1, leads.few), subst (λ (x : Desk). IsPart x h'' start t'') (answers_more s place leads.count cut.0 d) cut.2)
