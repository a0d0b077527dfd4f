-- One answer: of the connection that the line reached, or of the first that can be answered.
use Rattle.std.proofs.Common.{◌≡◌, ◌⊎◌, ◌+◌, ◌<◌, ◌≤◌, ℕ, List, length, drop, true, false, Option, Some, None, is_some, sym, ap, ◌∙◌, subst, arith, inl, inr}
use Rattle.std.specs.Io.KnownBytes.{Appends}
use Rattle.item_model.specs.declared.changes.Entry.{Entry}
use Rattle.share_replies.specs.Settings.{Settings}
use Rattle.share_replay.specs.Connections.{Connection}
use Rattle.share_replay.specs.Machine.{Desk, answers, connection_at, due_at, first_due, most_left, after_answer, after_answer_at, turn_place}
use Rattle.share_replay.specs.Played.{IsAt, IsPart}
use Rattle.share_replay.proofs.MachineFacts.{first_behind, first_here, first_nowhere, stepped_turn, turn_other, turn_there}

-- the machine is at a state that equals another
pub at_same : (d : Desk) (h h0 : List Entry) (cs cs0 : List (Option Connection)) (start t t0 : Option (List ℕ)) → h ≡ h0 → cs ≡ cs0 → t ≡ t0 → IsAt d h0 cs0 start t0 → IsAt d h cs start t
at_same d h h0 cs cs0 start t t0 same_h same_cs same_t at = record {
  history = same_h ∙ at.history;
  connections = same_cs ∙ at.connections;
  written = subst (λ (x : Option (List ℕ)). Appends start x d.output) (sym same_t) at.written;
}

due_same : (s s0 : Settings) (h h0 : List Entry) (cs cs0 : List (Option Connection)) (place : ℕ) → s ≡ s0 → h ≡ h0 → cs ≡ cs0
    → is_some (due_at s0 h0 (connection_at cs0 place)) ≡ is_some (due_at s h (connection_at cs place))
due_same s s0 h h0 cs cs0 place same_s same_h same_cs =
    ap (λ (x : Settings). is_some (due_at x h0 (connection_at cs0 place))) (sym same_s)
    ∙ ap (λ (k : List Entry). is_some (due_at s k (connection_at cs0 place))) (sym same_h)
    ∙ ap (λ (l : List (Option Connection)). is_some (due_at s h (connection_at l place))) (sym same_cs)

-- ---- the first that can be answered

pub found : (s s0 : Settings) (h h0 h' : List Entry) (cs cs0 cs' : List (Option Connection)) (t t0 t' : Option (List ℕ)) (place : ℕ) → s ≡ s0 → h ≡ h0 → cs ≡ cs0 → t ≡ t0
    → place < length cs0 → first_due s0 h0 0 cs0 ≡ first_due s0 h0 place (drop place cs0) → is_some (due_at s h (connection_at cs place)) ≡ true
    → ((d : Desk) (start : Option (List ℕ)) → IsAt d h cs start t → IsAt (after_answer_at s (Some place) d) h' cs' start t')
    → (d : Desk) (start : Option (List ℕ)) → IsAt d h0 cs0 start t0 → IsAt (after_answer_at s0 (first_due s0 h0 0 cs0) d) h' cs' start t'
found s s0 h h0 h' cs cs0 cs' t t0 t' place same_s same_h same_cs same_t within first due step d start at =
    let due0 = due_same s s0 h h0 cs cs0 place same_s same_h same_cs ∙ due in
    subst (λ (x : Desk). IsAt x h' cs' start t')
    (ap (λ (x : Settings). after_answer_at x (Some place) d) same_s ∙ ap (λ (o : Option ℕ). after_answer_at s0 o d) (sym (first ∙ first_here s0 h0 cs0 place within due0)))
    (step d start (at_same d h h0 cs cs0 start t t0 same_h same_cs same_t at))

pub part_found : (s s0 : Settings) (h h0 h' : List Entry) (cs cs0 : List (Option Connection)) (t t0 t' : Option (List ℕ)) (place : ℕ) → s ≡ s0 → h ≡ h0 → cs ≡ cs0 → t ≡ t0
    → place < length cs0 → first_due s0 h0 0 cs0 ≡ first_due s0 h0 place (drop place cs0)
    → ((d : Desk) (start : Option (List ℕ)) → IsAt d h cs start t
    → IsPart d h' start t' ⊎ ((is_some (due_at s h (connection_at cs place)) ≡ true) × (0 < most_left cs) × IsPart (after_answer_at s (Some place) d) h' start t'))
    → (d : Desk) (start : Option (List ℕ)) → IsAt d h0 cs0 start t0 → IsPart d h' start t' ⊎ ((0 < most_left cs0) × IsPart (after_answer_at s0 (first_due s0 h0 0 cs0) d) h' start t')
part_found s s0 h h0 h' cs cs0 t t0 t' place same_s same_h same_cs same_t within first part d start at =
    by (part d start (at_same d h h0 cs cs0 start t t0 same_h same_cs same_t at))
  where
    by : IsPart d h' start t' ⊎ ((is_some (due_at s h (connection_at cs place)) ≡ true) × (0 < most_left cs) × IsPart (after_answer_at s (Some place) d) h' start t')
        → IsPart d h' start t' ⊎ ((0 < most_left cs0) × IsPart (after_answer_at s0 (first_due s0 h0 0 cs0) d) h' start t')
    by (inl p) = inl p
    by (inr (due, some, p)) =
        let due0 = due_same s s0 h h0 cs cs0 place same_s same_h same_cs ∙ due in
        let same : most_left cs ≡ most_left cs0 = ap most_left same_cs in
        inr (
          omega (arith, some, same),
          subst (λ (x : Desk). IsPart x h' start t')
              (ap (λ (x : Settings). after_answer_at x (Some place) d) same_s ∙ ap (λ (o : Option ℕ). after_answer_at s0 o d) (sym (first ∙ first_here s0 h0 cs0 place within due0))) p,
        )

pub skipped : (s s0 : Settings) (h h0 : List Entry) (cs cs0 : List (Option Connection)) (place : ℕ) → s ≡ s0 → h ≡ h0 → cs ≡ cs0 → place < length cs0
    → first_due s0 h0 0 cs0 ≡ first_due s0 h0 place (drop place cs0) → is_some (due_at s h (connection_at cs place)) ≡ false
    → first_due s0 h0 0 cs0 ≡ first_due s0 h0 (place + 1) (drop (place + 1) cs0)
skipped s s0 h h0 cs cs0 place same_s same_h same_cs within first due =
    first ∙ first_behind s0 h0 cs0 place within (due_same s s0 h h0 cs cs0 place same_s same_h same_cs ∙ due)

pub none_found : (s0 : Settings) (h0 : List Entry) (cs0 : List (Option Connection)) (place : ℕ) → length cs0 ≤ place → first_due s0 h0 0 cs0 ≡ first_due s0 h0 place (drop place cs0)
    → first_due s0 h0 0 cs0 ≡ None
none_found s0 h0 cs0 place past first = first ∙ first_nowhere s0 h0 cs0 place past

-- ---- the connection delivered to, or the first

pub step_there : (s : Settings) (h h' : List Entry) (cs cs' : List (Option Connection)) (t t' : Option (List ℕ)) (place : ℕ) → is_some (due_at s h (connection_at cs place)) ≡ true
    → ((d : Desk) (start : Option (List ℕ)) → IsAt d h cs start t → IsAt (after_answer_at s (Some place) d) h' cs' start t')
    → (d : Desk) (start : Option (List ℕ)) → IsAt d h cs start t → IsAt (after_answer s place d) h' cs' start t'
step_there s h h' cs cs' t t' place due step d start at =
    subst (λ (x : Desk). IsAt x h' cs' start t') (sym (stepped_turn s d h cs start t place (Some place) at (turn_there s h place cs due))) (step d start at)

pub step_other : (s s1 : Settings) (h h1 h' : List Entry) (cs cs1 cs' : List (Option Connection)) (t t1 t' : Option (List ℕ)) (place : ℕ) → s1 ≡ s → h1 ≡ h → cs1 ≡ cs → t1 ≡ t
    → is_some (due_at s h (connection_at cs place)) ≡ false
    → ((d : Desk) (start : Option (List ℕ)) → IsAt d h1 cs1 start t1 → IsAt (after_answer_at s1 (first_due s1 h1 0 cs1) d) h' cs' start t')
    → (d : Desk) (start : Option (List ℕ)) → IsAt d h cs start t → IsAt (after_answer s place d) h' cs' start t'
step_other s s1 h h1 h' cs cs1 cs' t t1 t' place same_s same_h same_cs same_t due step d start at =
    subst (λ (x : Desk). IsAt x h' cs' start t')
    (ap (λ (x : Settings). after_answer_at x (first_due x h1 0 cs1) d) same_s ∙ ap (λ (k : List Entry). after_answer_at s (first_due s k 0 cs1) d) same_h
    ∙ ap (λ (l : List (Option Connection)). after_answer_at s (first_due s h 0 l) d) same_cs
    ∙ sym (stepped_turn s d h cs start t place (first_due s h 0 cs) at (turn_other s h place cs due)))
    (step d start (at_same d h1 h cs1 cs start t1 t same_h same_cs same_t at))

pub rest_other : (s s1 : Settings) (h h1 : List Entry) (cs cs1 : List (Option Connection)) (place : ℕ) → s1 ≡ s → h1 ≡ h → cs1 ≡ cs
    → is_some (due_at s h (connection_at cs place)) ≡ false → first_due s1 h1 0 cs1 ≡ None → turn_place s h place cs ≡ None
rest_other s s1 h h1 cs cs1 place same_s same_h same_cs due none =
    turn_other s h place cs due
    ∙ (ap (λ (x : Settings). first_due x h 0 cs) (sym same_s) ∙ ap (λ (k : List Entry). first_due s1 k 0 cs) (sym same_h)
    ∙ ap (λ (l : List (Option Connection)). first_due s1 h1 0 l) (sym same_cs) ∙ none)

pub part_there : (s : Settings) (h h' : List Entry) (cs : List (Option Connection)) (t t' : Option (List ℕ)) (place : ℕ)
    → ((d : Desk) (start : Option (List ℕ)) → IsAt d h cs start t
    → IsPart d h' start t' ⊎ ((is_some (due_at s h (connection_at cs place)) ≡ true) × (0 < most_left cs) × IsPart (after_answer_at s (Some place) d) h' start t'))
    → (d : Desk) (start : Option (List ℕ)) → IsAt d h cs start t → (k : ℕ) × (k ≤ most_left cs) × IsPart (answers s place k d) h' start t'
part_there s h h' cs t t' place part d start at = by (part d start at)
  where
    by : IsPart d h' start t' ⊎ ((is_some (due_at s h (connection_at cs place)) ≡ true) × (0 < most_left cs) × IsPart (after_answer_at s (Some place) d) h' start t')
        → (k : ℕ) × (k ≤ most_left cs) × IsPart (answers s place k d) h' start t'
    by (inl p) = (0, omega arith, p)
    by (inr (due, some, p)) = (
      1,
      omega (arith, some),
      subst (λ (x : Desk). IsPart x h' start t') (sym (stepped_turn s d h cs start t place (Some place) at (turn_there s h place cs due))) p,
    )

pub part_other : (s s1 : Settings) (h h1 h' : List Entry) (cs cs1 : List (Option Connection)) (t t1 t' : Option (List ℕ)) (place : ℕ) → s1 ≡ s → h1 ≡ h → cs1 ≡ cs → t1 ≡ t
    → is_some (due_at s h (connection_at cs place)) ≡ false
    → ((d : Desk) (start : Option (List ℕ)) → IsAt d h1 cs1 start t1
    → IsPart d h' start t' ⊎ ((0 < most_left cs1) × IsPart (after_answer_at s1 (first_due s1 h1 0 cs1) d) h' start t'))
    → (d : Desk) (start : Option (List ℕ)) → IsAt d h cs start t → (k : ℕ) × (k ≤ most_left cs) × IsPart (answers s place k d) h' start t'
part_other s s1 h h1 h' cs cs1 t t1 t' place same_s same_h same_cs same_t due part d start at =
    by (part d start (at_same d h1 h cs1 cs start t1 t same_h same_cs same_t at))
  where
    by : IsPart d h' start t' ⊎ ((0 < most_left cs1) × IsPart (after_answer_at s1 (first_due s1 h1 0 cs1) d) h' start t')
        → (k : ℕ) × (k ≤ most_left cs) × IsPart (answers s place k d) h' start t'
    by (inl p) = (0, omega arith, p)
    by (inr (some, p)) = let same : most_left cs1 ≡ most_left cs = ap most_left same_cs in (
      1,
      omega (arith, some, same),
      subst (λ (x : Desk). IsPart x h' start t')
          (ap (λ (x : Settings). after_answer_at x (first_due x h1 0 cs1) d) same_s ∙ ap (λ (k : List Entry). after_answer_at s (first_due s k 0 cs1) d) same_h
          ∙ ap (λ (l : List (Option Connection)). after_answer_at s (first_due s h 0 l) d) same_cs
          ∙ sym (stepped_turn s d h cs start t place (first_due s h 0 cs) at (turn_other s h place cs due))) p,
    )
