-- Answers until no connection can be answered, after a line.
use Rattle.std.proofs.Common.{◌≡◌, ◌+◌, ◌<◌, ◌≤◌, ℕ, List, slice_set, Bool, true, false, Option, None, Result, Ok, Err, OnOk, OnErr, if◌then◌else◌, refl, sym, ap, ◌∙◌, subst, arith}
use Rattle.std.proofs.KnownBytes.{Appends-trans}
use Rattle.std.specs.Io.KnownBytes.{Appends}
use Rattle.outside_net.specs.Told.{AppendsPrefix}
use Rattle.item_model.specs.declared.changes.Entry.{Entry}
use Rattle.reply_bytes.proofs.Cut.{cut_behind}
use Rattle.share_replies.specs.Settings.{Settings}
use Rattle.share_replay.specs.Connections.{Connection}
use Rattle.share_replay.specs.Ends.{end_line}
use Rattle.share_replay.specs.Machine.{Desk, answers, after_delivery, connection_at, line_place, most_left, number_of, after_line, slot_after, after_all_answers, after_answer, told_at_once, turn_place}
use Rattle.share_replay.specs.Played.{IsAt, IsPart}
use Rattle.share_replay.specs.declared.delivery.Delivery.{Delivery}
use Rattle.share_replay.proofs.MachineFacts.{Leads, leads_on}
use Rattle.share_replay.proofs.StepFacts.{at_same}

-- ---- one more answer, or none

pub settled_more : (was : Bool) (s s0 : Settings) (place : ℕ) (h0 h h' : List Entry) (cs0 cs cs' : List (Option Connection)) (t0 t t' : Option (List ℕ)) → s ≡ s0
    → Leads s0 place h0 cs0 t0 h cs t
    → (was ≡ true → (d : Desk) (start : Option (List ℕ)) → IsAt d h cs start t → IsAt (after_answer s place d) h' cs' start t')
    → (was ≡ false → (turn_place s h place cs ≡ None) × (h' ≡ h) × (cs' ≡ cs) × (t' ≡ t)) → (was ≡ true → most_left cs' < most_left cs)
    → Leads s0 place h0 cs0 t0 h' cs' t'
settled_more true s s0 place h0 h h' cs0 cs cs' t0 t t' same leads step rest fewer =
    leads_on s0 place h0 h h' cs0 cs cs' t0 t t' leads (fewer refl)
    (λ d start at. subst (λ (x : Settings). IsAt (after_answer x place d) h' cs' start t') same (step refl d start at))
settled_more false s s0 place h0 h h' cs0 cs cs' t0 t t' same leads step rest fewer =
    let r = rest refl in
    let left : most_left cs' ≡ most_left cs = ap most_left r.2 in
    record {
      count = leads.count;
      few = omega (arith, left, leads.few);
      at = λ d start at. at_same (answers s0 place leads.count d) h' h cs' cs start t' t r.1 r.2 r.3 (leads.at d start at);
    }

pub settled_rests : (was : Bool) (s s0 : Settings) (place : ℕ) (h h' : List Entry) (cs cs' : List (Option Connection)) (t t' : Option (List ℕ)) → s ≡ s0
    → (was ≡ false → (turn_place s h place cs ≡ None) × (h' ≡ h) × (cs' ≡ cs) × (t' ≡ t)) → was ≡ false → turn_place s0 h' place cs' ≡ None
settled_rests was s s0 place h h' cs cs' t t' same rest is =
    let r = rest is in
    ap (λ (x : Settings). turn_place x h' place cs') (sym same) ∙ ap (λ (k : List Entry). turn_place s k place cs') r.1
    ∙ ap (λ (l : List (Option Connection)). turn_place s h place l) r.2 ∙ r.0

pub settled_smaller : (was : Bool) (s : Settings) (place : ℕ) (h h' : List Entry) (cs cs' : List (Option Connection)) (t t' : Option (List ℕ))
    → (was ≡ false → (turn_place s h place cs ≡ None) × (h' ≡ h) × (cs' ≡ cs) × (t' ≡ t)) → (was ≡ true → most_left cs' < most_left cs)
    → most_left cs' + (if was then 1 else 0) < most_left cs + 1
settled_smaller true s place h h' cs cs' t t' rest fewer = let less = fewer refl in omega (arith, less)
settled_smaller false s place h h' cs cs' t t' rest fewer = let r = rest refl in let left : most_left cs' ≡ most_left cs = ap most_left r.2 in omega (arith, left)

-- ---- a line, and the answers after it

begun_at : (line : Delivery) (d : Desk) (h : List Entry) (cs cs' : List (Option Connection)) (start t t' : Option (List ℕ)) → IsAt d h cs start t
    → cs' ≡ slice_set cs (line_place line) (slot_after line (connection_at cs (line_place line)))
    → Appends t t' (end_line (number_of line) (told_at_once line (connection_at cs (line_place line))))
    → IsAt (after_delivery line d) h cs' start t'
begun_at line d h cs cs' start t t' at set told = record {
  history = at.history;
  connections = set ∙ ap (λ (l : List (Option Connection)). slice_set l (line_place line) (slot_after line (connection_at l (line_place line)))) at.connections;
  written =
      Appends-trans start t t' d.output (end_line (number_of line) (told_at_once line (connection_at d.connections (line_place line)))) at.written
      (subst (λ (l : List (Option Connection)). Appends t t' (end_line (number_of line) (told_at_once line (connection_at l (line_place line))))) at.connections told);
}

pub begun_part : (line : Delivery) (d : Desk) (h : List Entry) (cs : List (Option Connection)) (start t t' : Option (List ℕ)) → IsAt d h cs start t
    → AppendsPrefix t t' (end_line (number_of line) (told_at_once line (connection_at cs (line_place line))))
    → IsPart (after_delivery line d) h start t'
begun_part line d h cs start t t' at told = record {
  history = at.history;
  taken =
      cut_behind d.output (end_line (number_of line) (told_at_once line (connection_at d.connections (line_place line)))) start t t' at.written
      (subst (λ (l : List (Option Connection)). AppendsPrefix t t' (end_line (number_of line) (told_at_once line (connection_at l (line_place line))))) at.connections told);
}

pub line_played : {A E : Type 0} (s : Settings) (line : Delivery) (place : ℕ) (h h' : List Entry) (cs cs1 cs' : List (Option Connection)) (t t1 t' : Option (List ℕ)) (result : Result A E)
    → place ≡ line_place line → cs1 ≡ slice_set cs (line_place line) (slot_after line (connection_at cs (line_place line)))
    → Appends t t1 (end_line (number_of line) (told_at_once line (connection_at cs (line_place line))))
    → OnOk result ((d : Desk) (start : Option (List ℕ)) → IsAt d h cs1 start t1 → IsAt (after_all_answers s place d) h' cs' start t')
    → OnOk result ((d : Desk) (start : Option (List ℕ)) → IsAt d h cs start t → IsAt (after_line s d line) h' cs' start t')
line_played s line place h h' cs cs1 cs' t t1 t' (Ok a) is set told done =
    λ d start at.
    subst (λ (p : ℕ). IsAt (after_all_answers s p (after_delivery line d)) h' cs' start t') is (done (after_delivery line d) start (begun_at line d h cs cs1 start t t1 at set told))
line_played s line place h h' cs cs1 cs' t t1 t' (Err e) is set told done = tt

pub line_part : {A E : Type 0} (s : Settings) (line : Delivery) (place : ℕ) (h h' : List Entry) (cs cs1 : List (Option Connection)) (t t1 t' : Option (List ℕ)) (result : Result A E)
    → place ≡ line_place line → cs1 ≡ slice_set cs (line_place line) (slot_after line (connection_at cs (line_place line)))
    → Appends t t1 (end_line (number_of line) (told_at_once line (connection_at cs (line_place line))))
    → OnErr result ((d : Desk) (start : Option (List ℕ)) → IsAt d h cs1 start t1 → (k : ℕ) × (k ≤ most_left cs1) × IsPart (answers s place k d) h' start t')
    → OnErr result ((d : Desk) (start : Option (List ℕ)) → IsAt d h cs start t
    → (k : ℕ) × (k ≤ most_left (after_delivery line d).connections) × IsPart (answers s (line_place line) k (after_delivery line d)) h' start t')
line_part s line place h h' cs cs1 t t1 t' (Ok a) is set told broken = tt
line_part s line place h h' cs cs1 t t1 t' (Err e) is set told broken =
    λ d start at.
    let begins = begun_at line d h cs cs1 start t t1 at set told in
    let cut = broken (after_delivery line d) start begins in (
      cut.0,
      subst (λ (l : List (Option Connection)). cut.0 ≤ most_left l) begins.connections cut.1,
      subst (λ (p : ℕ). IsPart (answers s p cut.0 (after_delivery line d)) h' start t') is cut.2,
    )
