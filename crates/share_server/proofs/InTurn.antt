-- What a handle serves in one turn and then in another.
use Rattle.std.proofs.Common.{◌≡◌, ◌≤◌, ℕ, ◌+◌, List, [], ◌∷◌, ◌++◌, length, refl, sym, ap, ◌∙◌, subst, inl, inr, cond, arith}
use Rattle.std.proofs.lemmas.List.{append-nil, append_assoc, length-append}
use Rattle.item_model.specs.declared.changes.Edit.{Edit}
use Rattle.item_model.specs.declared.changes.Entry.{Entry}
use Rattle.share_asks.specs.declared.ask.Ask.{Ask}
use Rattle.share_lock.specs.Histories.{entries_of}
use Rattle.share_lock.specs.Known.{after_turn}
use Rattle.share_lock.proofs.Fronts.{continues}
use Rattle.share_replies.specs.Settings.{Settings}
use Rattle.share_replies.specs.Laws.{maker}
use Rattle.share_server.specs.declared.report.Served.{Served}
use Rattle.share_server.specs.Served.{at_point, added_part, AreServed, added_entries}
use Rattle.share_server.specs.Passes.{Pass, Rises, StandAmong, AreMarked, Fresh, Serves}
use Rattle.share_server.specs.Losses.{ServesBut, Unacknowledged, edit_and_stop}
use Rattle.share_server.specs.Laws.{Stays, ServesInTurn, QuietTurnsServeNothing}
use Rattle.share_server.proofs.Longer.{stays, are_marked_longer}

-- ---- lists of served requests, joined

are_served_joined : (settings : Settings) (by : ℕ) (h : List Entry) (asks more_asks : List Ask) (served more_served : List Served) → AreServed settings by h asks served
    → AreServed settings by h more_asks more_served → AreServed settings by h (asks ++ more_asks) (served ++ more_served)
are_served_joined settings by h [] more_asks [] more_served are more = more
are_served_joined settings by h [] more_asks (s ∷ served) more_served are more = absurd are
are_served_joined settings by h (ask ∷ asks) more_asks [] more_served are more = absurd are
are_served_joined settings by h (ask ∷ asks) more_asks (s ∷ served) more_served are more =
    (are.0, are_served_joined settings by h asks more_asks served more_served are.1 more)

are_marked_joined : (h : List Entry) (served more_served : List Served) → AreMarked h served → AreMarked h more_served → AreMarked h (served ++ more_served)
are_marked_joined h [] more_served are more = more
are_marked_joined h (s ∷ served) more_served are more = (are.0, are_marked_joined h served more_served are.1 more)

lower_by : (a b c d : ℕ) → a ≤ b → b + c ≤ d → a + c ≤ d
lower_by a b c d le rises = omega arith

-- lengths that increase between two numbers do so between any that are wider apart
pub rises_wider : (low low' high high' : ℕ) (served : List Served) → low' ≤ low → high ≤ high' → Rises low served high → Rises low' served high'
rises_wider low low' high high' [] le le' rises = omega arith
rises_wider low low' high high' (s ∷ served) le le' rises =
    (lower_by low' low (cond s.added 1 0) s.point le rises.0, rises_wider s.point s.point high high' served (omega arith) le' rises.1)

pub rises_joined : (low middle high : ℕ) (served more_served : List Served) → Rises low served middle → Rises middle more_served high
    → Rises low (served ++ more_served) high
rises_joined low middle high [] more_served rises more = rises_wider middle low high high more_served rises (omega arith) more
rises_joined low middle high (s ∷ served) more_served rises more = (rises.0, rises_joined s.point middle high served more_served rises.1 more)

stand_joined : (served more_served : List Served) (looks more_looks : List ℕ) → StandAmong served looks → StandAmong more_served more_looks
    → StandAmong (served ++ more_served) (looks ++ more_looks)
stand_joined [] more_served [] more_looks stand more = more
stand_joined [] [] (look ∷ looks) more_looks stand more = tt
stand_joined [] (s ∷ more_served) (look ∷ looks) more_looks stand more = inr (stand_joined [] (s ∷ more_served) looks more_looks tt more)
stand_joined (s ∷ served) more_served [] more_looks stand more = absurd stand
stand_joined (s ∷ served) more_served (look ∷ looks) more_looks (inl found) more = inl (found.0, stand_joined served more_served looks more_looks found.1 more)
stand_joined (s ∷ served) more_served (look ∷ looks) more_looks (inr later) more = inr (stand_joined (s ∷ served) more_served looks more_looks later more)

added_joined : (h : List Entry) (served more_served : List Served) → added_entries h (served ++ more_served) ≡ added_entries h served ++ added_entries h more_served
added_joined h [] more_served = refl
added_joined h (s ∷ served) more_served =
    ap (λ (es : List Entry). added_part s.added (at_point h s) ++ es) (added_joined h served more_served)
    ∙ sym (append_assoc (added_part s.added (at_point h s)) (added_entries h served) (added_entries h more_served))

-- ---- one turn after the other

-- a turn in which the handle served nothing
pub looked_once : (k : Pass) (h more : List Entry) → h ≡ k.seen ++ more → Fresh k (after_turn k h) []
looked_once k h more grows =
    let len : length h ≡ length k.seen + length more = ap length grows ∙ length-append k.seen more in
    record { more = more; grows = grows; looks = length h ∷ []; looked = refl; rises = omega arith; among = tt; marked = tt }

-- a handle that served made no other entries
pub but_nothing : (k k' : Pass) (asks : List Ask) (served : List Served) → Serves k k' asks served → ServesBut k k' asks served []
but_nothing k k' asks served one = record {
  fresh = one.fresh;
  stays = one.stays;
  are_served = one.are_served;
  own = one.own ∙ ap (λ es. entries_of maker k.number k.seen ++ es) (sym (append-nil (added_entries k'.seen served)));
}

pub nothing_but : (k k' : Pass) (asks : List Ask) (served : List Served) (lost : List Entry) → lost ≡ [] → ServesBut k k' asks served lost → Serves k k' asks served
nothing_but k k' asks served lost none one = record {
  fresh = one.fresh;
  stays = one.stays;
  are_served = one.are_served;
  own = one.own
      ∙ ap (λ es. entries_of maker k.number k.seen ++ es)
      (ap (λ es. added_entries k'.seen served ++ es) none ∙ append-nil (added_entries k'.seen served));
}

fresh_joined : (k k' k'' : Pass) (settings : Settings) (number : ℕ) (asks : List Ask) (served more_served : List Served) → AreServed settings number k'.seen asks served
    → Fresh k k' served → Fresh k' k'' more_served → Fresh k k'' (served ++ more_served)
fresh_joined k k' k'' settings number asks served more_served are one two = record {
  more = one.more ++ two.more;
  grows = two.grows ∙ (ap (λ h. h ++ two.more) one.grows ∙ append_assoc k.seen one.more two.more);
  looks = one.looks ++ two.looks;
  looked = two.looked ∙ (ap (λ ls. ls ++ two.looks) one.looked ∙ append_assoc k.looks one.looks two.looks);
  rises = rises_joined (length k.seen) (length k'.seen) (length k''.seen) served more_served one.rises two.rises;
  among = stand_joined served more_served one.looks two.looks one.among two.among;
  marked = are_marked_joined k''.seen served more_served
      (subst (λ h. AreMarked h served) (sym two.grows) (are_marked_longer settings number k'.seen two.more asks served are one.marked))
      two.marked;
}

pub serves_then_but : (k k' k'' : Pass) (asks more_asks : List Ask) (served more_served : List Served) (lost : List Entry) → Serves k k' asks served
    → ServesBut k' k'' more_asks more_served lost → ServesBut k k'' (asks ++ more_asks) (served ++ more_served) lost
serves_then_but k k' k'' asks more_asks served more_served lost one two =
    let settings : k'.settings ≡ k.settings = ap (λ p. p.settings) one.stays in
    let number : k'.number ≡ k.number = ap (λ p. p.number) one.stays in
    let grows : k''.seen ≡ k'.seen ++ two.fresh.more = two.fresh.grows in
    let later : Stays k.settings k.number 0 k'.seen two.fresh.more 1 asks served = stays k.settings k.number 0 k'.seen two.fresh.more 1 asks served one.are_served in
    let first : AreServed k.settings k.number k''.seen asks served = subst (λ h. AreServed k.settings k.number h asks served) (sym grows) later.served_too in
    let second : AreServed k.settings k.number k''.seen more_asks more_served =
    subst (λ n. AreServed k.settings n k''.seen more_asks more_served) number
    (subst (λ s. AreServed s k'.number k''.seen more_asks more_served) settings two.are_served) in
    let entries : added_entries k''.seen served ≡ added_entries k'.seen served = ap (λ h. added_entries h served) grows ∙ later.entries in
    let behind : List Entry = added_entries k''.seen more_served ++ lost in
    record {
      fresh = fresh_joined k k' k'' k.settings k.number asks served more_served one.are_served one.fresh two.fresh;
      stays = two.stays ∙ ap {A = Pass} {B = Pass} (λ p. record p { seen = k''.seen; looks = k''.looks }) one.stays;
      are_served = are_served_joined k.settings k.number k''.seen asks more_asks served more_served first second;
      own = ap (λ n. entries_of maker n k''.seen) (sym number)
          ∙ (two.own
          ∙ (ap (λ n. entries_of maker n k'.seen ++ behind) number
          ∙ (ap (λ es. es ++ behind) one.own
          ∙ (append_assoc (entries_of maker k.number k.seen) (added_entries k'.seen served) behind
          ∙ ap (λ es. entries_of maker k.number k.seen ++ es)
          (ap (λ es. es ++ behind) (sym entries)
          ∙ (sym (append_assoc (added_entries k''.seen served) (added_entries k''.seen more_served) lost)
          ∙ ap (λ es. es ++ lost) (sym (added_joined k''.seen served more_served))))))));
    }

pub serves_in_turn : ServesInTurn
serves_in_turn k k' k'' asks more_asks served more_served one two =
    nothing_but k k'' (asks ++ more_asks) (served ++ more_served) [] refl
    (serves_then_but k k' k'' asks more_asks served more_served [] one (but_nothing k' k'' more_asks more_served two))

-- a turn that served nothing, after one that made entries which no reported request added
pub but_then_quiet : (k k' k'' : Pass) (asks : List Ask) (served : List Served) (lost : List Entry) → ServesBut k k' asks served lost → Serves k' k'' [] []
    → ServesBut k k'' asks served lost
but_then_quiet k k' k'' asks served lost one two =
    let number : k'.number ≡ k.number = ap (λ p. p.number) one.stays in
    let grows : k''.seen ≡ k'.seen ++ two.fresh.more = two.fresh.grows in
    let later : Stays k.settings k.number 0 k'.seen two.fresh.more 1 asks served = stays k.settings k.number 0 k'.seen two.fresh.more 1 asks served one.are_served in
    let entries : added_entries k'.seen served ≡ added_entries k''.seen served = sym (ap (λ h. added_entries h served) grows ∙ later.entries) in
    record {
      fresh = subst (λ l. Fresh k k'' l) (append-nil served)
          (fresh_joined k k' k'' k.settings k.number asks served [] one.are_served one.fresh two.fresh);
      stays = two.stays ∙ ap {A = Pass} {B = Pass} (λ p. record p { seen = k''.seen; looks = k''.looks }) one.stays;
      are_served = subst (λ h. AreServed k.settings k.number h asks served) (sym grows) later.served_too;
      own = ap (λ n. entries_of maker n k''.seen) (sym number)
          ∙ (two.own
          ∙ (append-nil (entries_of maker k'.number k'.seen)
          ∙ (ap (λ n. entries_of maker n k'.seen) number
          ∙ (one.own ∙ ap (λ es. entries_of maker k.number k.seen ++ (es ++ lost)) entries))));
    }

-- ---- a lost edit

-- what was served before it shows it no more
pub lost_behind : (k k' k'' : Pass) (asks : List Ask) (served more_served : List Served) (batch : List Edit) (lost : List Entry) → Serves k k' asks served
    → Unacknowledged k' k'' more_served batch lost → Unacknowledged k k'' (served ++ more_served) batch lost
lost_behind k k' k'' asks served more_served batch lost one made = record {
  lost_is = made.lost_is ∙ ap (λ (p : Pass). edit_and_stop p.number batch) one.stays;
  earlier = made.earlier;
  later = made.later;
  stand = made.stand;
  unseen = rises_joined (length k.seen) (length k'.seen) (length made.earlier) served more_served one.fresh.rises made.unseen;
}

-- whatever comes later is after it
pub lost_before : (k k' k'' : Pass) (more : List Entry) (served : List Served) (batch : List Edit) (lost : List Entry) → k''.seen ≡ k'.seen ++ more
    → Unacknowledged k k' served batch lost → Unacknowledged k k'' served batch lost
lost_before k k' k'' more served batch lost grows made = record {
  lost_is = made.lost_is;
  earlier = made.earlier;
  later = made.later ++ more;
  stand = grows
      ∙ (ap (λ es. es ++ more) made.stand
      ∙ (append_assoc made.earlier (lost ++ made.later) more ∙ ap (λ es. made.earlier ++ es) (append_assoc lost made.later more)));
  unseen = made.unseen;
}

-- ---- a turn that adds nothing

pub quiet_turns_serve_nothing : QuietTurnsServeNothing
quiet_turns_serve_nothing k more none =
    record {
      fresh = looked_once k (k.seen ++ more) more refl;
      stays = refl;
      are_served = tt;
      own = (continues {E = Entry} maker (k.number ∷ []) k.seen (k.seen ++ more) more refl none).own k.number (0, omega arith, refl)
          ∙ sym (append-nil (entries_of maker k.number k.seen));
    }
