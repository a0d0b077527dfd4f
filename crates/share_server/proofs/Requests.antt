-- One request more: it was answered, and its reply was written or not.
use Rattle.std.proofs.Common.{◌≡◌, ℕ, ◌+◌, List, [], ◌∷◌, ◌++◌, length, take, refl, sym, ap, ◌∙◌, subst, inl, inr, Bool, true, cond, ◌==◌, is_some, Option, Some, None, append-nil, arith}
use Rattle.std.specs.Io.KnownBytes.{Appends}
use Rattle.std.proofs.KnownBytes.{Appends-trans}
use Rattle.std.proofs.lemmas.Bool.{eq-eqb}
use Rattle.item_model.specs.declared.changes.Entry.{Entry}
use Rattle.share_asks.specs.declared.ask.Ask.{Ask}
use Rattle.share_core.specs.declared.answer.ReplyContent.{ReplyContent}
use Rattle.share_history.specs.Sessions.{is_stopped}
use Rattle.share_replies.specs.Settings.{Settings}
use Rattle.share_replies.specs.Replies.{answer_to}
use Rattle.reply_bytes.specs.ReplyBytes.{failure_bytes}
use Rattle.share_server.specs.declared.report.Served.{Served}
use Rattle.share_server.specs.declared.report.LinkEnd.{LinkEnd}
use Rattle.share_server.specs.declared.report.LinkEnd.TheVariants.{LinkFault, FileFault, Memory}
use Rattle.share_server.specs.Served.{at_point, answered_on}
use Rattle.share_server.specs.Replies.{GoOn, answer_bytes, due, end_behind, replies, served_bytes}
use Rattle.share_server.specs.Passes.{Pass, Serves}
use Rattle.share_server.specs.Ends.{Parts, EndsBehind, GoOnToLast, IsCutOf, all_told, without_last, in_its_place, replying}
use Rattle.share_server.specs.Laws.{Stays}
use Rattle.share_server.proofs.Longer.{stays}
use Rattle.share_server.specs.Losses.{ServesBut, Unacknowledged}
use Rattle.share_server.proofs.InTurn.{serves_in_turn, serves_then_but, lost_behind}
use Rattle.share_server.specs.Answering.{Says, IsLost}
use Rattle.share_server.specs.Written.{Got500, IsWritableReply, WasWritten, said_bytes, whole, broken, left_out, replaced}
use Rattle.share_server.specs.Progress.{RequestsServed, ExchangeDone}
use Rattle.share_server.proofs.Joined.{goes_on_joined, replies_joined}
use Rattle.share_server.proofs.Outcomes.{cut_behind, cut_whole, due_inside, due_loses_none, ended_at, ended_with, up_given}

-- all replies but the last are written, and the connection stayed open after them
record AllButLast (limit : ℕ) (k k' : Pass) (taken taken' : Option (List ℕ)) (asks : List Ask) (ask : Ask) (served : List Served) (s : Served) : Type 0 where
  serves : Serves k k' (asks ++ ask ∷ []) (served ++ s ∷ [])
  goes_on : GoOn limit k'.seen 1 asks served
  written : Appends taken taken' (replies k.settings limit k'.seen asks served)

-- what was served and written stays, whatever the handle saw later
record GoesStill (limit : ℕ) (k k' : Pass) (taken taken' : Option (List ℕ)) (asks : List Ask) (served : List Served) : Type 0 where
  goes_on : GoOn limit k'.seen 1 asks served
  written : Appends taken taken' (replies k.settings limit k'.seen asks served)

goes_still : (limit : ℕ) (k k1 k2 : Pass) (more : List Entry) (taken taken' : Option (List ℕ)) (asks : List Ask) (served : List Served)
    → RequestsServed limit k k1 taken taken' asks served → k2.seen ≡ k1.seen ++ more → GoesStill limit k k2 taken taken' asks served
goes_still limit k k1 k2 more taken taken' asks served goes grows =
    let later : Stays k.settings k.number limit k1.seen more 1 asks served = stays k.settings k.number limit k1.seen more 1 asks served goes.serves.are_served in
    record {
      goes_on = subst (λ h. GoOn limit h 1 asks served) (sym grows) (later.goes_on goes.goes_on);
      written = subst (λ bytes. Appends taken taken' bytes) (sym (ap (λ h. replies k.settings limit h asks served) grows ∙ later.bytes)) goes.written;
    }

-- a request was answered after those that were served
answered_behind : (limit : ℕ) (k k1 k2 : Pass) (taken taken' : Option (List ℕ)) (asks : List Ask) (ask : Ask) (served : List Served) (s : Served)
    → RequestsServed limit k k1 taken taken' asks served → Serves k1 k2 (ask ∷ []) (s ∷ []) → AllButLast limit k k2 taken taken' asks ask served s
answered_behind limit k k1 k2 taken taken' asks ask served s goes one =
    let still : GoesStill limit k k2 taken taken' asks served = goes_still limit k k1 k2 one.fresh.more taken taken' asks served goes one.fresh.grows in
    record {
      serves = serves_in_turn k k1 k2 asks (ask ∷ []) served (s ∷ []) goes.serves one;
      goes_on = still.goes_on;
      written = still.written;
    }

-- ---- the reply

module _ (limit : ℕ) (k k' : Pass) (taken taken' taken'' : Option (List ℕ)) (asks : List Ask) (ask : Ask) (served : List Served) (s : Served)
    (all : AllButLast limit k k' taken taken' asks ask served s) where
  abbrev due_here : Option LinkEnd
  due_here = due limit (length served + 1) ask (at_point k'.seen s)

  abbrev bytes_here : Bool → List ℕ
  bytes_here last = served_bytes k.settings (at_point k'.seen s) ask s last

  abbrev base : List ℕ
  base = replies k.settings limit k'.seen asks served

  abbrev parts : Parts (asks ++ ask ∷ []) (served ++ s ∷ [])
  parts = record { earlier_asks = asks; ask = ask; earlier = served; last = s; asks_are = refl; served_are = refl }

  to_last : GoOnToLast limit k'.seen (asks ++ ask ∷ []) (served ++ s ∷ [])
  to_last = inr (parts, all.goes_on)

  all_replies : base ++ bytes_here (is_some due_here) ≡ replies k.settings limit k'.seen (asks ++ ask ∷ []) (served ++ s ∷ [])
  all_replies =
      let same : length served + 1 ≡ 1 + length served = omega arith in
      ap (λ n. base ++ bytes_here (is_some (due limit n ask (at_point k'.seen s)))) same
      ∙ sym (replies_joined limit k'.seen ask s k.settings 1 asks served all.goes_on)

  due_behind : (end : LinkEnd) → Some end ≡ due_here → EndsBehind limit k'.seen (asks ++ ask ∷ []) (served ++ s ∷ []) end
  due_behind end is = record { parts = parts; goes_on = all.goes_on; is_due = sym is }

  -- it is written whole
  by_due : (d : Option LinkEnd) → d ≡ due_here → Appends taken' taken'' (bytes_here (is_some d))
      → ExchangeDone limit k k' taken taken'' asks ask (served ++ s ∷ []) d
  by_due None is last =
      let same : 1 + length served ≡ length served + 1 = omega arith in
      record {
        serves = all.serves;
        goes_on = goes_on_joined limit k'.seen ask s 1 asks served all.goes_on (ap (λ n. due limit n ask (at_point k'.seen s)) same ∙ sym is);
        written =
            subst (λ bytes. Appends taken taken'' bytes) (ap (λ d. base ++ bytes_here (is_some d)) is ∙ all_replies)
            (Appends-trans taken taken' taken'' base (bytes_here (is_some {T = LinkEnd} None)) all.written last);
      }
  by_due (Some end) is last = λ role bytes begin.
      ended_with role bytes limit k k' taken taken' taken'' (asks ++ ask ∷ []) (served ++ s ∷ []) begin.rest base begin.all all.serves all.written
      (bytes_here (is_some (Some end))) end
      (due_loses_none role bytes k.settings limit k'.seen (asks ++ ask ∷ []) (served ++ s ∷ []) begin.rest end (due_behind end is)) last
      (due_inside role bytes k.settings limit k'.seen (asks ++ ask ∷ []) (served ++ s ∷ []) begin.rest (base ++ bytes_here (is_some (Some end))) end (due_behind end is)
      (ap (λ d. base ++ bytes_here (is_some d)) is ∙ all_replies))

  by_outcome : (d end : Option LinkEnd) → d ≡ due_here → WasWritten (bytes_here (is_some d)) s.added d taken' taken'' end
      → ExchangeDone limit k k' taken taken'' asks ask (served ++ s ∷ []) end
  by_outcome d end is (whole last e) = subst (λ o. ExchangeDone limit k k' taken taken'' asks ask (served ++ s ∷ []) o) (sym e) (by_due d is last)
  by_outcome d end is (broken part e) =
      subst (λ o. ExchangeDone limit k k' taken taken'' asks ask (served ++ s ∷ []) o) (sym e)
      (λ role bytes begin.
      ended_with role bytes limit k k' taken taken' taken'' (asks ++ ask ∷ []) (served ++ s ∷ []) begin.rest base begin.all all.serves all.written
      (take part.0 (bytes_here (is_some d))) LinkFault refl part.2
      (replying to_last
      (subst (λ all_bytes. IsCutOf (base ++ take part.0 (bytes_here (is_some d))) all_bytes) (ap (λ o. base ++ bytes_here (is_some o)) is ∙ all_replies)
      (cut_behind base (bytes_here (is_some d)) part.0))))
  by_outcome d end is (left_out same e) =
      subst (λ o. ExchangeDone limit k k' taken taken'' asks ask (served ++ s ∷ []) o) (sym e)
      (λ role bytes begin.
      ended_at role bytes limit k k' taken taken' taken'' (asks ++ ask ∷ []) (served ++ s ∷ []) begin.rest base begin.all all.serves all.written
      Memory refl same (to_last, without_last parts refl))
  by_outcome d end is (replaced none up given e) =
      subst (λ o. ExchangeDone limit k k' taken taken'' asks ask (served ++ s ∷ []) o) (sym e)
      (λ role bytes begin.
      up_given role bytes limit k k' taken taken' taken'' (asks ++ ask ∷ []) (served ++ s ∷ []) begin.rest base begin.all all.serves all.written
      up to_last (in_its_place parts none refl) given)

said_as : (settings : Settings) (p : List Entry) (ask : Ask) (s : Served) (said : Option ReplyContent) → Says settings p ask s said → (last : Bool)
    → said_bytes said last ≡ served_bytes settings p ask s last
said_as settings p ask s None says last =
    let failed : true ≡ (s.status == 500) = sym (eq-eqb s.status 500 says) in
    ap (λ b. cond b (failure_bytes last) (answer_bytes (answer_to settings (answered_on s.added p) ask.want) last)) failed
said_as settings p ask s (Some said) says last = says.2 last

pub writable : (settings : Settings) (p : List Entry) (ask : Ask) (s : Served) (said : Option ReplyContent) → Says settings p ask s said → IsWritableReply said
writable settings p ask s None says = tt
writable settings p ask s (Some said) says = (says.0, says.1)

-- a request was answered, and its reply was written or not
pub exchanged : (limit : ℕ) (k k1 k2 : Pass) (taken taken' taken'' : Option (List ℕ)) (asks : List Ask) (ask : Ask) (served : List Served) (s : Served) (said : Option ReplyContent) (stopped : Bool) (d end : Option LinkEnd)
    → RequestsServed limit k k1 taken taken' asks served → Serves k1 k2 (ask ∷ []) (s ∷ []) → Says k1.settings (at_point k2.seen s) ask s said
    → stopped ≡ is_stopped (at_point k2.seen s) → d ≡ end_behind limit (length served + 1) ask.close stopped
    → WasWritten (said_bytes said (is_some d)) s.added d taken' taken'' end
    → ExchangeDone limit k k2 taken taken'' asks ask (served ++ s ∷ []) end
exchanged limit k k1 k2 taken taken' taken'' asks ask served s said stopped d end goes serves says stops is written =
    let settings : k1.settings ≡ k.settings = ap (λ p. p.settings) goes.serves.stays in
    by_outcome limit k k2 taken taken' taken'' asks ask served s (answered_behind limit k k1 k2 taken taken' asks ask served s goes serves) d end
    (is ∙ ap (λ b. end_behind limit (length served + 1) ask.close b) stops)
    (subst (λ bytes. WasWritten bytes s.added d taken' taken'' end)
    (said_as k1.settings (at_point k2.seen s) ask s said says (is_some d)
    ∙ ap (λ t. served_bytes t (at_point k2.seen s) ask s (is_some d)) settings)
    written)

-- reserving capacity for its report failed, so it was not answered
pub unserved : (limit : ℕ) (k k' : Pass) (taken taken' taken'' : Option (List ℕ)) (asks : List Ask) (ask : Ask) (served : List Served) (end : LinkEnd)
    → RequestsServed limit k k' taken taken' asks served → Got500 taken' taken'' end → ExchangeDone limit k k' taken taken'' asks ask served (Some end)
unserved limit k k' taken taken' taken'' asks ask served end goes up = λ role bytes begin.
    up_given role bytes limit k k' taken taken' taken'' asks served begin.behind (replies k.settings limit k'.seen asks served) begin.first goes.serves
    goes.written end (inl goes.goes_on) (all_told refl) up

-- its peer left while it was pending: all replies are written
pub gone : (limit : ℕ) (k k1 k2 : Pass) (taken taken' taken'' : Option (List ℕ)) (asks : List Ask) (ask : Ask) (served : List Served)
    → RequestsServed limit k k1 taken taken' asks served → Serves k1 k2 [] [] → taken'' ≡ taken'
    → ExchangeDone limit k k2 taken taken'' asks ask served (Some LinkFault)
gone limit k k1 k2 taken taken' taken'' asks ask served goes none same = λ role bytes begin.
    let still : GoesStill limit k k2 taken taken' asks served = goes_still limit k k1 k2 none.fresh.more taken taken' asks served goes none.fresh.grows in
    let serves : Serves k k2 asks served =
    subst (λ served. Serves k k2 asks served) (append-nil served)
    (subst (λ asks. Serves k k2 asks (served ++ [])) (append-nil asks) (serves_in_turn k k1 k2 asks [] served [] goes.serves none)) in
    ended_at role bytes limit k k2 taken taken' taken'' asks served begin.behind (replies k.settings limit k2.seen asks served) begin.first serves
    still.written LinkFault refl same (replying (inl still.goes_on) (cut_whole (replies k.settings limit k2.seen asks served)))

-- its edit was lost: all replies are written, and none to it
pub unkept : (limit : ℕ) (k k1 k2 : Pass) (taken taken' taken'' : Option (List ℕ)) (asks : List Ask) (ask : Ask) (served : List Served)
    → RequestsServed limit k k1 taken taken' asks served → IsLost k1 k2 ask → taken'' ≡ taken'
    → ExchangeDone limit k k2 taken taken'' asks ask served (Some FileFault)
unkept limit k k1 k2 taken taken' taken'' asks ask served goes is same = λ role bytes begin.
    let still : GoesStill limit k k2 taken taken' asks served = goes_still limit k k1 k2 is.serves.fresh.more taken taken' asks served goes is.serves.fresh.grows in
    record {
      asks = asks;
      rest = begin.behind;
      joins = begin.first;
      lost = is.lost;
      serves =
          subst (λ served. ServesBut k k2 asks served is.lost) (append-nil served)
          (subst (λ asks. ServesBut k k2 asks (served ++ []) is.lost) (append-nil asks)
          (serves_then_but k k1 k2 asks [] served [] is.lost goes.serves is.serves));
      loses = record {
        ask = ask;
        behind = begin.rest;
        next = begin.all;
        batch = is.batch;
        asks_it = is.asks_it;
        made =
            subst (λ served. Unacknowledged k k2 served is.batch is.lost) (append-nil served)
            (lost_behind k k1 k2 asks served [] is.batch is.lost goes.serves is.made);
      };
      output = replies k.settings limit k2.seen asks served;
      written = subst (λ t. Appends taken t (replies k.settings limit k2.seen asks served)) (sym same) still.written;
      how = (still.goes_on, refl);
    }
