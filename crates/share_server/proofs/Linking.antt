-- A connection as a whole: its begin, one read more, and its ends.
use Rattle.std.proofs.Common.{◌≡◌, ◌<◌, ℕ, ◌+◌, ◌-◌, ◌^◌, min, List, [], ◌∷◌, ◌++◌, length, refl, sym, ap, ◌∙◌, subst, inl, inr, Bool, true, false, true≢false, MatchBool, Option, Some, None, IfSome, append-nil, length-append, unwrap_or, arith}
use Rattle.std.specs.List.{list_any}
use Rattle.std.specs.Io.KnownBytes.{Appends, Consumes, IsAtEnd, Keeps}
use Rattle.std.proofs.KnownBytes.{Appends-nil, Consumes-kept, Consumes-nil, Consumes-trans}
use Rattle.item_model.specs.declared.changes.Edit.{Edit}
use Rattle.share_asks.specs.declared.ask.Ask.{Ask}
use Rattle.share_asks.specs.declared.ask.Role.{Role}
use Rattle.share_asks.specs.declared.ask.Role.TheVariants.{Listen}
use Rattle.share_history.specs.Histories.{batches}
use Rattle.share_history.specs.Sessions.{is_stop}
use Rattle.share_replies.specs.Laws.{is_change, is_edit}
use Rattle.http_front.specs.Readers.{HasRead, Reader}
use Rattle.http_front.specs.Readings.{IsReading, Joins, reading}
use Rattle.http_front.proofs.ReadingLaws.{handed_join, reads_all}
use Rattle.share_server.specs.declared.report.Served.{Served}
use Rattle.share_server.specs.declared.report.LinkEnd.{LinkEnd}
use Rattle.share_server.specs.declared.report.LinkReport.{LinkReport}
use Rattle.share_server.specs.declared.report.LinkEnd.TheVariants.{Closed, Cut, Refused, Spent, Stopped, LinkFault, FileFault, Memory}
use Rattle.share_server.specs.Served.{added_entries}
use Rattle.share_server.specs.Replies.{replies}
use Rattle.share_server.specs.Passes.{Pass}
use Rattle.share_server.specs.Ends.{EndsInside, EndsAtEnd, Idles, all_told, replying}
use Rattle.share_server.specs.Losses.{LosesEdit, is_loss}
use Rattle.share_server.specs.Kept.{Keeping}
use Rattle.share_server.specs.Links.{LinkEnded}
use Rattle.share_server.proofs.Endings.{ends_are_decided}
use Rattle.share_server.proofs.InTurn.{but_nothing}
use Rattle.share_server.proofs.Listening.{last_is_quiet, players_change_nothing}
use Rattle.share_server.proofs.Losing.{kept_added, loses_none, unheard}
use Rattle.share_server.specs.Serving.{LinkServed, limit_of}
use Rattle.share_server.specs.Written.{Got500}
use Rattle.share_server.specs.Progress.{RequestsServed, Ends, BytesServed, FeedDone, ReadsServed, PumpDone, EndsInput}
use Rattle.share_server.proofs.Outcomes.{cut_whole, ended_at, up_given}
use Rattle.share_server.proofs.Stepping.{ends_longer}
use Rattle.share_server.proofs.Waiting.{serves_none}

-- ---- the begin

pub goes_nowhere : (limit : ℕ) (k : Pass) (taken : Option (List ℕ)) → RequestsServed limit k k taken taken [] []
goes_nowhere limit k taken = record { serves = serves_none k; goes_on = tt; written = Appends-nil taken }

-- no byte was read yet
pub started : (role : Role) (limit : ℕ) (k : Pass) (left taken : Option (List ℕ)) (r : Reader) → 0 < limit → r.role ≡ role → r.ready ≡ None → r.error ≡ None
    → HasRead [] [] r → ReadsServed role limit k k left left taken taken r [] 0
started role limit k left taken r some role_is idle fine begins = record {
  some = some;
  bytes = [];
  midway = record { role_is = role_is; idle = idle; fine = fine; asks = []; read = begins; goes = goes_nowhere limit k taken };
  off = Consumes-nil left;
  counted = omega arith;
}

-- ---- ends inside the bytes

told_without : (left : Option (List ℕ)) (bytes : List ℕ) → Consumes left None bytes → IfSome left (λ all. all ≡ bytes)
told_without None bytes off = tt
told_without (Some all) bytes off = absurd off

told_with : (left : Option (List ℕ)) (bytes rest : List ℕ) → Consumes left (Some rest) bytes → IfSome left (λ all. all ≡ bytes ++ rest)
told_with None bytes rest off = tt
told_with (Some all) bytes rest off = off

-- a connection that ended inside the bytes that were read off it
pub ended_inside : (role : Role) (bytes : List ℕ) (limit : ℕ) (k k' : Pass) (left left' taken taken' : Option (List ℕ)) (served : List Served) (end : LinkEnd)
    → 0 < limit → Ends role bytes limit k k' taken taken' served end → Consumes left left' bytes → LinkEnded role limit k k' left taken taken' served end
ended_inside role bytes limit k k' left left' taken taken' served end some ends off = by_rest left' off
  where
    at : (input : List ℕ) → IfSome left (λ all. all ≡ input) → Ends role input limit k k' taken taken' served end → LinkEnded role limit k k' left taken taken' served end
    at input told e = record {
      at_once = λ none. absurd (omega (arith, none, some));
      input = input;
      told = told;
      asks = e.asks;
      rest = e.rest;
      joins = e.joins;
      lost = e.lost;
      serves = e.serves;
      loses = e.loses;
      output = e.output;
      written = e.written;
      how = inl e.how;
      complete = ends_are_decided role input k.settings limit k'.seen e.asks served e.rest e.output end e.joins (inl e.how);
    }

    by_rest : (o : Option (List ℕ)) → Consumes left o bytes → LinkEnded role limit k k' left taken taken' served end
    by_rest None is = at bytes (told_without left bytes is) ends
    by_rest (Some rest) is = at (bytes ++ rest) (told_with left bytes rest is) (ends_longer role bytes rest limit k k' taken taken' served end ends)

-- ---- one read more

pub pumped : (role : Role) (limit : ℕ) (k k1 k2 : Pass) (left left1 left2 taken taken1 taken2 : Option (List ℕ)) (r r2 : Reader) (served served2 : List Served) (consumed consumed2 : ℕ) (piece : List ℕ) (o : Option LinkEnd)
    → ReadsServed role limit k k1 left left1 taken taken1 r served consumed → Consumes left1 left2 piece
    → consumed2 ≡ min (consumed + length piece) (2 ^ 64 - 1)
    → ((bytes : List ℕ) → BytesServed role bytes limit k k1 taken taken1 r served → FeedDone role bytes piece limit k k2 taken taken2 r2 served2 o)
    → PumpDone role limit k k2 left left2 taken taken2 r2 served2 consumed2 o
pumped role limit k k1 k2 left left1 left2 taken taken1 taken2 r r2 served served2 consumed consumed2 piece None under read counted feeds = record {
  some = under.some;
  bytes = under.bytes ++ piece;
  midway = feeds under.bytes under.midway;
  off = Consumes-trans left left1 left2 under.bytes piece under.off read;
  counted = omega (arith, counted, under.counted, length-append under.bytes piece);
}
pumped role limit k k1 k2 left left1 left2 taken taken1 taken2 r r2 served served2 consumed consumed2 piece (Some end) under read counted feeds =
    ended_inside role (under.bytes ++ piece) limit k k2 left left2 taken taken2 served2 end under.some (feeds under.bytes under.midway)
    (Consumes-trans left left1 left2 under.bytes piece under.off read)

-- the same if the read left the output, and the writes left the input
pub pumped_on : (role : Role) (limit : ℕ) (k k1 k2 : Pass) (left left1 left2 left3 taken taken1 taken2 taken3 : Option (List ℕ)) (r r2 : Reader) (served served2 : List Served) (consumed consumed2 : ℕ) (piece : List ℕ) (o : Option LinkEnd)
    → ReadsServed role limit k k1 left left1 taken taken1 r served consumed → Consumes left1 left2 piece → taken2 ≡ taken1 → left3 ≡ left2
    → consumed2 ≡ min (consumed + length piece) (2 ^ 64 - 1)
    → ((bytes : List ℕ) → BytesServed role bytes limit k k1 taken taken2 r served → FeedDone role bytes piece limit k k2 taken taken3 r2 served2 o)
    → PumpDone role limit k k2 left left3 taken taken3 r2 served2 consumed2 o
pumped_on role limit k k1 k2 left left1 left2 left3 taken taken1 taken2 taken3 r r2 served served2 consumed consumed2 piece o under read untouched unread counted feeds =
    subst (λ (l : Option (List ℕ)). PumpDone role limit k k2 left l taken taken3 r2 served2 consumed2 o) (sym unread)
    (pumped role limit k k1 k2 left left1 left2 taken taken1 taken3 r r2 served served2 consumed consumed2 piece o under read counted
    (λ bytes midway. feeds bytes (subst (λ (t : Option (List ℕ)). BytesServed role bytes limit k k1 taken t r served) (sym untouched) midway)))

module _ (role : Role) (limit : ℕ) (k k' : Pass) (left left1 left2 taken taken1 taken2 : Option (List ℕ)) (r : Reader) (served : List Served) (consumed : ℕ)
    (under : ReadsServed role limit k k' left left1 taken taken1 r served consumed) (untouched : taken2 ≡ taken1) where
  abbrev asks_here : List Ask
  asks_here = under.midway.asks

  abbrev base : List ℕ
  base = replies k.settings limit k'.seen asks_here served

  -- the read failed
  pub faulted : Keeps left1 left2 → LinkEnded role limit k k' left taken taken2 served LinkFault
  faulted keeps =
      let goes = under.midway.goes in
      let joins = handed_join under.bytes asks_here r under.midway.read in
      ended_inside role under.bytes limit k k' left left2 taken taken2 served LinkFault under.some
      (ended_at role under.bytes limit k k' taken taken1 taken2 asks_here served joins.0 base
      (subst (λ (x : Role). Joins x under.bytes asks_here joins.0) under.midway.role_is joins.1) goes.serves goes.written LinkFault refl untouched
      (replying (inl goes.goes_on) (cut_whole base)))
      (Consumes-kept left left1 left2 under.bytes under.off keeps)

  -- the input ended
  module _ (read : Consumes left1 left2 []) (at_end : IsAtEnd left2) where
    told_all : IfSome left (λ all. all ≡ under.bytes)
    told_all = by_ends left left2 (subst (λ (b : List ℕ). Consumes left left2 b) (append-nil under.bytes) (Consumes-trans left left1 left2 under.bytes [] under.off read)) at_end
      where
        by_ends : (l l' : Option (List ℕ)) → Consumes l l' under.bytes → IsAtEnd l' → IfSome l (λ all. all ≡ under.bytes)
        by_ends None l' c e = tt
        by_ends (Some all) None c e = absurd c
        by_ends (Some all) (Some rest) c e = c ∙ (ap (λ (b : List ℕ). under.bytes ++ b) e ∙ append-nil under.bytes)

    reads_here : IsReading role under.bytes (reading asks_here r.kept None)
    reads_here =
        subst (λ (x : Role). IsReading x under.bytes (reading asks_here r.kept None)) under.midway.role_is
        (reads_all under.bytes asks_here r under.midway.read under.midway.fine under.midway.idle)

    ended_by : (end : LinkEnd) → is_loss end ≡ false → EndsAtEnd role under.bytes k.settings limit k'.seen asks_here served r.kept base end
        → LinkEnded role limit k k' left taken taken2 served end
    ended_by end unlost how =
        let goes = under.midway.goes in
        let some = under.some in
        record {
          at_once = λ none. absurd (omega (arith, none, some));
          input = under.bytes;
          told = told_all;
          asks = asks_here;
          rest = r.kept;
          joins = reads_here.joins;
          lost = [];
          serves = but_nothing k k' asks_here served goes.serves;
          loses = loses_none role asks_here k k' served end under.bytes unlost;
          output = base;
          written = subst (λ t. Appends taken t base) (sym untouched) goes.written;
          how = inr how;
          complete = ends_are_decided role under.bytes k.settings limit k'.seen asks_here served r.kept base end reads_here.joins (inr how);
        }

    idles_here : Idles role under.bytes limit k'.seen asks_here served r.kept None
    idles_here = record { goes_on = under.midway.goes.goes_on; reads = reads_here }

    pub at_the_end : (end : LinkEnd) → EndsInput r consumed end → LinkEnded role limit k k' left taken taken2 served end
    at_the_end Closed is = ended_by Closed refl (idles_here, is, refl)
    at_the_end (Cut at) is = ended_by (Cut at) refl (idles_here, is.0, is.1 ∙ under.counted, refl)
    at_the_end (Refused status) is = absurd is
    at_the_end Spent is = absurd is
    at_the_end Stopped is = absurd is
    at_the_end LinkFault is = absurd is
    at_the_end FileFault is = absurd is
    at_the_end Memory is = absurd is

-- ---- before the first read

no_asks : (role : Role) (input : List ℕ) → Joins role input [] input
no_asks role input = record { requests = []; spell = tt; joined = refl }

-- no request may be served
pub spent_at_once : (role : Role) (limit : ℕ) (k : Pass) (left taken : Option (List ℕ)) → limit ≡ 0 → LinkEnded role limit k k left taken taken [] Spent
spent_at_once role limit k left taken none =
    let input : List ℕ = unwrap_or left [] in
    let how : EndsInside role input k.settings limit k.seen [] [] input [] Spent = (inr (none, refl), refl) in
    record {
      at_once = λ is. (refl, refl);
      input = input;
      told = told_input left;
      asks = [];
      rest = input;
      joins = no_asks role input;
      lost = [];
      serves = but_nothing k k [] [] (serves_none k);
      loses = refl;
      output = [];
      written = Appends-nil taken;
      how = inl how;
      complete = ends_are_decided role input k.settings limit k.seen [] [] input [] Spent (no_asks role input) (inl how);
    }
  where
    told_input : (l : Option (List ℕ)) → IfSome l (λ all. all ≡ unwrap_or l [])
    told_input None = tt
    told_input (Some all) = refl

-- there was no memory to read
pub unbegun : (role : Role) (limit : ℕ) (k : Pass) (left taken taken' : Option (List ℕ)) (end : LinkEnd) → 0 < limit → Got500 taken taken' end
    → LinkEnded role limit k k left taken taken' [] end
unbegun role limit k left taken taken' end some up =
    ended_inside role [] limit k k left left taken taken' [] end some
    (up_given role [] limit k k taken taken taken' [] [] [] [] (no_asks role []) (serves_none k) (Appends-nil taken) end (inl tt) (all_told refl) up)
    (Consumes-nil left)

-- ---- players

pub players_are_quiet : (role : Role) (limit : ℕ) (k k' : Pass) (left taken taken' : Option (List ℕ)) (served : List Served) (end : LinkEnd)
    → LinkEnded role limit k k' left taken taken' served end → role ≡ Listen
    → (list_any is_edit (added_entries k'.seen served) ≡ false) × (list_any is_stop (added_entries k'.seen served) ≡ false)
players_are_quiet role limit k k' left taken taken' served end ended plays =
    players_change_nothing ended.input ended.asks ended.rest k.settings k.number k'.seen served
    (subst (λ (x : Role). Joins x ended.input ended.asks ended.rest) plays ended.joins) ended.serves.are_served

-- nor do they lose an edit
pub players_keep_nothing : (role : Role) (limit : ℕ) (k k' : Pass) (left taken taken' : Option (List ℕ)) (served : List Served) (end : LinkEnd)
    → LinkEnded role limit k k' left taken taken' served end → role ≡ Listen → is_loss end ≡ false
players_keep_nothing role limit k k' left taken taken' served end ended plays = by_end (is_loss end) ended.loses
  where
    by_end : (b : Bool) → MatchBool b (LosesEdit role ended.input ended.asks k k' served ended.lost) (ended.lost ≡ []) → b ≡ false
    by_end false none = refl
    by_end true loses =
        absurd
        (true≢false
        (sym (ap is_change loses.asks_it)
        ∙ last_is_quiet ended.input ended.asks loses.ask loses.behind
        (subst (λ (x : Role). Joins x ended.input (ended.asks ++ loses.ask ∷ []) loses.behind) plays loses.next)))

-- ---- keepers

-- what a keeper kept over the connection
pub kept_served : (keeps keeps' : List (List Edit) → Type 0) (is_lost' : Bool) (faults faults' : ℕ) (role : Role) (limit : ℕ) (k k' : Pass) (left taken taken' : Option (List ℕ)) (served : List Served) (end : LinkEnd)
    → Keeping keeps keeps' is_lost' faults faults' k k' (is_loss end) → LinkEnded role limit k k' left taken taken' served end
    → (bs : List (List Edit)) → keeps bs → keeps' (bs ++ batches (added_entries k'.seen served))
kept_served keeps keeps' is_lost' faults faults' role limit k k' left taken taken' served end keeping ended =
    kept_added keeps keeps' is_lost' faults faults' k k' (is_loss end) ended.asks served ended.lost keeping ended.serves
    (unheard role ended.asks k k' served end ended.input ended.lost ended.loses)

-- ---- the report

pub reported : (role : Role) (budget limit : ℕ) (k k' : Pass) (left taken taken' : Option (List ℕ)) (served : List Served) (report : LinkReport) → limit ≡ limit_of budget
    → report.number ≡ k.number → report.served ≡ served → LinkEnded role limit k k' left taken taken' served report.end
    → LinkServed role budget k k' left taken taken' report
reported role budget limit k k' left taken taken' served report limits number same ended =
    let ends : LinkEnded role (limit_of budget) k k' left taken taken' report.served report.end =
    subst (λ (n : ℕ). LinkEnded role n k k' left taken taken' report.served report.end) limits
    (subst (λ (l : List Served). LinkEnded role limit k k' left taken taken' l report.end) (sym same) ended) in
    record {
      number = number;
      ended = ends;
      quiet = players_are_quiet role (limit_of budget) k k' left taken taken' report.served report.end ends;
      unlost = players_keep_nothing role (limit_of budget) k k' left taken taken' report.served report.end ends;
    }
