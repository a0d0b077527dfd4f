-- Turns that served nothing, and the one that answered or lost an edit.
use Rattle.std.proofs.Common.{◌≡◌, ℕ, List, [], ◌∷◌, Bool, false, refl, sym, ap, subst, append-nil, arith}
use Rattle.item_model.specs.declared.changes.Edit.{Edit}
use Rattle.share_asks.specs.declared.ask.Ask.{Ask}
use Rattle.share_lock.specs.Histories.{entries_of}
use Rattle.share_replies.specs.Laws.{maker}
use Rattle.share_server.specs.Served.{at_point}
use Rattle.share_server.specs.Passes.{Pass, Serves}
use Rattle.share_server.specs.Kept.{Keeping}
use Rattle.share_server.proofs.InTurn.{serves_in_turn, serves_then_but, lost_behind}
use Rattle.share_server.proofs.Losing.{keeping_none}
use Rattle.share_server.specs.declared.turns.outcome.Answered.{Answered}
use Rattle.share_server.specs.Answering.{Says, IsAnswered, IsLost}

-- no turn yet
pub serves_none : (k : Pass) → Serves k k [] []
serves_none k = record {
  fresh = record { more = []; grows = sym (append-nil k.seen); looks = []; looked = sym (append-nil k.looks); rises = omega arith; among = tt; marked = tt };
  stays = refl;
  are_served = tt;
  own = sym (append-nil (entries_of maker k.number k.seen));
}

-- so nothing was to be kept
pub keeping_yet : (keeps : List (List Edit) → Type 0) (is_lost : Bool) (faults : ℕ) (k : Pass) (loses : Bool) → is_lost ≡ false → loses ≡ false
    → Keeping keeps keeps is_lost faults faults k k loses
keeping_yet keeps is_lost faults k loses going unlost =
    subst (λ b. Keeping keeps keeps is_lost faults faults k k b) (sym unlost) (keeping_none keeps is_lost faults k k going (serves_none k))

pub waits : (k k' k'' : Pass) → Serves k k' [] [] → Serves k' k'' [] [] → Serves k k'' [] []
waits k k' k'' before turn = serves_in_turn k k' k'' [] [] [] [] before turn

pub answers : (k k' k'' : Pass) (ask : Ask) (a : Answered) → Serves k k' [] [] → IsAnswered k' k'' ask a → IsAnswered k k'' ask a
answers k k' k'' ask a before turn =
    let same : k'.settings ≡ k.settings = ap (λ p. p.settings) before.stays in record {
      serves = serves_in_turn k k' k'' [] (ask ∷ []) [] (a.served ∷ []) before turn.serves;
      latest = turn.latest;
      stopped = turn.stopped;
      revised = turn.revised;
      free = turn.free;
      said = subst (λ settings. Says settings (at_point k''.seen a.served) ask a.served a.said) same turn.said;
    }

pub loses_behind : (k k' k'' : Pass) (ask : Ask) → Serves k k' [] [] → IsLost k' k'' ask → IsLost k k'' ask
loses_behind k k' k'' ask before turn = record {
  batch = turn.batch;
  asks_it = turn.asks_it;
  lost = turn.lost;
  serves = serves_then_but k k' k'' [] [] [] [] turn.lost before turn.serves;
  made = lost_behind k k' k'' [] [] [] turn.batch turn.lost before turn.made;
}
