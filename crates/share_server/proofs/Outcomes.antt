-- How a connection ended, by what came of the last write on it.
use Rattle.std.proofs.Common.{◌≡◌, ◌≢◌, ℕ, ◌+◌, List, [], ◌++◌, length, take, drop, refl, sym, ap, ◌∙◌, subst, inl, inr, Bool, true, false, cond, ◌==◌, Option, Some, None, append_assoc, append-nil, take-append-drop}
use Rattle.std.specs.Io.KnownBytes.{Appends}
use Rattle.std.proofs.KnownBytes.{Appends-nil, Appends-trans}
use Rattle.item_model.specs.declared.changes.Entry.{Entry}
use Rattle.http_heads.specs.declared.refusal.HeadError.{HeadError}
use Rattle.share_asks.specs.declared.ask.Ask.{Ask}
use Rattle.share_asks.specs.declared.ask.Role.{Role}
use Rattle.share_history.specs.Sessions.{is_stopped}
use Rattle.share_replies.specs.Settings.{Settings}
use Rattle.http_front.specs.Readings.{Joins}
use Rattle.reply_bytes.specs.ReplyBytes.{failure_bytes}
use Rattle.share_server.specs.declared.report.Served.{Served}
use Rattle.share_server.specs.declared.report.LinkEnd.{LinkEnd}
use Rattle.share_server.specs.declared.report.LinkEnd.TheVariants.{Closed, Cut, Refused, Spent, Stopped, LinkFault, FileFault, Memory}
use Rattle.share_server.specs.Served.{at_point}
use Rattle.share_server.specs.Replies.{end_behind, replies}
use Rattle.share_server.specs.Passes.{Pass, Serves}
use Rattle.share_server.specs.Losses.{is_loss}
use Rattle.share_server.proofs.InTurn.{but_nothing}
use Rattle.share_server.proofs.Losing.{loses_none}
use Rattle.share_server.specs.Ends.{EndsBehind, GoOnToLast, WantsMemory, IsCutOf, EndsInside, wanting}
use Rattle.share_server.specs.Written.{Got500, IsRefused}
use Rattle.share_server.specs.Progress.{Ends}

-- ---- bytes

-- a prefix written after a base is a prefix of the base and all that was to be written
pub cut_behind : (base bytes : List ℕ) (n : ℕ) → IsCutOf (base ++ take n bytes) (base ++ bytes)
cut_behind base bytes n = (
  drop n bytes,
  ap (λ b. base ++ b) (sym (take-append-drop n bytes)) ∙ sym (append_assoc base (take n bytes) (drop n bytes)),
)

pub cut_whole : (bytes : List ℕ) → IsCutOf bytes bytes
cut_whole bytes = ([], sym (append-nil bytes))

-- ---- ends after a reply

no_other : (limit n : ℕ) (close stopped : Bool) (end : LinkEnd) → end ≢ Stopped → end ≢ Spent → end ≢ Closed → end_behind limit n close stopped ≡ Some end → ⊥
no_other limit n close true end a b c is = a (cc)
no_other limit n close false end a b c is = by_count (n == limit) is
  where
    by_count : (q : Bool) → cond q (Some Spent) (cond close (Some Closed) None) ≡ Some end → ⊥
    by_count true e = b (cc)
    by_count false e = by_close close e
      where
        by_close : (q : Bool) → cond q (Some Closed) None ≡ Some end → ⊥
        by_close true f = c (cc)
        by_close false f = cc

module _ (role : Role) (bytes : List ℕ) (settings : Settings) (limit : ℕ) (h : List Entry) (asks : List Ask) (served : List Served) (rest : List ℕ) where
  never : (end : LinkEnd) → end ≢ Stopped → end ≢ Spent → end ≢ Closed → EndsBehind limit h asks served end → ⊥
  never end a b c behind =
      no_other limit (length behind.parts.earlier + 1) behind.parts.ask.close (is_stopped (at_point h behind.parts.last)) end a b c behind.is_due

  -- an end after a reply is not a loss
  pub due_loses_none : (end : LinkEnd) → EndsBehind limit h asks served end → is_loss end ≡ false
  due_loses_none Closed behind = refl
  due_loses_none Stopped behind = refl
  due_loses_none Spent behind = refl
  due_loses_none (Cut at) behind = refl
  due_loses_none (Refused status) behind = refl
  due_loses_none LinkFault behind = refl
  due_loses_none FileFault behind = absurd (never FileFault (λ e. cc) (λ e. cc) (λ e. cc) behind)
  due_loses_none Memory behind = refl

  -- an end after the last reply, all of which are written
  pub due_inside : (output : List ℕ) (end : LinkEnd) → EndsBehind limit h asks served end → output ≡ replies settings limit h asks served
      → EndsInside role bytes settings limit h asks served rest output end
  due_inside output Closed behind is = (behind, is)
  due_inside output Stopped behind is = (behind, is)
  due_inside output Spent behind is = (inl behind, is)
  due_inside output (Cut at) behind is = absurd (never (Cut at) (λ e. cc) (λ e. cc) (λ e. cc) behind)
  due_inside output (Refused status) behind is = absurd (never (Refused status) (λ e. cc) (λ e. cc) (λ e. cc) behind)
  due_inside output LinkFault behind is = absurd (never LinkFault (λ e. cc) (λ e. cc) (λ e. cc) behind)
  due_inside output FileFault behind is = absurd (never FileFault (λ e. cc) (λ e. cc) (λ e. cc) behind)
  due_inside output Memory behind is = absurd (never Memory (λ e. cc) (λ e. cc) (λ e. cc) behind)

-- there was no memory to write a refusal
pub refused_anyway : (error : HeadError) (taken taken' : Option (List ℕ)) (end : LinkEnd) → Got500 taken taken' end → IsRefused error taken taken' end
refused_anyway error taken taken' Closed up = absurd up
refused_anyway error taken taken' (Cut at) up = absurd up
refused_anyway error taken taken' (Refused status) up = absurd up
refused_anyway error taken taken' Spent up = absurd up
refused_anyway error taken taken' Stopped up = absurd up
refused_anyway error taken taken' LinkFault up = inr up
refused_anyway error taken taken' FileFault up = absurd up
refused_anyway error taken taken' Memory up = up

-- ---- ends by a write

module _ (role : Role) (bytes : List ℕ) (limit : ℕ) (k k' : Pass) (taken taken' taken'' : Option (List ℕ)) (asks : List Ask) (served : List Served) (rest base : List ℕ)
    (joins : Joins role bytes asks rest) (serves : Serves k k' asks served) (written : Appends taken taken' base) where
  abbrev Inside : List ℕ → LinkEnd → Type 0
  Inside output end = EndsInside role bytes k.settings limit k'.seen asks served rest output end

  -- the connection ended with these bytes after the base
  pub ended_with : (more : List ℕ) (end : LinkEnd) → is_loss end ≡ false → Appends taken' taken'' more → Inside (base ++ more) end → Ends role bytes limit k k' taken taken'' served end
  ended_with more end unlost last how = record {
    asks = asks;
    rest = rest;
    joins = joins;
    lost = [];
    serves = but_nothing k k' asks served serves;
    loses = loses_none role asks k k' served end bytes unlost;
    output = base ++ more;
    written = Appends-trans taken taken' taken'' base more written last;
    how = how;
  }

  -- with nothing more
  pub ended_at : (end : LinkEnd) → is_loss end ≡ false → taken'' ≡ taken' → Inside base end → Ends role bytes limit k k' taken taken'' served end
  ended_at end unlost same how =
      ended_with [] end unlost (subst (λ t. Appends taken' t []) (sym same) (Appends-nil taken')) (subst (λ l. Inside l end) (sym (append-nil base)) how)

  -- an allocation failed: the 500 may follow this base
  pub up_given : (end : LinkEnd) → GoOnToLast limit k'.seen asks served
      → WantsMemory k.settings limit k'.seen asks served (base ++ failure_bytes true) → Got500 taken' taken'' end → Ends role bytes limit k k' taken taken'' served end
  up_given Closed on wants up = absurd up
  up_given (Cut at) on wants up = absurd up
  up_given (Refused status) on wants up = absurd up
  up_given Spent on wants up = absurd up
  up_given Stopped on wants up = absurd up
  up_given LinkFault on wants up =
      ended_with (take up.0 (failure_bytes true)) LinkFault refl up.2 (wanting (base ++ failure_bytes true) on wants (cut_behind base (failure_bytes true) up.0))
  up_given FileFault on wants up = absurd up
  up_given Memory on wants up = ended_with (failure_bytes true) Memory refl up (on, wants)
