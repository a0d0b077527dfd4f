-- A whole script.
use Rattle.std.proofs.Common.{◌≡◌, ◌≤◌, ℕ, List, length, take, slice_get, Option, Some, None, refl, sym, subst, take_all, arith}
use Rattle.std.proofs.KnownBytes.{Appends-nil, Appends-trans}
use Rattle.std.proofs.lemmas.Option.{slice_get_past}
use Rattle.std.specs.Io.KnownBytes.{Appends}
use Rattle.outside_net.specs.Told.{AppendsPrefix}
use Rattle.item_model.specs.declared.changes.Entry.{Entry}
use Rattle.reply_bytes.proofs.Cut.{cut_behind}
use Rattle.share_replies.specs.Settings.{Settings}
use Rattle.share_replay.specs.Connections.{Connection}
use Rattle.share_replay.specs.Machine.{answers, begin, after_delivery, last_lines, line_place, most_left, nobody, output_of, script_bytes, script_run}
use Rattle.share_replay.specs.Played.{IsAt, IsBrokenOff, IsPart, broken_at, broken_in, most_answers}
use Rattle.share_replay.specs.declared.delivery.Delivery.{Delivery}
use Rattle.share_replay.proofs.OutputFacts.{outputs_go_on}
use Rattle.share_replay.proofs.Written.{cut_before, none_taken}

pub begins_at : (h : List Entry) (cs : List (Option Connection)) (t : Option (List ℕ)) → cs ≡ nobody → IsAt (begin h) h cs t t
begins_at h cs t none = record { history = refl; connections = none; written = Appends-nil t }

-- before anything was played
pub broken_before : (s : Settings) (h : List Entry) (lines : List Delivery) (t : Option (List ℕ)) → IsBrokenOff s h lines h t t
broken_before s h lines t = by_lines lines
  where
    by_lines : (ls : List Delivery) → IsBrokenOff s h ls h t t
    by_lines ls = record { line = 0; answered = 0; few = omega arith; part = by_first (slice_get ls 0) }
      where
        by_first : (o : Option Delivery) → IsPart (broken_in s (begin h) o 0) h t t
        by_first None = record { history = refl; taken = none_taken t (output_of (begin h)) }
        by_first (Some line) = record { history = refl; taken = none_taken t (after_delivery line (begin h)).output }

-- within a line
pub broken_within : (s : Settings) (h h' : List Entry) (lines : List Delivery) (index : ℕ) (line : Delivery) (t t' : Option (List ℕ)) → slice_get lines index ≡ Some line
    → (k : ℕ) × (k ≤ most_left (after_delivery line (script_run s h (take index lines))).connections)
    × IsPart (answers s (line_place line) k (after_delivery line (script_run s h (take index lines)))) h' t t'
    → IsBrokenOff s h lines h' t t'
broken_within s h h' lines index line t t' is (k, few, part) = record {
  line = index;
  answered = k;
  few = subst (λ (o : Option Delivery). k ≤ most_answers (script_run s h (take index lines)) o) (sym is) few;
  part = subst (λ (o : Option Delivery). IsPart (broken_in s (script_run s h (take index lines)) o k) h' t t') (sym is) part;
}

-- at its end
pub ended_at : (s : Settings) (h h' : List Entry) (cs : List (Option Connection)) (lines : List Delivery) (index : ℕ) (t u : Option (List ℕ)) → length lines ≤ index
    → IsAt (script_run s h (take index lines)) h' cs t u → IsAt (script_run s h lines) h' cs t u
ended_at s h h' cs lines index t u past at = subst (λ (ls : List Delivery). IsAt (script_run s h ls) h' cs t u) (take_all index lines past) at

pub all_written : (s : Settings) (h h' : List Entry) (cs : List (Option Connection)) (lines : List Delivery) (t u v : Option (List ℕ))
    → IsAt (script_run s h lines) h' cs t u → Appends u v (last_lines 1 cs) → Appends t v (script_bytes s h lines)
all_written s h h' cs lines t u v at told =
    Appends-trans t u v (script_run s h lines).output (last_lines 1 (script_run s h lines).connections) at.written
    (subst (λ (l : List (Option Connection)). Appends u v (last_lines 1 l)) at.connections told)

pub broken_behind : (s : Settings) (h h' : List Entry) (cs : List (Option Connection)) (lines : List Delivery) (t u v : Option (List ℕ))
    → IsAt (script_run s h lines) h' cs t u → AppendsPrefix u v (last_lines 1 cs) → IsBrokenOff s h lines h' t v
broken_behind s h h' cs lines t u v at told =
    let none : slice_get lines (length lines) ≡ None = slice_get_past lines (length lines) (omega arith) in
    record {
      line = length lines;
      answered = 0;
      few = omega arith;
      part =
          subst (λ (o : Option Delivery). IsPart (broken_in s (script_run s h (take (length lines) lines)) o 0) h' t v) (sym none)
          (subst (λ (ls : List Delivery). IsPart (broken_in s (script_run s h ls) None 0) h' t v) (sym (take_all (length lines) lines (omega arith))) (record {
            history = at.history;
            taken =
                cut_behind (script_run s h lines).output (last_lines 1 (script_run s h lines).connections) t u v at.written
                (subst (λ (l : List (Option Connection)). AppendsPrefix u v (last_lines 1 l)) at.connections told);
          }));
    }

-- what was written is a prefix of what the script writes
pub front_of : (s : Settings) (h h' : List Entry) (lines : List Delivery) (t t' : Option (List ℕ)) → IsBrokenOff s h lines h' t t' → AppendsPrefix t t' (script_bytes s h lines)
front_of s h h' lines t t' b =
    let more = outputs_go_on s h lines b.line b.answered b.few in
    subst (AppendsPrefix t t') (sym more.1) (cut_before (broken_at s h lines b.line b.answered).output more.0 t t' b.part.taken)
