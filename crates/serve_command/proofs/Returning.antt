-- Listeners that were closed before a worker accepted at them, and what is kept of a history.
use Rattle.std.proofs.Common.{◌≡◌, ℕ, List, [], ◌∷◌, ◌++◌, Bool, true, false, MatchBool, Option, Result, Ok, Err, refl, sym, subst, ◌∙◌, arith, length-append}
use Rattle.std.proofs.lemmas.List.{get_or_append_left}
use Rattle.std.specs.Prelude.{All, OnOk}
use Rattle.share_lock.proofs.Fronts.{all_rest}
use Rattle.outside_net.specs.Counts.{RisesWith, Rose}
use Rattle.outside_net.specs.Places.{Contents}
use Rattle.outside_net.specs.Told.{Grows}
use Rattle.kept_library.specs.Closing.{LeavesAt, LeavesOrOneMore}
use Rattle.share_workers.specs.Keepers.{KeepsBut}
use Rattle.item_model.specs.declared.changes.Edit.{Edit}
use Rattle.item_model.specs.declared.changes.Entry.{Entry}
use Rattle.command_core.specs.Seen.{FilesSeen, InputSeen, NetSeen, OutputSeen, seen_of, run_of}
use Rattle.command_core.specs.ReadRecords.{HasReadAs}
use Rattle.serve_command.specs.declared.terms.Serving.{Serving}
use Rattle.serve_command.specs.Files.{AreKept, IsOpening, LeavesBut}
use Rattle.serve_command.specs.Places.{HasAsked, HasOpened, HasClosedUnused}
use Rattle.serve_command.specs.Runs.{ServeOutcome, ServeEnds, ShareEnds, announced, not_announced, served, unannounced, unbegun}
use Rattle.serve_command.specs.Terms.{places_of}

pub asked_still : (serving : Serving) (start mid now : NetSeen) (listen edit : ℕ) (coming : List (Option (List (List ℕ)))) → HasOpened serving start mid listen edit coming → HasClosedUnused start mid now
    → HasAsked (places_of serving) start now
asked_still serving start mid now listen edit coming opened back = record {
  asked = subst (λ a. Grows start.asked a (places_of serving)) (sym back.asked) opened.asked.asked;
  written = back.written opened.asked.written;
}

pub faultless_still : (serving : Serving) (start mid now : NetSeen) (listen edit : ℕ) (coming : List (Option (List (List ℕ)))) → HasOpened serving start mid listen edit coming → HasClosedUnused start mid now
    → now.faults ≡ start.faults
faultless_still serving start mid now listen edit coming opened back = back.faultless ∙ opened.faultless

-- `kept` may be replaced by what follows from it
pub ends_so : (serving : Serving) (opened : List Entry) (kept kept' : List Entry → Bool → Type 0) (net net' : NetSeen) (output output' : OutputSeen) (left : ServeOutcome)
    → ((history : List Entry) (lost : Bool) → kept history lost → kept' history lost) → ShareEnds serving opened kept net net' output output' left → ShareEnds serving opened kept' net net' output output' left
ends_so serving opened kept kept' net net' output output' left so (not_announced told asked faults is none) = not_announced told asked faults (so opened _ is) none
ends_so serving opened kept kept' net net' output output' left so (announced run) = announced (record {
  history = run.history;
  history_is = run.history_is;
  whole_history = run.whole_history;
  crew = run.crew;
  roles = run.roles;
  links = run.links;
  one = run.one;
  to_come = run.to_come;
  asked = run.asked;
  written = run.written;
  counts = run.counts;
  kept_so = so run.history _ run.kept_so;
  at_line = run.at_line;
  line_written = run.line_written;
  told = run.told;
  whole = run.whole;
})

-- a share that was opened with what was read ends as the specification of `serve` says
pub run_ends : (serving : Serving) (opened : List Entry) (edits : List Edit) (before after : InputSeen) (files files' : FilesSeen) (net net' : NetSeen) (output output' : OutputSeen) (left : ServeOutcome)
    → HasReadAs edits before after → IsOpening serving.file files.contents edits opened → ShareEnds serving opened (AreKept serving.file files files') net net' output output' left
    → ServeEnds serving (run_of (seen_of before files net) (seen_of after files' net') output output') left
run_ends serving opened edits before after files files' net net' output output' left read is (not_announced told asked faults kept none) =
    unbegun asked faults (unannounced edits opened read is kept told) none
run_ends serving opened edits before after files files' net net' output output' left read is (announced run) = served edits opened read is run

-- a further fact of a result
pub ok_and : {T E : Type 0} (r : Result T E) (P Q : Type 0) → OnOk r P → Q → OnOk r (P × Q)
ok_and (Ok x) P Q p q = (p, q)
ok_and (Err e) P Q p q = tt

-- what holds of all items holds of those before the last, and of the last
pub front_of : {A : Type 0} (P : A → Type 0) (xs : List A) (y : A) → All P (xs ++ y ∷ []) → All P xs
front_of P xs y all = λ k d less. subst P (get_or_append_left xs (y ∷ []) d k less) (all k d (let more = length-append xs (y ∷ []) in omega (arith, more, less)))

pub last_of_all : {A : Type 0} (P : A → Type 0) (xs : List A) (y : A) → All P (xs ++ y ∷ []) → P y
last_of_all P xs y all = all_rest P xs (y ∷ []) all 0 y (omega arith)

-- the error counter after a disk was closed whose counter was 0 at first
pub counts_back : (lost : Bool) (n n' d d' : ℕ) → d ≡ 0 → MatchBool lost (Rose d d') (d' ≡ d) → RisesWith n n' d' → MatchBool lost (Rose n n') (n' ≡ n)
counts_back true n n' d d' is counts rises = rises.faulty (let r = counts.1 in omega (arith, is, r))
counts_back false n n' d d' is counts rises = rises.faultless (counts ∙ is)

-- what a file keeps is left once its disk is closed
pub left_back : (lost : Bool) (keeps : List (List Edit) → Type 0) (bs : List (List Edit)) (path : List ℕ) (before now : Option Contents) → KeepsBut lost keeps bs
    → (lost ≡ false → (kept : List (List Edit)) → keeps kept → LeavesAt path kept before now) → (lost ≡ true → (kept : List (List Edit)) → keeps kept → LeavesOrOneMore path kept before now)
    → LeavesBut lost path bs before now
left_back false keeps bs path before now kept sound broken = sound refl bs kept
left_back true keeps bs path before now kept sound broken = (kept.0, kept.1, kept.2, broken refl kept.0 kept.3)
