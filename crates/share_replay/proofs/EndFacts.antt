-- The lines at the end of a script, written one by one.
use Rattle.std.proofs.Common.{◌≡◌, ◌+◌, ◌<◌, ◌≤◌, ◌++◌, ℕ, List, [], length, drop, get_or, Option, refl, sym, ap, ◌∙◌, subst, append_assoc, append-nil}
use Rattle.std.proofs.KnownBytes.{Appends-nil, Appends-trans}
use Rattle.std.proofs.lemmas.List.{drop_all, drop_more}
use Rattle.std.specs.Io.KnownBytes.{Appends}
use Rattle.std.specs.Option.{option_and_then}
use Rattle.outside_net.specs.Told.{AppendsPrefix}
use Rattle.reply_bytes.proofs.Cut.{cut_behind}
use Rattle.share_replay.specs.Connections.{Connection, last_end}
use Rattle.share_replay.specs.Ends.{end_line}
use Rattle.share_replay.specs.Machine.{last_lines}
use Rattle.share_replay.proofs.Written.{cut_before}

-- the ends of the first `index` connections were written
pub record HasTold (cs : List (Option Connection)) (index : ℕ) (start now : Option (List ℕ)) : Type 0 where
  pub done : List ℕ
  pub split : last_lines 1 cs ≡ done ++ last_lines (index + 1) (drop index cs)
  pub written : Appends start now done

pub none_told : (cs : List (Option Connection)) (t : Option (List ℕ)) → HasTold cs 0 t t
none_told cs t = record { done = []; split = refl; written = Appends-nil t }

next_line : (cs : List (Option Connection)) (index : ℕ) (slot : Option Connection) → index < length cs → slot ≡ get_or cs index slot
    → last_lines (index + 1) (drop index cs) ≡ end_line (index + 1) (option_and_then last_end slot) ++ last_lines (index + 1 + 1) (drop (index + 1) cs)
next_line cs index slot within is =
    ap (last_lines (index + 1)) (drop_more cs index slot within)
    ∙ ap (λ (c : Option Connection). end_line (index + 1) (option_and_then last_end c) ++ last_lines (index + 1 + 1) (drop (index + 1) cs)) (sym is)

pub one_told : (cs : List (Option Connection)) (index : ℕ) (slot : Option Connection) (start t t' : Option (List ℕ)) → HasTold cs index start t → index < length cs
    → slot ≡ get_or cs index slot → Appends t t' (end_line (index + 1) (option_and_then last_end slot)) → HasTold cs (index + 1) start t'
one_told cs index slot start t t' told within is line = record {
  done = told.done ++ end_line (index + 1) (option_and_then last_end slot);
  split =
      told.split ∙ ap (λ (l : List ℕ). told.done ++ l) (next_line cs index slot within is)
      ∙ sym (append_assoc told.done (end_line (index + 1) (option_and_then last_end slot)) (last_lines (index + 1 + 1) (drop (index + 1) cs)));
  written = Appends-trans start t t' told.done (end_line (index + 1) (option_and_then last_end slot)) told.written line;
}

pub cut_told : (cs : List (Option Connection)) (index : ℕ) (slot : Option Connection) (start t t' : Option (List ℕ)) → HasTold cs index start t → index < length cs
    → slot ≡ get_or cs index slot → AppendsPrefix t t' (end_line (index + 1) (option_and_then last_end slot)) → AppendsPrefix start t' (last_lines 1 cs)
cut_told cs index slot start t t' told within is line =
    subst (AppendsPrefix start t') (sym (told.split ∙ ap (λ (l : List ℕ). told.done ++ l) (next_line cs index slot within is)))
    (cut_behind told.done (end_line (index + 1) (option_and_then last_end slot) ++ last_lines (index + 1 + 1) (drop (index + 1) cs)) start t t' told.written
    (cut_before (end_line (index + 1) (option_and_then last_end slot)) (last_lines (index + 1 + 1) (drop (index + 1) cs)) t t' line))

pub all_told : (cs : List (Option Connection)) (index : ℕ) (start t : Option (List ℕ)) → HasTold cs index start t → length cs ≤ index → Appends start t (last_lines 1 cs)
all_told cs index start t told past =
    subst (Appends start t) (sym (told.split ∙ ap (λ (l : List (Option Connection)). told.done ++ last_lines (index + 1) l) (drop_all index cs past) ∙ append-nil told.done)) told.written
