-- The invariant of a lock's table between any two steps. Its words are the next ticket, the ticket that is served,
-- the length of the history and the next number. Its one slot has the state, except while the handle whose turn it is
-- holds the state.
use Rattle.std.specs.Prelude.{◌≡◌, ℕ, ◌<◌, ◌≤◌, ◌^◌, true, false, List, [], ◌∷◌, ◌++◌, All, Contains, length, Option, Some, None, option_to_list}
use mathlib.Core.List.{IsPrefix}
use mathlib.Core.Option.{some}
use mathlib.Core.Option as maybe
use lib.ListN.{get_elem?}
use Rattle.atomic_table.specs.Table.{State}
use Rattle.share_lock.specs.declared.view.Part.{Part}
use Rattle.share_lock.specs.declared.view.View.{View}
use Rattle.share_lock.specs.Histories.{Continues, AreApart, longer}

-- The state of a lock: its words, with the history instead of its length, and the settings of its state.
pub record Stand (E T : Type 0) : Type 0 where
  pub ticket : ℕ
  pub serving : ℕ
  pub history : List E
  pub named : ℕ
  pub settings : T

abbrev pub nothing : {E : Type 0} → Part E
nothing = record { seen = []; numbers = [] }

-- What each of the two parts had seen is a prefix of `seen`, with no later entry of theirs, and they have no number
-- in common.
pub record IsJoint {E : Type 0} (by : E → ℕ) (one two : Part E) (seen : List E) : Type 0 where
  pub first : Continues by one.numbers one.seen seen
  pub second : Continues by two.numbers two.seen seen
  pub apart : AreApart one.numbers two.numbers

module _ {E T : Type 0} where
  abbrev pub words_of : Stand E T → List ℕ
  words_of z = z.ticket ∷ z.serving ∷ length z.history ∷ z.named ∷ []

  -- A handle's own number, and those that it took over by joining.
  abbrev pub own_numbers : View E T → List ℕ
  own_numbers v = option_to_list v.number ++ v.taken

  abbrev pub part_of : View E T → Part E
  part_of v = record { seen = v.seen; numbers = own_numbers v }

  -- The first handle.
  abbrev pub first_view : ℕ → T → List E → View E T
  first_view passes settings seen = record { settings = settings; passes = passes; ticket = None; inside = false; number = Some 0; taken = []; avoid = []; seen = seen; looks = []; noted = []; one = nothing; two = nothing }

  -- The handle that is split from one, before it has a number.
  abbrev pub newcomer : View E T → View E T
  newcomer v = record { settings = v.settings; passes = v.passes; ticket = None; inside = false; number = None; taken = []; avoid = own_numbers v; seen = v.seen; looks = []; noted = []; one = nothing; two = nothing }

  -- The first of two handles, after the second was joined to it.
  abbrev pub joined : View E T → View E T → View E T
  joined v w = record v { taken = v.taken ++ own_numbers w; seen = longer v.seen w.seen; one = part_of v; two = part_of w }

  -- A handle that was joined to another.
  abbrev pub spent : T → View E T
  spent unset = record { settings = unset; passes = 0; ticket = None; inside = false; number = None; taken = []; avoid = []; seen = []; looks = []; noted = []; one = nothing; two = nothing }

  -- What a handle knows is true.
  pub record Fit (by : E → ℕ) (passes : ℕ) (z : Stand E T) (v : View E T) : Type 0 where
    pub waits : (n : ℕ) → v.ticket ≡ Some n → (z.serving ≤ n) × (n < z.ticket)
    pub inside : v.inside ≡ true → (v.ticket ≡ Some z.serving) × (v.noted ≡ z.history)
    pub about : 1 ≤ v.passes → (v.passes ≡ passes) × (v.settings ≡ z.settings)
    pub front : IsPrefix v.seen z.history
    pub own : v.inside ≡ false → Continues by (own_numbers v) v.seen z.history
    pub small : (n : ℕ) → Contains (own_numbers v) n → n < z.named
    pub avoids : (n : ℕ) → Contains v.avoid n → n < z.named
    pub joint : IsJoint by v.one v.two v.seen

  -- No two views have one thing.
  abbrev pub Differ : (View E T → ℕ → Type 0) → List (View E T) → Type 0
  Differ Has views = (i j : ℕ) (v w : View E T) (n : ℕ) → get_elem? views i ≡ some v → get_elem? views j ≡ some w → Has v n → Has w n → i ≡ j

  abbrev pub HasTicket : View E T → ℕ → Type 0
  HasTicket v n = v.ticket ≡ Some n

  abbrev pub HasNumber : View E T → ℕ → Type 0
  HasNumber v n = Contains (own_numbers v) n

  -- No turn is in progress.
  abbrev pub AllOutside : List (View E T) → Type 0
  AllOutside views = (i : ℕ) (v : View E T) → get_elem? views i ≡ some v → v.inside ≡ false

  -- A view has the thing.
  abbrev pub IsHad : (View E T → ℕ → Type 0) → List (View E T) → ℕ → Type 0
  IsHad Has views n = (i : ℕ) × (v : View E T) × (get_elem? views i ≡ some v) × Has v n

-- No number appears twice.
abbrev pub AreDistinct : List ℕ → Type 0
AreDistinct [] = Unit {0}
AreDistinct (n ∷ ns) = ¬ (Contains ns n) × AreDistinct ns

-- The state is in the slot.
abbrev pub IsHome : {S E T : Type 0} → (S → List E) → (S → T) → List (maybe.Option (Option S)) → Stand E T → Type 0
IsHome {S} entries settings homes z = (x : S) × (homes ≡ some (Some x) ∷ []) × (entries x ≡ z.history) × (settings x ≡ z.settings)

module _ {S E T : Type 0} (entries : S → List E) (by : E → ℕ) (settings : S → T) (passes : ℕ) where
  -- The words, the slot and the views agree.
  pub record Kept (z : Stand E T) (s : State (Option S) (View E T)) : Type 0 where
    pub words : s.words ≡ words_of z
    pub fits : z.ticket < 2 ^ 64
    pub ordered : z.serving ≤ z.ticket
    pub least : 1 ≤ z.named
    pub most : z.named ≤ passes
    pub known : All (λ e. by e < z.named) z.history
    pub each : (i : ℕ) (v : View E T) → get_elem? s.views i ≡ some v → Fit by passes z v
    pub once : Differ HasTicket s.views
    pub apart : Differ HasNumber s.views
    pub home : AllOutside s.views → IsHome entries settings s.homes z

-- Every ticket that is not served yet and every number that was drawn belongs to a view, and a number appears once
-- there.
pub record Held {E T : Type 0} (z : Stand E T) (views : List (View E T)) : Type 0 where
  pub waited : (n : ℕ) → z.serving ≤ n → n < z.ticket → IsHad HasTicket views n
  pub drawn : (n : ℕ) → n < z.named → IsHad HasNumber views n
  pub distinct : (i : ℕ) (v : View E T) → get_elem? views i ≡ some v → AreDistinct (own_numbers v)

module _ {S E T : Type 0} (entries : S → List E) (by : E → ℕ) (settings : S → T) (passes : ℕ) where
  pub record Holds (s : State (Option S) (View E T)) : Type 0 where
    pub stand : Stand E T
    pub kept : Kept entries by settings passes stand s
    pub held : Held stand s.views
