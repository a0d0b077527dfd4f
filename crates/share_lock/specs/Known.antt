-- What contracts know of a handle (`Pass`).
use Rattle.std.specs.Prelude.{ℕ, Bool, false, List, [], ◌∷◌, ◌++◌, length}
use Rattle.share_lock.specs.Histories.{longer}

pub record Known (Entry Settings : Type 0) : Type 0 where
  -- the settings of its lock's state
  pub settings : Settings
  pub number : ℕ
  -- the numbers of the handles that were joined to it, and of those joined to these
  pub taken_in : List ℕ
  -- the history that it has seen
  pub seen : List Entry
  -- the lengths of the history at the ends of its turns
  pub looks : List ℕ
  -- whether a turn of it took the state out for good
  pub is_over : Bool

-- Its own number, and those that it took over by joining.
abbrev pub numbers_of : {E T : Type 0} → Known E T → List ℕ
numbers_of k = k.number ∷ k.taken_in

module _ {E T : Type 0} where
  -- A new handle.
  abbrev pub fresh : ℕ → T → List E → Known E T
  fresh number settings seen = record { settings = settings; number = number; taken_in = []; seen = seen; looks = []; is_over = false }

  -- After a turn that left this history.
  abbrev pub after_turn : Known E T → List E → Known E T
  after_turn k history = record k { seen = history; looks = k.looks ++ length history ∷ [] }

  -- After another handle was joined to it.
  abbrev pub after_join : Known E T → Known E T → Known E T
  after_join k other = record k { taken_in = k.taken_in ++ numbers_of other; seen = longer k.seen other.seen }
